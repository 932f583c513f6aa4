-- No calls are queued where no member stands: members stand only in bodies, and bodies only in classes. Assumes nothing.
use Rattle.std.specs.Prelude.{◌≡◌, Bool, true, false, ◌&&◌, ◌||◌, not, cond, List, [], ◌∷◌, ◌++◌, ℕ, zero, suc, eqb, T, replicate}
use Rattle.std.proofs.Math.Path.{refl}
use Rattle.std.proofs.Common.{ap, ◌∙◌, true≢false, eqb-true, eq-eqb}
use Rattle.std.proofs.Math.Bool.{and-false}
use Rattle.std.proofs.lemmas.Bool.{false≢true, not-true}
use Rattle.std.specs.declared.option.Option.{Option}
use Rattle.words.specs.Table.{lookup}
use Rattle.records.specs.Forest.{end, node, take_f, append_f}
use Rattle.records.specs.Label.{Label, Origin, Trees, ◌∶◌, is}
use Rattle.records.specs.Place.{records_at, label_at, kids_at}
use Rattle.grammar.specs.Grammar.{Slot, Class, Body, Element, Run, Row, row, no_row, leaf, expressions, one_expression, statements, table, row_of, slots, slots_below}
use Rattle.grammar.specs.WellFormed.{Allowed, Fits}
use Rattle.grammar.proofs.Rows.{each, each_row, test_left, test_right, implied, allowed_row}
use Rattle.rewriting.specs.Parts.{Role, module', list, statement, expression, method, constructor, plain, field, role_of, decorators, decorators_of, bare_method, bare_field, is_member, is_decorated_member, is_decorated, is_live, class_kids}
use Rattle.rewriting.specs.Visit.{Result, member_if, member, decorated₁, decorated₂, live_class_if, live_class, dead_class, class_if, kept, own, since, work, inside, entering, join, ◌then◌, visit, visit_one, visit_node}
use Rattle.rewriting.specs.declared.Around.{Around}
use Rattle.rewriting.specs.declared.State.{State}
use Rattle.walk_laws.specs.Rows.{visit_at}
use Rattle.walk_laws.specs.Slots.{Standing, RowFits}
use Rattle.walk_laws.specs.Single.{T_true}
use Rattle.walk_laws.specs.Roles.{role_4, role_20, no_member_lem}

-- ---- slots below which no member stands, but in classes of their own

-- 0 is no category
unfoldable pub quiet : ℕ → Bool
quiet c = lookup c ((0, false) ∷ (Class, false) ∷ (Body, false) ∷ (Element, false) ∷ []) true

unfoldable pub Quiet : List Slot → Type 0
Quiet [] = Unit {0}
Quiet (q ∷ qs) = T (quiet q.category) × Quiet qs

unfoldable quiet_runs : List Run → Bool
quiet_runs [] = true
quiet_runs (r ∷ rs) = cond (quiet r.slot.category) (quiet_runs rs) false

pub quiet_replicate : (n : ℕ) (q : Slot) (qs : List Slot) → T (quiet q.category) → Quiet qs → Quiet (replicate n q ++ qs)
unfolding Quiet
quiet_replicate zero q qs t g = g
quiet_replicate (suc n) q qs t g = (t, quiet_replicate n q qs t g)

quiet_slots : (rs : List Run) → T (quiet_runs rs) → Quiet (slots rs)
unfolding quiet_runs slots Quiet
quiet_slots [] t = tt
quiet_slots (r ∷ rs) t =
    quiet_replicate r.count r.slot (slots rs) (test_left (quiet r.slot.category) (quiet_runs rs) t)
    (quiet_slots rs (test_right (quiet r.slot.category) (quiet_runs rs) t))

-- a class has its own calls
unfoldable pub has_class : ℕ → Bool
has_class k = eqb k 4 || eqb k 20

-- what stands below a record in such a slot, or below an element
unfoldable quiet_row : ℕ → ℕ → ℕ → Row → Bool
quiet_row x p k r = cond ((quiet r.category || eqb r.category Element) && not (has_class k)) (quiet_runs (r.below x p)) true

pub quiet_below : (q : Slot) (k p : ℕ) → (quiet (row_of k).category || eqb (row_of k).category Element) ≡ true → not (has_class k) ≡ true → Quiet (slots_below q k p)
unfolding slots_below each table row no_row leaf expressions one_expression statements quiet_row quiet_runs quiet has_class lookup
quiet_below q k p e n =
    quiet_slots ((row_of k).below q.context p)
    (implied _ (quiet_runs ((row_of k).below q.context p)) (each_row (quiet_row q.context p) tt k tt) (ap (◌&& not (has_class k)) e ∙ n))

unfoldable no_member : ℕ → Origin → ℕ → Row → Bool
no_member p o k r = cond (quiet r.category) (not (is_member (record { kind = k; payload = p; from = o }))) true

pub quiet_member : (l : Label) → quiet (row_of l.kind).category ≡ true → is_member l ≡ false
unfolding each table row no_row no_member quiet is_member is lookup
quiet_member l e = not-true (is_member l) (T_true (not (is_member l)) (implied (quiet (row_of l.kind).category) (not (is_member l)) (each_row (no_member l.payload l.from) tt l.kind tt) e))

unfoldable no_class : ℕ → Row → Bool
no_class k r = cond (eqb r.category Element) (not (has_class k)) true

pub element_class : (k : ℕ) → (row_of k).category ≡ Element → not (has_class k) ≡ true
unfolding each table row no_row no_class has_class
element_class k e = T_true (not (has_class k)) (implied (eqb (row_of k).category Element) (not (has_class k)) (each_row no_class tt k tt) (eq-eqb (row_of k).category Element e))

-- ---- calls by role

live_if_calls : (b : Bool) (rk : Trees) (l c : Label) (ck calls : Trees) (s : State) (outside : Option ℕ) → (live_class_if b rk l c ck calls s outside).calls ≡ end
unfolding live_class_if decorated₁ decorated₂
live_if_calls true rk l c ck calls s outside = refl
live_if_calls false rk l c ck calls s outside = refl

live_calls : (rk : Trees) (l : Label) (cls calls : Trees) (s : State) (outside : Option ℕ) → (live_class rk l cls calls s outside).calls ≡ end
unfolding live_class
live_calls rk l end calls s outside = refl
live_calls rk l (node c ck rest) calls s outside = live_if_calls (is_decorated rk) rk l c ck calls s outside

class_if_calls : (b : Bool) (l : Label) (kids : Trees) (outside : Option ℕ) (a : Result) → (class_if b l kids outside a).calls ≡ end
unfolding class_if dead_class
class_if_calls true l kids outside a = live_calls (class_kids kids) l a.here a.calls a.after outside
class_if_calls false l kids outside a = refl

member_if_calls : (b : Bool) (around : Around) (l : Label) (kids bare entries : Trees) (d : Label) (a : Result) → b ≡ false → (member_if b around l kids bare entries d a).calls ≡ a.calls
unfolding member_if
member_if_calls true around l kids bare entries d a e = absurd (true≢false e)
member_if_calls false around l kids bare entries d a e = refl

-- a record that is no decorated member queues nothing if its children don't
own_calls : (r : Role) (around : Around) (l : Label) (kids : Trees) (outside : Option ℕ) (a : Result) → is_decorated_member l kids ≡ false → a.calls ≡ end → (own r around l kids outside a).calls ≡ end
unfolding own kept dead_class member
own_calls module' around l kids outside a n e = e
own_calls list around l kids outside a n e = e
own_calls statement around l kids outside a n e = class_if_calls (is_live kids) l kids outside a
own_calls expression around l kids outside a n e = refl
own_calls method around l kids outside a n e =
    member_if_calls (around.live && is_decorated_member l kids) around l kids (bare_method a.here) (decorators_of method a.here) (13 ∶ 0) a (ap (around.live &&◌) n ∙ and-false around.live) ∙ e
own_calls constructor around l kids outside a n e = e
own_calls plain around l kids outside a n e = e
own_calls (field d) around l kids outside a n e =
    member_if_calls (around.live && is_decorated_member l kids) around l kids (bare_field a.here) (decorators a.here) d a (ap (around.live &&◌) n ∙ and-false around.live) ∙ e

pub one_quiet : (around : Around) (l : Label) (k : Trees) (s : State) → is_decorated_member l k ≡ false → ((a : Around) (t : State) → (visit a k t).calls ≡ end) → (visit_one around l k s).calls ≡ end
unfolding visit_one work since
one_quiet around l k s n q =
    own_calls (role_of l) around l k s.default (visit (inside (role_of l) around k) k (entering (role_of l) s)) n (q (inside (role_of l) around k) (entering (role_of l) s))

-- a class's calls go no further
module _ (around : Around) (l : Label) (k : Trees) (s : State) where
  pub statement_calls : role_of l ≡ statement → (visit_one around l k s).calls ≡ end
  unfolding visit_one work since own
  statement_calls e = rw e (class_if_calls (is_live k) l k s.default (visit (inside statement around k) k (entering statement s)))

  pub expression_calls : role_of l ≡ expression → (visit_one around l k s).calls ≡ end
  unfolding visit_one work since own dead_class
  expression_calls e = rw e

class_quiet : (around : Around) (l : Label) (k : Trees) (s : State) → has_class l.kind ≡ true → (visit_one around l k s).calls ≡ end
unfolding has_class
class_quiet around l k s h = go (eqb l.kind 4) refl (eqb l.kind 20) refl h
  where
    go : (x : Bool) → eqb l.kind 4 ≡ x → (y : Bool) → eqb l.kind 20 ≡ y → (x || y) ≡ true → (visit_one around l k s).calls ≡ end
    go true e y f t = statement_calls around l k s (role_4 l (eqb-true l.kind 4 e))
    go false e true f t = expression_calls around l k s (role_20 l (eqb-true l.kind 20 f))
    go false e false f t = absurd (false≢true t)

-- ---- records in such slots

node_quiet : (around : Around) (l : Label) (k r : Trees) (s : State) → (visit_one around l k s).calls ≡ end → (visit around r (visit_one around l k s).after).calls ≡ end → (visit around (node l k r) s).calls ≡ end
unfolding ◌then◌ join append_f
node_quiet around l k r s e f = ap (λ (a : Result). a.calls) (visit_node around l k r s) ∙ ap (λ (g : Trees). append_f g (visit around r (visit_one around l k s).after).calls) e ∙ f

first_quiet : (q : Slot) (around : Around) (l : Label) (k : Trees) (s : State) → Allowed q l → T (quiet q.category) →
    (Quiet (slots_below q l.kind l.payload) → (a : Around) (t : State) → (visit a k t).calls ≡ end) → (visit_one around l k s).calls ≡ end
first_quiet q around l k s a t below = go (has_class l.kind) refl
  where
    c : quiet (row_of l.kind).category ≡ true
    c = ap quiet (allowed_row q l.kind l.payload a.grammar).0 ∙ T_true (quiet q.category) t

    go : (b : Bool) → has_class l.kind ≡ b → (visit_one around l k s).calls ≡ end
    go true e = class_quiet around l k s e
    go false e = one_quiet around l k s (no_member_lem l k (quiet_member l c)) (below (quiet_below q l.kind l.payload (ap (◌|| eqb (row_of l.kind).category Element) c) (ap not e)))

pub visit_quiet : (f : Trees) (qs : List Slot) (around : Around) (s : State) → Fits qs f → Quiet qs → (visit around f s).calls ≡ end
unfolding Fits Quiet
visit_quiet end [] around s f g = unfold visit in refl
visit_quiet end (q ∷ qs) around s f g = absurd f
visit_quiet (node l k r) [] around s f g = absurd f
visit_quiet (node l k r) (q ∷ qs) around s f g =
    node_quiet around l k r s (first_quiet q around l k s f.0 g.0 λ h a t. visit_quiet k (slots_below q l.kind l.payload) a t f.1 h)
    (visit_quiet r qs around (visit_one around l k s).after f.2 g.1)

module _ (ws : List ℕ) where
  pub row_quiet : (at k : ℕ) (qs : List Slot) (around : Around) (s : State) → RowFits ws at k qs → Quiet qs → (visit_at ws at k around s).calls ≡ end
  unfolding RowFits visit_at
  row_quiet at k qs around s f g = visit_quiet (take_f k (records_at ws at)) qs around s f g

  -- the children of an element
  pub element_quiet : (at : ℕ) (t : Standing ws at) (around : Around) (s : State) → (row_of (label_at ws at).kind).category ≡ Element → (visit around (kids_at ws at) s).calls ≡ end
  element_quiet at t around s e =
      visit_quiet (kids_at ws at) (slots_below t.slot (label_at ws at).kind (label_at ws at).payload) around s t.kids
      (quiet_below t.slot (label_at ws at).kind (label_at ws at).payload (rw e (unfold quiet lookup in refl)) (element_class (label_at ws at).kind e))
