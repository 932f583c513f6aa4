-- The class around matters to classes' bodies and their elements alone: all other records become the same in any class. Assumes nothing.
use Rattle.std.specs.Prelude.{◌≡◌, Bool, true, false, ◌&&◌, ◌||◌, not, cond, List, [], ◌∷◌, ℕ, ◌<◌, eqb, T, length}
use Rattle.std.proofs.Math.Path.{refl, ap, sym}
use Rattle.std.proofs.Common.{◌∙◌, eqb-true, ne_eqb}
use Rattle.std.proofs.Math.Bool.{and-false}
use Rattle.std.proofs.lemmas.Bool.{false≢true}
use Rattle.std.specs.declared.option.Option.{Option}
use Rattle.words.specs.Table.{lookup}
use Rattle.records.specs.Forest.{end, node}
use Rattle.records.specs.Label.{Label, Trees}
use Rattle.records.specs.Place.{records_at, label_at, kids_at}
use Rattle.grammar.specs.Grammar.{Slot, Element, Row, row, no_row, leaf, expressions, one_expression, statements, table, row_of, slots_below, module' as moduleSlot}
use Rattle.grammar.specs.WellFormed.{Allowed, Fits}
use Rattle.grammar.proofs.Rows.{each, each_row, implied, allowed_row, allowed_known}
use Rattle.rewriting.specs.Parts.{Role, module', list, statement, expression, method, constructor, plain, field, role_of, is_decorated_member}
use Rattle.rewriting.specs.Visit.{Result, member_if, member, own, since, work, inside, entering, join, ◌then◌, visit, visit_one, visit_node}
use Rattle.rewriting.specs.declared.Around.{Around}
use Rattle.rewriting.specs.declared.State.{State}
use Rattle.walk_laws.specs.Rows.{visit_at, one_after}
use Rattle.walk_laws.specs.Slots.{Standing, standing_at}
use Rattle.walk_laws.specs.Single.{T_true}
use Rattle.walk_laws.specs.Roles.{role_4, role_20, no_member_lem}
use Rattle.walk_laws.specs.Kinds.{after_rest}
use Rattle.walk_laws.specs.Quiet.{quiet, Quiet, has_class, quiet_below, quiet_member}

-- ---- one record

member_if_same : (x y : Bool) (a b : Around) (l : Label) (kids bare entries : Trees) (d : Label) (r : Result) → x ≡ false → y ≡ false →
    member_if x a l kids bare entries d r ≡ member_if y b l kids bare entries d r
unfolding member_if
member_if_same x y a b l kids bare entries d r e g = rw (e, g)

own_same : (r : Role) (a b : Around) (l : Label) (kids : Trees) (outside : Option ℕ) (x : Result) → is_decorated_member l kids ≡ false → own r a l kids outside x ≡ own r b l kids outside x
unfolding own member
own_same module' a b l kids outside x n = refl
own_same list a b l kids outside x n = refl
own_same statement a b l kids outside x n = refl
own_same expression a b l kids outside x n = refl
own_same method a b l kids outside x n =
    member_if_same _ _ a b l kids _ _ _ x (ap (a.live &&◌) n ∙ and-false a.live) (ap (b.live &&◌) n ∙ and-false b.live)
own_same constructor a b l kids outside x n = refl
own_same plain a b l kids outside x n = refl
own_same (field d) a b l kids outside x n =
    member_if_same _ _ a b l kids _ _ _ x (ap (a.live &&◌) n ∙ and-false a.live) (ap (b.live &&◌) n ∙ and-false b.live)

pub one_same : (a b : Around) (l : Label) (k : Trees) (s : State) → is_decorated_member l k ≡ false → ((x y : Around) (t : State) → visit x k t ≡ visit y k t) → visit_one a l k s ≡ visit_one b l k s
unfolding visit_one work
one_same a b l k s n q =
    ap (λ (r : Result). since (role_of l) l (own (role_of l) a l k s.default r) r) (q (inside (role_of l) a k) (inside (role_of l) b k) (entering (role_of l) s))
    ∙ ap (λ (r : Result). since (role_of l) l r (visit (inside (role_of l) b k) k (entering (role_of l) s))) (own_same (role_of l) a b l k s.default _ n)

statement_same : (a b : Around) (l : Label) (k : Trees) (s : State) → role_of l ≡ statement → visit_one a l k s ≡ visit_one b l k s
unfolding visit_one work own inside
statement_same a b l k s e = rw e

expression_same : (a b : Around) (l : Label) (k : Trees) (s : State) → role_of l ≡ expression → visit_one a l k s ≡ visit_one b l k s
unfolding visit_one work own inside
expression_same a b l k s e = rw e

class_same : (a b : Around) (l : Label) (k : Trees) (s : State) → has_class l.kind ≡ true → visit_one a l k s ≡ visit_one b l k s
unfolding has_class
class_same a b l k s h = go (eqb l.kind 4) refl (eqb l.kind 20) refl h
  where
    go : (x : Bool) → eqb l.kind 4 ≡ x → (y : Bool) → eqb l.kind 20 ≡ y → (x || y) ≡ true → visit_one a l k s ≡ visit_one b l k s
    go true e y f t = statement_same a b l k s (role_4 l (eqb-true l.kind 4 e))
    go false e true f t = expression_same a b l k s (role_20 l (eqb-true l.kind 20 f))
    go false e false f t = absurd (false≢true t)

-- ---- records

pub then_same : (x : Result) (f g : State → Result) → ((t : State) → f t ≡ g t) → (x then f) ≡ (x then g)
unfolding ◌then◌
then_same x f g e = ap (join x) (e x.after)

pub node_same : (a b : Around) (l : Label) (k r : Trees) (s : State) → visit_one a l k s ≡ visit_one b l k s → ((t : State) → visit a r t ≡ visit b r t) → visit a (node l k r) s ≡ visit b (node l k r) s
node_same a b l k r s e f =
    visit_node a l k r s
    ∙ ap (λ (x : Result). x then λ t. visit a r t) e
    ∙ then_same (visit_one b l k s) (λ t. visit a r t) (λ t. visit b r t) f
    ∙ sym (visit_node b l k r s)

pub first_same : (q : Slot) (a b : Around) (l : Label) (k : Trees) (s : State) → Allowed q l → T (quiet q.category) →
    (Quiet (slots_below q l.kind l.payload) → (x y : Around) (t : State) → visit x k t ≡ visit y k t) → visit_one a l k s ≡ visit_one b l k s
first_same q a b l k s w t below = go (has_class l.kind) refl
  where
    c : quiet (row_of l.kind).category ≡ true
    c = ap quiet (allowed_row q l.kind l.payload w.grammar).0 ∙ T_true (quiet q.category) t

    go : (x : Bool) → has_class l.kind ≡ x → visit_one a l k s ≡ visit_one b l k s
    go true e = class_same a b l k s e
    go false e = one_same a b l k s (no_member_lem l k (quiet_member l c)) (below (quiet_below q l.kind l.payload (ap (◌|| eqb (row_of l.kind).category Element) c) (ap not e)))

pub visit_same : (f : Trees) (qs : List Slot) (a b : Around) (s : State) → Fits qs f → Quiet qs → visit a f s ≡ visit b f s
unfolding Fits Quiet
visit_same end [] a b s f g = unfold visit in refl
visit_same end (q ∷ qs) a b s f g = absurd f
visit_same (node l k r) [] a b s f g = absurd f
visit_same (node l k r) (q ∷ qs) a b s f g =
    node_same a b l k r s (first_same q a b l k s f.0 g.0 λ h x y t. visit_same k (slots_below q l.kind l.payload) x y t f.1 h)
    λ t. visit_same r qs a b t f.2 g.1

-- ---- by place

-- every known kind but a class's and a body's
unfoldable apart : ℕ → Row → Bool
apart k r = cond (not (eqb r.category 0)) (cond (not (eqb k 26 || eqb k 29)) (quiet r.category || eqb r.category Element) true) true

apart_kind : (k : ℕ) → ((row_of k).category ≡ 0 → ⊥) → (k ≡ 26 → ⊥) → (k ≡ 29 → ⊥) → (quiet (row_of k).category || eqb (row_of k).category Element) ≡ true
unfolding each table row no_row leaf expressions one_expression statements apart quiet lookup
apart_kind k known a26 a29 =
    T_true _ (implied _ _ (implied _ _ (each_row apart tt k tt) (ap not (ne_eqb (row_of k).category 0 known)))
    (ap not (ap (◌|| eqb k 29) (ne_eqb k 26 a26) ∙ ne_eqb k 29 a29)))

has_class_lem : (k j : ℕ) → has_class k ≡ false → has_class j ≡ true → k ≡ j → ⊥
has_class_lem k j e t g = false≢true (sym e ∙ ap has_class g ∙ t)

module _ (ws : List ℕ) (whole : Fits (moduleSlot ∷ []) (records_at ws 0)) (at : ℕ) (h : at < length ws) where
  t : Standing ws at
  t = standing_at ws (moduleSlot ∷ []) whole at h

  known : (row_of (label_at ws at).kind).category ≡ 0 → ⊥
  known = allowed_known t.slot (label_at ws at).kind (label_at ws at).payload t.own.grammar

  -- what stands below any other record than a class, a body or a class statement or expression
  pub kids_same : (a b : Around) (s : State) → ((label_at ws at).kind ≡ 26 → ⊥) → ((label_at ws at).kind ≡ 29 → ⊥) → has_class (label_at ws at).kind ≡ false → visit a (kids_at ws at) s ≡ visit b (kids_at ws at) s
  kids_same a b s a26 a29 c =
      visit_same (kids_at ws at) (slots_below t.slot (label_at ws at).kind (label_at ws at).payload) a b s t.kids
      (quiet_below t.slot (label_at ws at).kind (label_at ws at).payload (apart_kind (label_at ws at).kind known a26 a29) (ap not c))

  -- the state behind it
  pub after_same : (a b : Around) (s : State) → ((label_at ws at).kind ≡ 26 → ⊥) → ((label_at ws at).kind ≡ 29 → ⊥) → ((label_at ws at).kind ≡ 30 → ⊥) → ((label_at ws at).kind ≡ 31 → ⊥) →
      ((label_at ws at).kind ≡ 32 → ⊥) → (visit_at ws at 1 a s).after ≡ (visit_at ws at 1 b s).after
  after_same a b s a26 a29 a30 a31 a32 = one_after ws a at s h ∙ go (has_class (label_at ws at).kind) refl ∙ sym (one_after ws b at s h)
    where
      l : Label
      l = label_at ws at

      go : (x : Bool) → has_class l.kind ≡ x → (visit_one a l (kids_at ws at) s).after ≡ (visit_one b l (kids_at ws at) s).after
      go true e = ap (λ (r : Result). r.after) (class_same a b l (kids_at ws at) s e)
      go false e =
          let n4 : l.kind ≡ 4 → ⊥ = has_class_lem l.kind 4 e (unfold has_class in refl) in
          let n20 : l.kind ≡ 20 → ⊥ = has_class_lem l.kind 20 e (unfold has_class in refl) in
          after_rest l a (kids_at ws at) s n4 n20 a30 a31 a32
          ∙ ap (λ (r : Result). r.after) (kids_same a b s a26 a29 e)
          ∙ sym (after_rest l b (kids_at ws at) s n4 n20 a30 a31 a32)
