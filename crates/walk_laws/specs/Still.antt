-- Records that become what they are: where no module, decorated class or decorated member stands, the visit leaves every word as it was read. Assumes nothing.
use Rattle.std.specs.Prelude.{◌≡◌, Bool, ◌&&◌, ◌||◌, List, [], ◌∷◌, eqb}
use Rattle.std.proofs.Math.Path.{refl, ap, sym, subst}
use Rattle.std.proofs.Common.{◌∙◌, true≢false}
use Rattle.std.proofs.Math.Bool.{true, false, not, cond, and-false, or-false}
use Rattle.std.specs.declared.option.Option.TheVariants.{None as none}
use Prim.Native.Nat.{ℕ, zero, suc, ◌+◌, ◌-◌, ◌<◌, ◌≤◌}
use native.Mathlib.Omega.{arith}
use Rattle.std.proofs.Math.Dec.{ltb}
use Rattle.std.proofs.Math.ListN.{length}
use borrow.Author.Tests.{eqb-true, eq-eqb, ne_eqb, ltb-true, ltb-false}
use Rattle.words.specs.Table.{lookup}
use Rattle.words.specs.Word.{bit1, children, child_table}
use Rattle.records.specs.Forest.{end, node, flat, size, take_f, drop_f, append_f, count_f, take_f_end}
use Rattle.records.specs.Label.{Label, Trees, repay, is, bit, ◌∶◌}
use Rattle.records.specs.Place.{records_at, label_at, arity_at, kids_at, end_of, records_past, record_one, row_open, row_kids, size_open}
use Rattle.grammar.specs.Grammar.{Slot, module' as moduleSlot, class_under, slots_below}
use Rattle.grammar.specs.WellFormed.{Allowed, Fits}
use Rattle.grammar.proofs.Children.{allowed_sole}
use Rattle.grammar.proofs.Rows.{length_below, sole_kind}
use Rattle.rewriting.specs.Parts.{Role, module', list, statement, expression, method, constructor, plain, field, role_of, tree, recount, is_empty, kids_of, change_kids, any_record, decorators, undecorate, parameters_of, indexed, of_parameters, bare_parameters, decorators_of, bare_method, bare_field, is_member, is_decorated_member, is_decorated, is_live, id_of, class_kids}
use Rattle.rewriting.specs.Visit.{Result, signed, member, member_if, undecorated_if, live_class_if, live_class, dead_class, class_if, kept, own, since, signed_by, work, inside, entering, join, ◌then◌, visit, visit_one, visit_node}
use Rattle.rewriting.specs.declared.Around.{Around}
use Rattle.rewriting.specs.declared.State.{State}
use Rattle.walk_laws.specs.Slots.{fits_count, Standing, standing_at}
use Rattle.walk_laws.specs.Rows.{visit_at}
use Rattle.walk_laws.specs.Roles.{role_4, role_20, role_30, role_31, role_32}
use Rattle.walk_laws.specs.Kinds.{below_4}
use Rattle.walk_laws.specs.Around.{then_same}
use Rattle.walk_laws.specs.Written.{word_by, written, written_append, written_node}

-- a record that may change: a module, a decorated class, a decorated member
unfoldable pub changes : Label → Trees → Bool
changes l k = is 1 l || (is 26 l && is_decorated k) || is_decorated_member l k

-- what is asked of a record for it to stay as it is, where all in it does
unfoldable StillOne : Role → Label → Trees → Type 0
StillOne plain l k = Unit {0}
StillOne constructor l k = Unit {0}
StillOne expression l k = Unit {0}
StillOne list l k = l.payload ≡ count_f k
StillOne statement l k = (is_decorated (class_kids k) ≡ false) × (count_f k ≡ 1)
StillOne method l k = (is_decorated_member l k ≡ false) × (bare_method k ≡ k)
StillOne (field d) l k = (is_decorated_member l k ≡ false) × (bare_field k ≡ k)
StillOne module' l k = ⊥

unfoldable Still : Trees → Type 0
Still end = Unit {0}
Still (node l k r) = StillOne (role_of l) l k × Still k × Still r

-- ---- the visit

unfoldable same : Trees → State → Result
same f s = record { here = f; calls = end; fresh = []; after = s }

pub repaid : (l : Label) (n : ℕ) → l.payload ≡ n → repay l n ≡ l
unfolding repay
repaid l n e = ap (λ (p : ℕ). record { kind = l.kind; payload = p; from = l.from }) (sym e)

class_still : (b : Bool) (l : Label) (k : Trees) (s : State) → is_decorated (class_kids k) ≡ false → count_f k ≡ 1 →
    class_if b l k s.default (same k (record { next = s.next; default = none })) ≡ same (tree l k) s
unfolding class_if live_class dead_class same class_kids count_f
class_still b l end s h n = absurd (omega (arith, n))
class_still b l (node c ck (node x xk r)) s h n = absurd (omega (arith, n))
class_still true l (node c ck end) s h n = rw h (unfold live_class_if undecorated_if is_empty tree in refl)
class_still false l (node c ck end) s h n = refl

member_still : (around : Around) (l : Label) (k bare entries : Trees) (d : Label) (s : State) → is_decorated_member l k ≡ false → bare ≡ k →
    member around l k bare entries d (same k s) ≡ same (tree l k) s
unfolding member member_if same
member_still around l k bare entries d s h e = rw (h, and-false around.live, e)

own_still : (r : Role) (around : Around) (l : Label) (k : Trees) (s : State) → StillOne r l k → ((a : Around) (t : State) → visit a k t ≡ same k t) →
    work r around l k s.default (visit (inside r around k) k (entering r s)) ≡ same (tree l k) s
unfolding StillOne same work since own kept inside entering signed_by recount
own_still plain around l k s h v = rw (v around s)
own_still constructor around l k s h v = rw (v around s)
own_still list around l k s h v = rw (v around s, repaid l (count_f k) h)
own_still expression around l k s h v = rw (v (record { live = false; id = none }) (record { next = s.next; default = none })) (unfold dead_class in refl)
own_still statement around l k s h v =
    rw (v (record { live = is_live k; id = id_of (class_kids k) }) (record { next = s.next; default = none }))
    (ap (λ (r : Result). since statement l r (same k (record { next = s.next; default = none }))) (class_still (is_live k) l k s h.0 h.1) ∙ (unfold since signed_by signed same in refl))
own_still method around l k s h v =
    rw (v around s) (ap (λ (r : Result). since method l r (same k s)) (member_still around l k (bare_method k) (decorators_of method k) (13 ∶ 0) s h.0 h.1) ∙ (unfold since signed_by same in refl))
own_still (field d) around l k s h v =
    rw (v around s) (ap (λ (r : Result). since (field d) l r (same k s)) (member_still around l k (bare_field k) (decorators k) d s h.0 h.1) ∙ (unfold since signed_by same in refl))
own_still module' around l k s h v = absurd h

joined : (l : Label) (k r : Trees) (s : State) → (same (tree l k) s then λ t. same r t) ≡ same (node l k r) s
unfolding same ◌then◌ join tree append_f
joined l k r s = refl

visit_one_lem : (around : Around) (l : Label) (k : Trees) (s : State) → visit_one around l k s ≡ work (role_of l) around l k s.default (visit (inside (role_of l) around k) k (entering (role_of l) s))
unfolding visit_one
visit_one_lem around l k s = refl

still_visit : (f : Trees) → Still f → (around : Around) (s : State) → visit around f s ≡ same f s
unfolding Still
still_visit end h around s = unfold visit same in refl
still_visit (node l k r) h around s =
    visit_node around l k r s
    ∙ ap (λ (x : Result). x then λ t. visit around r t) (visit_one_lem around l k s ∙ own_still (role_of l) around l k s h.0 (still_visit k h.1))
    ∙ then_same (same (tree l k) s) (λ t. visit around r t) (λ t. same r t) (still_visit r h.2 around)
    ∙ joined l k r s

-- ---- records without decorators

-- the payload of every 28 counts its children
unfoldable Counted : Trees → Type 0
Counted end = Unit {0}
Counted (node l k r) = (l.kind ≡ 28 → l.payload ≡ count_f k) × Counted k × Counted r

pub empty_end : (f : Trees) → is_empty f ≡ true → f ≡ end
unfolding is_empty
empty_end end e = refl
empty_end (node l k r) e = absurd (true≢false (sym e))

pub empty_append : (f g : Trees) → is_empty (append_f f g) ≡ true → (is_empty f ≡ true) × (is_empty g ≡ true)
unfolding is_empty append_f
empty_append end g e = (refl, e)
empty_append (node l k r) g e = absurd (true≢false (sym e))

pub empty_indexed : (i : ℕ) (f : Trees) → is_empty (indexed i f) ≡ true → is_empty f ≡ true
unfolding is_empty indexed
empty_indexed i end e = refl
empty_indexed i (node l k r) e = absurd (true≢false (sym e))

counted_28 : (l : Label) (k r : Trees) → Counted (node l k r) → is 28 l ≡ true → l.payload ≡ count_f k
unfolding Counted is
counted_28 l k r c t = c.0 (eqb-true l.kind 28 t)

undecorate_still : (f : Trees) → Counted f → is_empty (decorators f) ≡ true → undecorate f ≡ f
unfolding undecorate decorators
undecorate_still end c e = refl
undecorate_still (node l k r) c e = go (is 28 l) refl e
  where
    none : k ≡ end → is 28 l ≡ true → l.payload ≡ 0
    none n t = counted_28 l k r c t ∙ ap count_f n ∙ (unfold count_f in refl)

    go : (b : Bool) → is 28 l ≡ b → is_empty (cond b k end) ≡ true → cond b (node (repay l 0) end r) (node l k r) ≡ node l k r
    go true t z = let n : k ≡ end = empty_end k z in ap (λ (m : Label). node m end r) (repaid l 0 (none n t)) ∙ ap (λ (f : Trees). node l f r) (sym n)
    go false t z = refl

bare_still : (i : ℕ) (f : Trees) → Counted f → is_empty (of_parameters i f) ≡ true → bare_parameters f ≡ f
unfolding bare_parameters of_parameters Counted
bare_still i end c e = refl
bare_still i (node l k r) c e =
    let p = empty_append (indexed i (decorators k)) (of_parameters (suc i) r) e in
    rw (undecorate_still k c.1 (empty_indexed i (decorators k) p.0), bare_still (suc i) r c.2 p.1)

kids_still : (f : Trees) → Counted f → is_empty (of_parameters 0 (kids_of 36 f)) ≡ true → change_kids 36 bare_parameters f ≡ f
unfolding change_kids kids_of Counted
kids_still end c e = refl
kids_still (node l k r) c e = go (is 36 l) e (kids_still r c.2)
  where
    go : (b : Bool) → is_empty (of_parameters 0 (cond b k (kids_of 36 r))) ≡ true → (is_empty (of_parameters 0 (kids_of 36 r)) ≡ true → change_kids 36 bare_parameters r ≡ r) →
        cond b (node l (bare_parameters k) r) (node l k (change_kids 36 bare_parameters r)) ≡ node l k r
    go true z later = rw (bare_still 0 k c.1 z)
    go false z later = rw (later z)

method_still : (f : Trees) → Counted f → is_empty (decorators_of method f) ≡ true → bare_method f ≡ f
unfolding bare_method decorators_of parameters_of
method_still f c e =
    let p = empty_append (decorators f) (of_parameters 0 (kids_of 36 f)) e in
    rw (kids_still f c p.1) (undecorate_still f c p.0)

-- ---- by what may change

or_none : (a b : Bool) → (a || b) ≡ false → (a ≡ false) × (b ≡ false)
or_none true b e = absurd (true≢false e)
or_none false b e = (refl, e)

not_none : (b : Bool) → not b ≡ false → b ≡ true
not_none true e = refl
not_none false e = absurd (true≢false e)

many_3 : (p : ℕ) → children 3 p ≡ p
unfolding children child_table lookup
many_3 p = refl

pub many_28 : (p : ℕ) → children 28 p ≡ p
unfolding children child_table lookup
many_28 p = refl

many_33 : (p : ℕ) → children 33 p ≡ p
unfolding children child_table lookup
many_33 p = refl

many_39 : (p : ℕ) → children 39 p ≡ p
unfolding children child_table lookup
many_39 p = refl

one_4 : (p : ℕ) → children 4 p ≡ 1
unfolding children child_table lookup
one_4 p = refl

other_role : (l : Label) (k : Trees) → eqb l.kind 1 ≡ false → eqb l.kind 4 ≡ false → eqb l.kind 20 ≡ false → eqb l.kind 30 ≡ false → eqb l.kind 31 ≡ false →
    eqb l.kind 32 ≡ false → count_f k ≡ children l.kind l.payload → StillOne (role_of l) l k
other_role l k e1 e4 e20 e30 e31 e32 n =
    let r : role_of l ≡ cond (eqb l.kind 3) list (cond (eqb l.kind 33) list (cond (eqb l.kind 39) list plain)) = unfold role_of lookup in rw (e1, e4, e20, e30, e31, e32) in
    subst (λ (x : Role). StillOne x l k) (sym r) (go (eqb l.kind 3) refl (eqb l.kind 33) refl (eqb l.kind 39) refl)
  where
    counted : (j : ℕ) → children j l.payload ≡ l.payload → l.kind ≡ j → StillOne list l k
    counted j c e = unfold StillOne in sym (n ∙ ap (λ (m : ℕ). children m l.payload) e ∙ c)

    go : (a : Bool) → eqb l.kind 3 ≡ a → (b : Bool) → eqb l.kind 33 ≡ b → (c : Bool) → eqb l.kind 39 ≡ c → StillOne (cond a list (cond b list (cond c list plain))) l k
    go true x b y c z = counted 3 (many_3 l.payload) (eqb-true _ 3 x)
    go false x true y c z = counted 33 (many_33 l.payload) (eqb-true _ 33 y)
    go false x false y true z = counted 39 (many_39 l.payload) (eqb-true _ 39 z)
    go false x false y false z = unfold StillOne in tt

-- a member, by its role
pub member_role_lem : (l : Label) (k : Trees) (r : Role) → role_of l ≡ r → is_member l ≡ true → is_decorated_member l k ≡ false → is_empty (decorators_of r k) ≡ true
unfolding is_decorated_member
member_role_lem l k r e m h = not_none _ (rw (m, e) at h)

-- a class that doesn't change isn't decorated
plain_class : (c : Label) (ck : Trees) → c.kind ≡ 26 → changes c ck ≡ false → is_decorated ck ≡ false
unfolding changes is
plain_class c ck e h =
    let a = or_none (eqb c.kind 1 || (eqb c.kind 26 && is_decorated ck)) (is_decorated_member c ck) h in
    let b = or_none (eqb c.kind 1) (eqb c.kind 26 && is_decorated ck) a.0 in
    rw (eq-eqb c.kind 26 e) at b.1

plain_one : (p : ℕ) (k : Trees) → Fits (class_under p ∷ []) k → any_record changes k ≡ false → is_decorated (class_kids k) ≡ false
unfolding Fits any_record class_kids sole_kind lookup
plain_one p end f h = absurd f
plain_one p (node c ck r) f h =
    let a = or_none (changes c ck || any_record changes ck) (any_record changes r) h in
    let b = or_none (changes c ck) (any_record changes ck) a.0 in
    plain_class c ck (allowed_sole (class_under p) c f.0 tt) b.0

class_plain : (q : Slot) (l : Label) (k : Trees) → l.kind ≡ 4 → Fits (slots_below q l.kind l.payload) k → any_record changes k ≡ false → is_decorated (class_kids k) ≡ false
class_plain q l k e f h = plain_one l.payload k (subst (λ (qs : List Slot). Fits qs k) (ap (λ (j : ℕ). slots_below q j l.payload) e ∙ below_4 q l.payload) f) h

member_30 : (l : Label) → l.kind ≡ 30 → is_member l ≡ not (bit bit1 l)
unfolding is_member is
member_30 l g = rw (eq-eqb l.kind 30 g, ne_eqb l.kind 31 (λ e. omega (arith, g, e)), ne_eqb l.kind 32 (λ e. omega (arith, g, e)), or-false, or-false)

change_parts : (l : Label) (k : Trees) → changes l k ≡ false → (eqb l.kind 1 ≡ false) × (is_decorated_member l k ≡ false)
unfolding changes is
change_parts l k e =
    let a = or_none (is 1 l || (is 26 l && is_decorated k)) (is_decorated_member l k) e in
    ((or_none (is 1 l) (is 26 l && is_decorated k) a.0).0, a.1)

one_statement : (l : Label) (k : Trees) → is_decorated (class_kids k) ≡ false → count_f k ≡ 1 → StillOne statement l k
unfolding StillOne
one_statement l k a b = (a, b)

one_method : (l : Label) (k : Trees) → Counted k → is_decorated_member l k ≡ false → is_empty (decorators_of method k) ≡ true → StillOne method l k
unfolding StillOne
one_method l k c a b = (a, method_still k c b)

one_field : (d l : Label) (k : Trees) → Counted k → is_decorated_member l k ≡ false → is_empty (decorators_of (field d) k) ≡ true → StillOne (field d) l k
unfolding StillOne bare_field decorators_of
one_field d l k c a b = (a, undecorate_still k c b)

member_kind : (l : Label) (k : ℕ) → l.kind ≡ k → eqb k 30 ≡ false → (eqb k 31 || eqb k 32) ≡ true → is_member l ≡ true
unfolding is_member is
member_kind l k g n e = rw (g, n, e)

still_role : (q : Slot) (l : Label) (k : Trees) → Fits (slots_below q l.kind l.payload) k → Counted k → changes l k ≡ false → any_record changes k ≡ false →
    count_f k ≡ children l.kind l.payload → StillOne (role_of l) l k
still_role q l k f c e h n = go (eqb l.kind 1) refl (eqb l.kind 4) refl (eqb l.kind 20) refl (eqb l.kind 30) refl (eqb l.kind 31) refl (eqb l.kind 32) refl
  where
    parts : (eqb l.kind 1 ≡ false) × (is_decorated_member l k ≡ false)
    parts = change_parts l k e

    by_role : (r : Role) → role_of l ≡ r → StillOne r l k → StillOne (role_of l) l k
    by_role r g s = subst (λ (x : Role). StillOne x l k) (sym g) s

    fields : (d : Label) → role_of l ≡ field d → is_member l ≡ true → StillOne (field d) l k
    fields d g m = one_field d l k c parts.1 (member_role_lem l k (field d) g m parts.1)

    methods : (b : Bool) → bit bit1 l ≡ b → l.kind ≡ 30 → StillOne (role_of l) l k
    methods true b g = by_role constructor (role_30 l g ∙ ap (λ (x : Bool). cond x constructor method) b) (unfold StillOne in tt)
    methods false b g =
        let r : role_of l ≡ method = role_30 l g ∙ ap (λ (x : Bool). cond x constructor method) b in
        let m : is_member l ≡ true = member_30 l g ∙ ap not b in
        by_role method r (one_method l k c parts.1 (member_role_lem l k method r m parts.1))

    go : (b1 : Bool) → eqb l.kind 1 ≡ b1 → (b4 : Bool) → eqb l.kind 4 ≡ b4 → (b20 : Bool) → eqb l.kind 20 ≡ b20 → (b30 : Bool) → eqb l.kind 30 ≡ b30 →
        (b31 : Bool) → eqb l.kind 31 ≡ b31 → (b32 : Bool) → eqb l.kind 32 ≡ b32 → StillOne (role_of l) l k
    go true e1 b4 e4 b20 e20 b30 e30 b31 e31 b32 e32 = absurd (true≢false (sym e1 ∙ parts.0))
    go false e1 true e4 b20 e20 b30 e30 b31 e31 b32 e32 =
        let g : l.kind ≡ 4 = eqb-true _ 4 e4 in
        by_role statement (role_4 l g) (one_statement l k (class_plain q l k g f h) (n ∙ ap (λ (j : ℕ). children j l.payload) g ∙ one_4 l.payload))
    go false e1 false e4 true e20 b30 e30 b31 e31 b32 e32 = by_role expression (role_20 l (eqb-true _ 20 e20)) (unfold StillOne in tt)
    go false e1 false e4 false e20 true e30 b31 e31 b32 e32 = methods (bit bit1 l) refl (eqb-true _ 30 e30)
    go false e1 false e4 false e20 false e30 true e31 b32 e32 =
        let g : l.kind ≡ 31 = eqb-true _ 31 e31 in
        by_role (field (14 ∶ 0)) (role_31 l g) (fields (14 ∶ 0) (role_31 l g) (member_kind l 31 g refl refl))
    go false e1 false e4 false e20 false e30 false e31 true e32 =
        let g : l.kind ≡ 32 = eqb-true _ 32 e32 in
        by_role (field (13 ∶ 0)) (role_32 l g) (fields (13 ∶ 0) (role_32 l g) (member_kind l 32 g refl refl))
    go false e1 false e4 false e20 false e30 false e31 false e32 = other_role l k e1 e4 e20 e30 e31 e32 n

pub kids_number : (q : Slot) (l : Label) (k : Trees) → Allowed q l → Fits (slots_below q l.kind l.payload) k → count_f k ≡ children l.kind l.payload
kids_number q l k a f = fits_count _ k f ∙ length_below q l.kind l.payload a.grammar

fits_counted : (f : Trees) (qs : List Slot) → Fits qs f → Counted f
unfolding Fits Counted
fits_counted end qs h = tt
fits_counted (node l k r) [] h = absurd h
fits_counted (node l k r) (q ∷ qs) h =
    ((λ e. sym (kids_number q l k h.0 h.1 ∙ ap (λ (j : ℕ). children j l.payload) e ∙ many_28 l.payload)), fits_counted k _ h.1, fits_counted r qs h.2)

still_fits : (f : Trees) (qs : List Slot) → Fits qs f → any_record changes f ≡ false → Still f
unfolding Fits Still any_record
still_fits end qs h e = tt
still_fits (node l k r) [] h e = absurd h
still_fits (node l k r) (q ∷ qs) h e =
    let a = or_none (changes l k || any_record changes k) (any_record changes r) e in
    let b = or_none (changes l k) (any_record changes k) a.0 in
    (still_role q l k h.1 (fits_counted k _ h.1) b.0 b.1 (kids_number q l k h.0 h.1), still_fits k _ h.1 b.1, still_fits r qs h.2 a.1)

-- ---- by place

-- the n words from the place i on, as they are written
unfoldable pub words_from : (ℕ → ℕ → ℕ) → List ℕ → ℕ → ℕ → List ℕ
words_from word ws i zero = []
words_from word ws i (suc n) = word (label_at ws i).kind (label_at ws i).payload ∷ words_from word ws (i + 1) n

module _ (word : ℕ → ℕ → ℕ) (ws : List ℕ) where
  first : (i n : ℕ) → word_by word (label_at ws i) ∷ words_from word ws (i + 1) n ≡ words_from word ws i (suc n)
  unfolding words_from word_by
  first i n = refl

  abbrev Same : ℕ → ℕ → Type 0
  Same at k = written word (take_f k (records_at ws at)) ≡ words_from word ws at (size (take_f k (records_at ws at)))

  nothing : (at k : ℕ) → take_f k (records_at ws at) ≡ end → Same at k
  unfolding written flat size words_from
  nothing at k e = rw e

  row_step : (at : ℕ) → (at < length ws → (k : ℕ) → Same (at + 1) k) → (k : ℕ) → Same at k
  row_step at later zero = nothing at 0 (unfold take_f in refl)
  row_step at later (suc k) = go (ltb at (length ws)) refl
    where
      go : (b : Bool) → ltb at (length ws) ≡ b → Same at (suc k)
      go true e =
          let h : at < length ws = ltb-true at (length ws) e in
          let rest : Trees = take_f k (drop_f (arity_at ws at) (records_at ws (at + 1))) in
          let j : ℕ = arity_at ws at + k in
          let w : written word (take_f (suc k) (records_at ws at)) ≡ word_by word (label_at ws at) ∷ written word (take_f j (records_at ws (at + 1))) =
          ap (written word) (row_open ws at k h) ∙ written_node word (label_at ws at) (kids_at ws at) rest
          ∙ ap (word_by word (label_at ws at) ∷◌) (sym (written_append word (kids_at ws at) rest) ∙ ap (written word) (row_kids ws at k)) in
          w ∙ ap (word_by word (label_at ws at) ∷◌) (later h j) ∙ first at (size (take_f j (records_at ws (at + 1)))) ∙ ap (words_from word ws at) (sym (size_open ws at k h))
      go false e = nothing at (suc k) (ap (take_f (suc k)) (records_past ws at (ltb-false at (length ws) e)) ∙ take_f_end (suc k))

  row_within : (m at : ℕ) → length ws - at ≤ m → (k : ℕ) → Same at k
  row_within zero at h k = row_step at (λ l. absurd (omega arith)) k
  row_within (suc m) at h k = row_step at (λ l. row_within m (at + 1) (omega arith)) k

  -- the words of k records follow one another
  pub written_row : (at k : ℕ) → written word (take_f k (records_at ws at)) ≡ words_from word ws at (end_of ws at k - at)
  unfolding end_of
  written_row at k =
      let n : at + size (take_f k (records_at ws at)) - at ≡ size (take_f k (records_at ws at)) = omega arith in
      let all : length ws - at ≤ length ws = omega arith in
      row_within (length ws) at all k ∙ ap (words_from word ws at) (sym n)

  pub from_first : (i n : ℕ) → i < n → words_from word ws i (n - i) ≡ word (label_at ws i).kind (label_at ws i).payload ∷ words_from word ws (i + 1) (n - (i + 1))
  from_first i n h =
      let e : n - i ≡ suc (n - (i + 1)) = omega arith in
      ap (words_from word ws i) e ∙ (unfold words_from in refl)

  pub from_none : (i n : ℕ) → n ≤ i → words_from word ws i (n - i) ≡ []
  from_none i n h =
      let e : n - i ≡ 0 = omega arith in
      ap (words_from word ws i) e ∙ (unfold words_from in refl)

-- the record at a place, where nothing in it changes
module _ (ws : List ℕ) (whole : Fits (moduleSlot ∷ []) (records_at ws 0)) (at : ℕ) (h : at < length ws) (still : any_record changes (take_f 1 (records_at ws at)) ≡ false) (around : Around) (s : State) where
  one_still : visit_at ws at 1 around s ≡ same (take_f 1 (records_at ws at)) s
  unfolding visit_at
  one_still =
      let t : Standing ws at = standing_at ws (moduleSlot ∷ []) whole at h in
      still_visit (take_f 1 (records_at ws at)) (still_fits (take_f 1 (records_at ws at)) (t.slot ∷ []) (subst (Fits (t.slot ∷ [])) (sym (record_one ws at h)) (alone t)) still) around s
    where
      alone : (t : Standing ws at) → Fits (t.slot ∷ []) (node (label_at ws at) (kids_at ws at) end)
      alone t = unfold Fits in (t.own, t.kids, tt)

  pub still_here : (visit_at ws at 1 around s).here ≡ take_f 1 (records_at ws at)
  still_here = ap (λ (r : Result). r.here) one_still ∙ (unfold same in refl)

  pub still_after : (visit_at ws at 1 around s).after ≡ s
  still_after = ap (λ (r : Result). r.after) one_still ∙ (unfold same in refl)
