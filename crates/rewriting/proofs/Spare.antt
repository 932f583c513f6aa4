-- The records of a module that no member or class statement stands above: two words are spare for each of them. Under the grammar these are
-- enough for what rules 3 to 10 add to a member or class. Assumes nothing.
use Rattle.std.specs.Prelude.{◌≡◌, refl, Bool, true, false, cond, not, ◌&&◌, ◌||◌, List, [], ◌∷◌, ℕ, zero, suc, ◌+◌, ◌*◌, ◌≤◌, T, eqb, ltb}
use Rattle.std.proofs.Common.{ap, sym, ◌∙◌, eqb-true, ne_eqb, eq-eqb}
use Rattle.std.proofs.Math.Path.{subst}
use Rattle.std.specs.declared.option.Option.{Option}
use Rattle.std.specs.declared.option.Option.TheVariants.{None as none, Some as some}
use native.Mathlib.Omega.{arith}
use Rattle.words.specs.Table.{lookup}
use Rattle.words.specs.Word.{bit0, bit1, bit2}
use Rattle.records.specs.Forest.{end, node, count_f, count_f_append}
use Rattle.records.specs.Label.{Label, Trees, is, bit}
use Rattle.grammar.specs.Grammar.{Slot, slot, row, table, row_of, slots, slots_below, id, expression, body}
use Rattle.grammar.specs.WellFormed.{Allowed, Fits}
use Rattle.grammar.proofs.Rows.{allowed_row, sole_kind, kind_sole}
use Rattle.rewriting.specs.Parts.{kids_of, decorators, parameters_of, indexed, of_parameters, is_constructor, is_member, is_empty, is_decorated_member, decorators_of, role_of, field, elements_of, symbol_if, id_of, constructor_decorated, first_constructor, is_decorated}
use Rattle.rewriting.proofs.Roles.{never}
use Rattle.rewriting.proofs.Fitting.{behind, category_of, EachSlot, Of, parameters_are, elements_are, decorators_are}
use Rattle.rewriting.proofs.Kept.{indexed_count}

-- a member or a class statement
unfoldable pub grows : Label → Bool
grows l = is_member l || is 4 l

unfoldable pub spare_of : Label → ℕ → ℕ
spare_of l n = cond (grows l) 0 (2 + n)

unfoldable pub spare : Trees → ℕ
spare end = 0
spare (node l kids rest) = spare_of l (spare kids) + spare rest

pub spare_le : (l : Label) (n : ℕ) → spare_of l n ≤ 2 + n
unfolding spare_of
spare_le l n = either (grows l)
  where
    either : (b : Bool) → cond b 0 (2 + n) ≤ 2 + n
    either true = omega arith
    either false = omega arith

pub spare_none : (l : Label) (n : ℕ) → grows l ≡ true → spare_of l n ≡ 0
unfolding spare_of
spare_none l n e = rw e

pub grows_method : (l : Label) → l.kind ≡ 30 → bit bit1 l ≡ false → grows l ≡ true
unfolding grows is_member is
grows_method l e n = rw (n, e)

pub grows_statement : (l : Label) → l.kind ≡ 4 → grows l ≡ true
unfolding grows is_member is
grows_statement l e = rw e

pub grows_property : (l : Label) → l.kind ≡ 31 → grows l ≡ true
unfolding grows is_member is
grows_property l e = rw e

pub grows_accessor : (l : Label) → l.kind ≡ 32 → grows l ≡ true
unfolding grows is_member is
grows_accessor l e = rw e

-- ---- records that are neither

still : (q : Slot) (l : Label) → Allowed q l → (q.category ≡ 3 → ⊥) → (q.category ≡ 9 → ⊥) → grows l ≡ false
unfolding grows is_member is row_of lookup table row
still q l a n3 n9 =
    rw (
      ne_eqb l.kind 30 (λ e. n9 (sym (category_of q l 30 a e))),
      ne_eqb l.kind 31 (λ e. n9 (sym (category_of q l 31 a e))),
      ne_eqb l.kind 32 (λ e. n9 (sym (category_of q l 32 a e))),
      ne_eqb l.kind 4 (λ e. n3 (sym (category_of q l 4 a e))),
    )

pub spare_still : (q : Slot) (l : Label) (k r : Trees) → Allowed q l → (q.category ≡ 3 → ⊥) → (q.category ≡ 9 → ⊥) → spare (node l k r) ≡ 2 + spare k + spare r
unfolding spare spare_of
spare_still q l k r a n3 n9 = ap (λ (b : Bool). cond b 0 (2 + spare k) + spare r) (still q l a n3 n9)

-- two for each expression
expressions_spare : (f : Trees) (qs : List Slot) → Of 4 qs → Fits qs f → 2 * count_f f ≤ spare f
unfolding EachSlot Fits count_f
expressions_spare end qs o h = omega arith
expressions_spare (node l k r) [] o h = absurd h
expressions_spare (node l k r) (q ∷ qs) o h =
    omega (arith, spare_still q l k r h.0 (λ e. omega (arith, o.0)) (λ e. omega (arith, o.0)), expressions_spare r qs o.1 h.2)

-- the kind of a category that has one
pub sole : (q : Slot) (l : Label) (c : ℕ) → Allowed q l → q.category ≡ c → T (ltb (sole_kind c) 64) → l.kind ≡ sole_kind c
sole q l c a e t = kind_sole l.kind c ((allowed_row q l.kind l.payload a.grammar).0 ∙ e) t

kind28 : (q : Slot) (l : Label) → Allowed q l → q.category ≡ 7 → l.kind ≡ 28
unfolding sole_kind lookup
kind28 q l a c = sole q l 7 a c tt

first_decorators : (l : Label) (k r : Trees) → l.kind ≡ 28 → decorators (node l k r) ≡ k
unfolding decorators is
first_decorators l k r e = rw e

-- decorators, with what stands behind them
decorators_spare : (q : Slot) (qs : List Slot) (l : Label) (k r : Trees) → q.category ≡ 7 → Fits (q ∷ qs) (node l k r) →
    2 + 2 * count_f (decorators (node l k r)) + spare r ≤ spare (node l k r)
unfolding Fits
decorators_spare q qs l k r c h =
    let a = decorators_are (node l k r) (q ∷ qs) h in
    let inner : 2 * count_f (decorators (node l k r)) ≤ spare (decorators (node l k r)) = expressions_spare (decorators (node l k r)) a.slots a.of a.fits in
    omega (
      arith,
      inner,
      ap spare (first_decorators l k r (kind28 q l h.0 c)),
      spare_still q l k r h.0 (λ e. omega (arith, c)) (λ e. omega (arith, c)),
    )

-- ---- members and constructors

field_spare : (q p : Slot) (qs : List Slot) (f : Trees) → q.category ≡ 7 → p.category ≡ 4 → Fits (q ∷ p ∷ qs) f → 4 + 2 * count_f (decorators f) ≤ spare f
unfolding Fits
field_spare q p qs end c e h = absurd h
field_spare q p qs (node l k end) c e h = absurd h.2
field_spare q p qs (node l k (node m j r)) c e h =
    omega (
      arith,
      decorators_spare q (p ∷ qs) l k (node m j r) c h,
      spare_still p m j r h.2.0 (λ z. omega (arith, e)) (λ z. omega (arith, e)),
    )

with_decorators : (q : Slot) (qs : List Slot) (f : Trees) → q.category ≡ 7 → Fits (q ∷ qs) f → 2 + 2 * count_f (decorators f) ≤ spare f
unfolding Fits
with_decorators q qs end c h = absurd h
with_decorators q qs (node l k r) c h = omega (arith, decorators_spare q qs l k r c h)

parameter_spare : (q : Slot) (l : Label) (k : Trees) → q.category ≡ 11 → Allowed q l → Fits (slots_below q l.kind l.payload) k → 2 + 2 * count_f (decorators k) ≤ spare k
unfolding slots_below slots row_of lookup table row sole_kind
parameter_spare q l k c a h =
    with_decorators (slot 7 q.context) _ k refl (subst (λ (n : ℕ). Fits (slots ((row_of n).below q.context l.payload)) k) (sole q l 11 a c tt) h)

-- half of what parameters have
parameters_spare : (f : Trees) (qs : List Slot) (i : ℕ) → Of 11 qs → Fits qs f → count_f (of_parameters i f) ≤ spare f
unfolding EachSlot Fits of_parameters
parameters_spare end qs i o h = unfold count_f in omega arith
parameters_spare (node l k r) [] i o h = absurd h
parameters_spare (node l k r) (q ∷ qs) i o h =
    omega (
      arith,
      count_f_append (indexed i (decorators k)) (of_parameters (suc i) r),
      indexed_count i (decorators k),
      parameter_spare q l k o.0 h.0 h.1,
      spare_still q l k r h.0 (λ e. omega (arith, o.0)) (λ e. omega (arith, o.0)),
      parameters_spare r qs (suc i) o.1 h.2,
    )

-- the first record of a kind
kids_first : (n : ℕ) (l : Label) (k r : Trees) → l.kind ≡ n → kids_of n (node l k r) ≡ k
unfolding kids_of is
kids_first n l k r e = ap (λ (b : Bool). cond b k (kids_of n r)) (eq-eqb l.kind n e)

kids_later : (n : ℕ) (q : Slot) (l : Label) (k r : Trees) → Allowed q l → ((row_of n).category ≡ q.category → ⊥) → kids_of n (node l k r) ≡ kids_of n r
unfolding kids_of is
kids_later n q l k r a z = ap (λ (b : Bool). cond b k (kids_of n r)) (ne_eqb l.kind n (λ e. z (category_of q l n a e)))

method_spare : (q p t : Slot) (qs : List Slot) (f : Trees) → q.category ≡ 7 → p.category ≡ 4 → t.category ≡ 10 → Fits (q ∷ p ∷ t ∷ qs) f →
    6 + count_f (of_parameters 0 (parameters_of f)) ≤ spare f
unfolding Fits parameters_of sole_kind row_of lookup table row
method_spare q p t qs end c e g h = absurd h
method_spare q p t qs (node l k end) c e g h = absurd h.2
method_spare q p t qs (node l k (node m j end)) c e g h = absurd h.2.2
method_spare q p t qs (node l k (node m j (node n i r))) c e g h =
    let f : Trees = node l k (node m j (node n i r)) in
    let a = parameters_are f (q ∷ p ∷ t ∷ qs) h in
    let same : kids_of 36 f ≡ i =
    kids_later 36 q l k (node m j (node n i r)) h.0 (λ z. omega (arith, c)) ∙ kids_later 36 p m j (node n i r) h.2.0 (λ z. omega (arith, e))
    ∙ kids_first 36 n i r (sole t n 10 h.2.2.0 g tt) in
    omega (
      arith,
      decorators_spare q (p ∷ t ∷ qs) l k (node m j (node n i r)) c h,
      spare_still p m j (node n i r) h.2.0 (λ z. omega (arith, e)) (λ z. omega (arith, e)),
      spare_still t n i r h.2.2.0 (λ z. omega (arith, g)) (λ z. omega (arith, g)),
      parameters_spare (kids_of 36 f) a.slots 0 a.of a.fits,
      ap spare same,
    )

-- the children of a record by its kind
pub method_room : (q : Slot) (l : Label) (k : Trees) → l.kind ≡ 30 → Fits (slots_below q l.kind l.payload) k →
    6 + count_f (of_parameters 0 (parameters_of k)) ≤ spare k
unfolding slots_below slots row_of lookup table row
method_room q l k e h =
    method_spare (slot 7 (bit1 l.payload)) (slot 4 1) (slot 10 0) _ k refl refl refl (subst (λ (n : ℕ). Fits (slots ((row_of n).below q.context l.payload)) k) e h)

pub property_room : (q : Slot) (l : Label) (k : Trees) → l.kind ≡ 31 → Fits (slots_below q l.kind l.payload) k → 4 + 2 * count_f (decorators k) ≤ spare k
unfolding slots_below slots row_of lookup table row
property_room q l k e h =
    field_spare (slot 7 0) (slot 4 1) _ k refl refl (subst (λ (n : ℕ). Fits (slots ((row_of n).below q.context l.payload)) k) e h)

pub accessor_room : (q : Slot) (l : Label) (k : Trees) → l.kind ≡ 32 → Fits (slots_below q l.kind l.payload) k → 4 + 2 * count_f (decorators k) ≤ spare k
unfolding slots_below slots row_of lookup table row
accessor_room q l k e h =
    field_spare (slot 7 0) (slot 4 1) _ k refl refl (subst (λ (n : ℕ). Fits (slots ((row_of n).below q.context l.payload)) k) e h)

-- a decorated one has a decorator
nonempty : (f : Trees) → is_empty f ≡ false → 1 ≤ count_f f
unfolding is_empty count_f
nonempty end e = absurd (never (sym e))
nonempty (node l k r) e = omega arith

both : (x y : Bool) → (x && not y) ≡ true → y ≡ false
both true true e = absurd (never e)
both true false e = refl
both false y e = absurd (never e)

pub field_decorated : (l d : Label) (k : Trees) → role_of l ≡ field d → is_decorated_member l k ≡ true → 1 ≤ count_f (decorators k)
unfolding is_decorated_member decorators_of
field_decorated l d k e h = nonempty (decorators k) (both (is_member l) (is_empty (decorators k)) (rw e at h))

-- ---- classes

-- the elements: the first constructor's entries, and two more if a constructor is decorated
constructor_kind : (l : Label) → is_constructor l ≡ true → (l.kind ≡ 30) × (grows l ≡ false)
unfolding is_constructor grows is_member is
constructor_kind l h = go (eqb l.kind 30) (bit bit1 l) refl h
  where
    go : (x y : Bool) → eqb l.kind 30 ≡ x → (x && y) ≡ true → (l.kind ≡ 30) × (((x && not y) || eqb l.kind 31 || eqb l.kind 32 || eqb l.kind 4) ≡ false)
    go true true e f = let k : l.kind ≡ 30 = eqb-true l.kind 30 e in (k, rw k)
    go true false e f = absurd (never f)
    go false y e f = absurd (never f)

spare_behind : (l : Label) (k r : Trees) → spare r ≤ spare (node l k r)
unfolding spare
spare_behind l k r = omega arith

record Elements (f : Trees) : Type 0 where
  few : count_f (first_constructor f) ≤ spare f
  more : constructor_decorated f ≡ true → 2 + count_f (first_constructor f) ≤ spare f

elements_if : (x : Bool) (q : Slot) (l : Label) (k r : Trees) → is_constructor l ≡ x → Fits (slots_below q l.kind l.payload) k → Elements r →
    (count_f (cond x (of_parameters 0 (parameters_of k)) (first_constructor r)) ≤ spare (node l k r)) ×
    (((x && not (is_empty (of_parameters 0 (parameters_of k)))) || constructor_decorated r) ≡ true → 2 + count_f (cond x (of_parameters 0 (parameters_of k)) (first_constructor r)) ≤ spare (node l k r))
unfolding spare spare_of
elements_if true q l k r e h s =
    let c = constructor_kind l e in
    let room = method_room q l k c.0 h in
    let g : spare_of l (spare k) ≡ 2 + spare k = ap (λ (b : Bool). cond b 0 (2 + spare k)) c.1 in
    (omega (arith, room, g), λ d. omega (arith, room, g))
elements_if false q l k r e h s = (omega (arith, s.few), λ d. omega (arith, s.more d))

elements_spare : (f : Trees) (qs : List Slot) → Fits qs f → Elements f
unfolding Fits first_constructor constructor_decorated count_f
elements_spare end qs h = record { few = omega arith; more = λ e. absurd (never e) }
elements_spare (node l k r) [] h = absurd h
elements_spare (node l k r) (q ∷ qs) h =
    let e = elements_if (is_constructor l) q l k r refl h.1 (elements_spare r qs h.2) in
    record { few = e.0; more = e.1 }

behind_spare : (a b : ℕ) (r : Trees) → Fits (behind a b) r → 2 * a + 2 + spare (kids_of 29 r) ≤ spare r
unfolding behind Fits sole_kind row_of lookup table row
behind_spare zero zero end h = absurd h
behind_spare zero zero (node l k r) h =
    omega (arith, spare_still body l k r h.0 (λ z. omega arith) (λ z. omega arith), ap spare (kids_first 29 l k r (sole body l 8 h.0 refl tt)))
behind_spare zero (suc b) end h = absurd h
behind_spare zero (suc b) (node l k r) h =
    omega (
      arith,
      spare_behind l k r,
      ap spare (kids_later 29 expression l k r h.0 (λ z. omega arith)),
      behind_spare zero b r h.2,
    )
behind_spare (suc a) b end h = absurd h
behind_spare (suc a) b (node l k r) h =
    omega (
      arith,
      spare_still id l k r h.0 (λ z. omega arith) (λ z. omega arith),
      ap spare (kids_later 29 id l k r h.0 (λ z. omega arith)),
      behind_spare a b r h.2,
    )

-- an id is read where the class has one
not_id : (q : Slot) (l : Label) (k r : Trees) (c : ℕ) → Allowed q l → ((row_of 27).category ≡ q.category → ⊥) → symbol_if (node l k r) ≡ some c → ⊥
unfolding symbol_if is
not_id q l k r c a n e =
    let f : ◌≡◌ {A = Option ℕ} none (some c) = rw (ne_eqb l.kind 27 (λ z. n (category_of q l 27 a z))) at e in
    let z : ◌≡◌ {A = ℕ} 0 1 = cc in
    omega arith

behind_id : (a b : ℕ) (r : Trees) (c : ℕ) → Fits (behind a b) r → symbol_if r ≡ some c → 1 ≤ a
unfolding behind Fits row_of lookup table row
behind_id (suc a) b r c h e = omega arith
behind_id zero zero end c h e = absurd h
behind_id zero zero (node l k r) c h e = absurd (not_id body l k r c h.0 (λ z. omega arith) e)
behind_id zero (suc b) end c h e = absurd h
behind_id zero (suc b) (node l k r) c h e = absurd (not_id expression l k r c h.0 (λ z. omega arith) e)

-- the children of a decorated class: w entries of its first constructor
pub record Class (ck : Trees) : Type 0 where
  pub named : (c : ℕ) → id_of ck ≡ some c → 8 + count_f (first_constructor (elements_of ck)) ≤ spare ck
  pub any : 6 + count_f (first_constructor (elements_of ck)) ≤ spare ck

class_if_lem : (x y : Bool) (d els : Trees) → is_empty d ≡ x → constructor_decorated els ≡ y → (not x || y) ≡ true → Elements els → 2 + count_f (first_constructor els) ≤ 2 * count_f d + spare els
class_if_lem true true d els e f h s = omega (arith, s.more f)
class_if_lem true false d els e f h s = absurd (never h)
class_if_lem false y d els e f h s = omega (arith, nonempty d e, s.few)

class_shape : (a b : ℕ) (f : Trees) → Fits (slot 7 0 ∷ behind a b) f → is_decorated f ≡ true → Class f
unfolding Fits elements_of id_of is_decorated row_of lookup table row
class_shape a b end h d = absurd h
class_shape a b (node l k r) h d =
    let f : Trees = node l k r in
    let e = elements_are f (slot 7 0 ∷ behind a b) h in
    let same : spare (kids_of 29 f) ≡ spare (kids_of 29 r) = ap spare (kids_later 29 (slot 7 0) l k r h.0 (λ z. omega arith)) in
    let own = decorators_spare (slot 7 0) (behind a b) l k r refl h in
    let others = behind_spare a b r h.2 in
    let some' = class_if_lem (is_empty (decorators f)) (constructor_decorated (kids_of 29 f)) (decorators f) (kids_of 29 f) refl refl d (elements_spare (kids_of 29 f) e.slots e.fits) in
    record {
      named = λ c z. omega (arith, same, own, others, some', behind_id a b r c h.2 z);
      any = omega (arith, same, own, others, some');
    }

class_least : (a b : ℕ) (f : Trees) → Fits (slot 7 0 ∷ behind a b) f → 4 ≤ spare f
unfolding Fits
class_least a b end h = absurd h
class_least a b (node l k r) h = omega (arith, decorators_spare (slot 7 0) (behind a b) l k r refl h, behind_spare a b r h.2)

module _ (q : Slot) (c : Label) (ck : Trees) (e : c.kind ≡ 26) (h : Fits (slots_below q c.kind c.payload) ck) where
  class_slots : Fits (slot 7 0 ∷ behind (bit0 c.payload) (bit2 c.payload)) ck
  unfolding slots_below slots row_of lookup table row behind
  class_slots = subst (λ (n : ℕ). Fits (slots ((row_of n).below q.context c.payload)) ck) e h

  pub class_room : is_decorated ck ≡ true → Class ck
  class_room d = class_shape (bit0 c.payload) (bit2 c.payload) ck class_slots d

  pub class_spare : 4 ≤ spare ck
  class_spare = class_least (bit0 c.payload) (bit2 c.payload) ck class_slots
