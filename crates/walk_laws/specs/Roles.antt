-- Records by kind: their role, and the visit of a member. Assumes nothing.
use Rattle.std.specs.Prelude.{◌≡◌, Bool, true, false, ◌&&◌, ◌||◌, not, cond, ℕ, eqb}
use Rattle.std.proofs.Math.Path.{refl}
use Rattle.std.proofs.Common.{ap, ◌∙◌, eqb-true, eq-eqb}
use Rattle.std.proofs.lemmas.Bool.{false≢true}
use Rattle.words.specs.Table.{lookup}
use Rattle.words.specs.Word.{bit1}
use Rattle.records.specs.Label.{Label, Trees, ◌∶◌, is, bit}
use Rattle.rewriting.specs.Parts.{list, statement, expression, method, constructor, plain, field, role_of, is_empty, decorators_of, bare_method, bare_field, is_constructor, is_member, is_decorated_member}
use Rattle.rewriting.specs.Visit.{member, own, since, work, inside, entering, visit, visit_one}
use Rattle.rewriting.specs.declared.Around.{Around}
use Rattle.rewriting.specs.declared.State.{State}

pub is_kind : (l : Label) (k : ℕ) → l.kind ≡ k → is k l ≡ true
unfolding is
is_kind l k e = eq-eqb l.kind k e

pub kind_is : (l : Label) (k : ℕ) → is k l ≡ true → l.kind ≡ k
unfolding is
kind_is l k e = eqb-true l.kind k e

-- a record of kind k isn't one of kind n
pub is_other : (l : Label) (k n : ℕ) → l.kind ≡ k → eqb k n ≡ false → is n l ≡ false
unfolding is
is_other l k n e f = ap (λ (m : ℕ). eqb m n) e ∙ f

-- a role by the kind alone, but for a 30
role_kind : (l : Label) (k : ℕ) → l.kind ≡ k → role_of l ≡ role_of (record { kind = k; payload = l.payload; from = l.from })
role_kind l k e = ap (λ (n : ℕ). role_of (record { kind = n; payload = l.payload; from = l.from })) e

module _ (l : Label) where
  pub role_4 : l.kind ≡ 4 → role_of l ≡ statement
  role_4 e = role_kind l 4 e ∙ (unfold role_of lookup in refl)

  pub role_20 : l.kind ≡ 20 → role_of l ≡ expression
  role_20 e = role_kind l 20 e ∙ (unfold role_of lookup in refl)

  pub role_30 : l.kind ≡ 30 → role_of l ≡ cond (bit bit1 l) constructor method
  role_30 e = role_kind l 30 e ∙ (unfold role_of lookup bit in refl)

  pub role_31 : l.kind ≡ 31 → role_of l ≡ field (14 ∶ 0)
  role_31 e = role_kind l 31 e ∙ (unfold role_of lookup in refl)

  pub role_32 : l.kind ≡ 32 → role_of l ≡ field (13 ∶ 0)
  role_32 e = role_kind l 32 e ∙ (unfold role_of lookup in refl)

  pub role_33 : l.kind ≡ 33 → role_of l ≡ list
  role_33 e = role_kind l 33 e ∙ (unfold role_of lookup in refl)

  pub plain_26 : l.kind ≡ 26 → role_of l ≡ plain
  plain_26 e = role_kind l 26 e ∙ (unfold role_of lookup in refl)

  pub plain_27 : l.kind ≡ 27 → role_of l ≡ plain
  plain_27 e = role_kind l 27 e ∙ (unfold role_of lookup in refl)

  pub plain_28 : l.kind ≡ 28 → role_of l ≡ plain
  plain_28 e = role_kind l 28 e ∙ (unfold role_of lookup in refl)

  pub plain_29 : l.kind ≡ 29 → role_of l ≡ plain
  plain_29 e = role_kind l 29 e ∙ (unfold role_of lookup in refl)

  pub plain_36 : l.kind ≡ 36 → role_of l ≡ plain
  plain_36 e = role_kind l 36 e ∙ (unfold role_of lookup in refl)

  pub plain_37 : l.kind ≡ 37 → role_of l ≡ plain
  plain_37 e = role_kind l 37 e ∙ (unfold role_of lookup in refl)

-- ---- members

and_left : (a b : Bool) → (a && b) ≡ true → a ≡ true
and_left true b e = refl
and_left false b e = e

pub constructor_kind : (l : Label) → is_constructor l ≡ true → l.kind ≡ 30
unfolding is_constructor
constructor_kind l e = kind_is l 30 (and_left (is 30 l) (bit bit1 l) e)

pub decorated_member : (l : Label) (k : Trees) → is_decorated_member l k ≡ true → is_member l ≡ true
unfolding is_decorated_member
decorated_member l k e = and_left (is_member l) (not (is_empty (decorators_of (role_of l) k))) e

pub no_member_lem : (l : Label) (k : Trees) → is_member l ≡ false → is_decorated_member l k ≡ false
unfolding is_decorated_member
no_member_lem l k e = rw e

-- a member is a method, a property or an abstract accessor
pub data Sort (l : Label) : Type 0 where
  is_method : l.kind ≡ 30 → role_of l ≡ method → Sort l
  is_property : l.kind ≡ 31 → role_of l ≡ field (14 ∶ 0) → Sort l
  is_accessor : l.kind ≡ 32 → role_of l ≡ field (13 ∶ 0) → Sort l

pub member_sort : (l : Label) → is_member l ≡ true → Sort l
unfolding is_member
member_sort l e = go (is 30 l) refl (bit bit1 l) refl (is 31 l) refl (is 32 l) refl e
  where
    go : (x : Bool) → is 30 l ≡ x → (b : Bool) → bit bit1 l ≡ b → (y : Bool) → is 31 l ≡ y → (z : Bool) → is 32 l ≡ z → ((x && not b) || y || z) ≡ true → Sort l
    go true ex false eb y ey z ez t = is_method (kind_is l 30 ex) (role_30 l (kind_is l 30 ex) ∙ ap (λ (b : Bool). cond b constructor method) eb)
    go true ex true eb true ey z ez t = is_property (kind_is l 31 ey) (role_31 l (kind_is l 31 ey))
    go true ex true eb false ey true ez t = is_accessor (kind_is l 32 ez) (role_32 l (kind_is l 32 ez))
    go true ex true eb false ey false ez t = absurd (false≢true t)
    go false ex b eb true ey z ez t = is_property (kind_is l 31 ey) (role_31 l (kind_is l 31 ey))
    go false ex b eb false ey true ez t = is_accessor (kind_is l 32 ez) (role_32 l (kind_is l 32 ez))
    go false ex b eb false ey false ez t = absurd (false≢true t)

-- its children without decorators, and its descriptor
unfoldable pub bare_by : Label → Trees → Trees
bare_by l f = cond (is 30 l) (bare_method f) (bare_field f)

unfoldable pub descriptor_by : Label → Label
descriptor_by l = cond (is 31 l) (14 ∶ 0) (13 ∶ 0)

pub member_one : (around : Around) (l : Label) (k : Trees) (s : State) → is_member l ≡ true →
    visit_one around l k s ≡
    since (role_of l) l (member around l k (bare_by l (visit around k s).here) (decorators_of (role_of l) (visit around k s).here) (descriptor_by l) (visit around k s)) (visit around k s)
unfolding visit_one work bare_by descriptor_by
member_one around l k s e = go (member_sort l e)
  where
    go : Sort l → visit_one around l k s ≡
        since (role_of l) l (member around l k (cond (is 30 l) (bare_method (visit around k s).here) (bare_field (visit around k s).here)) (decorators_of (role_of l) (visit around k s).here) (cond (is 31 l) (14 ∶ 0) (13 ∶ 0)) (visit around k s)) (visit around k s)
    go (is_method e r) = rw (r, is_kind l 30 e, is_other l 30 31 e refl) (unfold own inside entering in refl)
    go (is_property e r) = rw (r, is_kind l 31 e, is_other l 31 30 e refl) (unfold own inside entering decorators_of in refl)
    go (is_accessor e r) = rw (r, is_other l 32 30 e refl, is_other l 32 31 e refl) (unfold own inside entering decorators_of in refl)
