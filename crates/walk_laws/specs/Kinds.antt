-- Records by kind at a place of an accepted module: an element, a record that does nothing of its own, a class statement; the number of children. Assumes nothing.
use Rattle.std.specs.Prelude.{◌≡◌, refl, Bool, ◌&&◌, ◌||◌, cond, ℕ, ◌+◌, ◌<◌, ◌≤◌, length}
use Rattle.std.proofs.Math.Path.{ap, subst}
use Rattle.std.proofs.Common.{sym, ◌∙◌, arith}
use Rattle.std.proofs.Math.Bool.{true, false, and-false}
use Rattle.std.specs.declared.option.Option.{Option}
use mathlib.Core.List.{List, [], ◌∷◌}
use Rattle.std.proofs.Math.Dec.{eqb}
use borrow.Author.Tests.{eqb-true, eq-eqb, ne_eqb}
use Rattle.words.specs.Table.{lookup}
use Rattle.words.specs.Word.{bit1, children, child_table}
use Rattle.records.specs.Forest.{take_f, count_f}
use Rattle.records.specs.Label.{Label, Trees, is, bit, ◌∶◌, arity}
use Rattle.records.specs.Place.{records_at, label_at, arity_at, kids_at, record_one}
use Rattle.grammar.specs.Grammar.{Slot, row_of, table, row, slots, slots_below, module', class_under}
use Rattle.grammar.specs.WellFormed.{Fits}
use Rattle.grammar.proofs.Children.{allowed_sole}
use Rattle.grammar.proofs.Rows.{sole_kind}
use Rattle.rewriting.specs.Parts.{Role, module' as module_role, list, method, constructor, plain, field, role_of, is_member, is_decorated_member, has_plain_key, class_kids}
use Rattle.rewriting.specs.Visit.{visit, visit_one}
use Rattle.rewriting.specs.declared.Around.{Around}
use Rattle.rewriting.specs.declared.State.{State}
use Rattle.walk_laws.specs.Slots.{Standing, standing_at, RowFits, kind_row, arity_slots, row_first, fits_count}
use Rattle.walk_laws.specs.Roles.{role_30, role_31, role_32, no_member_lem}
use Rattle.walk_laws.specs.After.{member_after, after_plain, after_list, after_module, after_constructor, after_method, after_field}

member_none : (b p : Bool) (id : Option ℕ) (s : State) → b ≡ false → member_after b p id s ≡ s
unfolding member_after
member_none b p id s e = rw e

-- ---- roles

module _ (l : Label) where
  -- a kind whose records do nothing of their own
  pub role_rest : (P : Role → Type 0) → P module_role → P list → P plain → (l.kind ≡ 4 → ⊥) → (l.kind ≡ 20 → ⊥) → (l.kind ≡ 30 → ⊥) → (l.kind ≡ 31 → ⊥) → (l.kind ≡ 32 → ⊥) → P (role_of l)
  role_rest P m i p a b c d e =
      let r : role_of l ≡ cond (eqb l.kind 1) module_role (cond (eqb l.kind 3) list (cond (eqb l.kind 33) list (cond (eqb l.kind 39) list plain))) =
      unfold role_of lookup in rw (ne_eqb _ 4 a, ne_eqb _ 20 b, ne_eqb _ 30 c, ne_eqb _ 31 d, ne_eqb _ 32 e) in
      subst P (sym r) (go (eqb l.kind 1) (eqb l.kind 3) (eqb l.kind 33) (eqb l.kind 39))
    where
      go : (b1 b3 b33 b39 : Bool) → P (cond b1 module_role (cond b3 list (cond b33 list (cond b39 list plain))))
      go true b3 b33 b39 = m
      go false true b33 b39 = i
      go false false true b39 = i
      go false false false true = i
      go false false false false = p

  pub after_rest : (around : Around) (k : Trees) (s : State) → (l.kind ≡ 4 → ⊥) → (l.kind ≡ 20 → ⊥) → (l.kind ≡ 30 → ⊥) → (l.kind ≡ 31 → ⊥) → (l.kind ≡ 32 → ⊥) →
      (visit_one around l k s).after ≡ (visit around k s).after
  after_rest around k s a b c d e =
      role_rest (λ (r : Role). role_of l ≡ r → (visit_one around l k s).after ≡ (visit around k s).after) (after_module around l k s) (after_list around l k s) (after_plain around l k s) a b c d e refl

  not_member : l.kind ≡ 30 → bit bit1 l ≡ true → is_member l ≡ false
  unfolding is_member is
  not_member e t =
      let a : eqb l.kind 30 ≡ true = eq-eqb _ 30 e in
      let b : eqb l.kind 31 ≡ false = rw e in
      let c : eqb l.kind 32 ≡ false = rw e in
      rw (a, b, c, t)

-- ---- at a place

-- the kinds of members and constructors
unfoldable pub is_element_kind : ℕ → Bool
is_element_kind k = eqb k 30 || eqb k 31 || eqb k 32

or_cases : (a b c : Bool) → (a || b || c) ≡ true → (P : Type 0) → (a ≡ true → P) → (b ≡ true → P) → (c ≡ true → P) → P
or_cases true b c e P f g h = f refl
or_cases false true c e P f g h = g refl
or_cases false false true e P f g h = h refl
or_cases false false false e P f g h = let z : ◌≡◌ {A = ℕ} 0 1 = cc in absurd (omega arith)

two_30 : (p : ℕ) → 2 ≤ children 30 p
unfolding children child_table lookup
two_30 p = omega arith

two_31 : (p : ℕ) → 2 ≤ children 31 p
unfolding children child_table lookup
two_31 p = omega arith

two_32 : (p : ℕ) → 2 ≤ children 32 p
unfolding children child_table lookup
two_32 p = omega arith

two_children : (k p : ℕ) → is_element_kind k ≡ true → 2 ≤ children k p
unfolding is_element_kind
two_children k p e =
    or_cases (eqb k 30) (eqb k 31) (eqb k 32) e (2 ≤ children k p)
    (λ t. rw (eqb-true k 30 t) (two_30 p)) (λ t. rw (eqb-true k 31 t) (two_31 p)) (λ t. rw (eqb-true k 32 t) (two_32 p))

-- a method, constructor, property or accessor
pub role_element : (l : Label) (P : Role → Type 0) → is_element_kind l.kind ≡ true → (is_member l ≡ false → P constructor) → P method → ((d : Label) → P (field d)) → P (role_of l)
unfolding is_element_kind
role_element l P e c m f =
    or_cases (eqb l.kind 30) (eqb l.kind 31) (eqb l.kind 32) e (P (role_of l))
    (λ t. subst P (sym (role_30 l (eqb-true _ 30 t))) (go (eqb-true _ 30 t) (bit bit1 l) refl)) (λ t. subst P (sym (role_31 l (eqb-true _ 31 t))) (f (14 ∶ 0))) (λ t. subst P (sym (role_32 l (eqb-true _ 32 t))) (f (13 ∶ 0)))
  where
    go : l.kind ≡ 30 → (b : Bool) → bit bit1 l ≡ b → P (cond b constructor method)
    go k true t = c (not_member l k t)
    go k false t = m

after_element : (l : Label) (around : Around) (k : Trees) (s : State) → 2 ≤ count_f k → is_element_kind l.kind ≡ true →
    (visit_one around l k s).after ≡ member_after (around.live && is_decorated_member l k) (has_plain_key k) around.id (visit around k s).after
after_element l around k s h e =
    role_element l
    (λ (r : Role). role_of l ≡ r → (visit_one around l k s).after ≡ member_after (around.live && is_decorated_member l k) (has_plain_key k) around.id (visit around k s).after) e
    (λ m r. after_constructor around l k s r ∙ sym (member_none (around.live && is_decorated_member l k) (has_plain_key k) around.id (visit around k s).after (ap (around.live &&◌) (no_member_lem l k m) ∙ and-false around.live)))
    (after_method around l k s h) (after_field around l k s h) refl

pub below_4 : (q : Slot) (p : ℕ) → slots_below q 4 p ≡ class_under p ∷ []
unfolding slots_below slots row_of table lookup row
below_4 q p = refl

module _ (ws : List ℕ) (whole : Fits (module' ∷ []) (records_at ws 0)) (at : ℕ) (h : at < length ws) where
  standing : Standing ws at
  standing = standing_at ws (module' ∷ []) whole at h

  -- a record has all the children that its word asks for
  pub kids_count : count_f (kids_at ws at) ≡ arity_at ws at
  kids_count = fits_count _ _ standing.kids ∙ sym (arity_slots ws at standing)

  -- a method, constructor, property or accessor has two children or more
  pub element_two : is_element_kind (label_at ws at).kind ≡ true → 2 ≤ count_f (kids_at ws at)
  element_two e =
      let n : count_f (kids_at ws at) ≡ children (label_at ws at).kind (label_at ws at).payload = kids_count ∙ (unfold arity_at arity in refl) in
      omega (arith, n, two_children (label_at ws at).kind (label_at ws at).payload e)

  -- the state behind it
  pub element_after : (around : Around) (s : State) → is_element_kind (label_at ws at).kind ≡ true → (visit_one around (label_at ws at) (kids_at ws at) s).after ≡
      member_after (around.live && is_decorated_member (label_at ws at) (kids_at ws at)) (has_plain_key (kids_at ws at)) around.id (visit around (kids_at ws at) s).after
  element_after around s e = after_element (label_at ws at) around (kids_at ws at) s (element_two e) e

  -- ---- a class statement

  module _ (kind : (label_at ws at).kind ≡ 4) where
    class_row : (arity_at ws at ≡ 1) × RowFits ws (at + 1) 1 (class_under (label_at ws at).payload ∷ [])
    class_row = kind_row ws at 4 standing _ kind (below_4 standing.slot (label_at ws at).payload)

    pub class_one : arity_at ws at ≡ 1
    class_one = class_row.0

    pub class_inside : at + 1 < length ws
    class_inside = (row_first ws (at + 1) 0 _ [] class_row.1).0

    pub class_kind : (label_at ws (at + 1)).kind ≡ 26
    unfolding sole_kind lookup
    class_kind = allowed_sole (class_under (label_at ws at).payload) (label_at ws (at + 1)) (row_first ws (at + 1) 0 _ [] class_row.1).1 tt

    -- the child is that class
    pub class_row_one : kids_at ws at ≡ take_f 1 (records_at ws (at + 1))
    unfolding kids_at
    class_row_one = ap (λ (n : ℕ). take_f n (records_at ws (at + 1))) class_one

    pub class_kids_lem : class_kids (kids_at ws at) ≡ kids_at ws (at + 1)
    class_kids_lem = ap class_kids (class_row_one ∙ record_one ws (at + 1) class_inside) ∙ (unfold class_kids in refl)
