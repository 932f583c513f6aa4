-- Rule 6's replacement: it passes through the parts of elements that rule 7 speaks of, and is written word by word. Assumes nothing.
use Rattle.std.specs.Prelude.{◌≡◌, Bool, ◌&&◌, ◌||◌, ℕ, suc, eqb}
use Rattle.std.proofs.Math.Path.{refl, ap}
use Rattle.std.proofs.Common.{sym, ◌∙◌, eqb-true}
use Rattle.std.proofs.Math.Bool.{true, false, cond}
use Rattle.words.specs.Word.{bit1}
use Rattle.records.specs.Forest.{end, node, append_f, map_f, map_f_append}
use Rattle.records.specs.Label.{Label, Trees, ◌∶◌, repay, is, bit}
use Rattle.rewriting.specs.Parts.{tree, kids_of, change_kids, decorators, undecorate, parameters_of, indexed, of_parameters, bare_parameters, bare_method, is_constructor, first_constructor, bare_first}
use Rattle.rewriting.specs.Visit.{is_ref, to_alias}
use Rattle.walk_laws.specs.Written.{word_by, written, written_end, written_node}

module _ (c b : ℕ) where
  -- a label stays, or is a 9 or an 18 and takes the alias
  is_alias : (k : ℕ) (l : Label) → is k (to_alias c b l) ≡ is k l
  unfolding to_alias is repay
  is_alias k l = go (is_ref c l)
    where
      go : (x : Bool) → is k (cond x (repay l b) l) ≡ is k l
      go true = refl
      go false = refl

  -- only a 9 or an 18 is changed
  other : (l : Label) → (is 9 l || is 18 l) ≡ false → to_alias c b l ≡ l
  unfolding to_alias is_ref
  other l e = rw e

  kind_other : (k : ℕ) (l : Label) → is k l ≡ true → (eqb k 9 || eqb k 18) ≡ false → (is 9 l || is 18 l) ≡ false
  unfolding is
  kind_other k l e n = rw (eqb-true l.kind k e) n

  same : (k : ℕ) (l : Label) → is k l ≡ true → (eqb k 9 || eqb k 18) ≡ false → to_alias c b l ≡ l
  same k l e n = other l (kind_other k l e n)

  constructor_alias : (l : Label) → is_constructor (to_alias c b l) ≡ is_constructor l
  unfolding is_constructor
  constructor_alias l = go (is 30 l) refl
    where
      go : (x : Bool) → is 30 l ≡ x → (is 30 (to_alias c b l) && bit bit1 (to_alias c b l)) ≡ (is 30 l && bit bit1 l)
      go true e = rw (same 30 l e refl)
      go false e = rw (is_alias 30 l, e)

  -- ---- parts

  decorators_alias : (f : Trees) → decorators (map_f (to_alias c b) f) ≡ map_f (to_alias c b) (decorators f)
  unfolding decorators map_f
  decorators_alias end = refl
  decorators_alias (node l k r) = rw (is_alias 28 l) (go (is 28 l))
    where
      go : (x : Bool) → cond x (map_f (to_alias c b) k) end ≡ map_f (to_alias c b) (cond x k end)
      go true = refl
      go false = refl

  undecorate_alias : (f : Trees) → undecorate (map_f (to_alias c b) f) ≡ map_f (to_alias c b) (undecorate f)
  unfolding undecorate map_f
  undecorate_alias end = refl
  undecorate_alias (node l k r) = rw (is_alias 28 l) (go (is 28 l) refl)
    where
      go : (x : Bool) → is 28 l ≡ x →
          cond x (node (repay (to_alias c b l) 0) end (map_f (to_alias c b) r)) (node (to_alias c b l) (map_f (to_alias c b) k) (map_f (to_alias c b) r)) ≡
          map_f (to_alias c b) (cond x (node (repay l 0) end r) (node l k r))
      go true e = rw (same 28 l e refl, same 28 (repay l 0) (unfold is repay in (unfold is in e)) refl)
      go false e = refl

  kids_alias : (n : ℕ) (f : Trees) → kids_of n (map_f (to_alias c b) f) ≡ map_f (to_alias c b) (kids_of n f)
  unfolding kids_of map_f
  kids_alias n end = refl
  kids_alias n (node l k r) = ap (λ (t : Trees). cond (is n (to_alias c b l)) (map_f (to_alias c b) k) t) (kids_alias n r) ∙ rw (is_alias n l) (go (is n l))
    where
      go : (x : Bool) → cond x (map_f (to_alias c b) k) (map_f (to_alias c b) (kids_of n r)) ≡ map_f (to_alias c b) (cond x k (kids_of n r))
      go true = refl
      go false = refl

  bare_alias : (f : Trees) → bare_parameters (map_f (to_alias c b) f) ≡ map_f (to_alias c b) (bare_parameters f)
  unfolding bare_parameters map_f
  bare_alias end = refl
  bare_alias (node l k r) = cc (undecorate_alias k, bare_alias r)

  change_alias : (f : Trees) → change_kids 36 bare_parameters (map_f (to_alias c b) f) ≡ map_f (to_alias c b) (change_kids 36 bare_parameters f)
  unfolding change_kids map_f
  change_alias end = refl
  change_alias (node l k r) =
      ap (λ (t : Trees). cond (is 36 (to_alias c b l)) (node (to_alias c b l) (bare_parameters (map_f (to_alias c b) k)) (map_f (to_alias c b) r)) (node (to_alias c b l) (map_f (to_alias c b) k) t)) (change_alias r)
      ∙ rw (is_alias 36 l, bare_alias k) (go (is 36 l))
    where
      go : (x : Bool) →
          cond x (node (to_alias c b l) (map_f (to_alias c b) (bare_parameters k)) (map_f (to_alias c b) r)) (node (to_alias c b l) (map_f (to_alias c b) k) (map_f (to_alias c b) (change_kids 36 bare_parameters r))) ≡
          map_f (to_alias c b) (cond x (node l (bare_parameters k) r) (node l k (change_kids 36 bare_parameters r)))
      go true = refl
      go false = refl

  method_alias : (f : Trees) → bare_method (map_f (to_alias c b) f) ≡ map_f (to_alias c b) (bare_method f)
  unfolding bare_method
  method_alias f = ap undecorate (change_alias f) ∙ undecorate_alias (change_kids 36 bare_parameters f)

  indexed_alias : (i : ℕ) (f : Trees) → indexed i (map_f (to_alias c b) f) ≡ map_f (to_alias c b) (indexed i f)
  unfolding indexed map_f tree
  indexed_alias i end = refl
  indexed_alias i (node l k r) =
      let e : to_alias c b (23 ∶ i) ≡ 23 ∶ i = same 23 (23 ∶ i) (unfold is ◌∶◌ in refl) refl in
      cc (e, indexed_alias i r)

  parameters_alias : (i : ℕ) (f : Trees) → of_parameters i (map_f (to_alias c b) f) ≡ map_f (to_alias c b) (of_parameters i f)
  unfolding of_parameters map_f
  parameters_alias i end = refl
  parameters_alias i (node l k r) =
      ap (λ (t : Trees). append_f (indexed i (decorators (map_f (to_alias c b) k))) t) (parameters_alias (suc i) r)
      ∙ rw (decorators_alias k, indexed_alias i (decorators k)) (sym (map_f_append (to_alias c b) (indexed i (decorators k)) (of_parameters (suc i) r)))

  -- ---- the first constructor

  pub first_alias : (f : Trees) → first_constructor (map_f (to_alias c b) f) ≡ map_f (to_alias c b) (first_constructor f)
  unfolding first_constructor map_f parameters_of
  first_alias end = refl
  first_alias (node l k r) =
      ap (λ (t : Trees). cond (is_constructor (to_alias c b l)) (of_parameters 0 (kids_of 36 (map_f (to_alias c b) k))) t) (first_alias r)
      ∙ rw (constructor_alias l, kids_alias 36 k, parameters_alias 0 (kids_of 36 k)) (go (is_constructor l))
    where
      go : (x : Bool) → cond x (map_f (to_alias c b) (of_parameters 0 (kids_of 36 k))) (map_f (to_alias c b) (first_constructor r)) ≡ map_f (to_alias c b) (cond x (of_parameters 0 (kids_of 36 k)) (first_constructor r))
      go true = refl
      go false = refl

  pub bare_first_alias : (f : Trees) → bare_first (map_f (to_alias c b) f) ≡ map_f (to_alias c b) (bare_first f)
  unfolding bare_first map_f
  bare_first_alias end = refl
  bare_first_alias (node l k r) =
      ap (λ (t : Trees). cond (is_constructor (to_alias c b l)) (node (to_alias c b l) (bare_method (map_f (to_alias c b) k)) (map_f (to_alias c b) r)) (node (to_alias c b l) (map_f (to_alias c b) k) t)) (bare_first_alias r)
      ∙ rw (constructor_alias l, method_alias k) (go (is_constructor l))
    where
      go : (x : Bool) →
          cond x (node (to_alias c b l) (map_f (to_alias c b) (bare_method k)) (map_f (to_alias c b) r)) (node (to_alias c b l) (map_f (to_alias c b) k) (map_f (to_alias c b) (bare_first r))) ≡
          map_f (to_alias c b) (cond x (node l (bare_method k) r) (node l k (bare_first r)))
      go true = refl
      go false = refl

-- ---- words

written_map : (v w : ℕ → ℕ → ℕ) (g : Label → Label) → ((l : Label) → word_by v (g l) ≡ word_by w l) → (f : Trees) → written v (map_f g f) ≡ written w f
unfolding map_f
written_map v w g h end = written_end v ∙ sym (written_end w)
written_map v w g h (node l k r) = cc (written_node v (g l) (map_f g k) (map_f g r), written_node w l k r, h l, written_map v w g h k, written_map v w g h r)

-- a word under the alias b of the symbol c
pub alias_written : (word : ℕ → ℕ → ℕ) (c b : ℕ) (f : Trees) →
    written word (map_f (to_alias c b) f) ≡ written (λ k p. word k (cond ((eqb k 9 || eqb k 18) && eqb p c) b p)) f
unfolding word_by to_alias is_ref is
alias_written word c b f = written_map word _ (to_alias c b) each f
  where
    each : (l : Label) → word_by word (to_alias c b l) ≡ word_by (λ k p. word k (cond ((eqb k 9 || eqb k 18) && eqb p c) b p)) l
    each l = go ((eqb l.kind 9 || eqb l.kind 18) && eqb l.payload c)
      where
        go : (x : Bool) → word (cond x (repay l b) l).kind (cond x (repay l b) l).payload ≡ word l.kind (cond x b l.payload)
        go true = unfold repay in refl
        go false = refl
