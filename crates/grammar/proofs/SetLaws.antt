-- The sets of kinds that `is_allowed` reads say what the table says. Assumes nothing.
use Rattle.std.specs.Prelude.{◌≡◌, Bool, false, cond, not, ℕ, zero, suc, ◌<◌, ◌^◌, eqb, replicate}
use Rattle.std.proofs.Math.Path.{refl}
use Rattle.std.proofs.Common.{sym, ap, subst, ◌∙◌, arith}
use Rattle.std.proofs.Math.Bool.{true}
use mathlib.Core.List.{List, [], ◌∷◌}
use Rattle.std.proofs.Math.Nat.{zero-div}
use Rattle.std.proofs.Math.Dec.{T, eqb→eq}
use borrow.Author.Tests.{eqb-true, eq-eqb, ne_eqb}
use Rattle.words.specs.Table.{lookup, both, every, below_all}
use Rattle.words.specs.Word.{kind_lt}
use Rattle.words.specs.Shape.{bit_of, bit_lt, bit_one, bit_none}
use Rattle.grammar.specs.Grammar.{slot, row, no_row, table, row_of, holds, allowed, is_symbol}
use Rattle.grammar.proofs.Rows.{test_left, test_right, implied, allowed_row, allowed_known, sole_kind, kind_sole}
use Rattle.grammar.specs.Scan.{place, too_many_symbols, decorated_constructor}
use Rattle.grammar.specs.Sets.{kind_sets, kinds_of, free, empty, flag_rule, rule_by, limited, with_symbol}

-- ---- two tests of every kind

-- a kind in the set s has the category c, and the rule that the other sets say
unfoldable of_category : ℕ → ℕ → ℕ → Bool
of_category c s k = cond (eqb (bit_of s k) 1) (cond (eqb (row_of k).category c) (eqb (row_of k).rule (rule_by k)) false) true

unfoldable of_sets : List (ℕ × ℕ) → Bool
of_sets [] = true
of_sets (e ∷ es) = cond (every (λ k x. of_category e.0 e.1 k) 0 (replicate 64 0)) (of_sets es) false

-- a kind that has a category is in its set
unfoldable in_set : ℕ → Bool
in_set k = cond (eqb (row_of k).category 0) true (eqb (bit_of (kinds_of (row_of k).category) k) 1)

in_none : (k : ℕ) → bit_of 0 k ≡ 1 → ⊥
unfolding bit_of
in_none k e = omega (arith, zero-div (2 ^ k))

module _ (k c : ℕ) (h : k < 64) where
  abbrev Fit : Type 0
  Fit = T (cond (eqb (row_of k).category c) (eqb (row_of k).rule (rule_by k)) false)

  fit_in : (es : List (ℕ × ℕ)) → T (of_sets es) → bit_of (lookup c es 0) k ≡ 1 → Fit
  unfolding of_sets of_category lookup
  fit_in [] t b = absurd (in_none k b)
  fit_in (e ∷ es) t b = go (eqb c e.0) refl b (λ f. fit_in es (test_right (every (λ n x. of_category e.0 e.1 n) 0 (replicate 64 0)) (of_sets es) t) f)
    where
      u : T (of_category e.0 e.1 k)
      u = below_all (of_category e.0 e.1) 64 (test_left (every (λ n x. of_category e.0 e.1 n) 0 (replicate 64 0)) (of_sets es) t) k h

      go : (x : Bool) → eqb c e.0 ≡ x → bit_of (cond x e.1 (lookup c es 0)) k ≡ 1 → (bit_of (lookup c es 0) k ≡ 1 → Fit) → Fit
      go true q f r = subst (λ (n : ℕ). T (cond (eqb (row_of k).category n) (eqb (row_of k).rule (rule_by k)) false)) (sym (eqb-true c e.0 q)) (implied (eqb (bit_of e.1 k) 1) _ u (eq-eqb (bit_of e.1 k) 1 f))
      go false q f r = r f

  fit : bit_of (kinds_of c) k ≡ 1 → Fit
  unfolding kinds_of kind_sets of_sets of_category every both bit_of row_of lookup table row no_row rule_by flag_rule free empty
  fit b = fit_in kind_sets tt b

  pub category_in : bit_of (kinds_of c) k ≡ 1 → (row_of k).category ≡ c
  category_in b = eqb→eq (row_of k).category c (test_left (eqb (row_of k).category c) (eqb (row_of k).rule (rule_by k)) (fit b))

  rule_in : bit_of (kinds_of c) k ≡ 1 → (row_of k).rule ≡ rule_by k
  rule_in b = eqb→eq (row_of k).rule (rule_by k) (test_right (eqb (row_of k).category c) (eqb (row_of k).rule (rule_by k)) (fit b))

  set_of : ((row_of k).category ≡ 0 → ⊥) → bit_of (kinds_of (row_of k).category) k ≡ 1
  unfolding in_set kinds_of kind_sets every both bit_of row_of lookup table row no_row
  set_of n = eqb→eq (bit_of (kinds_of (row_of k).category) k) 1 (subst (λ (b : Bool). T (cond b true (eqb (bit_of (kinds_of (row_of k).category) k) 1))) (ne_eqb (row_of k).category 0 n) (below_all in_set 64 tt k h))

  -- ---- a law for each way through `is_allowed`

  module _ (x p : ℕ) where
    pub not_in : bit_of (kinds_of c) k ≡ 0 → allowed (slot c x) k p ≡ false
    not_in b = go (allowed (slot c x) k p) refl
      where
        go : (y : Bool) → allowed (slot c x) k p ≡ y → y ≡ false
        go true e =
            let g : (row_of k).category ≡ c = (allowed_row (slot c x) k p e).0 in
            let f : bit_of (kinds_of c) k ≡ 1 = ap (λ (n : ℕ). bit_of (kinds_of n) k) (sym g) ∙ set_of (allowed_known (slot c x) k p e) in
            let z : ◌≡◌ {A = ℕ} 0 1 = sym b ∙ f in absurd (omega arith)
        go false e = refl

    module _ (b : bit_of (kinds_of c) k ≡ 0 → ⊥) where
      by_rule : allowed (slot c x) k p ≡ holds (rule_by k) x p
      unfolding allowed
      by_rule = let i : bit_of (kinds_of c) k ≡ 1 = bit_one (kinds_of c) k b in rw (eq-eqb (row_of k).category c (category_in i), rule_in i)

      pub free_in : (bit_of free k ≡ 0 → ⊥) → allowed (slot c x) k p ≡ true
      unfolding rule_by holds lookup
      free_in f = by_rule ∙ rw (eq-eqb (bit_of free k) 1 (bit_one free k f))

      module _ (f : bit_of free k ≡ 0) where
        pub empty_in : (bit_of empty k ≡ 0 → ⊥) → allowed (slot c x) k p ≡ eqb p 0
        unfolding rule_by holds lookup
        empty_in e = by_rule ∙ rw (f, eq-eqb (bit_of empty k) 1 (bit_one empty k e))

        pub flag_in : bit_of empty k ≡ 0 → allowed (slot c x) k p ≡ holds (flag_rule k) x p
        unfolding rule_by
        flag_in e = by_rule ∙ rw (f, e)

-- ---- the kinds that have a limit of their own, 28 and 40: no other can have the last two faults

unlimited : (k n : ℕ) → bit_of limited n ≡ 1 → bit_of limited k ≡ 0 → k ≡ n → ⊥
unlimited k n o z e = let y : ◌≡◌ {A = ℕ} 0 1 = sym z ∙ ap (bit_of limited) e ∙ o in omega arith

pub few_symbols : (k p : ℕ) → bit_of limited k ≡ 0 → too_many_symbols k p ≡ false
unfolding too_many_symbols bit_of limited
few_symbols k p z = rw (ne_eqb k 40 (unlimited k 40 refl z))

pub undecorated : (c x d k p : ℕ) → allowed (slot c x) k p ≡ true → bit_of limited k ≡ 0 → decorated_constructor (place (slot c x) d) p ≡ false
unfolding decorated_constructor place bit_of limited sole_kind lookup
undecorated c x d k p a z = rw (ne_eqb c 7 (λ e. unlimited k 28 refl z (kind_sole k 7 ((allowed_row (slot c x) k p a).0 ∙ e) tt)))

-- ---- the kinds whose payload is a symbol

-- a kind is in the set exactly if it is one of them
unfoldable same_test : ℕ → Bool
same_test k = cond (is_symbol k) (not (eqb (bit_of with_symbol k) 0)) (eqb (bit_of with_symbol k) 0)

pub symbol_in : (k : ℕ) → k < 64 → not (eqb (bit_of with_symbol k) 0) ≡ is_symbol k
unfolding same_test every both bit_of is_symbol lookup with_symbol
symbol_in k h = go (is_symbol k) (eqb (bit_of with_symbol k) 0) (below_all same_test 64 tt k h)
  where
    go : (x y : Bool) → T (cond x (not y) y) → not y ≡ x
    go true true t = absurd t
    go true false t = refl
    go false true t = refl
    go false false t = absurd t

-- `is_in` tests for 1
pub in_test : (s k : ℕ) → eqb (bit_of s k) 1 ≡ not (eqb (bit_of s k) 0)
in_test s k = go (bit_of s k) (bit_lt s k)
  where
    go : (b : ℕ) → b < 2 → eqb b 1 ≡ not (eqb b 0)
    go zero h = refl
    go (suc zero) h = refl
    go (suc (suc b)) h = absurd (omega arith)

-- what `is_allowed`, `is_symbol` and `fault` are proved by
pub ruleset set_laws = (kind_lt, bit_one, category_in, not_in, free_in, empty_in, flag_in)

pub ruleset symbol_laws = (kind_lt, symbol_in, in_test)

pub ruleset limit_laws = (few_symbols, undecorated, bit_none)
