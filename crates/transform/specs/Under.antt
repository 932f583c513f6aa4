-- The word of a kind and payload under the classes around (rule 6), as the walkers write it. Assumes nothing.
use Rattle.std.specs.Prelude.{◌≡◌, refl, Bool, true, false, ◌&&◌, ◌||◌, cond, List, [], ◌∷◌, map, ℕ, eqb}
use Rattle.std.proofs.Common.{ap, sym}
use Rattle.std.specs.declared.option.Option.TheVariants.{Some as some}
use Rattle.records.specs.Forest.{flat}
use Rattle.records.specs.Label.{Label, Trees, repay, is, word_at, ◌∶◌}
use Rattle.rewriting.specs.Visit.{is_ref, to_alias}
use Rattle.class_stack.specs.Renaming.{Sub, rename_l}
use Rattle.walk_laws.specs.Written.{word_by, written}
use Rattle.walk_laws.specs.ClassPlan.{under}

unfoldable pub word_under : List Sub → ℕ → ℕ → ℕ
word_under ss k p = word_at (rename_l ss (k ∶ p))

-- words by two functions that agree
pub written_same : (v w : ℕ → ℕ → ℕ) → ((k p : ℕ) → v k p ≡ w k p) → (f : Trees) → written v f ≡ written w f
unfolding written
written_same v w e f = go (flat f)
  where
    go : (ls : List Label) → map (word_by v) ls ≡ map (word_by w) ls
    go [] = refl
    go (l ∷ ls) = let h : word_by v l ≡ word_by w l = unfold word_by in e l.kind l.payload in rw (h, go ls)

alias_word : (c b k p : ℕ) (x : Bool) → cond x (repay (k ∶ p) b) (k ∶ p) ≡ (k ∶ cond x b p)
unfolding repay ◌∶◌
alias_word c b k p true = refl
alias_word c b k p false = refl

-- one class more around
pub under_push : (ss : List Sub) (c b k p : ℕ) → under (word_under ss) c (some b) k p ≡ word_under (record { symbol = c; alias = b } ∷ ss) k p
unfolding under word_under rename_l to_alias is_ref is ◌∶◌
under_push ss c b k p =
    sym (ap (λ (l : Label). word_at (rename_l ss l)) (alias_word c b k p ((eqb k 9 || eqb k 18) && eqb p c)))

-- no class around: the word itself
pub under_none : (k p : ℕ) → word_under [] k p ≡ word_at (k ∶ p)
unfolding word_under rename_l
under_none k p = refl
