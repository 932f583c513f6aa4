-- Tables: an association list by number, and a rule of a constant table proved at all of its entries by one computed test.
-- Assumes nothing.
use Rattle.std.specs.Prelude.{◌≡◌, refl, Bool, true, false, cond, List, [], ◌∷◌, ℕ, zero, suc, ◌+◌, ◌<◌, ◌≤◌, T, eqb, length, get_or, replicate}
use Rattle.std.proofs.Common.{◌∙◌, subst, sym, add-zero, zero-add, add-suc, suc-add, le_of_suc-le-suc, not-suc-le-zero, eqb-true}
use Rattle.std.proofs.lemmas.List.{length-replicate}

-- the entry of k in a table, or d
unfoldable pub lookup : {A : Type 0} → ℕ → List (ℕ × A) → A → A
lookup k [] d = d
lookup k (e ∷ es) d = cond (eqb k e.0) e.1 (lookup k es d)

eqb_no : (k a : ℕ) → (k ≡ a → ⊥) → eqb k a ≡ false
eqb_no k a h = go (eqb k a) refl
  where
    go : (x : Bool) → eqb k a ≡ x → x ≡ false
    go true e = absurd (h (eqb-true k a e))
    go false e = refl

-- a table whose first entry isn't k's
pub lookup_miss : {A : Type 0} (k a : ℕ) (v : A) (es : List (ℕ × A)) (d : A) → (k ≡ a → ⊥) → lookup k ((a, v) ∷ es) d ≡ lookup k es d
unfolding lookup
lookup_miss k a v es d h = rw (eqb_no k a h)

-- ---- a bound on every entry

unfoldable pub AllLe : List (ℕ × ℕ) → ℕ → Type 0
AllLe [] b = Unit {0}
AllLe (e ∷ es) b = (e.1 ≤ b) × AllLe es b

le_cond : (x : Bool) (a c b : ℕ) → a ≤ b → c ≤ b → cond x a c ≤ b
le_cond true a c b h g = h
le_cond false a c b h g = g

pub lookup_le : (k d b : ℕ) (es : List (ℕ × ℕ)) → d ≤ b → AllLe es b → lookup k es d ≤ b
unfolding lookup AllLe
lookup_le k d b [] h t = h
lookup_le k d b (e ∷ es) h t = le_cond (eqb k e.0) e.1 (lookup k es d) b t.0 (lookup_le k d b es h t.1)

-- ---- a test of every entry of a constant table

unfoldable pub both : Bool → Bool → Bool
both true b = b
both false b = false

both_left : (a b : Bool) → T (both a b) → T a
unfolding both
both_left true b t = tt
both_left false b t = t

both_right : (a b : Bool) → T (both a b) → T b
unfolding both
both_right true b t = t
both_right false b t = absurd t

-- the test f passes at each entry of the list and its place, counted from i
unfoldable pub every : (ℕ → ℕ → Bool) → ℕ → List ℕ → Bool
every f i [] = true
every f i (x ∷ xs) = both (f i x) (every f (suc i) xs)

from : (f : ℕ → ℕ → Bool) (xs : List ℕ) (i : ℕ) → T (every f i xs) → (k : ℕ) → k < length xs → T (f (i + k) (get_or xs k 0))
unfolding every
from f [] i t k h = absurd (not-suc-le-zero h)
from f (x ∷ xs) i t zero h = subst (λ (m : ℕ). T (f m x)) (sym (add-zero i)) (both_left (f i x) (every f (suc i) xs) t)
from f (x ∷ xs) i t (suc k) h =
    subst (λ (m : ℕ). T (f m (get_or xs k 0))) (suc-add i k ∙ sym (add-suc i k))
    (from f xs (suc i) (both_right (f i x) (every f (suc i) xs) t) k (le_of_suc-le-suc h))

pub entry_at : (f : ℕ → ℕ → Bool) (xs : List ℕ) → T (every f 0 xs) → (k : ℕ) → k < length xs → T (f k (get_or xs k 0))
entry_at f xs t k h = subst (λ (m : ℕ). T (f m (get_or xs k 0))) (zero-add k) (from f xs 0 t k h)

-- a test of every number below n
pub below_all : (f : ℕ → Bool) (n : ℕ) → T (every (λ k x. f k) 0 (replicate n 0)) → (k : ℕ) → k < n → T (f k)
below_all f n t k h = entry_at (λ k x. f k) (replicate n 0) t k (rw length-replicate h)
