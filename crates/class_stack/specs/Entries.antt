-- The laws of a class stack's arrays: one entry more, all of them payloads, the last one first. Assumes nothing.
use Rattle.std.specs.Prelude.{◌≡◌, refl, List, [], ◌∷◌, ℕ, zero, suc, ◌+◌, ◌-◌, ◌<◌, ◌≤◌, length, get_or, set, replicate}
use Rattle.std.proofs.Common.{◌∙◌, add-one, arith, length-set, get_or-set_same, get_or-set_other}
use Rattle.class_stack.specs.Renaming.{Payloads, capacity, entries, swapped, rename_p}

entries_set : (symbols aliases : List ℕ) (d a b n : ℕ) → n ≤ d → entries (set symbols d a) (set aliases d b) n ≡ entries symbols aliases n
unfolding entries
entries_set symbols aliases d a b zero h = refl
entries_set symbols aliases d a b (suc n) h =
    let ne : n ≡ d → ⊥ = omega arith in
    let hn : n ≤ d = omega arith in
    rw (get_or-set_other symbols d n a 0 ne, get_or-set_other aliases d n b 0 ne, entries_set symbols aliases d a b n hn)

pub entries_push : (symbols aliases : List ℕ) (d a b : ℕ) → d < length symbols → d < length aliases →
    entries (set symbols d a) (set aliases d b) (d + 1) ≡ record { symbol = a; alias = b } ∷ entries symbols aliases d
unfolding entries
entries_push symbols aliases d a b hs ha =
    let hd : d ≤ d = omega arith in
    rw (add-one, get_or-set_same symbols d a 0 hs, get_or-set_same aliases d b 0 ha, entries_set symbols aliases d a b d hd)

small_set : (m : ℕ) (l : List ℕ) (d a : ℕ) → ((i : ℕ) → get_or l i 0 < m) → a < m → (i : ℕ) → get_or (set l d a) i 0 < m
small_set m [] d a h ha i = h i
small_set m (x ∷ l) zero a h ha zero = ha
small_set m (x ∷ l) zero a h ha (suc i) = h (suc i)
small_set m (x ∷ l) (suc d) a h ha zero = h zero
small_set m (x ∷ l) (suc d) a h ha (suc i) = small_set m l d a (λ j. h (suc j)) ha i

small_zeros : (m n : ℕ) → 0 < m → (i : ℕ) → get_or (replicate n 0) i 0 < m
small_zeros m zero h i = h
small_zeros m (suc n) h zero = h
small_zeros m (suc n) h (suc i) = small_zeros m n h i

pub payloads_set : {l : List ℕ} (d a : ℕ) → Payloads l → a < 67108864 → Payloads (set l d a)
payloads_set {l} d a p h = record { len = length-set l d a ∙ p.len; small = small_set 67108864 l d a p.small h }

pub payloads_zeros : Payloads (replicate capacity 0)
payloads_zeros = record { len = refl; small = small_zeros 67108864 capacity (omega arith) }

-- the last of i entries, then those before it
pub rename_step : (symbols aliases : List ℕ) (i p x : ℕ) → 0 < i → x ≡ swapped (record { symbol = get_or symbols (i - 1) 0; alias = get_or aliases (i - 1) 0 }) p →
    rename_p (entries symbols aliases (i - 1)) x ≡ rename_p (entries symbols aliases i) p
unfolding entries rename_p
rename_step symbols aliases zero p x h e = absurd (omega arith)
rename_step symbols aliases (suc i) p x h e =
    let ei : suc i - 1 ≡ i = omega arith in
    rw (e, ei)
