-- Refusals 1 to 6, each exactly when its condition holds. Assumes nothing.
use Rattle.std.specs.Prelude.{◌≡◌, Bool, List, [], ◌∷◌, ◌↔◌, ℕ, zero, suc, ◌<◌, ◌≤◌, length, get_or}
use Rattle.std.proofs.Math.Path.{refl}
use Rattle.std.proofs.Common.{sym, subst, ◌∙◌, le_of_suc-le-suc, not-suc-le-zero, arith}
use Rattle.std.proofs.Math.Bool.{true, false, cond}
use Rattle.std.proofs.Math.Dec.{eqb, ltb}
use borrow.Author.Tests.{eqb-false, ltb-true, ltb-false}
use Rattle.words.specs.Word.{kind_of, payload_of}
use Rattle.grammar.specs.Limits.{max_words}
use Rattle.grammar.specs.Scan.{Place, top, judge, fault_of, fault_at, symbols_of, refusal}
use Rattle.grammar.specs.WellFormed.{Sized}
use Rattle.grammar.proofs.Faults.{NotAllowed, TooDeep, UnknownSymbol, TooManySymbols, DecoratedConstructor, fault_not_one, fault_le, fault_2, fault_3, fault_4, fault_5, fault_6}
use Rattle.grammar.proofs.Places.{faults, places_of, fault_of_word, FirstFault, refused_first}

-- ---- the conditions

-- the place of the word at i, its kind and its payload
unfoldable pub place_at : List ℕ → ℕ → Place
place_at ws i = get_or (places_of ws) i top

unfoldable pub kind_at : List ℕ → ℕ → ℕ
kind_at ws i = kind_of (get_or ws i 0)

unfoldable pub payload_at : List ℕ → ℕ → ℕ
payload_at ws i = payload_of (get_or ws i 0)

-- no word before i is at fault
pub record Clean (ws : List ℕ) (i : ℕ) : Type 0 where
  pub clean : (j : ℕ) → j < i → fault_of_word ws j ≡ 0

-- the first word at fault stands at a place and has P there
pub record FirstAtFault (ws : List ℕ) (P : Place → ℕ → ℕ → Type 0) : Type 0 where
  pub at : ℕ
  pub word : at < length ws
  pub placed : at < length (places_of ws)
  pub before : Clean ws at
  pub fault : P (place_at ws at) (kind_at ws at) (payload_at ws at)

-- 2: the first fault is a word that may not stand at its place, or a word left over, or a place that has no word when the input ends
pub data Malformed (ws : List ℕ) : Type 0 where
  not_allowed : FirstAtFault ws NotAllowed → Malformed ws
  left_over : (i : ℕ) → i < length ws → length (places_of ws) ≤ i → Clean ws i → Malformed ws
  early_end : length ws < length (places_of ws) → Clean ws (length ws) → Malformed ws

-- ---- the fault of the word at i

get_d_faults_place : (s : ℕ) (qs : List Place) (ws : List ℕ) (i : ℕ) → i < length qs → i < length ws → get_or (faults s qs ws) i 0 ≡ fault_at s (get_or qs i top) (get_or ws i 0)
unfolding faults
get_d_faults_place s [] ws i h g = absurd (not-suc-le-zero h)
get_d_faults_place s (q ∷ qs) [] i h g = absurd (not-suc-le-zero g)
get_d_faults_place s (q ∷ qs) (w ∷ ws) zero h g = refl
get_d_faults_place s (q ∷ qs) (w ∷ ws) (suc i) h g = get_d_faults_place s qs ws i (le_of_suc-le-suc h) (le_of_suc-le-suc g)

get_d_faults_left : (s : ℕ) (qs : List Place) (ws : List ℕ) (i : ℕ) → length qs ≤ i → i < length ws → get_or (faults s qs ws) i 0 ≡ 2
unfolding faults
get_d_faults_left s [] [] i h g = absurd (not-suc-le-zero g)
get_d_faults_left s [] (w ∷ ws) zero h g = refl
get_d_faults_left s [] (w ∷ ws) (suc i) h g = get_d_faults_left s [] ws i (omega arith) (le_of_suc-le-suc g)
get_d_faults_left s (q ∷ qs) ws zero h g = absurd (not-suc-le-zero h)
get_d_faults_left s (q ∷ qs) [] (suc i) h g = absurd (not-suc-le-zero g)
get_d_faults_left s (q ∷ qs) (w ∷ ws) (suc i) h g = get_d_faults_left s qs ws i (le_of_suc-le-suc h) (le_of_suc-le-suc g)

get_d_faults_early : (s : ℕ) (qs : List Place) (ws : List ℕ) (i : ℕ) → i < length qs → length ws ≤ i → get_or (faults s qs ws) i 0 ≡ 2
unfolding faults
get_d_faults_early s [] ws i h g = absurd (not-suc-le-zero h)
get_d_faults_early s (q ∷ qs) [] zero h g = refl
get_d_faults_early s (q ∷ qs) [] (suc i) h g = get_d_faults_early s qs [] i (le_of_suc-le-suc h) (omega arith)
get_d_faults_early s (q ∷ qs) (w ∷ ws) zero h g = absurd (not-suc-le-zero g)
get_d_faults_early s (q ∷ qs) (w ∷ ws) (suc i) h g = get_d_faults_early s qs ws i (le_of_suc-le-suc h) (le_of_suc-le-suc g)

get_d_faults_past : (s : ℕ) (qs : List Place) (ws : List ℕ) (i : ℕ) → length qs ≤ i → length ws ≤ i → get_or (faults s qs ws) i 0 ≡ 0
unfolding faults
get_d_faults_past s [] [] i h g = refl
get_d_faults_past s [] (w ∷ ws) zero h g = absurd (not-suc-le-zero g)
get_d_faults_past s [] (w ∷ ws) (suc i) h g = get_d_faults_past s [] ws i (omega arith) (le_of_suc-le-suc g)
get_d_faults_past s (q ∷ qs) ws zero h g = absurd (not-suc-le-zero h)
get_d_faults_past s (q ∷ qs) [] (suc i) h g = get_d_faults_past s qs [] i (le_of_suc-le-suc h) (omega arith)
get_d_faults_past s (q ∷ qs) (w ∷ ws) (suc i) h g = get_d_faults_past s qs ws i (le_of_suc-le-suc h) (le_of_suc-le-suc g)

-- which of the four it is
data At (ws : List ℕ) (i : ℕ) : Type 0 where
  placed : i < length ws → i < length (places_of ws) → fault_of_word ws i ≡ fault_of (symbols_of ws) (place_at ws i) (kind_at ws i) (payload_at ws i) → At ws i
  left : i < length ws → length (places_of ws) ≤ i → fault_of_word ws i ≡ 2 → At ws i
  early : length ws ≤ i → i < length (places_of ws) → fault_of_word ws i ≡ 2 → At ws i
  past : fault_of_word ws i ≡ 0 → At ws i

word_fault : (ws : List ℕ) (i : ℕ) → i < length ws → i < length (places_of ws) → fault_of_word ws i ≡ fault_of (symbols_of ws) (place_at ws i) (kind_at ws i) (payload_at ws i)
unfolding fault_of_word place_at kind_at payload_at fault_at
word_fault ws i g h = get_d_faults_place (symbols_of ws) (places_of ws) ws i h g

left_fault : (ws : List ℕ) (i : ℕ) → i < length ws → length (places_of ws) ≤ i → fault_of_word ws i ≡ 2
unfolding fault_of_word
left_fault ws i g h = get_d_faults_left (symbols_of ws) (places_of ws) ws i h g

early_fault : (ws : List ℕ) (i : ℕ) → length ws ≤ i → i < length (places_of ws) → fault_of_word ws i ≡ 2
unfolding fault_of_word
early_fault ws i g h = get_d_faults_early (symbols_of ws) (places_of ws) ws i h g

at_word : (ws : List ℕ) (i : ℕ) → At ws i
unfolding fault_of_word
at_word ws i = go (ltb i (length ws)) (ltb i (length (places_of ws))) refl refl
  where
    go : (x y : Bool) → ltb i (length ws) ≡ x → ltb i (length (places_of ws)) ≡ y → At ws i
    go true true ex ey = let g = ltb-true i _ ex in let h = ltb-true i _ ey in placed g h (word_fault ws i g h)
    go true false ex ey = let g = ltb-true i _ ex in let h = ltb-false i _ ey in left g h (left_fault ws i g h)
    go false true ex ey = let g = ltb-false i _ ex in let h = ltb-true i _ ey in early g h (early_fault ws i g h)
    go false false ex ey = past (get_d_faults_past (symbols_of ws) (places_of ws) ws i (ltb-false i _ ey) (ltb-false i _ ex))

-- ---- the theorems

module _ (ws : List ℕ) where
  pub sized : (n : ℕ) → refusal ws ≡ n → (n ≡ 1 → ⊥) → Sized ws
  unfolding refusal
  sized n e m = go (eqb (length ws) 0) (ltb max_words (length ws)) refl refl e
    where
      go : (x y : Bool) → eqb (length ws) 0 ≡ x → ltb max_words (length ws) ≡ y → cond x 1 (cond y 1 (judge (symbols_of ws) (top ∷ []) ws)) ≡ n → Sized ws
      go true y ex ey f = absurd (m (sym f))
      go false true ex ey f = absurd (m (sym f))
      go false false ex ey f = let z = eqb-false (length ws) 0 ex in record { some = omega arith; few = ltb-false max_words (length ws) ey }

  unsized : (Sized ws → ⊥) → refusal ws ≡ 1
  unfolding refusal
  unsized n = go (eqb (length ws) 0) (ltb max_words (length ws)) refl refl
    where
      go : (x y : Bool) → eqb (length ws) 0 ≡ x → ltb max_words (length ws) ≡ y → cond x 1 (cond y 1 (judge (symbols_of ws) (top ∷ []) ws)) ≡ 1
      go true y ex ey = refl
      go false true ex ey = refl
      go false false ex ey = let z = eqb-false (length ws) 0 ex in absurd (n (record { some = omega arith; few = ltb-false max_words (length ws) ey }))

  never_one : (i : ℕ) → fault_of_word ws i ≡ 1 → ⊥
  never_one i e = go (at_word ws i)
    where
      go : At ws i → ⊥
      go (placed g h f) = fault_not_one _ _ _ _ (sym f ∙ e)
      go (left g h f) = omega arith
      go (early g h f) = omega arith
      go (past f) = omega arith

  -- 1: exactly when there are no words or too many
  pub refused_1 : refusal ws ≡ 1 ↔ (Sized ws → ⊥)
  refused_1 = (λ e z. let r = (refused_first ws z 1 (omega arith)).0 e in never_one r.at r.here, unsized)

  over_two : (n : ℕ) → 3 ≤ n → FirstFault ws n → FirstAtFault ws (λ q k p. fault_of (symbols_of ws) q k p ≡ n)
  over_two n m r = go (at_word ws r.at)
    where
      go : At ws r.at → FirstAtFault ws (λ q k p. fault_of (symbols_of ws) q k p ≡ n)
      go (placed g h f) = record { at = r.at; word = g; placed = h; before = record { clean = r.before }; fault = sym f ∙ r.here }
      go (left g h f) = absurd (omega (arith, r.here))
      go (early g h f) = absurd (omega (arith, r.here))
      go (past f) = absurd (omega (arith, r.here))

  first_over : (n : ℕ) → FirstAtFault ws (λ q k p. fault_of (symbols_of ws) q k p ≡ n) → FirstFault ws n
  first_over n f = record { at = f.at; before = f.before.clean; here = word_fault ws f.at f.word f.placed ∙ f.fault }

  as_fault : {P Q : Place → ℕ → ℕ → Type 0} → ((q : Place) (k p : ℕ) → P q k p → Q q k p) → FirstAtFault ws P → FirstAtFault ws Q
  as_fault f r = record { at = r.at; word = r.word; placed = r.placed; before = r.before; fault = f _ _ _ r.fault }

  -- 3 to 6: exactly when the first word at fault has that fault
  over : (n : ℕ) (P : Place → ℕ → ℕ → Type 0) → 3 ≤ n → ((q : Place) (k p : ℕ) → (fault_of (symbols_of ws) q k p ≡ n) ↔ P q k p) → refusal ws ≡ n ↔ (Sized ws × FirstAtFault ws P)
  over n P m t = (
    λ e. let z = sized n e (λ f. omega arith) in (z, as_fault (λ q k p. (t q k p).0) (over_two n m ((refused_first ws z n (omega arith)).0 e))),
    λ r. (refused_first ws r.0 n (omega arith)).1 (first_over n (as_fault (λ q k p. (t q k p).1) r.1)),
  )

  pub refused_3 : refusal ws ≡ 3 ↔ (Sized ws × FirstAtFault ws TooDeep)
  refused_3 = over 3 TooDeep (omega arith) (fault_3 (symbols_of ws))

  pub refused_4 : refusal ws ≡ 4 ↔ (Sized ws × FirstAtFault ws (UnknownSymbol (symbols_of ws)))
  refused_4 = over 4 (UnknownSymbol (symbols_of ws)) (omega arith) (fault_4 (symbols_of ws))

  pub refused_5 : refusal ws ≡ 5 ↔ (Sized ws × FirstAtFault ws TooManySymbols)
  refused_5 = over 5 TooManySymbols (omega arith) (fault_5 (symbols_of ws))

  pub refused_6 : refusal ws ≡ 6 ↔ (Sized ws × FirstAtFault ws DecoratedConstructor)
  refused_6 = over 6 DecoratedConstructor (omega arith) (fault_6 (symbols_of ws))

  -- the words end where the first place has none
  ends : (r : FirstFault ws 2) → length ws ≤ r.at → r.at < length (places_of ws) → r.at ≡ length ws
  ends r h g = go (ltb (length ws) r.at) refl
    where
      go : (x : Bool) → ltb (length ws) r.at ≡ x → r.at ≡ length ws
      go true e =
          let l = ltb-true (length ws) r.at e in
          let z = r.before (length ws) l in
          let f = early_fault ws (length ws) (omega arith) (omega arith) in
          absurd (omega arith)
      go false e = omega (arith, ltb-false (length ws) r.at e)

  malformed : FirstFault ws 2 → Malformed ws
  malformed r = go (at_word ws r.at)
    where
      go : At ws r.at → Malformed ws
      go (placed g h f) = not_allowed (record { at = r.at; word = g; placed = h; before = record { clean = r.before }; fault = (fault_2 (symbols_of ws) _ _ _).0 (sym f ∙ r.here) })
      go (left g h f) = left_over r.at g h (record { clean = r.before })
      go (early g h f) = let e : r.at ≡ length ws = ends r g h in early_end (omega arith) (record { clean = λ j i. r.before j (omega arith) })
      go (past f) = absurd (omega (arith, r.here))

  first_malformed : Malformed ws → FirstFault ws 2
  first_malformed (not_allowed f) = first_over 2 (as_fault (λ q k p. (fault_2 (symbols_of ws) q k p).1) f)
  first_malformed (left_over i h g c) = record { at = i; before = c.clean; here = left_fault ws i h g }
  first_malformed (early_end h c) = record { at = length ws; before = c.clean; here = early_fault ws (length ws) (omega arith) h }

  pub refused_2 : refusal ws ≡ 2 ↔ (Sized ws × Malformed ws)
  refused_2 = (
    λ e. let z = sized 2 e (λ f. omega arith) in (z, malformed ((refused_first ws z 2 (omega arith)).0 e)),
    λ r. (refused_first ws r.0 2 (omega arith)).1 (first_malformed r.1),
  )

  -- no other number is given
  pub refusal_le : refusal ws ≤ 6
  refusal_le = go (refusal ws) (ltb 2 (refusal ws)) refl refl
    where
      go : (n : ℕ) (x : Bool) → refusal ws ≡ n → ltb 2 n ≡ x → n ≤ 6
      go n true e l =
          let f = over_two n (ltb-true 2 n l) ((refused_first ws (sized n e (λ i. omega (arith, ltb-true 2 n l))) n (omega (arith, ltb-true 2 n l))).0 e) in
          subst (◌≤ 6) f.fault (fault_le (symbols_of ws) (place_at ws f.at) (kind_at ws f.at) (payload_at ws f.at))
      go n false e l = omega (arith, ltb-false 2 n l)
