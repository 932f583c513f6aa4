-- The places of the k records at a place, as many as there are, in the order of the words; and the records at some places as a row. Assumes nothing.
use Rattle.std.specs.Prelude.{◌≡◌, refl, Bool, true, false, cond, List, [], ◌∷◌, ℕ, zero, suc, ◌-◌, ◌<◌, ◌≤◌, length}
use Rattle.std.proofs.Common.{sym, ap, ◌∙◌, arith, ltb, ltb-true, ltb-false}
use Rattle.records.specs.Forest.{end, node, take_f, take_f_end}
use Rattle.records.specs.Label.{Trees}
use Rattle.records.specs.Place.{records_at, label_at, kids_at, end_of, records_first, records_past}

unfoldable pub places : List ℕ → ℕ → ℕ → List ℕ
places ws at zero = []
places ws at (suc k) = cond (ltb at (length ws)) (at ∷ places ws (end_of ws at 1) k) []

-- the records at some places, as a row
unfoldable pub row_at : List ℕ → List ℕ → Trees
row_at ws [] = end
row_at ws (q ∷ qs) = node (label_at ws q) (kids_at ws q) (row_at ws qs)

module _ (ws : List ℕ) where
  pub places_none : (at k : ℕ) → k ≡ 0 → places ws at k ≡ []
  unfolding places
  places_none at k e = rw e

  pub places_past : (at k : ℕ) → length ws ≤ at → places ws at k ≡ []
  unfolding places
  places_past at zero h = refl
  places_past at (suc k) h = go (ltb at (length ws)) refl
    where
      go : (b : Bool) → ltb at (length ws) ≡ b → cond (ltb at (length ws)) (at ∷ places ws (end_of ws at 1) k) [] ≡ []
      go true e = absurd (omega (arith, ltb-true at (length ws) e))
      go false e = rw e

  pub places_more : (at k : ℕ) → at < length ws → places ws at (suc k) ≡ at ∷ places ws (end_of ws at 1) k
  unfolding places
  places_more at k h = go (ltb at (length ws)) refl
    where
      go : (b : Bool) → ltb at (length ws) ≡ b → cond (ltb at (length ws)) (at ∷ places ws (end_of ws at 1) k) [] ≡ at ∷ places ws (end_of ws at 1) k
      go true e = rw e
      go false e = absurd (omega (arith, ltb-false at (length ws) e))

  -- the first of them, and the others, which begin at q
  pub places_first : (at k q : ℕ) → 0 < k → at < length ws → q ≡ end_of ws at 1 → places ws at k ≡ at ∷ places ws q (k - 1)
  places_first at zero q l h e = absurd (omega arith)
  places_first at (suc k) q l h e = let n : suc k - 1 ≡ k = omega arith in rw (n, e) (places_more at k h)

  pub few_places : (at k : ℕ) → length (places ws at k) ≤ k
  unfolding places
  few_places at zero = omega arith
  few_places at (suc k) = go (ltb at (length ws)) (few_places (end_of ws at 1) k)
    where
      go : (b : Bool) → length (places ws (end_of ws at 1) k) ≤ k → length (cond b (at ∷ places ws (end_of ws at 1) k) []) ≤ suc k
      go true h = omega (arith, h)
      go false h = omega arith

  -- the records at these places are the k records at `at`
  pub row_places : (at k : ℕ) → row_at ws (places ws at k) ≡ take_f k (records_at ws at)
  row_places at zero = unfold places row_at take_f in refl
  row_places at (suc k) = go (ltb at (length ws)) refl (row_places (end_of ws at 1) k)
    where
      go : (b : Bool) → ltb at (length ws) ≡ b → row_at ws (places ws (end_of ws at 1) k) ≡ take_f k (records_at ws (end_of ws at 1)) →
          row_at ws (places ws at (suc k)) ≡ take_f (suc k) (records_at ws at)
      go true e others =
          let h : at < length ws = ltb-true at (length ws) e in
          let more : row_at ws (at ∷ places ws (end_of ws at 1) k) ≡ node (label_at ws at) (kids_at ws at) (row_at ws (places ws (end_of ws at 1) k)) = unfold row_at in refl in
          ap (row_at ws) (places_more at k h) ∙ more ∙ ap (node (label_at ws at) (kids_at ws at)) others ∙ sym (records_first ws at k h)
      go false e others =
          let h : length ws ≤ at = ltb-false at (length ws) e in
          let none : row_at ws [] ≡ end = unfold row_at in refl in
          ap (row_at ws) (places_past at (suc k) h) ∙ none ∙ sym (ap (take_f (suc k)) (records_past ws at h) ∙ take_f_end (suc k))
