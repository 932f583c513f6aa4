-- Rows of records: a test of each record of a row, how many meet it, how many stand before the first; and the laws of a search among the k records
-- at a place. Assumes nothing.
use Rattle.std.proofs.Math.Path.{◌≡◌, refl, ap, sym}
use Rattle.std.proofs.Common.{◌∙◌, zero-add, add-one, ltb-true, ltb-false}
use Rattle.std.specs.Prelude.{Bool, ◌||◌, not, List, ltb}
use Rattle.std.proofs.Math.Bool.{true, false, cond, or_assoc}
use Prim.Native.Nat.{ℕ, zero, suc, ◌+◌, ◌-◌, ◌<◌, ◌≤◌}
use native.Mathlib.Omega.{arith}
use Rattle.std.proofs.Math.ListN.{length}
use Rattle.records.specs.Forest.{end, node, take_f, drop_f, append_f, append_f_end, take_f_add, take_f_suc, take_f_end}
use Rattle.records.specs.Label.{Label, Trees}
use Rattle.records.specs.Place.{records_at, label_at, kids_at, end_of, arity_at, end_none, end_add, end_drop, record_one, records_first, records_node, records_past}

-- a test of a record, by its word and children
abbrev pub Test : Type 0
Test = Label → Trees → Bool

-- does a record of the row meet the test
unfoldable pub any_row : Test → Trees → Bool
any_row p end = false
any_row p (node l kids rest) = p l kids || any_row p rest

-- the number of records of the row that meet it
unfoldable pub count_row : Test → Trees → ℕ
count_row p end = 0
count_row p (node l kids rest) = cond (p l kids) 1 0 + count_row p rest

-- of k records, the number before the first that meets it, or k where none does
unfoldable pub before : Test → ℕ → Trees → ℕ
before p zero f = 0
before p (suc k) end = suc k
before p (suc k) (node l kids rest) = cond (p l kids) 0 (suc (before p k rest))

pub true_false : true ≡ false → ⊥
true_false e = let z : ◌≡◌ {A = ℕ} 0 1 = cc in omega arith

-- neither of two tests is met
pub or_left : (a b : Bool) → (a || b) ≡ false → a ≡ false
or_left true b e = e
or_left false b e = refl

pub or_right : (a b : Bool) → (a || b) ≡ false → b ≡ false
or_right true b e = absurd (true_false e)
or_right false b e = e

-- a test that was negated
pub not_true : (b : Bool) → not b ≡ true → b ≡ false
not_true true e = sym e
not_true false e = refl

pub not_false : (b : Bool) → not b ≡ false → b ≡ true
not_false true e = refl
not_false false e = sym e

-- a place stands before the end of the words, or past it
pub by_end : {A : Type 0} (ws : List ℕ) (i : ℕ) → (i < length ws → A) → (length ws ≤ i → A) → A
by_end {A} ws i f g = go (ltb i (length ws)) refl
  where
    go : (b : Bool) → ltb i (length ws) ≡ b → A
    go true e = f (ltb-true i (length ws) e)
    go false e = g (ltb-false i (length ws) e)

module _ (p : Test) where
  pub any_append : (f g : Trees) → any_row p (append_f f g) ≡ (any_row p f || any_row p g)
  unfolding any_row append_f
  any_append end g = refl
  any_append (node l k r) g = ap (p l k ||◌) (any_append r g) ∙ sym (or_assoc (p l k) (any_row p r) (any_row p g))

  pub count_append : (f g : Trees) → count_row p (append_f f g) ≡ count_row p f + count_row p g
  unfolding count_row append_f
  count_append end g = sym (zero-add (count_row p g))
  count_append (node l k r) g = omega (arith, count_append r g)

  -- none is counted exactly where none meets the test
  pub count_none : (f : Trees) → any_row p f ≡ false → count_row p f ≡ 0
  unfolding any_row count_row
  count_none end e = refl
  count_none (node l k r) e = rw (or_left (p l k) (any_row p r) e) (omega (arith, count_none r (or_right (p l k) (any_row p r) e)))

  pub count_some : (f : Trees) → any_row p f ≡ true → 1 ≤ count_row p f
  unfolding any_row count_row
  count_some end e = absurd (true_false (sym e))
  count_some (node l k r) e = go (p l k) e (λ t. count_some r t)
    where
      go : (b : Bool) → (b || any_row p r) ≡ true → (any_row p r ≡ true → 1 ≤ count_row p r) → 1 ≤ cond b 1 0 + count_row p r
      go true e h = omega arith
      go false e h = omega (arith, h e)

  -- ---- the first record that meets the test

  pub before_none : (k : ℕ) (f : Trees) → any_row p (take_f k f) ≡ false → before p k f ≡ k
  unfolding before any_row take_f
  before_none zero f e = refl
  before_none (suc k) end e = refl
  before_none (suc k) (node l kids rest) e =
      rw (or_left (p l kids) (any_row p (take_f k rest)) e) (ap suc (before_none k rest (or_right (p l kids) (any_row p (take_f k rest)) e)))

  pub before_hit : (k i : ℕ) (f : Trees) (l : Label) (kids rest : Trees) → i < k → any_row p (take_f i f) ≡ false →
      drop_f i f ≡ node l kids rest → p l kids ≡ true → before p k f ≡ i
  unfolding before any_row take_f drop_f
  before_hit zero i f l kids rest h e d t = absurd (omega arith)
  before_hit (suc k) zero f l kids rest h e d t = ap (before p (suc k)) d ∙ rw t
  before_hit (suc k) (suc i) end l kids rest h e d t = let z : ◌≡◌ {A = ℕ} 0 1 = cc in absurd (omega arith)
  before_hit (suc k) (suc i) (node m ks r) l kids rest h e d t =
      let g : i < k = omega arith in
      rw (or_left (p m ks) (any_row p (take_f i r)) e) (ap suc (before_hit k i r l kids rest g (or_right (p m ks) (any_row p (take_f i r)) e) d t))

  pub before_most : (k : ℕ) (f : Trees) → before p k f ≤ k
  unfolding before
  before_most zero f = omega arith
  before_most (suc k) end = omega arith
  before_most (suc k) (node l kids rest) = go (p l kids) (before_most k rest)
    where
      go : (b : Bool) → before p k rest ≤ k → cond b 0 (suc (before p k rest)) ≤ suc k
      go true h = omega arith
      go false h = omega arith

  pub before_unmet : (k : ℕ) (f : Trees) → any_row p (take_f (before p k f) f) ≡ false
  unfolding before any_row take_f
  before_unmet zero f = refl
  before_unmet (suc k) end = refl
  before_unmet (suc k) (node l kids rest) = go (p l kids) refl (before_unmet k rest)
    where
      go : (b : Bool) → p l kids ≡ b → any_row p (take_f (before p k rest) rest) ≡ false → any_row p (take_f (cond b 0 (suc (before p k rest))) (node l kids rest)) ≡ false
      go true e h = refl
      go false e h = rw e h

  -- is the first record of the row one that meets the test
  unfoldable pub first_meets : Trees → Bool
  first_meets end = false
  first_meets (node l kids rest) = p l kids

  pub before_met : (k : ℕ) (f : Trees) → before p k f < k → first_meets (drop_f (before p k f) f) ≡ true
  unfolding before first_meets drop_f
  before_met zero f h = absurd (omega arith)
  before_met (suc k) end h = absurd (omega arith)
  before_met (suc k) (node l kids rest) h = go (p l kids) refl h (λ g. before_met k rest g)
    where
      go : (b : Bool) → p l kids ≡ b → cond b 0 (suc (before p k rest)) < suc k → (before p k rest < k → first_meets (drop_f (before p k rest) rest) ≡ true) →
          first_meets (drop_f (cond b 0 (suc (before p k rest))) (node l kids rest)) ≡ true
      go true e h later = e
      go false e h later = later (omega arith)

-- ---- the k records at `at`

module _ (ws : List ℕ) (at : ℕ) where
  -- the first i of them and the others
  pub row_split : (i k : ℕ) → i ≤ k → take_f k (records_at ws at) ≡ append_f (take_f i (records_at ws at)) (take_f (k - i) (records_at ws (end_of ws at i)))
  row_split i k h =
      let e : k ≡ i + (k - i) = omega arith in
      ap (λ (n : ℕ). take_f n (records_at ws at)) e ∙ take_f_add i (k - i) (records_at ws at) ∙ ap (λ (f : Trees). append_f (take_f i (records_at ws at)) (take_f (k - i) f)) (end_drop ws at i)

  -- one more
  pub row_next : (i : ℕ) → end_of ws at i < length ws →
      take_f (i + 1) (records_at ws at) ≡ append_f (take_f i (records_at ws at)) (node (label_at ws (end_of ws at i)) (kids_at ws (end_of ws at i)) end)
  row_next i h =
      rw (add-one) (take_f_suc i (records_at ws at) ∙ ap (λ (f : Trees). append_f (take_f i (records_at ws at)) (take_f 1 f)) (end_drop ws at i) ∙ ap (append_f (take_f i (records_at ws at))) (record_one ws (end_of ws at i) h))

  -- no more
  pub row_past : (i k : ℕ) → i ≤ k → length ws ≤ end_of ws at i → take_f k (records_at ws at) ≡ take_f i (records_at ws at)
  row_past i k h g =
      row_split i k h ∙ ap (λ (f : Trees). append_f (take_f i (records_at ws at)) (take_f (k - i) f)) (records_past ws (end_of ws at i) g) ∙ ap (append_f (take_f i (records_at ws at))) (take_f_end (k - i)) ∙ append_f_end _

-- ---- a search among the k records at `at`: i of them are passed, the next stands at q

-- none of the i meets the test
pub record Passed (p : Test) (ws : List ℕ) (at k q i : ℕ) : Type 0 where
  pub most : i ≤ k
  pub place : q ≡ end_of ws at i
  pub unmet : any_row p (take_f i (records_at ws at)) ≡ false

module _ (p : Test) (ws : List ℕ) (at k : ℕ) where
  pub passed_start : Passed p ws at k at 0
  unfolding take_f any_row
  passed_start = record { most = omega arith; place = sym (end_none ws at); unmet = refl }

  next_place : (q i q' : ℕ) → q ≡ end_of ws at i → q' ≡ end_of ws q 1 → q' ≡ end_of ws at (i + 1)
  next_place q i q' e g = g ∙ ap (λ (n : ℕ). end_of ws n 1) e ∙ sym (end_add ws at i 1)

  pub passed_next : {q i q' : ℕ} → Passed p ws at k q i → i < k → q < length ws → q' ≡ end_of ws q 1 → p (label_at ws q) (kids_at ws q) ≡ false → Passed p ws at k q' (i + 1)
  unfolding any_row
  passed_next {q} {i} {q'} a h g e t =
      let g' : end_of ws at i < length ws = omega (arith, a.place) in
      let t' : p (label_at ws (end_of ws at i)) (kids_at ws (end_of ws at i)) ≡ false = rw a.place at t in
      record {
        most = omega arith;
        place = next_place q i q' a.place e;
        unmet = ap (any_row p) (row_next ws at i g') ∙ any_append p (take_f i (records_at ws at)) _ ∙ rw (a.unmet, t');
      }

  -- the next record meets the test
  pub any_hit : {q i : ℕ} → Passed p ws at k q i → i < k → q < length ws → p (label_at ws q) (kids_at ws q) ≡ true → any_row p (take_f k (records_at ws at)) ≡ true
  unfolding any_row
  any_hit {q} {i} a h g t =
      let n : k - i ≡ suc (k - i - 1) = omega arith in
      let tail : any_row p (take_f (k - i) (records_at ws q)) ≡ true = ap (λ (m : ℕ). any_row p (take_f m (records_at ws q))) n ∙ ap (any_row p) (records_first ws q (k - i - 1) g) ∙ rw t in
      ap (any_row p) (row_split ws at i k a.most) ∙ any_append p (take_f i (records_at ws at)) _ ∙ rw (a.unmet, ← a.place, tail)

  -- the words end, or no record is left
  pub any_past : {q i : ℕ} → Passed p ws at k q i → length ws ≤ q → any_row p (take_f k (records_at ws at)) ≡ false
  any_past {q} {i} a h =
      let g : length ws ≤ end_of ws at i = omega (arith, a.place) in
      ap (any_row p) (row_past ws at i k a.most g) ∙ a.unmet

  pub any_all : {q i : ℕ} → Passed p ws at k q i → k ≤ i → any_row p (take_f k (records_at ws at)) ≡ false
  any_all {q} {i} a h = let e : k ≡ i = omega (arith, a.most) in ap (λ (n : ℕ). any_row p (take_f n (records_at ws at))) e ∙ a.unmet

  -- the number of records before the first
  pub before_here : {q i : ℕ} → Passed p ws at k q i → i < k → q < length ws → p (label_at ws q) (kids_at ws q) ≡ true → before p k (records_at ws at) ≡ i
  before_here {q} {i} a h g t =
      let d : drop_f i (records_at ws at) ≡ node (label_at ws q) (kids_at ws q) (drop_f (arity_at ws q) (records_at ws (q + 1))) =
      end_drop ws at i ∙ ap (records_at ws) (sym a.place) ∙ records_node ws q g in
      before_hit p k i (records_at ws at) _ _ _ h a.unmet d t

-- the first that meets the test, by its place
pub before_place : (p : Test) (ws : List ℕ) (at k j : ℕ) → j ≡ before p k (records_at ws at) → j < k → (end_of ws at j < length ws) × (p (label_at ws (end_of ws at j)) (kids_at ws (end_of ws at j)) ≡ true)
before_place p ws at k j e h = by_end ws (end_of ws at j) here past
  where
    less : before p k (records_at ws at) < k
    less = omega arith

    met : first_meets p (records_at ws (end_of ws at j)) ≡ true
    met = ap (first_meets p) (sym (end_drop ws at j) ∙ ap (λ (n : ℕ). drop_f n (records_at ws at)) e) ∙ before_met p k (records_at ws at) less

    here : end_of ws at j < length ws → (end_of ws at j < length ws) × (p (label_at ws (end_of ws at j)) (kids_at ws (end_of ws at j)) ≡ true)
    here l = (l, sym (ap (first_meets p) (records_node ws (end_of ws at j) l) ∙ (unfold first_meets in refl)) ∙ met)

    past : length ws ≤ end_of ws at j → (end_of ws at j < length ws) × (p (label_at ws (end_of ws at j)) (kids_at ws (end_of ws at j)) ≡ true)
    past l =
        let n : first_meets p (records_at ws (end_of ws at j)) ≡ false = ap (first_meets p) (records_past ws (end_of ws at j) l) ∙ (unfold first_meets in refl) in
        absurd (true_false (sym met ∙ n))

module _ (p : Test) (ws : List ℕ) (at k j : ℕ) (e : j ≡ before p k (records_at ws at)) where
  -- none of the k meets the test, or the row is split at the first that does
  pub before_all : k ≤ j → any_row p (take_f k (records_at ws at)) ≡ false
  before_all h =
      let same : k ≡ before p k (records_at ws at) = omega (arith, before_most p k (records_at ws at)) in
      ap (λ (n : ℕ). any_row p (take_f n (records_at ws at))) same ∙ before_unmet p k (records_at ws at)

  pub before_others : any_row p (take_f j (records_at ws at)) ≡ false
  before_others = ap (λ (n : ℕ). any_row p (take_f n (records_at ws at))) e ∙ before_unmet p k (records_at ws at)

  pub before_row : j < k →
      take_f k (records_at ws at) ≡
      append_f (take_f j (records_at ws at)) (node (label_at ws (end_of ws at j)) (kids_at ws (end_of ws at j)) (take_f (k - j - 1) (records_at ws (end_of ws (end_of ws at j) 1))))
  before_row h =
      let most : j ≤ k = omega arith in
      let more : k - j ≡ suc (k - j - 1) = omega arith in
      row_split ws at j k most
      ∙ ap (append_f (take_f j (records_at ws at))) (ap (λ (n : ℕ). take_f n (records_at ws (end_of ws at j))) more ∙ records_first ws (end_of ws at j) (k - j - 1) (before_place p ws at k j e h).0)
