-- How many class statements stand in one another: what the class stack must have room for. Assumes nothing.
use Rattle.std.specs.Prelude.{◌≡◌, Bool, false, cond, List, [], ◌∷◌, ◌++◌, length, replicate, eqb, ltb}
use Rattle.std.proofs.Math.Path.{refl, ap}
use Rattle.std.proofs.Common.{sym, subst, ◌∙◌}
use Rattle.std.proofs.Math.Bool.{true}
use Prim.Native.Nat.{ℕ, zero, suc, ◌+◌, ◌-◌, ◌*◌, ◌<◌, ◌≤◌, max}
use native.Mathlib.Omega.{arith}
use Rattle.std.proofs.Math.Dec.{T, ltb→lt}
use borrow.Author.Tests.{eqb-true, eq-eqb}
use Rattle.words.specs.Table.{lookup}
use Rattle.records.specs.Forest.{end, node, take_f, drop_f, append_f, height_f, take_f_add}
use Rattle.records.specs.Label.{Label, Trees, is}
use Rattle.grammar.specs.Grammar.{Slot, Run, Row, row, no_row, leaf, expressions, one_expression, statements, table, row_of, slots, slots_below, module'}
use Rattle.grammar.specs.WellFormed.{Allowed, Fits}
use Rattle.grammar.proofs.Rows.{each, each_row}
use Rattle.rewriting.proofs.Fitting.{category_of}
use Rattle.records.specs.Place.{records_at, label_at, arity_at, kids_at, end_of, end_drop, record_one}

unfoldable pub nest_of : Bool → ℕ → ℕ
nest_of true n = suc n
nest_of false n = n

unfoldable pub nest : Trees → ℕ
nest end = 0
nest (node l k r) = max (nest_of (is 4 l) (nest k)) (nest r)

-- of the k records at a place
unfoldable pub nest_at : List ℕ → ℕ → ℕ → ℕ
nest_at ws at k = nest (take_f k (records_at ws at))

nest_append : (f g : Trees) → nest (append_f f g) ≡ max (nest f) (nest g)
unfolding nest append_f
nest_append end g = omega arith
nest_append (node l k r) g = omega (arith, nest_append r g)

nest_of_le : (b : Bool) (n : ℕ) → n ≤ nest_of b n
unfolding nest_of
nest_of_le true n = omega arith
nest_of_le false n = omega arith

-- ---- a class in another is at least four levels below it: 4, 26, 29, 33

-- by the category of a record: how much of four levels for each class statement from it on may be missing
unfoldable slack : ℕ → ℕ
slack c = lookup c ((1, 2) ∷ (3, 3) ∷ (4, 1) ∷ (6, 1) ∷ (7, 1) ∷ (8, 1) ∷ (9, 2) ∷ (10, 1) ∷ (11, 1) ∷ (12, 2) ∷ []) 0

-- the most of some slots, and of some runs of slots
unfoldable most : List Slot → ℕ
most [] = 0
most (q ∷ qs) = max (slack q.category) (most qs)

unfoldable most_of : List Run → ℕ
most_of [] = 0
most_of (r ∷ rs) = max (slack r.slot.category) (most_of rs)

most_replicate : (n : ℕ) (q : Slot) (qs : List Slot) → most (replicate n q ++ qs) ≤ max (slack q.category) (most qs)
unfolding most
most_replicate zero q qs = omega arith
most_replicate (suc n) q qs = omega (arith, most_replicate n q qs)

most_slots : (rs : List Run) → most (slots rs) ≤ most_of rs
unfolding slots most_of
most_slots [] = unfold most in omega arith
most_slots (r ∷ rs) = omega (arith, most_replicate r.count r.slot (slots rs), most_slots rs)

-- of a record that is no class statement, its children's slack is at most one more than its own
unfoldable slack_row : ℕ → ℕ → ℕ → Row → Bool
slack_row x p k r = cond (eqb k 4) true (ltb (most_of (r.below x p)) (slack r.category + 2))

slack_none : (x p k : ℕ) → T (slack_row x p k no_row)
unfolding slack_row no_row row leaf most_of slack lookup
slack_none x p k = either (eqb k 4)
  where
    either : (b : Bool) → T (cond b true true)
    either true = tt
    either false = tt

slack_row_lem : (x p k : ℕ) → eqb k 4 ≡ false → most_of ((row_of k).below x p) < slack (row_of k).category + 2
slack_row_lem x p k e =
    let t : T (slack_row x p k (row_of k)) = each_row (slack_row x p) (unfold each table row slack_row most_of slack lookup leaf expressions one_expression statements in tt) k (slack_none x p k) in
    ltb→lt (most_of ((row_of k).below x p)) (slack (row_of k).category + 2) (subst (λ (b : Bool). T (cond b true (ltb (most_of ((row_of k).below x p)) (slack (row_of k).category + 2)))) e (unfold slack_row in t))

slack_class : (q : Slot) (p : ℕ) → most (slots_below q 4 p) ≡ 0
unfolding slots_below slots row_of lookup table row most slack
slack_class q p = refl

-- one level: n and h are the nesting and the height of a record's children, m their slots' slack
level : (b : Bool) (n h m c : ℕ) → 4 * n ≤ h + m → (b ≡ true → m ≡ 0 × (c ≡ 3)) → (b ≡ false → m ≤ c + 1) → 4 * nest_of b n ≤ suc h + c
unfolding nest_of
level true n h m c e f g = omega (arith, e, (f refl).0, (f refl).1)
level false n h m c e f g = omega (arith, e, g refl)

module _ (q : Slot) (l : Label) (a : Allowed q l) where
  class_slack : is 4 l ≡ true → (most (slots_below q l.kind l.payload) ≡ 0) × (slack q.category ≡ 3)
  class_slack e =
      let k : l.kind ≡ 4 = eqb-true l.kind 4 (unfold is in e) in
      (ap (λ (n : ℕ). most (slots_below q n l.payload)) k ∙ slack_class q l.payload, ap slack (sym (category_of q l 4 a k)) ∙ (unfold slack row_of lookup table row in refl))

  other_slack : is 4 l ≡ false → most (slots_below q l.kind l.payload) ≤ slack q.category + 1
  unfolding slots_below
  other_slack e =
      omega (
        arith,
        most_slots ((row_of l.kind).below q.context l.payload),
        slack_row_lem q.context l.payload l.kind (unfold is in e),
        ap slack (category_of q l l.kind a refl),
      )

most_first : (q : Slot) (qs : List Slot) → most (q ∷ qs) ≡ max (slack q.category) (most qs)
unfolding most
most_first q qs = refl

nest_slack : (f : Trees) (qs : List Slot) → Fits qs f → 4 * nest f ≤ height_f f + most qs
unfolding nest height_f Fits
nest_slack end qs h = omega arith
nest_slack (node l k r) [] h = absurd h
nest_slack (node l k r) (q ∷ qs) h =
    let below : 4 * nest k ≤ height_f k + most (slots_below q l.kind l.payload) = nest_slack k (slots_below q l.kind l.payload) h.1 in
    let one : 4 * nest_of (is 4 l) (nest k) ≤ suc (height_f k) + slack q.category =
    level (is 4 l) (nest k) (height_f k) (most (slots_below q l.kind l.payload)) (slack q.category) below (class_slack q l h.0) (other_slack q l h.0) in
    omega (arith, one, nest_slack r qs h.2, most_first q qs)

-- at depth 64 at most 16 class statements stand in one another
pub nest_height : (f : Trees) → Fits (module' ∷ []) f → 4 * nest f ≤ height_f f + 2
nest_height f h = let m : most (module' ∷ []) ≡ 2 = unfold most slack lookup in refl in omega (arith, nest_slack f (module' ∷ []) h, m)

module _ (ws : List ℕ) where
  pub nest_add : (at j k : ℕ) → nest_at ws at (j + k) ≡ max (nest_at ws at j) (nest_at ws (end_of ws at j) k)
  unfolding nest_at
  nest_add at j k =
      ap nest (take_f_add j k (records_at ws at)) ∙ nest_append (take_f j (records_at ws at)) (take_f k (drop_f j (records_at ws at)))
      ∙ ap (λ (f : Trees). max (nest (take_f j (records_at ws at))) (nest (take_f k f))) (end_drop ws at j)

  -- of i records behind j others
  pub nest_part : (at j i k : ℕ) → j + i ≤ k → nest_at ws (end_of ws at j) i ≤ nest_at ws at k
  nest_part at j i k h =
      let r : j + (k - j) ≡ k = omega arith in
      let u : i + (k - j - i) ≡ k - j = omega arith in
      let x : nest_at ws at k ≡ max (nest_at ws at j) (nest_at ws (end_of ws at j) (k - j)) = ap (nest_at ws at) (sym r) ∙ nest_add at j (k - j) in
      let y : nest_at ws (end_of ws at j) (k - j) ≡ max (nest_at ws (end_of ws at j) i) (nest_at ws (end_of ws (end_of ws at j) i) (k - j - i)) =
      ap (nest_at ws (end_of ws at j)) (sym u) ∙ nest_add (end_of ws at j) i (k - j - i) in
      omega (arith, x, y)

  module _ (at : ℕ) (h : at < length ws) where
    nest_one : nest_at ws at 1 ≡ max (nest_of (is 4 (label_at ws at)) (nest (kids_at ws at))) 0
    unfolding nest_at nest
    nest_one = ap nest (record_one ws at h)

    kids_nest : nest_at ws (at + 1) (arity_at ws at) ≡ nest (kids_at ws at)
    unfolding nest_at kids_at
    kids_nest = refl

    pub nest_kids : nest_at ws (at + 1) (arity_at ws at) ≤ nest_at ws at 1
    nest_kids = omega (arith, nest_one, kids_nest, nest_of_le (is 4 (label_at ws at)) (nest (kids_at ws at)))

    pub nest_class : (label_at ws at).kind ≡ 4 → nest_at ws (at + 1) (arity_at ws at) + 1 ≤ nest_at ws at 1
    nest_class e =
        let t : is 4 (label_at ws at) ≡ true = unfold is in eq-eqb _ 4 e in
        let n : nest_of (is 4 (label_at ws at)) (nest (kids_at ws at)) ≡ suc (nest (kids_at ws at)) = ap (λ (b : Bool). nest_of b (nest (kids_at ws at))) t ∙ (unfold nest_of in refl) in
        omega (arith, nest_one, kids_nest, n)
