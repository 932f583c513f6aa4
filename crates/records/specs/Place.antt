-- Records by their place in the words: the record at a place, its children, where k records end. Assumes nothing.
use Rattle.std.specs.Prelude.{◌≡◌, List, [], ◌∷◌, ℕ, zero, suc, ◌+◌, ◌-◌, ◌<◌, ◌≤◌, max}
use Rattle.std.proofs.Math.Path.{refl, ap, sym}
use Rattle.std.proofs.Common.{◌∙◌, zero-add}
use Rattle.std.proofs.Math.Nat.{add-zero}
use native.Mathlib.Omega.{arith}
use Rattle.std.proofs.Math.ListN.{length, get_or}
use Rattle.words.specs.Word.{kind_of, payload_of, children}
use Rattle.records.specs.Forest.{end, node, flat, size, take_f, drop_f, append_f, size_node, size_append, size_take_drop, take_f_add, take_f_end}
use Rattle.records.specs.Prefix.{stack_at, stack_at_node, stack_at_past, stack_at_drop, size_stack_at}
use Rattle.records.specs.Label.{Label, Trees, arity, read_at, read_from, length_read, get_d_read, ◌∶◌}

-- the records from the place i on
unfoldable pub records_at : List ℕ → ℕ → Trees
records_at ws i = stack_at arity (read_from 0 ws) i

-- the label of the record at i; past the end, that of the word 0
unfoldable pub label_at : List ℕ → ℕ → Label
label_at ws i = read_at i (get_or ws i 0)

-- the number of children of the record at i, and the children
unfoldable pub arity_at : List ℕ → ℕ → ℕ
arity_at ws i = arity (label_at ws i) (records_at ws (i + 1))

unfoldable pub kids_at : List ℕ → ℕ → Trees
kids_at ws i = take_f (arity_at ws i) (records_at ws (i + 1))

-- the place behind the k records at `at`, or behind all that there are
unfoldable pub end_of : List ℕ → ℕ → ℕ → ℕ
end_of ws at k = at + size (take_f k (records_at ws at))

module _ (ws : List ℕ) where
  pub records_past : (i : ℕ) → length ws ≤ i → records_at ws i ≡ end
  unfolding records_at
  records_past i h =
      let past : length (read_from 0 ws) ≤ i = omega (arith, length_read 0 ws) in
      stack_at_past arity (read_from 0 ws) i past

  -- the record at i, and what stands behind it
  pub records_node : (i : ℕ) → i < length ws → records_at ws i ≡ node (label_at ws i) (kids_at ws i) (drop_f (arity_at ws i) (records_at ws (i + 1)))
  unfolding records_at label_at kids_at arity_at
  records_node i h =
      let d : Label = 0 ∶ 0 in
      let il : i < length (read_from 0 ws) = omega (arith, length_read 0 ws) in
      let e : get_or (read_from 0 ws) i d ≡ read_at i (get_or ws i 0) = get_d_read d 0 ws i h ∙ ap (λ (m : ℕ). read_at m (get_or ws i 0)) (zero-add i) in
      stack_at_node arity (read_from 0 ws) i d il
      ∙ ap (λ (l : Label). node l (take_f (arity l (stack_at arity (read_from 0 ws) (i + 1))) (stack_at arity (read_from 0 ws) (i + 1))) (drop_f (arity l (stack_at arity (read_from 0 ws) (i + 1))) (stack_at arity (read_from 0 ws) (i + 1)))) e

  pub size_records : (i : ℕ) → size (records_at ws i) ≡ length ws - i
  unfolding records_at
  size_records i = size_stack_at arity (read_from 0 ws) i ∙ ap (λ (n : ℕ). n - i) (length_read 0 ws)

  pub arity_at_children : (i : ℕ) → arity_at ws i ≡ children (kind_of (get_or ws i 0)) (payload_of (get_or ws i 0))
  unfolding arity_at label_at arity read_at
  arity_at_children i = refl

  -- ---- where records end

  pub end_none : (at : ℕ) → end_of ws at 0 ≡ at
  unfolding end_of take_f size flat
  end_none at = add-zero at

  pub end_past : (at k : ℕ) → length ws ≤ at → end_of ws at k ≡ at
  unfolding end_of size flat
  end_past at k h = rw (records_past at h, take_f_end k) (add-zero at)

  pub end_low : (at k : ℕ) → at ≤ end_of ws at k
  unfolding end_of
  end_low at k = omega arith

  pub end_high : (at k : ℕ) → end_of ws at k ≤ max at (length ws)
  unfolding end_of
  end_high at k = omega (arith, size_take_drop k (records_at ws at), size_records at)

  -- what stands behind k records
  pub end_drop : (at k : ℕ) → drop_f k (records_at ws at) ≡ records_at ws (end_of ws at k)
  unfolding records_at end_of
  end_drop at k = stack_at_drop arity (read_from 0 ws) at k

  pub end_add : (at j k : ℕ) → end_of ws at (j + k) ≡ end_of ws (end_of ws at j) k
  end_add at j k =
      let whole : end_of ws at (j + k) ≡ at + size (append_f (take_f j (records_at ws at)) (take_f k (drop_f j (records_at ws at)))) = unfold end_of in rw take_f_add in
      let first : end_of ws at j ≡ at + size (take_f j (records_at ws at)) = unfold end_of in refl in
      let others : end_of ws (end_of ws at j) k ≡ end_of ws at j + size (take_f k (records_at ws (end_of ws at j))) = unfold end_of in refl in
      let same : size (take_f k (drop_f j (records_at ws at))) ≡ size (take_f k (records_at ws (end_of ws at j))) = ap (λ (f : Trees). size (take_f k f)) (end_drop at j) in
      omega (arith, whole, first, others, same, size_append (take_f j (records_at ws at)) (take_f k (drop_f j (records_at ws at))))

  -- a record ends where its children do
  pub end_one : (at : ℕ) → at < length ws → end_of ws at 1 ≡ end_of ws (at + 1) (arity_at ws at)
  end_one at h =
      let whole : end_of ws at 1 ≡ at + size (take_f 1 (records_at ws at)) = unfold end_of in refl in
      let tree : take_f 1 (records_at ws at) ≡ node (label_at ws at) (kids_at ws at) end = ap (take_f 1) (records_node at h) ∙ (unfold take_f in refl) in
      let none : size {A = Label} end ≡ 0 = unfold size flat in refl in
      let kids : end_of ws (at + 1) (arity_at ws at) ≡ at + 1 + size (kids_at ws at) = unfold end_of kids_at in refl in
      omega (arith, whole, ap size tree, size_node (label_at ws at) (kids_at ws at) end, none, kids)

  -- what stands behind a record
  pub rest_place : (at : ℕ) → at < length ws → drop_f (arity_at ws at) (records_at ws (at + 1)) ≡ records_at ws (end_of ws at 1)
  rest_place at h = end_drop (at + 1) (arity_at ws at) ∙ ap (records_at ws) (sym (end_one at h))

  -- the records at `at`: the first, and those behind it
  pub records_first : (at n : ℕ) → at < length ws → take_f (suc n) (records_at ws at) ≡ node (label_at ws at) (kids_at ws at) (take_f n (records_at ws (end_of ws at 1)))
  records_first at n h = ap (take_f (suc n)) (records_node at h) ∙ (unfold take_f in ap (λ (f : Trees). node (label_at ws at) (kids_at ws at) (take_f n f)) (rest_place at h))

  -- the first record and k others: its word, then its children and the others
  pub row_open : (at k : ℕ) → at < length ws → take_f (suc k) (records_at ws at) ≡ node (label_at ws at) (kids_at ws at) (take_f k (drop_f (arity_at ws at) (records_at ws (at + 1))))
  row_open at k h = ap (take_f (suc k)) (records_node at h) ∙ (unfold take_f in refl)

  pub row_kids : (at k : ℕ) → append_f (kids_at ws at) (take_f k (drop_f (arity_at ws at) (records_at ws (at + 1)))) ≡ take_f (arity_at ws at + k) (records_at ws (at + 1))
  unfolding kids_at
  row_kids at k = sym (take_f_add (arity_at ws at) k (records_at ws (at + 1)))

  pub size_open : (at k : ℕ) → at < length ws → size (take_f (suc k) (records_at ws at)) ≡ suc (size (take_f (arity_at ws at + k) (records_at ws (at + 1))))
  size_open at k h =
      ap size (row_open at k h) ∙ size_node (label_at ws at) (kids_at ws at) (take_f k (drop_f (arity_at ws at) (records_at ws (at + 1))))
      ∙ ap suc (sym (size_append (kids_at ws at) (take_f k (drop_f (arity_at ws at) (records_at ws (at + 1))))) ∙ ap size (row_kids at k))

  pub record_one : (at : ℕ) → at < length ws → take_f 1 (records_at ws at) ≡ node (label_at ws at) (kids_at ws at) end
  record_one at h = ap (take_f 1) (records_node at h) ∙ (unfold take_f in refl)

  pub kids_past : (at : ℕ) → length ws ≤ at → kids_at ws at ≡ end
  unfolding kids_at
  kids_past at h = let g : length ws ≤ at + 1 = omega arith in rw (records_past (at + 1) g) (take_f_end (arity_at ws at))

-- a place past the end holds the word 0
pub word_past : (ws : List ℕ) (i : ℕ) → length ws ≤ i → get_or ws i 0 ≡ 0
word_past [] i h = refl
word_past (w ∷ ws) zero h = absurd (omega arith)
word_past (w ∷ ws) (suc i) h = let g : length ws ≤ i = omega arith in word_past ws i g
