-- Tests of every word and of every record at any depth, by places: the words of k records follow one another. Assumes nothing.
use Rattle.std.specs.Prelude.{◌≡◌, Bool, false, ◌||◌, List, ◌∷◌, ℕ, zero, suc, ◌+◌, ◌-◌, ◌<◌, ◌≤◌, ◌⊎◌, eqb, get_or, take, drop}
use Rattle.std.specs.List.{list_any}
use Rattle.std.proofs.Math.Path.{refl, ap, sym}
use Rattle.std.proofs.Math.Seq.{drop-cons}
use Rattle.std.proofs.Common.{◌∙◌, add-one}
use Rattle.std.proofs.Math.Bool.{or_assoc}
use native.Mathlib.Omega.{arith}
use mathlib.Core.Logic.{inl, inr}
use Rattle.std.proofs.Math.ListN.{length}
use Rattle.words.specs.Word.{kind_of}
use Rattle.records.specs.Forest.{end, node, flat, size, take_f, drop_f, append_f, any_f, any_f_append, take_drop, take_f_end}
use Rattle.records.specs.Label.{Label, Trees, is, read_at}
use Rattle.records.specs.Place.{records_at, label_at, arity_at, kids_at, end_of, end_low, end_high, end_past, records_node, records_past, row_open, row_kids, size_open}
use Rattle.rewriting.specs.Parts.{any_record}
use Rattle.inspect.specs.Row.{Test, by_end}

-- does one of the n words from the place i on meet a test
unfoldable pub any_word : (Label → Bool) → List ℕ → ℕ → ℕ → Bool
any_word p ws i zero = false
any_word p ws i (suc n) = p (label_at ws i) || any_word p ws (i + 1) n

-- ---- the words of records

module _ (p : Label → Bool) where
  any_node : (l : Label) (kids rest : Trees) → any_f p (node l kids rest) ≡ (p l || any_f p (append_f kids rest))
  unfolding any_f
  any_node l kids rest = or_assoc (p l) (any_f p kids) (any_f p rest) ∙ ap (p l ||◌) (sym (any_f_append p kids rest))

module _ (ws : List ℕ) where
  pub any_open : (p : Label → Bool) (at k : ℕ) → at < length ws → any_f p (take_f (suc k) (records_at ws at)) ≡ (p (label_at ws at) || any_f p (take_f (arity_at ws at + k) (records_at ws (at + 1))))
  any_open p at k h = ap (any_f p) (row_open ws at k h) ∙ any_node p (label_at ws at) (kids_at ws at) _ ∙ ap (λ (f : Trees). p (label_at ws at) || any_f p f) (row_kids ws at k)

  any_nothing : (p : Label → Bool) (at : ℕ) (f : Trees) → f ≡ end → any_f p f ≡ any_word p ws at (size f)
  unfolding any_f size flat any_word
  any_nothing p at f e = rw e

  -- the k records at `at`, from what holds at the next place
  words_step : (p : Label → Bool) (at : ℕ) →
      (at < length ws → (k : ℕ) → any_f p (take_f k (records_at ws (at + 1))) ≡ any_word p ws (at + 1) (size (take_f k (records_at ws (at + 1))))) →
      (k : ℕ) → any_f p (take_f k (records_at ws at)) ≡ any_word p ws at (size (take_f k (records_at ws at)))
  words_step p at later zero = any_nothing p at (take_f 0 (records_at ws at)) (unfold take_f in refl)
  words_step p at later (suc k) = by_end ws at here past
    where
      here : at < length ws → any_f p (take_f (suc k) (records_at ws at)) ≡ any_word p ws at (size (take_f (suc k) (records_at ws at)))
      here l =
          let first : any_word p ws at (suc (size (take_f (arity_at ws at + k) (records_at ws (at + 1))))) ≡ (p (label_at ws at) || any_word p ws (at + 1) (size (take_f (arity_at ws at + k) (records_at ws (at + 1))))) = unfold any_word in refl in
          any_open p at k l ∙ ap (p (label_at ws at) ||◌) (later l (arity_at ws at + k)) ∙ sym (ap (any_word p ws at) (size_open ws at k l) ∙ first)

      past : length ws ≤ at → any_f p (take_f (suc k) (records_at ws at)) ≡ any_word p ws at (size (take_f (suc k) (records_at ws at)))
      past l = any_nothing p at (take_f (suc k) (records_at ws at)) (ap (take_f (suc k)) (records_past ws at l) ∙ take_f_end (suc k))

  words_within : (p : Label → Bool) (m at : ℕ) → length ws - at ≤ m → (k : ℕ) → any_f p (take_f k (records_at ws at)) ≡ any_word p ws at (size (take_f k (records_at ws at)))
  words_within p zero at h k = words_step p at (λ l. absurd (omega arith)) k
  words_within p (suc m) at h k = words_step p at (λ l. words_within p m (at + 1) (omega arith)) k

  pub any_words : (p : Label → Bool) (at k : ℕ) → any_f p (take_f k (records_at ws at)) ≡ any_word p ws at (end_of ws at k - at)
  unfolding end_of
  any_words p at k =
      let n : at + size (take_f k (records_at ws at)) - at ≡ size (take_f k (records_at ws at)) = omega arith in
      let all : length ws - at ≤ length ws = omega arith in
      words_within p (length ws) at all k ∙ ap (any_word p ws at) (sym n)

-- words of a kind, in the part of the words that has n of them from the place i on
part_words : (kind : ℕ) (ws : List ℕ) (i n : ℕ) → i + n ≤ length ws → list_any (λ w. eqb (kind_of w) kind) (take n (drop i ws)) ≡ any_word (is kind) ws i n
unfolding any_word is label_at read_at
part_words kind ws i zero h = refl
part_words kind ws i (suc n) h =
    let first : drop i ws ≡ get_or ws i 0 ∷ drop (i + 1) ws = drop-cons ws i 0 (omega arith) ∙ ap (λ (m : ℕ). get_or ws i 0 ∷ drop m ws) (sym (add-one i)) in
    rw first (ap (eqb (kind_of (get_or ws i 0)) kind ||◌) (part_words kind ws (i + 1) n (omega arith)))

-- the k records at `at`, which end at e: the part of the words from `at` to e, if there is one
module _ (kind : ℕ) (ws : List ℕ) (at k e : ℕ) (ends : e ≡ end_of ws at k) where
  pub any_part : at ≤ e → e ≤ length ws → list_any (λ w. eqb (kind_of w) kind) (take (e - at) (drop at ws)) ≡ any_f (is kind) (take_f k (records_at ws at))
  any_part low high = part_words kind ws at (e - at) (omega arith) ∙ ap (λ (n : ℕ). any_word (is kind) ws at (n - at)) ends ∙ sym (any_words ws (is kind) at k)

  pub no_part : (e < at) ⊎ (length ws < e) → any_f (is kind) (take_f k (records_at ws at)) ≡ false
  unfolding any_word
  no_part out =
      let n : e - at ≡ 0 = by_end ws at (λ l. absurd (few l out)) (λ l. omega (arith, end_past ws at k l, ends)) in
      any_words ws (is kind) at k ∙ ap (λ (n : ℕ). any_word (is kind) ws at (n - at)) (sym ends) ∙ ap (any_word (is kind) ws at) n
    where
      few : at < length ws → (e < at) ⊎ (length ws < e) → ⊥
      few l (inl h) = omega (arith, end_low ws at k, ends)
      few l (inr h) = omega (arith, end_high ws at k, ends)

-- ---- every place of the words is a record at some depth

record_append : (p : Test) (f g : Trees) → any_record p (append_f f g) ≡ (any_record p f || any_record p g)
unfolding any_record append_f
record_append p end g = refl
record_append p (node l k r) g = ap ((p l k || any_record p k) ||◌) (record_append p r g) ∙ sym (or_assoc (p l k || any_record p k) (any_record p r) (any_record p g))

record_node : (p : Test) (l : Label) (kids rest : Trees) → any_record p (node l kids rest) ≡ (p l kids || any_record p (append_f kids rest))
unfolding any_record
record_node p l kids rest = or_assoc (p l kids) (any_record p kids) (any_record p rest) ∙ ap (p l kids ||◌) (sym (record_append p kids rest))

pub record_open : (p : Test) (ws : List ℕ) (i : ℕ) → i < length ws → any_record p (records_at ws i) ≡ (p (label_at ws i) (kids_at ws i) || any_record p (records_at ws (i + 1)))
record_open p ws i h =
    let whole : append_f (kids_at ws i) (drop_f (arity_at ws i) (records_at ws (i + 1))) ≡ records_at ws (i + 1) = unfold kids_at in take_drop (arity_at ws i) (records_at ws (i + 1)) in
    ap (any_record p) (records_node ws i h) ∙ record_node p (label_at ws i) (kids_at ws i) (drop_f (arity_at ws i) (records_at ws (i + 1)))
    ∙ ap (λ (f : Trees). p (label_at ws i) (kids_at ws i) || any_record p f) whole

pub record_past : (p : Test) (ws : List ℕ) (i : ℕ) → length ws ≤ i → any_record p (records_at ws i) ≡ false
record_past p ws i h = ap (any_record p) (records_past ws i h) ∙ (unfold any_record in refl)

-- none of the k records at `at`, at any depth, meets a test that none of their places does
module _ (p : Test) (ws : List ℕ) where
  abbrev None : ℕ → ℕ → Type 0
  None at k = ((j : ℕ) → at ≤ j → j < end_of ws at k → p (label_at ws j) (kids_at ws j) ≡ false) → any_record p (take_f k (records_at ws at)) ≡ false

  none_nothing : (f : Trees) → f ≡ end → any_record p f ≡ false
  unfolding any_record
  none_nothing f e = rw e

  none_step : (at : ℕ) → (at < length ws → (k : ℕ) → None (at + 1) k) → (k : ℕ) → None at k
  none_step at later zero h = none_nothing (take_f 0 (records_at ws at)) (unfold take_f in refl)
  none_step at later (suc k) h = by_end ws at here past
    where
      ends : at < length ws → end_of ws at (suc k) ≡ end_of ws (at + 1) (arity_at ws at + k)
      ends l = unfold end_of in omega (arith, size_open ws at k l)

      low : at < length ws → at < end_of ws at (suc k)
      low l = unfold end_of in omega (arith, size_open ws at k l)

      here : at < length ws → any_record p (take_f (suc k) (records_at ws at)) ≡ false
      here l =
          let own : p (label_at ws at) (kids_at ws at) ≡ false = h at (omega arith) (low l) in
          ap (any_record p) (row_open ws at k l) ∙ record_node p (label_at ws at) (kids_at ws at) _ ∙ ap (λ (f : Trees). p (label_at ws at) (kids_at ws at) || any_record p f) (row_kids ws at k)
          ∙ rw own (later l (arity_at ws at + k) (λ j a b. h j (omega arith) (omega (arith, b, ends l))))

      past : length ws ≤ at → any_record p (take_f (suc k) (records_at ws at)) ≡ false
      past l = none_nothing (take_f (suc k) (records_at ws at)) (ap (take_f (suc k)) (records_past ws at l) ∙ take_f_end (suc k))

  none_within : (m at : ℕ) → length ws - at ≤ m → (k : ℕ) → None at k
  none_within zero at h k = none_step at (λ l. absurd (omega arith)) k
  none_within (suc m) at h k = none_step at (λ l. none_within m (at + 1) (omega arith)) k

  pub none_records : (at k : ℕ) → ((j : ℕ) → at ≤ j → j < end_of ws at k → p (label_at ws j) (kids_at ws j) ≡ false) → any_record p (take_f k (records_at ws at)) ≡ false
  none_records at k = none_within (length ws) at (omega arith) k
