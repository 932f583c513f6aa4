-- The children of the record at a place: the first of a kind, the decorators, the second child. Assumes nothing.
use Rattle.std.specs.Prelude.{◌≡◌, Bool, cond, List, length, get_or}
use Rattle.std.proofs.Math.Path.{refl, ap, sym, subst}
use Rattle.std.proofs.Common.{◌∙◌}
use Rattle.std.proofs.Math.Bool.{true, false, not}
use Prim.Native.Nat.{ℕ, zero, suc, ◌+◌, ◌-◌, ◌<◌, ◌≤◌}
use native.Mathlib.Omega.{arith}
use Rattle.std.proofs.Math.Dec.{ltb}
use borrow.Author.Tests.{eq-eqb, ne_eqb, ltb-true, ltb-false}
use Rattle.words.specs.Word.{kind_of, payload_of, children, child_table, children_le, payload_lt}
use Rattle.words.specs.Table.{lookup}
use Rattle.records.specs.Forest.{end, node, take_f, drop_f, append_f, take_f_end}
use Rattle.records.specs.Label.{Label, Trees, is, read_at}
use Rattle.records.specs.Place.{records_at, label_at, arity_at, kids_at, end_of, arity_at_children, end_low, end_high, end_add, end_one, end_drop, records_node, records_first, records_past, kids_past, word_past}
use Rattle.rewriting.specs.Parts.{is_empty, kids_of, decorators}
use Rattle.inspect.specs.Row.{Test, any_row, Passed, row_split, or_left, or_right, by_end}

-- ---- the number of children

-- by the record's kind
pub arity_kind : (ws : List ℕ) (at k : ℕ) → (label_at ws at).kind ≡ k → arity_at ws at ≡ children k (label_at ws at).payload
unfolding label_at read_at
arity_kind ws at k e = arity_at_children ws at ∙ rw e

-- past the end

pub arity_past : (ws : List ℕ) (at : ℕ) → length ws ≤ at → arity_at ws at ≡ 0
unfolding children child_table lookup kind_of payload_of
arity_past ws at h = arity_at_children ws at ∙ rw (word_past ws at h)

pub arity_lt : (ws : List ℕ) (at : ℕ) → arity_at ws at < 67108869
arity_lt ws at = omega (arith, arity_at_children ws at, children_le (kind_of (get_or ws at 0)) (payload_of (get_or ws at 0)), payload_lt (get_or ws at 0))

-- a record with children stands before the end
pub within : (ws : List ℕ) (at : ℕ) → (arity_at ws at ≡ 0 → ⊥) → at < length ws
within ws at h = by_end ws at (λ l. l) (λ l. absurd (h (arity_past ws at l)))

-- so does one of any kind but 0
pub kind_past : (ws : List ℕ) (at : ℕ) → length ws ≤ at → (label_at ws at).kind ≡ 0
unfolding label_at read_at kind_of
kind_past ws at h = rw (word_past ws at h)

pub kind_within : (ws : List ℕ) (at n : ℕ) → (label_at ws at).kind ≡ suc n → at < length ws
kind_within ws at n e = by_end ws at (λ l. l) (λ l. absurd (omega (arith, kind_past ws at l)))

-- ---- the first record of a kind

unfoldable pub of_kind : ℕ → Test
of_kind k l kids = is k l

pub kids_append : (k : ℕ) (f g : Trees) → any_row (of_kind k) f ≡ false → kids_of k (append_f f g) ≡ kids_of k g
unfolding any_row of_kind kids_of append_f
kids_append k end g e = refl
kids_append k (node l ks r) g e = rw (or_left (is k l) (any_row (of_kind k) r) e) (kids_append k r g (or_right (is k l) (any_row (of_kind k) r) e))

pub kids_none : (k : ℕ) (f : Trees) → any_row (of_kind k) f ≡ false → kids_of k f ≡ end
unfolding any_row of_kind kids_of
kids_none k end e = refl
kids_none k (node l ks r) e = rw (or_left (is k l) (any_row (of_kind k) r) e) (kids_none k r (or_right (is k l) (any_row (of_kind k) r) e))

pub kids_first : (k : ℕ) (l : Label) (kids rest : Trees) → is k l ≡ true → kids_of k (node l kids rest) ≡ kids
unfolding kids_of
kids_first k l kids rest e = rw e

-- the first record of a kind among the k at `at` stands at r, behind `index` others
pub record First (ws : List ℕ) (kind at k r : ℕ) : Type 0 where
  pub index : ℕ
  pub less : index < k
  pub place : r ≡ end_of ws at index
  pub others : any_row (of_kind kind) (take_f index (records_at ws at)) ≡ false
  pub kind_is : (label_at ws r).kind ≡ kind
  pub low : at ≤ r
  pub high : r < end_of ws at k

-- it stands at r, or there is none, and r is the end of the words
pub record Found (ws : List ℕ) (kind at k r : ℕ) : Type 0 where
  pub kids : kids_at ws r ≡ kids_of kind (take_f k (records_at ws at))
  pub most : r ≤ length ws
  pub first : r < length ws → First ws kind at k r
  pub missing : length ws ≤ r → any_row (of_kind kind) (take_f k (records_at ws at)) ≡ false

module _ (ws : List ℕ) (kind at k : ℕ) where
  pub found_none : any_row (of_kind kind) (take_f k (records_at ws at)) ≡ false → Found ws kind at k (length ws)
  found_none e = record {
    kids = kids_past ws (length ws) (omega arith) ∙ sym (kids_none kind (take_f k (records_at ws at)) e);
    most = omega arith;
    first = λ h. absurd (omega arith);
    missing = λ h. e;
  }

  pub found_here : {q i : ℕ} → Passed (of_kind kind) ws at k q i → i < k → q < length ws → (label_at ws q).kind ≡ kind → Found ws kind at k q
  found_here {q} {i} a h g e =
      let t : is kind (label_at ws q) ≡ true = unfold is in eq-eqb _ _ e in
      let n : k - i ≡ suc (k - i - 1) = omega arith in
      let hit : kids_of kind (take_f (k - i) (records_at ws q)) ≡ kids_at ws q =
      ap (λ (m : ℕ). kids_of kind (take_f m (records_at ws q))) n ∙ ap (kids_of kind) (records_first ws q (k - i - 1) g) ∙ kids_first kind _ _ _ t in
      let row : kids_of kind (take_f k (records_at ws at)) ≡ kids_of kind (take_f (k - i) (records_at ws q)) =
      ap (kids_of kind) (row_split ws at i k a.most) ∙ kids_append kind (take_f i (records_at ws at)) _ a.unmet ∙ ap (λ (m : ℕ). kids_of kind (take_f (k - i) (records_at ws m))) (sym a.place) in
      let sum : i + (k - i) ≡ k = omega arith in
      let one : 1 + (k - i - 1) ≡ k - i = omega arith in
      let ends : end_of ws at k ≡ end_of ws (end_of ws q 1) (k - i - 1) =
      ap (end_of ws at) (sym sum) ∙ end_add ws at i (k - i) ∙ ap (λ (m : ℕ). end_of ws m (k - i)) (sym a.place) ∙ ap (end_of ws q) (sym one) ∙ end_add ws q 1 (k - i - 1) in
      record {
        kids = sym (row ∙ hit);
        most = omega arith;
        first = λ _. record {
          index = i;
          less = h;
          place = a.place;
          others = a.unmet;
          kind_is = e;
          low = omega (arith, a.place, end_low ws at i);
          high = omega (arith, ends, end_one ws q g, end_low ws (q + 1) (arity_at ws q), end_low ws (end_of ws q 1) (k - i - 1));
        };
        missing = λ l. absurd (omega arith);
      }

-- no record stands before the first, and the end of the words is behind each
pub found_low : {ws : List ℕ} {kind at k r : ℕ} → Found ws kind (at + 1) k r → at < length ws → at < r
found_low {ws} {kind} {at} {k} {r} f h = by_end ws r (λ l. omega (arith, (f.first l).low)) (λ l. omega arith)

-- ---- the record at `at`

module _ (ws : List ℕ) (at : ℕ) where
  -- the first of its children of a kind
  pub child_none : (kind : ℕ) → arity_at ws at ≡ 0 → Found ws kind (at + 1) (arity_at ws at) (length ws)
  child_none kind e = found_none ws kind (at + 1) (arity_at ws at) (unfold take_f any_row in rw e)

  -- where it has none, no matter which place is searched
  pub child_at : {kind q n r : ℕ} → n ≡ arity_at ws at → (at ≤ length ws → q ≡ at + 1) → Found ws kind q n r → Found ws kind (at + 1) (arity_at ws at) r
  child_at {kind} {q} {n} {r} e place f = by_end ws at here past
    where
      here : at < length ws → Found ws kind (at + 1) (arity_at ws at) r
      here l = rw (← e, ← place (omega arith)) f

      past : length ws ≤ at → Found ws kind (at + 1) (arity_at ws at) r
      past l =
          let none : arity_at ws at ≡ 0 = arity_past ws at l in
          let last : length ws ≡ r = by_end ws r (λ g. absurd (omega (arith, (f.first g).less))) (λ g. omega (arith, f.most)) in
          subst (Found ws kind (at + 1) (arity_at ws at)) last (child_none kind none)

  pub child_kids : {kind r : ℕ} → Found ws kind (at + 1) (arity_at ws at) r → kids_at ws r ≡ kids_of kind (kids_at ws at)
  child_kids {kind} {r} f = f.kids ∙ (unfold kids_at in refl)

  -- its children, as a row
  pub kids_row : (n : ℕ) → n ≡ arity_at ws at → take_f n (records_at ws (at + 1)) ≡ kids_at ws at
  unfolding kids_at
  kids_row n e = rw e

  -- the same from the place behind its word, where there is one
  pub kids_row_at : (q n : ℕ) → n ≡ arity_at ws at → (at ≤ length ws → q ≡ at + 1) → take_f n (records_at ws q) ≡ kids_at ws at
  kids_row_at q n e place = by_end ws at here past
    where
      here : at < length ws → take_f n (records_at ws q) ≡ kids_at ws at
      here l = ap (λ (m : ℕ). take_f n (records_at ws m)) (place (omega arith)) ∙ kids_row n e

      past : length ws ≤ at → take_f n (records_at ws q) ≡ kids_at ws at
      past l =
          let none : take_f 0 (records_at ws q) ≡ end = unfold take_f in refl in
          ap (λ (m : ℕ). take_f m (records_at ws q)) (e ∙ arity_past ws at l) ∙ none ∙ sym (kids_past ws at l)

  -- has it a child
  pub empty_none : arity_at ws at ≡ 0 → not (is_empty (kids_at ws at)) ≡ false
  unfolding kids_at take_f is_empty
  empty_none e = rw e

  pub empty_room : (arity_at ws at ≡ 0 → ⊥) → not (is_empty (kids_at ws at)) ≡ ltb (at + 1) (length ws)
  unfolding kids_at take_f is_empty
  empty_room h = go (arity_at ws at) h (ltb (at + 1) (length ws)) refl
    where
      go : (n : ℕ) → (n ≡ 0 → ⊥) → (b : Bool) → ltb (at + 1) (length ws) ≡ b → not (is_empty (take_f n (records_at ws (at + 1)))) ≡ ltb (at + 1) (length ws)
      go zero h b e = absurd (h refl)
      go (suc n) h true e = rw (e, records_first ws (at + 1) n (ltb-true (at + 1) (length ws) e))
      go (suc n) h false e = rw (e, records_past ws (at + 1) (ltb-false (at + 1) (length ws) e))

-- its 28 stands at r, or it has none, and r is the end of the words
pub record DecoratorsAt (ws : List ℕ) (at r : ℕ) : Type 0 where
  pub kids : kids_at ws r ≡ decorators (kids_at ws at)
  pub most : r ≤ length ws
  pub first : r < length ws → (r ≡ at + 1) × ((label_at ws r).kind ≡ 28)

-- its second child stands at r, or it has none, and r is the end of the words
pub record SecondAt (ws : List ℕ) (at r : ℕ) : Type 0 where
  pub child : take_f 1 (records_at ws r) ≡ take_f 1 (drop_f 1 (kids_at ws at))
  pub most : r ≤ length ws
  pub place : 1 < arity_at ws at → r ≡ end_of ws (at + 1) 1

-- the word of its second child, or 0 where it has none
pub record SecondWord (ws : List ℕ) (at w : ℕ) : Type 0 where
  pub place : ℕ
  pub second : SecondAt ws at place
  pub word : w ≡ get_or ws place 0

pub decorators_row : (n : ℕ) (f : Trees) → decorators (take_f (suc n) f) ≡ decorators f
unfolding decorators take_f
decorators_row n end = refl
decorators_row n (node l k r) = refl

decorators_node : (b : Bool) (l : Label) (k r : Trees) → is 28 l ≡ b → decorators (node l k r) ≡ cond b k end
unfolding decorators
decorators_node b l k r e = rw e

pub drop_row : (n : ℕ) (f : Trees) → drop_f 1 (take_f (suc n) f) ≡ take_f n (drop_f 1 f)
unfolding drop_f take_f
drop_row n end = sym (take_f_end n)
drop_row n (node l k r) = refl

pub take_row : (n : ℕ) (f : Trees) → take_f 1 (take_f (suc n) f) ≡ take_f 1 f
unfolding take_f
take_row n end = refl
take_row n (node l k r) = refl

module _ (ws : List ℕ) (at : ℕ) where
  -- where there is no 28, nor any other child
  no_decorators : decorators (kids_at ws at) ≡ end → DecoratorsAt ws at (length ws)
  no_decorators e = record { kids = kids_past ws (length ws) (omega arith) ∙ sym e; most = omega arith; first = λ h. absurd (omega arith) }

  pub decorators_none : arity_at ws at ≡ 0 → DecoratorsAt ws at (length ws)
  decorators_none e = no_decorators (unfold kids_at take_f decorators in rw e)

  decorators_first : (arity_at ws at ≡ 0 → ⊥) → decorators (kids_at ws at) ≡ decorators (records_at ws (at + 1))
  unfolding kids_at
  decorators_first h = go (arity_at ws at) h
    where
      go : (n : ℕ) → (n ≡ 0 → ⊥) → decorators (take_f n (records_at ws (at + 1))) ≡ decorators (records_at ws (at + 1))
      go zero h = absurd (h refl)
      go (suc n) h = decorators_row n (records_at ws (at + 1))

  pub decorators_other : (arity_at ws at ≡ 0 → ⊥) → ((label_at ws (at + 1)).kind ≡ 28 → ⊥) → DecoratorsAt ws at (length ws)
  decorators_other h g = no_decorators (decorators_first h ∙ by_end ws (at + 1) here past)
    where
      here : at + 1 < length ws → decorators (records_at ws (at + 1)) ≡ end
      here l = ap decorators (records_node ws (at + 1) l) ∙ decorators_node false _ _ _ (unfold is in ne_eqb _ _ g)

      past : length ws ≤ at + 1 → decorators (records_at ws (at + 1)) ≡ end
      past l = ap decorators (records_past ws (at + 1) l) ∙ (unfold decorators in refl)

  pub decorators_here : (arity_at ws at ≡ 0 → ⊥) → (label_at ws (at + 1)).kind ≡ 28 → DecoratorsAt ws at (at + 1)
  decorators_here h g = record {
    kids = sym (decorators_first h ∙ ap decorators (records_node ws (at + 1) (kind_within ws (at + 1) 27 g)) ∙ decorators_node true _ _ _ (unfold is in eq-eqb _ _ g));
    most = omega (arith, kind_within ws (at + 1) 27 g);
    first = λ _. (refl, g);
  }

  pub second_none : arity_at ws at ≤ 1 → SecondAt ws at (length ws)
  unfolding kids_at
  second_none h = record { child = ap (take_f 1) (records_past ws (length ws) (omega arith)) ∙ take_f_end 1 ∙ sym (go (arity_at ws at) h); most = omega arith; place = λ g. absurd (omega arith) }
    where
      go : (n : ℕ) → n ≤ 1 → take_f 1 (drop_f 1 (take_f n (records_at ws (at + 1)))) ≡ end
      go zero h = unfold take_f drop_f in refl
      go (suc n) h = let e : n ≡ 0 = omega arith in ap (take_f 1) (drop_row n (records_at ws (at + 1))) ∙ ap (λ (m : ℕ). take_f 1 (take_f m (drop_f 1 (records_at ws (at + 1))))) e ∙ (unfold take_f in refl)

  pub second_here : 1 < arity_at ws at → SecondAt ws at (end_of ws (at + 1) 1)
  unfolding kids_at
  second_here h = record {
    child = sym (go (arity_at ws at) h ∙ ap (take_f 1) (end_drop ws (at + 1) 1));
    most = omega (arith, end_high ws (at + 1) 1, within ws at (omega arith));
    place = λ _. refl;
  }
    where
      go : (n : ℕ) → 1 < n → take_f 1 (drop_f 1 (take_f n (records_at ws (at + 1)))) ≡ take_f 1 (drop_f 1 (records_at ws (at + 1)))
      go zero h = absurd (omega arith)
      go (suc zero) h = absurd (omega arith)
      go (suc (suc n)) h = ap (take_f 1) (drop_row (suc n) (records_at ws (at + 1))) ∙ take_row n (drop_f 1 (records_at ws (at + 1)))
