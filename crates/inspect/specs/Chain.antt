-- Chains over the places of the k records at a place: what is asked of the list of places is what is asked of the row of records. Assumes nothing.
use Rattle.std.specs.Prelude.{◌≡◌, refl, Bool, true, false, not, ◌||◌, cond, List, [], ◌∷◌, ℕ, zero, suc, ◌+◌, ◌<◌, ◌≤◌, length}
use Rattle.std.specs.List.{list_any, filter, find, position_or_len}
use Rattle.std.specs.Option.{MatchOption, unwrap_or}
use Rattle.std.specs.declared.option.Option.{Option}
use Rattle.std.specs.declared.option.Option.TheVariants.{None, Some}
use Rattle.std.proofs.Common.{sym, ap, subst, ◌∙◌, arith, ltb, ltb-true, ltb-false, eqb-true}
use borrow.Author.Tests.{lt-ltb, le-ltb}
use Rattle.records.specs.Forest.{end, node, take_f}
use Rattle.records.specs.Label.{Trees, is}
use Rattle.records.specs.Place.{records_at, label_at, arity_at, kids_at, end_of}
use Rattle.records.specs.Places.{places, row_at, row_places, places_none, places_past, places_more, few_places}
use Rattle.rewriting.specs.Parts.{is_empty, of_parameters, parameters_of, first_constructor}
use Rattle.inspect.specs.Class.{constructs, first_none, first_place}
use Rattle.inspect.specs.Child.{Found, of_kind, found_here, found_none}
use Rattle.inspect.specs.Reads.{Reads, rest, reads_rest}
use Rattle.inspect.specs.declared.reading.Reader.{Reader}
use Rattle.inspect.specs.Row.{Test, any_row, count_row, before, Passed, passed_start, passed_next, any_all, any_past, before_here, by_end}

-- the test of the record at a place
abbrev pub here : Test → List ℕ → ℕ → Bool
here p ws q = p (label_at ws q) (kids_at ws q)

module _ (p : Test) (ws : List ℕ) where
  any_at : (qs : List ℕ) → list_any (here p ws) qs ≡ any_row p (row_at ws qs)
  unfolding any_row row_at
  any_at [] = refl
  any_at (q ∷ qs) = ap (here p ws q ||◌) (any_at qs)

  pub any_places : (at k : ℕ) → list_any (here p ws) (places ws at k) ≡ any_row p (take_f k (records_at ws at))
  any_places at k = any_at (places ws at k) ∙ ap (any_row p) (row_places ws at k)

  count_at : (qs : List ℕ) → length (filter (here p ws) qs) ≡ count_row p (row_at ws qs)
  unfolding count_row row_at
  count_at [] = refl
  count_at (q ∷ qs) = go (here p ws q) (count_at qs)
    where
      go : (b : Bool) → length (filter (here p ws) qs) ≡ count_row p (row_at ws qs) → length (cond b (q ∷ filter (here p ws) qs) (filter (here p ws) qs)) ≡ cond b 1 0 + count_row p (row_at ws qs)
      go true h = omega (arith, h)
      go false h = omega (arith, h)

  pub count_places : (at k : ℕ) → length (filter (here p ws) (places ws at k)) ≡ count_row p (take_f k (records_at ws at))
  count_places at k = count_at (places ws at k) ∙ ap (count_row p) (row_places ws at k)

  -- the place of the first among them, or k, is the number of records before it
  first_at : (k : ℕ) (qs : List ℕ) → length qs ≤ k → cond (ltb (position_or_len (here p ws) qs) (length qs)) (position_or_len (here p ws) qs) k ≡ before p k (row_at ws qs)
  unfolding before row_at
  first_at zero [] h = refl
  first_at (suc k) [] h = refl
  first_at zero (q ∷ qs) h = absurd (omega arith)
  first_at (suc k) (q ∷ qs) h = go (here p ws q) (first_at k qs (omega arith))
    where
      i : ℕ
      i = position_or_len (here p ws) qs

      go : (b : Bool) → cond (ltb i (length qs)) i k ≡ before p k (row_at ws qs) →
          cond (ltb (cond (not b) (1 + i) 0) (suc (length qs))) (cond (not b) (1 + i) 0) (suc k) ≡ cond b 0 (suc (before p k (row_at ws qs)))
      go true h = rw (lt-ltb 0 (suc (length qs)) (omega arith))
      go false h = later (ltb i (length qs)) refl
        where
          later : (b : Bool) → ltb i (length qs) ≡ b → cond (ltb (1 + i) (suc (length qs))) (1 + i) (suc k) ≡ suc (before p k (row_at ws qs))
          later true e = let l : ltb (1 + i) (suc (length qs)) ≡ true = lt-ltb _ _ (omega (arith, ltb-true i (length qs) e)) in let w = rw e at h in rw l (omega (arith, w))
          later false e = let l : ltb (1 + i) (suc (length qs)) ≡ false = le-ltb _ _ (omega (arith, ltb-false i (length qs) e)) in let w = rw e at h in rw l (omega (arith, w))

pub before_row : (p : Test) (k : ℕ) (f : Trees) → before p k (take_f k f) ≡ before p k f
unfolding before take_f
before_row p zero f = refl
before_row p (suc k) end = refl
before_row p (suc k) (node l kids rest) = ap (λ (n : ℕ). cond (p l kids) 0 (suc n)) (before_row p k rest)

-- the number of records before the first, by its number in the list
pub before_places : (p : Test) (ws : List ℕ) (at k : ℕ) → unwrap_or (cond (ltb (position_or_len (here p ws) (places ws at k)) (length (places ws at k))) (Some (position_or_len (here p ws) (places ws at k))) None) k ≡ before p k (take_f k (records_at ws at))
before_places p ws at k = whole (ltb (position_or_len (here p ws) (places ws at k)) (length (places ws at k))) _ ∙ first_at p ws k (places ws at k) (few_places ws at k) ∙ ap (before p k) (row_places ws at k)
  where
    whole : (b : Bool) (i : ℕ) → unwrap_or (cond b (Some i) None) k ≡ cond b i k
    whole true i = refl
    whole false i = refl

-- of the children of a record, by their places
pub first_kids : {r : Reader} {ws : List ℕ} (at : ℕ) {k j : ℕ} → Reads r ws (kids_at ws at) → r.left ≡ arity_at ws at → k ≡ arity_at ws at → j ≡ before constructs r.left (rest r) →
    j ≡ before constructs k (records_at ws (at + 1))
unfolding kids_at
first_kids {r} {ws} at {k} e l m b =
    b ∙ ap (before constructs r.left) (reads_rest e) ∙ ap (λ (n : ℕ). before constructs n (kids_at ws at)) l ∙ before_row constructs (arity_at ws at) (records_at ws (at + 1))
    ∙ ap (λ (n : ℕ). before constructs n (records_at ws (at + 1))) (sym m)

-- the first record that meets the test, among the k records at `at`, stands at r
pub record Hit (p : Test) (ws : List ℕ) (at k r : ℕ) : Type 0 where
  pub index : ℕ
  pub passed : Passed p ws at k r index
  pub less : index < k
  pub inside : r < length ws
  pub met : p (label_at ws r) (kids_at ws r) ≡ true

module _ (p : Test) (ws : List ℕ) (at k : ℕ) where
  abbrev pub Search : Option ℕ → Type 0
  Search o = MatchOption o (any_row p (take_f k (records_at ws at)) ≡ false) (λ r. Hit p ws at k r)

  -- i records are passed, and m are left
  search_on : (m q i : ℕ) → i + m ≡ k → Passed p ws at k q i → Search (find (here p ws) (places ws q m))
  search_on zero q i e a = subst (λ (qs : List ℕ). Search (find (here p ws) qs)) (sym (places_none ws q 0 refl)) (any_all p ws at k a (omega arith))
  search_on (suc m) q i e a = by_end ws q (on (λ l t. search_on m (end_of ws q 1) (i + 1) (omega arith) (passed_next p ws at k a (omega arith) l refl t))) past
    where
      past : length ws ≤ q → Search (find (here p ws) (places ws q (suc m)))
      past l = subst (λ (qs : List ℕ). Search (find (here p ws) qs)) (sym (places_past ws q (suc m) l)) (any_past p ws at k a l)

      on : (q < length ws → here p ws q ≡ false → Search (find (here p ws) (places ws (end_of ws q 1) m))) → q < length ws → Search (find (here p ws) (places ws q (suc m)))
      on later l = subst (λ (qs : List ℕ). Search (find (here p ws) qs)) (sym (places_more ws q m l)) (go (here p ws q) refl)
        where
          go : (b : Bool) → here p ws q ≡ b → Search (cond b (Some q) (find (here p ws) (places ws (end_of ws q 1) m)))
          go true t = record { index = i; passed = a; less = omega arith; inside = l; met = t }
          go false t = later l t

  pub searched : Search (find (here p ws) (places ws at k))
  searched = search_on k at 0 (omega arith) (passed_start p ws at k)

-- the first record of a kind, or the end of the words
pub found : (ws : List ℕ) (kind at k : ℕ) (o : Option ℕ) → Search (of_kind kind) ws at k o → Found ws kind at k (unwrap_or o (length ws))
found ws kind at k None e = found_none ws kind at k e
found ws kind at k (Some r) h = found_here ws kind at k h.passed h.less h.inside (eqb-true _ _ (unfold of_kind is in h.met))

-- rule 7: what is said of the first constructor's parameters, or false where there is none
pub first_decorated : (ws : List ℕ) (at k : ℕ) (o : Option ℕ) (b : Bool) {Said : ℕ → Type 0} → Search constructs ws at k o → MatchOption o (b ≡ false) Said →
    ((q : ℕ) → Said q → b ≡ not (is_empty (of_parameters 0 (parameters_of (kids_at ws q))))) → b ≡ not (is_empty (first_constructor (take_f k (records_at ws at))))
first_decorated ws at k None b none e means = e ∙ sym (ap (λ (f : Trees). not (is_empty f)) (first_none _ none) ∙ (unfold is_empty in refl))
first_decorated ws at k (Some q) b h said means =
    let i : h.index ≡ before constructs k (records_at ws at) = sym (before_here constructs ws at k h.passed h.less h.inside h.met) in
    means q said ∙ sym (ap (λ (f : Trees). not (is_empty f)) (first_place ws at k h.index i h.less ∙ ap (λ (m : ℕ). of_parameters 0 (parameters_of (kids_at ws m))) (sym h.passed.place)))
