-- The elements of a body by their marks: one of them is marked where one is a decorated member. Assumes nothing.
use Rattle.std.specs.Prelude.{◌≡◌, refl, List, ℕ, zero, suc, ◌+◌, ◌<◌, ◌≤◌, length, get_or}
use Rattle.std.specs.List.{list_any}
use Rattle.std.proofs.Common.{sym, subst, ◌∙◌, arith}
use Rattle.records.specs.Ends.{blank}
use Rattle.records.specs.Forest.{take_f}
use Rattle.records.specs.declared.Note.{Note}
use Rattle.records.specs.Place.{records_at, label_at, kids_at, end_of, end_none, end_add}
use Rattle.records.specs.Places.{places, places_none, places_past, places_more}
use Rattle.rewriting.specs.Parts.{is_decorated_member}
use Rattle.inspect.specs.Chain.{here, any_places}
use Rattle.inspect.specs.Row.{any_row, by_end}
use Rattle.mark_table.specs.Marks.{ElementMarks, element_mark}

module _ (ws : List ℕ) (notes : List Note) where
  -- the marks of the elements behind the first
  marks_behind : (at k : ℕ) → ElementMarks ws notes at (suc k) → ElementMarks ws notes (end_of ws at 1) k
  unfolding ElementMarks
  marks_behind at k m j l g =
      let e : end_of ws at (1 + j) ≡ end_of ws (end_of ws at 1) j = end_add ws at 1 j in
      subst (λ (q : ℕ). q < length ws → (get_or notes q blank).marked ≡ is_decorated_member (label_at ws q) (kids_at ws q)) e (m (1 + j) (omega arith)) g

  same_any : (at k : ℕ) → ElementMarks ws notes at k → list_any (λ q. (get_or notes q blank).marked) (places ws at k) ≡ list_any (here is_decorated_member ws) (places ws at k)
  same_any at zero m = rw (places_none ws at 0 refl)
  same_any at (suc k) m = by_end ws at (inside (same_any (end_of ws at 1) k (marks_behind at k m))) past
    where
      past : length ws ≤ at → list_any (λ q. (get_or notes q blank).marked) (places ws at (suc k)) ≡ list_any (here is_decorated_member ws) (places ws at (suc k))
      past l = rw (places_past ws at (suc k) l)

      inside : list_any (λ q. (get_or notes q blank).marked) (places ws (end_of ws at 1) k) ≡ list_any (here is_decorated_member ws) (places ws (end_of ws at 1) k) → at < length ws →
          list_any (λ q. (get_or notes q blank).marked) (places ws at (suc k)) ≡ list_any (here is_decorated_member ws) (places ws at (suc k))
      inside others l =
          let first : (get_or notes at blank).marked ≡ is_decorated_member (label_at ws at) (kids_at ws at) = element_mark ws notes at (suc k) at 0 m (sym (end_none ws at)) (omega arith) l in
          rw (places_more ws at k l, first, others)

  pub marks_any : {at k q n : ℕ} → q ≡ at → n ≡ k → ElementMarks ws notes at k → list_any (λ q. (get_or notes q blank).marked) (places ws q n) ≡ any_row is_decorated_member (take_f k (records_at ws at))
  marks_any {at} {k} {q} {n} e f m = rw (e, f) (same_any at k m ∙ any_places is_decorated_member ws at k)
