-- Notes of where records end. Assumes nothing.
use Rattle.std.specs.Prelude.{◌≡◌, refl, Bool, true, false, List, ℕ, ◌+◌, ◌-◌, ◌<◌, ◌≤◌, eqb, length, get_or, set}
use Rattle.std.proofs.Common.{ap, ◌∙◌, arith, length-set, get_or-set_same, get_or-set_other, eqb-true}
use Rattle.std.proofs.lemmas.Bool.{eqb-false}
use Rattle.records.specs.Place.{end_of, end_add}
use Rattle.records.specs.declared.Note.{Note}

-- the note of a place past the end of the notes, and of one that was not noted yet
abbrev pub blank : Note
blank = record { end = 0; count = 0; marked = false; still = false }

-- the notes of the places from `at` on say where the record there ends
pub record Ends (ws : List ℕ) (notes : List Note) (at : ℕ) : Type 0 where
  pub long : length ws ≤ length notes
  pub right : (i : ℕ) → at ≤ i → i < length ws → (get_or notes i blank).end ≡ end_of ws i 1

pub ends_on : {ws : List ℕ} {notes : List Note} {at : ℕ} (q : ℕ) → Ends ws notes at → at ≤ q → Ends ws notes q
ends_on q e l = record { long = e.long; right = λ i m h. e.right i (omega arith) h }

pub ends_at : {ws : List ℕ} {notes : List Note} (q : ℕ) → Ends ws notes 0 → Ends ws notes q
ends_at q e = ends_on q e (omega arith)

pub ends_none : (ws : List ℕ) (notes : List Note) → length ws ≤ length notes → Ends ws notes (length ws)
ends_none ws notes l = record { long = l; right = λ i m h. absurd (omega (arith, m, h)) }

-- a note put in the place i, where those of the other places are right
ends_put : (ws : List ℕ) (notes : List Note) (at i : ℕ) (v : Note) → length ws ≤ length notes → ((j : ℕ) → at ≤ j → (j ≡ i → ⊥) → j < length ws → (get_or notes j blank).end ≡ end_of ws j 1) →
    (i < length ws → v.end ≡ end_of ws i 1) → Ends ws (set notes i v) at
ends_put ws notes at i v l e z = record { long = omega (arith, l, length-set notes i v); right = λ j m h. go j m h (eqb j i) refl }
  where
    go : (j : ℕ) → at ≤ j → j < length ws → (x : Bool) → eqb j i ≡ x → (get_or (set notes i v) j blank).end ≡ end_of ws j 1
    go j m h true s =
        let same : j ≡ i = eqb-true j i s in
        let low : i < length ws = omega (arith, same, h) in
        rw (same, get_or-set_same notes i v blank (omega (arith, l, low))) (z low)
    go j m h false s = rw (get_or-set_other notes i j v blank (eqb-false j i s)) (e j m (eqb-false j i s) h)

pub ends_set : {ws : List ℕ} {notes : List Note} {at i : ℕ} (v : Note) → Ends ws notes at → (i < length ws → v.end ≡ end_of ws i 1) → Ends ws (set notes i v) at
ends_set {ws} {notes} {at} {i} v e z = ends_put ws notes at i v e.long (λ j m n h. e.right j m h) z

pub ends_down : {ws : List ℕ} {notes : List Note} {i : ℕ} (v : Note) → Ends ws notes (i + 1) → v.end ≡ end_of ws i 1 → Ends ws (set notes i v) i
ends_down {ws} {notes} {i} v e z = ends_put ws notes i i v e.long (λ j m n h. e.right j (omega (arith, m, n)) h) λ l. z

-- one of the records to pass is passed
pub end_step : (ws : List ℕ) (q n : ℕ) → 1 ≤ n → end_of ws q n ≡ end_of ws (end_of ws q 1) (n - 1)
end_step ws q n l = let e : n ≡ 1 + (n - 1) = omega arith in ap (end_of ws q) e ∙ end_add ws q 1 (n - 1)
