-- What a reader has left: the places of its records, and the records as a row; a step of it. Assumes nothing.
use Rattle.std.specs.Prelude.{◌≡◌, refl, List, [], ℕ, suc, ◌+◌, ◌<◌, length}
use Rattle.std.proofs.Common.{sym, ap, ◌∙◌, arith}
use Rattle.std.specs.Iterator.{YieldsFirst}
use Rattle.std.specs.Option.{IfSome}
use Rattle.std.specs.declared.option.Option.{Option}
use Rattle.records.specs.Forest.{end, node, take_f}
use Rattle.records.specs.Label.{Trees}
use Rattle.records.specs.Place.{records_at, label_at, kids_at, arity_at, end_of, end_one, end_low, records_first}
use Rattle.records.specs.Places.{places, row_at, row_places}
use Rattle.inspect.specs.declared.reading.Reader.{Reader}

-- the places of the records that the reader has left, and these records
abbrev pub left : Reader → List ℕ
left r = places r.words.now r.at r.left

abbrev pub rest : Reader → Trees
rest r = take_f r.left (records_at r.words.now r.at)

-- the records that the reader has left, of the words ws, are f
pub record Reads (r : Reader) (ws : List ℕ) (f : Trees) : Type 0 where
  pub words : r.words.now ≡ ws
  pub row : take_f r.left (records_at ws r.at) ≡ f

-- what it has left, of its own words
pub reads_own : (r : Reader) → Reads r r.words.now (rest r)
reads_own r = record { words = refl; row = refl }

pub reads_rest : {r : Reader} {ws : List ℕ} {f : Trees} → Reads r ws f → rest r ≡ f
reads_rest e = rw e.words e.row

-- the reader r gives the place q, and is t behind the record there
pub record Step (r : Reader) (q : ℕ) (t : Reader) : Type 0 where
  pub place : q ≡ r.at
  pub inside : q < length r.words.now
  pub words : t.words.now ≡ r.words.now
  pub behind : t.at ≡ end_of r.words.now q 1
  pub count : r.left ≡ t.left + 1

-- a call of `next`
pub record Next (r : Reader) (o : Option ℕ) (t : Reader) : Type 0 where
  pub gives : YieldsFirst left r o t
  pub goes : IfSome o (λ q. Step r q t)

-- the record at the place comes first
pub step_rest : {r t : Reader} {q : ℕ} → Step r q t → rest r ≡ node (label_at r.words.now q) (kids_at r.words.now q) (take_f t.left (records_at r.words.now t.at))
step_rest {r} {t} {q} s =
    let n : r.left ≡ suc t.left = omega (arith, s.count) in
    rw (n, ← s.place, s.behind) (records_first r.words.now q t.left s.inside)

-- the place behind it comes later
pub step_low : {r t : Reader} {q : ℕ} → Step r q t → q < t.at
step_low {r} {t} {q} s = omega (arith, s.behind, end_one r.words.now q s.inside, end_low r.words.now (q + 1) (arity_at r.words.now q))

-- where no place is left, no record is
pub rest_none : (r : Reader) → left r ≡ [] → rest r ≡ end
unfolding row_at
rest_none r e = sym (row_places r.words.now r.at r.left) ∙ ap (row_at r.words.now) e
