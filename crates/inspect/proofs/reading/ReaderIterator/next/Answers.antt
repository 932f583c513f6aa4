-- `next`: the first of the places, if a record is left and stands before the end.
use mathlib.Core.Path.{refl, ap}
use lib.ListN.{length}
use native.Mathlib.Omega.{arith}
use Rattle.records.specs.Places.{places_none, places_past, places_first}
use Rattle.inspect.proofs.reading.ReaderIterator.next.Goals as goal
use Rattle.inspect.proofs.reading.ReaderIterator.next.Goals.{then-self-eq0-via-then-self-eq0, then-self-eq0-via-else-self-eq0+then-self}

pub returns-then-self-eq0-clause-steps : goal.returns-then-self-eq0-clause-steps
returns-then-self-eq0-clause-steps c =
    let r = c.args.self.now in
    elim c.then-self-eq0.branch [
      | then-self-eq0-via-then-self-eq0 w ↦ let e = places_none r.words.now r.at r.left w.if-self-eq0.true in record { gives = (e, e); goes = tt }
      | then-self-eq0-via-else-self-eq0+then-self w ↦ let e = places_past r.words.now r.at r.left w.if-self.true in record { gives = (e, e); goes = tt }
    ]

pub returns-clause-steps : goal.returns-clause-steps
returns-clause-steps c =
    let r = c.args.self.now in
    record {
      gives = places_first r.words.now r.at r.left _ (omega arith) c.if-self.false c.behind-self.ensures;
      goes = record { place = refl; inside = c.if-self.false; words = refl; behind = c.behind-self.ensures; count = omega arith };
    }

pub returns-clause-goes : goal.returns-clause-goes
returns-clause-goes c =
    let r = c.args.self.now in
    let fewer = ap length (places_first r.words.now r.at r.left _ (omega arith) c.if-self.false c.behind-self.ensures) in
    record { on = λ _. (tt, tt, omega (arith, fewer)); keeps = tt; rests = λ _. tt }
