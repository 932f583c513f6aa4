-- `find_counts`: the invariant says that the notes from the place on are right, and where the next record stands that may change.
use mathlib.Core.Path.{◌≡◌, subst}
use native.Mathlib.Omega.{arith}
use Rattle.counter.specs.Contract.{Annotated}
use Rattle.count_table.specs.Note.{filled_start, filled_behind, filled_next, down}
use Rattle.count_table.proofs.find_counts.Goals as goal

pub loop-i-init : goal.loop-i-init
loop-i-init c = filled_start c.requires.planned

pub next_change-next-requires : goal.next_change-next-requires
next_change-next-requires c =
    let d = down c.loop-i.invariant c.loop-i-test.true in
    (omega (arith, d.low), d.planned, d.clear)

pub note-requires : goal.note-requires
note-requires c = (filled_behind c.requires (down c.loop-i.invariant c.loop-i-test.true), c.next_change-next.ensures)

pub loop-i-preserved : goal.loop-i-preserved
loop-i-preserved c = filled_next _ _ (down c.loop-i.invariant c.loop-i-test.true) c.next_change-next.ensures c.note.ensures.0 c.note.ensures.1

pub returns : goal.returns
returns c =
    let d = c.loop-i.invariant in
    let none : c.loop-i.i ≡ 0 = omega (arith, c.loop-i-test.false) in
    (d.planned, subst (Annotated c.args.ws.now _) none d.noted, d.long)
