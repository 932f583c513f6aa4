use Rattle.mark_table.specs.Marks.{Done}
use lib.ListN.{length}
use Rattle.mark_table.proofs.find_marks.Given as goal

abbrev pub invariant-loop-i : goal.invariant-loop-i
invariant-loop-i l = Done l.ws l.notes (length l.initial.notes) l.i l.test l.refused
