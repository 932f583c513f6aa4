use lib.ListN.{length}
use Rattle.count_table.specs.Note.{Filled}
use Rattle.count_table.proofs.find_counts.Given as goal

abbrev pub invariant-loop-i : goal.invariant-loop-i
invariant-loop-i l = Filled l.ws l.notes (length l.initial.notes) l.i l.next
