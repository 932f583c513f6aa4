use Rattle.records.specs.Ends.{Ends}
use mathlib.Core.Path.{◌≡◌}
use lib.ListN.{length}
use Rattle.records.proofs.find_ends.Given as goal

abbrev pub invariant-loop-i : goal.invariant-loop-i
invariant-loop-i l = Ends l.ws l.notes l.i × (length l.notes ≡ length l.initial.notes)
