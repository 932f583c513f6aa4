-- What is read is stored in the words that were lent.
use Rattle.std.proofs.Common.{◌≡◌}
use Rattle.case_lines.proofs.Reading.read_all.Given as goal

abbrev pub invariant-loop-b : goal.invariant-loop-b
invariant-loop-b l = l.self.words.ghost_name ≡ l.initial.self.words.ghost_name
