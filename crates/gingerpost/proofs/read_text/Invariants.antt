-- `read_text`: the reading is ready at every turn.
use Rattle.line_reader.specs.Text.{Ready}
use Rattle.gingerpost.proofs.read_text.Given as goal

abbrev pub invariant-loop : goal.invariant-loop
invariant-loop g l = Ready l.ws l.reading
