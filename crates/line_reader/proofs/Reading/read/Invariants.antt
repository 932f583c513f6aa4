-- `read`: the bytes so far have been read.
use Rattle.std.proofs.Common.{take}
use Rattle.line_reader.specs.Text.{Follows}
use Rattle.line_reader.proofs.Reading.read.Given as goal

abbrev pub invariant-loop-b : goal.invariant-loop-b
invariant-loop-b l = Follows (take l.b-index l.bytes) l.initial.ws l.initial.reading l.ws l.reading
