-- `read`: the bytes so far, and one more.
use Rattle.line_reader.specs.Text.{follows_none, follows_more}
use Rattle.line_reader.proofs.Reading.read.Goals as goal

pub loop-b-init : goal.loop-b-init
loop-b-init c = follows_none _ _ c.requires

pub loop-b-preserved : goal.loop-b-preserved
loop-b-preserved c = follows_more _ _ c.loop-b-test.true c.loop-b.invariant c.read_byte.ensures
