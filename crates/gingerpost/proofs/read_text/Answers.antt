-- `read_text`: a reading stays ready.
use Rattle.line_reader.specs.Text.{ready_start, ready_after}
use Rattle.gingerpost.proofs.read_text.Goals as goal

pub loop-init : goal.loop-init
loop-init g c = ready_start _ _ c.start-reading.ensures

pub loop-preserved : goal.loop-preserved
loop-preserved g c = ready_after c.loop.invariant c.read-in_default.ensures

pub returns-in-0 : goal.returns-in-0
returns-in-0 g c = ready_after c.loop.invariant c.read-in-0.ensures
