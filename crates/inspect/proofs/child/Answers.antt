-- `child`: the first among the children.
use Rattle.inspect.specs.Child.{child_at}
use Rattle.inspect.proofs.child.Goals as goal

pub returns : goal.returns
returns c = let r = c.children.ensures in child_at c.args.ws.now c.args.at r.1 r.2 (rw r.0.words at c.first_of.ensures)
