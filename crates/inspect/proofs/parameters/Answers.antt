-- `parameters`: the first 36 of the children.
use Rattle.rewriting.specs.Parts.{parameters_of}
use Rattle.inspect.specs.Child.{child_kids}
use Rattle.inspect.proofs.parameters.Goals as goal

pub returns : goal.returns
unfolding parameters_of
returns c = (child_kids c.args.ws.now c.args.at c.child.ensures, c.child.ensures)
