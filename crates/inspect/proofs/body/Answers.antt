-- `body`: the first 29 of the children.
use Rattle.rewriting.specs.Parts.{elements_of}
use Rattle.inspect.specs.Child.{child_kids}
use Rattle.inspect.proofs.body.Goals as goal

pub returns : goal.returns
unfolding elements_of
returns c = (child_kids c.args.ws.now c.args.at c.child.ensures, c.child.ensures)
