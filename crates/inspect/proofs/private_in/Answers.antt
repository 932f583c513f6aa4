-- `private_in`: the children of the decorators' record.
use mathlib.Core.Path.{ap, ◌∙◌}
use Rattle.records.specs.Forest.{any_f}
use Rattle.records.specs.Label.{is}
use Rattle.inspect.specs.Reads.{reads_rest}
use Rattle.inspect.proofs.private_in.Goals as goal

pub returns : goal.returns
returns c = c.contains.ensures ∙ ap (any_f (is 19)) (reads_rest c.children.ensures.0 ∙ c.decorators.ensures.kids)
