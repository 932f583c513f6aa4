use Rattle.std.proofs.Common.{refl, arith}
use Rattle.validation.specs.Waiting.{stacked}
use Rattle.validation.specs.Walks.{roomy_none}
use Rattle.validation.proofs.Stack.new.Goals as goal

pub invariant_of-result : goal.invariant_of-result
unfolding stacked
invariant_of-result g c = (omega arith, c.requires, roomy_none)

pub returns : goal.returns
unfolding stacked
returns g c = refl
