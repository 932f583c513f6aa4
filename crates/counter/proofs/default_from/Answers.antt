-- `default_from`: the two ways out are those of `default_from`.
use Rattle.std.proofs.Common.{rules}
use Rattle.counter.specs.Contract.{Near, default_from}
use Rattle.counter.proofs.default_from.Goals as goal

pub overflow_add-result : goal.overflow_add-result
unfolding Near
overflow_add-result c = search rules

pub returns-in-Some : goal.returns-in-Some
unfolding default_from
returns-in-Some c = search rules

pub returns-in-None : goal.returns-in-None
unfolding default_from
returns-in-None c = search rules
