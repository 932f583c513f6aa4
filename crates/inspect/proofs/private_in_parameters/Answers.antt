-- `private_in_parameters`: the 23s of the entries hold the decorators, and are no 19.
use borrow.Author.Tests.{tests}
use mathlib.Core.Path.{sym, ◌∙◌}
use Rattle.std.proofs.Common.{rules}
use Rattle.inspect.specs.Private.{private_in, parameters_private}
use Rattle.inspect.proofs.Read.{any_read}
use Rattle.inspect.proofs.private_in_parameters.Goals as goal

pub returns : goal.returns
unfolding private_in
returns c = any_read c.parameters_of.result c.parameters_of.ensures.0 private_in c.any.new.self _ _ c.any.ensures.ran (λ x b q k. search (rules, tests)) ∙ sym (parameters_private 0 _)
