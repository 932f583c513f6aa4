-- `any_decorated`: a test of each parameter.
use borrow.Author.Tests.{tests}
use Rattle.std.proofs.Common.{rules}
use Rattle.inspect.specs.Class.{has_decorators}
use Rattle.inspect.specs.Reads.{reads_own}
use Rattle.inspect.proofs.Read.{any_read}
use Rattle.inspect.proofs.reading.Reader.any_decorated.Goals as goal

pub returns : goal.returns
unfolding has_decorators
returns c = any_read c.args.self (reads_own _) has_decorators c.any.new.self _ _ c.any.ensures.ran (λ x b q k. search (rules, tests))
