-- `constructor_decorated`: a test of each element.
use borrow.Author.Tests.{tests}
use mathlib.Core.Path.{sym, ◌∙◌}
use Rattle.std.proofs.Common.{rules}
use Rattle.inspect.specs.Class.{is_decorated_constructor, constructors_any}
use Rattle.inspect.specs.Reads.{reads_own}
use Rattle.inspect.proofs.Read.{any_read}
use Rattle.inspect.proofs.reading.Reader.constructor_decorated.Goals as goal

pub returns : goal.returns
unfolding is_decorated_constructor
returns c = any_read c.args.self (reads_own _) is_decorated_constructor c.any.new.self _ _ c.any.ensures.ran (λ x b q k. search (rules, tests)) ∙ sym (constructors_any _)
