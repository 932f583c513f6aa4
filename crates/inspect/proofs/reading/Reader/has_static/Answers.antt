-- `has_static`: a test of each element.
use borrow.Author.Tests.{tests}
use mathlib.Core.Path.{sym, ◌∙◌}
use Rattle.std.proofs.Common.{rules}
use Rattle.inspect.specs.Class.{is_static, static_any}
use Rattle.inspect.specs.Reads.{reads_own}
use Rattle.inspect.proofs.Read.{any_read}
use Rattle.inspect.proofs.reading.Reader.has_static.Goals as goal

pub returns : goal.returns
unfolding is_static
returns c = any_read c.args.self (reads_own _) is_static c.any.new.self _ _ c.any.ensures.ran (λ x b q k. search (rules, tests)) ∙ sym (static_any _)
