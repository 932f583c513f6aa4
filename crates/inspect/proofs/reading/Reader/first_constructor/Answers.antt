-- `first_constructor`: the number of the first in the list.
use borrow.Author.Tests.{tests}
use mathlib.Core.Logic.{inl}
use native.Mathlib.Omega.{arith}
use Rattle.records.specs.Places.{few_places}
use mathlib.Core.Path.{◌∙◌}
use Rattle.std.proofs.Common.{rules}
use Rattle.inspect.specs.Class.{constructs}
use Rattle.inspect.specs.Reads.{reads_own}
use Rattle.inspect.proofs.Read.{position_read}
use Rattle.inspect.proofs.reading.Reader.first_constructor.Goals as goal

pub position-requires-clause-fits : goal.position-requires-clause-fits
position-requires-clause-fits c = let r = c.args.self in inl (omega (arith, few_places r.words.now r.at r.left))

pub returns : goal.returns
unfolding constructs
returns c = c.unwrap_or.ensures ∙ position_read c.args.self (reads_own _) constructs c.position.new.self _ c.position.result c.position.ensures.ran (λ x b q k. search (rules, tests))
