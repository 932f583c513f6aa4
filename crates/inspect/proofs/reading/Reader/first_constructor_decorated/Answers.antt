-- `first_constructor_decorated`: the parameters of the first constructor, if there is one.
use borrow.Author.Tests.{tests}
use Rattle.std.proofs.Common.{rules}
use Rattle.inspect.specs.Chain.{first_decorated}
use Rattle.inspect.specs.Class.{constructs}
use Rattle.inspect.specs.Reads.{reads_own}
use Rattle.inspect.proofs.Read.{find_read}
use Rattle.inspect.proofs.reading.Reader.first_constructor_decorated.Goals as goal

pub returns : goal.returns
unfolding constructs
returns c =
    let r = c.args.self in
    first_decorated r.words.now r.at r.left c.find.result c.is_some_and.result (find_read r (reads_own r) constructs c.find.new.self _ c.find.result c.find.ensures.ran (λ x b q k. search (rules, tests))) c.is_some_and.ensures (λ q k. search rules)
