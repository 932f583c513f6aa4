-- `call_count`: the decorated members are counted.
use borrow.Author.Tests.{tests}
use lib.ListN.{length}
use mathlib.Core.Logic.{inl}
use mathlib.Core.Path.{ap, ◌∙◌}
use native.Mathlib.Omega.{arith}
use Rattle.std.proofs.Common.{rules}
use Rattle.std.proofs.lemmas.Iterator.Consumers.{YieldsList-at, YieldsList-from_filter, count_from_yields_List}
use Rattle.records.specs.Places.{few_places}
use Rattle.rewriting.specs.Parts.{is_decorated_member}
use Rattle.inspect.specs.Chain.{here, count_places}
use Rattle.inspect.specs.Class.{count_called}
use Rattle.inspect.specs.Reads.{left, reads_own}
use Rattle.inspect.proofs.Read.{reads}
use Rattle.inspect.proofs.reading.Reader.call_count.Goals as goal

pub count-requires-clause-fits : goal.count-requires-clause-fits
count-requires-clause-fits c =
    let r = c.args.self in
    inl (omega (arith, ap (λ r. length (left r)) c.filter.ensures.source, few_places r.words.now r.at r.left))

pub returns : goal.returns
unfolding count_called
returns c =
    let r = c.args.self in
    let ws = r.words.now in
    count_from_yields_List c.filter.result _ c.count.ensures.ran (YieldsList-from_filter _ (here is_decorated_member ws) (YieldsList-at c.filter.ensures.source (reads r (reads_own r))) c.filter.ensures.closure (λ x b q k. search (rules, tests)))
    ∙ count_places is_decorated_member ws r.at r.left
