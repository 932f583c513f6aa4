-- `first_of`: a search for a record of the kind.
use borrow.Author.Tests.{tests}
use Rattle.std.proofs.Common.{rules}
use Rattle.words.specs.Kinds.{number}
use Rattle.records.specs.Label.{is}
use Rattle.inspect.specs.Child.{of_kind}
use Rattle.inspect.specs.Chain.{found}
use Rattle.inspect.specs.Reads.{reads_own}
use Rattle.inspect.proofs.Read.{find_read}
use Rattle.inspect.proofs.reading.Reader.first_of.Goals as goal

pub returns : goal.returns
unfolding of_kind is
returns c =
    let r = c.args.self in
    let k = number c.args.kind in
    rw c.unwrap_or.ensures (found r.words.now k r.at r.left c.find.result (find_read r (reads_own r) (of_kind k) c.find.new.self _ c.find.result c.find.ensures.ran (λ x b q k. search (rules, tests))))
