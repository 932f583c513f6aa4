-- `entry`: refused at once, or by arrays that are long enough.
use Rattle.std.proofs.Common.{sym, ◌∙◌, length, arith}
use Rattle.rewriter.specs.Numbers.{numbers_of}
use Rattle.host.specs.Bytes.{words_of_bytes}
use Rattle.host.specs.EntryLaws.{good_length, answer_bad, lends_refused}
use Rattle.host.proofs.entry.Goals as goal

pub returns-then-is_bad_length-clause-numbers : goal.returns-then-is_bad_length-clause-numbers
unfolding numbers_of
returns-then-is_bad_length-clause-numbers g c = sym (answer_bad c.args.bytes.now (g.J.Job.words (words_of_bytes c.args.bytes.now)) c.args.out.now (sym c.is_bad_length.ensures ∙ c.if-is_bad_length.true))

pub returns-then-is_bad_length-clause-lent : goal.returns-then-is_bad_length-clause-lent
returns-then-is_bad_length-clause-lent g c =
    let xs = g.J.Job.words (words_of_bytes c.args.bytes.now) in
    lends_refused g.J.Job.Same c.args.bytes.now xs c.args.out.now 1 (g.met.J.Job.in_order xs) (λ z. omega arith) (answer_bad c.args.bytes.now xs c.args.out.now (sym c.is_bad_length.ensures ∙ c.if-is_bad_length.true))

pub entry_by-requires-2 : goal.entry_by-requires-2
entry_by-requires-2 g c =
    let good = good_length (length c.args.bytes.now) (sym c.is_bad_length.ensures ∙ c.if-is_bad_length.false) in
    (good.0, good.1, omega arith, omega arith)
