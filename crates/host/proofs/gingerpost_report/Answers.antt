-- `gingerpost_report`: the job's answer, in one number.
use Rattle.std.proofs.Common.{sym, ap, ◌∙◌, arith, subst}
use Rattle.rewriting.specs.Answer.{report_words}
use Rattle.host.specs.Bytes.{words_of_bytes}
use Rattle.host.specs.Entry.{number_of, InFields, report_bytes}
use Rattle.host.specs.EntryLaws.{bytes_fields, report_bound, report_lent}
use Rattle.host.proofs.gingerpost_report.Goals as goal

pub number-requires : goal.number-requires
number-requires c =
    let bs = c.args.bytes.now in
    subst InFields (sym c.entry.ensures.numbers) (bytes_fields bs (report_words (words_of_bytes bs)) c.args.out.now (λ t. omega (arith, report_bound (words_of_bytes bs) t)))

pub returns-clause-number : goal.returns-clause-number
unfolding report_bytes
returns-clause-number c = c.number.ensures ∙ ap number_of c.entry.ensures.numbers

pub returns-clause-lent : goal.returns-clause-lent
returns-clause-lent c = report_lent c.entry.ensures.lent
