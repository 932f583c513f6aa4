-- `gingerpost_rewrite`: the job's answer, in one number.
use Rattle.std.proofs.Common.{sym, ap, ◌∙◌, subst}
use Rattle.rewriting.specs.Answer.{module_words}
use Rattle.host.specs.Bytes.{words_of_bytes}
use Rattle.host.specs.Entry.{number_of, InFields, rewrite_bytes}
use Rattle.host.specs.EntryLaws.{bytes_fields, module_bound, rewriting_lent, rewriting_demand}
use Rattle.host.proofs.gingerpost_rewrite.Goals as goal

pub number-requires : goal.number-requires
number-requires c =
    let bs = c.args.bytes.now in
    subst InFields (sym c.entry.ensures.numbers) (bytes_fields bs (module_words (words_of_bytes bs)) c.args.out.now (λ t. module_bound (words_of_bytes bs) t))

pub returns-clause-number : goal.returns-clause-number
unfolding rewrite_bytes
returns-clause-number c = c.number.ensures ∙ ap number_of c.entry.ensures.numbers

pub returns-clause-lent : goal.returns-clause-lent
returns-clause-lent c = rewriting_lent c.entry.ensures.lent

pub returns-clause-demand : goal.returns-clause-demand
unfolding rewrite_bytes
returns-clause-demand c = rewriting_demand c.number.result (c.number.ensures ∙ ap number_of c.entry.ensures.numbers) c.entry.ensures.lent
