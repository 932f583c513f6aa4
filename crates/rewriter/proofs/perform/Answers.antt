-- `perform`: refused by validation, or what the job makes of the words.
use Rattle.std.proofs.Common.{sym, arith}
use Rattle.std.proofs.lemmas.Result.{err_from_is_err_and}
use Rattle.rewriter.specs.Numbers.{numbers_of}
use Rattle.rewriter.specs.Start.{well}
use Rattle.rewriter.specs.Result.{back_fault, answer_back, lends_back}
use Rattle.rewriter.proofs.perform.Goals as goal

pub returns-in_err-validate-clause-numbers : goal.returns-in_err-validate-clause-numbers
unfolding numbers_of
returns-in_err-validate-clause-numbers g c =
    let p = err_from_is_err_and c.from_residual.result c.from_residual.ensures.1 in
    rw (p.1, p.2) (answer_back c.args.ws.now (g.J.Job.words c.args.ws.now) c.args.out.now c.in_err-validate.field-0.0 (back_fault c.args.ws.now _ c.in_err-validate.ensures))

pub returns-in_err-validate-clause-lent : goal.returns-in_err-validate-clause-lent
returns-in_err-validate-clause-lent g c =
    let ws = c.args.ws.now in
    let xs = g.J.Job.words ws in
    lends_back ws xs c.args.out.now g.J.Job.Same (g.met.J.Job.in_order xs) c.in_err-validate.field-0.0 (answer_back ws xs c.args.out.now _ (back_fault ws _ c.in_err-validate.ensures))

pub with_notes-requires-2 : goal.with_notes-requires-2
with_notes-requires-2 g c = (sym c.in_ok-validate.ensures, omega (arith, (well c.args.ws.now (sym c.in_ok-validate.ensures)).sized.few), omega arith)
