-- `turned_back`: a fault of validation, or what `turned_back_by` says; a module that is accepted has at most 4,096 words.
use Rattle.std.proofs.Common.{sym, arith}
use Rattle.std.proofs.lemmas.Result.{err_from_is_err_and}
use Rattle.rewriter.specs.Start.{well}
use Rattle.rewriter.specs.Result.{back_fault}
use Rattle.rewriter.proofs.turned_back.Goals as goal

pub returns-in_err-validate : goal.returns-in_err-validate
returns-in_err-validate c =
    let p = err_from_is_err_and c.from_residual.result c.from_residual.ensures.1 in
    rw (p.1, p.2) (back_fault c.args.ws.now _ c.in_err-validate.ensures)

pub turned_back_by-requires : goal.turned_back_by-requires
turned_back_by-requires c = (sym c.in_ok-validate.ensures, omega (arith, (well c.args.ws.now (sym c.in_ok-validate.ensures)).sized.few))
