-- `answer`: what is written fits in the output.
use Rattle.std.proofs.Common.{arith}
use Rattle.gingerpost.specs.Room.{rewrite_fits, report_fits}
use Rattle.gingerpost.proofs.Job.answer.Goals as goal

pub returns-in-Rewrite : goal.returns-in-Rewrite
returns-in-Rewrite c = omega (arith, c.from.ensures.1, rewrite_fits c.rewrite.result _ _ c.rewrite.ensures.numbers, c.rewrite.auto.out)

pub returns-in-Report : goal.returns-in-Report
returns-in-Report c = omega (arith, c.from-in-Report.ensures.1, report_fits c.report.result _ _ c.report.ensures.numbers, c.report.auto.out)
