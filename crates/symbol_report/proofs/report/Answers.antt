-- `report`: the job's answer.
use Rattle.rewriting.specs.Answer.{report_answer}
use Rattle.symbol_report.specs.Result.{report_lent}
use Rattle.symbol_report.proofs.report.Goals as goal

pub returns : goal.returns
unfolding report_answer
returns c = record { numbers = c.perform.ensures.numbers; lent = report_lent c.perform.ensures.lent }
