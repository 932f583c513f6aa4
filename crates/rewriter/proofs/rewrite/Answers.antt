-- `rewrite`: the job's answer, its words in the only order that counts.
use Rattle.rewriting.specs.Answer.{rewrite_answer}
use Rattle.rewriter.specs.Result.{demand_of, job_lent}
use Rattle.rewriter.proofs.rewrite.Goals as goal

pub returns-clause-numbers : goal.returns-clause-numbers
unfolding rewrite_answer
returns-clause-numbers c = c.perform.ensures.numbers

pub returns-clause-lent : goal.returns-clause-lent
returns-clause-lent c = job_lent _ _ _ c.perform.ensures.lent

pub returns-clause-demand : goal.returns-clause-demand
unfolding rewrite_answer
returns-clause-demand c = demand_of _ _ _ _ c.perform.ensures.numbers (job_lent _ _ _ c.perform.ensures.lent)
