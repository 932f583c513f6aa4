-- `rewrite_by`: the same of the job's own run.
use Rattle.rewriting.specs.Answer.{rewrite_answer}
use Rattle.rewriter.specs.Result.{demand_of, job_lent}
use Rattle.rewriter.proofs.rewrite_by.Goals as goal

pub returns-clause-numbers : goal.returns-clause-numbers
unfolding rewrite_answer
returns-clause-numbers c = c.run.ensures.numbers

pub returns-clause-lent : goal.returns-clause-lent
returns-clause-lent c = job_lent _ _ _ c.run.ensures.lent

pub returns-clause-demand : goal.returns-clause-demand
unfolding rewrite_answer
returns-clause-demand c = demand_of _ _ _ _ c.run.ensures.numbers (job_lent _ _ _ c.run.ensures.lent)
