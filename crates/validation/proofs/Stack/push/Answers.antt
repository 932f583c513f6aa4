-- `push`: nothing for no places, or one run more.
use Rattle.std.proofs.Common.{◌≡◌, ◌+◌, ◌∷◌, List, length, set, sym, ap, ◌∙◌, arith, rules}
use Rattle.validation.specs.declared.Run.{Run}
use Rattle.validation.specs.Waiting.{waiting}
use Rattle.validation.specs.Walks.{stacked_push, length_stacked, stack_length, roomy_push, waiting_none}
use Rattle.validation.proofs.Stack.push.Goals as goal

pub bounds-self-inside-len : goal.bounds-self-inside-len
bounds-self-inside-len g c = omega (arith, stack_length _ _ c.self.view_is)

pub invariant_of-self : goal.invariant_of-self
invariant_of-self g c =
    let q = c.self.inside in
    let e = stack_length q.runs q.len c.self.view_is in
    let all : length q.runs ≡ g.row.N = search rules in
    (omega arith, c.self.invariant.1, rw (stacked_push q.runs q.len c.args.run (omega arith)) (roomy_push _ _ c.if-run-ne0.true (omega (arith, length_stacked q.runs q.len)) c.self.invariant.2))

pub returns-then-run-ne0-clause-places : goal.returns-then-run-ne0-clause-places
returns-then-run-ne0-clause-places g c =
    let q = c.self.inside in
    let all : length q.runs ≡ g.row.N = search rules in
    ap waiting (stacked_push q.runs q.len c.args.run (omega (arith, stack_length _ _ c.self.view_is)) ∙ ap (λ (rs : List Run). c.args.run ∷ rs) c.self.view_is)

pub returns-then-run-ne0-clause-few : goal.returns-then-run-ne0-clause-few
returns-then-run-ne0-clause-few g c =
    let q = c.self.inside in
    omega (arith, length_stacked (set q.runs q.len c.args.run) (q.len + 1), stack_length _ _ c.self.view_is)

pub returns-else-run-ne0-clause-places : goal.returns-else-run-ne0-clause-places
returns-else-run-ne0-clause-places g c = sym (waiting_none _ _ c.if-run-ne0.false)
