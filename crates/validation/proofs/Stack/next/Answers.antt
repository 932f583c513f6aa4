-- `next`: the run itself, none, or the top of the stack.
use Rattle.std.proofs.Common.{sym, ap, ◌∙◌, arith}
use Rattle.validation.specs.Waiting.{waiting, stacked}
use Rattle.validation.specs.Walks.{stacked_top, roomy_top, waiting_none}
use Rattle.validation.proofs.Stack.next.Goals as goal

pub returns-then-self-eq0-clause-none : goal.returns-then-self-eq0-clause-none
unfolding stacked waiting
returns-then-self-eq0-clause-none g c = λ z. waiting_none _ _ c.if-run-ne0.false ∙ ap waiting (sym c.self.view_is ∙ ap (λ n. stacked n c.self.inside.runs) c.if-self-eq0.true)

pub invariant_of-self : goal.invariant_of-self
invariant_of-self g c =
    let q = c.self.inside in
    let top = roomy_top q.runs q.len c.if-self-eq0.false c.self.invariant.2 in
    (omega arith, c.self.invariant.1, top.2)

pub returns-clause-some : goal.returns-clause-some
returns-clause-some g c =
    let q = c.self.inside in
    rw c.new.ensures (roomy_top q.runs q.len c.if-self-eq0.false c.self.invariant.2).0

pub returns-clause-places : goal.returns-clause-places
returns-clause-places g c =
    let q = c.self.inside in
    rw c.new.ensures (ap waiting (sym (stacked_top q.runs q.len c.if-self-eq0.false) ∙ c.self.view_is) ∙ sym (waiting_none _ _ c.if-run-ne0.false))

pub returns-clause-levels : goal.returns-clause-levels
returns-clause-levels g c =
    let q = c.self.inside in
    rw c.new.ensures (roomy_top q.runs q.len c.if-self-eq0.false c.self.invariant.2).1
