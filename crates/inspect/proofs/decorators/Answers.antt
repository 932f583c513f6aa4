-- `decorators`: a record with children stands before the end, so the place behind it fits.
use mathlib.Core.Path.{sym, ◌∙◌}
use native.Mathlib.Omega.{arith}
use borrow.Author.Tests.{eqb-true, eqb-false}
use Rattle.inspect.specs.Child.{decorators_here, decorators_none, decorators_other, within}
use Rattle.inspect.proofs.decorators.Goals as goal
use Rattle.inspect.proofs.decorators.Goals.{then-children_at-eq0-via-then-children_at-eq0, then-children_at-eq0-via-else-children_at-eq0+then-not-is_kind_at}

pub overflow_add-at : goal.overflow_add-at
overflow_add-at c = omega (arith, within c.args.ws.now c.args.at (λ e. c.if-children_at-eq0.false (c.children_at.ensures.0 ∙ e)))

pub returns-then-children_at-eq0 : goal.returns-then-children_at-eq0
returns-then-children_at-eq0 c =
    let a = c.args in
    elim c.then-children_at-eq0.branch [
      | then-children_at-eq0-via-then-children_at-eq0 w ↦ decorators_none a.ws.now a.at (sym c.children_at.ensures.0 ∙ w.if-children_at-eq0.true)
      | then-children_at-eq0-via-else-children_at-eq0+then-not-is_kind_at w ↦ decorators_other a.ws.now a.at (λ e. w.if-children_at-eq0.false (c.children_at.ensures.0 ∙ e)) (eqb-false _ 28 (sym w.is_kind_at.ensures ∙ w.if-not-is_kind_at.true))
    ]

pub overflow_add-result : goal.overflow_add-result
overflow_add-result c = omega (arith, within c.args.ws.now c.args.at (λ e. c.if-children_at-eq0.false (c.children_at.ensures.0 ∙ e)))

pub returns : goal.returns
returns c = decorators_here c.args.ws.now c.args.at (λ e. c.if-children_at-eq0.false (c.children_at.ensures.0 ∙ e)) (eqb-true _ 28 (sym c.is_kind_at.ensures ∙ c.if-not-is_kind_at.false))
