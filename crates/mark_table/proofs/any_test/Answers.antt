-- `any_test`: a test here, or the places behind.
use borrow.Author.Tests.{eqb-false}
use mathlib.Core.Path.{sym, subst, ◌∙◌}
use Rattle.mark_table.specs.Marks.{NoTest, test_here, test_next}
use Rattle.mark_table.proofs.any_test.Goals as goal

pub returns-then-is_kind_at : goal.returns-then-is_kind_at
returns-then-is_kind_at c = subst (NoTest c.args.ws.now c.args.i) (sym c.if-is_kind_at.true) (test_here c.args.ws.now c.args.i)

pub returns-else-is_kind_at : goal.returns-else-is_kind_at
returns-else-is_kind_at c = test_next c.args.ws.now c.args.i c.args.test c.requires (eqb-false _ 19 (sym c.is_kind_at.ensures ∙ c.if-is_kind_at.false))
