-- `is_live_class`: the two tests one after the other.
use borrow.Author.Tests.{eqb-true, eqb-false}
use mathlib.Core.Path.{sym, ◌∙◌}
use Rattle.count_table.specs.Note.{not_class, class_live}
use Rattle.count_table.proofs.is_live_class.Goals as goal

pub returns-then-is_kind_at : goal.returns-then-is_kind_at
returns-then-is_kind_at c = c.is_live.ensures ∙ sym (class_live c.args.ws.now c.args.at (eqb-true _ 4 (sym c.is_kind_at.ensures ∙ c.if-is_kind_at.true)))

pub returns-else-is_kind_at : goal.returns-else-is_kind_at
returns-else-is_kind_at c = c.if-is_kind_at.false ∙ sym (not_class c.args.ws.now c.args.at (eqb-false _ 4 (sym c.is_kind_at.ensures ∙ c.if-is_kind_at.false)))
