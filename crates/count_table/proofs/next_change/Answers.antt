-- `next_change`: the place itself, or what was found behind it.
use borrow.Author.Tests.{eqb-false}
use mathlib.Core.Path.{sym, ◌∙◌}
use Rattle.count_table.specs.Note.{clear_here, clear_next, unmarked}
use Rattle.count_table.proofs.next_change.Goals as goal

pub returns-then-notes-i : goal.returns-then-notes-i
returns-then-notes-i c = clear_here c.args.ws.now c.args.i c.args.next

pub returns : goal.returns
returns c = clear_next c.args.ws.now c.args.i c.args.next c.requires.2 (unmarked c.requires.1 c.args.i c.requires.0 c.if-notes-i.false (eqb-false _ 1 (sym c.is_kind_at.ensures ∙ c.if-is_kind_at.false)))
