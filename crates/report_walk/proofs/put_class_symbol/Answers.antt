-- `put_class_symbol`: a class with a symbol takes none.
use mathlib.Core.Path.{sym, ◌∙◌}
use Rattle.report_walk.specs.Steps.{symbol_id, symbol_default, symbol_put}
use Rattle.report_walk.proofs.put_class_symbol.Goals.{then-is_some-via-then-is_some, then-is_some-via-else-is_some+then-is_some-2}
use Rattle.report_walk.proofs.put_class_symbol.Goals as goal

pub returns-then-is_some : goal.returns-then-is_some
returns-then-is_some c = elim c.then-is_some.branch [
  | then-is_some-via-then-is_some w ↦ symbol_id c.args.id (sym c.is_some.ensures ∙ w.if-is_some.true)
  | then-is_some-via-else-is_some+then-is_some-2 w ↦ symbol_default c.args.id (sym w.is_some-else-is_some.ensures ∙ w.if-is_some-2.true)
]

pub returns : goal.returns
returns c = symbol_put c.args.id (sym c.is_some.ensures ∙ c.if-is_some.false) (sym c.is_some-else-is_some.ensures ∙ c.if-is_some-2.false) c.put-r.ensures
