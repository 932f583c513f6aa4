-- `put_key_symbol`: a plain key takes none.
use mathlib.Core.Path.{sym, ◌∙◌}
use Rattle.report_walk.specs.Steps.{key_plain, key_put}
use Rattle.report_walk.proofs.put_key_symbol.Goals as goal

pub returns-then-plain_key : goal.returns-then-plain_key
returns-then-plain_key c = key_plain _ (sym c.plain_key.ensures ∙ c.if-plain_key.true)

pub returns : goal.returns
returns c = key_put _ (sym c.plain_key.ensures ∙ c.if-plain_key.false) c.put.ensures
