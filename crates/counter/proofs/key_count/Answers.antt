-- `key_count`: a plain key takes none.
use native.Mathlib.Omega.{arith}
use Rattle.counter.specs.Totals.{key_none, key_one}
use mathlib.Core.Path.{sym, ◌∙◌}
use Rattle.counter.proofs.key_count.Goals as goal

pub returns-then-plain_key : goal.returns-then-plain_key
returns-then-plain_key c = (key_none _ (sym c.plain_key.ensures ∙ c.if-plain_key.true), omega arith)

pub returns-else-plain_key : goal.returns-else-plain_key
returns-else-plain_key c = (key_one _ (sym c.plain_key.ensures ∙ c.if-plain_key.false), omega arith)
