-- `is_constructor_at`: the word alone says it.
use mathlib.Core.Path.{◌∙◌}
use Rattle.inspect.specs.Class.{constructor_at}
use Rattle.inspect.proofs.is_constructor_at.Goals as goal

pub returns : goal.returns
returns c = c.is_constructor.ensures ∙ constructor_at c.args.ws.now c.args.at c.word_at.result c.word_at.ensures
