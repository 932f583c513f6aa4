-- `payload_at`: the payload of the word at i.
use mathlib.Core.Path.{ap, ◌∙◌}
use native.Mathlib.Omega.{arith}
use Rattle.words.specs.Word.{payload_lt, payload_of}
use Rattle.records.specs.Label.{read_at}
use Rattle.records.specs.Place.{label_at}
use Rattle.inspect.proofs.payload_at.Goals as goal

pub returns : goal.returns
unfolding label_at read_at
returns c = (c.payload_of.ensures ∙ ap payload_of c.word_at.ensures, omega (arith, c.payload_of.ensures, payload_lt c.word_at.result))
