-- `is_kind_at`: the kind of the word at i.
use mathlib.Core.Path.{ap, ◌∙◌}
use Prim.Native.Nat.{ℕ}
use lib.Dec.{eqb}
use Rattle.words.specs.Word.{kind_of}
use Rattle.words.specs.Kinds.{number}
use Rattle.records.specs.Label.{read_at}
use Rattle.records.specs.Place.{label_at}
use Rattle.inspect.proofs.is_kind_at.Goals as goal

pub returns : goal.returns
unfolding label_at read_at
returns c = c.is_kind.ensures ∙ ap (λ (w : ℕ). eqb (kind_of w) (number c.args.kind)) c.word_at.ensures
