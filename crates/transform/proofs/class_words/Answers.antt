-- `class_words`: three words at most.
use mathlib.Core.Path.{ap}
use mathlib.Core.List.{[], ◌∷◌}
use Prim.Native.Nat.{ℕ}
use Rattle.output.specs.Overlay.{wrote_then}
use Rattle.transform.specs.ClassWords.{name_words}
use Rattle.transform.specs.Contract.{word_below}
use Rattle.transform.specs.Leaves.{wrote_as}
use Rattle.transform.proofs.class_words.Goals as goal

pub returns : goal.returns
unfolding name_words
returns c = wrote_then (wrote_as (ap (λ (p : ℕ). word_below c.args.c 26 p ∷ []) c.class_flags.ensures.0) c.put-p1.ensures) (wrote_then c.put-p2.ensures c.put_optional.ensures)
