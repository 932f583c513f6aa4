-- `kind_of`: a shift by 26 divides by 2 ^ 26.
use mathlib.Core.Path.{refl}
use Rattle.words.specs.Word.{kind_of}
use Rattle.words.proofs.kind_of.Goals as goal

pub returns : goal.returns
unfolding kind_of
returns c = refl
