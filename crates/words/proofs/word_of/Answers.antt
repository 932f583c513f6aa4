-- `word_of`: the kind shifted and the payload below it share no bit, so `|` adds them.
use mathlib.Core.Path.{◌≡◌, ap, ◌∙◌}
use Prim.Native.Nat.{◌*◌, ◌%◌}
use native.Mathlib.Omega.{arith}
use lib.Bits.{or_shifted, bit_or}
use Rattle.words.specs.Word.{word_of}
use Rattle.words.proofs.word_of.Goals as goal

pub returns : goal.returns
unfolding word_of
returns c =
    ap (λ n. bit_or n c.args.payload) whole ∙ or_shifted c.args.kind 26 c.args.payload (omega arith)
  where
    whole : c.args.kind * 67108864 % 4294967296 ≡ c.args.kind * 67108864
    whole = omega arith
