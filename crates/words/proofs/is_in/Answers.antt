-- `is_in`: a shift by the kind divides by 2 ^ kind, and the mask of one bit is a remainder.
use Rattle.std.proofs.Common.{ap}
use Prim.Native.Nat.{ℕ, ◌/◌, ◌^◌}
use native.Mathlib.Omega.{arith}
use lib.Dec.{eqb}
use lib.Bits.{and_mask}
use Rattle.words.specs.Word.{kind_of, kind_lt}
use Rattle.words.specs.Shape.{bit_of}
use Rattle.words.proofs.is_in.Goals as goal

pub overflow_shr-result-2 : goal.overflow_shr-result-2
unfolding kind_of
overflow_shr-result-2 c = kind_lt c.args.w (omega arith)

pub returns : goal.returns
unfolding bit_of kind_of
returns c = ap (λ (n : ℕ). eqb n 1) (and_mask (c.args.set / 2 ^ (c.args.w / 67108864)) 1)
