-- Fields joined by shift and `|`: a higher field shares no bit with what is below it, so that `|` adds. Assumes nothing.
use mathlib.Core.Path.{◌≡◌, ap, ◌∙◌}
use Prim.Native.Nat.{ℕ, ◌+◌, ◌*◌, ◌%◌, ◌^◌, ◌<◌}
use native.Mathlib.Nat.{add_comm, mod-eq_of_lt}
use lib.Bits.{bit_or, or_shifted_r}

-- k: the bits below the field b; w: the bits of the type
pub joined : (a b k w : ℕ) → a < 2 ^ k → b * 2 ^ k < 2 ^ w → bit_or a (b * 2 ^ k % 2 ^ w) ≡ a + b * 2 ^ k
joined a b k w low whole = ap (bit_or a) (mod-eq_of_lt whole) ∙ or_shifted_r b k a low ∙ add_comm (b * 2 ^ k) a
