use Rattle.std.proofs.Common.{◌≡◌, length, take}
use Rattle.output.specs.Overlay.{overlay}
use Rattle.host.specs.Bytes.{bytes_of_words}
use Rattle.host.proofs.unpack.Given as goal

abbrev pub invariant-loop-i : goal.invariant-loop-i
invariant-loop-i l = (length l.out ≡ length l.initial.out) × (l.out ≡ overlay l.initial.out 0 (bytes_of_words (take l.i l.ws)))
