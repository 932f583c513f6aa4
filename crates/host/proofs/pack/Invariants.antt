use Rattle.std.proofs.Common.{◌≡◌, length, take}
use Rattle.host.specs.Bytes.{words_of_bytes}
use Rattle.host.proofs.pack.Given as goal

abbrev pub invariant-loop-i : goal.invariant-loop-i
invariant-loop-i l = (length l.ws ≡ length l.initial.ws) × (take l.i l.ws ≡ take l.i (words_of_bytes l.bytes))
