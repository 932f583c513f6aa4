-- `put_all`: the items so far are written.
use Rattle.std.proofs.Common.{take}
use Rattle.output.specs.Overlay.{Wrote}
use Rattle.output.proofs.put_all.Given as goal

abbrev pub invariant-loop-w : goal.invariant-loop-w
invariant-loop-w g l = Wrote l.initial.out l.at (take l.w-index l.ws) l.out l.next
