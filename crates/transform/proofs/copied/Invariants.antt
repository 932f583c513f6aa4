use Prim.Native.Nat.{◌+◌}
use Rattle.transform.specs.Copies.{Copying}
use Rattle.transform.proofs.copied.Given as goal

abbrev pub invariant-loop-w : goal.invariant-loop-w
invariant-loop-w l = Copying l.ws l.at l.e l.c l.initial.out l.pos (l.at + l.w-index) l.out l.p
