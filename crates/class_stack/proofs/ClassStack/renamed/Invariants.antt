use mathlib.Core.Path.{◌≡◌}
use Prim.Native.Nat.{◌<◌}
use Rattle.class_stack.specs.Renaming.{entries, rename_p}
use Rattle.class_stack.specs.Stack.{subs}
use Rattle.class_stack.proofs.ClassStack.renamed.Given as goal

abbrev pub invariant-loop-i : goal.invariant-loop-i
invariant-loop-i l = (l.x < 67108864) × (rename_p (entries l.self.symbols l.self.aliases l.i) l.x ≡ rename_p (subs l.self) l.p)
