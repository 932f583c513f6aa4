-- `new`: nothing stands in it.
use mathlib.Core.Path.{refl}
use native.Mathlib.Omega.{arith}
use Rattle.class_stack.specs.Entries.{payloads_zeros}
use Rattle.class_stack.specs.Renaming.{entries}
use Rattle.class_stack.proofs.ClassStack.new.Goals as goal

pub invariant_of-result : goal.invariant_of-result
invariant_of-result c = record { ready = record { room = omega arith; symbols = payloads_zeros; aliases = payloads_zeros } }

pub returns : goal.returns
unfolding entries
returns c = refl
