-- `push`: the entry behind the last.
use mathlib.Core.Path.{refl}
use native.Mathlib.Omega.{arith}
use Rattle.class_stack.specs.Entries.{entries_push, payloads_set}
use Rattle.class_stack.proofs.ClassStack.push.Goals as goal

pub invariant_of-result : goal.invariant_of-result
invariant_of-result c =
    let s = c.args.self in
    let p = s.ready in
    record { ready = record { room = omega arith; symbols = payloads_set s.depth c.args.symbol p.symbols c.requires.1; aliases = payloads_set s.depth c.args.alias p.aliases c.requires.2 } }

pub returns : goal.returns
returns c =
    let s = c.args.self in
    (entries_push s.symbols s.aliases s.depth c.args.symbol c.args.alias (omega arith) (omega arith), refl)
