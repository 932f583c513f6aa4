-- `program`: the statements behind the module's two words, then both of these.
use mathlib.Core.Path.{ap, sym, subst}
use Prim.Native.Nat.{ℕ}
use native.Mathlib.Omega.{arith}
use Rattle.records.specs.Forest.{size, count_size}
use Rattle.counter.specs.Contract.{unlive}
use Rattle.transform.specs.Contract.{begun, here_at, Asks}
use Rattle.transform.specs.Sole.{first_kind}
use Rattle.transform.specs.StepsRecords.{emit_module, module_asks, module_inside, module_size, next_small}
use Rattle.transform.proofs.program.Goals as goal

pub records-r-requires : goal.records-r-requires
records-r-requires c =
    let g = c.args in
    let f = c.requires in
    let w = f.0.ready.whole in (
      subst (λ (j : ℕ). Asks g.ws.now g.notes.now 2 j g.next g.c 2 (size (here_at g.ws.now 2 j unlive (begun g.next)))) (sym c.payload_at.ensures.0)
          (module_asks g.ws.now 0 unlive (begun g.next) g.c f.1 w (first_kind g.ws.now w f.1) f.0),
      omega arith,
      omega arith,
    )

pub put-requires : goal.put-requires
put-requires c =
    let g = c.args in
    let f = c.requires in
    let w = f.0.ready.whole in
    (omega arith, next_small g.ws.now 2 c.payload_at.result unlive (begun g.next) f.0.ready.few f.0.ready.room (omega arith) (module_inside g.ws.now 0 unlive (begun g.next) g.c f.1 w (first_kind g.ws.now w f.1)) c.records-r.result.state c.records-r.ensures.moved.state)

pub put-requires-2 : goal.put-requires-2
put-requires-2 c =
    let g = c.args in
    let f = c.requires in
    let w = f.0.ready.whole in
    let z = ap (λ (j : ℕ). size (here_at g.ws.now 2 j unlive (begun g.next))) c.payload_at.ensures.0 in
    (omega arith, omega (arith, f.0.fit, c.records-r.ensures.number, z, count_size (here_at g.ws.now 2 c.payload_at.result unlive (begun g.next)), module_size g.ws.now 0 unlive (begun g.next) g.c f.1 w (first_kind g.ws.now w f.1)))

pub returns : goal.returns
returns c =
    let g = c.args in
    let f = c.requires in
    let w = f.0.ready.whole in
    emit_module g.ws.now 0 unlive (begun g.next) g.c f.1 w (first_kind g.ws.now w f.1) c.payload_at.result c.payload_at.ensures.0 c.records-r.ensures c.put.ensures c.put-2.ensures
