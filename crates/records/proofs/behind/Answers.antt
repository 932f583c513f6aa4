-- `behind`: the invariant says where the records left to pass end.
use Rattle.records.specs.Ends.{end_step}
use Rattle.records.specs.Place.{end_of, end_low, end_high, end_none, end_past}
use native.Mathlib.Omega.{arith}
use mathlib.Core.Path.{◌≡◌, sym, ap, ◌∙◌}
use Prim.Native.Nat.{◌+◌, ◌-◌, ◌≤◌}
use Rattle.records.proofs.behind.Goals as goal

pub returns-then-ws-q : goal.returns-then-ws-q
returns-then-ws-q c = sym (sym c.loop.invariant.1 ∙ end_past c.args.ws.now c.loop.q _ c.if-ws-q.true)

pub overflow_cast-q : goal.overflow_cast-q
overflow_cast-q c = omega (arith, c.requires.right c.loop.q c.loop.invariant.0 (omega arith), end_high c.args.ws.now c.loop.q 1)

pub loop-preserved : goal.loop-preserved
loop-preserved c =
    let s = end_step c.args.ws.now c.loop.q (c.args.k - c.loop.counter) (omega arith) in
    let n : c.args.k - c.loop.counter - 1 ≡ c.args.k - (c.loop.counter + 1) = omega arith in
    let low : c.args.at ≤ end_of c.args.ws.now c.loop.q 1 = omega (arith, end_low c.args.ws.now c.loop.q 1, c.loop.invariant.0) in
    rw (c.requires.right c.loop.q c.loop.invariant.0 (omega arith)) (low, ap (end_of c.args.ws.now _) (sym n) ∙ sym s ∙ c.loop.invariant.1)

pub returns : goal.returns
returns c =
    let n : c.args.k - c.loop.counter ≡ 0 = omega arith in
    sym (sym c.loop.invariant.1 ∙ ap (end_of c.args.ws.now c.loop.q) n ∙ end_none c.args.ws.now c.loop.q)
