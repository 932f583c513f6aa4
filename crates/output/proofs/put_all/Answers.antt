-- `put_all`: the items so far, and one more.
use Rattle.std.proofs.Common.{arith, length-take}
use Rattle.std.proofs.lemmas.List.{take_more, take_all}
use Rattle.output.specs.Overlay.{wrote_none, wrote_as, wrote_then}
use Rattle.output.proofs.put_all.Goals as goal

pub loop-w-init : goal.loop-w-init
loop-w-init g c = wrote_none _ _

pub put-next-requires : goal.put-next-requires
put-next-requires g c = omega (arith, c.loop-w.invariant.end, length-take c.loop-w.w-index c.args.ws.now)

pub loop-w-preserved : goal.loop-w-preserved
loop-w-preserved g c =
    rw (take_more c.args.ws.now c.loop-w.w-index c.w-item.result c.loop-w-test.true, ← c.w-item.is) (wrote_then c.loop-w.invariant c.put-next.ensures)

pub returns : goal.returns
returns g c = wrote_as (take_all _ _ c.loop-w-test.false) c.loop-w.invariant
