-- `pack`: behind i turns the first i words are there.
use Rattle.std.proofs.Common.{arith, length-set}
use Rattle.host.specs.BytesLaws.{word_at, pack_step, pack_all}
use Rattle.host.specs.Bytes.{word_from}
use Rattle.host.proofs.pack.Goals as goal

pub loop-i-preserved : goal.loop-i-preserved
unfolding word_at word_from
loop-i-preserved c = (simp length-set c.loop-i.invariant.0, pack_step c.args.bytes.now c.loop-i.ws c.loop-i.i c.from_le_bytes.result c.loop-i-test.true (omega arith) c.loop-i.invariant.1 c.from_le_bytes.ensures)

pub returns : goal.returns
returns c = pack_all c.args.bytes.now c.loop-i.ws c.loop-i.i c.loop-i-test.false (omega arith) c.loop-i.invariant.1
