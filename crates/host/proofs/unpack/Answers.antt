-- `unpack`: behind i turns the bytes of the first i words lie over the output.
use Rattle.std.proofs.Common.{refl, ap, ◌∙◌, arith, take_all}
use Rattle.output.specs.Overlay.{overlay}
use Rattle.host.specs.Bytes.{bytes_of_words, Small}
use Rattle.host.specs.BytesLaws.{unpack_step}
use Rattle.host.proofs.unpack.Goals as goal

pub loop-i-init : goal.loop-i-init
unfolding bytes_of_words overlay
loop-i-init c = (refl, refl)

pub loop-i-preserved : goal.loop-i-preserved
loop-i-preserved c = (omega (arith, c.store_word.auto.out), unpack_step c.args.ws.now c.args.out.now _ _ c.loop-i.i c.loop-i-test.true c.loop-i.invariant.1 c.store_word.ensures)

pub returns-clause-bytes : goal.returns-clause-bytes
returns-clause-bytes c = c.loop-i.invariant.1 ∙ ap (λ l. overlay c.args.out.now 0 (bytes_of_words l)) (take_all c.loop-i.i c.args.ws.now c.loop-i-test.false)

pub returns-clause-small : goal.returns-clause-small
unfolding Small
returns-clause-small c = λ i h. omega (arith, c.type_inv.ws i)
