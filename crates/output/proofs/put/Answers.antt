-- `put`: where there is no room, a store past the end changes nothing.
use Rattle.std.proofs.Common.{refl, sym, ◌∙◌}
use lib.Seq.{set_out}
use Rattle.output.specs.Overlay.{overlay}
use Rattle.output.proofs.put.Goals as goal
use Rattle.output.proofs.put.Goals.{then-at-out, else-at-out}

pub returns : goal.returns
unfolding overlay
returns g c = record {
  list = elim c.if-at-out.branch [ then-at-out w ↦ w.out-is | else-at-out w ↦ w.out-is ∙ sym (set_out _ _ _ w.if-at-out.false) ];
  end = refl;
}
