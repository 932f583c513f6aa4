-- `create_prototype_member`: two words.
use Rattle.output.specs.Overlay.{wrote_then}
use Rattle.transform.proofs.create_prototype_member.Goals as goal

pub returns : goal.returns
returns c = wrote_then c.put-p.ensures c.put.ensures
