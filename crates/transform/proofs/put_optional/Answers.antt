-- `put_optional`: nothing is written where there is no symbol.
use Rattle.output.specs.Overlay.{wrote_none}
use Rattle.walk_laws.specs.ClassPlan.{optional}
use Rattle.transform.proofs.put_optional.Goals as goal

pub returns-in-Some : goal.returns-in-Some
unfolding optional
returns-in-Some c = rw c.in-Some.is c.put.ensures

pub returns-in-None : goal.returns-in-None
unfolding optional
returns-in-None c = rw c.in-None.is (wrote_none _ _)
