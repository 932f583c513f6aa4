-- `class_head`: a let, or the class statement as it was.
use Rattle.transform.specs.ClassWords.{head_by, head_of}
use Rattle.transform.proofs.class_head.Goals.{in_default-via-in-Some+else-not-g, in_default-via-in_default}
use Rattle.transform.proofs.class_head.Goals as goal

pub returns-in-Some : goal.returns-in-Some
unfolding head_of head_by
returns-in-Some c = rw (c.in-Some.is, c.if-not-g.true) c.let_head.ensures

pub returns-in_default : goal.returns-in_default
unfolding head_of head_by
returns-in_default c = elim c.in_default.branch [
  | in_default-via-in-Some+else-not-g w ↦ rw (w.in-Some.is, w.if-not-g.false) c.put.ensures
  | in_default-via-in_default w ↦ rw w.in_default.is c.put.ensures
]
