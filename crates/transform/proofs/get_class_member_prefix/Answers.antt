-- `get_class_member_prefix`: the class's symbol for a static member.
use Rattle.transform.specs.Contract.{word_below}
use Rattle.transform.specs.Leaves.{prefix_other, prefix_static, wrote_as}
use Rattle.transform.proofs.get_class_member_prefix.Goals as goal

pub returns-then-flags-eq1 : goal.returns-then-flags-eq1
returns-then-flags-eq1 c =
    let a = c.args in
    wrote_as (prefix_static (word_below a.c) a.flags a.symbol c.if-flags-eq1.true) c.put.ensures

pub returns : goal.returns
returns c =
    let a = c.args in
    wrote_as (prefix_other (word_below a.c) a.flags a.symbol c.if-flags-eq1.false) c.create_prototype_member.ensures
