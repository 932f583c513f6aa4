-- `next_behind`: the statement's symbols without rule 6's.
use native.Mathlib.Omega.{arith}
use Rattle.walk_laws.specs.Kinds.{class_inside, class_kind}
use Rattle.transform.specs.Plans.{named_symbols_lem}
use Rattle.transform.proofs.next_behind.Goals as goal

pub class_count-requires : goal.class_count-requires
class_count-requires c =
    let p = c.requires in
    let a = c.args in
    (p.0.planned, class_inside a.ws.now p.0.whole a.at p.1 p.2, class_kind a.ws.now p.0.whole a.at p.1 p.2, omega (arith, p.0.few, p.1))

pub overflow_sub-result : goal.overflow_sub-result
overflow_sub-result c =
    let p = c.requires in
    omega (arith, named_symbols_lem p.0 p.1 p.2 p.3 _ p.5 p.6 p.4, c.class_count.ensures.0)

pub returns : goal.returns
returns c =
    let p = c.requires in
    omega (arith, named_symbols_lem p.0 p.1 p.2 p.3 _ p.5 p.6 p.4, c.class_count.ensures.0)
