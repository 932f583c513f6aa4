-- `plan_at`: the state behind the class's children is in the statement's note where the class has an id, and else is found by counting.
use mathlib.Core.Path.{sym, ◌∙◌}
use native.Mathlib.Omega.{arith}
use Rattle.walk_laws.specs.Kinds.{class_inside, class_kind}
use Rattle.counter.specs.Steps.{ready_next}
use Rattle.counter.specs.Totals.{noted_on}
use Rattle.transform.specs.Plans.{plan_default, plan_next, plans, named_room, plans_named}
use Rattle.transform.proofs.plan_at.Goals as goal

pub plan-requires : goal.plan-requires
plan-requires c =
    let p = c.requires in
    let a = c.args in
    (p.0.few, p.1, p.0.planned, omega (arith, c.next_behind-next.ensures, named_room p.0 p.1 p.2 p.3 _ c.class_id-id.ensures.0 (sym c.is_some.ensures ∙ c.if-is_some.true)), tt, class_inside a.ws.now p.0.whole a.at p.1 p.2, class_kind a.ws.now p.0.whole a.at p.1 p.2, p.0.whole)

pub returns-then-is_some : goal.returns-then-is_some
returns-then-is_some c =
    let p = c.requires in
    plans_named p.0 p.1 p.2 p.3 _ c.class_id-id.ensures.0 (sym c.is_some.ensures ∙ c.if-is_some.true) c.next_behind-next.ensures c.plan.ensures

pub count_records-r-requires : goal.count_records-r-requires
count_records-r-requires c =
    let p = c.requires in
    (ready_next p.0 p.1, noted_on _ _ _ _ (omega arith) p.4)

pub plan-requires-2 : goal.plan-requires-2
plan-requires-2 c =
    let p = c.requires in
    let a = c.args in
    (p.0.few, p.1, p.0.planned, plan_next p.0 p.1 p.2 p.3 _ c.class_id-id.ensures.0 c.count_records-r.ensures, plan_default p.0 p.1 p.2 p.3 _ c.class_id-id.ensures.0 c.count_records-r.ensures, class_inside a.ws.now p.0.whole a.at p.1 p.2, class_kind a.ws.now p.0.whole a.at p.1 p.2, p.0.whole)

pub returns : goal.returns
returns c =
    let p = c.requires in
    plans p.0 p.1 p.2 p.3 _ c.class_id-id.ensures.0 c.count_records-r.ensures c.plan-2.ensures
