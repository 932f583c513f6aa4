-- The walkers that write the report, together: a call goes to a place further on, or at the same place to a function below; each answer names a law of specs/Steps.
use Rattle.report_walk.specs.Steps.{asks_behind, room_behind, room_taken, reports_count, reports_none, reports_add, reports_rest, report_other, report_dropped, report_plain, report_member, report_expression, report_declared, report_live}
use Rattle.counter.specs.Totals.{element_mark}
use Rattle.counter.specs.Steps.{counts_on}
use Rattle.walk_laws.specs.Kinds.{class_inside, class_kind}
use borrow.Author.Tests.{not-true, not-false}
use native.Mathlib.Omega.{arith}
use mathlib.Core.Path.{sym, ◌∙◌}
use Rattle.report_walk.proofs.+report.Goals.{report_class_statement-then-live, report_class_statement-else-live, report_element-then-not-a-via-then-not-a, report_element-then-not-a-via-else-not-a+then-not-notes-at}
use Rattle.report_walk.proofs.+report.Goals as goal

pub report_class_expression-returns : goal.report_class_expression-returns
report_class_expression-returns t c a = report_expression c.requires.0 c.requires.1 a c.requires.2 c.report_records-w.ensures

pub report_class_statement-put_class_symbols-w-requires : goal.report_class_statement-put_class_symbols-w-requires
report_class_statement-put_class_symbols-w-requires t c =
    let g = c.args in
    let p = c.requires in
    let r = room_behind p.0 p.1 c.report_records-w.ensures in
    (p.0.ready.planned, class_inside g.ws.now p.0.ready.whole g.w.at p.1 p.2, class_kind g.ws.now p.0.ready.whole g.w.at p.1 p.2, omega (arith, p.0.ready.few, p.1), omega (arith, r.0), omega (arith, r.1))

pub report_class_statement-returns : goal.report_class_statement-returns
report_class_statement-returns t c a =
    let p = c.requires in
    let i = c.class_id-id.ensures.0 in
    let l = sym c.is_live-live.ensures in
    elim c.if-live.branch [
      | report_class_statement-then-live w ↦ rw (w.w-is, w.out-is) (report_live p.0 p.1 a p.2 _ w.if-live.true i (l ∙ w.if-live.true) c.report_records-w.ensures w.put_class_symbols-w.ensures)
      | report_class_statement-else-live w ↦ rw (w.w-is, w.out-is) (report_declared p.0 p.1 a p.2 _ w.if-live.false i (l ∙ w.if-live.false) c.report_records-w.ensures)
    ]

pub report_element-returns-then-not-a : goal.report_element-returns-then-not-a
report_element-returns-then-not-a t c =
    let g = c.args in
    let p = c.requires in
    let r = reports_count c.children_at.ensures.0 c.report_records-w.ensures in
    elim c.then-not-a.branch [
      | report_element-then-not-a-via-then-not-a w ↦ report_dropped p.0 p.1 g.a p.2 (not-true _ w.if-not-a.true) r
      | report_element-then-not-a-via-else-not-a+then-not-notes-at w ↦ report_plain p.0 p.1 g.a p.2 (sym (element_mark g.w.at p.0.ready.planned p.1 p.2) ∙ w.if-not-notes-at.true) r
    ]

pub report_element-put_class_symbol-t-requires : goal.report_element-put_class_symbol-t-requires
report_element-put_class_symbol-t-requires t c =
    let r = room_behind c.requires.0 c.requires.1 c.report_records-w.ensures in
    (omega (arith, r.0), omega (arith, r.1))

pub report_element-put_key_symbol-requires : goal.report_element-put_key_symbol-requires
report_element-put_key_symbol-requires t c =
    let p = c.requires in
    let r = room_taken c.args.a.id (room_behind p.0 p.1 c.report_records-w.ensures) c.put_class_symbol-t.ensures in
    (r.0, r.1, p.0.ready.planned.ends)

pub report_element-returns : goal.report_element-returns
report_element-returns t c =
    let g = c.args in
    let p = c.requires in
    report_member p.0 p.1 g.a p.2 (not-false _ c.if-not-a.false) (sym (element_mark g.w.at p.0.ready.planned p.1 p.2) ∙ c.if-not-notes-at.false)
    (reports_count c.children_at.ensures.0 c.report_records-w.ensures) c.put_class_symbol-t.ensures c.put_key_symbol.ensures

pub report_record-returns-in-Statement : goal.report_record-returns-in-Statement
report_record-returns-in-Statement t c = c.report_class_statement.ensures c.args.a

pub report_record-returns-in-Expression : goal.report_record-returns-in-Expression
report_record-returns-in-Expression t c = c.report_class_expression.ensures c.args.a

pub report_record-returns-in-Other : goal.report_record-returns-in-Other
report_record-returns-in-Other t c =
    let k = c.in-Other.ensures in
    report_other c.requires.0 c.requires.1 c.args.a k.0 k.1 k.2 k.3 k.4 (reports_count c.children_at-k.ensures.0 c.report_records.ensures)

pub report_records-loop-init : goal.report_records-loop-init
report_records-loop-init t c = reports_none c.args.ws.now c.args.a c.args.w c.args.out.now

pub report_records-returns-then-ws-w : goal.report_records-returns-then-ws-w
report_records-returns-then-ws-w t c = reports_rest c.loop.counter c.args.k (omega arith) c.if-ws-w.true c.loop.invariant

pub report_records-report_record-w-requires : goal.report_records-report_record-w-requires
report_records-report_record-w-requires t c =
    let s = c.loop.invariant in
    (omega (arith, counts_on s.counts, c.if-ws-w.false), (asks_behind c.requires s, c.if-ws-w.false))

pub report_records-loop-preserved : goal.report_records-loop-preserved
report_records-loop-preserved t c = reports_add c.loop.invariant c.report_record-w.ensures
