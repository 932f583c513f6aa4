-- `total_record` and `total_records`: the measure is the number of words left; the invariant is the answer for the records passed, of which the still ones take nothing.
use mathlib.Core.Bool.{Bool, ◌||◌}
use mathlib.Core.Path.{◌≡◌, refl, sym, subst, ◌∙◌}
use Prim.Native.Nat.{◌+◌, ◌-◌}
use native.Mathlib.Omega.{arith}
use borrow.Author.Tests.{not-true}
use mathlib.Core.Bool.{Bool}
use Rattle.std.specs.Prelude.{is_some}
use Rattle.std.specs.declared.option.Option.TheVariants.{None as none}
use Rattle.counter.specs.Contract.{Totals, is_walked, default_from}
use Rattle.counter.specs.Totals.{kinds_apart, total_same, note_at, total_dead, total_still, total_other, total_none, total_past, total_add, near_total, walks_on, walks_next, totals_on, totals_few, from_none}
use Prim.Native.Nat.{ℕ}
use Rattle.counter.proofs.+total.Goals as goal

pub total_record-offset_bounds-notes-at : goal.total_record-offset_bounds-notes-at
total_record-offset_bounds-notes-at t c = omega (arith, c.requires.1, c.requires.0.ready.few)

pub total_record-bounds-notes-at : goal.total_record-bounds-notes-at
total_record-bounds-notes-at t c = omega (arith, c.requires.0.ready.planned.ends.long, c.requires.1)

pub total_record-returns-then-not-a : goal.total_record-returns-then-not-a
total_record-returns-then-not-a t c =
    let g = c.args in
    let p = c.requires in
    let e = c.from_note.ensures in
    total_same _ (total_dead p.0 p.1 g.a g.has _ (note_at _ _ _ p.0.noted p.1) (not-true _ c.if-not-a.true)) e.0 e.1 e.2

pub total_record-overflow_add-at : goal.total_record-overflow_add-at
total_record-overflow_add-at t c = omega (arith, c.requires.1, c.requires.0.ready.few)

pub total_record-total_records-requires : goal.total_record-total_records-requires
total_record-total_records-requires t c = (omega (arith, c.requires.1), walks_next c.requires.0 c.requires.1)

pub total_record-returns-then-is_walked : goal.total_record-returns-then-is_walked
total_record-returns-then-is_walked t c =
    let g = c.args in
    let p = c.requires in
    let k = sym c.is_walked.ensures ∙ c.if-is_walked.true in
    total_other p.0 p.1 g.a g.has (kinds_apart is_walked _ 4 k (unfold is_walked in refl)) (kinds_apart is_walked _ 20 k (unfold is_walked in refl)) (kinds_apart is_walked _ 30 k (unfold is_walked in refl)) (kinds_apart is_walked _ 31 k (unfold is_walked in refl)) (kinds_apart is_walked _ 32 k (unfold is_walked in refl))
    (subst (λ (j : ℕ). Totals g.ws.now (g.at + 1) j g.a g.has c.total_records.result) c.children_at.ensures.0 c.total_records.ensures)

pub total_record-total_single-requires : goal.total_record-total_single-requires
total_record-total_single-requires t c = (c.requires.0, c.requires.1, sym c.is_walked.ensures ∙ c.if-is_walked.false)

pub total_record-returns : goal.total_record-returns
total_record-returns t c = c.total_single.ensures

pub total_records-loop-init : goal.total_records-loop-init
total_records-loop-init t c =
    let g = c.args in
    (c.requires.ready.inside, total_none c.requires g.a g.has)

pub total_records-returns-then-ws-t : goal.total_records-returns-then-ws-t
total_records-returns-then-ws-t t c =
    let g = c.args in
    let l = c.loop in
    let w = walks_on c.requires l.t.at (totals_on c.requires l.invariant.1).0 l.invariant.0 in
    let t = total_add c.requires l.invariant.1 (total_past w (g.k - l.counter) g.a (is_some l.t.default || g.has) c.if-ws-t.true) in
    let e : l.counter + (g.k - l.counter) ≡ g.k = omega arith in
    total_same _ (subst (λ (j : ℕ). Totals g.ws.now g.at j g.a g.has (record { at = l.t.at; count = l.t.count + 0; default = default_from none l.t.count l.t.default })) e t) refl (omega arith) (sym (from_none none l.t.count l.t.default refl))

pub total_records-offset_bounds-notes-t : goal.total_records-offset_bounds-notes-t
total_records-offset_bounds-notes-t t c = omega (arith, c.requires.ready.planned.ends.long, c.if-ws-t.false)

pub total_records-bounds-notes-t : goal.total_records-bounds-notes-t
total_records-bounds-notes-t t c = omega (arith, c.requires.ready.planned.ends.long, c.if-ws-t.false)

pub total_records-loop-preserved-then-note : goal.total_records-loop-preserved-then-note
total_records-loop-preserved-then-note t c =
    let g = c.args in
    let l = c.loop in
    let p = c.requires in
    let w = walks_on p l.t.at (totals_on p l.invariant.1).0 l.invariant.0 in
    let s = total_still w c.if-ws-t.false g.a (is_some l.t.default || g.has) _ (note_at _ _ _ w.noted c.if-ws-t.false) c.if-note.true in
    let t = total_add p l.invariant.1 s in
    ((totals_on w s).1, total_same _ t refl (omega arith) (sym (from_none none l.t.count l.t.default refl)))

pub total_records-total_record-r-requires : goal.total_records-total_record-r-requires
total_records-total_record-r-requires t c =
    let l = c.loop in
    let o = totals_on c.requires l.invariant.1 in
    (omega (arith, o.0, c.if-ws-t.false), (walks_on c.requires l.t.at o.0 l.invariant.0, c.if-ws-t.false))

pub total_records-default_from-requires : goal.total_records-default_from-requires
total_records-default_from-requires t c =
    let l = c.loop in
    near_total c.requires l.invariant.1 (subst (λ (b : Bool). Totals c.args.ws.now l.t.at 1 c.args.a (b || c.args.has) c.total_record-r.result) c.is_some.ensures c.total_record-r.ensures)

pub total_records-overflow_add-t : goal.total_records-overflow_add-t
total_records-overflow_add-t t c =
    let l = c.loop in
    let w = walks_on c.requires l.t.at (totals_on c.requires l.invariant.1).0 l.invariant.0 in
    omega (arith, totals_few c.requires l.invariant.1, totals_few w c.total_record-r.ensures)

pub total_records-loop-preserved : goal.total_records-loop-preserved
total_records-loop-preserved t c =
    let l = c.loop in
    let w = walks_on c.requires l.t.at (totals_on c.requires l.invariant.1).0 l.invariant.0 in
    let t = total_add c.requires l.invariant.1 (subst (λ (b : Bool). Totals c.args.ws.now l.t.at 1 c.args.a (b || c.args.has) c.total_record-r.result) c.is_some.ensures c.total_record-r.ensures) in
    ((totals_on w c.total_record-r.ensures).1, total_same _ t refl refl c.default_from.ensures)
