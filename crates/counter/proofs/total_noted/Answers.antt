-- `total_noted`: the invariant is the answer for the records passed.
use mathlib.Core.Bool.{false}
use mathlib.Core.Path.{◌≡◌, refl, sym, subst}
use Prim.Native.Nat.{ℕ, ◌+◌, ◌-◌}
use native.Mathlib.Omega.{arith}
use mathlib.Core.Bool.{◌||◌}
use Rattle.std.specs.Option.{is_some}
use Rattle.std.specs.declared.option.Option.{Option}
use Rattle.std.specs.declared.option.Option.TheVariants.{None as none}
use Rattle.counter.specs.Contract.{Totals, unlive, default_from}
use Rattle.counter.specs.Totals.{total_same, note_at, total_dead, total_none, total_past, total_add, walks_on, totals_on, totals_few, from_none}
use Rattle.counter.proofs.total_noted.Goals as goal

pub loop-init : goal.loop-init
loop-init c = (c.requires.ready.inside, total_none c.requires unlive false, refl)

pub returns-then-ws-t : goal.returns-then-ws-t
returns-then-ws-t c =
    let g = c.args in
    let l = c.loop in
    let w = walks_on c.requires l.t.at (totals_on c.requires l.invariant.1).0 l.invariant.0 in
    let t = total_add c.requires l.invariant.1 (subst (λ (d : Option ℕ). Totals g.ws.now l.t.at (g.k - l.counter) unlive (is_some d || false) (record { at = l.t.at; count = 0; default = none })) (sym l.invariant.2) (total_past w (g.k - l.counter) unlive false c.if-ws-t.true)) in
    let e : l.counter + (g.k - l.counter) ≡ g.k = omega arith in
    total_same _ (subst (λ (j : ℕ). Totals g.ws.now g.at j unlive false (record { at = l.t.at; count = l.t.count + 0; default = default_from none l.t.count l.t.default })) e t) refl (omega arith) (sym (from_none none l.t.count l.t.default refl))

pub bounds-notes-t : goal.bounds-notes-t
bounds-notes-t c = omega (arith, c.requires.ready.planned.ends.long, c.if-ws-t.false)

pub overflow_add-t : goal.overflow_add-t
overflow_add-t c =
    let e = c.from_note-r.ensures in
    omega (arith, totals_few c.requires c.loop.invariant.1, e.1)

pub loop-preserved : goal.loop-preserved
loop-preserved c =
    let l = c.loop in
    let e = c.from_note-r.ensures in
    let w = walks_on c.requires l.t.at (totals_on c.requires l.invariant.1).0 l.invariant.0 in
    let r = total_same c.from_note-r.result (total_dead w c.if-ws-t.false unlive false _ (note_at _ _ _ w.noted c.if-ws-t.false) refl) e.0 e.1 e.2 in
    let t = total_add c.requires l.invariant.1 (subst (λ (d : Option ℕ). Totals c.args.ws.now l.t.at 1 unlive (is_some d || false) c.from_note-r.result) (sym l.invariant.2) r) in
    ((totals_on w r).1, total_same _ t refl refl (sym (from_none c.from_note-r.result.default l.t.count l.t.default e.2)), l.invariant.2)
