-- `class_total`: the note of a class without decorated members says all, by `total_undecorated`.
use mathlib.Core.Bool.{true, false}
use mathlib.Core.Path.{sym, ◌∙◌}
use Prim.Native.Nat.{◌+◌}
use native.Mathlib.Omega.{arith}
use lib.ListN.{get_or}
use Rattle.records.specs.Ends.{blank}
use Rattle.walk_laws.specs.Kinds.{class_inside, class_kind}
use Rattle.counter.specs.Body.{body_asks, body_inside, body_mark}
use Rattle.counter.specs.Totals.{total_same, total_undecorated, note_at}
use Rattle.count_table.specs.Note.{behind_walks}
use Rattle.count_table.proofs.class_total.Goals as goal

pub class_body-b-requires : goal.class_body-b-requires
class_body-b-requires c =
    let g = c.args in
    let p = c.requires in
    let whole = p.0.ready.whole in
    body_asks g.ws.now whole (g.at + 1) (class_inside g.ws.now whole g.at p.0.inside p.1) (class_kind g.ws.now whole g.at p.0.inside p.1) p.0.ready.planned.ends

pub offset_bounds-notes-b : goal.offset_bounds-notes-b
offset_bounds-notes-b c =
    let g = c.args in
    let p = c.requires in
    let whole = p.0.ready.whole in
    omega (arith, p.0.ready.few, body_inside g.ws.now whole (g.at + 1) (class_inside g.ws.now whole g.at p.0.inside p.1) (class_kind g.ws.now whole g.at p.0.inside p.1) c.class_body-b.ensures)

pub returns-then-not-notes-b : goal.returns-then-not-notes-b
returns-then-not-notes-b c =
    let g = c.args in
    let p = c.requires in
    let b = c.class_body-b in
    let whole = p.0.ready.whole in
    let inside = class_inside g.ws.now whole g.at p.0.inside p.1 in
    let plain = c.if-not-notes-b.true in
    let e = c.from_note.ensures in
    total_same _ (total_undecorated (behind_walks p.0) inside (record { live = true; id = g.id }) false (get_or g.notes.now (g.at + 1) blank) (note_at _ _ _ p.0.noted inside) (class_kind g.ws.now whole g.at p.0.inside p.1)
    (sym (body_mark g.ws.now whole (g.at + 1) inside (class_kind g.ws.now whole g.at p.0.inside p.1) b.ensures p.0.ready.planned) ∙ plain)) e.0 e.1 e.2

pub total_records-requires : goal.total_records-requires
total_records-requires c = behind_walks c.requires.0
