-- `total_element`: the note, and what rules 4 and 5 add to it.
use mathlib.Core.Path.{ap, sym, ◌∙◌}
use native.Mathlib.Omega.{arith}
use borrow.Author.Tests.{not-true, not-false}
use Rattle.std.specs.declared.option.Option.TheVariants.{Some as some}
use Rattle.counter.specs.Totals.{element_mark, total_same, note_at, total_plain, total_named, total_defaulted, total_taken}
use Rattle.counter.proofs.total_element.Goals.{then-is_some-via-then-is_some, then-is_some-via-else-is_some+then-has}
use Rattle.counter.proofs.total_element.Goals as goal

pub returns-then-not-note : goal.returns-then-not-note
returns-then-not-note c =
    let g = c.args in
    let p = c.requires in
    let e = c.from_note-t.ensures in
    total_same _ (total_plain p.0 p.1 g.a g.has _ (note_at _ _ _ p.0.noted p.1) p.2 (sym (element_mark g.at p.0.ready.planned p.1 p.2) ∙ not-true _ c.if-not-note.true)) e.0 e.1 e.2

pub returns-then-is_some : goal.returns-then-is_some
returns-then-is_some c =
    let g = c.args in
    let p = c.requires in
    let e = c.from_note-t.ensures in
    let k = c.key_count-key.ensures.0 in
    let m = sym (element_mark g.at p.0.ready.planned p.1 p.2) ∙ not-false _ c.if-not-note.false in
    elim c.then-is_some.branch [
      | then-is_some-via-then-is_some w ↦ total_same _ (total_named p.0 p.1 g.a g.has _ (note_at _ _ _ p.0.noted p.1) p.2 p.3 m (sym c.is_some.ensures ∙ w.if-is_some.true)) e.0 (omega (arith, e.1, k)) e.2
      | then-is_some-via-else-is_some+then-has w ↦ total_same _ (total_defaulted p.0 p.1 g.a g.has _ (note_at _ _ _ p.0.noted p.1) p.2 p.3 m w.if-has.true) e.0 (omega (arith, e.1, k)) e.2
    ]

pub returns : goal.returns
returns c =
    let g = c.args in
    let p = c.requires in
    let e = c.from_note-t.ensures in
    let k = c.key_count-key.ensures.0 in
    total_same _ (total_taken p.0 p.1 g.a g.has _ (note_at _ _ _ p.0.noted p.1) p.2 p.3 (sym (element_mark g.at p.0.ready.planned p.1 p.2) ∙ not-false _ c.if-not-note.false) (sym c.is_some.ensures ∙ c.if-is_some.false) c.if-has.false) e.0 (omega (arith, e.1, k)) (ap some e.1)
