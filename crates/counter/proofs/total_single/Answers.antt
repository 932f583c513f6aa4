-- `total_single`: the note, but for an element of a live class that is marked.
use native.Mathlib.Omega.{arith}
use borrow.Author.Tests.{not-true, not-false}
use Rattle.counter.specs.Totals.{element_kind, total_same, note_at, total_dead, total_unmarked, total_other_kind}
use Rattle.counter.proofs.total_single.Goals.{then-not-note-via-then-not-note, then-not-note-via-else-not-note+then-not-a}
use Rattle.counter.proofs.total_single.Goals as goal

pub returns-then-not-note : goal.returns-then-not-note
returns-then-not-note c =
    let g = c.args in
    let p = c.requires in
    let e = c.from_note.ensures in
    elim c.then-not-note.branch [
      | then-not-note-via-then-not-note w ↦ total_same _ (total_unmarked p.0 p.1 g.a g.has _ (note_at _ _ _ p.0.noted p.1) p.2 (not-true _ w.if-not-note.true)) e.0 e.1 e.2
      | then-not-note-via-else-not-note+then-not-a w ↦ total_same _ (total_dead p.0 p.1 g.a g.has _ (note_at _ _ _ p.0.noted p.1) (not-true _ w.if-not-a.true)) e.0 e.1 e.2
    ]

pub total_element-requires : goal.total_element-requires
total_element-requires c =
    let n = c.in-Some-Method.ensures.number in
    (c.requires.0, c.requires.1, element_kind _ (grind (arith, n)) (grind (arith, n)), not-false _ c.if-not-a.false)

pub returns-in_default : goal.returns-in_default
returns-in_default c =
    let g = c.args in
    let p = c.requires in
    let e = c.from_note-in_default.ensures in
    total_same _ (total_other_kind p.0 p.1 g.a g.has _ (note_at _ _ _ p.0.noted p.1) c.kind_at.ensures.named p.2 (λ s. grind (arith, s)) (λ s. grind (arith, s)) (λ s. grind (arith, s))) e.0 e.1 e.2
