-- `takes_alias`: the tests one after the other; whether the class is decorated is its mark.
use Rattle.std.proofs.Common.{rules}
use Rattle.std.specs.declared.option.Option.{Option}
use Rattle.records.specs.Place.{kids_at}
use Rattle.rewriting.specs.Parts.{elements_of}
use Rattle.mark_table.specs.Marks.{ClassMark, mentions_id, not_live, not_decorated, searched, answered_id}
use Rattle.walk_laws.specs.Kinds.{class_inside, class_kind}
use native.Mathlib.Omega.{arith}
use Prim.Native.Nat.{ℕ, ◌+◌}
use mathlib.Core.Path.{ap, sym, ◌∙◌}
use Rattle.mark_table.proofs.takes_alias.Goals.{then-is_live, else-is_live}
use Rattle.mark_table.proofs.takes_alias.Goals as goal

pub bounds-notes-at : goal.bounds-notes-at
bounds-notes-at c = let p = c.requires in omega (arith, class_inside c.args.ws.now p.2 c.args.i p.0 p.4, p.1.long)

pub returns-then-notes-at : goal.returns-then-notes-at
unfolding ClassMark
returns-then-notes-at c =
    let ws = c.args.ws.now in
    let i = c.args.i in
    let p = c.requires in
    let f = elements_of (kids_at ws (i + 1)) in
    elim c.if-is_live.branch [
      | then-is_live w ↦
          let mark = p.3 (class_inside ws p.2 i p.0 p.4) (class_kind ws p.2 i p.0 p.4) in
          answered_id c.class_id.result c.is_some_and.result f c.is_some_and.ensures (λ x k. search rules) ∙ ap (λ (o : Option ℕ). mentions_id o f) c.class_id.ensures.0
          ∙ sym (searched ws i p.4 (sym c.is_live.ensures ∙ w.if-is_live.true) (sym mark ∙ sym w.value-is ∙ c.if-notes-at.true))
      | else-is_live w ↦ cc
    ]

pub returns-else-notes-at : goal.returns-else-notes-at
unfolding ClassMark
returns-else-notes-at c =
    let ws = c.args.ws.now in
    let i = c.args.i in
    let p = c.requires in
    c.if-notes-at.false ∙ elim c.if-is_live.branch [
      | then-is_live w ↦ sym (not_decorated ws i (sym (p.3 (class_inside ws p.2 i p.0 p.4) (class_kind ws p.2 i p.0 p.4)) ∙ sym w.value-is ∙ c.if-notes-at.false))
      | else-is_live w ↦ sym (not_live ws i (sym c.is_live.ensures ∙ w.if-is_live.false))
    ]
