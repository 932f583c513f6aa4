-- `is_refused_7`: whether the class is decorated is its mark.
use Rattle.mark_table.specs.Marks.{ClassMark}
use Rattle.inspect.specs.Refused.{refused_dead, refused_decorated, refused_other, refused_plain}
use Rattle.walk_laws.specs.Kinds.{class_inside, class_kind}
use native.Mathlib.Omega.{arith}
use borrow.Author.Tests.{eqb-true, eqb-false}
use mathlib.Core.Bool.{not}
use mathlib.Core.Path.{ap, sym, ◌∙◌}
use Rattle.mark_table.proofs.is_refused_7.Goals.{then-is_kind_at, else-is_kind_at, then-is_live, else-is_live}
use Rattle.mark_table.proofs.is_refused_7.Goals as goal

pub bounds-notes-i : goal.bounds-notes-i
bounds-notes-i c =
    let p = c.requires in
    elim c.if-is_kind_at.branch [
      | then-is_kind_at w ↦ omega (arith, class_inside c.args.ws.now p.2 c.args.i p.0 (eqb-true _ 4 (sym c.is_kind_at.ensures ∙ w.if-is_kind_at.true)), p.1.long)
      | else-is_kind_at w ↦ cc
    ]

pub returns-then-notes-i : goal.returns-then-notes-i
unfolding ClassMark
returns-then-notes-i c =
    let ws = c.args.ws.now in
    let p = c.requires in
    elim c.if-is_live.branch [
      | then-is_live w ↦
          elim c.if-is_kind_at.branch [
            | then-is_kind_at v ↦
                let k = eqb-true _ 4 (sym c.is_kind_at.ensures ∙ v.if-is_kind_at.true) in
                let m = p.3 (class_inside ws p.2 c.args.i p.0 k) (class_kind ws p.2 c.args.i p.0 k) in
                ap not c.class_decorated_first.ensures ∙ sym (refused_decorated ws c.args.i k (sym v.is_live.ensures ∙ sym v.value-is ∙ w.if-is_live.true) (sym m ∙ sym w.value-is ∙ c.if-notes-i.true))
            | else-is_kind_at v ↦ cc
          ]
      | else-is_live w ↦ cc
    ]

pub returns-else-notes-i : goal.returns-else-notes-i
unfolding ClassMark
returns-else-notes-i c =
    let ws = c.args.ws.now in
    let p = c.requires in
    c.if-notes-i.false ∙ sym (elim c.if-is_kind_at.branch [
      | then-is_kind_at v ↦
          let k = eqb-true _ 4 (sym c.is_kind_at.ensures ∙ v.if-is_kind_at.true) in
          elim c.if-is_live.branch [
            | then-is_live w ↦ refused_plain ws c.args.i k (sym v.is_live.ensures ∙ sym v.value-is ∙ w.if-is_live.true) (sym (p.3 (class_inside ws p.2 c.args.i p.0 k) (class_kind ws p.2 c.args.i p.0 k)) ∙ sym w.value-is ∙ c.if-notes-i.false)
            | else-is_live w ↦ refused_dead ws c.args.i k (sym v.is_live.ensures ∙ sym v.value-is ∙ w.if-is_live.false)
          ]
      | else-is_kind_at v ↦ refused_other ws c.args.i (eqb-false _ 4 (sym c.is_kind_at.ensures ∙ v.if-is_kind_at.false))
    ])
