-- `is_plain`: the marks of the class and of its body say it.
use mathlib.Core.Bool.{not}
use mathlib.Core.Path.{ap, sym, ◌∙◌}
use Prim.Native.Nat.{◌+◌}
use native.Mathlib.Omega.{arith}
use Rattle.walk_laws.specs.Kinds.{class_inside, class_kind}
use Rattle.counter.specs.Body.{body_asks, body_inside, body_mark}
use Rattle.transform.specs.Plain.{plain_not, plain_is, class_mark}
use Rattle.transform.proofs.is_plain.Goals as goal

pub bounds-notes-at : goal.bounds-notes-at
bounds-notes-at c =
    let g = c.args in
    let p = c.requires in
    omega (arith, p.0.ends.long, class_inside g.ws.now p.1 g.at p.2 p.3)

pub returns-else-not-notes-at : goal.returns-else-not-notes-at
returns-else-not-notes-at c =
    let g = c.args in
    let p = c.requires in
    ap not c.if-not-notes-at.false ∙ sym (plain_not _ (sym (class_mark g.ws.now p.1 g.at p.2 p.3 p.0) ∙ c.if-not-notes-at.false))

pub class_body-requires : goal.class_body-requires
class_body-requires c =
    let g = c.args in
    let p = c.requires in
    body_asks g.ws.now p.1 (g.at + 1) (class_inside g.ws.now p.1 g.at p.2 p.3) (class_kind g.ws.now p.1 g.at p.2 p.3) p.0.ends

pub offset_bounds-notes-class_body : goal.offset_bounds-notes-class_body
offset_bounds-notes-class_body c =
    let g = c.args in
    let p = c.requires in
    omega (arith, body_inside g.ws.now p.1 (g.at + 1) (class_inside g.ws.now p.1 g.at p.2 p.3) (class_kind g.ws.now p.1 g.at p.2 p.3) c.class_body.ensures)

pub bounds-notes-class_body : goal.bounds-notes-class_body
bounds-notes-class_body c =
    let g = c.args in
    let p = c.requires in
    omega (arith, p.0.ends.long, body_inside g.ws.now p.1 (g.at + 1) (class_inside g.ws.now p.1 g.at p.2 p.3) (class_kind g.ws.now p.1 g.at p.2 p.3) c.class_body.ensures)

pub returns-then-not-notes-at : goal.returns-then-not-notes-at
returns-then-not-notes-at c =
    let g = c.args in
    let p = c.requires in
    let mark = body_mark g.ws.now p.1 (g.at + 1) (class_inside g.ws.now p.1 g.at p.2 p.3) (class_kind g.ws.now p.1 g.at p.2 p.3) c.class_body.ensures p.0 in
    sym (plain_is _ _ (sym (class_mark g.ws.now p.1 g.at p.2 p.3 p.0) ∙ c.if-not-notes-at.true) mark)
