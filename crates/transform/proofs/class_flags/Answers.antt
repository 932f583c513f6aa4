-- `class_flags`: one more where a nameless class takes an id.
use mathlib.Core.Path.{◌≡◌, ap, ◌∙◌}
use mathlib.Core.Bool.{not, ◌&&◌}
use Prim.Native.Nat.{◌+◌}
use native.Mathlib.Omega.{arith}
use Rattle.std.specs.Int.{from_bool}
use Rattle.std.specs.Prelude.{is_some}
use Rattle.transform.specs.ClassWords.{flags_of}
use Rattle.transform.specs.StepsClasses.{bit_le}
use Rattle.transform.proofs.class_flags.Goals.{then-is_none, else-is_none}
use Rattle.transform.proofs.class_flags.Goals as goal

pub returns : goal.returns
unfolding flags_of
returns c =
    let g = c.args.g in
    let e : c.if-is_none.from ≡ (not (is_some g.id) && is_some g.inner) = elim c.if-is_none.branch [
      | then-is_none w ↦ rw (c.is_none.ensures, w.if-is_none.true) (w.from-is ∙ w.is_some.ensures)
      | else-is_none w ↦ rw (c.is_none.ensures, w.if-is_none.false) (w.from-is ∙ w.if-is_none.false)
    ] in
    (ap (c.args.p +◌) (c.from.ensures ∙ ap from_bool e), omega (arith, c.from.ensures, bit_le c.if-is_none.from))
