-- `find_marks`: the invariant says that the entries of the places from i on are right.
use Rattle.mark_table.specs.Marks.{done_start, done_down, marks_class, done_next, done_over, done_seven, done_planned}
use Rattle.records.specs.Place.{label_at}
use Rattle.records.specs.Label.{read_at}
use native.Mathlib.Omega.{arith}
use mathlib.Core.Path.{◌≡◌, refl}
use Rattle.mark_table.proofs.find_marks.Goals as goal

pub loop-i-init : goal.loop-i-init
loop-i-init c = done_start c.requires.0

pub loop-i-preserved-then-is_passed_over : goal.loop-i-preserved-then-is_passed_over
unfolding label_at read_at
loop-i-preserved-then-is_passed_over c = done_over _ (done_down c.loop-i.invariant c.loop-i-test.true) (c.is_passed_over.ensures c.if-is_passed_over.true) refl refl

pub any_refused_7-refused-requires : goal.any_refused_7-refused-requires
any_refused_7-refused-requires c =
    let d = done_down c.loop-i.invariant c.loop-i-test.true in
    (omega (arith, c.loop-i.invariant.low, c.loop-i-test.true), c.loop-i.invariant.ends, c.requires.1, marks_class _ _ _ d.right, d.seven)

pub loop-i-preserved : goal.loop-i-preserved
loop-i-preserved c = done_next _ _ _ (done_down c.loop-i.invariant c.loop-i-test.true) c.any_test-test.ensures c.any_refused_7-refused.ensures refl c.is_marked.ensures

pub returns : goal.returns
returns c =
    let z : c.loop-i.i ≡ 0 = omega (arith, c.loop-i-test.false) in
    (done_seven z c.loop-i.invariant, done_planned c.requires.1 z c.loop-i.invariant, c.loop-i.invariant.long)
