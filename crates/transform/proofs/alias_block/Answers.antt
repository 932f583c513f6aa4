-- `alias_block`: four words if there is a block.
use mathlib.Core.Bool.{true, false}
use mathlib.Core.Path.{◌≡◌}
use Rattle.std.proofs.Common.{rules}
use Rattle.output.specs.Overlay.{wrote_none, wrote_then}
use Rattle.walk_laws.specs.ClassPlan.{block_words}
use Rattle.transform.specs.ClassWords.{front_of, front_words}
use Rattle.transform.proofs.alias_block.Goals as goal

pub returns-in-Some : goal.returns-in-Some
unfolding front_words front_of block_words
returns-in-Some c =
    let f : c.args.g.fixed ≡ true = search rules in
    rw (c.in-Some.is, f) (wrote_then c.put-p1.ensures (wrote_then c.put-p2.ensures (wrote_then c.put-p3.ensures c.put.ensures)))

pub returns-in_default : goal.returns-in_default
unfolding front_words front_of
returns-in_default c =
    let f : c.args.g.fixed ≡ false = search rules in
    rw (c.in-Some.is, f) (wrote_none _ _)

pub returns-in_default-2 : goal.returns-in_default-2
unfolding front_words front_of
returns-in_default-2 c = rw c.in_default.is (wrote_none _ _)
