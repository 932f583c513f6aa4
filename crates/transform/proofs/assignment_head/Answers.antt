-- `assignment_head`: four words at most.
use native.Mathlib.Omega.{arith}
use Rattle.output.specs.Overlay.{wrote_then}
use Rattle.transform.specs.ClassWords.{assign_words}
use Rattle.transform.specs.Contract.{word_below}
use Rattle.transform.specs.Leaves.{optional_length}
use Rattle.transform.proofs.assignment_head.Goals as goal

pub put-requires : goal.put-requires
put-requires c =
    (omega (arith, c.put_optional-p3.ensures.end, optional_length (word_below c.args.c) 18 c.args.alias, c.put-p2.ensures.end, c.put-p1.ensures.end, c.requires.0), omega arith)

pub returns : goal.returns
unfolding assign_words
returns c = wrote_then c.put-p1.ensures (wrote_then c.put-p2.ensures (wrote_then c.put_optional-p3.ensures c.put.ensures))
