-- `let_head`: the alias is left out where the block in front assigns it.
use native.Mathlib.Omega.{arith}
use Rattle.output.specs.Overlay.{wrote_then}
use Rattle.transform.specs.Contract.{word_below}
use Rattle.transform.specs.ClassWords.{let_words}
use Rattle.transform.specs.Leaves.{optional_length}
use Rattle.transform.proofs.let_head.Goals as goal

pub returns-then-g : goal.returns-then-g
unfolding let_words
returns-then-g c = rw c.if-g.true (wrote_then c.put-p1.ensures c.put.ensures)

pub put-requires-2 : goal.put-requires-2
put-requires-2 c =
    (omega (arith, c.put_optional-p2.ensures.end, optional_length (word_below c.args.c) 18 c.args.g.alias, c.put-p1.ensures.end, c.requires.0), omega arith)

pub returns : goal.returns
unfolding let_words
returns c = rw c.if-g.false (wrote_then c.put-p1.ensures (wrote_then c.put_optional-p2.ensures c.put-2.ensures))
