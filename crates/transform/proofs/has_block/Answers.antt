-- `has_block`: a private-in test in a class that is decorated or has calls.
use Rattle.std.proofs.Common.{rules}
use Rattle.transform.specs.ClassWords.{block_of}
use Rattle.transform.proofs.has_block.Goals as goal

pub returns-then-is_some : goal.returns-then-is_some
unfolding block_of
returns-then-is_some c = search rules

pub returns-else-is_some : goal.returns-else-is_some
unfolding block_of
returns-else-is_some c = search rules

pub returns-else-g : goal.returns-else-g
unfolding block_of
returns-else-g c = search rules
