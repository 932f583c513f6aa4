-- `has_front`: an alias and a static element.
use Rattle.std.proofs.Common.{rules}
use Rattle.transform.specs.ClassWords.{front_of}
use Rattle.transform.proofs.has_front.Goals as goal

pub returns-then-is_some : goal.returns-then-is_some
unfolding front_of
returns-then-is_some c = search rules

pub returns-else-is_some : goal.returns-else-is_some
unfolding front_of
returns-else-is_some c = search rules
