-- `swap`: the alias in place of the symbol.
use Rattle.std.proofs.Common.{rules}
use Rattle.class_stack.specs.Renaming.{swapped}
use Rattle.class_stack.proofs.swap.Goals as goal

pub returns-then-p-symbol : goal.returns-then-p-symbol
unfolding swapped
returns-then-p-symbol c = search rules

pub returns-else-p-symbol : goal.returns-else-p-symbol
unfolding swapped
returns-else-p-symbol c = search rules
