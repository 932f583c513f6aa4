-- `check_class_has_decorated`: the class's own decorators, or a constructor's parameters' in its body.
use Rattle.std.proofs.Common.{rules}
use Rattle.rewriting.specs.Parts.{is_decorated}
use Rattle.inspect.specs.Reads.{reads_rest}
use Rattle.inspect.proofs.check_class_has_decorated.Goals as goal

pub returns-then-decorated : goal.returns-then-decorated
unfolding is_decorated
returns-then-decorated c = search rules

pub returns-else-decorated : goal.returns-else-decorated
unfolding is_decorated
returns-else-decorated c = let e = reads_rest c.elements.ensures.0 in let d = rw e at c.constructor_decorated.ensures in search rules
