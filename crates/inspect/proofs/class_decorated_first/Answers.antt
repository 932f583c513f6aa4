-- `class_decorated_first`: the class's own decorators, or its first constructor's parameters' in its body.
use Rattle.std.proofs.Common.{rules}
use Rattle.rewriting.specs.Parts.{is_decorated_class}
use Rattle.inspect.specs.Reads.{reads_rest}
use Rattle.inspect.proofs.class_decorated_first.Goals as goal

pub returns-then-decorated : goal.returns-then-decorated
unfolding is_decorated_class
returns-then-decorated c = search rules

pub returns-else-decorated : goal.returns-else-decorated
unfolding is_decorated_class
returns-else-decorated c = let e = reads_rest c.elements.ensures.0 in let d = rw e at c.first_constructor_decorated.ensures in search rules
