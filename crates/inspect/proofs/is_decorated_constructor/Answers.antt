-- `is_decorated_constructor`: the two tests, one after the other.
use Rattle.std.proofs.Common.{rules}
use Rattle.inspect.specs.Class.{is_decorated_constructor}
use Rattle.inspect.proofs.is_decorated_constructor.Goals as goal

pub returns-then-is_constructor_at : goal.returns-then-is_constructor_at
unfolding is_decorated_constructor
returns-then-is_constructor_at c = search rules

pub returns-else-is_constructor_at : goal.returns-else-is_constructor_at
unfolding is_decorated_constructor
returns-else-is_constructor_at c = search rules
