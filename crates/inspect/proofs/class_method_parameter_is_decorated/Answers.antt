-- `class_method_parameter_is_decorated`: the entries of the parameters are empty where no parameter has decorators.
use mathlib.Core.Path.{ap, sym, ◌∙◌}
use Rattle.inspect.specs.Class.{has_decorators, parameters_any}
use Rattle.inspect.specs.Reads.{reads_rest}
use Rattle.inspect.specs.Row.{any_row}
use Rattle.inspect.proofs.class_method_parameter_is_decorated.Goals as goal

pub returns : goal.returns
returns c = c.any_decorated.ensures ∙ ap (any_row has_decorators) (reads_rest c.parameters_of.ensures.0) ∙ sym (parameters_any 0 _)
