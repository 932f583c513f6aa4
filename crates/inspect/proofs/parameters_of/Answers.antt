-- `parameters_of`: the children of the 36, which stands behind the word of the method.
use mathlib.Core.Path.{◌∙◌}
use native.Mathlib.Omega.{arith}
use Rattle.inspect.specs.Child.{found_low}
use Rattle.inspect.proofs.parameters_of.Goals as goal

pub returns : goal.returns
returns c =
    let r = c.children.ensures in
    let b = c.parameters.ensures in
    (record { words = r.0.words; row = r.0.row ∙ b.0 }, λ h. omega (arith, r.2 b.1.most, found_low b.1 h))
