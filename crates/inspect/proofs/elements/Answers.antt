-- `elements`: the children of the class's 29, which stands behind the class.
use mathlib.Core.Path.{◌∙◌}
use native.Mathlib.Omega.{arith}
use Rattle.inspect.specs.Child.{found_low}
use Rattle.inspect.proofs.elements.Goals as goal

pub returns : goal.returns
returns c =
    let r = c.children.ensures in
    let b = c.body.ensures in
    (record { words = r.0.words; row = r.0.row ∙ b.0 }, λ h. omega (arith, r.2 b.1.most, found_low b.1 h))
