-- `children`: they stand behind the word of the record.
use mathlib.Core.Path.{◌∙◌}
use native.Mathlib.Omega.{arith}
use Rattle.inspect.specs.Child.{kids_row_at}
use Rattle.inspect.proofs.children.Goals as goal

pub returns : goal.returns
returns c =
    let n = c.records.ensures in
    let k = c.children_at.ensures.0 in
    (record { words = n.3.words; row = n.3.row ∙ kids_row_at c.args.ws.now c.args.at _ _ k (λ h. omega (arith, h)) }, n.2 ∙ k, λ h. omega (arith, n.1, h))
