use Rattle.std.proofs.Common.{arith}
use Rattle.std.proofs.lemmas.Bool.Decides.{nat_tests}
use Rattle.validation.specs.Walks.{stack_length}
use Rattle.validation.proofs.Stack.has_room.Goals as goal

pub returns : goal.returns
returns g c =
    let e = stack_length _ _ c.self.view_is in
    grind (arith, nat_tests)
