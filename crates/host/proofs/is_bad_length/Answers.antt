use Rattle.std.proofs.Common.{arith}
use Rattle.std.proofs.lemmas.Bool.Decides.{nat_tests}
use Rattle.host.specs.Entry.{is_bad_length}
use Rattle.host.proofs.is_bad_length.Goals as goal

pub returns-then-n-ne0 : goal.returns-then-n-ne0
unfolding is_bad_length
returns-then-n-ne0 c = grind (arith, nat_tests)

pub returns-else-n-ne0 : goal.returns-else-n-ne0
unfolding is_bad_length
returns-else-n-ne0 c = grind (arith, nat_tests)
