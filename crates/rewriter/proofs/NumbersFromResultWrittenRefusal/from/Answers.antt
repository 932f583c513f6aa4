-- `from`: 0 and what was written, or the refusal's number.
use Rattle.std.proofs.Common.{refl}
use Rattle.rewriting.specs.Answer.{accepted, refused}
use Rattle.rewriter.specs.Numbers.{numbers_of}
use Rattle.rewriter.proofs.NumbersFromResultWrittenRefusal.from.Goals as goal

pub returns-in-Ok : goal.returns-in-Ok
returns-in-Ok c = rw c.in-Ok.is (unfold numbers_of accepted in (refl, refl, refl))

pub returns-in-Err : goal.returns-in-Err
returns-in-Err c = rw c.in-Err.is (unfold numbers_of refused in (c.from.ensures, refl, refl))
