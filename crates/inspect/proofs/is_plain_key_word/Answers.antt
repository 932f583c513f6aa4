-- `is_plain_key_word`: one of the six kinds of rule 5.
use native.Mathlib.Omega.{arith}
use Rattle.std.proofs.lemmas.Bool.Decides.{nat_tests}
use Rattle.records.specs.Label.{read_at, is}
use Rattle.rewriting.specs.Parts.{is_plain_key}
use Rattle.inspect.proofs.is_plain_key_word.Goals as goal

pub returns-in-Some-String : goal.returns-in-Some-String
unfolding is_plain_key is read_at
returns-in-Some-String c =
    let n = c.in-Some-String.ensures.number in
    grind (arith, nat_tests, n)
