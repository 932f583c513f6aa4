-- `is_plain_key`: by a word of the kind; a number that is no kind's gives none.
use Rattle.std.proofs.Common.{ℕ, ◌∙◌, ap, arith}
use Rattle.std.proofs.lemmas.Bool.Decides.{nat_tests}
use Rattle.words.specs.Word.{kind_of, kind_of_lem}
use Rattle.records.specs.Label.{◌∶◌, read_at, is}
use Rattle.rewriting.specs.Parts.{is_plain_key}
use Rattle.inspect.proofs.is_plain_key.Goals as goal

pub returns-then-kind-lt64 : goal.returns-then-kind-lt64
unfolding is_plain_key is ◌∶◌ read_at
returns-then-kind-lt64 c = c.is_plain_key_word.ensures ∙ ap (λ (k : ℕ). is_plain_key (k ∶ 0)) (ap kind_of c.word_of.ensures ∙ kind_of_lem _ 0 (omega arith))

pub returns-else-kind-lt64 : goal.returns-else-kind-lt64
unfolding is_plain_key is ◌∶◌
returns-else-kind-lt64 c = grind (arith, nat_tests, c.if-kind-lt64.false)
