-- `kind_at`: the kind of the word at i.
use mathlib.Core.Path.{ap, subst, ◌≡◌, ◌∙◌}
use Prim.Native.Nat.{ℕ}
use Rattle.std.specs.Option.{IfSome}
use Rattle.words.specs.Word.{kind_of}
use Rattle.words.specs.Kinds.{number, named}
use Rattle.records.specs.Label.{read_at}
use Rattle.records.specs.Place.{label_at}
use Rattle.inspect.proofs.kind_at.Goals as goal

pub returns-clause-named : goal.returns-clause-named
unfolding label_at read_at
returns-clause-named c = c.of.ensures.named ∙ ap (λ (w : ℕ). named (kind_of w)) c.word_at.ensures

pub returns-clause-number : goal.returns-clause-number
unfolding label_at read_at
returns-clause-number c = subst (λ (w : ℕ). IfSome c.of.result (λ k. kind_of w ≡ number k)) c.word_at.ensures c.of.ensures.number
