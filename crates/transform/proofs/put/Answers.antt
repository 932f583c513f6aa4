-- `put`: the word of the kind and the payload.
use mathlib.Core.Path.{ap, ◌∙◌}
use Prim.Native.Nat.{ℕ}
use Rattle.words.specs.Word.{word_of}
use Rattle.transform.specs.Leaves.{wrote_made}
use Rattle.transform.proofs.put.Goals as goal

pub returns : goal.returns
returns c = wrote_made c.args.c _ c.args.p (c.word_of.ensures ∙ ap (λ (k : ℕ). word_of k c.args.p) c.from.ensures) c.requires.1 c.put_word.ensures
