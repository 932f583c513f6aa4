-- `put_word`: the word under the classes around.
use mathlib.Core.Path.{refl, ap, ◌∙◌}
use mathlib.Core.List.{[], ◌∷◌}
use Prim.Native.Nat.{ℕ}
use Rattle.words.specs.Word.{kind_of, payload_of}
use Rattle.class_stack.specs.Renaming.{word_made}
use Rattle.class_stack.specs.Stack.{subs}
use Rattle.transform.specs.Contract.{word_below}
use Rattle.transform.specs.Leaves.{wrote_as}
use Rattle.transform.specs.Under.{word_under}
use Rattle.transform.proofs.put_word.Goals as goal

pub returns : goal.returns
unfolding word_below word_under
returns c = wrote_as (ap (λ (w : ℕ). w ∷ []) (c.word.ensures ∙ word_made (subs c.args.c) c.args.w (kind_of c.args.w) (payload_of c.args.w) refl refl)) c.put.ensures
