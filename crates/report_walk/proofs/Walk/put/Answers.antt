-- `Walk::put`: the word of the sort's number.
use mathlib.Core.Path.{◌≡◌, refl, ap, ◌∙◌}
use Prim.Native.Nat.{ℕ, ◌+◌}
use denote.Enum.Declared.{tag_of}
use Rattle.words.specs.Word.{word_of}
use Rattle.report_walk.specs.contracts.Sort.{the_type}
use Rattle.report_walk.specs.declared.Sort.{Sort}
use Rattle.report_walk.specs.declared.Sort.TheVariants.{Default, Key, Inner, Alias}
use Rattle.report_walk.specs.Contract.{number}
use Rattle.report_walk.specs.Steps.{takes_put}
use Rattle.report_walk.proofs.Walk.put.Goals as goal

-- the tags count from 0
by_tag : (s : Sort) → tag_of the_type s + 1 ≡ number s
by_tag Default = refl
by_tag Key = refl
by_tag Inner = refl
by_tag Alias = refl

pub returns : goal.returns
returns c = takes_put (number c.args.sort) (c.word_of.ensures ∙ ap (λ (k : ℕ). word_of k c.args.self.state.next) (by_tag c.args.sort)) c.put.ensures
