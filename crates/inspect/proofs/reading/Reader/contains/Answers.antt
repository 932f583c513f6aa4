-- `contains`: the words of the records follow one another.
use borrow.Author.Tests.{tests}
use mathlib.Core.Path.{sym, ◌∙◌}
use Prim.Native.Nat.{ℕ}
use lib.Dec.{eqb}
use Rattle.std.proofs.Common.{rules}
use Rattle.std.proofs.lemmas.Iterator.{YieldsList-from_slice}
use Rattle.std.proofs.lemmas.Iterator.Search.{any_from_yields_List}
use Rattle.words.specs.Word.{kind_of}
use Rattle.words.specs.Kinds.{number}
use Rattle.inspect.specs.Inside.{any_part, no_part}
use Rattle.inspect.proofs.reading.Reader.contains.Goals as goal

pub returns-in_default : goal.returns-in_default
returns-in_default c =
    let r = c.args.self in
    sym (no_part (number c.args.kind) r.words.now r.at r.left _ c.behind-e.ensures.1 c.in_default.ensures.lookup.0)

pub returns : goal.returns
returns c =
    let r = c.args.self in
    let k = number c.args.kind in
    let part = c.in-Some.ensures.lookup.0 in
    any_from_yields_List (λ (w : ℕ). eqb (kind_of w) k) _ _ _ c.any.ensures.ran (YieldsList-from_slice _ (c.iter.ensures.rest ∙ part.2)) (λ x b q k. search (rules, tests))
    ∙ any_part k r.words.now r.at r.left _ c.behind-e.ensures.1 part.0 part.1
