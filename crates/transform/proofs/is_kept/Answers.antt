-- `is_kept`: by the set of kinds and the mark.
use mathlib.Core.Path.{sym, ◌∙◌}
use borrow.Author.Tests.{not-true, eqb-false}
use Rattle.words.specs.Shape.{bit_none}
use Rattle.transform.specs.Kept.{kept_word}
use Rattle.transform.proofs.is_kept.Goals as goal

pub returns-then-not-is_in : goal.returns-then-not-is_in
returns-then-not-is_in c =
    let g = c.args in
    let p = c.requires in
    λ e. kept_word g.ws.now g.notes.now g.at p.2 p.1 p.0 (not-true _ e) _ c.word_at.ensures (bit_none _ _ (eqb-false _ 1 (sym c.is_in.ensures ∙ c.if-not-is_in.true)))
