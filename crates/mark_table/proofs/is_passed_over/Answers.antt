-- `is_passed_over`: by the set of kinds.
use borrow.Author.Tests.{eqb-false, not-true}
use mathlib.Core.Path.{sym, ◌∙◌}
use Rattle.words.specs.Shape.{bit_none}
use Rattle.mark_table.specs.Marks.{asked, passed_over}
use Rattle.mark_table.proofs.is_passed_over.Goals as goal

pub returns : goal.returns
returns c = λ e. passed_over _ (bit_none asked _ (eqb-false _ 1 (sym c.is_in.ensures ∙ not-true _ e)))
