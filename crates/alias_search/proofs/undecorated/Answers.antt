-- `undecorated`: the reader of the children, or the one behind the first.
use mathlib.Core.Path.{sym, ◌∙◌}
use native.Mathlib.Omega.{arith}
use borrow.Author.Tests.{eqb-true, eqb-false}
use Rattle.records.specs.Place.{end_low}
use Rattle.alias_search.specs.Walk.{reads_behind, reads_here}
use Rattle.alias_search.proofs.undecorated.Goals as goal

pub returns-then-is_kind_at : goal.returns-then-is_kind_at
returns-then-is_kind_at c =
    let r = c.children-r.ensures in
    let b = c.behind.ensures in
    (reads_behind r.0 c.behind.result (eqb-true _ 28 (sym c.is_kind_at.ensures ∙ c.if-is_kind_at.true)) b, omega (arith, r.2, b.1, end_low c.children-r.result.words.now c.children-r.result.at 1))

pub returns-else-is_kind_at : goal.returns-else-is_kind_at
returns-else-is_kind_at c =
    let r = c.children-r.ensures in
    (reads_here r.0 (eqb-false _ 28 (sym c.is_kind_at.ensures ∙ c.if-is_kind_at.false)), omega (arith, r.2))
