-- `decorated`: the 28 has a child where its word asks for one and words follow.
use lib.Dec.{eqb}
use mathlib.Core.Bool.{not}
use mathlib.Core.Path.{ap, sym, ◌∙◌}
use Prim.Native.Nat.{ℕ}
use Rattle.records.specs.Label.{Trees}
use Rattle.rewriting.specs.Parts.{is_empty}
use Rattle.inspect.specs.Child.{empty_none, empty_room}
use Rattle.inspect.proofs.decorated.Goals as goal

pub returns-then-children_at-ne0 : goal.returns-then-children_at-ne0
returns-then-children_at-ne0 c =
    sym (empty_room c.args.ws.now c.decorators-d.result (λ e. c.if-children_at-ne0.true (c.children_at.ensures.0 ∙ e))) ∙ ap (λ (f : Trees). not (is_empty f)) c.decorators-d.ensures.kids

pub returns-else-children_at-ne0 : goal.returns-else-children_at-ne0
returns-else-children_at-ne0 c =
    ap (λ (n : ℕ). not (eqb n 0)) c.if-children_at-ne0.false ∙ sym (empty_none c.args.ws.now c.decorators-d.result (sym c.children_at.ensures.0 ∙ c.if-children_at-ne0.false)) ∙ ap (λ (f : Trees). not (is_empty f)) c.decorators-d.ensures.kids
