-- `method_has_decorated`: no constructor; the method's own decorators, or its parameters'.
use borrow.Author.Tests.{ne_eqb}
use mathlib.Core.Bool.{not}
use mathlib.Core.Path.{ap, sym, ◌∙◌}
use Rattle.records.specs.Place.{kids_at}
use Rattle.inspect.specs.Row.{any_row}
use Rattle.inspect.specs.Class.{has_decorators, member_constructor}
use Rattle.inspect.specs.Reads.{reads_rest}
use Rattle.mark_table.specs.Places.{method_own, method_parameters_lem}
use Rattle.mark_table.proofs.method_has_decorated.Goals as goal

pub returns-else-not-is_constructor_at : goal.returns-else-not-is_constructor_at
returns-else-not-is_constructor_at c = ap not c.if-not-is_constructor_at.false ∙ sym (member_constructor _ _ c.requires.3 (sym c.is_constructor_at.ensures ∙ c.if-not-is_constructor_at.false))

pub returns-then-payload_at-ne0 : goal.returns-then-payload_at-ne0
returns-then-payload_at-ne0 c =
    let p = c.requires in
    rw (ne_eqb _ 0 c.if-payload_at-ne0.true) (sym (method_own c.args.ws.now p.2 c.args.i p.0 p.3 (sym c.is_constructor_at.ensures ∙ c.if-not-is_constructor_at.true) (λ e. c.if-payload_at-ne0.true (c.payload_at.ensures.0 ∙ e))))

pub returns-else-payload_at-ne0 : goal.returns-else-payload_at-ne0
returns-else-payload_at-ne0 c =
    let ws = c.args.ws.now in
    let p = c.requires in
    let m = method_parameters_lem ws p.2 c.args.i p.0 p.3 (sym c.is_constructor_at.ensures ∙ c.if-not-is_constructor_at.true) (sym c.payload_at.ensures.0 ∙ c.if-payload_at-ne0.false) in
    c.any_decorated.ensures ∙ ap (any_row has_decorators) (reads_rest c.children.ensures.0 ∙ ap (kids_at ws) c.behind.ensures) ∙ sym m
