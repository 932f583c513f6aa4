-- `class_has_decorated`: the class's own decorators, or a constructor's parameters' in its body.
use borrow.Author.Tests.{ne_eqb}
use mathlib.Core.Path.{ap, sym, ◌∙◌}
use Rattle.records.specs.Place.{kids_at}
use Rattle.rewriting.specs.Parts.{constructor_decorated}
use Rattle.inspect.specs.Reads.{reads_rest}
use Rattle.counter.specs.Body.{body_asks}
use Rattle.mark_table.specs.Places.{class_own, class_constructor}
use Rattle.mark_table.proofs.class_has_decorated.Goals as goal

pub returns-then-payload_at-ne0 : goal.returns-then-payload_at-ne0
returns-then-payload_at-ne0 c = let p = c.requires in rw (ne_eqb _ 0 c.if-payload_at-ne0.true) (sym (class_own c.args.ws.now p.2 c.args.i p.0 p.3 (λ e. c.if-payload_at-ne0.true (c.payload_at.ensures.0 ∙ e))))

pub class_body-requires : goal.class_body-requires
class_body-requires c = let p = c.requires in body_asks c.args.ws.now p.2 c.args.i p.0 p.3 p.1

pub returns-else-payload_at-ne0 : goal.returns-else-payload_at-ne0
returns-else-payload_at-ne0 c =
    let ws = c.args.ws.now in
    let p = c.requires in
    c.constructor_decorated.ensures ∙ ap constructor_decorated (reads_rest c.children.ensures.0 ∙ ap (kids_at ws) c.class_body.ensures) ∙ sym (class_constructor ws p.2 c.args.i p.0 p.3 (sym c.payload_at.ensures.0 ∙ c.if-payload_at-ne0.false))
