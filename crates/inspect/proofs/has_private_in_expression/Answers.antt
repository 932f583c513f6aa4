-- `has_private_in_expression`: the class's own decorators, or those of an element.
use borrow.Author.Tests.{tests}
use mathlib.Core.Path.{◌≡◌, sym, ◌∙◌}
use Rattle.std.proofs.Common.{rules}
use Rattle.records.specs.Forest.{any_f}
use Rattle.records.specs.Label.{is}
use Rattle.records.specs.Place.{kids_at}
use Rattle.rewriting.specs.Parts.{elements_of, of_elements}
use Rattle.inspect.specs.Private.{class_private, elements_private, private_in_element}
use Rattle.inspect.proofs.Read.{any_read}
use Rattle.inspect.proofs.has_private_in_expression.Goals as goal

pub returns-then-private_in : goal.returns-then-private_in
returns-then-private_in c = rw class_private (search rules)

pub returns-else-private_in : goal.returns-else-private_in
unfolding private_in_element
returns-else-private_in c =
    let any : c.any.result ≡ any_f (is 19) (of_elements (elements_of (kids_at c.args.ws.now c.args.at))) = any_read c.elements.result c.elements.ensures.0 private_in_element c.any.new.self _ _ c.any.ensures.ran (λ x b q k. search (rules, tests)) ∙ sym (elements_private _) in
    rw class_private (search rules)
