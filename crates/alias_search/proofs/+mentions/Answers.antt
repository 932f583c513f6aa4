-- The walkers of the search, which call one another. A call goes on to a later place, or to a walker of a lower rank at the same one. A loop goes on where
-- what is left to search is all that can hold the symbol.
use Rattle.alias_search.specs.Walk.{left_hit, left_next, left_end, left_split, by_reads, all_reads, whole_part, each_part, until_other, until_rest, record_word, record_kids, inner_field, inner_other, inner_constructor, inner_method, field_kids, method_parts, class_parts, elements_first, elements_other, elements_plain, elements_public, elements_private, elements_gone, statement_dead, statement_live, live_within}
use Rattle.alias_search.specs.Read.{mentions_gone}
use Rattle.alias_search.specs.Mentions.{whole, gone, until, each, elements as elements-mode, behind, of_field, of_method, mentions as mentions-all}
use Rattle.inspect.specs.Reads.{step_low}
use Rattle.words.specs.Kinds.{number}
use Rattle.records.specs.Place.{label_at, kids_at}
use Rattle.std.proofs.Common.{rules}
use lib.ListN.{length}
use native.Mathlib.Omega.{arith}
use borrow.Author.Tests.{eqb-true, eqb-false}
use mathlib.Core.Bool.{cond}
use mathlib.Core.Path.{refl, ap, sym, ◌∙◌}
use Rattle.alias_search.proofs.+mentions.Goals as goal

-- ---- the loops

pub mentions-returns-then-mentions_record : goal.mentions-returns-then-mentions_record
unfolding mentions-all
mentions-returns-then-mentions_record t c = sym (left_hit c.args.c whole c.loop-q.invariant c.in-Some.ensures.steps.goes (whole_part c.args.c _ _ ∙ sym c.mentions_record.ensures ∙ c.if-mentions_record.true))

pub mentions-loop-q-preserved : goal.mentions-loop-q-preserved
unfolding behind
mentions-loop-q-preserved t c = left_next c.args.c whole c.loop-q.invariant c.in-Some.ensures.steps.goes (whole_part c.args.c _ _ ∙ sym c.mentions_record.ensures ∙ c.if-mentions_record.false) refl

pub mentions-returns : goal.mentions-returns
unfolding mentions-all
mentions-returns t c = sym (left_end c.args.c whole c.loop-q.invariant c.in-None.ensures.steps.gives.0)

pub all_elements-returns-then-element : goal.all_elements-returns-then-element
all_elements-returns-then-element t c = sym (left_hit c.args.c (each whole) c.loop-q.invariant c.in-Some.ensures.steps.goes (sym c.element.ensures ∙ c.if-element.true))

pub all_elements-loop-q-preserved : goal.all_elements-loop-q-preserved
unfolding behind
all_elements-loop-q-preserved t c = left_next c.args.c (each whole) c.loop-q.invariant c.in-Some.ensures.steps.goes (sym c.element.ensures ∙ c.if-element.false) refl

pub all_elements-returns : goal.all_elements-returns
all_elements-returns t c = sym (left_end c.args.c (each whole) c.loop-q.invariant c.in-None.ensures.steps.gives.0)

pub parameters-returns-then-parameter : goal.parameters-returns-then-parameter
parameters-returns-then-parameter t c = sym (left_hit c.args.c (each of_field) c.loop-q.invariant c.in-Some.ensures.steps.goes (sym c.parameter.ensures ∙ c.if-parameter.true))

pub parameters-loop-q-preserved : goal.parameters-loop-q-preserved
unfolding behind
parameters-loop-q-preserved t c = left_next c.args.c (each of_field) c.loop-q.invariant c.in-Some.ensures.steps.goes (sym c.parameter.ensures ∙ c.if-parameter.false) refl

pub parameters-returns : goal.parameters-returns
parameters-returns t c = sym (left_end c.args.c (each of_field) c.loop-q.invariant c.in-None.ensures.steps.gives.0)

pub but_first-mentions-requires : goal.but_first-mentions-requires
but_first-mentions-requires t c =
    let s = c.in-Some.ensures.steps.goes in
    let i = c.loop-q.invariant in
    (omega (arith, step_low s, s.place, s.inside, ap length s.words, ap length i.words, i.low), tt)

pub but_first-returns-then-is_kind_at : goal.but_first-returns-then-is_kind_at
but_first-returns-then-is_kind_at t c = c.mentions.ensures ∙ sym (until_rest c.args.c (number c.args.kind) c.loop-q.invariant c.in-Some.ensures.steps.goes c.requires (eqb-true _ _ (sym c.is_kind_at.ensures ∙ c.if-is_kind_at.true)))

pub but_first-returns-then-mentions_record : goal.but_first-returns-then-mentions_record
but_first-returns-then-mentions_record t c =
    let other = until_other c.args.c _ _ (number c.args.kind) (eqb-false _ _ (sym c.is_kind_at.ensures ∙ c.if-is_kind_at.false)) in
    sym (left_hit c.args.c (until (number c.args.kind) gone) c.loop-q.invariant c.in-Some.ensures.steps.goes (other.0 ∙ sym c.mentions_record.ensures ∙ c.if-mentions_record.true))

pub but_first-loop-q-preserved : goal.but_first-loop-q-preserved
but_first-loop-q-preserved t c =
    let other = until_other c.args.c _ _ (number c.args.kind) (eqb-false _ _ (sym c.is_kind_at.ensures ∙ c.if-is_kind_at.false)) in
    left_next c.args.c (until (number c.args.kind) gone) c.loop-q.invariant c.in-Some.ensures.steps.goes (other.0 ∙ sym c.mentions_record.ensures ∙ c.if-mentions_record.false) other.1

pub but_first-returns : goal.but_first-returns
but_first-returns t c = sym (left_end c.args.c (until (number c.args.kind) gone) c.loop-q.invariant c.in_default.ensures.steps.gives.0)

pub elements-all_elements-requires : goal.elements-all_elements-requires
elements-all_elements-requires t c =
    let s = c.in-Some.ensures.steps.goes in
    let i = c.loop-q.invariant in
    (omega (arith, step_low s, s.place, s.inside, ap length s.words, ap length i.words, i.low), tt)

pub elements-returns-then-constructor : goal.elements-returns-then-constructor
elements-returns-then-constructor t c =
    let y = cond c.args.dropped of_method of_field in
    let first = elements_first c.args.c y _ _ (sym c.is_constructor_at.ensures ∙ c.if-is_constructor_at.true) in
    c.if-constructor.true ∙ sym (left_hit c.args.c (elements-mode y) c.loop-q.invariant c.in-Some.ensures.steps.goes (first.0 ∙ sym c.constructor.ensures ∙ c.if-constructor.true))

pub elements-returns-else-constructor : goal.elements-returns-else-constructor
elements-returns-else-constructor t c =
    let y = cond c.args.dropped of_method of_field in
    let ws = c.args.records.words.now in
    let first = elements_first c.args.c y (label_at ws c.in-Some.q) (kids_at ws c.in-Some.q) (sym c.is_constructor_at.ensures ∙ c.if-is_constructor_at.true) in
    rw (left_split c.args.c (elements-mode y) c.loop-q.invariant c.in-Some.ensures.steps.goes, first.0, first.1) (search rules)

pub elements-returns-then-element : goal.elements-returns-then-element
elements-returns-then-element t c =
    let y = cond c.args.dropped of_method of_field in
    let other = elements_other c.args.c y _ _ (sym c.is_constructor_at.ensures ∙ c.if-is_constructor_at.false) in
    sym (left_hit c.args.c (elements-mode y) c.loop-q.invariant c.in-Some.ensures.steps.goes (other.0 ∙ sym c.element.ensures ∙ c.if-element.true))

pub elements-loop-q-preserved : goal.elements-loop-q-preserved
elements-loop-q-preserved t c =
    let y = cond c.args.dropped of_method of_field in
    let other = elements_other c.args.c y _ _ (sym c.is_constructor_at.ensures ∙ c.if-is_constructor_at.false) in
    left_next c.args.c (elements-mode y) c.loop-q.invariant c.in-Some.ensures.steps.goes (other.0 ∙ sym c.element.ensures ∙ c.if-element.false) other.1

pub elements-returns : goal.elements-returns
elements-returns t c = sym (left_end c.args.c (elements-mode (cond c.args.dropped of_method of_field)) c.loop-q.invariant c.in_default.ensures.steps.gives.0)

-- ---- one record

pub mentions_record-returns-then-mentions_word : goal.mentions_record-returns-then-mentions_word
mentions_record-returns-then-mentions_word t c = sym (record_word c.args.c _ _ (sym c.mentions_word.ensures ∙ c.if-mentions_word.true))

pub mentions_record-returns-in-Some-ClassStatement : goal.mentions_record-returns-in-Some-ClassStatement
mentions_record-returns-in-Some-ClassStatement t c = c.class_statement.ensures ∙ sym (record_kids c.args.c _ _ (sym c.mentions_word.ensures ∙ c.if-mentions_word.false) refl)

pub mentions_record-returns-in-Some-Method : goal.mentions_record-returns-in-Some-Method
mentions_record-returns-in-Some-Method t c = c.method.ensures ∙ sym (record_kids c.args.c _ _ (sym c.mentions_word.ensures ∙ c.if-mentions_word.false) refl)

pub mentions_record-returns-in-Some-Property : goal.mentions_record-returns-in-Some-Property
mentions_record-returns-in-Some-Property t c =
    let k = kids_at c.args.ws.now c.args.at in
    let n = c.in-Some-Property.ensures.number in
    c.mentions.ensures ∙ all_reads c.args.c c.undecorated.ensures.0 ∙ sym (record_kids c.args.c _ k (sym c.mentions_word.ensures ∙ c.if-mentions_word.false) (inner_field c.args.c _ k (grind (arith, n)) (grind (arith, n))) ∙ field_kids c.args.c k)

pub mentions_record-returns-in_default : goal.mentions_record-returns-in_default
mentions_record-returns-in_default t c =
    let k = kids_at c.args.ws.now c.args.at in
    c.mentions-in_default.ensures ∙ all_reads c.args.c c.children.ensures.0 ∙ sym (record_kids c.args.c _ k (sym c.mentions_word.ensures ∙ c.if-mentions_word.false) (inner_other c.args.c _ k c.kind_at.ensures.named (λ s. grind (arith, s)) (λ s. grind (arith, s)) (λ s. grind (arith, s)) (λ s. grind (arith, s))))

pub element-returns-then-mentions_word : goal.element-returns-then-mentions_word
element-returns-then-mentions_word t c = rw each_part (search rules)

pub element-returns-else-mentions_word : goal.element-returns-else-mentions_word
element-returns-else-mentions_word t c = rw each_part (search (rules, all_reads))

pub parameter-returns-then-mentions_word : goal.parameter-returns-then-mentions_word
parameter-returns-then-mentions_word t c = rw each_part (search rules)

pub parameter-returns-else-mentions_word : goal.parameter-returns-else-mentions_word
parameter-returns-else-mentions_word t c = rw (each_part, field_kids) (search (rules, all_reads))

pub method-returns-then-is_constructor_at : goal.method-returns-then-is_constructor_at
method-returns-then-is_constructor_at t c = rw (inner_constructor c.args.c _ (kids_at c.args.ws.now c.args.at) c.requires.1.1 (sym c.is_constructor_at.ensures ∙ c.if-is_constructor_at.true)) (search (rules, all_reads))

pub method-returns-else-is_constructor_at : goal.method-returns-else-is_constructor_at
method-returns-else-is_constructor_at t c = rw (inner_method c.args.c _ (kids_at c.args.ws.now c.args.at) c.requires.1.1 (sym c.is_constructor_at.ensures ∙ c.if-is_constructor_at.false)) c.bare_method.ensures

pub bare_method-returns-then-but_first : goal.bare_method-returns-then-but_first
bare_method-returns-then-but_first t c = rw method_parts (search (rules, by_reads))

pub bare_method-returns-else-but_first : goal.bare_method-returns-else-but_first
bare_method-returns-else-but_first t c = rw method_parts (search (rules, by_reads))

pub constructor-returns-else-dropped : goal.constructor-returns-else-dropped
constructor-returns-else-dropped t c = rw (c.if-dropped.false, field_kids) (search (rules, all_reads))

-- ---- classes

pub class_statement-returns-then-not-is_live : goal.class_statement-returns-then-not-is_live
class_statement-returns-then-not-is_live t c = rw (statement_dead c.args.c c.args.ws.now c.args.at c.requires.1.1 (sym c.is_live.ensures ∙ c.if-not-is_live.true)) (search (rules, all_reads))

pub class_statement-live_class-requires : goal.class_statement-live_class-requires
class_statement-live_class-requires t c =
    let within = live_within c.args.c c.args.ws.now c.args.at c.requires.1.1 (sym c.is_live.ensures ∙ c.if-not-is_live.false) in
    (omega (arith, within), (c.requires.0, within))

pub class_statement-returns-then-mentions_word : goal.class_statement-returns-then-mentions_word
class_statement-returns-then-mentions_word t c = rw (statement_live c.args.c c.args.ws.now c.args.at c.requires.1.1 (sym c.is_live.ensures ∙ c.if-not-is_live.false)) (search rules)

pub class_statement-returns-else-mentions_word : goal.class_statement-returns-else-mentions_word
class_statement-returns-else-mentions_word t c = rw (statement_live c.args.c c.args.ws.now c.args.at c.requires.1.1 (sym c.is_live.ensures ∙ c.if-not-is_live.false)) (search rules)

pub live_class-returns-then-but_first : goal.live_class-returns-then-but_first
live_class-returns-then-but_first t c = rw class_parts (search (rules, by_reads))

pub live_class-returns-else-but_first : goal.live_class-returns-else-but_first
live_class-returns-else-but_first t c = rw class_parts (search (rules, by_reads))

pub class_elements-returns-then-not-check_class_has_decorated : goal.class_elements-returns-then-not-check_class_has_decorated
class_elements-returns-then-not-check_class_has_decorated t c = rw (elements_plain c.args.c _ (sym c.check_class_has_decorated.ensures ∙ c.if-not-check_class_has_decorated.true)) (search (rules, by_reads))

pub class_elements-returns-then-not-has_private_in_expression : goal.class_elements-returns-then-not-has_private_in_expression
class_elements-returns-then-not-has_private_in_expression t c = rw (elements_public c.args.c _ (sym c.check_class_has_decorated.ensures ∙ c.if-not-check_class_has_decorated.false) (sym c.has_private_in_expression.ensures ∙ c.if-not-has_private_in_expression.true)) (search (rules, by_reads))

pub class_elements-returns-then-is_named : goal.class_elements-returns-then-is_named
class_elements-returns-then-is_named t c = rw (elements_gone c.args.c _ (sym c.check_class_has_decorated.ensures ∙ c.if-not-check_class_has_decorated.false) (sym c.has_private_in_expression.ensures ∙ c.if-not-has_private_in_expression.false) (sym c.is_named.ensures ∙ c.if-is_named.true)) (sym (mentions_gone c.args.c _))

pub class_elements-returns : goal.class_elements-returns
class_elements-returns t c = rw (elements_private c.args.c _ (sym c.check_class_has_decorated.ensures ∙ c.if-not-check_class_has_decorated.false) (sym c.has_private_in_expression.ensures ∙ c.if-not-has_private_in_expression.false) (sym c.is_named.ensures ∙ c.if-is_named.false)) (search (rules, by_reads))
