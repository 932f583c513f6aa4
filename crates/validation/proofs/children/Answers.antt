-- `children`: an arm for each kind, by its row of the table.
use Rattle.std.proofs.Common.{◌++◌, [], ◌-◌, ℕ, refl, ap, ◌∙◌, replicate, append-nil, arith}
use Rattle.words.specs.Table.{lookup}
use Rattle.words.specs.Word.{kind_of, payload_of, bit0, bit1, bit2}
use Rattle.words.specs.Kinds.{number, number_other}
use Rattle.words.specs.declared.kinds.Kind.TheVariants.{Module, ClassStatement, ClassExpression, Function, Class, Body, Method, Property, AbstractAccessor, Parameters, Parameter}
use Rattle.grammar.specs.Grammar.{row, table, row_of, expression, method_decorators}
use Rattle.grammar.specs.Slots.{slot_of}
use Rattle.grammar.specs.Scan.{place, places}
use Rattle.validation.specs.Sets.{plain}
use Rattle.validation.specs.Waiting.{waiting}
use Rattle.validation.specs.Walks.{over_none, over_run, over_run_as, over_push, over_kind, flag_of, below_other, below_plain, class_payload, named_category, in_set, not_in_set}
use Rattle.validation.proofs.children.Goals as goal

pub returns-then-is_in-clause-places : goal.returns-then-is_in-clause-places
unfolding plain
returns-then-is_in-clause-places g c =
    (over_run c.new.ensures over_none).waits
    ∙ ap (λ (n : ℕ). (replicate n (place expression (65 - c.args.left)) ++ []) ++ waiting c.args.stack.now) c.child_count.ensures
    ∙ ap (◌++ waiting c.args.stack.now) (append-nil _ ∙ below_plain (slot_of c.args.slot) (kind_of c.args.w) (payload_of c.args.w) (65 - c.args.left) c.requires.allowed (in_set _ _ c.is_in.ensures c.if-is_in.true))

pub class_under-requires : goal.class_under-requires
class_under-requires g c = rw c.payload_of-p.ensures (class_payload (slot_of c.args.slot) (kind_of c.args.w) (payload_of c.args.w) c.requires.allowed (c.in-Some-ClassStatement.ensures.number ∙ ap number c.in-Some-ClassStatement.field-0-is))

pub parameter_of-requires : goal.parameter_of-requires
unfolding row_of lookup table row
parameter_of-requires g c = named_category (slot_of c.args.slot) _ c.requires.allowed c.in-Some-Parameters.ensures.number c.in-Some-Parameters.field-0-is

pub parameter_decorators-requires : goal.parameter_decorators-requires
unfolding row_of lookup table row
parameter_decorators-requires g c = named_category (slot_of c.args.slot) _ c.requires.allowed c.in-Some-Parameter.ensures.number c.in-Some-Parameter.field-0-is

pub returns-in-Some-Module-clause-places : goal.returns-in-Some-Module-clause-places
unfolding row_of lookup table row places bit0 bit1 bit2
returns-in-Some-Module-clause-places g c =
    over_kind (slot_of c.args.slot).context c.args.left c.payload_of-p.ensures c.in-Some-Module.ensures.number c.in-Some-Module.field-0-is
    (over_run c.new-in-Some-Module-2.ensures (over_push c.new-in-Some-Module.ensures c.push.ensures.places over_none))

pub returns-in-Some-ClassStatement-clause-places : goal.returns-in-Some-ClassStatement-clause-places
unfolding row_of lookup table row places bit0 bit1 bit2
returns-in-Some-ClassStatement-clause-places g c =
    over_kind (slot_of c.args.slot).context c.args.left c.payload_of-p.ensures c.in-Some-ClassStatement.ensures.number c.in-Some-ClassStatement.field-0-is
    (over_run_as c.new-in-Some-ClassStatement.ensures c.class_under.ensures over_none)

pub returns-in-Some-ClassExpression-clause-places : goal.returns-in-Some-ClassExpression-clause-places
unfolding row_of lookup table row places bit0 bit1 bit2
returns-in-Some-ClassExpression-clause-places g c =
    over_kind (slot_of c.args.slot).context c.args.left c.payload_of-p.ensures c.in-Some-ClassExpression.ensures.number c.in-Some-ClassExpression.field-0-is
    (over_run c.new-in-Some-ClassExpression.ensures over_none)

pub returns-in-Some-Function-clause-places : goal.returns-in-Some-Function-clause-places
unfolding row_of lookup table row places bit0 bit1 bit2
returns-in-Some-Function-clause-places g c =
    over_kind (slot_of c.args.slot).context c.args.left c.payload_of-p.ensures c.in-Some-Function.ensures.number c.in-Some-Function.field-0-is
    (over_run c.new-in-Some-Function-2.ensures (over_push c.new-in-Some-Function.ensures c.push-in-Some-Function.ensures.places over_none))

pub returns-in-Some-Class-clause-places : goal.returns-in-Some-Class-clause-places
unfolding row_of lookup table row places bit0 bit1 bit2
returns-in-Some-Class-clause-places g c =
    over_kind (slot_of c.args.slot).context c.args.left c.payload_of-p.ensures c.in-Some-Class.ensures.number c.in-Some-Class.field-0-is
    (over_run c.new-in-Some-Class-4.ensures (over_push c.new-in-Some-Class-3.ensures c.push-in-Some-Class-3.ensures.places (over_push c.new-in-Some-Class-2.ensures c.push-in-Some-Class-2.ensures.places (over_push c.new-in-Some-Class.ensures c.push-in-Some-Class.ensures.places over_none))))

pub returns-in-Some-Body-clause-places : goal.returns-in-Some-Body-clause-places
unfolding row_of lookup table row places bit0 bit1 bit2
returns-in-Some-Body-clause-places g c =
    over_kind (slot_of c.args.slot).context c.args.left c.payload_of-p.ensures c.in-Some-Body.ensures.number c.in-Some-Body.field-0-is
    (over_run c.new-in-Some-Body.ensures over_none)

pub returns-in-Some-Method-clause-places : goal.returns-in-Some-Method-clause-places
unfolding row_of lookup table row places bit0 bit1 bit2
returns-in-Some-Method-clause-places g c =
    over_kind (slot_of c.args.slot).context c.args.left c.payload_of-p.ensures c.in-Some-Method.ensures.number c.in-Some-Method.field-0-is
    (over_run_as c.new-in-Some-Method-4.ensures (c.method_decorators.ensures ∙ ap method_decorators (flag_of c.payload_of-p.result)) (over_push c.new-in-Some-Method-3.ensures c.push-in-Some-Method-3.ensures.places (over_push c.new-in-Some-Method-2.ensures c.push-in-Some-Method-2.ensures.places (over_push c.new-in-Some-Method.ensures c.push-in-Some-Method.ensures.places over_none))))

pub returns-in-Some-Property-clause-places : goal.returns-in-Some-Property-clause-places
unfolding row_of lookup table row places bit0 bit1 bit2
returns-in-Some-Property-clause-places g c =
    over_kind (slot_of c.args.slot).context c.args.left c.payload_of-p.ensures c.in-Some-Property.ensures.number c.in-Some-Property.field-0-is
    (over_run c.new-in-Some-Property-3.ensures (over_push c.new-in-Some-Property-2.ensures c.push-in-Some-Property-2.ensures.places (over_push c.new-in-Some-Property.ensures c.push-in-Some-Property.ensures.places over_none)))

pub returns-in-Some-AbstractAccessor-clause-places : goal.returns-in-Some-AbstractAccessor-clause-places
unfolding row_of lookup table row places bit0 bit1 bit2
returns-in-Some-AbstractAccessor-clause-places g c =
    over_kind (slot_of c.args.slot).context c.args.left c.payload_of-p.ensures c.in-Some-AbstractAccessor.ensures.number c.in-Some-AbstractAccessor.field-0-is
    (over_run c.new-in-Some-AbstractAccessor-2.ensures (over_push c.new-in-Some-AbstractAccessor.ensures c.push-in-Some-AbstractAccessor.ensures.places over_none))

pub returns-in-Some-Parameters-clause-places : goal.returns-in-Some-Parameters-clause-places
unfolding row_of lookup table row places bit0 bit1 bit2
returns-in-Some-Parameters-clause-places g c =
    over_kind (slot_of c.args.slot).context c.args.left c.payload_of-p.ensures c.in-Some-Parameters.ensures.number c.in-Some-Parameters.field-0-is
    (over_run_as c.new-in-Some-Parameters.ensures c.parameter_of.ensures over_none)

pub returns-in-Some-Parameter-clause-places : goal.returns-in-Some-Parameter-clause-places
unfolding row_of lookup table row places bit0 bit1 bit2
returns-in-Some-Parameter-clause-places g c =
    over_kind (slot_of c.args.slot).context c.args.left c.payload_of-p.ensures c.in-Some-Parameter.ensures.number c.in-Some-Parameter.field-0-is
    (over_run_as c.new-in-Some-Parameter-2.ensures c.parameter_decorators.ensures (over_push c.new-in-Some-Parameter.ensures c.push-in-Some-Parameter.ensures.places over_none))

pub returns-in_default-clause-places : goal.returns-in_default-clause-places
unfolding plain
returns-in_default-clause-places g c =
    let none = not_in_set _ _ c.is_in.ensures c.if-is_in.false in
    let n = c.of.ensures.named in
    (over_run c.new-in_default.ensures over_none).waits
    ∙ ap (◌++ waiting c.args.stack.now) (below_other (slot_of c.args.slot).context c.args.left c.payload_of-p.ensures refl (slot_of c.args.slot) c.requires.allowed c.requires.some none
    (number_other Module n (λ s. grind (arith, s))) (number_other ClassStatement n (λ s. grind (arith, s))) (number_other ClassExpression n (λ s. grind (arith, s))) (number_other Function n (λ s. grind (arith, s)))
    (number_other Class n (λ s. grind (arith, s))) (number_other Body n (λ s. grind (arith, s))) (number_other Method n (λ s. grind (arith, s))) (number_other Property n (λ s. grind (arith, s)))
    (number_other AbstractAccessor n (λ s. grind (arith, s))) (number_other Parameters n (λ s. grind (arith, s))) (number_other Parameter n (λ s. grind (arith, s))))
