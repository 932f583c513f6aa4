-- `flags_hold`: where a slot has no arm of its own, its category and `SlotLaws` say what its context is; the kinds that have none have one rule.
use Rattle.std.specs.Prelude.{Option, Some}
use Rattle.std.proofs.Common.{◌≡◌, ℕ, sym, ap, ◌∙◌, arith}
use borrow.Author.Tests.{ne_eqb, lt-ltb, le-ltb}
use Rattle.words.specs.Table.{lookup}
use Rattle.words.specs.Word.{kind_of, bit0, bit1}
use Rattle.words.specs.Kinds.{number, named, number_other}
use Rattle.words.specs.declared.kinds.Kind.{Kind}
use Rattle.words.specs.declared.kinds.Kind.TheVariants.{ClassStatement, DecorateCall, Class, Decorators, Method, Property, AbstractAccessor, Parameter}
use Rattle.grammar.specs.Grammar.{row_of, table, row, holds, in_context}
use Rattle.grammar.specs.Sets.{flag_rule}
use Rattle.grammar.specs.Slots.{slot_of}
use Rattle.grammar.proofs.SlotLaws.{not_own, no_id, of_function, not_in_context}
use Rattle.grammar.proofs.flags_hold.Goals as goal

-- the rule of a kind that has no arm
other_rule : (k : ℕ) {o : Option Kind} → o ≡ named k → (o ≡ Some ClassStatement → ⊥) → (o ≡ Some DecorateCall → ⊥) → (o ≡ Some Class → ⊥) → (o ≡ Some Decorators → ⊥) → (o ≡ Some Method → ⊥) → (o ≡ Some Property → ⊥) → (o ≡ Some AbstractAccessor → ⊥) → (o ≡ Some Parameter → ⊥) → flag_rule k ≡ in_context
unfolding flag_rule lookup
other_rule k a n4 n22 n26 n28 n30 n31 n32 n37 =
    rw (ne_eqb k 4 (number_other ClassStatement a n4), ne_eqb k 22 (number_other DecorateCall a n22), ne_eqb k 26 (number_other Class a n26), ne_eqb k 28 (number_other Decorators a n28), ne_eqb k 30 (number_other Method a n30), ne_eqb k 31 (number_other Property a n31), ne_eqb k 32 (number_other AbstractAccessor a n32), ne_eqb k 37 (number_other Parameter a n37))

pub returns-in_default-slot : goal.returns-in_default-slot
unfolding row_of table row holds flag_rule lookup
returns-in_default-slot c =
    let e : kind_of c.args.w ≡ 4 = c.in-Some-ClassStatement.ensures.number ∙ ap number c.in-Some-ClassStatement.field-0-is in
    rw (c.payload_of-payload.ensures, e, not_own c.args.slot (sym c.requires ∙ ap (λ (k : ℕ). (row_of k).category) e) c.in_default-slot.not-OwnStatement)

pub returns-then-payload-lt8-2 : goal.returns-then-payload-lt8-2
unfolding row_of table row holds flag_rule lookup bit0 bit1
returns-then-payload-lt8-2 c =
    let e : kind_of c.args.w ≡ 26 = c.in-Some-Class.ensures.number ∙ ap number c.in-Some-Class.field-0-is in
    let x = no_id c.args.slot (sym c.requires ∙ ap (λ (k : ℕ). (row_of k).category) e) c.in_default-slot-2.not-PlainClass c.in_default-slot-2.not-ExportedClass in
    rw (← c.payload_of-payload.ensures, e, lt-ltb c.payload_of-payload.result 8 c.if-payload-lt8-2.true, le-ltb (slot_of c.args.slot).context 2 x)

pub returns-in_default-slot-3 : goal.returns-in_default-slot-3
unfolding row_of table row holds flag_rule lookup
returns-in_default-slot-3 c =
    let k : kind_of c.args.w ≡ 28 = c.in-Some-Decorators.ensures.number ∙ ap number c.in-Some-Decorators.field-0-is in
    let e : (slot_of c.args.slot).category ≡ 7 = sym c.requires ∙ ap (λ (k : ℕ). (row_of k).category) k in
    rw (k, ne_eqb (slot_of c.args.slot).context 2 (λ h. c.in_default-slot-3.not-FunctionDecorators (of_function c.args.slot e h)))

pub returns-in-OwnStatement-matches : goal.returns-in-OwnStatement-matches
unfolding holds lookup
returns-in-OwnStatement-matches c =
    let r = other_rule (kind_of c.args.w) c.of.ensures.named (λ s. grind (arith, s)) (λ s. grind (arith, s)) (λ s. grind (arith, s)) (λ s. grind (arith, s)) (λ s. grind (arith, s)) (λ s. grind (arith, s)) (λ s. grind (arith, s)) (λ s. grind (arith, s)) in
    rw r (grind arith)

pub returns-in_default-matches-2 : goal.returns-in_default-matches-2
unfolding holds lookup
returns-in_default-matches-2 c =
    let r = other_rule (kind_of c.args.w) c.of.ensures.named (λ s. grind (arith, s)) (λ s. grind (arith, s)) (λ s. grind (arith, s)) (λ s. grind (arith, s)) (λ s. grind (arith, s)) (λ s. grind (arith, s)) (λ s. grind (arith, s)) (λ s. grind (arith, s)) in
    rw (r, not_in_context (kind_of c.args.w) c.args.slot c.requires (number_other Class c.of.ensures.named (λ s. grind (arith, s))) (number_other Decorators c.of.ensures.named (λ s. grind (arith, s))) c.in_default-matches-2.not-OwnStatement c.in_default-matches-2.not-Key)
