-- `word`: the payload of an identifier or an assignment is renamed, any other word stays.
use mathlib.Core.Logic.{◌⊎◌}
use mathlib.Core.Path.{◌≡◌, ap, sym, ◌∙◌}
use Prim.Native.Nat.{ℕ}
use native.Mathlib.Omega.{arith}
use Rattle.words.specs.Word.{kind_of, payload_of, word_of, payload_lt}
use Rattle.words.specs.Kinds.{number, number_is, number_other}
use Rattle.words.specs.declared.kinds.Kind.TheVariants.{Identifier, Assignment}
use Rattle.records.specs.Label.{word_at, read_at}
use Rattle.class_stack.specs.Renaming.{entries, rename_l, rename_p, word_none, word_other, word_ref}
use Rattle.class_stack.specs.Stack.{subs}
use Rattle.class_stack.proofs.ClassStack.word.Goals as goal

pub returns-then-self-eq0 : goal.returns-then-self-eq0
unfolding entries
returns-then-self-eq0 c =
    let s = c.args.self in
    word_none c.args.w ∙ ap (λ (n : ℕ). word_at (rename_l (entries s.symbols s.aliases n) (read_at 0 c.args.w))) (sym c.if-self-eq0.true)

pub renamed-requires : goal.renamed-requires
renamed-requires c = omega (arith, c.payload_of.ensures, payload_lt c.args.w)

pub returns-in-Some-Identifier : goal.returns-in-Some-Identifier
returns-in-Some-Identifier c =
    let k : kind_of c.args.w ≡ number c.in-Some-Identifier.field-0 = number_is _ c.of.ensures.named c.in-Some-Identifier.is in
    let e : (kind_of c.args.w ≡ 9) ⊎ (kind_of c.args.w ≡ 18) = grind (arith, k) in
    let p : c.renamed.result ≡ rename_p (subs c.args.self) (payload_of c.args.w) = c.renamed.ensures.0 ∙ ap (rename_p (subs c.args.self)) c.payload_of.ensures in
    let r : c.word_of.result ≡ word_of (kind_of c.args.w) (rename_p (subs c.args.self) (payload_of c.args.w)) = cc in
    r ∙ word_ref (subs c.args.self) c.args.w e

pub returns-in_default : goal.returns-in_default
returns-in_default c =
    word_other (subs c.args.self) c.args.w (number_other Identifier c.of.ensures.named (λ s. grind (arith, s))) (number_other Assignment c.of.ensures.named (λ s. grind (arith, s)))

pub returns-in_default-2 : goal.returns-in_default-2
returns-in_default-2 c =
    word_other (subs c.args.self) c.args.w (number_other Identifier c.of.ensures.named (λ s. grind (arith, s))) (number_other Assignment c.of.ensures.named (λ s. grind (arith, s)))
