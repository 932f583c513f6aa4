-- `counted_apart`: the kinds that are apart and have no arm of their own have two children.
use mathlib.Core.Path.{sym}
use native.Mathlib.Omega.{arith}
use Rattle.words.specs.Word.{kind_of, kind_lt, payload_of}
use Rattle.words.specs.Kinds.{number_other}
use Rattle.words.specs.declared.kinds.Kind.TheVariants.{Other, Class, Method, Property}
use Rattle.words.specs.Shape.{apart_children}
use Rattle.words.proofs.counted_apart.Goals as goal

pub returns-in_default : goal.returns-in_default
returns-in_default c =
    sym (apart_children (kind_of c.args.w) (payload_of c.args.w) (kind_lt c.args.w (omega arith)) c.requires
    (number_other Other c.of.ensures.named (λ s. grind (arith, s)))
    (number_other Class c.of.ensures.named (λ s. grind (arith, s)))
    (number_other Method c.of.ensures.named (λ s. grind (arith, s)))
    (number_other Property c.of.ensures.named (λ s. grind (arith, s))))

pub returns-in_default-2 : goal.returns-in_default-2
returns-in_default-2 c =
    sym (apart_children (kind_of c.args.w) (payload_of c.args.w) (kind_lt c.args.w (omega arith)) c.requires
    (number_other Other c.of.ensures.named (λ s. grind (arith, s)))
    (number_other Class c.of.ensures.named (λ s. grind (arith, s)))
    (number_other Method c.of.ensures.named (λ s. grind (arith, s)))
    (number_other Property c.of.ensures.named (λ s. grind (arith, s))))
