-- `sort_at`: by the kind, for members by the mark; a module stands at the first place alone.
use native.Mathlib.Omega.{arith}
use Rattle.words.specs.Kinds.{number_other}
use Rattle.words.specs.declared.kinds.Kind.TheVariants.{Block, StaticBlock, Code, ClassStatement, ClassExpression, Method, Property, AbstractAccessor}
use Rattle.transform.specs.Kept.{list_kind, kept_plain, plain_rest, unmarked_kept}
use Rattle.transform.specs.Sole.{no_module}
use Rattle.transform.proofs.sort_at.Goals as goal

pub returns-in-Some-Block : goal.returns-in-Some-Block
returns-in-Some-Block c =
    let n = c.in-Some-Block.ensures.number in
    list_kind _ (grind (arith, n))

pub returns-in_default : goal.returns-in_default
returns-in_default c =
    let g = c.args in
    let p = c.requires in
    let n = c.kind_at.ensures.number in
    unmarked_kept g.ws.now g.notes.now g.at p.2 p.1 p.0 c.if-notes-at.false (grind (arith, n)) (grind (arith, n))

pub returns-in_default-2 : goal.returns-in_default-2
returns-in_default-2 c =
    let g = c.args in
    let p = c.requires in
    let o = c.kind_at.ensures.named in
    kept_plain g.ws.now g.at p.2 (plain_rest _ (no_module g.ws.now p.1 g.at p.3 p.2) (number_other Block o (λ s. grind (arith, s))) (number_other StaticBlock o (λ s. grind (arith, s))) (number_other Code o (λ s. grind (arith, s))) (number_other ClassStatement o (λ s. grind (arith, s))) (number_other ClassExpression o (λ s. grind (arith, s))) (number_other Method o (λ s. grind (arith, s))) (number_other Property o (λ s. grind (arith, s))) (number_other AbstractAccessor o (λ s. grind (arith, s))))

pub returns-in_default-3 : goal.returns-in_default-3
returns-in_default-3 c =
    let g = c.args in
    let p = c.requires in
    let o = c.kind_at.ensures.named in
    kept_plain g.ws.now g.at p.2 (plain_rest _ (no_module g.ws.now p.1 g.at p.3 p.2) (number_other Block o (λ s. grind (arith, s))) (number_other StaticBlock o (λ s. grind (arith, s))) (number_other Code o (λ s. grind (arith, s))) (number_other ClassStatement o (λ s. grind (arith, s))) (number_other ClassExpression o (λ s. grind (arith, s))) (number_other Method o (λ s. grind (arith, s))) (number_other Property o (λ s. grind (arith, s))) (number_other AbstractAccessor o (λ s. grind (arith, s))))
