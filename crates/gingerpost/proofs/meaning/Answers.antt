-- `meaning`: by its comparisons.
use Rattle.std.proofs.Common.{◌≡◌, ℕ, Bool, List, [], ◌∷◌, ◌∙◌, sym, arith}
use Rattle.std.proofs.lemmas.Bool.Decides.{Decides-eqb, nat_tests}
use Rattle.std.proofs.lemmas.Slice.Eq.{slice_eq-Decides}
use Rattle.std.specs.Bool.{Decides}
use Rattle.std.specs.Cmp.Lexicographic.{pointwise}
use Rattle.std.specs.List.{starts_with}
use Rattle.std.specs.Prelude.{nat_eq}
use Rattle.gingerpost.specs.Arguments.{Means, Dashed, help_bytes, rewrite_bytes, report_bytes, other, differ}
use Rattle.gingerpost.proofs.meaning.Goals as goal

-- a comparison with lent bytes tells whether a is what they are
tells : {a l bytes : List ℕ} {r : Bool} → r ≡ pointwise nat_eq a l → l ≡ bytes → Decides r (a ≡ bytes)
tells {a} {l} {bytes} {r} e h = let d = slice_eq-Decides Decides-eqb a l r e in (λ t. d.0 t ∙ h, λ q. d.1 (q ∙ sym h))

-- whether a begins with '-'
dashed : (a : List ℕ) (r : Bool) → r ≡ starts_with nat_eq a (45 ∷ []) → Decides r (Dashed a)
unfolding Dashed
dashed [] r e = (λ t. absurd (differ e t), λ d. absurd (omega (arith, d.0)))
dashed (x ∷ xs) r e = (λ t. (omega arith, grind (arith, nat_tests)), λ d. grind (arith, nat_tests))

pub returns-then-eq : goal.returns-then-eq
unfolding Means help_bytes
returns-then-eq c = (tells c.eq.ensures c.as_slice.ensures).0 c.if-eq.true

pub returns-then-eq-2 : goal.returns-then-eq-2
unfolding Means rewrite_bytes
returns-then-eq-2 c = (tells c.eq-else-eq.ensures c.as_slice-else-eq.ensures).0 c.if-eq-2.true

pub returns-then-eq-3 : goal.returns-then-eq-3
unfolding Means report_bytes
returns-then-eq-3 c = (tells c.eq-else-eq-2.ensures c.as_slice-else-eq-2.ensures).0 c.if-eq-3.true

pub returns-then-starts_with : goal.returns-then-starts_with
unfolding Means help_bytes rewrite_bytes report_bytes
returns-then-starts_with c = (
  other
      c.if-eq.false
      (tells c.eq.ensures c.as_slice.ensures).1
      c.if-eq-2.false
      (tells c.eq-else-eq.ensures c.as_slice-else-eq.ensures).1
      c.if-eq-3.false
      (tells c.eq-else-eq-2.ensures c.as_slice-else-eq-2.ensures).1,
  (dashed c.args.a.now c.starts_with.result c.starts_with.ensures.value).0 c.if-starts_with.true,
)

pub returns-else-starts_with : goal.returns-else-starts_with
unfolding Means help_bytes rewrite_bytes report_bytes
returns-else-starts_with c = (
  other
      c.if-eq.false
      (tells c.eq.ensures c.as_slice.ensures).1
      c.if-eq-2.false
      (tells c.eq-else-eq.ensures c.as_slice-else-eq.ensures).1
      c.if-eq-3.false
      (tells c.eq-else-eq-2.ensures c.as_slice-else-eq-2.ensures).1,
  λ d. differ c.if-starts_with.false ((dashed c.args.a.now c.starts_with.result c.starts_with.ensures.value).1 d),
)
