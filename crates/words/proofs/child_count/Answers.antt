-- `child_count`: the sets of kinds give the shape of the kind.
use mathlib.Core.Path.{◌≡◌, refl, ap, ◌∙◌, sym}
use mir.Val.{bool_byte}
use Prim.Native.Nat.{ℕ, zero, suc, ◌<◌}
use lib.Dec.{eqb}
use native.Mathlib.Omega.{arith}
use borrow.Author.Tests.{eqb-true, eqb-false}
use Rattle.std.proofs.Common.{not-suc-le-zero, le_of_suc-le-suc}
use Rattle.words.specs.Word.{kind_of, payload_of, kind_lt, payload_lt}
use Rattle.words.specs.Shape.{one, many, apart, bit_of, bit_lt, bit_none, shape_children, many_children, few_children}
use Rattle.words.proofs.child_count.Goals as goal

-- a bit and its test are one number
bit_from : (s k : ℕ) → bool_byte (eqb (bit_of s k) 1) ≡ bit_of s k
bit_from s k = go (bit_of s k) (bit_lt s k)
  where
    go : (b : ℕ) → b < 2 → bool_byte (eqb b 1) ≡ b
    go zero h = refl
    go (suc zero) h = refl
    go (suc (suc b)) h = absurd (not-suc-le-zero (le_of_suc-le-suc (le_of_suc-le-suc h)))

pub counted_apart-requires : goal.counted_apart-requires
unfolding apart
counted_apart-requires c = eqb-true _ 1 (sym c.is_in.ensures ∙ c.if-is_in.true)

pub returns-then-is_in : goal.returns-then-is_in
returns-then-is_in c = c.counted_apart.ensures ∙ shape_children (kind_of c.args.w) (payload_of c.args.w)

pub overflow_add-result : goal.overflow_add-result
unfolding one
overflow_add-result c =
    let k = kind_of c.args.w in
    omega (arith, c.from-one.ensures ∙ ap bool_byte c.is_in-2.ensures ∙ bit_from one k, bit_lt one k, c.payload_of.ensures, payload_lt c.args.w)

pub returns-then-is_in-2 : goal.returns-then-is_in-2
unfolding one many apart
returns-then-is_in-2 c =
    let k = kind_of c.args.w in
    let h : k < 64 = kind_lt c.args.w (omega arith) in
    let a = bit_none apart k (eqb-false _ 1 (sym c.is_in.ensures ∙ c.if-is_in.false)) in
    let m = eqb-true _ 1 (sym c.is_in-3.ensures ∙ c.if-is_in-2.true) in
    let o : c.from-one.result ≡ bit_of one k = c.from-one.ensures ∙ ap bool_byte c.is_in-2.ensures ∙ bit_from one k in
    rw (o, c.payload_of.ensures) (many_children k (payload_of c.args.w) h a (λ z. omega (arith, m, z)))

pub returns : goal.returns
unfolding one many apart
returns c =
    let k = kind_of c.args.w in
    let h : k < 64 = kind_lt c.args.w (omega arith) in
    let a = bit_none apart k (eqb-false _ 1 (sym c.is_in.ensures ∙ c.if-is_in.false)) in
    let m = bit_none many k (eqb-false _ 1 (sym c.is_in-3.ensures ∙ c.if-is_in-2.false)) in
    let o : c.from-one.result ≡ bit_of one k = c.from-one.ensures ∙ ap bool_byte c.is_in-2.ensures ∙ bit_from one k in
    o ∙ few_children k (payload_of c.args.w) h a m
