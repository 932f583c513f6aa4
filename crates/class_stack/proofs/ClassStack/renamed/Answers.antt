-- `renamed`: the entries before i are left for x.
use mathlib.Core.Path.{◌≡◌, ap, sym, ◌∙◌, subst}
use Prim.Native.Nat.{ℕ, ◌<◌}
use native.Mathlib.Omega.{arith}
use Rattle.class_stack.specs.Entries.{rename_step}
use Rattle.class_stack.specs.Renaming.{entries, rename_p, swapped_small}
use Rattle.class_stack.proofs.ClassStack.renamed.Goals as goal

pub loop-i-preserved : goal.loop-i-preserved
loop-i-preserved c =
    let l = c.loop-i in
    let s = c.args.self in
    let small : c.swap-x.result < 67108864 = subst (λ (n : ℕ). n < 67108864) (sym c.swap-x.ensures) (swapped_small _ l.x 67108864 l.invariant.0 (s.ready.aliases.small _)) in
    (small, rename_step s.symbols s.aliases l.i l.x c.swap-x.result c.loop-i-test.true c.swap-x.ensures ∙ l.invariant.1)

pub returns : goal.returns
unfolding entries rename_p
returns c =
    let l = c.loop-i in
    let s = c.args.self in
    let e : l.i ≡ 0 = omega arith in
    (ap (λ (n : ℕ). rename_p (entries s.symbols s.aliases n) l.x) (sym e) ∙ l.invariant.1, l.invariant.0)
