-- `find_ends`: the invariant says that the notes from the place on are right.
use Rattle.records.specs.Ends.{Ends, ends_none, ends_down}
use Rattle.records.specs.declared.Note.{Note}
use Rattle.records.specs.Place.{end_of, end_high, end_one, arity_at_children}
use native.Mathlib.Omega.{arith}
use mathlib.Core.Path.{◌≡◌, refl, sym, ap, subst, ◌∙◌}
use lib.ListN.{length, length-set}
use mathlib.Core.List.{List}
use Prim.Native.Nat.{ℕ, ◌+◌, ◌-◌, ◌<◌, ◌≤◌}
use Rattle.std.specs.Prelude.{max}
use Rattle.records.proofs.find_ends.Goals as goal

-- one place back
down : {ws : List ℕ} {notes : List Note} {i : ℕ} → Ends ws notes i → 0 < i → Ends ws notes (i - 1 + 1)
down {ws} {notes} {i} e h = let s : i ≡ i - 1 + 1 = omega (arith, h) in subst (Ends ws notes) s e

pub loop-i-init : goal.loop-i-init
loop-i-init c = (ends_none _ _ c.requires.0, refl)

pub behind-requires : goal.behind-requires
behind-requires c = down c.loop-i.invariant.0 c.loop-i-test.true

pub overflow_cast-notes : goal.overflow_cast-notes
overflow_cast-notes c = let e = sym c.behind.ensures in omega (arith, subst (λ (m : ℕ). m ≤ max (c.loop-i.i - 1 + 1) (length c.args.ws.now)) e (end_high c.args.ws.now _ _), c.requires.1)

pub loop-i-preserved : goal.loop-i-preserved
loop-i-preserved c =
    let inside : c.loop-i.i - 1 < length c.args.ws.now = omega arith in
    let e = c.behind.ensures ∙ ap (end_of c.args.ws.now (c.loop-i.i - 1 + 1)) (c.child_count-n.ensures ∙ sym (arity_at_children c.args.ws.now (c.loop-i.i - 1))) ∙ sym (end_one c.args.ws.now (c.loop-i.i - 1) inside) in
    (ends_down _ (down c.loop-i.invariant.0 c.loop-i-test.true) e, length-set c.loop-i.notes (c.loop-i.i - 1) _ ∙ c.loop-i.invariant.1)

pub returns : goal.returns
returns c = (subst (Ends c.args.ws.now _) (omega arith) c.loop-i.invariant.0, c.loop-i.invariant.1)
