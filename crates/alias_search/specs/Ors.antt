-- Disjunctions up to order and repetition, as rules of `simp`. Assumes nothing.
use Rattle.std.specs.Prelude.{◌≡◌, refl, Bool, true, false, ◌||◌}
use Rattle.std.proofs.Math.Bool.{or_assoc, or_comm, or_self, or_self_left, or-false, false-or}

pub or_swap : (a b c : Bool) → (a || (b || c)) ≡ (b || (a || c))
or_swap true true c = refl
or_swap true false c = refl
or_swap false b c = refl

pub ruleset ors = (or_assoc, or_comm, or_swap, or_self, or_self_left, or-false, false-or)
