use Rattle.records.specs.Place.{end_of}
use mathlib.Core.Path.{◌≡◌}
use Prim.Native.Nat.{◌-◌, ◌≤◌}
use Rattle.records.proofs.behind.Given as goal

abbrev pub invariant-loop : goal.invariant-loop
invariant-loop l = (l.at ≤ l.q) × (end_of l.ws l.q (l.k - l.counter) ≡ end_of l.ws l.at l.k)
