use mathlib.Core.Bool.{false}
use mathlib.Core.Path.{◌≡◌}
use Prim.Native.Nat.{◌≤◌}
use lib.ListN.{length}
use Rattle.std.specs.declared.option.Option.TheVariants.{None as none}
use Rattle.counter.specs.Contract.{Totals, unlive}
use Rattle.counter.proofs.total_noted.Given as goal

abbrev pub invariant-loop : goal.invariant-loop
invariant-loop l = (l.t.at ≤ length l.ws) × Totals l.ws l.at l.counter unlive false l.t × (l.t.default ≡ none)
