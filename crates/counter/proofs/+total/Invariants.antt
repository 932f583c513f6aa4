use Prim.Native.Nat.{◌+◌, ◌*◌, ◌-◌, ◌≤◌}
use lib.ListN.{length}
use Rattle.counter.specs.Contract.{Totals}
use Rattle.counter.proofs.+total.Given as goal

abbrev pub decreases-total_record : goal.decreases-total_record
decreases-total_record l = 4 * (length l.ws.now - l.at) + 2

abbrev pub decreases-total_records : goal.decreases-total_records
decreases-total_records l = 4 * (length l.ws.now - l.at) + 3

abbrev pub invariant-total_records-loop : goal.invariant-total_records-loop
invariant-total_records-loop l = (l.t.at ≤ length l.ws) × Totals l.ws l.at l.counter l.a l.has l.t
