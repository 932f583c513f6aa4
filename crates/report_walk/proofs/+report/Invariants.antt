use Rattle.report_walk.specs.Contract.{Reports}
use lib.ListN.{length}
use Prim.Native.Nat.{◌+◌, ◌*◌, ◌-◌}
use Rattle.report_walk.proofs.+report.Given as goal

abbrev pub decreases-report_class_expression : goal.decreases-report_class_expression
decreases-report_class_expression l = 4 * (length l.ws.now - l.w.at) + 1

abbrev pub decreases-report_class_statement : goal.decreases-report_class_statement
decreases-report_class_statement l = 4 * (length l.ws.now - l.w.at) + 1

abbrev pub decreases-report_element : goal.decreases-report_element
decreases-report_element l = 4 * (length l.ws.now - l.w.at) + 1

abbrev pub decreases-report_record : goal.decreases-report_record
decreases-report_record l = 4 * (length l.ws.now - l.w.at) + 2

abbrev pub decreases-report_records : goal.decreases-report_records
decreases-report_records l = 4 * (length l.ws.now - l.w.at) + 3

abbrev pub invariant-report_records-loop : goal.invariant-report_records-loop
invariant-report_records-loop l = Reports l.ws l.counter l.a l.initial.w l.initial.out l.w l.out
