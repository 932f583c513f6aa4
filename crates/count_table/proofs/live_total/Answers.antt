-- `live_total`: the total of the class and the symbols of rule 6, by `live_leads`.
use Rattle.count_table.specs.Note.{behind_walks, live_leads}
use Rattle.counter.specs.Totals.{totals_few}
use native.Mathlib.Omega.{arith}
use Rattle.count_table.proofs.live_total.Goals as goal

pub overflow_add-result : goal.overflow_add-result
overflow_add-result c = omega (arith, totals_few (behind_walks c.requires.0) c.class_total-t.ensures, c.class_count.ensures.1)

pub returns : goal.returns
returns c = live_leads c.requires.0 c.requires.1 c.class_id-id.ensures.0 c.class_total-t.ensures c.class_count.ensures.0 c.class_count.ensures.1
