-- `count_records`: the total of the records, from one state on.
use mathlib.Core.Bool.{Bool}
use mathlib.Core.Path.{subst}
use Rattle.counter.specs.Contract.{Totals}
use Rattle.counter.specs.Totals.{totals_counts, totals_room, totals_near}
use Rattle.counter.proofs.count_records.Goals as goal

pub behind-requires : goal.behind-requires
behind-requires c =
    let g = c.args in
    let t = subst (λ (b : Bool). Totals g.ws.now g.at g.k g.a b c.total_records.result) c.is_some.ensures c.total_records.ensures in
    (totals_room g.s c.requires.0 t, totals_near g.s c.requires.0 t)

pub returns : goal.returns
returns c =
    let g = c.args in
    let t = subst (λ (b : Bool). Totals g.ws.now g.at g.k g.a b c.total_records.result) c.is_some.ensures c.total_records.ensures in
    let e = c.behind.ensures in
    totals_counts g.s c.requires.0 t e.0 e.1 e.2
