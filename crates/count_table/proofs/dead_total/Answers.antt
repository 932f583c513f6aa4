-- `dead_total`: the total of the children, by `dead_leads`.
use Rattle.count_table.specs.Note.{behind_walks, dead_leads}
use Rattle.counter.specs.Contract.{Totals, unlive}
use mathlib.Core.Bool.{false}
use mathlib.Core.Path.{subst}
use Prim.Native.Nat.{ℕ, ◌+◌}
use Rattle.count_table.proofs.dead_total.Goals as goal

pub total_noted-requires : goal.total_noted-requires
total_noted-requires c = behind_walks c.requires.0

pub returns : goal.returns
returns c =
    let g = c.args in
    dead_leads c.requires.0 c.requires.1 (subst (λ (j : ℕ). Totals g.ws.now (g.at + 1) j unlive false c.total_noted.result) c.children_at.ensures.0 c.total_noted.ensures)
