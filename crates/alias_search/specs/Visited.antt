-- The visit of a row, record by record, and of one record that keeps its children. Assumes nothing.
use Rattle.std.specs.Prelude.{◌≡◌}
use Rattle.std.proofs.Math.Path.{ap}
use Rattle.records.specs.Forest.{node, append_f}
use Rattle.records.specs.Label.{Label, Trees}
use Rattle.rewriting.specs.Visit.{Result, join, ◌then◌, visit, visit_one, visit_node}
use Rattle.rewriting.specs.declared.Around.{Around}
use Rattle.rewriting.specs.declared.State.{State}

module _ (around : Around) (l : Label) (k r : Trees) (s : State) where
  pub here_node : (visit around (node l k r) s).here ≡ append_f (visit_one around l k s).here (visit around r (visit_one around l k s).after).here
  unfolding ◌then◌ join
  here_node = ap (λ (x : Result). x.here) (visit_node around l k r s)

  pub calls_node : (visit around (node l k r) s).calls ≡ append_f (visit_one around l k s).calls (visit around r (visit_one around l k s).after).calls
  unfolding ◌then◌ join
  calls_node = ap (λ (x : Result). x.calls) (visit_node around l k r s)

  pub after_node : (visit around (node l k r) s).after ≡ (visit around r (visit_one around l k s).after).after
  unfolding ◌then◌ join
  after_node = ap (λ (x : Result). x.after) (visit_node around l k r s)
