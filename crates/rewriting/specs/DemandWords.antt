-- Demand 3 of document 01 for words: those of a module as read, ws, and those written for it, out. Definitions only.
use Rattle.std.specs.Prelude.{◌≡◌, List, ℕ}
use Rattle.records.specs.Forest.{end, node}
use Rattle.records.specs.Label.{Trees}
use Rattle.grammar.specs.Scan.{symbols_of}
use Rattle.rewriting.specs.Visit.{module_of, visit_words}
use Rattle.rewriting.specs.Demand.{Demand}

-- the same records, wherever they come from
unfoldable pub Same : Trees → Trees → Type 0
Same end end = Unit {0}
Same end (node m j s) = ⊥
Same (node l k r) end = ⊥
Same (node l k r) (node m j s) = (l.kind ≡ m.kind) × (l.payload ≡ m.payload) × Same k j × Same r s

-- words do not say where they come from: the records of those written have origins of which the demand holds, with the report of ws
pub record DemandWords (ws out : List ℕ) : Type 0 where
  pub written : Trees
  pub same : Same (module_of out) written
  pub demand : Demand (module_of ws) written (visit_words (symbols_of ws) ws).fresh
