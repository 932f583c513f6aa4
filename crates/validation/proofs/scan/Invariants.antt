use Rattle.std.proofs.Common.{◌≡◌, ◌≤◌, ◌+◌, ◌*◌, [], ◌∷◌, length, drop}
use Rattle.grammar.specs.Scan.{top, judge}
use Rattle.validation.specs.Waiting.{waiting}
use Rattle.validation.proofs.scan.Given as goal

abbrev pub invariant-loop-w : goal.invariant-loop-w
invariant-loop-w g l = record {
  ahead : judge l.symbols (waiting (l.run ∷ l.stack)) (drop l.w-index l.ws) ≡ judge l.symbols (top ∷ []) l.ws;
  levels : length l.stack + 4 * l.run.left ≤ 256;
}
