-- `write_module`: the walker's answer for the whole module, with an empty class stack and the counter at S.
use Rattle.rewriter.specs.Result.{start_asks, start_writes_at, symbols_word}
use Rattle.rewriter.specs.Start.{start_inside}
use Rattle.transform.specs.Contract.{begun, here_at, Asks}
use Rattle.counter.specs.Contract.{unlive}
use Rattle.records.specs.Forest.{size}
use Prim.Native.Nat.{ℕ}
use mathlib.Core.Path.{sym, subst, ◌∙◌}
use Rattle.rewriter.proofs.write_module.Goals as goal

pub program-requires : goal.program-requires
program-requires c =
    let g = c.args in
    let ws = g.ws.now in
    let e = sym (c.payload_at-s.ensures.0 ∙ symbols_word ws) in
    (subst (λ (s : ℕ). Asks ws g.notes.now 0 1 s c.new.result 0 (size (here_at ws 0 1 unlive (begun s)))) e (start_asks ws c.requires.0 c.new.result c.new.ensures g.notes.now c.requires.1 c.requires.2), start_inside ws c.requires.0)

pub returns : goal.returns
returns c =
    let g = c.args in
    let ws = g.ws.now in
    let e = c.payload_at-s.ensures.0 ∙ symbols_word ws in
    start_writes_at ws c.requires.0 c.new.result c.new.ensures c.payload_at-s.result e c.program.ensures
