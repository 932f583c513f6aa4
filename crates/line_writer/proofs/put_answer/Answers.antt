-- `put_answer`: the numbers' line, then one word's line more each time.
use Rattle.std.proofs.Common.{◌≡◌, List, ◌++◌, ℕ, ◌+◌, ◌<◌, length, take, get_or, ap, sym, ◌∙◌, arith, append_assoc, append-nil, length-append}
use Rattle.std.proofs.lemmas.List.{take_all}
use Rattle.line_writer.specs.Decimal.{head_of, line_of, lines_of, answer_text, lines_more, length_head, length_lines_take}
use Rattle.output.specs.Overlay.{wrote_as, wrote_then}
use Rattle.line_writer.proofs.put_answer.Goals as goal

pub loop-w-init : goal.loop-w-init
unfolding lines_of
loop-w-init c = wrote_as (sym (append-nil _)) c.put_head-next.ensures

pub put_word-next-requires : goal.put_word-next-requires
put_word-next-requires c =
    omega (
      arith,
      c.requires,
      c.loop-w.invariant.end,
      length-append (head_of c.args.code c.args.written c.args.fresh) (lines_of (take c.loop-w.w-index c.args.ws.now)),
      length_head c.args.code c.args.written c.args.fresh,
      length_lines_take c.args.ws.now c.loop-w.w-index,
    )

-- one word's line more, behind other bytes
lines_behind : (bs : List ℕ) (ws : List ℕ) (i : ℕ) → i < length ws → (bs ++ lines_of (take i ws)) ++ line_of (get_or ws i 0) ≡ bs ++ lines_of (take (i + 1) ws)
lines_behind bs ws i h = append_assoc bs (lines_of (take i ws)) (line_of (get_or ws i 0)) ∙ ap (λ (l : List ℕ). bs ++ l) (lines_more ws i h)

pub loop-w-preserved : goal.loop-w-preserved
loop-w-preserved c =
    wrote_as (lines_behind _ _ _ c.loop-w-test.true) (wrote_then c.loop-w.invariant c.put_word-next.ensures)

pub returns : goal.returns
unfolding answer_text
returns c = wrote_as (ap (λ l. head_of c.args.code c.args.written c.args.fresh ++ lines_of l) (take_all _ _ c.loop-w-test.false)) c.loop-w.invariant
