-- `call_count_at`: by the mark of the body, or by counting.
use mathlib.Core.Path.{sym, ap, ◌∙◌}
use mathlib.Core.Bool.{false≢true}
use lib.ListN.{length}
use native.Mathlib.Omega.{arith}
use Rattle.inspect.specs.Reads.{reads_rest}
use Rattle.inspect.specs.Class.{count_called}
use Rattle.transform.specs.Plans.{called_few, called_past, called_unmarked}
use Rattle.transform.proofs.call_count_at.Goals.{then-not-private-via-then-not-private, then-not-private-via-else-not-private+then-ws-b, then-not-private-via-else-not-private+else-ws-b+then-not-notes-b}
use Rattle.transform.proofs.call_count_at.Goals as goal

pub returns-then-not-private : goal.returns-then-not-private
returns-then-not-private c t =
    let a = c.args in
    elim c.then-not-private.branch [
      | then-not-private-via-then-not-private w ↦ absurd (false≢true (sym w.if-not-private.true ∙ t))
      | then-not-private-via-else-not-private+then-ws-b w ↦ called_past a.ws.now a.b w.if-ws-b.true
      | then-not-private-via-else-not-private+else-ws-b+then-not-notes-b w ↦ called_unmarked a.b c.requires.1 w.if-ws-b.false (c.requires.2 w.if-ws-b.false) w.if-not-notes-b.true
    ]

pub overflow_cast-result : goal.overflow_cast-result
overflow_cast-result c = let r = c.children.result in omega (arith, c.call_count.ensures, called_few r.words.now r.at r.left, ap length c.children.ensures.0.words, c.requires.0)

pub returns : goal.returns
returns c = λ t. c.call_count.ensures ∙ ap count_called (reads_rest c.children.ensures.0)
