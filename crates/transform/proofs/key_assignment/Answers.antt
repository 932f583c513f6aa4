-- `key_assignment`: one word for a decorated member of a live class whose key gives no name.
use mathlib.Core.Path.{sym, ◌∙◌}
use borrow.Author.Tests.{not-true, not-false}
use Rattle.counter.specs.Totals.{element_mark}
use Rattle.output.specs.Overlay.{wrote_none}
use Rattle.transform.specs.Leaves.{takes_dead, takes_fresh, takes_named, takes_plain}
use Rattle.transform.proofs.key_assignment.Goals.{then-not-a-via-then-not-a, then-not-a-via-else-not-a+then-not-notes-at, then-not-a-via-else-not-a+else-not-notes-at+then-plain_key}
use Rattle.transform.proofs.key_assignment.Goals as goal

pub returns-then-not-a : goal.returns-then-not-a
returns-then-not-a c =
    let a = c.args in
    let p = c.requires in
    let mark = sym (element_mark a.at p.3 p.4 p.5) in
    elim c.then-not-a.branch [
      | then-not-a-via-then-not-a w ↦ rw (takes_dead a.ws.now a.at a.a (not-true _ w.if-not-a.true)) (wrote_none _ _)
      | then-not-a-via-else-not-a+then-not-notes-at w ↦ rw (takes_plain a.ws.now a.at a.a (not-false _ w.if-not-a.false) (mark ∙ w.if-not-notes-at.true)) (wrote_none _ _)
      | then-not-a-via-else-not-a+else-not-notes-at+then-plain_key w ↦
          rw (takes_named a.ws.now a.at a.a (not-false _ w.if-not-a.false) (mark ∙ w.if-not-notes-at.false) (sym w.plain_key.ensures ∙ w.if-plain_key.true)) (wrote_none _ _)
    ]

pub overflow_sub-next : goal.overflow_sub-next
overflow_sub-next c =
    let a = c.args in
    let p = c.requires in
    p.2 (takes_fresh a.ws.now a.at a.a (not-false _ c.if-not-a.false) (sym (element_mark a.at p.3 p.4 p.5) ∙ c.if-not-notes-at.false) (sym c.plain_key.ensures ∙ c.if-plain_key.false))

pub returns : goal.returns
returns c =
    let a = c.args in
    let p = c.requires in
    rw (takes_fresh a.ws.now a.at a.a (not-false _ c.if-not-a.false) (sym (element_mark a.at p.3 p.4 p.5) ∙ c.if-not-notes-at.false) (sym c.plain_key.ensures ∙ c.if-plain_key.false)) c.put.ensures
