-- `plan`: by whether the class is decorated and has an id.
use mathlib.Core.Path.{refl, ap, sym, ◌∙◌}
use Rattle.rewriting.specs.Parts.{has_static}
use Rattle.inspect.specs.Reads.{reads_rest}
use Rattle.records.specs.Ends.{blank}
use mathlib.Core.Bool.{true, false}
use lib.ListN.{get_or}
use Rattle.counter.specs.Body.{body_asks, body_kind, body_kids}
use Rattle.transform.specs.Plans.{found_named, found_nameless, found_undecorated, plan_from}
use Rattle.transform.proofs.plan.Goals as goal

pub class_body-b-requires : goal.class_body-b-requires
class_body-b-requires c =
    let p = c.requires in
    body_asks c.args.ws.now p.7 _ p.5 p.6 p.2.ends

pub call_count_at-requires : goal.call_count_at-requires
call_count_at-requires c = (c.requires.0, c.requires.2, λ h. body_kind c.args.ws.now c.requires.7 _ c.requires.5 c.requires.6 c.class_body-b.ensures)

pub returns-then-not-notes-at : goal.returns-then-not-notes-at
returns-then-not-notes-at c =
    let a = c.args in
    let p = c.requires in
    let id = c.class_id-id.ensures in
    plan_from c.class_body-b.result false (body_kids a.ws.now p.7 _ p.5 p.6 c.class_body-b.ensures) id.0
    (sym (c.if-not-notes-at.true) ∙ p.2.classes _ p.5 p.6) c.private_at-private.ensures (c.has_static.ensures ∙ ap has_static (reads_rest c.children.ensures.0)) c.call_count_at.ensures
    (found_undecorated a.s (get_or a.notes.now a.at blank).marked p.3 p.4 id.1 refl c.or.ensures refl)

pub returns-in-Some : goal.returns-in-Some
returns-in-Some c =
    let a = c.args in
    let p = c.requires in
    let id = c.class_id-id.ensures in
    plan_from c.class_body-b.result true (body_kids a.ws.now p.7 _ p.5 p.6 c.class_body-b.ensures) id.0
    (sym (c.if-not-notes-at.false) ∙ p.2.classes _ p.5 p.6) c.private_at-private.ensures (c.has_static.ensures ∙ ap has_static (reads_rest c.children.ensures.0)) c.call_count_at.ensures
    (found_named a.s (get_or a.notes.now a.at blank).marked p.3 p.4 id.1 _ c.in-Some.is c.in-Some.is refl c.alias_of.ensures)

pub returns-in-None : goal.returns-in-None
returns-in-None c =
    let a = c.args in
    let p = c.requires in
    let id = c.class_id-id.ensures in
    plan_from c.class_body-b.result true (body_kids a.ws.now p.7 _ p.5 p.6 c.class_body-b.ensures) id.0
    (sym (c.if-not-notes-at.false) ∙ p.2.classes _ p.5 p.6) c.private_at-private.ensures (c.has_static.ensures ∙ ap has_static (reads_rest c.children.ensures.0)) c.call_count_at.ensures
    (found_nameless a.s (get_or a.notes.now a.at blank).marked p.3 p.4 id.1 c.in-None.is c.or-in-None.ensures refl refl)
