-- `class_id`: the second child, if it is a 27.
use mathlib.Core.Path.{ap, sym, ◌∙◌}
use Rattle.std.specs.declared.option.Option.TheVariants.{Some as some}
use native.Mathlib.Omega.{arith}
use borrow.Author.Tests.{eqb-true, eqb-false}
use Rattle.words.specs.Word.{kind_of, payload_of, payload_lt}
use Rattle.records.specs.Label.{read_at}
use Rattle.records.specs.Place.{label_at}
use Rattle.inspect.specs.Class.{id_here, id_other}
use Rattle.inspect.proofs.class_id.Goals as goal

pub returns-then-not-is_kind : goal.returns-then-not-is_kind
unfolding label_at read_at
returns-then-not-is_kind c =
    let a = c.args in
    let s = c.second_word-w.ensures in
    (sym (id_other a.ws.now a.at s.place s.second (λ e. eqb-false _ 27 (sym c.is_kind.ensures ∙ c.if-not-is_kind.true) (ap kind_of s.word ∙ e))), _)

pub returns : goal.returns
unfolding label_at read_at
returns c =
    let a = c.args in
    let w = c.second_word-w.result in
    let s = c.second_word-w.ensures in
    let e = c.payload_of.ensures in
    (ap some (e ∙ ap payload_of s.word) ∙ sym (id_here a.ws.now a.at s.place s.second (sym (ap kind_of s.word) ∙ eqb-true _ 27 (sym c.is_kind.ensures ∙ c.if-not-is_kind.false))), omega (arith, e, payload_lt w))
