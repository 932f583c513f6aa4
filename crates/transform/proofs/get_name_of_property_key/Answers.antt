-- `get_name_of_property_key`: by the kind of the key.
use mathlib.Core.Path.{sym, ◌∙◌}
use Prim.Native.Nat.{◌-◌}
use native.Mathlib.Omega.{arith}
use borrow.Author.Rules.{rules}
use borrow.Author.Tests.{eqb-true, eqb-false}
use Rattle.words.specs.Word.{payload_lt}
use Rattle.records.specs.Ends.{ends_at}
use Rattle.transform.specs.Contract.{word_below}
use Rattle.transform.specs.Leaves.{name_copied, name_fresh, name_private, name_string, wrote_as}
use Rattle.transform.specs.StepsRecords.{word_kind, word_payload}
use Rattle.transform.proofs.get_name_of_property_key.Goals as goal

pub behind-q-requires : goal.behind-q-requires
behind-q-requires c = search (rules, ends_at)

pub put-requires : goal.put-requires
put-requires c = (c.requires.0, omega (arith, c.payload_of.ensures, payload_lt c.word_at-w.result))

pub returns-then-is_kind : goal.returns-then-is_kind
returns-then-is_kind c =
    let a = c.args in
    let h = c.word_at-w.ensures in
    let q = c.behind-q.result in
    wrote_as (name_string (word_below a.c) a.ws.now a.at q c.behind-q.ensures _ (word_kind a.ws.now q h) (a.next - 1) _ (c.payload_of.ensures ∙ word_payload a.ws.now q h) (eqb-true _ 34 (sym c.is_kind.ensures ∙ c.if-is_kind.true))) c.put.ensures

pub returns-then-is_kind-2 : goal.returns-then-is_kind-2
returns-then-is_kind-2 c =
    let a = c.args in
    let h = c.word_at-w.ensures in
    let q = c.behind-q.result in
    wrote_as (name_private (word_below a.c) a.ws.now a.at q c.behind-q.ensures _ (word_kind a.ws.now q h) (a.next - 1) (eqb-false _ 34 (sym c.is_kind.ensures ∙ c.if-is_kind.false)) (eqb-true _ 35 (sym c.is_kind-2.ensures ∙ c.if-is_kind-2.true))) c.put-then-is_kind-2.ensures

pub returns-then-plain_key : goal.returns-then-plain_key
returns-then-plain_key c =
    let a = c.args in
    let h = c.word_at-w.ensures in
    let q = c.behind-q.result in
    wrote_as (name_copied (word_below a.c) a.ws.now a.at q c.behind-q.ensures _ (word_kind a.ws.now q h) (a.next - 1) _ (word_payload a.ws.now q h) (eqb-false _ 34 (sym c.is_kind.ensures ∙ c.if-is_kind.false)) (eqb-false _ 35 (sym c.is_kind-2.ensures ∙ c.if-is_kind-2.false)) (sym c.plain_key.ensures ∙ c.if-plain_key.true)) c.put_word.ensures

pub overflow_sub-next : goal.overflow_sub-next
overflow_sub-next c = c.requires.3 (sym c.plain_key.ensures ∙ c.if-plain_key.false)

pub returns : goal.returns
returns c =
    let a = c.args in
    let h = c.word_at-w.ensures in
    let q = c.behind-q.result in
    wrote_as (name_fresh (word_below a.c) a.ws.now a.at q c.behind-q.ensures _ (word_kind a.ws.now q h) (a.next - 1) (eqb-false _ 34 (sym c.is_kind.ensures ∙ c.if-is_kind.false)) (eqb-false _ 35 (sym c.is_kind-2.ensures ∙ c.if-is_kind-2.false)) (sym c.plain_key.ensures ∙ c.if-plain_key.false)) c.put-2.ensures
