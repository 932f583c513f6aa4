-- `arguments`: four words at most.
use mathlib.Core.Path.{ap, sym, ◌∙◌}
use mathlib.Core.Bool.{cond}
use mathlib.Core.List.{[], ◌∷◌}
use Prim.Native.Nat.{ℕ}
use native.Mathlib.Omega.{arith}
use lib.Dec.{eqb}
use Rattle.words.specs.Word.{bit0}
use Rattle.records.specs.Label.{bit, is}
use Rattle.output.specs.Overlay.{wrote_then}
use Rattle.walk_laws.specs.Calls.{argument_words, prefix_words}
use Rattle.transform.specs.Contract.{word_below}
use Rattle.transform.specs.Leaves.{prefix_length, symbol_is, wrote_as}
use Rattle.transform.specs.StepsRecords.{word_kind}
use Rattle.transform.proofs.arguments.Goals as goal

pub get_name_of_property_key-p2-requires : goal.get_name_of_property_key-p2-requires
get_name_of_property_key-p2-requires c =
    let p = c.requires in
    (omega (arith, c.get_class_member_prefix-p1.ensures.end, prefix_length (word_below c.args.c) 0 c.unwrap.result (eqb (bit0 c.payload_at.result) 1), p.0), p.1, p.3, p.4, p.5)

pub put-requires : goal.put-requires
put-requires c = (
  omega (arith, c.get_name_of_property_key-p2.ensures.end, c.get_class_member_prefix-p1.ensures.end, prefix_length (word_below c.args.c) 0 c.unwrap.result (eqb (bit0 c.payload_at.result) 1), c.requires.0),
  omega arith,
)

pub returns : goal.returns
unfolding argument_words bit is
returns c =
    let w : ℕ → ℕ → ℕ = word_below c.args.c in
    let symbol = symbol_is c.args.a.id c.args.s.default _ (sym c.or.ensures ∙ c.unwrap.ensures) in
    wrote_then
    (wrote_as (ap (λ (p : ℕ). prefix_words w (eqb (bit0 p) 1) c.unwrap.result) c.payload_at.ensures.0 ∙ ap (prefix_words w _) (sym symbol)) c.get_class_member_prefix-p1.ensures)
    (wrote_then c.get_name_of_property_key-p2.ensures
    (wrote_as (ap (λ (k : ℕ). w k 0 ∷ []) (c.descriptor.ensures ∙ ap (λ (k : ℕ). cond (eqb k 31) 14 13) (word_kind c.args.ws.now c.args.at c.word_at.ensures))) c.put.ensures))
