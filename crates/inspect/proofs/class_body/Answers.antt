-- `class_body`: the ends of the 28 and of the heritage, by their notes.
use mathlib.Core.Path.{◌≡◌, ap, sym, ◌∙◌}
use Rattle.records.specs.Ends.{blank}
use Rattle.records.specs.declared.Note.{Note}
use mathlib.Core.List.{List}
use Prim.Native.Nat.{ℕ, ◌+◌, ◌-◌, ◌/◌, ◌%◌, ◌<◌, ◌≤◌}
use native.Mathlib.Omega.{arith}
use lib.ListN.{length, get_or}
use Rattle.words.specs.Word.{bit0, bit2}
use Rattle.records.specs.Ends.{Ends}
use Rattle.records.specs.Place.{label_at, arity_at, end_of, end_high}
use Rattle.inspect.specs.Class.{body_bare, body_inherited}
use Rattle.inspect.proofs.class_body.Goals as goal

module _ (ws : List ℕ) (notes : List Note) (at p : ℕ) (ends : Ends ws notes 0) (kind : (label_at ws at).kind ≡ 26) (e : p ≡ (label_at ws at).payload) (next : at + 1 < length ws)
    (id : end_of ws (at + 1) (1 + bit0 (label_at ws at).payload) ≡ end_of ws (at + 1) 1 + bit0 (label_at ws at).payload)
    (most : end_of ws (at + 1) (1 + bit0 (label_at ws at).payload) < length ws) where
  -- the place behind the id
  behind-id : (get_or notes (at + 1) blank).end + p % 2 ≡ end_of ws (at + 1) (1 + bit0 (label_at ws at).payload)
  unfolding bit0
  behind-id = omega (arith, id, e, ends.right (at + 1) (omega arith) next)

  bare : p / 4 % 2 ≡ 0 → (get_or notes (at + 1) blank).end + p % 2 ≡ end_of ws (at + 1) (arity_at ws at - 1)
  unfolding bit2
  bare z = behind-id ∙ sym (body_bare ws at kind (omega (arith, e, z)))

  noted : (get_or notes ((get_or notes (at + 1) blank).end + p % 2) blank).end ≡ end_of ws (end_of ws (at + 1) (1 + bit0 (label_at ws at).payload)) 1
  noted = ap (λ (q : ℕ). (get_or notes q blank).end) behind-id ∙ ends.right _ (omega arith) most

  high : (get_or notes ((get_or notes (at + 1) blank).end + p % 2) blank).end ≤ length ws
  high = omega (arith, noted, most, end_high ws (end_of ws (at + 1) (1 + bit0 (label_at ws at).payload)) 1)

  inherited : (p / 4 % 2 ≡ 0 → ⊥) → (get_or notes ((get_or notes (at + 1) blank).end + p % 2) blank).end ≡ end_of ws (at + 1) (arity_at ws at - 1)
  unfolding bit2
  inherited z = noted ∙ sym (body_inherited ws at kind (omega (arith, e, z)))

pub overflow_cast-q : goal.overflow_cast-q
overflow_cast-q c = omega (arith, c.requires.0.right (c.args.at + 1) (omega arith) c.requires.2, end_high c.args.ws.now (c.args.at + 1) 1)

pub overflow_add-q-2 : goal.overflow_add-q-2
overflow_add-q-2 c = omega (arith, behind-id _ c.args.notes.now _ _ c.requires.0 c.requires.1 c.payload_at-p.ensures.0 c.requires.2 c.requires.3 c.requires.4, c.requires.4)

pub returns-then-p-eq0 : goal.returns-then-p-eq0
returns-then-p-eq0 c = bare _ c.args.notes.now _ _ c.requires.0 c.requires.1 c.payload_at-p.ensures.0 c.requires.2 c.requires.3 c.requires.4 c.if-p-eq0.true

pub offset_bounds-notes-q : goal.offset_bounds-notes-q
offset_bounds-notes-q c = omega (arith, behind-id _ c.args.notes.now _ _ c.requires.0 c.requires.1 c.payload_at-p.ensures.0 c.requires.2 c.requires.3 c.requires.4, c.requires.4)

pub bounds-notes-q : goal.bounds-notes-q
bounds-notes-q c = omega (arith, behind-id _ c.args.notes.now _ _ c.requires.0 c.requires.1 c.payload_at-p.ensures.0 c.requires.2 c.requires.3 c.requires.4, c.requires.4, c.requires.0.long)

pub overflow_cast-result : goal.overflow_cast-result
overflow_cast-result c = omega (arith, high _ c.args.notes.now _ _ c.requires.0 c.requires.1 c.payload_at-p.ensures.0 c.requires.2 c.requires.3 c.requires.4)

pub returns : goal.returns
returns c = inherited _ c.args.notes.now _ _ c.requires.0 c.requires.1 c.payload_at-p.ensures.0 c.requires.2 c.requires.3 c.requires.4 c.if-p-eq0.false
