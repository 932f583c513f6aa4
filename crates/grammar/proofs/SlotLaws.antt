-- The slots of a category, by what else their places say of them. Assumes nothing.
use Rattle.std.specs.Prelude.{◌≡◌, refl, false, ℕ, ◌≤◌, eqb}
use Rattle.std.proofs.Common.{◌∙◌, arith, ne_eqb}
use Rattle.words.specs.Table.{lookup}
use Rattle.grammar.specs.Grammar.{row_of}
use Rattle.grammar.proofs.Rows.{sole_kind, kind_sole}
use Rattle.grammar.specs.declared.Slot.{Slot}
use Rattle.grammar.specs.declared.Slot.TheVariants.{OwnStatement, Key, PlainClass, ExportedClass, ConstructorDecorators, FunctionDecorators}
use Rattle.grammar.specs.Slots.{slot_of}

-- a statement
pub not_own : (s : Slot) → (slot_of s).category ≡ 3 → (s ≡ OwnStatement → ⊥) → (slot_of s).context ≡ 0
not_own OwnStatement e n = absurd (n refl)
not_own _ e n = omega arith

-- a class
pub no_id : (s : Slot) → (slot_of s).category ≡ 5 → (s ≡ PlainClass → ⊥) → (s ≡ ExportedClass → ⊥) → 2 ≤ (slot_of s).context
no_id PlainClass e n m = absurd (n refl)
no_id ExportedClass e n m = absurd (m refl)
no_id _ e n m = omega arith

-- decorators
pub of_function : (s : Slot) → (slot_of s).category ≡ 7 → (slot_of s).context ≡ 2 → s ≡ FunctionDecorators
of_function FunctionDecorators e h = refl
of_function _ e h = absurd (omega arith)

-- any other
pub not_own_or_key : (s : Slot) → ((slot_of s).category ≡ 5 → ⊥) → ((slot_of s).category ≡ 7 → ⊥) → (s ≡ OwnStatement → ⊥) → (s ≡ Key → ⊥) → (slot_of s).context ≡ 1 → ⊥
not_own_or_key ExportedClass a b c d e = a refl
not_own_or_key ConstructorDecorators a b c d e = b refl
not_own_or_key OwnStatement a b c d e = c refl
not_own_or_key Key a b c d e = d refl
not_own_or_key _ a b c d e = omega arith

-- where neither a class nor decorators stand
pub not_in_context : (k : ℕ) (s : Slot) → (row_of k).category ≡ (slot_of s).category → (k ≡ 26 → ⊥) → (k ≡ 28 → ⊥) → (s ≡ OwnStatement → ⊥) → (s ≡ Key → ⊥) → eqb (slot_of s).context 1 ≡ false
unfolding sole_kind lookup
not_in_context k s e c d m n =
    ne_eqb (slot_of s).context 1 (not_own_or_key s (λ f. c (kind_sole k 5 (e ∙ f) tt)) (λ f. d (kind_sole k 7 (e ∙ f) tt)) m n)
