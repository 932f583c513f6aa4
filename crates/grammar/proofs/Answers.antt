-- The seven answers and their conditions: each module has exactly one. Assumes nothing.
use Rattle.std.specs.Prelude.{◌≡◌, refl, List, ◌↔◌, ℕ, zero, suc, ◌≤◌}
use Rattle.std.proofs.Common.{sym, ◌∙◌, arith}
use Rattle.grammar.specs.Scan.{symbols_of, refusal}
use Rattle.grammar.specs.WellFormed.{tree_of, Sized, WellFormed}
use Rattle.grammar.proofs.Faults.{TooDeep, UnknownSymbol, TooManySymbols, DecoratedConstructor}
use Rattle.grammar.proofs.Refused.{Malformed, FirstAtFault, refused_1, refused_2, refused_3, refused_4, refused_5, refused_6, refusal_le}
use Rattle.grammar.proofs.Accepted.{accepted}

-- the condition under which n is answered
pub data Answer (ws : List ℕ) (n : ℕ) : Type 0 where
  well_formed : n ≡ 0 → WellFormed ws (tree_of ws) → Answer ws n
  not_sized : n ≡ 1 → (Sized ws → ⊥) → Answer ws n
  malformed : n ≡ 2 → Sized ws → Malformed ws → Answer ws n
  too_deep : n ≡ 3 → Sized ws → FirstAtFault ws TooDeep → Answer ws n
  unknown_symbol : n ≡ 4 → Sized ws → FirstAtFault ws (UnknownSymbol (symbols_of ws)) → Answer ws n
  too_many_symbols : n ≡ 5 → Sized ws → FirstAtFault ws TooManySymbols → Answer ws n
  decorated_constructor : n ≡ 6 → Sized ws → FirstAtFault ws DecoratedConstructor → Answer ws n

module _ (ws : List ℕ) where
  told : (n : ℕ) → refusal ws ≡ n → n ≤ 6 → Answer ws n
  told zero e h = well_formed refl ((accepted ws).0 e)
  told (suc zero) e h = not_sized refl ((refused_1 ws).0 e)
  told (suc (suc zero)) e h = let r = (refused_2 ws).0 e in malformed refl r.0 r.1
  told (suc (suc (suc zero))) e h = let r = (refused_3 ws).0 e in too_deep refl r.0 r.1
  told (suc (suc (suc (suc zero)))) e h = let r = (refused_4 ws).0 e in unknown_symbol refl r.0 r.1
  told (suc (suc (suc (suc (suc zero))))) e h = let r = (refused_5 ws).0 e in too_many_symbols refl r.0 r.1
  told (suc (suc (suc (suc (suc (suc zero)))))) e h = let r = (refused_6 ws).0 e in decorated_constructor refl r.0 r.1
  told (suc (suc (suc (suc (suc (suc (suc n))))))) e h = absurd (omega arith)

  known : (n : ℕ) → Answer ws n → refusal ws ≡ n
  known n (well_formed e g) = (accepted ws).1 g ∙ sym e
  known n (not_sized e z) = (refused_1 ws).1 z ∙ sym e
  known n (malformed e z m) = (refused_2 ws).1 (z, m) ∙ sym e
  known n (too_deep e z f) = (refused_3 ws).1 (z, f) ∙ sym e
  known n (unknown_symbol e z f) = (refused_4 ws).1 (z, f) ∙ sym e
  known n (too_many_symbols e z f) = (refused_5 ws).1 (z, f) ∙ sym e
  known n (decorated_constructor e z f) = (refused_6 ws).1 (z, f) ∙ sym e

  -- n is answered exactly when its condition holds
  pub answered : (n : ℕ) → refusal ws ≡ n ↔ Answer ws n
  answered n = (λ e. told n e (let l = refusal_le ws in omega arith), known n)

  -- one of the conditions holds, and no two of different numbers
  pub one_answer : Answer ws (refusal ws) × ((m n : ℕ) → Answer ws m → Answer ws n → m ≡ n)
  one_answer = ((answered (refusal ws)).0 refl, λ m n a b. sym (known m a) ∙ known n b)
