-- The numbers of the refusals are their own, and none is 0. Assumes nothing.
use Rattle.std.specs.Prelude.{◌≡◌, refl, [], ◌∷◌, ℕ, ◌<◌, Result, Ok, Err}
use Rattle.std.proofs.Common.{sym, ap, ◌∙◌, arith}
use Rattle.words.specs.Table.{lookup}
use Rattle.grammar.specs.declared.Refusal.{Refusal}
use Rattle.grammar.specs.declared.Refusal.TheVariants.{BadLength, Malformed, TooDeep, UnknownSymbol, TooManySymbols, DecoratedConstructor, DecoratedLaterConstructor, OutputTooShort}
use Rattle.grammar.specs.Refusals.{number_of, code_of}

unfoldable refusal_at : ℕ → Refusal
refusal_at n =
    lookup n ((1, BadLength) ∷ (2, Malformed) ∷ (3, TooDeep) ∷ (4, UnknownSymbol) ∷ (5, TooManySymbols) ∷ (6, DecoratedConstructor) ∷ (7, DecoratedLaterConstructor) ∷ []) OutputTooShort

refusal_number : (r : Refusal) → refusal_at (number_of r) ≡ r
unfolding refusal_at lookup
refusal_number BadLength = refl
refusal_number Malformed = refl
refusal_number TooDeep = refl
refusal_number UnknownSymbol = refl
refusal_number TooManySymbols = refl
refusal_number DecoratedConstructor = refl
refusal_number DecoratedLaterConstructor = refl
refusal_number OutputTooShort = refl

-- each number is one refusal's
pub one_refusal : (r s : Refusal) → number_of r ≡ number_of s → r ≡ s
one_refusal r s e = sym (refusal_number r) ∙ ap refusal_at e ∙ refusal_number s

pub number_some : (r : Refusal) → 0 < number_of r
number_some BadLength = omega arith
number_some _ = omega arith

pub number_small : (r : Refusal) → number_of r < 9
number_small BadLength = omega arith
number_small _ = omega arith

-- each code is one answer's
pub one_code : (v w : Result Unit Refusal) → code_of v ≡ code_of w → v ≡ w
one_code (Ok a) (Ok b) e = refl
one_code (Ok a) (Err s) e = absurd (omega (arith, number_some s))
one_code (Err r) (Ok b) e = absurd (omega (arith, number_some r))
one_code (Err r) (Err s) e = ap Err (one_refusal r s e)
