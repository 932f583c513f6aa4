use Rattle.std.proofs.Common.{refl, ◌≡◌, ◌+◌}
use Rattle.grammar.specs.Refusals.{number_of}
use Rattle.grammar.specs.declared.Refusal.TheVariants.{BadLength, Malformed, TooDeep, UnknownSymbol, TooManySymbols, DecoratedConstructor, DecoratedLaterConstructor, OutputTooShort}
use Rattle.grammar.specs.contracts.Refusal.{the_type}
use Rattle.grammar.proofs.U32FromRefusal.from.Goals as goal

pub returns : goal.returns
returns c = elim c.args.refusal as (λ r. denote.Enum.Declared.tag_of the_type r + 1 ≡ number_of r) [
  | BadLength ↦ refl
  | Malformed ↦ refl
  | TooDeep ↦ refl
  | UnknownSymbol ↦ refl
  | TooManySymbols ↦ refl
  | DecoratedConstructor ↦ refl
  | DecoratedLaterConstructor ↦ refl
  | OutputTooShort ↦ refl
]
