-- The refusals by document 01's numbers. Definitions only.
use Rattle.std.specs.Prelude.{ℕ, Result, Ok, Err}
use Rattle.grammar.specs.declared.Refusal.{Refusal}
use Rattle.grammar.specs.declared.Refusal.TheVariants.{BadLength, Malformed, TooDeep, UnknownSymbol, TooManySymbols, DecoratedConstructor, DecoratedLaterConstructor, OutputTooShort}

abbrev pub number_of : Refusal → ℕ
-- "no words, over 4,096" (bytes that aren't a multiple of 4 never become words)
number_of BadLength = 1
-- "kind, payload or flag not allowed there, input ends inside a record, or words left over"
number_of Malformed = 2
-- "a record's depth, itself counted and module 1, is over 64"
number_of TooDeep = 3
-- "a symbol is S or more"
number_of UnknownSymbol = 4
-- "S over 1,000,000"
number_of TooManySymbols = 5
-- "a constructor's own 28 isn't empty (at that 28)"
number_of DecoratedConstructor = 6
-- a live class without decorators has a constructor with decorated parameters, but not the first one
number_of DecoratedLaterConstructor = 7
-- "the output lent is shorter than the answer"
number_of OutputTooShort = 8

-- the first of the three numbers returned: 0, or that of the refusal
abbrev pub code_of : {A : Type 0} → Result A Refusal → ℕ
code_of (Ok a) = 0
code_of (Err r) = number_of r
