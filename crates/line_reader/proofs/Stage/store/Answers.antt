-- `store`: a stage with kind and payload, or any other.
use mathlib.Core.Logic.{inl, inr}
use Rattle.line_reader.specs.Text.{fit_of_word, stored_word, stored_no_word}
use Rattle.line_reader.proofs.Stage.store.Goals as goal

pub word_of-requires : goal.word_of-requires
word_of-requires c = fit_of_word (inl c.in-Payload.is) c.requires.0

pub word_of-requires-in-End : goal.word_of-requires-in-End
word_of-requires-in-End c = fit_of_word (inr c.in-End.is) c.requires.0

pub returns-in-Payload : goal.returns-in-Payload
returns-in-Payload c = stored_word (inl c.in-Payload.is) c.word_of.ensures c.store.ensures

pub returns-in-End : goal.returns-in-End
returns-in-End c = stored_word (inr c.in-End.is) c.word_of-in-End.ensures c.store-in-End.ensures

pub returns-in_default : goal.returns-in_default
returns-in_default c = stored_no_word _ _ _ c.requires.1 c.in_default.not-Payload c.in_default.not-End
