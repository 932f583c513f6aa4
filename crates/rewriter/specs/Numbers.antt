-- The numbers of an answer as document 01 gives them. Definitions only.
use Rattle.std.specs.Prelude.{Result, Ok, Err}
use Rattle.grammar.specs.declared.Refusal.{Refusal}
use Rattle.grammar.specs.Refusals.{number_of}
use Rattle.rewriting.specs.Answer.{Answer, accepted, refused}
use Rattle.rewriter.specs.declared.Written.{Written}

unfoldable pub numbers_of : Result Written Refusal → Answer
numbers_of (Ok w) = accepted w.words w.fresh
numbers_of (Err r) = refused (number_of r)
