-- What a call does to the words lent for its answer. Definitions only.
use Rattle.std.specs.Prelude.{◌≡◌, List, ℕ, length}
use Rattle.rewriting.specs.Answer.{answer_of, lent_after}

-- o' are the words o after the answer for xs: these were written in an order that is the same, if it was accepted
pub record Lends (Same : List ℕ → List ℕ → Type 0) (ws xs o o' : List ℕ) : Type 0 where
  pub order : List ℕ
  pub same : Same order xs
  pub lent : o' ≡ lent_after (answer_of ws xs (length o)) order o
