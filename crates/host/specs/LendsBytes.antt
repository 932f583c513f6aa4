-- What a job does to the bytes lent for its answer. Definitions only.
use Rattle.std.specs.Prelude.{◌≡◌, List, ℕ, length, take}
use Rattle.rewriting.specs.Answer.{lent_after}
use Rattle.host.specs.Bytes.{words_of_bytes, bytes_of_words}
use Rattle.host.specs.Entry.{answer_bytes}

-- o' are the bytes o after the answer for xs: these were written in an order that is the same, if it was accepted, and are the words read there again
pub record LendsBytes (Same : List ℕ → List ℕ → Type 0) (bs xs o o' : List ℕ) : Type 0 where
  pub order : List ℕ
  pub same : Same order xs
  pub lent : o' ≡ lent_after (answer_bytes bs xs o) (bytes_of_words order) o
  pub again : (answer_bytes bs xs o).code ≡ 0 → take (length order) (words_of_bytes o') ≡ order
