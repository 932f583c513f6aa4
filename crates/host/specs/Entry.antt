-- What the C entry answers for every list of bytes and every lent output: one number, and all lent bytes afterwards. Definitions only.
use Rattle.std.specs.Prelude.{◌≡◌, Bool, true, cond, List, ℕ, ◌+◌, ◌*◌, ◌/◌, ◌%◌, ◌^◌, ◌<◌, eqb, ltb, length}
use Rattle.grammar.specs.Limits.{max_words}
use Rattle.rewriting.specs.Answer.{Answer, refused, module_words, report_words, answer_of, lent_after, Reordered}
use Rattle.host.specs.Bytes.{words_of_bytes, bytes_of_words}

-- ---- one number for three: "the first answer in its low 8 bits, the second in the next 28, the third in the 28 above"

unfoldable pub number_of : Answer → ℕ
number_of a = a.code + a.written * 2 ^ 8 + a.fresh * 2 ^ 36

-- the three fit their fields
pub record InFields (a : Answer) : Type 0 where
  pub code : a.code < 2 ^ 8
  pub written : a.written < 2 ^ 28
  pub fresh : a.fresh < 2 ^ 28

-- the three answers that a number holds
unfoldable pub answer_in : ℕ → Answer
answer_in n = record { code = n % 2 ^ 8; written = n / 2 ^ 8 % 2 ^ 28; fresh = n / 2 ^ 36 % 2 ^ 28 }

-- the answer for the bytes bs where the words xs are to be written over o. Refusal 1 if they are "not a multiple of 4", else the answer for their
-- words: "an output's whole words count"
unfoldable pub answer_bytes : List ℕ → List ℕ → List ℕ → Answer
answer_bytes bs xs o = cond (eqb (length bs % 4) 0) (answer_of (words_of_bytes bs) xs (length o / 4)) (refused 1)

-- "over 4,096, or bytes not a multiple of 4"
unfoldable pub is_bad_length : ℕ → Bool
is_bad_length n = cond (eqb (n % 4) 0) (ltb (4 * max_words) n) true

-- ---- the rewriting

unfoldable pub rewrite_bytes : List ℕ → List ℕ → Answer
rewrite_bytes bs o = answer_bytes bs (module_words (words_of_bytes bs)) o

-- the lent bytes o afterwards: those of the module's words from the start on, every other byte as it was. "A refusal leaves output untouched"
unfoldable pub rewrite_bytes_lent : List ℕ → List ℕ → List ℕ
rewrite_bytes_lent bs o = lent_after (rewrite_bytes bs o) (bytes_of_words (module_words (words_of_bytes bs))) o

-- ---- the symbol report: "Its words may come in any order"

unfoldable pub report_bytes : List ℕ → List ℕ → Answer
report_bytes bs o = answer_bytes bs (report_words (words_of_bytes bs)) o

-- o' are the lent bytes o after the report. Free is the order of its words, and nothing else
pub record ReportBytesLent (bs o o' : List ℕ) : Type 0 where
  pub order : List ℕ
  pub same : Reordered order (report_words (words_of_bytes bs))
  pub lent : o' ≡ lent_after (report_bytes bs o) (bytes_of_words order) o
