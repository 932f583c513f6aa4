-- The answers of document 01 for every list of words and every lent output: three numbers, and all lent words afterwards. Definitions only.
use Rattle.std.specs.Prelude.{◌≡◌, Bool, cond, List, [], ◌∷◌, ℕ, suc, eqb, ltb, length}
use Rattle.output.specs.Overlay.{overlay}
use Rattle.grammar.specs.Scan.{refusal, symbols_of}
use Rattle.rewriting.specs.Parts.{any_record, is_refused7}
use Rattle.rewriting.specs.Visit.{module_of, rewritten, reported}

-- the three numbers returned
pub record Answer : Type 0 where
  pub code : ℕ
  pub written : ℕ
  pub fresh : ℕ

-- "0, words written, fresh symbols"
unfoldable pub accepted : ℕ → ℕ → Answer
accepted n f = record { code = 0; written = n; fresh = f }

unfoldable pub refused : ℕ → Answer
refused c = record { code = c; written = 0; fresh = 0 }

-- refusals 1 to 7, or 0: "1 comes first. Then the first word at fault decides .. Then 7"
unfoldable pub turned_back : List ℕ → ℕ
turned_back ws = cond (eqb (refusal ws) 0) (cond (any_record is_refused7 (module_of ws)) 7 0) (refusal ws)

-- the words of the rewritten module, and those of the symbol report in order of need
unfoldable pub module_words : List ℕ → List ℕ
module_words ws = rewritten (symbols_of ws) ws

unfoldable pub report_words : List ℕ → List ℕ
report_words ws = reported (symbols_of ws) ws

-- the answer where xs is to be written and room words are lent. "then 8", if "the output lent is shorter than the answer": an exact fit passes
unfoldable pub answer_of : List ℕ → List ℕ → ℕ → Answer
answer_of ws xs room =
    cond (eqb (turned_back ws) 0)
    (cond (ltb room (length xs)) (refused 8) (accepted (length xs) (length (report_words ws))))
    (refused (turned_back ws))

-- the lent words o afterwards: xs from the start on, every other word as it was. "A refusal leaves output untouched"
unfoldable pub lent_after : Answer → List ℕ → List ℕ → List ℕ
lent_after r xs o = cond (eqb r.code 0) (overlay o 0 xs) o

-- ---- the rewriting

unfoldable pub rewrite_answer : List ℕ → List ℕ → Answer
rewrite_answer ws o = answer_of ws (module_words ws) (length o)

unfoldable pub rewrite_lent : List ℕ → List ℕ → List ℕ
rewrite_lent ws o = lent_after (rewrite_answer ws o) (module_words ws) o

-- ---- the symbol report: "Its words may come in any order"

unfoldable pub count_if : (ℕ → Bool) → List ℕ → ℕ
count_if p [] = 0
count_if p (w ∷ ws) = cond (p w) (suc (count_if p ws)) (count_if p ws)

-- the same words in another order: as many of them pass any test
unfoldable pub Reordered : List ℕ → List ℕ → Type 0
Reordered xs ys = (p : ℕ → Bool) → count_if p xs ≡ count_if p ys

unfoldable pub report_answer : List ℕ → List ℕ → Answer
report_answer ws o = answer_of ws (report_words ws) (length o)

-- o' are the lent words o after the report. Free is the order of its words, and nothing else
pub record ReportLent (ws o o' : List ℕ) : Type 0 where
  pub order : List ℕ
  pub same : Reordered order (report_words ws)
  pub lent : o' ≡ lent_after (report_answer ws o) order o
