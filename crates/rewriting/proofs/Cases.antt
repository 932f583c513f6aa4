-- The twelve cases of document 01: its own example, one module for each of rules 2 to 10, refusals 6 and 7. One table, proved by computing it.
-- Each module is the smallest that needs its rule for what the example doesn't show. Assumes nothing.
use Rattle.std.specs.Prelude.{◌≡◌, refl, List, [], ◌∷◌, ◌++◌, map, ℕ, length, drop, replicate}
use Rattle.records.specs.Label.{Label, ◌∶◌, words}
use Rattle.rewriting.specs.Answer.{Answer, accepted, refused, module_words, lent_after, rewrite_answer, rewrite_lent, report_answer, report_words}
use Rattle.rewriting.specs.Computed.{computed}

-- a row: a module's words, the number of words lent, the numbers returned, the words that the rewriting writes and, in order of need, the report's
pub record Case : Type 0 where
  pub input : List Label
  pub room : ℕ
  pub answer : Answer
  pub output : List Label
  pub report : List Label

unfoldable pub cases : List Case
cases =
    -- 01's own example: `@a class C { @b m(){} }`.
    record {
      input = 1 ∶ 1 ∷ 40 ∶ 3 ∷ 4 ∶ 0 ∷ 26 ∶ 1 ∷ 28 ∶ 1 ∷ 9 ∶ 0 ∷ 27 ∶ 2 ∷ 29 ∶ 1 ∷ 30 ∶ 4 ∷ 28 ∶ 1 ∷ 9 ∶ 1 ∷ 34 ∶ 5 ∷ 36 ∶ 0 ∷ 39 ∶ 0 ∷ [];
      room = 27;
      answer = accepted 27 1;
      output = 1 ∶ 3 ∷ 40 ∶ 4 ∷ 5 ∶ 2 ∷ 20 ∶ 0 ∷ 26 ∶ 1 ∷ 28 ∶ 0 ∷ 27 ∶ 3 ∷ 29 ∶ 1 ∷ 30 ∶ 4 ∷ 28 ∶ 0 ∷ 34 ∶ 5 ∷ 36 ∶ 0 ∷ 39 ∶ 0 ∷ 2 ∶ 0 ∷ 22 ∶ 4 ∷ 16 ∶ 1 ∷ 9 ∶ 1 ∷
          24 ∶ 0 ∷ 9 ∶ 2 ∷ 10 ∶ 5 ∷ 13 ∶ 0 ∷ 2 ∶ 0 ∷ 18 ∶ 2 ∷ 22 ∶ 2 ∷ 16 ∶ 1 ∷ 9 ∶ 0 ∷ 9 ∶ 2 ∷ [];
      report = 3 ∶ 3 ∷ [];
    } ∷
    -- Rule 2: `(class { @a p })`. Without it the property would keep `@a`.
    record {
      input = 1 ∶ 1 ∷ 40 ∶ 1 ∷ 2 ∶ 0 ∷ 20 ∶ 0 ∷ 26 ∶ 0 ∷ 28 ∶ 0 ∷ 29 ∶ 1 ∷ 31 ∶ 0 ∷ 28 ∶ 1 ∷ 9 ∶ 0 ∷ 34 ∶ 5 ∷ [];
      room = 10;
      answer = accepted 10 0;
      output = 1 ∶ 1 ∷ 40 ∶ 1 ∷ 2 ∶ 0 ∷ 20 ∶ 0 ∷ 26 ∶ 0 ∷ 28 ∶ 0 ∷ 29 ∶ 1 ∷ 31 ∶ 0 ∷ 28 ∶ 0 ∷ 34 ∶ 5 ∷ [];
      report = [];
    } ∷
    -- Rule 3: `class C { @a static p }`. Without it `@a` would be lost.
    record {
      input = 1 ∶ 1 ∷ 40 ∶ 2 ∷ 4 ∶ 0 ∷ 26 ∶ 1 ∷ 28 ∶ 0 ∷ 27 ∶ 1 ∷ 29 ∶ 1 ∷ 31 ∶ 1 ∷ 28 ∶ 1 ∷ 9 ∶ 0 ∷ 34 ∶ 5 ∷ [];
      room = 17;
      answer = accepted 17 0;
      output = 1 ∶ 2 ∷ 40 ∶ 2 ∷ 4 ∶ 0 ∷ 26 ∶ 1 ∷ 28 ∶ 0 ∷ 27 ∶ 1 ∷ 29 ∶ 1 ∷ 31 ∶ 1 ∷ 28 ∶ 0 ∷ 34 ∶ 5 ∷ 2 ∶ 0 ∷ 22 ∶ 4 ∷ 16 ∶ 1 ∷ 9 ∶ 0 ∷ 9 ∶ 1 ∷ 10 ∶ 5 ∷ 14 ∶ 0 ∷ [];
      report = [];
    } ∷
    -- Rule 4: `export default class { @a p }`. Without it the call's prefix would have no symbol.
    record {
      input = 1 ∶ 1 ∷ 40 ∶ 1 ∷ 4 ∶ 2 ∷ 26 ∶ 0 ∷ 28 ∶ 0 ∷ 29 ∶ 1 ∷ 31 ∶ 0 ∷ 28 ∶ 1 ∷ 9 ∶ 0 ∷ 34 ∶ 5 ∷ [];
      room = 18;
      answer = accepted 18 1;
      output = 1 ∶ 2 ∷ 40 ∶ 2 ∷ 4 ∶ 2 ∷ 26 ∶ 1 ∷ 28 ∶ 0 ∷ 27 ∶ 1 ∷ 29 ∶ 1 ∷ 31 ∶ 0 ∷ 28 ∶ 0 ∷ 34 ∶ 5 ∷ 2 ∶ 0 ∷ 22 ∶ 4 ∷ 16 ∶ 1 ∷ 9 ∶ 0 ∷ 24 ∶ 0 ∷ 9 ∶ 1 ∷ 10 ∶ 5 ∷
          14 ∶ 0 ∷ [];
      report = 1 ∶ 1 ∷ [];
    } ∷
    -- Rule 5: `class C { @a [b] }`. Without it the call would have no name.
    record {
      input = 1 ∶ 1 ∷ 40 ∶ 3 ∷ 4 ∶ 0 ∷ 26 ∶ 1 ∷ 28 ∶ 0 ∷ 27 ∶ 2 ∷ 29 ∶ 1 ∷ 31 ∶ 0 ∷ 28 ∶ 1 ∷ 9 ∶ 0 ∷ 9 ∶ 1 ∷ [];
      room = 19;
      answer = accepted 19 1;
      output = 1 ∶ 2 ∷ 40 ∶ 4 ∷ 4 ∶ 0 ∷ 26 ∶ 1 ∷ 28 ∶ 0 ∷ 27 ∶ 2 ∷ 29 ∶ 1 ∷ 31 ∶ 0 ∷ 28 ∶ 0 ∷ 18 ∶ 3 ∷ 9 ∶ 1 ∷ 2 ∶ 0 ∷ 22 ∶ 4 ∷ 16 ∶ 1 ∷ 9 ∶ 0 ∷ 24 ∶ 0 ∷ 9 ∶ 2 ∷
          9 ∶ 3 ∷ 14 ∶ 0 ∷ [];
      report = 2 ∶ 3 ∷ [];
    } ∷
    -- Rule 6: `@a class C { [C] }`. Without it the class would keep its id 1, and the key would name the let.
    record {
      input = 1 ∶ 1 ∷ 40 ∶ 2 ∷ 4 ∶ 0 ∷ 26 ∶ 1 ∷ 28 ∶ 1 ∷ 9 ∶ 0 ∷ 27 ∶ 1 ∷ 29 ∶ 1 ∷ 31 ∶ 0 ∷ 28 ∶ 0 ∷ 9 ∶ 1 ∷ [];
      room = 19;
      answer = accepted 19 2;
      output = 1 ∶ 2 ∷ 40 ∶ 4 ∷ 5 ∶ 1 ∷ 18 ∶ 3 ∷ 20 ∶ 0 ∷ 26 ∶ 1 ∷ 28 ∶ 0 ∷ 27 ∶ 2 ∷ 29 ∶ 1 ∷ 31 ∶ 0 ∷ 28 ∶ 0 ∷ 9 ∶ 3 ∷ 2 ∶ 0 ∷ 18 ∶ 1 ∷ 18 ∶ 3 ∷ 22 ∶ 2 ∷ 16 ∶ 1 ∷
          9 ∶ 0 ∷ 9 ∶ 1 ∷ [];
      report = 3 ∶ 2 ∷ 4 ∶ 3 ∷ [];
    } ∷
    -- Rule 7: `class C { constructor(@a x) }`. Without it the parameter would keep `@a`, and there would be no assignment.
    record {
      input = 1 ∶ 1 ∷ 40 ∶ 2 ∷ 4 ∶ 0 ∷ 26 ∶ 1 ∷ 28 ∶ 0 ∷ 27 ∶ 1 ∷ 29 ∶ 1 ∷ 30 ∶ 2 ∷ 28 ∶ 0 ∷ 34 ∶ 5 ∷ 36 ∶ 1 ∷ 37 ∶ 0 ∷ 28 ∶ 1 ∷ 9 ∶ 0 ∷ [];
      room = 21;
      answer = accepted 21 1;
      output = 1 ∶ 2 ∷ 40 ∶ 3 ∷ 5 ∶ 1 ∷ 20 ∶ 0 ∷ 26 ∶ 1 ∷ 28 ∶ 0 ∷ 27 ∶ 2 ∷ 29 ∶ 1 ∷ 30 ∶ 2 ∷ 28 ∶ 0 ∷ 34 ∶ 5 ∷ 36 ∶ 1 ∷ 37 ∶ 0 ∷ 28 ∶ 0 ∷ 2 ∶ 0 ∷ 18 ∶ 1 ∷ 22 ∶ 2 ∷
          16 ∶ 1 ∷ 23 ∶ 0 ∷ 9 ∶ 0 ∷ 9 ∶ 1 ∷ [];
      report = 3 ∶ 2 ∷ [];
    } ∷
    -- Rule 8: `@a class C { static { C } }`. Without its block the let would assign the alias, after the static block has run.
    record {
      input = 1 ∶ 1 ∷ 40 ∶ 2 ∷ 4 ∶ 0 ∷ 26 ∶ 1 ∷ 28 ∶ 1 ∷ 9 ∶ 0 ∷ 27 ∶ 1 ∷ 29 ∶ 1 ∷ 33 ∶ 1 ∷ 2 ∶ 0 ∷ 9 ∶ 1 ∷ [];
      room = 22;
      answer = accepted 22 2;
      output = 1 ∶ 2 ∷ 40 ∶ 4 ∷ 5 ∶ 1 ∷ 20 ∶ 0 ∷ 26 ∶ 1 ∷ 28 ∶ 0 ∷ 27 ∶ 2 ∷ 29 ∶ 2 ∷ 33 ∶ 1 ∷ 2 ∶ 0 ∷ 18 ∶ 3 ∷ 15 ∶ 0 ∷ 33 ∶ 1 ∷ 2 ∶ 0 ∷ 9 ∶ 3 ∷ 2 ∶ 0 ∷ 18 ∶ 1 ∷
          18 ∶ 3 ∷ 22 ∶ 2 ∷ 16 ∶ 1 ∷ 9 ∶ 0 ∷ 9 ∶ 1 ∷ [];
      report = 3 ∶ 2 ∷ 4 ∶ 3 ∷ [];
    } ∷
    -- Rule 9: `@(#n in a) class C {}`. Without it there would be a let and an assignment, and no static block.
    record {
      input = 1 ∶ 1 ∷ 40 ∶ 2 ∷ 4 ∶ 0 ∷ 26 ∶ 1 ∷ 28 ∶ 1 ∷ 19 ∶ 7 ∷ 9 ∶ 0 ∷ 27 ∶ 1 ∷ 29 ∶ 0 ∷ [];
      room = 8;
      answer = accepted 8 1;
      output = 1 ∶ 1 ∷ 40 ∶ 3 ∷ 4 ∶ 0 ∷ 26 ∶ 1 ∷ 28 ∶ 0 ∷ 27 ∶ 2 ∷ 29 ∶ 1 ∷ 33 ∶ 0 ∷ [];
      report = 3 ∶ 2 ∷ [];
    } ∷
    -- Rule 10: `@a export default class {}`. Without it nothing would be exported.
    record {
      input = 1 ∶ 1 ∷ 40 ∶ 1 ∷ 4 ∶ 2 ∷ 26 ∶ 0 ∷ 28 ∶ 1 ∷ 9 ∶ 0 ∷ 29 ∶ 0 ∷ [];
      room = 14;
      answer = accepted 14 1;
      output = 1 ∶ 3 ∷ 40 ∶ 2 ∷ 5 ∶ 1 ∷ 20 ∶ 0 ∷ 26 ∶ 0 ∷ 28 ∶ 0 ∷ 29 ∶ 0 ∷ 2 ∶ 0 ∷ 18 ∶ 1 ∷ 22 ∶ 2 ∷ 16 ∶ 1 ∷ 9 ∶ 0 ∷ 9 ∶ 1 ∷ 7 ∶ 1 ∷ [];
      report = 1 ∶ 1 ∷ [];
    } ∷
    -- Refusal 6: `(class { @a constructor() })`. Without it `@a` would stay.
    record {
      input = 1 ∶ 1 ∷ 40 ∶ 1 ∷ 2 ∶ 0 ∷ 20 ∶ 0 ∷ 26 ∶ 0 ∷ 28 ∶ 0 ∷ 29 ∶ 1 ∷ 30 ∶ 2 ∷ 28 ∶ 1 ∷ 9 ∶ 0 ∷ 34 ∶ 5 ∷ 36 ∶ 0 ∷ [];
      room = 12;
      answer = refused 6;
      output = [];
      report = [];
    } ∷
    -- Refusal 7: `export default class { constructor(); constructor(@a x) }`. Without it there would be an assignment with no entries.
    record {
      input = 1 ∶ 1 ∷ 40 ∶ 1 ∷ 4 ∶ 2 ∷ 26 ∶ 0 ∷ 28 ∶ 0 ∷ 29 ∶ 2 ∷ 30 ∶ 2 ∷ 28 ∶ 0 ∷ 34 ∶ 5 ∷ 36 ∶ 0 ∷ 30 ∶ 2 ∷ 28 ∶ 0 ∷ 34 ∶ 5 ∷ 36 ∶ 1 ∷ 37 ∶ 0 ∷ 28 ∶ 1 ∷ 9 ∶ 0 ∷ [];
      room = 24;
      answer = refused 7;
      output = [];
      report = [];
    } ∷
    []

-- ---- what a row says: words that are 0 are lent

unfoldable pub lent : Case → List ℕ
lent c = replicate c.room 0

-- the lent words with xs over them from the start on
unfoldable pub over : Case → List ℕ → List ℕ
over c xs = xs ++ drop (length xs) (lent c)

-- the numbers returned and the lent words afterwards, of the rewriting and of the report in order of need
pub record Outcome : Type 0 where
  pub numbers : Answer
  pub lent : List ℕ
  pub report_numbers : Answer
  pub report_lent : List ℕ

unfoldable pub stated : Case → Outcome
stated c = record {
  numbers = c.answer;
  lent = over c (words c.output);
  report_numbers = record { code = c.answer.code; written = length c.report; fresh = c.answer.fresh };
  report_lent = over c (words c.report);
}

-- by the definition
unfoldable pub given : Case → Outcome
given c =
    let ws = words c.input in
    record {
      numbers = rewrite_answer ws (lent c);
      lent = rewrite_lent ws (lent c);
      report_numbers = report_answer ws (lent c);
      report_lent = lent_after (report_answer ws (lent c)) (report_words ws) (lent c);
    }

pub twelve : map given cases ≡ map stated cases
unfolding cases lent over stated given computed
twelve = refl

-- the module that docs/DEFINITION.md shows: `@a export class C { @b [C] }`
pub shown : module_words (words (1 ∶ 1 ∷ 40 ∶ 3 ∷ 4 ∶ 1 ∷ 26 ∶ 1 ∷ 28 ∶ 1 ∷ 9 ∶ 0 ∷ 27 ∶ 2 ∷ 29 ∶ 1 ∷ 31 ∶ 0 ∷ 28 ∶ 1 ∷ 9 ∶ 1 ∷ 9 ∶ 2 ∷ [])) ≡
    words (
    1 ∶ 4 ∷ 40 ∶ 6 ∷ 5 ∶ 2 ∷ 18 ∶ 5 ∷ 20 ∶ 0 ∷ 26 ∶ 1 ∷ 28 ∶ 0 ∷ 27 ∶ 4 ∷ 29 ∶ 1 ∷ 31 ∶ 0 ∷ 28 ∶ 0 ∷ 18 ∶ 3 ∷ 9 ∶ 5 ∷
    2 ∶ 0 ∷ 22 ∶ 4 ∷ 16 ∶ 1 ∷ 9 ∶ 1 ∷ 24 ∶ 0 ∷ 9 ∶ 2 ∷ 9 ∶ 3 ∷ 14 ∶ 0 ∷
    2 ∶ 0 ∷ 18 ∶ 2 ∷ 18 ∶ 5 ∷ 22 ∶ 2 ∷ 16 ∶ 1 ∷ 9 ∶ 0 ∷ 9 ∶ 2 ∷ 6 ∶ 2 ∷ [])
unfolding computed
shown = refl
