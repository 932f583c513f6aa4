-- The lines that are written read back: `line_reader` finds in them the words that they were made of. Assumes nothing.
use Rattle.std.specs.Prelude.{◌≡◌, Bool, true, false, cond, Some, ℕ, zero, suc, ◌+◌, ◌*◌, ◌-◌, ◌/◌, ◌%◌, ◌<◌, ◌≤◌, ltb}
use Rattle.std.proofs.Math.Path.{refl, ap}
use Rattle.std.proofs.Common.{sym, ◌∙◌}
use mathlib.Core.List.{List, [], ◌∷◌, ◌++◌, append-nil}
use native.Mathlib.Omega.{arith}
use borrow.Author.Tests.{le-ltb, ltb-true, ne_eqb}
use Rattle.words.specs.Word.{kind_of, payload_of, word_split, kind_lt, payload_lt}
use Rattle.line_reader.specs.declared.Stage.{Stage}
use Rattle.line_reader.specs.declared.Stage.TheVariants.{Start, Kind, Colon, Payload}
use Rattle.line_reader.specs.Line.{digit_of, stepped, within, at_end, from_start, from_kind, from_colon, from_payload}
use Rattle.line_reader.specs.Text.{word_of_line, stage_after, words_by, words_after, stage_append, words_append}
use Rattle.line_reader.specs.Says.{words, judged, text_says, text_said}
use Rattle.line_writer.specs.Decimal.{decimal, line_of, lines_of}

digit_of_lem : (d : ℕ) → d < 10 → digit_of (48 + d) ≡ Some d
unfolding digit_of
digit_of_lem d h =
    let a : 48 ≤ 48 + d = omega arith in
    let b : 48 + d ≤ 57 = omega arith in
    let e : 48 + d - 48 ≡ d = omega arith in
    simp (le-ltb (48 + d) 48 a, le-ltb 57 (48 + d) b, e)

-- a byte that isn't a line feed
stepped_within : (s : Stage) (b : ℕ) → (b ≡ 10 → ⊥) → stepped s b ≡ within s b
unfolding stepped
stepped_within s b h = rw (ne_eqb b 10 h)

module _ (d : ℕ) (h : d < 10) where
  not_feed : 48 + d ≡ 10 → ⊥
  not_feed = omega arith

  start_digit : stepped Start (48 + d) ≡ Kind d
  unfolding within from_start
  start_digit = stepped_within Start (48 + d) not_feed ∙ simp (digit_of_lem d h)

  kind_digit : (k : ℕ) → k * 10 + d < 64 → stepped (Kind k) (48 + d) ≡ Kind (k * 10 + d)
  unfolding within from_kind
  kind_digit k g =
      let l : k * 10 + d ≤ 63 = omega arith in
      stepped_within (Kind k) (48 + d) not_feed ∙ simp (digit_of_lem d h, le-ltb 63 (k * 10 + d) l)

  colon_digit : (k : ℕ) → stepped (Colon k) (48 + d) ≡ Payload k d
  unfolding within from_colon
  colon_digit k = stepped_within (Colon k) (48 + d) not_feed ∙ simp (digit_of_lem d h)

  payload_digit : (k p : ℕ) → p * 10 + d < 67108864 → stepped (Payload k p) (48 + d) ≡ Payload k (p * 10 + d)
  unfolding within from_payload
  payload_digit k p g =
      let l : p * 10 + d ≤ 67108863 = omega arith in
      stepped_within (Payload k p) (48 + d) not_feed ∙ simp (digit_of_lem d h, le-ltb 67108863 (p * 10 + d) l)

-- ---- a number's digits

-- 10 ^ (more + 1)
unfoldable limit : ℕ → ℕ
limit zero = 10
limit (suc more) = 10 * limit more

mod_lt : (n : ℕ) → n % 10 < 10
mod_lt n = omega arith

last_digit : (n : ℕ) → n < 10 → n % 10 ≡ n
last_digit n h = omega arith

whole : (n : ℕ) → n / 10 * 10 + n % 10 ≡ n
whole n = omega arith

-- below 10 there is one digit; otherwise the digits of a tenth, read before, and the last one
kind_more : (x : Bool) (more k : ℕ) → ltb k 10 ≡ x → k < 64 → (ltb k 10 ≡ false → stage_after Start (decimal more (k / 10)) ≡ Kind (k / 10)) →
    stage_after Start (cond x ((48 + k) ∷ []) (decimal more (k / 10) ++ (48 + k % 10) ∷ [])) ≡ Kind k
unfolding stage_after
kind_more true more k e h front = start_digit k (ltb-true k 10 e)
kind_more false more k e h front =
    let c : k / 10 * 10 + k % 10 < 64 = omega arith in
    stage_append Start (decimal more (k / 10)) ((48 + k % 10) ∷ [])
    ∙ ap (λ (s : Stage). stepped s (48 + k % 10)) (front e)
    ∙ kind_digit (k % 10) (mod_lt k) (k / 10) c
    ∙ ap Kind (whole k)

kind_read : (more k : ℕ) → k < limit more → k < 64 → stage_after Start (decimal more k) ≡ Kind k
unfolding limit decimal stage_after
kind_read zero k g h = start_digit (k % 10) (mod_lt k) ∙ ap Kind (last_digit k g)
kind_read (suc more) k g h =
    let a : k / 10 < limit more = omega (arith, g) in
    let b : k / 10 < 64 = omega arith in
    kind_more (ltb k 10) more k refl h (λ e. kind_read more (k / 10) a b)

payload_more : (x : Bool) (k more p : ℕ) → ltb p 10 ≡ x → p < 67108864 → (ltb p 10 ≡ false → stage_after (Colon k) (decimal more (p / 10)) ≡ Payload k (p / 10)) →
    stage_after (Colon k) (cond x ((48 + p) ∷ []) (decimal more (p / 10) ++ (48 + p % 10) ∷ [])) ≡ Payload k p
unfolding stage_after
payload_more true k more p e h front = colon_digit p (ltb-true p 10 e) k
payload_more false k more p e h front =
    let c : p / 10 * 10 + p % 10 < 67108864 = omega arith in
    stage_append (Colon k) (decimal more (p / 10)) ((48 + p % 10) ∷ [])
    ∙ ap (λ (s : Stage). stepped s (48 + p % 10)) (front e)
    ∙ payload_digit (p % 10) (mod_lt p) k (p / 10) c
    ∙ ap (Payload k) (whole p)

payload_read : (k more p : ℕ) → p < limit more → p < 67108864 → stage_after (Colon k) (decimal more p) ≡ Payload k p
unfolding limit decimal stage_after
payload_read k zero p g h = colon_digit (p % 10) (mod_lt p) k ∙ ap (Payload k) (last_digit p g)
payload_read k (suc more) p g h =
    let a : p / 10 < limit more = omega (arith, g) in
    let b : p / 10 < 67108864 = omega arith in
    payload_more (ltb p 10) k more p refl h (λ e. payload_read k more (p / 10) a b)

-- no word ends in them
digit_words : (s : Stage) (d : ℕ) → words_after s ((48 + d) ∷ []) ≡ []
unfolding words_after words_by
digit_words s d = let h : 48 + d ≡ 10 → ⊥ = omega arith in rw (ne_eqb (48 + d) 10 h)

words_more : (x : Bool) (s : Stage) (more n : ℕ) → words_after s (decimal more (n / 10)) ≡ [] →
    words_after s (cond x ((48 + n) ∷ []) (decimal more (n / 10) ++ (48 + n % 10) ∷ [])) ≡ []
words_more true s more n e = digit_words s n
words_more false s more n e =
    words_append s (decimal more (n / 10)) ((48 + n % 10) ∷ [])
    ∙ ap (λ (l : List ℕ). l ++ words_after (stage_after s (decimal more (n / 10))) ((48 + n % 10) ∷ [])) e
    ∙ digit_words (stage_after s (decimal more (n / 10))) (n % 10)

decimal_words : (s : Stage) (more n : ℕ) → words_after s (decimal more n) ≡ []
unfolding decimal
decimal_words s zero n = digit_words s (n % 10)
decimal_words s (suc more) n = words_more (ltb n 10) s more n (decimal_words s more (n / 10))

-- ---- a word's line

module _ (w : ℕ) (h : w < 4294967296) where
  colon_read : stepped (Kind (kind_of w)) 58 ≡ Colon (kind_of w)
  unfolding stepped within from_kind digit_of
  colon_read = refl

  colon_stage : (bs : List ℕ) → stage_after (Kind (kind_of w)) (58 ∷ bs) ≡ stage_after (Colon (kind_of w)) bs
  unfolding stage_after
  colon_stage bs = ap (λ (s : Stage). stage_after s bs) colon_read

  colon_words : (bs : List ℕ) → words_after (Kind (kind_of w)) (58 ∷ bs) ≡ words_after (Colon (kind_of w)) bs
  unfolding words_after words_by
  colon_words bs = ap (λ (s : Stage). words_after s bs) colon_read

  kind_line : stage_after Start (decimal 1 (kind_of w)) ≡ Kind (kind_of w)
  unfolding limit
  kind_line = let g : kind_of w < 100 = omega (arith, kind_lt w h) in kind_read 1 (kind_of w) g (kind_lt w h)

  payload_line : stage_after (Colon (kind_of w)) (decimal 7 (payload_of w)) ≡ Payload (kind_of w) (payload_of w)
  unfolding limit
  payload_line = let g : payload_of w < 100000000 = omega (arith, payload_lt w) in payload_read (kind_of w) 7 (payload_of w) g (payload_lt w)

  -- from the colon on: the digits of the payload and the line feed
  tail_stage : stage_after (Colon (kind_of w)) (decimal 7 (payload_of w) ++ 10 ∷ []) ≡ Start
  tail_stage =
      stage_append (Colon (kind_of w)) (decimal 7 (payload_of w)) (10 ∷ []) ∙ ap (λ (s : Stage). stage_after s (10 ∷ [])) payload_line
      ∙ (unfold stage_after stepped at_end in refl)

  tail_words : words_after (Colon (kind_of w)) (decimal 7 (payload_of w) ++ 10 ∷ []) ≡ w ∷ []
  tail_words =
      words_append (Colon (kind_of w)) (decimal 7 (payload_of w)) (10 ∷ [])
      ∙ ap (λ (l : List ℕ). l ++ words_after (stage_after (Colon (kind_of w)) (decimal 7 (payload_of w))) (10 ∷ [])) (decimal_words (Colon (kind_of w)) 7 (payload_of w))
      ∙ ap (λ (s : Stage). words_after s (10 ∷ [])) payload_line
      ∙ (unfold words_after words_by word_of_line in ap (λ (x : ℕ). x ∷ []) (word_split w))

  line_stage : stage_after Start (line_of w) ≡ Start
  unfolding line_of
  line_stage =
      stage_append Start (decimal 1 (kind_of w)) (58 ∷ (decimal 7 (payload_of w) ++ 10 ∷ []))
      ∙ ap (λ (s : Stage). stage_after s (58 ∷ (decimal 7 (payload_of w) ++ 10 ∷ []))) kind_line
      ∙ colon_stage (decimal 7 (payload_of w) ++ 10 ∷ [])
      ∙ tail_stage

  line_words : words_after Start (line_of w) ≡ w ∷ []
  unfolding line_of
  line_words =
      words_append Start (decimal 1 (kind_of w)) (58 ∷ (decimal 7 (payload_of w) ++ 10 ∷ []))
      ∙ ap (λ (l : List ℕ). l ++ words_after (stage_after Start (decimal 1 (kind_of w))) (58 ∷ (decimal 7 (payload_of w) ++ 10 ∷ []))) (decimal_words Start 1 (kind_of w))
      ∙ ap (λ (s : Stage). words_after s (58 ∷ (decimal 7 (payload_of w) ++ 10 ∷ []))) kind_line
      ∙ colon_words (decimal 7 (payload_of w) ++ 10 ∷ [])
      ∙ tail_words

-- ---- the theorem

feed_stage : stage_after Start (10 ∷ []) ≡ Start
unfolding stage_after stepped at_end
feed_stage = refl

feed_words : words_after Start (10 ∷ []) ≡ []
unfolding words_after words_by word_of_line
feed_words = refl

-- each is a 32-bit word
unfoldable pub Words : List ℕ → Type 0
Words [] = Unit {0}
Words (w ∷ ws) = (w < 4294967296) × Words ws

pub read_back : (ws : List ℕ) → Words ws → (words_after Start (lines_of ws) ≡ ws) × (stage_after Start (lines_of ws) ≡ Start)
unfolding lines_of Words
read_back [] h = (unfold words_after in refl, unfold stage_after in refl)
read_back (w ∷ ws) h =
    let r : (words_after Start (lines_of ws) ≡ ws) × (stage_after Start (lines_of ws) ≡ Start) = read_back ws h.1 in (
      words_append Start (line_of w) (lines_of ws)
          ∙ ap (λ (l : List ℕ). l ++ words_after (stage_after Start (line_of w)) (lines_of ws)) (line_words w h.0)
          ∙ ap (λ (s : Stage). w ∷ words_after s (lines_of ws)) (line_stage w h.0)
          ∙ ap (λ (l : List ℕ). w ∷ l) r.0,
      stage_append Start (line_of w) (lines_of ws) ∙ ap (λ (s : Stage). stage_after s (lines_of ws)) (line_stage w h.0) ∙ r.1,
    )

pub says_back : (ws : List ℕ) → Words ws → text_says (lines_of ws) ≡ words ws
unfolding judged
says_back ws h =
    let s : stage_after Start (lines_of ws ++ 10 ∷ []) ≡ Start =
    stage_append Start (lines_of ws) (10 ∷ []) ∙ ap (λ (x : Stage). stage_after x (10 ∷ [])) (read_back ws h).1 ∙ feed_stage in
    let e : words_after Start (lines_of ws ++ 10 ∷ []) ≡ ws =
    words_append Start (lines_of ws) (10 ∷ []) ∙ ap (λ (x : Stage). words_after Start (lines_of ws) ++ words_after x (10 ∷ [])) (read_back ws h).1
    ∙ ap (λ (l : List ℕ). words_after Start (lines_of ws) ++ l) feed_words
    ∙ append-nil (words_after Start (lines_of ws))
    ∙ (read_back ws h).0 in
    rw (s, e) at (sym (text_said (lines_of ws)))
