-- Numbers in decimal, words as kind:payload, and the text of an answer, in bytes. Assumes nothing.
use Rattle.std.specs.Prelude.{◌≡◌, refl, Bool, true, false, cond, List, [], ◌∷◌, ◌++◌, ℕ, zero, suc, ◌+◌, ◌*◌, ◌-◌, ◌/◌, ◌%◌, ◌<◌, ◌≤◌, ltb, length, take, get_or}
use Rattle.std.proofs.Common.{sym, ap, ◌∙◌, append_assoc, append-nil, add-one, arith, lt-ltb, le-ltb, length-append, length-take, take-suc}
use Rattle.words.specs.Word.{kind_of, payload_of}

-- the digits of n, most significant first, `more` of them at most and one: those of n itself where that is below 10 ^ (more + 1)
unfoldable pub decimal : ℕ → ℕ → List ℕ
decimal zero n = (48 + n % 10) ∷ []
decimal (suc more) n = cond (ltb n 10) ((48 + n) ∷ []) (decimal more (n / 10) ++ (48 + n % 10) ∷ [])

-- the line of a word: its kind, below 100, a colon (58), its payload, below 10 ^ 8, and a line feed (10)
unfoldable pub line_of : ℕ → List ℕ
line_of w = decimal 1 (kind_of w) ++ 58 ∷ (decimal 7 (payload_of w) ++ 10 ∷ [])

unfoldable pub lines_of : List ℕ → List ℕ
lines_of [] = []
lines_of (w ∷ ws) = line_of w ++ lines_of ws

-- the line of an answer's numbers, each below 2 ^ 64, with a space (32) between them
unfoldable pub head_of : ℕ → ℕ → ℕ → List ℕ
head_of code written fresh = decimal 19 code ++ 32 ∷ (decimal 19 written ++ 32 ∷ (decimal 19 fresh ++ 10 ∷ []))

unfoldable pub answer_text : ℕ → ℕ → ℕ → List ℕ → List ℕ
answer_text code written fresh ws = head_of code written fresh ++ lines_of ws

-- ---- lengths

length_cond : (x : Bool) (a b : List ℕ) (n : ℕ) → length a ≤ n → length b ≤ n → length (cond x a b) ≤ n
length_cond true a b n h g = h
length_cond false a b n h g = g

pub length_decimal : (more n : ℕ) → length (decimal more n) ≤ more + 1
unfolding decimal
length_decimal zero n = omega arith
length_decimal (suc more) n =
    length_cond (ltb n 10) _ _ (suc more + 1) (omega arith)
    (omega (arith, length-append (decimal more (n / 10)) ((48 + n % 10) ∷ []), length_decimal more (n / 10)))

pub length_line : (w : ℕ) → length (line_of w) ≤ 12
unfolding line_of
length_line w =
    omega (
      arith,
      length-append (decimal 1 (kind_of w)) (58 ∷ (decimal 7 (payload_of w) ++ 10 ∷ [])),
      length-append (decimal 7 (payload_of w)) (10 ∷ []),
      length_decimal 1 (kind_of w),
      length_decimal 7 (payload_of w),
    )

pub length_lines : (ws : List ℕ) → length (lines_of ws) ≤ 12 * length ws
unfolding lines_of
length_lines [] = omega arith
length_lines (w ∷ ws) = omega (arith, length-append (line_of w) (lines_of ws), length_line w, length_lines ws)

pub length_head : (a b c : ℕ) → length (head_of a b c) ≤ 63
unfolding head_of
length_head a b c =
    omega (
      arith,
      length-append (decimal 19 a) (32 ∷ (decimal 19 b ++ 32 ∷ (decimal 19 c ++ 10 ∷ []))),
      length-append (decimal 19 b) (32 ∷ (decimal 19 c ++ 10 ∷ [])),
      length-append (decimal 19 c) (10 ∷ []),
      length_decimal 19 a,
      length_decimal 19 b,
      length_decimal 19 c,
    )

pub length_answer : (a b c : ℕ) (ws : List ℕ) → length (answer_text a b c ws) ≤ 63 + 12 * length ws
unfolding answer_text
length_answer a b c ws = omega (arith, length-append (head_of a b c) (lines_of ws), length_head a b c, length_lines ws)

-- ---- one word more

pub lines_append : (a b : List ℕ) → lines_of (a ++ b) ≡ lines_of a ++ lines_of b
unfolding lines_of
lines_append [] b = refl
lines_append (w ∷ a) b = ap (λ (l : List ℕ). line_of w ++ l) (lines_append a b) ∙ sym (append_assoc (line_of w) (lines_of a) (lines_of b))

pub lines_more : (ws : List ℕ) (i : ℕ) → i < length ws → lines_of (take i ws) ++ line_of (get_or ws i 0) ≡ lines_of (take (i + 1) ws)
unfolding lines_of
lines_more ws i h =
    sym (ap lines_of (ap (λ (n : ℕ). take n ws) (add-one i) ∙ take-suc ws i 0 h) ∙ lines_append (take i ws) (get_or ws i 0 ∷ [])
    ∙ ap (λ (l : List ℕ). lines_of (take i ws) ++ l) (append-nil (line_of (get_or ws i 0))))

-- ---- one digit, and one digit more

pub decimal_last : (more n : ℕ) → more ≡ 0 → (48 + n % 10) ∷ [] ≡ decimal more n
unfolding decimal
decimal_last more n e = rw e

pub decimal_below : (more n : ℕ) → (more ≡ 0 → ⊥) → n < 10 → (48 + n) ∷ [] ≡ decimal more n
unfolding decimal
decimal_below zero n z h = absurd (z refl)
decimal_below (suc more) n z h = simp (lt-ltb n 10 h)

pub decimal_more : (more n : ℕ) → (more ≡ 0 → ⊥) → 10 ≤ n → decimal (more - 1) (n / 10) ++ (48 + n % 10) ∷ [] ≡ decimal more n
unfolding decimal
decimal_more zero n z h = absurd (z refl)
decimal_more (suc more) n z h =
    let e : suc more - 1 ≡ more = omega arith in
    rw (le-ltb n 10 h) (ap (λ (m : ℕ). decimal m (n / 10) ++ (48 + n % 10) ∷ []) e)

pub length_lines_take : (ws : List ℕ) (i : ℕ) → length (lines_of (take i ws)) ≤ 12 * i
length_lines_take ws i = omega (arith, length_lines (take i ws), length-take i ws)
