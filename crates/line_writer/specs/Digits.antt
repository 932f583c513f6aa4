-- A number with no more digits than `decimal` has room for has the digits that `{}` writes. Assumes nothing.
use Rattle.std.specs.Prelude.{◌≡◌, [], ◌∷◌, ℕ, zero, suc, ◌+◌, ◌*◌, ◌/◌, ◌%◌, ◌^◌, ◌<◌, ◌≤◌, length}
use Rattle.std.specs.Fmt.{decimal as digits}
use Rattle.std.proofs.Common.{ap, sym, ◌∙◌, inl, inr, suc-add, arith, lt-ltb, le-ltb}
use Rattle.std.proofs.lemmas.Fmt.{decimal_digit, decimal_step_wide}
use Rattle.std.proofs.lemmas.Bool.{cases_lt}
use Rattle.std.proofs.Math.Nat.{pow-succ'}
use Rattle.words.specs.Word.{kind_of, payload_of, kind_lt, payload_lt}
use Rattle.line_writer.specs.Decimal.{decimal, length_decimal}

-- 10 ^ 64: std's laws of its digits go up to there
pub decimal_digits : (more n : ℕ) → n < 10 ^ (more + 1) → n < 10 ^ 64 → decimal more n ≡ digits n
unfolding decimal
decimal_digits zero n h small =
    let e : n % 10 ≡ n = omega (arith, h) in
    ap (λ (d : ℕ). (48 + d) ∷ []) e ∙ sym (decimal_digit n (omega (arith, h)))
decimal_digits (suc more) n h small =
    let tenfold : 10 ^ (suc more + 1) ≡ 10 * 10 ^ (more + 1) = ap (λ (k : ℕ). 10 ^ k) (suc-add more 1) ∙ pow-succ' 10 (more + 1) in
    elim (cases_lt n 10) [
      | inl l ↦ rw (lt-ltb n 10 l) (sym (decimal_digit n l))
      | inr l ↦ rw (le-ltb n 10 l, decimal_digits more (n / 10) (omega (arith, h, tenfold)) (omega (arith, small))) (sym (decimal_step_wide n l small))
    ]

-- ---- a kind, a payload, a number of 64 bits

pub kind_digits : (w : ℕ) → w < 4294967296 → decimal 1 (kind_of w) ≡ digits (kind_of w)
kind_digits w h = decimal_digits 1 (kind_of w) (omega (arith, kind_lt w h)) (omega (arith, kind_lt w h))

pub payload_digits : (w : ℕ) → decimal 7 (payload_of w) ≡ digits (payload_of w)
payload_digits w = decimal_digits 7 (payload_of w) (omega (arith, payload_lt w)) (omega (arith, payload_lt w))

pub number_digits : (n : ℕ) → n < 18446744073709551616 → decimal 19 n ≡ digits n
number_digits n h = decimal_digits 19 n (omega (arith, h)) (omega (arith, h))

pub length_kind : (w : ℕ) → w < 4294967296 → length (digits (kind_of w)) ≤ 2
length_kind w h = rw (← kind_digits w h) (length_decimal 1 (kind_of w))

pub length_payload : (w : ℕ) → length (digits (payload_of w)) ≤ 8
length_payload w = rw (← payload_digits w) (length_decimal 7 (payload_of w))

pub length_number : (n : ℕ) → n < 18446744073709551616 → length (digits n) ≤ 20
length_number n h = rw (← number_digits n h) (length_decimal 19 n)
