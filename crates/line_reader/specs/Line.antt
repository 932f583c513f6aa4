-- What the bytes of one line say. A line is a kind, a colon and a payload in decimal, and blanks behind them; or it has nothing but blanks, and says
-- nothing. Assumes nothing.
use Rattle.std.specs.Prelude.{◌≡◌, refl, Bool, true, false, cond, Option, Some, None, ℕ, ◌+◌, ◌*◌, ◌-◌, ◌<◌, ltb, eqb}
use Rattle.std.specs.Option.{option_map_or}
use Rattle.std.proofs.Common.{arith, ltb-false}
use Rattle.line_reader.specs.declared.Fault.TheVariants.{NoKind, NoColon, NoPayload, KindTooLarge, PayloadTooLarge, NotADigit, LeadingBlank, SecondItem}
use Rattle.line_reader.specs.declared.Stage.{Stage}
use Rattle.line_reader.specs.declared.Stage.TheVariants.{Start, Blank, Kind, Colon, Payload, End, Bad}

-- the value of a digit, 0 to 9 being the bytes 48 to 57
unfoldable pub digit_of : ℕ → Option ℕ
digit_of b = cond (ltb b 48) None (cond (ltb 57 b) None (Some (b - 48)))

-- a space, a tab, a carriage return
unfoldable pub is_blank : ℕ → Bool
is_blank b = cond (eqb b 32) true (cond (eqb b 9) true (eqb b 13))

-- ---- one byte more, other than a line feed

unfoldable pub from_start : ℕ → Stage
from_start b = option_map_or Kind (digit_of b) (cond (eqb b 58) (Bad NoKind) (cond (is_blank b) Blank (Bad NotADigit)))

unfoldable pub from_blank : ℕ → Stage
from_blank b = cond (is_blank b) Blank (Bad LeadingBlank)

unfoldable pub from_kind : ℕ → ℕ → Stage
from_kind k b =
    option_map_or (λ d. cond (ltb 63 (k * 10 + d)) (Bad KindTooLarge) (Kind (k * 10 + d))) (digit_of b)
    (cond (eqb b 58) (Colon k) (cond (is_blank b) (Bad NoColon) (Bad NotADigit)))

unfoldable pub from_colon : ℕ → ℕ → Stage
from_colon k b = option_map_or (Payload k) (digit_of b) (cond (is_blank b) (Bad NoPayload) (Bad NotADigit))

unfoldable pub from_payload : ℕ → ℕ → ℕ → Stage
from_payload k p b =
    option_map_or (λ d. cond (ltb 67108863 (p * 10 + d)) (Bad PayloadTooLarge) (Payload k (p * 10 + d))) (digit_of b)
    (cond (is_blank b) (End k p) (Bad NotADigit))

unfoldable pub from_end : ℕ → ℕ → ℕ → Stage
from_end k p b = cond (is_blank b) (End k p) (Bad SecondItem)

unfoldable pub within : Stage → ℕ → Stage
within Start b = from_start b
within Blank b = from_blank b
within (Kind k) b = from_kind k b
within (Colon k) b = from_colon k b
within (Payload k p) b = from_payload k p b
within (End k p) b = from_end k p b
within (Bad f) b = Bad f

-- ---- the line feed: the next line begins, unless this one is bad

unfoldable pub at_end : Stage → Stage
at_end Start = Start
at_end Blank = Start
at_end (Kind k) = Bad NoColon
at_end (Colon k) = Bad NoPayload
at_end (Payload k p) = Start
at_end (End k p) = Start
at_end (Bad f) = Bad f

unfoldable pub stepped : Stage → ℕ → Stage
stepped s b = cond (eqb b 10) (at_end s) (within s b)

unfoldable pub is_bad : Stage → Bool
is_bad Start = false
is_bad Blank = false
is_bad (Kind k) = false
is_bad (Colon k) = false
is_bad (Payload k p) = false
is_bad (End k p) = false
is_bad (Bad f) = true

-- ---- the limits, kept by every step

unfoldable pub Fit : Stage → Type 0
Fit Start = Unit {0}
Fit Blank = Unit {0}
Fit (Kind k) = k < 64
Fit (Colon k) = k < 64
Fit (Payload k p) = (k < 64) × (p < 67108864)
Fit (End k p) = (k < 64) × (p < 67108864)
Fit (Bad f) = Unit {0}

fit_if : (x : Bool) (s t : Stage) → (x ≡ true → Fit s) → (x ≡ false → Fit t) → Fit (cond x s t)
fit_if true s t h g = h refl
fit_if false s t h g = g refl

fit_digit : (f : ℕ → Stage) (s : Stage) (b : ℕ) → ((d : ℕ) → d < 10 → Fit (f d)) → Fit s → Fit (option_map_or f (digit_of b) s)
unfolding digit_of
fit_digit f s b h g = by_tests (ltb b 48) (ltb 57 b) refl refl
  where
    by_tests : (x y : Bool) → ltb b 48 ≡ x → ltb 57 b ≡ y → Fit (option_map_or f (cond x None (cond y None (Some (b - 48)))) s)
    by_tests true y e k = g
    by_tests false true e k = g
    by_tests false false e k = h (b - 48) (omega (arith, ltb-false 57 b k))

fit_start : (b : ℕ) → Fit (from_start b)
unfolding from_start Fit
fit_start b =
    fit_digit Kind _ b (λ d h. omega arith) (fit_if (eqb b 58) _ _ (λ f. tt) (λ f. fit_if (is_blank b) _ _ (λ g. tt) (λ g. tt)))

fit_kind : (k b : ℕ) → k < 64 → Fit (from_kind k b)
unfolding from_kind Fit
fit_kind k b h =
    fit_digit _ _ b
    (λ d q. fit_if (ltb 63 (k * 10 + d)) _ _ (λ f. tt) (λ f. omega (arith, ltb-false 63 (k * 10 + d) f)))
    (fit_if (eqb b 58) _ _ (λ f. h) (λ f. fit_if (is_blank b) _ _ (λ g. tt) (λ g. tt)))

fit_colon : (k b : ℕ) → k < 64 → Fit (from_colon k b)
unfolding from_colon Fit
fit_colon k b h = fit_digit (Payload k) _ b (λ d q. (h, omega arith)) (fit_if (is_blank b) _ _ (λ g. tt) (λ g. tt))

fit_payload : (k p b : ℕ) → k < 64 → p < 67108864 → Fit (from_payload k p b)
unfolding from_payload Fit
fit_payload k p b h g =
    fit_digit _ _ b
    (λ d q. fit_if (ltb 67108863 (p * 10 + d)) _ _ (λ f. tt) (λ f. (h, omega (arith, ltb-false 67108863 (p * 10 + d) f))))
    (fit_if (is_blank b) _ _ (λ f. (h, g)) (λ f. tt))

fit_within : (s : Stage) (b : ℕ) → Fit s → Fit (within s b)
unfolding within Fit from_blank from_end
fit_within Start b h = fit_start b
fit_within Blank b h = fit_if (is_blank b) _ _ (λ e. tt) (λ e. tt)
fit_within (Kind k) b h = fit_kind k b h
fit_within (Colon k) b h = fit_colon k b h
fit_within (Payload k p) b h = fit_payload k p b h.0 h.1
fit_within (End k p) b h = fit_if (is_blank b) _ _ (λ e. h) (λ e. tt)
fit_within (Bad f) b h = tt

fit_end : (s : Stage) → Fit (at_end s)
unfolding at_end Fit
fit_end Start = tt
fit_end Blank = tt
fit_end (Kind k) = tt
fit_end (Colon k) = tt
fit_end (Payload k p) = tt
fit_end (End k p) = tt
fit_end (Bad f) = tt

pub fit_stepped : (s : Stage) (b : ℕ) → Fit s → Fit (stepped s b)
unfolding stepped
fit_stepped s b h = fit_if (eqb b 10) (at_end s) (within s b) (λ e. fit_end s) (λ e. fit_within s b h)
