-- Accepted modules that come near the bounds on the length of the result and of the report: neither factor can be much smaller. Assumes nothing.
use Rattle.std.specs.Prelude.{◌≡◌, refl, List, [], ◌∷◌, ◌++◌, ℕ, zero, suc, length}
use Rattle.records.specs.Label.{Label, ◌∶◌, words}
use Rattle.grammar.specs.Scan.{refusal}
use Rattle.rewriting.specs.Answer.{module_words, report_words}
use Rattle.rewriting.specs.Computed.{computed}

unfoldable pub repeat : ℕ → List Label → List Label
repeat zero xs = []
repeat (suc n) xs = xs ++ repeat n xs

-- `class C { @a [b]; .. }` with n such properties, four words each
unfoldable pub properties : ℕ → List ℕ
properties n = words (1 ∶ 1 ∷ 40 ∶ 3 ∷ 4 ∶ 0 ∷ 26 ∶ 1 ∷ 28 ∶ 0 ∷ 27 ∶ 2 ∷ 29 ∶ n ∷ repeat n (31 ∶ 0 ∷ 28 ∶ 1 ∷ 9 ∶ 0 ∷ 9 ∶ 1 ∷ []))

-- 1007 words become 3007: n properties of 4 n + 7 words become 12 n + 7
pub long_result : (refusal (properties 250) ≡ 0) × (length (properties 250) ≡ 1007) × (length (module_words (properties 250)) ≡ 3007)
unfolding repeat properties computed
long_result = (refl, refl, refl)

-- `@a class C { @b [C] }`, n times: ten words take an inner, an alias and a key symbol
unfoldable pub classes : ℕ → List ℕ
classes n = words (1 ∶ n ∷ 40 ∶ 3 ∷ repeat n (4 ∶ 0 ∷ 26 ∶ 1 ∷ 28 ∶ 1 ∷ 9 ∶ 0 ∷ 27 ∶ 2 ∷ 29 ∶ 1 ∷ 31 ∶ 0 ∷ 28 ∶ 1 ∷ 9 ∶ 1 ∷ 9 ∶ 2 ∷ []))

pub long_report : (refusal (classes 40) ≡ 0) × (length (classes 40) ≡ 402) × (length (report_words (classes 40)) ≡ 120)
unfolding repeat classes computed
long_report = (refl, refl, refl)
