-- What an argument of the program says by itself, by its bytes. Assumes nothing.
use Rattle.std.specs.Prelude.{◌≡◌, Bool, true, false, List, [], ◌∷◌, ℕ, ◌<◌, length, get_or}
use Rattle.std.proofs.Common.{arith}
use Rattle.gingerpost.specs.declared.Argument.{Argument}
use Rattle.gingerpost.specs.declared.Argument.TheVariants.{Help, Job, Unknown, Name}
use Rattle.gingerpost.specs.declared.Job.TheVariants.{Rewrite, Report}

-- "--help"
unfoldable pub help_bytes : List ℕ
help_bytes = 45 ∷ 45 ∷ 104 ∷ 101 ∷ 108 ∷ 112 ∷ []

-- "rewrite"
unfoldable pub rewrite_bytes : List ℕ
rewrite_bytes = 114 ∷ 101 ∷ 119 ∷ 114 ∷ 105 ∷ 116 ∷ 101 ∷ []

-- "report"
unfoldable pub report_bytes : List ℕ
report_bytes = 114 ∷ 101 ∷ 112 ∷ 111 ∷ 114 ∷ 116 ∷ []

-- none of the three
pub record Other (a : List ℕ) : Type 0 where
  pub help : a ≡ help_bytes → ⊥
  pub rewrite : a ≡ rewrite_bytes → ⊥
  pub report : a ≡ report_bytes → ⊥

-- it begins with '-' (45)
unfoldable pub Dashed : List ℕ → Type 0
Dashed a = (0 < length a) × (get_or a 0 0 ≡ 45)

unfoldable pub Means : List ℕ → Argument → Type 0
Means a Help = a ≡ help_bytes
Means a (Job Rewrite) = a ≡ rewrite_bytes
Means a (Job Report) = a ≡ report_bytes
Means a Unknown = Other a × Dashed a
Means a Name = Other a × (Dashed a → ⊥)

pub differ : {x : Bool} → x ≡ false → x ≡ true → ⊥
differ p q = let z : ◌≡◌ {A = ℕ} 0 1 = cc in omega arith

-- none of the three: three comparisons that failed
pub other : {a : List ℕ} {x y z : Bool} → x ≡ false → (a ≡ help_bytes → x ≡ true) → y ≡ false → (a ≡ rewrite_bytes → y ≡ true) →
    z ≡ false → (a ≡ report_bytes → z ≡ true) → Other a
other p h q r s t = record { help = λ e. differ p (h e); rewrite = λ e. differ q (r e); report = λ e. differ s (t e) }
