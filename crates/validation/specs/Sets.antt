-- Sets of kinds, bit k for the kind k: those without children, and those whose children are expressions only. Definitions only.
use Rattle.std.specs.Prelude.{ℕ}

unfoldable pub leaves : ℕ
leaves = 1151185518528

unfoldable pub plain : ℕ
plain = 332333092
