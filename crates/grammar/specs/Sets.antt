-- What `is_allowed` reads in place of the table: sets of kinds, bit k for the kind k. Definitions only.
use Rattle.std.specs.Prelude.{cond, ℕ, eqb}
use mathlib.Core.List.{List, [], ◌∷◌}
use Rattle.words.specs.Table.{lookup}
use Rattle.words.specs.Shape.{bit_of}
use Rattle.grammar.specs.Grammar.{any, zero_only, two_or_four, method_flags, two_flags, one_flag, class_flags, class_statement, in_context, decorator_count}

-- of each category its kinds
unfoldable pub kind_sets : List (ℕ × ℕ)
kind_sets =
    (1, 2) ∷ (2, 1099511627776) ∷ (3, 252) ∷ (4, 51606716160) ∷ (5, 67108864) ∷ (6, 134217728) ∷ (7, 268435456) ∷ (8, 536870912) ∷ (9, 16106127360) ∷ (10, 68719476736) ∷ (11, 137438953472) ∷ (12, 549755813888) ∷ []

unfoldable pub kinds_of : ℕ → ℕ
kinds_of c = lookup c kind_sets 0

-- the kinds with any payload; those with no payload but 0
unfoldable pub free : ℕ
free = 1727290875690

unfoldable pub empty : ℕ
empty = 19980292

-- of the other kinds the rule
unfoldable pub flag_rule : ℕ → ℕ
flag_rule k = lookup k ((4, class_statement) ∷ (22, two_or_four) ∷ (26, class_flags) ∷ (28, decorator_count) ∷ (30, method_flags) ∷ (31, two_flags) ∷ (32, one_flag) ∷ (37, one_flag) ∷ []) in_context

unfoldable pub rule_by : ℕ → ℕ
rule_by k = cond (eqb (bit_of free k) 1) any (cond (eqb (bit_of empty k) 1) zero_only (flag_rule k))

-- the kinds that have a limit of their own, 28 and 40
unfoldable pub limited : ℕ
limited = 1099780063232

-- the kinds whose payload is a symbol
unfoldable pub with_symbol : ℕ
with_symbol = 134480608
