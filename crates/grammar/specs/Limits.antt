-- The limits of document 01, in one place: "4,096 words, depth 64, S 1,000,000 pass; one more doesn't". Definitions only.
use Rattle.std.specs.Prelude.{ℕ}

-- the most words of a module
abbrev pub max_words : ℕ
max_words = 4096

-- the greatest depth of a record, "itself counted and module 1"
abbrev pub max_depth : ℕ
max_depth = 64

-- the most symbols of a module
abbrev pub max_symbols : ℕ
max_symbols = 1000000
