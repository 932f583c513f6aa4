-- Words as bytes. Document 01: "The host hands bytes, four to a word, lowest first". Definitions only.
use Rattle.std.specs.Prelude.{List, [], ◌∷◌, ◌++◌, ℕ, ◌+◌, ◌*◌, ◌/◌, ◌%◌, ◌^◌, ◌<◌, length, get_or}

-- the word of four bytes, "lowest first"
unfoldable pub word_from : ℕ → ℕ → ℕ → ℕ → ℕ
word_from a b c d = a + b * 2 ^ 8 + c * 2 ^ 16 + d * 2 ^ 24

-- the words of bytes, "four to a word"; up to three bytes at the end make no word: "whole words count"
unfoldable pub words_of_bytes : List ℕ → List ℕ
words_of_bytes [] = []
words_of_bytes (a ∷ []) = []
words_of_bytes (a ∷ b ∷ []) = []
words_of_bytes (a ∷ b ∷ c ∷ []) = []
words_of_bytes (a ∷ b ∷ c ∷ d ∷ bs) = word_from a b c d ∷ words_of_bytes bs

-- the four bytes of a word, "lowest first"
unfoldable pub bytes_from : ℕ → List ℕ
bytes_from w = w % 2 ^ 8 ∷ w / 2 ^ 8 % 2 ^ 8 ∷ w / 2 ^ 16 % 2 ^ 8 ∷ w / 2 ^ 24 % 2 ^ 8 ∷ []

unfoldable pub bytes_of_words : List ℕ → List ℕ
bytes_of_words [] = []
bytes_of_words (w ∷ ws) = bytes_from w ++ bytes_of_words ws

-- every word has 32 bits
unfoldable pub Small : List ℕ → Type 0
Small ws = (i : ℕ) → i < length ws → get_or ws i 0 < 2 ^ 32
