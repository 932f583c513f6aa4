-- The word of document 01: kind and payload, and the number of a record's children. Assumes nothing.
use Rattle.std.specs.Prelude.{◌≡◌, List, [], ◌∷◌, ℕ, ◌+◌, ◌*◌, ◌/◌, ◌%◌, ◌<◌, ◌≤◌}
use Rattle.std.proofs.Common.{arith}
use Rattle.words.specs.Table.{lookup, AllLe, lookup_le}

-- ---- "The top 6 bits are the kind, the low 26 the payload" (67108864 is 2 ^ 26)

unfoldable pub kind_of : ℕ → ℕ
kind_of w = w / 67108864

unfoldable pub payload_of : ℕ → ℕ
payload_of w = w % 67108864

unfoldable pub word_of : ℕ → ℕ → ℕ
word_of k p = k * 67108864 + p

-- split and join are inverse to each other
pub kind_of_lem : (k p : ℕ) → p < 67108864 → kind_of (word_of k p) ≡ k
unfolding kind_of word_of
kind_of_lem k p h = omega arith

pub payload_of_lem : (k p : ℕ) → p < 67108864 → payload_of (word_of k p) ≡ p
unfolding payload_of word_of
payload_of_lem k p h = omega arith

pub word_split : (w : ℕ) → word_of (kind_of w) (payload_of w) ≡ w
unfolding kind_of payload_of word_of
word_split w = omega arith

pub word_fits : (k p : ℕ) → k < 64 → p < 67108864 → word_of k p < 4294967296
unfolding word_of
word_fits k p h g = omega arith

pub kind_lt : (w : ℕ) → w < 4294967296 → kind_of w < 64
unfolding kind_of
kind_lt w h = omega arith

pub payload_lt : (w : ℕ) → payload_of w < 67108864
unfolding payload_of
payload_lt w = omega arith

-- ---- the number of children

-- flags of a payload: bits 0, 1 and 2, each as a number
unfoldable pub bit0 : ℕ → ℕ
bit0 p = p % 2

unfoldable pub bit1 : ℕ → ℕ
bit1 p = p / 2 % 2

unfoldable pub bit2 : ℕ → ℕ
bit2 p = p / 4 % 2

-- of each kind that has children, their number with the payload p
unfoldable pub child_table : ℕ → List (ℕ × ℕ)
child_table p =
    -- module: the 40, then the statements; expression statement; block; class statement; let
    (1, 1 + p) ∷ (2, 1) ∷ (3, p) ∷ (4, 1) ∷ (5, 1) ∷
    -- array; call: the callee, then the arguments; assignment; private-in; class expression; function
    (16, p) ∷ (17, 1 + p) ∷ (18, 1) ∷ (19, 1) ∷ (20, 1) ∷ (21, 2) ∷
    -- decorate call; parameter call; prototype of; other: 256 × form + child count
    (22, p) ∷ (23, 1) ∷ (24, 1) ∷ (25, p % 256) ∷
    -- class: 28, id if any, heritage if any, 29; decorators; body
    (26, 2 + (bit0 p + bit2 p)) ∷ (28, p) ∷ (29, p) ∷
    -- method: 28, key, 36, code if it has any; property: 28, key, value if any; abstract accessor: 28, key; static block
    (30, 3 + bit2 p) ∷ (31, 2 + bit1 p) ∷ (32, 2) ∷ (33, p) ∷
    -- parameters; parameter: 28, default if any; code
    (36, p) ∷ (37, 1 + p) ∷ (39, p) ∷ []

-- the number of children of a record of kind k with the payload p
unfoldable pub children : ℕ → ℕ → ℕ
children k p = lookup k (child_table p) 0

-- no record has more than three children more than its payload says
pub children_le : (k p : ℕ) → children k p ≤ p + 4
unfolding children child_table AllLe bit0 bit1 bit2
children_le k p = lookup_le k 0 (p + 4) _ (omega arith) (omega arith)
