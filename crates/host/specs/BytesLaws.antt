-- Laws of words as bytes. Assumes nothing.
use Rattle.std.specs.Prelude.{◌≡◌, refl, ℕ, zero, suc, ◌+◌, ◌*◌, ◌/◌, ◌%◌, ◌^◌, ◌<◌, ◌≤◌, length, get_or, take, set}
use Rattle.std.proofs.Common.{sym, ap, ◌∙◌, add-zero, arith, shr-shr, take_all, take-suc-set, length-take-le}
use mathlib.Core.List.{List, [], ◌∷◌, ◌++◌, append_assoc, append-nil}
use Rattle.std.proofs.Math.Numerals.{add-one, add-two, add-three}
use Rattle.std.proofs.Math.Pow.{split, shr_mod}
use Rattle.std.proofs.Math.Seq.{take-suc}
use Rattle.std.proofs.Math.Seq.{paste}
use Rattle.std.proofs.lemmas.List.Edits.{paste_none, paste_more}
use Rattle.output.specs.Overlay.{overlay, overlay_append}
use Rattle.host.specs.Bytes.{word_from, words_of_bytes, bytes_from, bytes_of_words, Small}

-- ---- the words of bytes

pub length_words : (bs : List ℕ) → length (words_of_bytes bs) ≡ length bs / 4
unfolding words_of_bytes
length_words [] = refl
length_words (a ∷ []) = refl
length_words (a ∷ b ∷ []) = refl
length_words (a ∷ b ∷ c ∷ []) = refl
length_words (a ∷ b ∷ c ∷ d ∷ bs) = omega (arith, length_words bs)

-- the four bytes from n on, as a word
unfoldable pub word_at : List ℕ → ℕ → ℕ
word_at bs n = word_from (get_or bs n 0) (get_or bs (n + 1) 0) (get_or bs (n + 2) 0) (get_or bs (n + 3) 0)

at_four : (a b c d : ℕ) (bs : List ℕ) (m n : ℕ) → m ≡ suc (suc (suc (suc n))) → get_or (a ∷ b ∷ c ∷ d ∷ bs) m 0 ≡ get_or bs n 0
at_four a b c d bs m n e = ap (λ (k : ℕ). get_or (a ∷ b ∷ c ∷ d ∷ bs) k 0) e

pub word_at_lem : (bs : List ℕ) (i : ℕ) → i < length (words_of_bytes bs) → get_or (words_of_bytes bs) i 0 ≡ word_at bs (4 * i)
unfolding words_of_bytes word_at
word_at_lem [] i h = absurd (omega arith)
word_at_lem (a ∷ []) i h = absurd (omega arith)
word_at_lem (a ∷ b ∷ []) i h = absurd (omega arith)
word_at_lem (a ∷ b ∷ c ∷ []) i h = absurd (omega arith)
word_at_lem (a ∷ b ∷ c ∷ d ∷ bs) zero h = refl
word_at_lem (a ∷ b ∷ c ∷ d ∷ bs) (suc i) h =
    word_at_lem bs i (omega arith)
    ∙ sym (rw (at_four a b c d bs (4 * suc i) (4 * i) (omega arith), at_four a b c d bs (4 * suc i + 1) (4 * i + 1) (omega arith), at_four a b c d bs (4 * suc i + 2) (4 * i + 2) (omega arith), at_four a b c d bs (4 * suc i + 3) (4 * i + 3) (omega arith)))

-- ---- the bytes of words

pub length_bytes : (ws : List ℕ) → length (bytes_of_words ws) ≡ 4 * length ws
unfolding bytes_of_words bytes_from
length_bytes [] = refl
length_bytes (w ∷ ws) = omega (arith, length_bytes ws)

pub bytes_append : (a b : List ℕ) → bytes_of_words (a ++ b) ≡ bytes_of_words a ++ bytes_of_words b
unfolding bytes_of_words
bytes_append [] b = refl
bytes_append (w ∷ a) b = ap (λ (l : List ℕ). bytes_from w ++ l) (bytes_append a b) ∙ sym (append_assoc (bytes_from w) (bytes_of_words a) (bytes_of_words b))

-- a word by its bytes: q, r, s are the word without its lowest one, two and three bytes
by_bytes : (w q r s a b c : ℕ) → q * 2 ^ 8 + a ≡ w → r * 2 ^ 8 + b ≡ q → s * 2 ^ 8 + c ≡ r → a + b * 2 ^ 8 + c * 2 ^ 16 + s * 2 ^ 24 ≡ w
by_bytes w q r s a b c e f g = omega arith

word_whole : (w : ℕ) → w < 2 ^ 32 → word_from (w % 2 ^ 8) (w / 2 ^ 8 % 2 ^ 8) (w / 2 ^ 16 % 2 ^ 8) (w / 2 ^ 24 % 2 ^ 8) ≡ w
unfolding word_from
word_whole w h =
    by_bytes w (w / 2 ^ 8) (w / 2 ^ 16) (w / 2 ^ 24 % 2 ^ 8) (w % 2 ^ 8) (w / 2 ^ 8 % 2 ^ 8) (w / 2 ^ 16 % 2 ^ 8) (split w 8)
    (rw (← shr-shr w 8 8) (split (w / 2 ^ 8) 8)) (rw (shr_mod 8 24 h, ← shr-shr w 16 8) (split (w / 2 ^ 16) 8))

-- the words of the bytes of words are the words again
pub words_bytes : (ws bs : List ℕ) → Small ws → words_of_bytes (bytes_of_words ws ++ bs) ≡ ws ++ words_of_bytes bs
unfolding bytes_of_words bytes_from words_of_bytes Small
words_bytes [] bs h = refl
words_bytes (w ∷ ws) bs h = rw (word_whole w (h 0 (omega arith))) (ap (λ (l : List ℕ). w ∷ l) (words_bytes ws bs (λ i k. h (suc i) (omega arith))))

-- ---- what the loops do

-- one more word packed
pub pack_step : (bs ws : List ℕ) (i w : ℕ) → i < length bs / 4 → i < length ws → take i ws ≡ take i (words_of_bytes bs) → w ≡ word_at bs (4 * i) →
    take (i + 1) (set ws i w) ≡ take (i + 1) (words_of_bytes bs)
pack_step bs ws i w h g e f =
    let k : i < length (words_of_bytes bs) = omega (arith, length_words bs) in
    rw (add-one, take-suc-set ws i w g, e, f, ← word_at_lem bs i k, take-suc (words_of_bytes bs) i 0 k)

pub pack_all : (bs ws : List ℕ) (i : ℕ) → length bs / 4 ≤ i → i ≤ length bs / 4 → take i ws ≡ take i (words_of_bytes bs) → take (length bs / 4) ws ≡ words_of_bytes bs
pack_all bs ws i g h e =
    let n : length bs / 4 ≡ i = omega arith in
    rw n (e ∙ take_all i (words_of_bytes bs) (omega (arith, length_words bs)))

-- four bytes stored
pub stored_word : (o : List ℕ) (at w a b c d : ℕ) → a ≡ w % 2 ^ 8 → b ≡ w / 2 ^ 8 % 2 ^ 8 → c ≡ w / 2 ^ 16 % 2 ^ 8 → d ≡ w / 2 ^ 24 % 2 ^ 8 →
    set (set (set (set o at a) (at + 1) b) (at + 2) c) (at + 3) d ≡ overlay o at (bytes_from w)
unfolding overlay bytes_from
stored_word o at w a b c d e f g h = rw (e, f, g, h, add-one, add-two, add-three)

-- four bytes copied in one piece
pub pasted_word : (o : List ℕ) (at a b c d : ℕ) → at + 4 ≤ length o →
    paste o at (a ∷ b ∷ c ∷ d ∷ []) 4 ≡ set (set (set (set o at a) (at + 1) b) (at + 2) c) (at + 3) d
pasted_word o at a b c d h =
    let s : List ℕ = a ∷ b ∷ c ∷ d ∷ [] in
    let e₁ : paste o at s 1 ≡ set o at a =
    sym (paste_more o at s 0 0 (omega arith) (omega arith)) ∙ ap (λ (q : List ℕ). set q (at + 0) a) (sym (paste_none o at s)) ∙ ap (λ (i : ℕ). set o i a) (add-zero at) in
    let e₂ : paste o at s 2 ≡ set (set o at a) (at + 1) b = sym (paste_more o at s 1 0 (omega arith) (omega arith)) ∙ ap (λ (q : List ℕ). set q (at + 1) b) e₁ in
    let e₃ : paste o at s 3 ≡ set (set (set o at a) (at + 1) b) (at + 2) c = sym (paste_more o at s 2 0 (omega arith) (omega arith)) ∙ ap (λ (q : List ℕ). set q (at + 2) c) e₂ in
    sym (paste_more o at s 3 0 (omega arith) (omega arith)) ∙ ap (λ (q : List ℕ). set q (at + 3) d) e₃

-- one more word unpacked
pub unpack_step : (ws o o₁ o₂ : List ℕ) (i : ℕ) → i < length ws → o₁ ≡ overlay o 0 (bytes_of_words (take i ws)) → o₂ ≡ overlay o₁ (4 * i) (bytes_from (get_or ws i 0)) →
    o₂ ≡ overlay o 0 (bytes_of_words (take (i + 1) ws))
unpack_step ws o o₁ o₂ i h e f =
    let n : 4 * i ≡ 0 + length (bytes_of_words (take i ws)) = omega (arith, length_bytes (take i ws), length-take-le i ws (omega arith)) in
    let one : bytes_of_words (get_or ws i 0 ∷ []) ≡ bytes_from (get_or ws i 0) = unfold bytes_of_words in append-nil (bytes_from (get_or ws i 0)) in
    f ∙ rw (e, n, add-one, take-suc ws i 0 h, bytes_append, overlay_append, one)
