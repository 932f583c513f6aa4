-- The words of a tree that obeys the grammar are accepted within the limits. Assumes nothing.
use Rattle.std.specs.Prelude.{◌≡◌, ℕ, suc, ◌+◌, ◌<◌, ◌≤◌, length}
use Rattle.std.proofs.Math.Path.{refl}
use Rattle.std.proofs.Common.{sym, ap, ◌∙◌, add-zero, add-suc, suc-add}
use mathlib.Core.List.{List, [], ◌∷◌, ◌++◌, map-append}
use native.Mathlib.Omega.{arith}
use Rattle.words.specs.Word.{kind_of_lem, payload_of_lem}
use Rattle.records.specs.Forest.{end, node, flat, size, height_f}
use Rattle.records.specs.Label.{Label, Trees, read, read_at, read_from, word_at, words, length_words}
use Rattle.grammar.specs.Limits.{max_words, max_depth, max_symbols}
use Rattle.grammar.specs.Grammar.{Slot, slots_below, module'}
use Rattle.grammar.specs.Scan.{symbols_of, refusal}
use Rattle.grammar.specs.WellFormed.{Fits, Each, Known}
use Rattle.grammar.proofs.Accepted.{tree_accepted}

-- ---- a tree read back from its words

-- a payload that a word can hold
unfoldable pub InWord : Label → Type 0
InWord l = l.payload < 67108864

-- the same records, read from the place i on
unfoldable pub reread : ℕ → Trees → Trees
reread i end = end
reread i (node l kids rest) = node (record { kind = l.kind; payload = l.payload; from = read i }) (reread (suc i) kids) (reread (suc i + size kids) rest)

read_append : (i : ℕ) (xs ys : List ℕ) → read_from i (xs ++ ys) ≡ read_from i xs ++ read_from (i + length xs) ys
unfolding read_from
read_append i [] ys = rw (add-zero i)
read_append i (x ∷ xs) ys = ap (read_at i x ∷◌) (read_append (suc i) xs ys ∙ rw (add-suc, suc-add))

read_word : (i : ℕ) (l : Label) → InWord l → read_at i (word_at l) ≡ record { kind = l.kind; payload = l.payload; from = read i }
unfolding read_at word_at InWord
read_word i l h = rw (kind_of_lem l.kind l.payload h, payload_of_lem l.kind l.payload h)

words_node : (l : Label) (kids rest : Trees) → words (l ∷ flat kids ++ flat rest) ≡ word_at l ∷ words (flat kids) ++ words (flat rest)
unfolding words
words_node l kids rest = ap (word_at l ∷◌) (map-append word_at (flat kids) (flat rest))

read_node : (i : ℕ) (l : Label) (kids rest : Trees) → InWord l →
    read_from i (word_at l ∷ words (flat kids) ++ words (flat rest)) ≡
    record { kind = l.kind; payload = l.payload; from = read i } ∷ read_from (suc i) (words (flat kids)) ++ read_from (suc i + size kids) (words (flat rest))
unfolding read_from size
read_node i l kids rest h =
    ap (◌∷ read_from (suc i) (words (flat kids) ++ words (flat rest))) (read_word i l h)
    ∙ ap (record { kind = l.kind; payload = l.payload; from = read i } ∷◌) (read_append (suc i) (words (flat kids)) (words (flat rest)) ∙ ap (λ (n : ℕ). read_from (suc i) (words (flat kids)) ++ read_from (suc i + n) (words (flat rest))) (length_words (flat kids)))

flat_reread : (i : ℕ) (t : Trees) → Each InWord t → flat (reread i t) ≡ read_from i (words (flat t))
unfolding reread flat Each
flat_reread i end h = unfold words read_from in refl
flat_reread i (node l k r) h =
    let a = flat_reread (suc i) k h.1 in
    let b = flat_reread (suc i + size k) r h.2 in
    ap (record { kind = l.kind; payload = l.payload; from = read i } ∷◌) (ap (◌++ flat (reread (suc i + size k) r)) a ∙ ap (read_from (suc i) (words (flat k)) ++◌) b)
    ∙ sym (ap (read_from i) (words_node l k r) ∙ read_node i l k r h.0)

fits_reread : (i : ℕ) (qs : List Slot) (t : Trees) → Fits qs t → Fits qs (reread i t)
unfolding reread Fits
fits_reread i [] end f = tt
fits_reread i [] (node l k r) f = absurd f
fits_reread i (q ∷ qs) end f = absurd f
fits_reread i (q ∷ qs) (node l k r) f = (
  record { grammar = f.0.grammar; bare = f.0.bare },
  fits_reread (suc i) (slots_below q l.kind l.payload) k f.1,
  fits_reread (suc i + size k) qs r f.2,
)

height_reread : (i : ℕ) (t : Trees) → height_f (reread i t) ≡ height_f t
unfolding reread height_f
height_reread i end = refl
height_reread i (node l k r) = rw (height_reread (suc i) k, height_reread (suc i + size k) r)

known_reread : (s i : ℕ) (t : Trees) → Each (Known s) t → Each (Known s) (reread i t)
unfolding reread Each Known
known_reread s i end h = tt
known_reread s i (node l k r) h = (h.0, known_reread s (suc i) k h.1, known_reread s (suc i + size k) r h.2)

size_some : (q : Slot) (qs : List Slot) (t : Trees) → Fits (q ∷ qs) t → 1 ≤ size t
unfolding Fits size flat
size_some q qs end f = absurd f
size_some q qs (node l k r) f = omega arith

-- the words of every module within the limits are accepted
pub words_accepted : (t : Trees) → Fits (module' ∷ []) t → Each InWord t → size t ≤ max_words → height_f t ≤ max_depth →
    Each (Known (symbols_of (words (flat t)))) t → symbols_of (words (flat t)) ≤ max_symbols → refusal (words (flat t)) ≡ 0
words_accepted t f w n d k s =
    let e : length (words (flat t)) ≡ size t = unfold size in length_words (flat t) in
    tree_accepted (words (flat t)) (reread 0 t) (record {
      sized = record { some = omega (arith, size_some module' [] t f); few = omega arith };
      words = flat_reread 0 t w;
      fits = fits_reread 0 (module' ∷ []) t f;
      depth = omega (arith, height_reread 0 t);
      known = known_reread (symbols_of (words (flat t))) 0 t k;
      count = s;
    })
