-- Refusals 1 to 6 of document 01: a scan of the words from left to right, with the places that wait for a record. Definitions only.
use Rattle.std.specs.Prelude.{Bool, false, cond, not, List, [], ◌∷◌, ◌++◌, ℕ, ◌+◌, length, get_or, replicate, eqb, ltb, leb}
use Rattle.words.specs.Word.{kind_of, payload_of}
use Rattle.grammar.specs.Limits.{max_words, max_depth, max_symbols}
use Rattle.grammar.specs.Grammar.{Slot, Run, row_of, allowed, is_symbol, module', Decorators}

-- a place that waits for a record, the module's at depth 1
pub record Place : Type 0 where
  pub slot : Slot
  pub depth : ℕ

unfoldable pub place : Slot → ℕ → Place
place q d = record { slot = q; depth = d }

unfoldable pub top : Place
top = place module' 1

-- the places of runs of children at the depth d
unfoldable pub places : ℕ → List Run → List Place
places d [] = []
places d (r ∷ rs) = replicate r.count (place r.slot d) ++ places d rs

-- the places below a record of kind k with the payload p that stands at q
unfoldable pub below : Place → ℕ → ℕ → List Place
below q k p = places (q.depth + 1) ((row_of k).below q.slot.context p)

-- ---- the faults of one word: its kind k, its payload p, its place q; s is the number of symbols

-- "a symbol is S or more"
unfoldable pub unknown_symbol : ℕ → ℕ → ℕ → Bool
unknown_symbol s k p = cond (is_symbol k) (leb s p) false

-- "S over 1,000,000"
unfoldable pub too_many_symbols : ℕ → ℕ → Bool
too_many_symbols k p = cond (eqb k 40) (ltb max_symbols p) false

-- "a constructor's own 28 isn't empty (at that 28)"
unfoldable pub decorated_constructor : Place → ℕ → Bool
decorated_constructor q p = cond (eqb q.slot.category Decorators) (cond (eqb q.slot.context 1) (not (eqb p 0)) false) false

-- the lowest refusal that the word has there, or 0
unfoldable pub fault_of : ℕ → Place → ℕ → ℕ → ℕ
fault_of s q k p =
    cond (allowed q.slot k p)
    (cond (ltb max_depth q.depth) 3
    (cond (unknown_symbol s k p) 4
    (cond (too_many_symbols k p) 5
    (cond (decorated_constructor q p) 6
    0)))) 2

unfoldable pub fault_at : ℕ → Place → ℕ → ℕ
fault_at s q w = fault_of s q (kind_of w) (payload_of w)

unfoldable pub below_at : Place → ℕ → List Place
below_at q w = below q (kind_of w) (payload_of w)

-- ---- the scan

-- the places that wait, the next one first: "the first word at fault decides"; a word left over is 2, "an early end is a fault after the last word"
unfoldable pub judge : ℕ → List Place → List ℕ → ℕ
judge s [] [] = 0
judge s [] (w ∷ ws) = 2
judge s (q ∷ st) [] = 2
judge s (q ∷ st) (w ∷ ws) = cond (eqb (fault_at s q w) 0) (judge s (below_at q w ++ st) ws) (fault_at s q w)

-- S of a module: the payload of its second word, its 40
unfoldable pub symbols_of : List ℕ → ℕ
symbols_of ws = payload_of (get_or ws 1 0)

-- the refusal of a module's words, or 0: "1 comes first"
unfoldable pub refusal : List ℕ → ℕ
refusal ws = cond (eqb (length ws) 0) 1 (cond (ltb max_words (length ws)) 1 (judge (symbols_of ws) (top ∷ []) ws))
