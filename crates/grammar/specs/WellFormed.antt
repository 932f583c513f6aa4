-- What a well_formed module is, by its tree: every record allowed where it stands, the depth, the symbols. Definitions only.
use Rattle.std.specs.Prelude.{◌≡◌, true, List, [], ◌∷◌, ℕ, ◌<◌, ◌≤◌, length}
use Rattle.records.specs.Forest.{end, node, flat, height_f}
use Rattle.records.specs.Prefix.{build}
use Rattle.records.specs.Label.{Label, Trees, read_from, arity}
use Rattle.grammar.specs.Limits.{max_words, max_depth, max_symbols}
use Rattle.grammar.specs.Grammar.{Slot, Decorators, module', allowed, slots_below, is_symbol}
use Rattle.grammar.specs.Scan.{symbols_of}

-- the records of a list of words
unfoldable pub tree_of : List ℕ → Trees
tree_of ws = build arity (read_from 0 ws)

-- a record may stand in a slot
pub record Allowed (q : Slot) (l : Label) : Type 0 where
  pub grammar : allowed q l.kind l.payload ≡ true
  -- a constructor's own 28 is empty
  pub bare : q.category ≡ Decorators → q.context ≡ 1 → l.payload ≡ 0

-- there is one tree for each slot, and every record is allowed where it stands
unfoldable pub Fits : List Slot → Trees → Type 0
Fits [] end = Unit {0}
Fits [] (node l kids rest) = ⊥
Fits (q ∷ qs) end = ⊥
Fits (q ∷ qs) (node l kids rest) = Allowed q l × Fits (slots_below q l.kind l.payload) kids × Fits qs rest

-- of every record
unfoldable pub Each : (Label → Type 0) → Trees → Type 0
Each P end = Unit {0}
Each P (node l kids rest) = P l × Each P kids × Each P rest

-- a symbol is one of s
unfoldable pub Known : ℕ → Label → Type 0
Known s l = is_symbol l.kind ≡ true → l.payload < s

-- the number of words is in bounds
pub record Sized (ws : List ℕ) : Type 0 where
  pub some : 1 ≤ length ws
  pub few : length ws ≤ max_words

-- the words are those of the tree t, and t is a module within the limits
pub record WellFormed (ws : List ℕ) (t : Trees) : Type 0 where
  pub sized : Sized ws
  pub words : flat t ≡ read_from 0 ws
  pub fits : Fits (module' ∷ []) t
  pub depth : height_f t ≤ max_depth
  pub known : Each (Known (symbols_of ws)) t
  pub count : symbols_of ws ≤ max_symbols
