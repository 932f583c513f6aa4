-- Rule 6 under several classes: each class around that has an alias replaces its symbol by it, the innermost first. Assumes nothing.
use Rattle.std.specs.Prelude.{◌≡◌, Bool, true, false, cond, ◌||◌, List, [], ◌∷◌, ℕ, zero, suc, ◌<◌, ◌≤◌, ◌⊎◌, eqb, length, get_or}
use mathlib.Core.Logic.{inl, inr}
use borrow.Author.Tests.{ne_eqb}
use Rattle.std.proofs.Math.Path.{refl, ap}
use Rattle.std.proofs.Common.{sym, ◌∙◌}
use Rattle.words.specs.Word.{kind_of, payload_of, word_of, word_split, kind_of_lem, payload_of_lem}
use Rattle.records.specs.Label.{Label, repay, is, word_at, read_at, ◌∶◌}
use Rattle.rewriting.specs.Visit.{is_ref, to_alias}

-- a class's symbol, and the alias that replaces it
pub record Sub : Type 0 where
  pub symbol : ℕ
  pub alias : ℕ

-- a label under each substitution, from the innermost out
unfoldable pub rename_l : List Sub → Label → Label
rename_l [] l = l
rename_l (s ∷ ss) l = rename_l ss (to_alias s.symbol s.alias l)

-- ---- a stack's substitutions, the last entry first

unfoldable pub entries : List ℕ → List ℕ → ℕ → List Sub
entries symbols aliases zero = []
entries symbols aliases (suc n) = record { symbol = get_or symbols n 0; alias = get_or aliases n 0 } ∷ entries symbols aliases n

-- how many classes deep: the length of the arrays
abbrev pub capacity : ℕ
capacity = 16

-- an array of payloads
pub record Payloads (l : List ℕ) : Type 0 where
  pub len : length l ≡ capacity
  pub small : (i : ℕ) → get_or l i 0 < 67108864

-- the arrays of a stack, so many classes deep
pub record Usable (all_symbols all_aliases : List ℕ) (depth : ℕ) : Type 0 where
  pub room : depth ≤ capacity
  pub symbols : Payloads all_symbols
  pub aliases : Payloads all_aliases

-- ---- payloads

-- a payload under one substitution, and under each
unfoldable pub swapped : Sub → ℕ → ℕ
swapped s p = cond (eqb p s.symbol) s.alias p

unfoldable pub rename_p : List Sub → ℕ → ℕ
rename_p [] p = p
rename_p (s ∷ ss) p = rename_p ss (swapped s p)

pub swapped_small : (s : Sub) (p b : ℕ) → p < b → s.alias < b → swapped s p < b
unfolding swapped
swapped_small s p b h g = go (eqb p s.symbol)
  where
    go : (x : Bool) → cond x s.alias p < b
    go true = g
    go false = h

swap_ref : (s : Sub) (l : Label) → (is 9 l || is 18 l) ≡ true → to_alias s.symbol s.alias l ≡ repay l (swapped s l.payload)
unfolding to_alias is_ref swapped
swap_ref s l e = rw e (go (eqb l.payload s.symbol))
  where
    go : (b : Bool) → cond b (repay l s.alias) l ≡ repay l (cond b s.alias l.payload)
    go true = refl
    go false = unfold repay in refl

-- an identifier or an assignment: its payload is replaced
pub rename_ref : (ss : List Sub) (l : Label) → (is 9 l || is 18 l) ≡ true → rename_l ss l ≡ repay l (rename_p ss l.payload)
unfolding rename_l rename_p
rename_ref [] l e = unfold repay in refl
rename_ref (s ∷ ss) l e =
    ap (rename_l ss) (swap_ref s l e) ∙ rename_ref ss (repay l (swapped s l.payload)) (unfold repay is in e) ∙ (unfold repay in refl)

-- any other label stays
pub rename_other : (ss : List Sub) (l : Label) → (is 9 l || is 18 l) ≡ false → rename_l ss l ≡ l
unfolding rename_l
rename_other [] l e = refl
rename_other (s ∷ ss) l e = let t : to_alias s.symbol s.alias l ≡ l = unfold to_alias is_ref in rw e in ap (rename_l ss) t ∙ rename_other ss l e

-- a word under no class
pub word_none : (w : ℕ) → w ≡ word_at (rename_l [] (read_at 0 w))
unfolding rename_l read_at word_at
word_none w = sym (word_split w)

-- a word under the classes around, by its kind
module _ (ss : List Sub) (w : ℕ) where
  pub word_ref : (kind_of w ≡ 9) ⊎ (kind_of w ≡ 18) → word_of (kind_of w) (rename_p ss (payload_of w)) ≡ word_at (rename_l ss (read_at 0 w))
  unfolding is read_at word_at repay
  word_ref e = ap word_at (sym (rename_ref ss (read_at 0 w) (go e)))
    where
      go : (kind_of w ≡ 9) ⊎ (kind_of w ≡ 18) → (is 9 (read_at 0 w) || is 18 (read_at 0 w)) ≡ true
      go (inl e) = rw e
      go (inr e) = rw e

  pub word_other : (kind_of w ≡ 9 → ⊥) → (kind_of w ≡ 18 → ⊥) → w ≡ word_at (rename_l ss (read_at 0 w))
  unfolding is read_at word_at
  word_other a b =
      let t : (is 9 (read_at 0 w) || is 18 (read_at 0 w)) ≡ false = rw (ne_eqb (kind_of w) 9 a, ne_eqb (kind_of w) 18 b) in
      sym (word_split w) ∙ ap word_at (sym (rename_other ss (read_at 0 w) t))

label_same : (l m : Label) → l.kind ≡ m.kind → (is 9 l || is 18 l) ≡ (is 9 m || is 18 m)
unfolding is
label_same l m e = rw e

-- where a word was read doesn't count: of a kind and payload
label_word : (ss : List Sub) (l m : Label) → l.kind ≡ m.kind → l.payload ≡ m.payload → word_at (rename_l ss l) ≡ word_at (rename_l ss m)
unfolding word_at repay
label_word ss l m e g = go (is 9 l || is 18 l) refl
  where
    go : (b : Bool) → (is 9 l || is 18 l) ≡ b → word_at (rename_l ss l) ≡ word_at (rename_l ss m)
    go true b = rw (rename_ref ss l b, rename_ref ss m (sym (label_same l m e) ∙ b), e, g)
    go false b = rw (rename_other ss l b, rename_other ss m (sym (label_same l m e) ∙ b), e, g)

pub word_made : (ss : List Sub) (w k p : ℕ) → kind_of w ≡ k → payload_of w ≡ p → word_at (rename_l ss (read_at 0 w)) ≡ word_at (rename_l ss (k ∶ p))
unfolding read_at ◌∶◌
word_made ss w k p e g = label_word ss (read_at 0 w) (k ∶ p) e g

pub word_of_made : (ss : List Sub) (k p : ℕ) → p < 67108864 → word_at (rename_l ss (read_at 0 (word_of k p))) ≡ word_at (rename_l ss (k ∶ p))
word_of_made ss k p h = word_made ss (word_of k p) k p (kind_of_lem k p h) (payload_of_lem k p h)
