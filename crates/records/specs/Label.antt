-- Labels: a word's kind and payload, and where it was read. A module's words as labels. Assumes nothing.
use Rattle.std.specs.Prelude.{◌≡◌, refl, Bool, List, [], ◌∷◌, ◌++◌, map, ℕ, zero, suc, ◌+◌, ◌<◌, eqb, length, get_or}
use Rattle.std.proofs.Common.{ap, ◌∙◌, add-zero, add-suc, suc-add, le_of_suc-le-suc, not-suc-le-zero}
use Rattle.std.proofs.lemmas.List.{map-append, length-map}
use Rattle.words.specs.Word.{kind_of, payload_of, word_of, word_split, children}
use Rattle.records.specs.Forest.{Forest, end, node, append_f}
use Rattle.records.specs.Prefix.{Full}

-- where a label comes from: read at a place of the module, or made by the rewriting
pub data Origin : Type 0 where
  made : Origin
  read : ℕ → Origin

pub record Label : Type 0 where
  pub kind : ℕ
  pub payload : ℕ
  pub from : Origin

abbrev pub Trees : Type 0
Trees = Forest Label

-- kind:payload of document 01, made by the rewriting
infix 75 ◌∶◌
unfoldable pub ◌∶◌ : ℕ → ℕ → Label
k ∶ p = record { kind = k; payload = p; from = made }

-- the word w, read at the place i
unfoldable pub read_at : ℕ → ℕ → Label
read_at i w = record { kind = kind_of w; payload = payload_of w; from = read i }

-- the label with another payload
unfoldable pub repay : Label → ℕ → Label
repay l p = record { kind = l.kind; payload = p; from = l.from }

-- another record in its place
unfoldable pub become : Label → ℕ → ℕ → Label
become l k p = record { kind = k; payload = p; from = l.from }

unfoldable pub is : ℕ → Label → Bool
is k l = eqb l.kind k

-- a flag of the payload
unfoldable pub bit : (ℕ → ℕ) → Label → Bool
bit b l = eqb (b l.payload) 1

-- ---- words and labels

unfoldable pub word_at : Label → ℕ
word_at l = word_of l.kind l.payload

unfoldable pub words : List Label → List ℕ
words ls = map word_at ls

-- words read from the place i on
unfoldable pub read_from : ℕ → List ℕ → List Label
read_from i [] = []
read_from i (w ∷ ws) = read_at i w ∷ read_from (suc i) ws

pub words_append : (xs ys : List Label) → words (xs ++ ys) ≡ words xs ++ words ys
unfolding words
words_append xs ys = map-append word_at xs ys

pub length_words : (xs : List Label) → length (words xs) ≡ length xs
unfolding words
length_words xs = rw length-map

pub length_read : (i : ℕ) (ws : List ℕ) → length (read_from i ws) ≡ length ws
unfolding read_from
length_read i [] = refl
length_read i (w ∷ ws) = ap suc (length_read (suc i) ws)

pub words_read : (i : ℕ) (ws : List ℕ) → words (read_from i ws) ≡ ws
unfolding read_from words word_at read_at
words_read i [] = refl
words_read i (w ∷ ws) = rw (word_split w) (ap (w ∷◌) (words_read (suc i) ws))

pub get_d_read : (d : Label) (i : ℕ) (ws : List ℕ) (j : ℕ) → j < length ws → get_or (read_from i ws) j d ≡ read_at (i + j) (get_or ws j 0)
unfolding read_from
get_d_read d i [] j h = absurd (not-suc-le-zero h)
get_d_read d i (w ∷ ws) zero h = rw add-zero
get_d_read d i (w ∷ ws) (suc j) h = get_d_read d (suc i) ws j (le_of_suc-le-suc h) ∙ rw (suc-add, add-suc)

-- ---- the number of children

-- of a record, by its label and the trees behind it; so far the label alone says it
unfoldable pub arity : Label → Trees → ℕ
arity l st = children l.kind l.payload

-- a forest is full wherever it stands
pub full_anywhere : (f st st' : Trees) → Full arity f st → Full arity f st'
unfolding Full arity
full_anywhere end st st' h = tt
full_anywhere (node a k r) st st' h = (h.0, full_anywhere k (append_f r st) (append_f r st') h.1, full_anywhere r st st' h.2)
