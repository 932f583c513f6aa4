-- Laws of trees that obey the grammar: the slots below a record, the kinds in a slot, many trees in one slot. Assumes nothing.
use Rattle.std.specs.Prelude.{◌≡◌, Bool, cond, length, replicate, eqb, ltb}
use Rattle.std.proofs.Math.Path.{refl, subst}
use Rattle.std.proofs.Common.{sym, ap, ◌∙◌, ltb→lt}
use Rattle.std.proofs.Math.Bool.{true, false, not}
use mathlib.Core.List.{List, [], ◌∷◌, ◌++◌, append-nil}
use Prim.Native.Nat.{ℕ, zero, suc, ◌<◌}
use Rattle.std.proofs.Math.Dec.{T}
use borrow.Author.Tests.{eqb-true, ne_eqb}
use Rattle.words.specs.Table.{lookup}
use Rattle.records.specs.Forest.{end, node, size}
use Rattle.records.specs.Prefix.{flat_build}
use Rattle.records.specs.Label.{Label, Trees, is, read_from, arity, length_read}
use Rattle.grammar.specs.Grammar.{Slot, slot, Run, Row, row, no_row, leaf, expressions, one_expression, statements, table, row_of, slots, slots_below, module', id, expression, body}
use Rattle.grammar.specs.Scan.{refusal}
use Rattle.grammar.specs.WellFormed.{tree_of, Allowed, Fits}
use Rattle.grammar.proofs.Accepted.{accepted}
use Rattle.grammar.proofs.Rows.{each, each_row, implied, test_left, test_right, allowed_row}
use Rattle.rewriting.specs.Parts.{kids_of, decorators}
use Rattle.rewriting.specs.Visit.{module_of}

-- ---- slots below a record

-- of each slot
unfoldable pub EachSlot : (Slot → Type 0) → List Slot → Type 0
EachSlot P [] = Unit {0}
EachSlot P (q ∷ qs) = P q × EachSlot P qs

-- slots of categories above c: above 2 none of a module or a 40, above 3 none of a statement either
abbrev pub Above : ℕ → List Slot → Type 0
Above c qs = EachSlot (λ q. c < q.category) qs

module _ (P : Slot → Type 0) where
  pub slots_append : (a b : List Slot) → EachSlot P a → EachSlot P b → EachSlot P (a ++ b)
  unfolding EachSlot
  slots_append [] b x y = y
  slots_append (q ∷ a) b x y = (x.0, slots_append a b x.1 y)

  pub slots_replicate : (n : ℕ) (q : Slot) → P q → EachSlot P (replicate n q)
  unfolding EachSlot
  slots_replicate zero q h = tt
  slots_replicate (suc n) q h = (h, slots_replicate n q h)

-- the kinds with statements below them
unfoldable pub has_statements : ℕ → Bool
has_statements k = lookup k ((1, true) ∷ (3, true) ∷ (33, true) ∷ (39, true) ∷ []) false

-- the slots below the kinds that pass a test, if those of every row pass another one
module _ (P : Slot → Type 0) (passes : Slot → Bool) (sound : (q : Slot) → T (passes q) → P q) where
  unfoldable pub pass_runs : List Run → Bool
  pass_runs [] = true
  pass_runs (r ∷ rs) = cond (passes r.slot) (pass_runs rs) false

  pass_slots : (rs : List Run) → T (pass_runs rs) → EachSlot P (slots rs)
  unfolding pass_runs EachSlot slots
  pass_slots [] t = tt
  pass_slots (r ∷ rs) t =
      slots_append P (replicate r.count r.slot) (slots rs)
      (slots_replicate P r.count r.slot (sound r.slot (test_left (passes r.slot) (pass_runs rs) t))) (pass_slots rs (test_right (passes r.slot) (pass_runs rs) t))

  module _ (x p : ℕ) (test : ℕ → Bool) where
    unfoldable pub pass_row : ℕ → Row → Bool
    pass_row k r = cond (test k) (pass_runs (r.below x p)) true

    no_row_lem : (k : ℕ) → T (pass_row k no_row)
    unfolding pass_row no_row row leaf pass_runs
    no_row_lem k = either (test k)
      where
        either : (b : Bool) → T (cond b true true)
        either true = tt
        either false = tt

    pub pass_row_lem : (k : ℕ) → T (each pass_row table) → test k ≡ true → EachSlot P (slots ((row_of k).below x p))
    unfolding pass_row
    pass_row_lem k t e = pass_slots ((row_of k).below x p) (implied (test k) (pass_runs ((row_of k).below x p)) (each_row pass_row t k (no_row_lem k)) e)

pub deep_below : (q : Slot) (k p : ℕ) → has_statements k ≡ false → Above 3 (slots_below q k p)
unfolding slots_below
deep_below q k p n =
    pass_row_lem (λ s. 3 < s.category) (λ s. ltb 3 s.category) (λ s. ltb→lt 3 s.category) q.context p (λ i. not (has_statements i)) k
    (unfold each table row pass_row has_statements lookup pass_runs leaf expressions one_expression statements in tt) (ap not n)

-- only a module has a 40 below it
pub inner_below : (q : Slot) (k p : ℕ) → (k ≡ 1 → ⊥) → Above 2 (slots_below q k p)
unfolding slots_below
inner_below q k p n =
    pass_row_lem (λ s. 2 < s.category) (λ s. ltb 2 s.category) (λ s. ltb→lt 2 s.category) q.context p (λ i. not (eqb i 1)) k
    (unfold each table row pass_row pass_runs leaf expressions one_expression statements in tt) (ap not (ne_eqb k 1 n))

-- ---- the kinds in a slot

pub category_of : (q : Slot) (l : Label) (k : ℕ) → Allowed q l → l.kind ≡ k → (row_of k).category ≡ q.category
category_of q l k a e = ap (λ (n : ℕ). (row_of n).category) (sym e) ∙ (allowed_row q l.kind l.payload a.grammar).0

-- behind a class's decorators: a ids, b heritages, the body
unfoldable pub behind : ℕ → ℕ → List Slot
behind a b = replicate a id ++ (replicate b expression ++ (body ∷ []))

-- ---- records of one category

abbrev pub Of : ℕ → List Slot → Type 0
Of c qs = EachSlot (λ q. q.category ≡ c) qs

-- f are records of the category c
pub record Are (c : ℕ) (f : Trees) : Type 0 where
  pub slots : List Slot
  pub of : Of c slots
  pub fits : Fits slots f

of_replicate : (n : ℕ) (q : Slot) → Of q.category (replicate n q)
of_replicate n q = slots_replicate (λ s. s.category ≡ q.category) n q refl

pub none_are : (c : ℕ) → Are c end
unfolding EachSlot Fits
none_are c = record { slots = []; of = tt; fits = tt }

-- the children of the first record of the kind n, whose children are of the category c
module _ (n c : ℕ) (below : (q : Slot) (p : ℕ) → Of c (slots_below q n p)) where
  kids_if : (x : Bool) (l : Label) (q : Slot) (k f : Trees) → is n l ≡ x → Fits (slots_below q l.kind l.payload) k → Are c f → Are c (cond x k f)
  unfolding is
  kids_if true l q k f e h a =
      let g : l.kind ≡ n = eqb-true l.kind n e in
      record { slots = slots_below q n l.payload; of = below q l.payload; fits = subst (λ (m : ℕ). Fits (slots_below q m l.payload) k) g h }
  kids_if false l q k f e h a = a

  pub kids_are : (f : Trees) (qs : List Slot) → Fits qs f → Are c (kids_of n f)
  unfolding Fits kids_of
  kids_are end [] h = none_are c
  kids_are end (q ∷ qs) h = absurd h
  kids_are (node l k r) [] h = absurd h
  kids_are (node l k r) (q ∷ qs) h = kids_if (is n l) l q k (kids_of n r) refl h.1 (kids_are r qs h.2)

-- the parameters among the children of a method; the elements among those of a class
pub parameters_are : (f : Trees) (qs : List Slot) → Fits qs f → Are 11 (kids_of 36 f)
parameters_are f qs h = kids_are 36 11 (λ q p. unfold slots_below slots row_of lookup table row in rw append-nil (of_replicate p (slot 11 q.context))) f qs h

pub elements_are : (f : Trees) (qs : List Slot) → Fits qs f → Are 9 (kids_of 29 f)
elements_are f qs h = kids_are 29 9 (λ q p. unfold slots_below slots row_of lookup table row in rw append-nil (of_replicate p (slot 9 0))) f qs h

pub decorators_are : (f : Trees) (qs : List Slot) → Fits qs f → Are 4 (decorators f)
unfolding Fits decorators
decorators_are end qs h = none_are 4
decorators_are (node l k r) [] h = absurd h
decorators_are (node l k r) (q ∷ qs) h =
    kids_if 28 4 (λ q p. unfold slots_below slots row_of lookup table row expressions in rw append-nil (of_replicate p (slot 4 0))) (is 28 l) l q k end refl h.1 (none_are 4)

-- ---- an accepted module

pub words_size : (ws : List ℕ) → size (module_of ws) ≡ length ws
unfolding size module_of
words_size ws = ap length (flat_build arity (read_from 0 ws)) ∙ length_read 0 ws

pub module_fits : (ws : List ℕ) → refusal ws ≡ 0 → Fits (module' ∷ []) (module_of ws)
unfolding module_of tree_of
module_fits ws e = ((accepted ws).0 e).fits
