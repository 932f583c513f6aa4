-- Trees that fit the grammar are formed as rule 6's search assumes. Assumes nothing.
use Rattle.std.specs.Prelude.{◌≡◌, cond, replicate}
use Rattle.std.proofs.Math.Path.{refl, ap}
use Rattle.std.proofs.Common.{sym, subst, ◌∙◌, arith}
use Rattle.std.proofs.Math.Bool.{Bool, true, false, not}
use mathlib.Core.List.{List, [], ◌∷◌, ◌++◌}
use Prim.Native.Nat.{ℕ, zero, suc}
use Rattle.std.proofs.Math.Dec.{eqb, T}
use borrow.Author.Tests.{eqb-true, eq-eqb, ne_eqb}
use Rattle.words.specs.Table.{lookup}
use Rattle.words.specs.Word.{bit0, bit2}
use Rattle.records.specs.Forest.{end, node}
use Rattle.records.specs.Label.{Label, Trees, is, ◌∶◌}
use Rattle.grammar.specs.Grammar.{Slot, Run, Row, row, no_row, leaf, expressions, one_expression, statements, table, row_of, slots, slots_below, symbols, class_under, decorators, id, expression, body, Body}
use Rattle.grammar.specs.WellFormed.{Allowed, Fits}
use Rattle.grammar.proofs.Children.{allowed_sole}
use Rattle.grammar.proofs.Rows.{each, each_row, implied, test_left, test_right, allowed_row, allowed_known, sole_kind}
use Rattle.alias_search.specs.Formed.{Each, is_list, may_hold, OneClass, OneBody, FirstSymbols, Standing, Formed}

-- ---- which kinds stand under which

-- if the kind k with the row r is of the category c, it may stand right under the kind m
unfoldable holds_kind : ℕ → ℕ → ℕ → Row → Bool
holds_kind m c k r = cond (not (eqb r.category 0)) (cond (eqb r.category c) (may_hold (m ∶ 0) k) true) true

-- so it is with every kind that the runs' slots take
unfoldable holds_runs : ℕ → List Run → Bool
holds_runs m [] = true
holds_runs m (r ∷ rs) = cond (each (holds_kind m r.slot.category) table) (holds_runs m rs) false

unfoldable holds_row : ℕ → ℕ → ℕ → Row → Bool
holds_row x p m r = holds_runs m (r.below x p)

holds_all : (x p : ℕ) → T (each (holds_row x p) table)
unfolding each table row leaf expressions one_expression statements holds_row holds_runs holds_kind may_hold is_list lookup is ◌∶◌
holds_all x p = tt

module _ (l : Label) where
  held_kind : (q : Slot) (x : Label) → T (each (holds_kind l.kind q.category) table) → Allowed q x → may_hold l x.kind ≡ true
  unfolding holds_kind may_hold is_list is ◌∶◌
  held_kind q x t a =
      let known : not (eqb (row_of x.kind).category 0) ≡ true = ap not (ne_eqb _ 0 (allowed_known q x.kind x.payload a.grammar)) in
      let same : eqb (row_of x.kind).category q.category ≡ true = eq-eqb _ _ (allowed_row q x.kind x.payload a.grammar).0 in
      go (may_hold l x.kind) (implied _ _ (implied _ _ (each_row (holds_kind l.kind q.category) t x.kind (unfold no_row row in tt)) known) same)
    where
      go : (b : Bool) → T b → b ≡ true
      go true t = refl
      go false t = absurd t

  -- as many children as a run has, and those behind them
  held_run : (n : ℕ) (q : Slot) (qs : List Slot) (f : Trees) → T (each (holds_kind l.kind q.category) table) →
      ((g : Trees) → Fits qs g → Each (λ x. may_hold l x.kind) g) → Fits (replicate n q ++ qs) f → Each (λ x. may_hold l x.kind) f
  unfolding Fits Each
  held_run zero q qs f t later h = later f h
  held_run (suc n) q qs end t later h = absurd h
  held_run (suc n) q qs (node x k r) t later h = (held_kind q x t h.0, held_run n q qs r t later h.2)

  held_runs : (rs : List Run) → T (holds_runs l.kind rs) → (f : Trees) → Fits (slots rs) f → Each (λ x. may_hold l x.kind) f
  unfolding holds_runs slots Fits Each
  held_runs [] t end h = tt
  held_runs [] t (node x k r) h = absurd h
  held_runs (r ∷ rs) t f h =
      let a : Bool = each (holds_kind l.kind r.slot.category) table in
      let b : Bool = holds_runs l.kind rs in
      held_run r.count r.slot (slots rs) f (test_left a b t) (held_runs rs (test_right a b t)) h

  held_below : (q : Slot) (f : Trees) → Fits (slots_below q l.kind l.payload) f → Each (λ x. may_hold l x.kind) f
  unfolding slots_below holds_row
  held_below q f h =
      held_runs ((row_of l.kind).below q.context l.payload) (each_row (holds_row q.context l.payload) (holds_all q.context l.payload) l.kind (unfold no_row row leaf holds_runs in tt)) f h

-- ---- a class statement, a class, a module

one_class : (p : ℕ) (f : Trees) → Fits (class_under p ∷ []) f → OneClass f
unfolding Fits OneClass sole_kind lookup is
one_class p end h = absurd h
one_class p (node c ck end) h = (eq-eqb c.kind 26 (allowed_sole (class_under p) c h.0 tt), refl)
one_class p (node c ck (node x xk r)) h = absurd h.2

first_symbols : (qs : List Slot) (f : Trees) → Fits (symbols ∷ qs) f → FirstSymbols f
unfolding Fits FirstSymbols sole_kind lookup is
first_symbols qs end h = absurd h
first_symbols qs (node l k r) h = eq-eqb l.kind 40 (allowed_sole symbols l h.0 tt)

-- a record that stands in no body's slot is no body
not_body : (q : Slot) (l : Label) → Allowed q l → (q.category ≡ Body → ⊥) → is 29 l ≡ false
unfolding is
not_body q l a n = ne_eqb l.kind 29 λ e. n (sym (allowed_row q l.kind l.payload a.grammar).0 ∙ ap (λ (k : ℕ). (row_of k).category) e ∙ (unfold row_of table lookup row in refl))

last_body : (f : Trees) → Fits (body ∷ []) f → OneBody f
unfolding Fits OneBody Each
last_body end h = absurd h
last_body (node l k end) h = ((λ e. tt), tt)
last_body (node l k (node x xk r)) h = absurd h.2

parts_body : (n : ℕ) (q : Slot) (qs : List Slot) (f : Trees) → (q.category ≡ Body → ⊥) → ((g : Trees) → Fits qs g → OneBody g) → Fits (replicate n q ++ qs) f → OneBody f
unfolding Fits OneBody
parts_body zero q qs f n later h = later f h
parts_body (suc i) q qs end n later h = absurd h
parts_body (suc i) q qs (node l k r) n later h = ((λ e. never (sym e ∙ not_body q l h.0 n)), parts_body i q qs r n later h.2)
  where
    never : {A : Type 0} → true ≡ false → A
    never e = let z : ◌≡◌ {A = ℕ} 0 1 = cc in absurd (omega arith)

one_body : (p : ℕ) (f : Trees) → Fits (decorators ∷ (replicate (bit0 p) id ++ (replicate (bit2 p) expression ++ (body ∷ [])))) f → OneBody f
one_body p f h =
    parts_body 1 decorators _ f (λ e. omega arith)
    (λ g. parts_body (bit0 p) id _ g (λ e. omega arith) (λ g. parts_body (bit2 p) expression _ g (λ e. omega arith) last_body)) h

-- ---- all records

standing : (q : Slot) (l : Label) (f : Trees) → Fits (slots_below q l.kind l.payload) f → Standing l f
unfolding is slots_below slots row_of table lookup row
standing q l f h = record {
  held = held_below l q f h;
  class = λ e. one_class l.payload f (below 4 e);
  body = λ e. one_body l.payload f (below 26 e);
  symbols = λ e. first_symbols _ f (below 1 e);
}
  where
    below : (k : ℕ) → eqb l.kind k ≡ true → Fits (slots_below q k l.payload) f
    below k e = subst (λ (m : ℕ). Fits (slots_below q m l.payload) f) (eqb-true l.kind k e) h

pub fits_formed : (qs : List Slot) (f : Trees) → Fits qs f → Formed f
unfolding Fits Formed
fits_formed [] end h = tt
fits_formed [] (node l k r) h = absurd h
fits_formed (q ∷ qs) end h = absurd h
fits_formed (q ∷ qs) (node l k r) h = (standing q l k h.1, fits_formed (slots_below q l.kind l.payload) k h.1, fits_formed qs r h.2)
