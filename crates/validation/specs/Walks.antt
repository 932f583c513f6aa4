-- One law for each way through the scan. Assumes nothing.
use Rattle.std.specs.Prelude.{◌≡◌, Bool, false, cond, length, set, eqb}
use Rattle.std.proofs.Math.Path.{refl, sym, ap, subst}
use Rattle.std.proofs.Common.{◌∙◌, drop_of_length-le, drop-cons, get_or-set_other, eqb→eq}
use Rattle.std.proofs.Math.Bool.{true}
use mathlib.Core.List.{List, [], ◌∷◌, ◌++◌, append_assoc}
use Prim.Native.Nat.{ℕ, zero, suc, ◌+◌, ◌-◌, ◌*◌, ◌/◌, ◌%◌, ◌<◌, ◌≤◌}
use Rattle.std.proofs.Math.Numerals.{add-one}
use native.Mathlib.Omega.{arith}
use Rattle.std.proofs.Math.ListN.{replicate, drop, get_or}
use Rattle.std.proofs.lemmas.List.{replicate-append-replicate}
use Rattle.std.proofs.Math.Seq.{get_or-set_same}
use Rattle.std.proofs.Math.Dec.{T}
use borrow.Author.Tests.{eqb-true, eqb-false, eq-eqb, ne_eqb, ltb-true}
use Rattle.words.specs.Table.{lookup}
use Rattle.words.specs.Shape.{bit_of, bit_none}
use Rattle.words.specs.Word.{kind_of, payload_of, children, bit1}
use Rattle.words.specs.Kinds.{number}
use Rattle.words.specs.declared.kinds.Kind.{Kind}
use Rattle.grammar.specs.Limits.{max_depth}
use Rattle.grammar.specs.declared.Slot.TheVariants.{Module}
use Rattle.grammar.specs.declared.Slot.{Slot}
use Rattle.grammar.specs.Slots.{slot_of}
use Rattle.grammar.specs.Grammar.{Slot as Slot', slot, Run as Below, Row, row, no_row, leaf, expressions, one_expression, statements, table, row_of, allowed, holds, expression, statement}
use Rattle.grammar.specs.Scan.{Place, place, places, below, below_at, fault_at, judge}
use Rattle.grammar.proofs.Rows.{each, each_row, implied, test_left, test_right, allowed_known, total, total_below, allowed_row}
use Rattle.grammar.proofs.Faults.{Faultless, fault_0}
use Rattle.validation.specs.declared.Run.{Run}
use Rattle.validation.specs.Sets.{leaves, plain}
use Rattle.validation.specs.Waiting.{places_in, waiting, stacked, Roomy}

-- ---- the stack

abbrev none : Run
none = record { slot = Module; left = 0; count = 0 }

stacked_set : (n : ℕ) (rs : List Run) (d : ℕ) (r : Run) → n ≤ d → stacked n (set rs d r) ≡ stacked n rs
unfolding stacked
stacked_set zero rs d r h = refl
stacked_set (suc n) rs d r h =
    let ne : n ≡ d → ⊥ = omega arith in
    let hn : n ≤ d = omega arith in
    rw (get_or-set_other rs d n r none ne, stacked_set n rs d r hn)

pub stacked_push : (rs : List Run) (n : ℕ) (r : Run) → n < length rs → stacked (n + 1) (set rs n r) ≡ r ∷ stacked n rs
unfolding stacked
stacked_push rs n r h = let l : n ≤ n = omega arith in rw (add-one, get_or-set_same rs n r none h, stacked_set n rs n r l)

pub stacked_top : (rs : List Run) (n : ℕ) → (n ≡ 0 → ⊥) → stacked n rs ≡ get_or rs (n - 1) none ∷ stacked (n - 1) rs
unfolding stacked
stacked_top rs n h = let e : n ≡ suc (n - 1) = omega arith in ap (λ (m : ℕ). stacked m rs) e

pub length_stacked : (rs : List Run) (n : ℕ) → length (stacked n rs) ≡ n
unfolding stacked
length_stacked rs zero = refl
length_stacked rs (suc n) = ap suc (length_stacked rs n)

pub stack_length : (rs : List Run) (n : ℕ) {xs : List Run} → stacked n rs ≡ xs → n ≡ length xs
stack_length rs n e = sym (length_stacked rs n) ∙ ap length e

pub roomy_push : (r : Run) (rs : List Run) → (r.count ≡ 0 → ⊥) → length rs + 4 * r.left ≤ 256 → Roomy rs → Roomy (r ∷ rs)
unfolding Roomy
roomy_push r rs s l h = (s, l, h)

pub roomy_pop : (r : Run) (rs : List Run) → Roomy (r ∷ rs) → (r.count ≡ 0 → ⊥) × (length rs + 4 * r.left ≤ 256) × Roomy rs
unfolding Roomy
roomy_pop r rs h = h

pub roomy_top : (rs : List Run) (n : ℕ) → (n ≡ 0 → ⊥) → Roomy (stacked n rs) → ((get_or rs (n - 1) none).count ≡ 0 → ⊥) × (length (stacked (n - 1) rs) + 4 * (get_or rs (n - 1) none).left ≤ 256) × Roomy (stacked (n - 1) rs)
roomy_top rs n h t = roomy_pop _ _ (rw (stacked_top rs n h) at t)

pub roomy_none : Roomy []
unfolding Roomy
roomy_none = tt

pub waiting_none : (r : Run) (rs : List Run) → r.count ≡ 0 → waiting (r ∷ rs) ≡ waiting rs
unfolding waiting places_in
waiting_none r rs e = rw e

-- ---- what a test of a set of kinds says

pub in_set : (s k : ℕ) {b : Bool} → b ≡ eqb (bit_of s k) 1 → b ≡ true → bit_of s k ≡ 0 → ⊥
in_set s k e t z = let o : bit_of s k ≡ 1 = eqb-true _ 1 (sym e ∙ t) in omega arith

pub not_in_set : (s k : ℕ) {b : Bool} → b ≡ eqb (bit_of s k) 1 → b ≡ false → bit_of s k ≡ 0
not_in_set s k e f = bit_none s k (eqb-false _ 1 (sym e ∙ f))

-- ---- tests of every row

-- all children are expressions
unfoldable only_expressions : List Below → Bool
only_expressions [] = true
only_expressions (r ∷ rs) = cond (eqb r.slot.category 4) (cond (eqb r.slot.context 0) (only_expressions rs) false) false

unfoldable plain_row : ℕ → ℕ → ℕ → Row → Bool
plain_row x p k r = cond (only_expressions (r.below x p)) true (eqb (bit_of plain k) 0)

or_zero : (y : Bool) (n : ℕ) → T (cond y true (eqb n 0)) → (n ≡ 0 → ⊥) → T y
or_zero true n t m = tt
or_zero false n t m = absurd (m (eqb→eq n 0 t))

-- none has a child
unfoldable is_empty : List Below → Bool
is_empty [] = true
is_empty (r ∷ rs) = false

unfoldable leaf_row : ℕ → ℕ → ℕ → Row → Bool
leaf_row x p k r = cond (is_empty (r.below x p)) true (eqb (bit_of leaves k) 0)

leaf_row_lem : (k x p : ℕ) → (bit_of leaves k ≡ 0 → ⊥) → T (is_empty ((row_of k).below x p))
unfolding each table row no_row leaf expressions one_expression statements leaf_row is_empty leaves bit_of
leaf_row_lem k x p b = or_zero (is_empty ((row_of k).below x p)) (bit_of leaves k) (each_row (leaf_row x p) tt k tt) b

leaf_places : (d : ℕ) (rs : List Below) → T (is_empty rs) → places d rs ≡ []
unfolding is_empty places
leaf_places d [] t = refl
leaf_places d (r ∷ rs) t = absurd t

plain_row_lem : (k x p : ℕ) → (bit_of plain k ≡ 0 → ⊥) → T (only_expressions ((row_of k).below x p))
unfolding each table row no_row leaf expressions one_expression statements plain_row only_expressions plain bit_of
plain_row_lem k x p b = or_zero (only_expressions ((row_of k).below x p)) (bit_of plain k) (each_row (plain_row x p) tt k tt) b

-- the places of expressions only
plain_places : (d : ℕ) (rs : List Below) → T (only_expressions rs) → places d rs ≡ replicate (total rs) (place expression d)
unfolding only_expressions places total
plain_places d [] t = refl
plain_places d (r ∷ rs) t =
    let u = test_right (eqb r.slot.category 4) (cond (eqb r.slot.context 0) (only_expressions rs) false) t in
    let c : r.slot.category ≡ 4 = eqb→eq r.slot.category 4 (test_left (eqb r.slot.category 4) (cond (eqb r.slot.context 0) (only_expressions rs) false) t) in
    let x : r.slot.context ≡ 0 = eqb→eq r.slot.context 0 (test_left (eqb r.slot.context 0) (only_expressions rs) u) in
    let q : place r.slot d ≡ place expression d = ap (λ (n : ℕ). place (slot n r.slot.context) d) c ∙ ap (λ (n : ℕ). place (slot 4 n) d) x in
    rw (q, plain_places d rs (test_right (eqb r.slot.context 0) (only_expressions rs) u)) (replicate-append-replicate r.count (total rs) (place expression d))

-- the kinds that have an arm of `children`
unfoldable pub named : ℕ → Bool
named k = lookup k ((1, true) ∷ (4, true) ∷ (20, true) ∷ (21, true) ∷ (26, true) ∷ (29, true) ∷ (30, true) ∷ (31, true) ∷ (32, true) ∷ (36, true) ∷ (37, true) ∷ []) false

-- the others have statements
unfoldable other_row : ℕ → Row → Bool
other_row k r = cond (eqb r.category 0) true (cond (eqb (bit_of leaves k) 0) (cond (eqb (bit_of plain k) 0) (cond (named k) true (cond (eqb k 3) true (cond (eqb k 33) true (eqb k 39)))) true) true)

pub named_none : (j k : ℕ) → j ≡ k → (j ≡ 1 → ⊥) → (j ≡ 4 → ⊥) → (j ≡ 20 → ⊥) → (j ≡ 21 → ⊥) → (j ≡ 26 → ⊥) → (j ≡ 29 → ⊥) → (j ≡ 30 → ⊥) → (j ≡ 31 → ⊥) → (j ≡ 32 → ⊥) → (j ≡ 36 → ⊥) → (j ≡ 37 → ⊥) → named k ≡ false
unfolding named lookup
named_none j k e n1 n4 n20 n21 n26 n29 n30 n31 n32 n36 n37 =
    let t : named j ≡ false = rw (ne_eqb j 1 n1, ne_eqb j 4 n4, ne_eqb j 20 n20, ne_eqb j 21 n21, ne_eqb j 26 n26, ne_eqb j 29 n29, ne_eqb j 30 n30, ne_eqb j 31 n31, ne_eqb j 32 n32, ne_eqb j 36 n36, ne_eqb j 37 n37) in
    ap named (sym e) ∙ t

-- ---- the runs below a record, the last one pushed first

-- the runs `new` are those for the places qs, and behind them the runs `old`
pub record Over (old new : List Run) (qs : List Place) : Type 0 where
  pub waits : waiting new ≡ qs ++ waiting old

pub over_none : {old : List Run} → Over old old []
over_none = record { waits = refl }

pub over_run : {r : Run} {t : Slot} {l n : ℕ} {old new : List Run} {qs : List Place} → r ≡ record { slot = t; left = l; count = n } → Over old new qs →
    Over old (r ∷ new) (replicate n (place (slot_of t) (max_depth + 1 - l)) ++ qs)
unfolding waiting places_in
over_run {r} {t} {l} {n} {old} {new} {qs} e h =
    record { waits = rw e (ap (replicate n (place (slot_of t) (max_depth + 1 - l)) ++◌) h.waits ∙ sym (append_assoc (replicate n (place (slot_of t) (max_depth + 1 - l))) qs (waiting old))) }

-- the same where a function found the slot
pub over_run_as : {r : Run} {t : Slot} {l n : ℕ} {old new : List Run} {qs : List Place} {q : Slot'} → r ≡ record { slot = t; left = l; count = n } → slot_of t ≡ q → Over old new qs →
    Over old (r ∷ new) (replicate n (place q (max_depth + 1 - l)) ++ qs)
over_run_as {r} {t} {l} {n} {old} {new} {qs} {q} e f h = subst (λ (x : Slot'). Over old (r ∷ new) (replicate n (place x (max_depth + 1 - l)) ++ qs)) f (over_run e h)

pub over_push : {r : Run} {t : Slot} {l n : ℕ} {old mid new : List Run} {qs : List Place} → r ≡ record { slot = t; left = l; count = n } → waiting new ≡ waiting (r ∷ mid) → Over old mid qs →
    Over old new (replicate n (place (slot_of t) (max_depth + 1 - l)) ++ qs)
over_push e p h = record { waits = p ∙ (over_run e h).waits }

-- the children of a record of the kind k, given another name of k and of its payload
module _ {k j p p' : ℕ} (x left : ℕ) (ep : p ≡ p') (ek : j ≡ k) where
  pub below_kind : (n : ℕ) → j ≡ n → places (max_depth + 1 - left) ((row_of n).below x p) ≡ places (max_depth + 1 - left) ((row_of k).below x p')
  below_kind n e = ap (λ (m : ℕ). places (max_depth + 1 - left) ((row_of n).below x m)) ep ∙ ap (λ (m : ℕ). places (max_depth + 1 - left) ((row_of m).below x p')) (sym e ∙ ek)

  pub below_other : (q : Slot') → allowed q k p' ≡ true → bit_of leaves k ≡ 0 → bit_of plain k ≡ 0 →
      (j ≡ 1 → ⊥) → (j ≡ 4 → ⊥) → (j ≡ 20 → ⊥) → (j ≡ 21 → ⊥) → (j ≡ 26 → ⊥) → (j ≡ 29 → ⊥) → (j ≡ 30 → ⊥) → (j ≡ 31 → ⊥) → (j ≡ 32 → ⊥) → (j ≡ 36 → ⊥) → (j ≡ 37 → ⊥) →
      replicate p (place statement (max_depth + 1 - left)) ++ [] ≡ places (max_depth + 1 - left) ((row_of k).below x p')
  unfolding each table row no_row other_row named lookup row_of places statements leaves plain bit_of
  below_other q a l b n1 n4 n20 n21 n26 n29 n30 n31 n32 n36 n37 = three (eqb k 3) refl (eqb k 33) refl t
    where
      not_named : named k ≡ false
      not_named = ap named (sym ek) ∙ rw (ne_eqb j 1 n1, ne_eqb j 4 n4, ne_eqb j 20 n20, ne_eqb j 21 n21, ne_eqb j 26 n26, ne_eqb j 29 n29, ne_eqb j 30 n30, ne_eqb j 31 n31, ne_eqb j 32 n32, ne_eqb j 36 n36, ne_eqb j 37 n37)

      t : T (cond (eqb k 3) true (cond (eqb k 33) true (eqb k 39)))
      t =
          let u = subst (λ (b : Bool). T (cond b true (cond (eqb (bit_of leaves k) 0) (cond (eqb (bit_of plain k) 0) (cond (named k) true (cond (eqb k 3) true (cond (eqb k 33) true (eqb k 39)))) true) true))) (ne_eqb (row_of k).category 0 (allowed_known q k p' a)) (each_row other_row tt k tt) in
          let v = implied (eqb (bit_of plain k) 0) _ (implied (eqb (bit_of leaves k) 0) _ u (eq-eqb (bit_of leaves k) 0 l)) (eq-eqb (bit_of plain k) 0 b) in
          subst (λ (b : Bool). T (cond b true (cond (eqb k 3) true (cond (eqb k 33) true (eqb k 39))))) not_named v

      three : (y : Bool) → eqb k 3 ≡ y → (z : Bool) → eqb k 33 ≡ z → T (cond y true (cond z true (eqb k 39))) → replicate p (place statement (max_depth + 1 - left)) ++ [] ≡ places (max_depth + 1 - left) ((row_of k).below x p')
      three true e z f u = below_kind 3 (ek ∙ eqb-true k 3 e)
      three false e true f u = below_kind 33 (ek ∙ eqb-true k 33 f)
      three false e false f u = below_kind 39 (ek ∙ eqb→eq k 39 u)

-- all runs are those of the children of a record of the kind k, where a match names it k₁
pub over_kind : {k p p' : ℕ} {k₀ k₁ : Kind} {old new : List Run} (x left : ℕ) → p ≡ p' → k ≡ number k₀ → k₀ ≡ k₁ → Over old new (places (max_depth + 1 - left) ((row_of (number k₁)).below x p)) →
    waiting new ≡ places (max_depth + 1 - left) ((row_of k).below x p') ++ waiting old
over_kind {k} {p} {p'} {k₀} {k₁} {old} {new} x left ep ek e h = h.waits ∙ ap (◌++ waiting old) (below_kind x left ep refl (number k₁) (ek ∙ ap number e))

-- a flag, by its test
pub flag_of : (p : ℕ) → cond (eqb (bit1 p) 1) 1 0 ≡ bit1 p
unfolding bit1
flag_of p = go (p / 2 % 2) (omega arith)
  where
    go : (b : ℕ) → b < 2 → cond (eqb b 1) 1 0 ≡ b
    go zero h = refl
    go (suc zero) h = refl
    go (suc (suc b)) h = absurd (omega arith)

-- all children are expressions
pub below_plain : (q : Slot') (k p d : ℕ) → allowed q k p ≡ true → (bit_of plain k ≡ 0 → ⊥) → replicate (children k p) (place expression d) ≡ places d ((row_of k).below q.context p)
below_plain q k p d a b =
    sym (plain_places d ((row_of k).below q.context p) (plain_row_lem k q.context p b) ∙ ap (λ (j : ℕ). replicate j (place expression d)) (total_below q k p a))

-- the category of a slot that takes a word of the kind k, where a match names it k₁
pub named_category : {k : ℕ} {k₀ k₁ : Kind} (q : Slot') (p : ℕ) → allowed q k p ≡ true → k ≡ number k₀ → k₀ ≡ k₁ → q.category ≡ (row_of (number k₁)).category
named_category {k} q p a ek e = sym (allowed_row q k p a).0 ∙ ap (λ (n : ℕ). (row_of n).category) (ek ∙ ap number e)

-- a class statement's payload
pub class_payload : (q : Slot') (k p : ℕ) → allowed q k p ≡ true → k ≡ 4 → p < 3
unfolding row_of table row lookup holds
class_payload q k p a e = go (eqb q.context 1) refl (subst (λ (n : ℕ). holds (row_of n).rule q.context p ≡ true) e (allowed_row q k p a).1)
  where
    go : (b : Bool) → eqb q.context 1 ≡ b → holds (row_of 4).rule q.context p ≡ true → p < 3
    go true f h = ltb-true p 3 (rw f at h)
    go false f h = let z : p ≡ 0 = eqb-true p 0 (rw f at h) in omega arith

-- ---- the scan: r is the run that has the next place, rs are those behind it

-- the next place, and the run without it
abbrev pub next_place : Run → Place
next_place r = place (slot_of r.slot) (max_depth + 1 - r.left)

abbrev pub without_next : Run → Run
without_next r = record { slot = r.slot; left = r.left; count = r.count - 1 }

first : (r : Run) (rs : List Run) → (r.count ≡ 0 → ⊥) → waiting (r ∷ rs) ≡ next_place r ∷ waiting (without_next r ∷ rs)
unfolding waiting places_in
first r rs some = let e : r.count ≡ suc (r.count - 1) = omega arith in ap (λ (m : ℕ). replicate m (next_place r) ++ waiting rs) e

-- what the scan of the places ahead answers, where they are those that were ahead before
pub judged_ahead : (s : ℕ) (ws : List ℕ) {n m : ℕ} {qs rs : List Place} → judge s qs ws ≡ n → qs ≡ rs → judge s rs ws ≡ m → n ≡ m
judged_ahead s ws a e b = sym a ∙ ap (λ (ps : List Place). judge s ps ws) e ∙ b

-- the word of the next place has no fault
module _ (s : ℕ) (r : Run) (w : ℕ) (e : 0 ≡ fault_at s (next_place r) w) where
  faultless : Faultless s (next_place r) (kind_of w) (payload_of w)
  unfolding fault_at
  faultless = (fault_0 s (next_place r) (kind_of w) (payload_of w)).0 (sym e)

  pub scan_allowed : allowed (slot_of r.slot) (kind_of w) (payload_of w) ≡ true
  unfolding place
  scan_allowed = faultless.grammar

  pub scan_depth : 1 ≤ r.left
  unfolding place
  scan_depth = omega (arith, faultless.depth)

  below_places : r.left ≤ max_depth → below_at (next_place r) w ≡ places (max_depth + 1 - (r.left - 1)) ((row_of (kind_of w)).below (slot_of r.slot).context (payload_of w))
  unfolding below_at below place
  below_places le = let d : max_depth + 1 - (r.left - 1) ≡ max_depth + 1 - r.left + 1 = omega (arith, scan_depth) in rw d

module _ (s i : ℕ) (ws : List ℕ) (h : i < length ws) where
  -- no place waits for a word
  pub scan_left : judge s [] (drop i ws) ≡ 2
  unfolding judge
  scan_left = rw (drop-cons ws i 0 h)

  module _ (r : Run) (rs : List Run) (some : r.count ≡ 0 → ⊥) where
    -- its word has a fault
    pub scan_fault : (f : ℕ) → f ≡ fault_at s (next_place r) (get_or ws i 0) → (f ≡ 0 → ⊥) → judge s (waiting (r ∷ rs)) (drop i ws) ≡ f
    unfolding judge
    scan_fault f e n = rw (first r rs some, drop-cons ws i 0 h, ← e, ne_eqb f 0 n)

    -- it has none
    module _ (e : 0 ≡ fault_at s (next_place r) (get_or ws i 0)) where
      scan_word : judge s (waiting (r ∷ rs)) (drop i ws) ≡ judge s (below_at (next_place r) (get_or ws i 0) ++ waiting (without_next r ∷ rs)) (drop (i + 1) ws)
      unfolding judge
      scan_word =
          let dc : drop i ws ≡ get_or ws i 0 ∷ drop (i + 1) ws = rw add-one (drop-cons ws i 0 h) in
          let f : fault_at s (next_place r) (get_or ws i 0) ≡ 0 = sym e in
          rw (first r rs some, dc, f)

      -- with its children
      pub scan_below : r.left ≤ max_depth → (more all : List Run) → waiting more ≡ waiting (without_next r ∷ rs) →
          waiting all ≡ places (max_depth + 1 - (r.left - 1)) ((row_of (kind_of (get_or ws i 0))).below (slot_of r.slot).context (payload_of (get_or ws i 0))) ++ waiting more →
          judge s (waiting (r ∷ rs)) (drop i ws) ≡ judge s (waiting all) (drop (i + 1) ws)
      scan_below le more all em ea =
          scan_word ∙ ap (λ (l : List Place). judge s l (drop (i + 1) ws)) (ap (◌++ waiting (without_next r ∷ rs)) (below_places s r (get_or ws i 0) e le) ∙ sym (ea ∙ ap (places (max_depth + 1 - (r.left - 1)) ((row_of (kind_of (get_or ws i 0))).below (slot_of r.slot).context (payload_of (get_or ws i 0))) ++◌) em))

      -- it has no children
      pub scan_leaf : r.left ≤ max_depth → (bit_of leaves (kind_of (get_or ws i 0)) ≡ 0 → ⊥) → judge s (waiting (r ∷ rs)) (drop i ws) ≡ judge s (waiting (without_next r ∷ rs)) (drop (i + 1) ws)
      scan_leaf le b =
          scan_word
          ∙ ap (λ (l : List Place). judge s (l ++ waiting (without_next r ∷ rs)) (drop (i + 1) ws)) (below_places s r (get_or ws i 0) e le ∙ leaf_places (max_depth + 1 - (r.left - 1)) _ (leaf_row_lem (kind_of (get_or ws i 0)) (slot_of r.slot).context (payload_of (get_or ws i 0)) b))

-- the words ended, with a place that waits, or with none
pub scan_end : (s i : ℕ) (ws : List ℕ) (r : Run) (rs : List Run) → (r.count ≡ 0 → ⊥) → length ws ≤ i → judge s (waiting (r ∷ rs)) (drop i ws) ≡ 2
unfolding judge
scan_end s i ws r rs some h = rw (first r rs some, drop_of_length-le ws h)

pub scan_done : (s i : ℕ) (ws : List ℕ) → length ws ≤ i → judge s [] (drop i ws) ≡ 0
unfolding judge
scan_done s i ws h = rw (drop_of_length-le ws h)
