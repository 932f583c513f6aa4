-- Facts about the grammar's table. Assumes nothing.
use Rattle.std.specs.Prelude.{◌≡◌, refl, Bool, true, false, cond, not, List, [], ◌∷◌, ℕ, ◌+◌, length, replicate, eqb, ltb, T}
use Rattle.std.proofs.Common.{sym, ap, subst, ◌∙◌, arith, length-append, eqb→eq, ltb→lt, eqb-true, eq-eqb, ne_eqb, lt-ltb}
use Rattle.std.proofs.lemmas.List.{length-replicate}
use Rattle.words.specs.Table.{lookup}
use Rattle.words.specs.Word.{bit0, bit1, bit2, child_table, children}
use Rattle.grammar.specs.Grammar.{Slot, Run, Row, row, no_row, leaf, expressions, one_expression, statements, table, row_of, never, holds, allowed, slots, slots_below}

-- ---- a fact about every row of the table

unfoldable pub All : (ℕ → Row → Type 0) → List (ℕ × Row) → Type 0
All P [] = Unit {0}
All P (e ∷ es) = P e.0 e.1 × All P es

all_if : (P : ℕ → Row → Type 0) (k a : ℕ) (r s : Row) (x : Bool) → eqb k a ≡ x → P a r → P k s → P k (cond x r s)
all_if P k a r s true e p q = subst (λ (n : ℕ). P n r) (sym (eqb-true k a e)) p
all_if P k a r s false e p q = q

all_lookup : (P : ℕ → Row → Type 0) (k : ℕ) (es : List (ℕ × Row)) (d : Row) → All P es → P k d → P k (lookup k es d)
unfolding All lookup
all_lookup P k [] d t h = h
all_lookup P k (e ∷ es) d t h = all_if P k e.0 e.1 (lookup k es d) (eqb k e.0) refl t.0 (all_lookup P k es d t.1 h)

pub all_rows : (P : ℕ → Row → Type 0) → All P table → (k : ℕ) → P k no_row → P k (row_of k)
unfolding row_of
all_rows P t k h = all_lookup P k table no_row t h

-- the same for a test, computed
unfoldable pub each : (ℕ → Row → Bool) → List (ℕ × Row) → Bool
each f [] = true
each f (e ∷ es) = cond (f e.0 e.1) (each f es) false

pub test_left : (a b : Bool) → T (cond a b false) → T a
test_left true b t = tt
test_left false b t = t

pub test_right : (a b : Bool) → T (cond a b false) → T b
test_right true b t = t
test_right false b t = absurd t

each_all : (f : ℕ → Row → Bool) (es : List (ℕ × Row)) → T (each f es) → All (λ k r. T (f k r)) es
unfolding each All
each_all f [] t = tt
each_all f (e ∷ es) t = (test_left (f e.0 e.1) (each f es) t, each_all f es (test_right (f e.0 e.1) (each f es) t))

pub each_row : (f : ℕ → Row → Bool) → T (each f table) → (k : ℕ) → T (f k no_row) → T (f k (row_of k))
each_row f t k h = all_rows (λ n r. T (f n r)) (each_all f table t) k h

-- the same for a test of some rows
pub implied : (a b : Bool) → T (cond a b true) → a ≡ true → T b
implied true b t e = t
implied false b t e = let z : ◌≡◌ {A = ℕ} 0 1 = cc in absurd (omega arith)

-- ---- a word that may stand in a slot

pub allowed_row : (q : Slot) (k p : ℕ) → allowed q k p ≡ true → ((row_of k).category ≡ q.category) × (holds (row_of k).rule q.context p ≡ true)
unfolding allowed
allowed_row q k p e = go (eqb (row_of k).category q.category) refl e
  where
    go : (x : Bool) → eqb (row_of k).category q.category ≡ x → cond x (holds (row_of k).rule q.context p) false ≡ true → ((row_of k).category ≡ q.category) × (holds (row_of k).rule q.context p ≡ true)
    go true e h = (eqb-true (row_of k).category q.category e, h)
    go false e h = let z : ◌≡◌ {A = ℕ} 0 1 = cc in absurd (omega arith)

unfoldable barred : ℕ → Row → Bool
barred k r = cond (eqb r.category 0) (eqb r.rule never) true

-- a kind that the table doesn't have has the rule that nothing meets
barred_row : (k : ℕ) → (row_of k).category ≡ 0 → (row_of k).rule ≡ never
unfolding each table row no_row barred
barred_row k e = eqb→eq (row_of k).rule never (implied (eqb (row_of k).category 0) (eqb (row_of k).rule never) (each_row barred tt k tt) (eq-eqb (row_of k).category 0 e))

never_holds : (r x p : ℕ) → r ≡ never → holds r x p ≡ true → ⊥
unfolding holds lookup
never_holds r x p e t =
    let f : holds 10 x p ≡ true = ap (λ (n : ℕ). holds n x p) (sym e) ∙ t in
    let z : ◌≡◌ {A = ℕ} 0 1 = cc in omega arith

pub allowed_known : (q : Slot) (k p : ℕ) → allowed q k p ≡ true → (row_of k).category ≡ 0 → ⊥
allowed_known q k p a e = never_holds (row_of k).rule q.context p (barred_row k e) (allowed_row q k p a).1

-- ---- the categories that have one kind

unfoldable pub sole_kind : ℕ → ℕ
sole_kind c = lookup c ((1, 1) ∷ (2, 40) ∷ (5, 26) ∷ (6, 27) ∷ (7, 28) ∷ (8, 29) ∷ (10, 36) ∷ (11, 37) ∷ (12, 39) ∷ []) 64

unfoldable sole : ℕ → Row → Bool
sole k r = cond (ltb (sole_kind r.category) 64) (eqb k (sole_kind r.category)) true

pub kind_sole : (k c : ℕ) → (row_of k).category ≡ c → T (ltb (sole_kind c) 64) → k ≡ sole_kind c
unfolding each table row no_row sole_kind lookup sole
kind_sole k c e t =
    let u : T (cond (ltb (sole_kind (row_of k).category) 64) (eqb k (sole_kind (row_of k).category)) true) = each_row sole tt k tt in
    let v : T (cond (ltb (sole_kind c) 64) (eqb k (sole_kind c)) true) = subst (λ (n : ℕ). T (cond (ltb (sole_kind n) 64) (eqb k (sole_kind n)) true)) e u in
    eqb→eq k (sole_kind c) (implied (ltb (sole_kind c) 64) (eqb k (sole_kind c)) v (lt-ltb (sole_kind c) 64 (ltb→lt (sole_kind c) 64 t)))

-- ---- the number of children

unfoldable pub total : List Run → ℕ
total [] = 0
total (r ∷ rs) = r.count + total rs

infixr 20 ◌⨾◌
abbrev ◌⨾◌ : {A B : Type 0} → A → B → A × B
a ⨾ b = (a, b)

unfoldable Counted : ℕ → Row → Type 0
Counted k r = (r.category ≡ 0 → ⊥) → (x p : ℕ) → total (r.below x p) ≡ children k p

counted_all : All Counted table
unfolding All Counted table row total leaf expressions one_expression statements children child_table lookup bit0 bit1 bit2
counted_all =
    (λ n x p. omega arith) ⨾ (λ n x p. omega arith) ⨾ (λ n x p. omega arith) ⨾ (λ n x p. omega arith) ⨾ (λ n x p. omega arith) ⨾ (λ n x p. omega arith) ⨾
    (λ n x p. omega arith) ⨾ (λ n x p. omega arith) ⨾ (λ n x p. omega arith) ⨾ (λ n x p. omega arith) ⨾ (λ n x p. omega arith) ⨾ (λ n x p. omega arith) ⨾
    (λ n x p. omega arith) ⨾ (λ n x p. omega arith) ⨾ (λ n x p. omega arith) ⨾ (λ n x p. omega arith) ⨾ (λ n x p. omega arith) ⨾ (λ n x p. omega arith) ⨾
    (λ n x p. omega arith) ⨾ (λ n x p. omega arith) ⨾ (λ n x p. omega arith) ⨾ (λ n x p. omega arith) ⨾ (λ n x p. omega arith) ⨾ (λ n x p. omega arith) ⨾
    (λ n x p. omega arith) ⨾ (λ n x p. omega arith) ⨾ (λ n x p. omega arith) ⨾ (λ n x p. omega arith) ⨾ (λ n x p. omega arith) ⨾ (λ n x p. omega arith) ⨾
    (λ n x p. omega arith) ⨾ (λ n x p. omega arith) ⨾ (λ n x p. omega arith) ⨾ (λ n x p. omega arith) ⨾ (λ n x p. omega arith) ⨾ (λ n x p. omega arith) ⨾
    (λ n x p. omega arith) ⨾ (λ n x p. omega arith) ⨾ (λ n x p. omega arith) ⨾ tt

counted_none : (k : ℕ) → Counted k no_row
unfolding Counted no_row row
counted_none k n x p = absurd (n refl)

pub total_below : (q : Slot) (k p : ℕ) → allowed q k p ≡ true → total ((row_of k).below q.context p) ≡ children k p
unfolding Counted
total_below q k p a = all_rows Counted counted_all k (counted_none k) (allowed_known q k p a) q.context p

length_slots : (rs : List Run) → length (slots rs) ≡ total rs
unfolding slots total
length_slots [] = refl
length_slots (r ∷ rs) = length-append (replicate r.count r.slot) (slots rs) ∙ rw (length-replicate, length_slots rs)

-- a record that may stand in a slot has a slot for each of its children
pub length_below : (q : Slot) (k p : ℕ) → allowed q k p ≡ true → length (slots_below q k p) ≡ children k p
unfolding slots_below
length_below q k p a = length_slots ((row_of k).below q.context p) ∙ total_below q k p a

-- ---- only a module has a 40 below it

-- neither a module's nor a 40's slot is among them
unfoldable pub inner : List Run → Bool
inner [] = true
inner (r ∷ rs) = cond (ltb 2 r.slot.category) (inner rs) false

unfoldable inner_row : ℕ → ℕ → ℕ → Row → Bool
inner_row x p k r = cond (not (eqb r.category 1)) (inner (r.below x p)) true

pub inner_below : (k x p : ℕ) → ((row_of k).category ≡ 1 → ⊥) → T (inner ((row_of k).below x p))
unfolding each table row no_row leaf expressions one_expression statements inner_row inner
inner_below k x p n =
    implied (not (eqb (row_of k).category 1)) (inner ((row_of k).below x p)) (each_row (inner_row x p) tt k tt) (rw (ne_eqb (row_of k).category 1 n))
