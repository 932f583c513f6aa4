-- Laws for showing that a rewritten tree obeys the grammar: many trees in one slot, another payload, another context. Assumes nothing.
use Rattle.std.specs.Prelude.{◌≡◌, refl, true, false, List, [], ◌∷◌, ◌++◌, ℕ, zero, suc, replicate, eqb}
use Rattle.std.proofs.Common.{sym, ap, subst, ◌∙◌, arith, eq-eqb}
use Rattle.words.specs.Table.{lookup}
use Rattle.words.specs.Word.{bit0, bit1, bit2}
use Rattle.records.specs.Forest.{end, node, append_f, count_f}
use Rattle.records.specs.Label.{Label, Trees, ◌∶◌, repay}
use Rattle.grammar.specs.Grammar.{Slot, slot, expression, Run, Row, row, no_row, leaf, expressions, one_expression, statements, table, row_of, holds, any, allowed, slots, slots_below}
use Rattle.grammar.specs.WellFormed.{Allowed, Fits}
use Rattle.grammar.proofs.Rows.{All, all_rows, allowed_row, sole_kind, kind_sole}
use Rattle.rewriting.specs.Parts.{tree}
use Rattle.rewriting.proofs.Roles.{never}

-- ---- many trees in one slot

unfoldable pub EachFits : Slot → Trees → Type 0
EachFits q end = Unit {0}
EachFits q (node l kids rest) = Allowed q l × Fits (slots_below q l.kind l.payload) kids × EachFits q rest

pub each_append : (q : Slot) (f g : Trees) → EachFits q f → EachFits q g → EachFits q (append_f f g)
unfolding EachFits append_f
each_append q end g a b = b
each_append q (node l k r) g a b = (a.0, a.1, each_append q r g a.2 b)

pub each_fits : (q : Slot) (f : Trees) → EachFits q f → Fits (replicate (count_f f) q) f
unfolding EachFits Fits count_f
each_fits q end a = tt
each_fits q (node l k r) a = (a.0, a.1, each_fits q r a.2)

pub fits_each : (n : ℕ) (q : Slot) (f : Trees) → Fits (replicate n q) f → EachFits q f
unfolding EachFits Fits
fits_each zero q end a = tt
fits_each zero q (node l k r) a = absurd a
fits_each (suc n) q end a = absurd a
fits_each (suc n) q (node l k r) a = (a.0, a.1, fits_each n q r a.2)

pub fits_append : (qs rs : List Slot) (f g : Trees) → Fits qs f → Fits rs g → Fits (qs ++ rs) (append_f f g)
unfolding Fits append_f
fits_append [] rs end g a b = b
fits_append [] rs (node l k r) g a b = absurd a
fits_append (q ∷ qs) rs end g a b = absurd a
fits_append (q ∷ qs) rs (node l k r) g a b = (a.0, a.1, fits_append qs rs r g a.2 b)

-- one tree
pub one_fits : (q : Slot) (l : Label) (k : Trees) → Allowed q l → Fits (slots_below q l.kind l.payload) k → Fits (q ∷ []) (tree l k)
unfolding Fits tree
one_fits q l k a h = (a, h, tt)

pub fits_one : (q : Slot) (f : Trees) → Fits (q ∷ []) f → EachFits q f
fits_one q f h = fits_each 1 q f h

-- ---- a word that may stand in a slot

pub may_stand : (q : Slot) (k p : ℕ) → (row_of k).category ≡ q.category → holds (row_of k).rule q.context p ≡ true → allowed q k p ≡ true
unfolding allowed
may_stand q k p e h = rw (eq-eqb (row_of k).category q.category e) h

-- the payload of a kind whose rule is `any` is free
any_holds : (r x p : ℕ) → r ≡ any → holds r x p ≡ true
unfolding holds lookup
any_holds r x p e = ap (λ (n : ℕ). holds n x p) e

-- the rule of a 28 is another
not_decorators : (k c : ℕ) → (row_of k).category ≡ c → c ≡ 7 → (row_of k).rule ≡ any → ⊥
unfolding row_of lookup table row sole_kind
not_decorators k c e d r = let f : (row_of 28).rule ≡ any = ap (λ (n : ℕ). (row_of n).rule) (sym (kind_sole k 7 (e ∙ d) tt)) ∙ r in omega arith

pub free : (q : Slot) (l : Label) (n : ℕ) → Allowed q l → (row_of l.kind).rule ≡ any → Allowed q (repay l n)
unfolding repay
free q l n a e =
    let c : (row_of l.kind).category ≡ q.category = (allowed_row q l.kind l.payload a.grammar).0 in
    record {
      grammar = may_stand q l.kind n c (any_holds (row_of l.kind).rule q.context n e);
      bare = λ d x. absurd (not_decorators l.kind q.category c d e);
    }

-- ---- an expression in another context

infixr 20 ◌⨾◌
abbrev pub ◌⨾◌ : {A B : Type 0} → A → B → A × B
a ⨾ b = (a, b)

-- of a kind of expression that is no 34 and no 35
unfoldable Steady : ℕ → Row → Type 0
Steady k r = r.category ≡ 4 → eqb k 34 ≡ false → eqb k 35 ≡ false → (x y p : ℕ) → (holds r.rule x p ≡ holds r.rule y p) × (r.below x p ≡ r.below y p)

steady_all : All Steady table
unfolding All Steady table row holds lookup leaf expressions one_expression
steady_all =
    (λ c. absurd (omega arith)) ⨾ (λ c. absurd (omega arith)) ⨾ (λ c. absurd (omega arith)) ⨾ (λ c. absurd (omega arith)) ⨾
    (λ c. absurd (omega arith)) ⨾ (λ c. absurd (omega arith)) ⨾ (λ c. absurd (omega arith)) ⨾ (λ c a b x y p. (refl, refl)) ⨾
    (λ c a b x y p. (refl, refl)) ⨾ (λ c a b x y p. (refl, refl)) ⨾ (λ c a b x y p. (refl, refl)) ⨾ (λ c a b x y p. (refl, refl)) ⨾
    (λ c a b x y p. (refl, refl)) ⨾ (λ c a b x y p. (refl, refl)) ⨾ (λ c a b x y p. (refl, refl)) ⨾ (λ c a b x y p. (refl, refl)) ⨾
    (λ c a b x y p. (refl, refl)) ⨾ (λ c a b x y p. (refl, refl)) ⨾ (λ c a b x y p. (refl, refl)) ⨾ (λ c a b x y p. (refl, refl)) ⨾
    (λ c a b x y p. (refl, refl)) ⨾ (λ c a b x y p. (refl, refl)) ⨾ (λ c a b x y p. (refl, refl)) ⨾ (λ c a b x y p. (refl, refl)) ⨾
    (λ c a b x y p. (refl, refl)) ⨾ (λ c. absurd (omega arith)) ⨾ (λ c. absurd (omega arith)) ⨾ (λ c. absurd (omega arith)) ⨾
    (λ c. absurd (omega arith)) ⨾ (λ c. absurd (omega arith)) ⨾ (λ c. absurd (omega arith)) ⨾ (λ c. absurd (omega arith)) ⨾
    (λ c. absurd (omega arith)) ⨾ (λ c a. absurd (never (sym a))) ⨾ (λ c a b. absurd (never (sym b))) ⨾ (λ c. absurd (omega arith)) ⨾
    (λ c. absurd (omega arith)) ⨾ (λ c. absurd (omega arith)) ⨾ (λ c. absurd (omega arith)) ⨾ tt

steady : (k : ℕ) → Steady k (row_of k)
steady k = all_rows Steady steady_all k (unfold Steady no_row row in λ c. absurd (omega arith))

-- a key that is no name may stand as an expression, with the children that it has
pub key_expression : (l : Label) (k : Trees) → eqb l.kind 34 ≡ false → eqb l.kind 35 ≡ false → Allowed (slot 4 1) l → Fits (slots_below (slot 4 1) l.kind l.payload) k →
    Fits (expression ∷ []) (tree l k)
unfolding slots_below Steady
key_expression l k a b h g =
    let r = allowed_row (slot 4 1) l.kind l.payload h.grammar in
    let z = steady l.kind r.0 a b 1 0 l.payload in
    one_fits expression l k (record { grammar = may_stand expression l.kind l.payload r.0 (sym z.0 ∙ r.1); bare = λ d x. absurd (omega arith) })
    (subst (λ (rs : List Run). Fits (slots rs) k) z.1 g)

-- ---- a word that is made

-- to unfold `tabled` is to look kinds up in the grammar's table
unfoldable pub tabled : Unit {0}
unfolding allowed row_of lookup table row holds slots_below slots leaf expressions one_expression statements bit0 bit1 bit2
tabled = tt

pub made_fits : (q : Slot) (k p : ℕ) (f : Trees) → allowed q k p ≡ true → (q.category ≡ 7 → ⊥) → Fits (slots_below q k p) f → Fits (q ∷ []) (tree (k ∶ p) f)
unfolding ◌∶◌
made_fits q k p f a n h = one_fits q (k ∶ p) f (record { grammar = a; bare = λ d x. absurd (n d) }) h
