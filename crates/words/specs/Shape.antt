-- How `child_count` finds the number of children: a shape for each kind, what a shape makes of a payload, and sets of kinds in place of the
-- shapes. Assumes nothing.
use Rattle.std.specs.Prelude.{◌≡◌, refl, Bool, true, false, cond, List, [], ◌∷◌, ℕ, ◌+◌, ◌*◌, ◌/◌, ◌%◌, ◌^◌, ◌<◌, T, eqb}
use Rattle.std.proofs.Math.Path.{ap}
use Rattle.std.proofs.Common.{sym, subst, ◌∙◌, zero-add, arith, eq-eqb, ne_eqb}
use Rattle.std.proofs.Math.Dec.{eqb→eq}
use Rattle.words.specs.Table.{lookup, both, every, below_all}
use Rattle.words.specs.Word.{child_table, children, bit0, bit1, bit2}

-- what the payload adds: 1 as it stands, 2 its low byte, 3 bits 0 and 2, 4 bit 2, 5 bit 1
unfoldable pub counted : ℕ → ℕ → ℕ
counted m p = lookup m ((1, p) ∷ (2, p % 256) ∷ (3, bit0 p + bit2 p) ∷ (4, bit2 p) ∷ (5, bit1 p) ∷ []) 0

-- of each kind: 16 times the children that it always has, and what its payload adds
unfoldable pub shapes : List (ℕ × ℕ)
shapes =
    (1, 17) ∷ (2, 16) ∷ (3, 1) ∷ (4, 16) ∷ (5, 16) ∷ (16, 1) ∷ (17, 17) ∷ (18, 16) ∷ (19, 16) ∷ (20, 16) ∷ (21, 32) ∷
    (22, 1) ∷ (23, 16) ∷ (24, 16) ∷ (25, 2) ∷ (26, 35) ∷ (28, 1) ∷ (29, 1) ∷ (30, 52) ∷ (31, 37) ∷ (32, 32) ∷ (33, 1) ∷
    (36, 1) ∷ (37, 17) ∷ (39, 1) ∷ []

unfoldable pub shape_of : ℕ → ℕ
shape_of k = lookup k shapes 0

unfoldable pub children_by : ℕ → ℕ → ℕ
children_by p s = s / 16 + counted (s % 16) p

-- two tables with the same keys whose entries correspond
unfoldable Same : (ℕ → ℕ) → List (ℕ × ℕ) → List (ℕ × ℕ) → Type 0
Same f [] [] = Unit {0}
Same f [] (e ∷ es) = ⊥
Same f (d ∷ ds) [] = ⊥
Same f (d ∷ ds) (e ∷ es) = (d.0 ≡ e.0) × (f d.1 ≡ e.1) × Same f ds es

same_cond : (f : ℕ → ℕ) (x : Bool) (a b c d : ℕ) → f a ≡ b → f c ≡ d → f (cond x a c) ≡ cond x b d
same_cond f true a b c d h g = h
same_cond f false a b c d h g = g

lookup_same : (f : ℕ → ℕ) (k : ℕ) (ds es : List (ℕ × ℕ)) → f 0 ≡ 0 → Same f ds es → f (lookup k ds 0) ≡ lookup k es 0
unfolding lookup Same
lookup_same f k [] [] z s = z
lookup_same f k [] (e ∷ es) z s = absurd s
lookup_same f k (d ∷ ds) [] z s = absurd s
lookup_same f k (d ∷ ds) (e ∷ es) z s =
    same_cond f (eqb k d.0) d.1 e.1 (lookup k ds 0) (lookup k es 0) s.1 (lookup_same f k ds es z s.2)
    ∙ ap (λ (n : ℕ). cond (eqb k n) e.1 (lookup k es 0)) s.0

entries : (p : ℕ) → Same (children_by p) shapes (child_table p)
unfolding shapes child_table children_by Same counted lookup
entries p = (
  refl,
  refl,
  (
    refl,
    refl,
    (
      refl,
      zero-add p,
      (
        refl,
        refl,
        (
          refl,
          refl,
          (
            refl,
            zero-add p,
            (
              refl,
              refl,
              (
                refl,
                refl,
                (
                  refl,
                  refl,
                  (
                    refl,
                    refl,
                    (
                      refl,
                      refl,
                      (
                        refl,
                        zero-add p,
                        (
                          refl,
                          refl,
                          (
                            refl,
                            refl,
                            (
                              refl,
                              zero-add (p % 256),
                              (
                                refl,
                                refl,
                                (
                                  refl,
                                  zero-add p,
                                  (
                                    refl,
                                    zero-add p,
                                    (
                                      refl,
                                      refl,
                                      (
                                        refl,
                                        refl,
                                        (
                                          refl,
                                          refl,
                                          (
                                            refl,
                                            zero-add p,
                                            (refl, zero-add p, (refl, refl, (refl, zero-add p, tt))),
                                          ),
                                        ),
                                      ),
                                    ),
                                  ),
                                ),
                              ),
                            ),
                          ),
                        ),
                      ),
                    ),
                  ),
                ),
              ),
            ),
          ),
        ),
      ),
    ),
  ),
)

pub shape_children : (k p : ℕ) → children_by p (shape_of k) ≡ children k p
unfolding shape_of children
shape_children k p = lookup_same (children_by p) k shapes (child_table p) (unfold children_by counted lookup in refl) (entries p)

-- ---- sets of kinds: bit k is the kind k

unfoldable pub bit_of : ℕ → ℕ → ℕ
bit_of s k = s / 2 ^ k % 2

-- one child that is always there; the payload counts the children, or the others; counted in other ways
unfoldable pub one : ℕ
one = 137466085430

unfoldable pub many : ℕ
many = 765313875978

unfoldable pub apart : ℕ
apart = 7618953216

-- the shape of a kind that isn't apart, and of those apart but four
unfoldable shape_bits : ℕ → Bool
shape_bits k = cond (eqb (bit_of apart k) 0) (eqb (shape_of k) (16 * bit_of one k + bit_of many k)) true

unfoldable shape_apart : ℕ → Bool
shape_apart k = cond (eqb (bit_of apart k) 1) (cond (eqb k 25) true (cond (eqb k 26) true (cond (eqb k 30) true (cond (eqb k 31) true (eqb (shape_of k) 32))))) true

yes : (b c : Bool) → b ≡ true → T (cond b c true) → T c
yes b c e t = subst (λ (x : Bool). T (cond x c true)) e t

no : (b c : Bool) → b ≡ false → T (cond b true c) → T c
no b c e t = subst (λ (x : Bool). T (cond x true c)) e t

pub bit_lt : (s k : ℕ) → bit_of s k < 2
unfolding bit_of
bit_lt s k = omega arith

pub bit_one : (s k : ℕ) → (bit_of s k ≡ 0 → ⊥) → bit_of s k ≡ 1
bit_one s k n = omega (arith, bit_lt s k)

-- a bit that isn't 1
pub bit_none : (s k : ℕ) → (bit_of s k ≡ 1 → ⊥) → bit_of s k ≡ 0
bit_none s k n = omega (arith, bit_lt s k)

by_one : (a p : ℕ) → children_by p (16 * a + 1) ≡ a + p
unfolding children_by counted lookup
by_one a p =
    let d : (16 * a + 1) / 16 ≡ a = omega arith in
    let m : (16 * a + 1) % 16 ≡ 1 = omega arith in
    rw (d, m)

by_none : (a p : ℕ) → children_by p (16 * a + 0) ≡ a
unfolding children_by counted lookup
by_none a p =
    let d : (16 * a + 0) / 16 ≡ a = omega arith in
    let m : (16 * a + 0) % 16 ≡ 0 = omega arith in
    rw (d, m) (omega arith)

module _ (k p : ℕ) (h : k < 64) where
  pub apart_children : bit_of apart k ≡ 1 → (k ≡ 25 → ⊥) → (k ≡ 26 → ⊥) → (k ≡ 30 → ⊥) → (k ≡ 31 → ⊥) → children_by p (shape_of k) ≡ 2
  unfolding children_by counted lookup shape_apart every both bit_of apart shape_of shapes
  apart_children e a b c d =
      let t = no _ _ (ne_eqb k 31 d) (no _ _ (ne_eqb k 30 c) (no _ _ (ne_eqb k 26 b) (no _ _ (ne_eqb k 25 a) (yes _ _ (eq-eqb (bit_of apart k) 1 e) (below_all shape_apart 64 tt k h))))) in
      ap (children_by p) (eqb→eq (shape_of k) 32 t)

  module _ (e : bit_of apart k ≡ 0) where
    kept : shape_of k ≡ 16 * bit_of one k + bit_of many k
    unfolding shape_bits every both bit_of apart one many shape_of shapes lookup
    kept = eqb→eq (shape_of k) (16 * bit_of one k + bit_of many k) (yes _ _ (eq-eqb (bit_of apart k) 0 e) (below_all shape_bits 64 tt k h))

    pub many_children : (bit_of many k ≡ 0 → ⊥) → bit_of one k + p ≡ children k p
    many_children n =
        let m : bit_of many k ≡ 1 = bit_one many k n in
        sym (sym (shape_children k p) ∙ ap (children_by p) (kept ∙ ap (λ (b : ℕ). 16 * bit_of one k + b) m) ∙ by_one (bit_of one k) p)

    pub few_children : bit_of many k ≡ 0 → bit_of one k ≡ children k p
    few_children n = sym (sym (shape_children k p) ∙ ap (children_by p) (kept ∙ ap (λ (b : ℕ). 16 * bit_of one k + b) n) ∙ by_none (bit_of one k) p)
