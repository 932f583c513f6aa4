-- What each number says of one word: the faults of a word of kind k with the payload p at the place q, s being the number of symbols. Assumes nothing.
use Rattle.std.specs.Prelude.{◌≡◌, Bool, true, false, cond, not, ◌↔◌, ℕ, ◌<◌, ◌≤◌, eqb, ltb, leb}
use Rattle.std.proofs.Math.Path.{refl}
use Rattle.std.proofs.Common.{◌∙◌, arith}
use borrow.Author.Tests.{eqb-true, eqb-false, eq-eqb, ne_eqb, ltb-true, ltb-false, lt-ltb, le-ltb, leb-true, leb-false, le-leb, lt-leb, not-true, not-false}
use Rattle.words.specs.Table.{lookup}
use Rattle.grammar.specs.Limits.{max_depth, max_symbols}
use Rattle.grammar.specs.Grammar.{Decorators, allowed, is_symbol}
use Rattle.grammar.specs.Scan.{Place, unknown_symbol, too_many_symbols, decorated_constructor, fault_of}
use Rattle.grammar.proofs.Rows.{allowed_row, sole_kind, kind_sole}

-- ---- the conditions

-- 0: it may stand there, within all limits
pub record Faultless (s : ℕ) (q : Place) (k p : ℕ) : Type 0 where
  pub grammar : allowed q.slot k p ≡ true
  pub depth : q.depth ≤ max_depth
  pub known : is_symbol k ≡ true → p < s
  pub count : k ≡ 40 → p ≤ max_symbols
  pub bare : q.slot.category ≡ Decorators → q.slot.context ≡ 1 → p ≡ 0

-- 2: it may not stand there
unfoldable pub NotAllowed : Place → ℕ → ℕ → Type 0
NotAllowed q k p = allowed q.slot k p ≡ false

-- 3: it may stand there, but too deep
pub record TooDeep (q : Place) (k p : ℕ) : Type 0 where
  pub grammar : allowed q.slot k p ≡ true
  pub deep : max_depth < q.depth

-- 4: its payload is a symbol of s or more
pub record UnknownSymbol (s : ℕ) (q : Place) (k p : ℕ) : Type 0 where
  pub grammar : allowed q.slot k p ≡ true
  pub depth : q.depth ≤ max_depth
  pub symbol : is_symbol k ≡ true
  pub beyond : s ≤ p

-- 5: it is a 40 with too many symbols
pub record TooManySymbols (q : Place) (k p : ℕ) : Type 0 where
  pub grammar : allowed q.slot k p ≡ true
  pub depth : q.depth ≤ max_depth
  pub symbols : k ≡ 40
  pub over : max_symbols < p

-- 6: it is a constructor's own 28 and not empty
pub record DecoratedConstructor (q : Place) (k p : ℕ) : Type 0 where
  pub grammar : allowed q.slot k p ≡ true
  pub depth : q.depth ≤ max_depth
  pub decorators : q.slot.category ≡ Decorators
  pub constructor : q.slot.context ≡ 1
  pub some : p ≡ 0 → ⊥

-- ---- five tests, one behind the other

unfoldable five : Bool → Bool → Bool → Bool → Bool → ℕ
five a b c d f = cond a (cond b 3 (cond c 4 (cond d 5 (cond f 6 0)))) 2

-- what an answer says of the tests
record Told (a b c d f : Bool) (n : ℕ) : Type 0 where
  zero : n ≡ 0 → (a ≡ true) × (b ≡ false) × (c ≡ false) × (d ≡ false) × (f ≡ false)
  two : n ≡ 2 → a ≡ false
  three : n ≡ 3 → (a ≡ true) × (b ≡ true)
  four : n ≡ 4 → (a ≡ true) × (b ≡ false) × (c ≡ true)
  five : n ≡ 5 → (a ≡ true) × (b ≡ false) × (d ≡ true)
  six : n ≡ 6 → (a ≡ true) × (b ≡ false) × (f ≡ true)
  not_one : n ≡ 1 → ⊥
  at_most : n ≤ 6

told : (a b c d f : Bool) → Told a b c d f (five a b c d f)
unfolding five
told false b c d f = record { zero = λ e. absurd (omega arith); two = λ e. refl; three = λ e. absurd (omega arith); four = λ e. absurd (omega arith); five = λ e. absurd (omega arith); six = λ e. absurd (omega arith); not_one = λ e. omega arith; at_most = omega arith }
told true true c d f = record { zero = λ e. absurd (omega arith); two = λ e. absurd (omega arith); three = λ e. (refl, refl); four = λ e. absurd (omega arith); five = λ e. absurd (omega arith); six = λ e. absurd (omega arith); not_one = λ e. omega arith; at_most = omega arith }
told true false true d f = record { zero = λ e. absurd (omega arith); two = λ e. absurd (omega arith); three = λ e. absurd (omega arith); four = λ e. (refl, refl, refl); five = λ e. absurd (omega arith); six = λ e. absurd (omega arith); not_one = λ e. omega arith; at_most = omega arith }
told true false false true f = record { zero = λ e. absurd (omega arith); two = λ e. absurd (omega arith); three = λ e. absurd (omega arith); four = λ e. absurd (omega arith); five = λ e. (refl, refl, refl); six = λ e. absurd (omega arith); not_one = λ e. omega arith; at_most = omega arith }
told true false false false true = record { zero = λ e. absurd (omega arith); two = λ e. absurd (omega arith); three = λ e. absurd (omega arith); four = λ e. absurd (omega arith); five = λ e. absurd (omega arith); six = λ e. (refl, refl, refl); not_one = λ e. omega arith; at_most = omega arith }
told true false false false false = record { zero = λ e. (refl, refl, refl, refl, refl); two = λ e. absurd (omega arith); three = λ e. absurd (omega arith); four = λ e. absurd (omega arith); five = λ e. absurd (omega arith); six = λ e. absurd (omega arith); not_one = λ e. omega arith; at_most = omega arith }

both : (x y : Bool) → cond x y false ≡ true → (x ≡ true) × (y ≡ true)
both true y e = (refl, e)
both false y e = let z : ◌≡◌ {A = ℕ} 0 1 = cc in absurd (omega arith)

-- a test that fails where its condition can't hold
not_both : (x y : Bool) → (x ≡ true → y ≡ false) → cond x y false ≡ false
not_both true y h = h refl
not_both false y h = refl

module _ (s : ℕ) (q : Place) (k p : ℕ) where
  tests : fault_of s q k p ≡ five (allowed q.slot k p) (ltb max_depth q.depth) (unknown_symbol s k p) (too_many_symbols k p) (decorated_constructor q p)
  unfolding fault_of five
  tests = refl

  tells : Told (allowed q.slot k p) (ltb max_depth q.depth) (unknown_symbol s k p) (too_many_symbols k p) (decorated_constructor q p) (fault_of s q k p)
  tells = rw tests (told (allowed q.slot k p) (ltb max_depth q.depth) (unknown_symbol s k p) (too_many_symbols k p) (decorated_constructor q p))

  pub fault_not_one : fault_of s q k p ≡ 1 → ⊥
  fault_not_one e = tells.not_one e

  pub fault_le : fault_of s q k p ≤ 6
  fault_le = tells.at_most

  -- ---- the answer 0

  free_symbol : unknown_symbol s k p ≡ false → is_symbol k ≡ true → p < s
  unfolding unknown_symbol
  free_symbol e h = leb-false s p (rw h at e)

  free_count : too_many_symbols k p ≡ false → k ≡ 40 → p ≤ max_symbols
  unfolding too_many_symbols
  free_count e h = ltb-false max_symbols p (rw (eq-eqb k 40 h) at e)

  free_bare : decorated_constructor q p ≡ false → q.slot.category ≡ Decorators → q.slot.context ≡ 1 → p ≡ 0
  unfolding decorated_constructor
  free_bare e h g = eqb-true p 0 (not-false (eqb p 0) (rw (eq-eqb q.slot.category 7 h, eq-eqb q.slot.context 1 g) at e))

  known_symbol : (is_symbol k ≡ true → p < s) → unknown_symbol s k p ≡ false
  unfolding unknown_symbol
  known_symbol h = not_both (is_symbol k) (leb s p) (λ e. lt-leb s p (h e))

  small_count : (k ≡ 40 → p ≤ max_symbols) → too_many_symbols k p ≡ false
  unfolding too_many_symbols
  small_count h = not_both (eqb k 40) (ltb max_symbols p) (λ e. le-ltb max_symbols p (h (eqb-true k 40 e)))

  bare_constructor : (q.slot.category ≡ Decorators → q.slot.context ≡ 1 → p ≡ 0) → decorated_constructor q p ≡ false
  unfolding decorated_constructor
  bare_constructor h =
      not_both (eqb q.slot.category 7) (cond (eqb q.slot.context 1) (not (eqb p 0)) false) (λ e.
      not_both (eqb q.slot.context 1) (not (eqb p 0)) (λ f. rw (eq-eqb p 0 (h (eqb-true q.slot.category 7 e) (eqb-true q.slot.context 1 f)))))

  pub fault_0 : (fault_of s q k p ≡ 0) ↔ Faultless s q k p
  unfolding five
  fault_0 = (
    λ e. let r = tells.zero e in record { grammar = r.0; depth = ltb-false max_depth q.depth r.1; known = free_symbol r.2; count = free_count r.3; bare = free_bare r.4 },
    λ r. tests ∙ rw (r.grammar, le-ltb max_depth q.depth r.depth, known_symbol r.known, small_count r.count, bare_constructor r.bare),
  )

  -- ---- the others

  pub fault_2 : (fault_of s q k p ≡ 2) ↔ NotAllowed q k p
  unfolding five NotAllowed
  fault_2 = (λ e. tells.two e, λ a. tests ∙ rw a)

  pub fault_3 : (fault_of s q k p ≡ 3) ↔ TooDeep q k p
  unfolding five
  fault_3 = (
    λ e. let r = tells.three e in record { grammar = r.0; deep = ltb-true max_depth q.depth r.1 },
    λ r. tests ∙ rw (r.grammar, lt-ltb max_depth q.depth r.deep),
  )

  pub fault_4 : (fault_of s q k p ≡ 4) ↔ UnknownSymbol s q k p
  unfolding five unknown_symbol
  fault_4 = (
    λ e. let r = tells.four e in
        let u = both (is_symbol k) (leb s p) r.2 in
        record { grammar = r.0; depth = ltb-false max_depth q.depth r.1; symbol = u.0; beyond = leb-true s p u.1 },
    λ r. tests ∙ rw (r.grammar, le-ltb max_depth q.depth r.depth, r.symbol, le-leb s p r.beyond),
  )

  no_symbol : (n : ℕ) → k ≡ n → is_symbol n ≡ false → unknown_symbol s k p ≡ false
  unfolding unknown_symbol
  no_symbol n e z = rw (e, z)

  pub fault_5 : (fault_of s q k p ≡ 5) ↔ TooManySymbols q k p
  unfolding five too_many_symbols is_symbol lookup
  fault_5 = (
    λ e. let r = tells.five e in
        let u = both (eqb k 40) (ltb max_symbols p) r.2 in
        record { grammar = r.0; depth = ltb-false max_depth q.depth r.1; symbols = eqb-true k 40 u.0; over = ltb-true max_symbols p u.1 },
    λ r. tests ∙ rw (r.grammar, le-ltb max_depth q.depth r.depth, no_symbol 40 r.symbols refl, eq-eqb k 40 r.symbols, lt-ltb max_symbols p r.over),
  )

  only_decorators : allowed q.slot k p ≡ true → q.slot.category ≡ Decorators → k ≡ 28
  unfolding sole_kind lookup
  only_decorators a e = kind_sole k 7 ((allowed_row q.slot k p a).0 ∙ e) tt

  pub fault_6 : (fault_of s q k p ≡ 6) ↔ DecoratedConstructor q k p
  unfolding five too_many_symbols decorated_constructor is_symbol lookup
  fault_6 = (
    λ e. let r = tells.six e in
        let u = both (eqb q.slot.category 7) (cond (eqb q.slot.context 1) (not (eqb p 0)) false) r.2 in
        let v = both (eqb q.slot.context 1) (not (eqb p 0)) u.1 in
        record { grammar = r.0; depth = ltb-false max_depth q.depth r.1; decorators = eqb-true q.slot.category 7 u.0; constructor = eqb-true q.slot.context 1 v.0; some = eqb-false p 0 (not-true (eqb p 0) v.1) },
    λ r. let e : k ≡ 28 = only_decorators r.grammar r.decorators in
        tests ∙ rw (r.grammar, le-ltb max_depth q.depth r.depth, no_symbol 28 e refl, ne_eqb k 40 (λ f. omega arith), eq-eqb q.slot.category 7 r.decorators, eq-eqb q.slot.context 1 r.constructor, ne_eqb p 0 r.some),
  )
