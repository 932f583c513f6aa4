-- What demand 3 needs of a module follows from validation: in a tree that obeys the grammar every record has the children that its kind asks for.
-- So demand 3 holds of every module that isn't turned back. Assumes nothing.
use Rattle.std.specs.Prelude.{◌≡◌, Bool, cond, not, ◌&&◌, ◌||◌, List, [], ◌∷◌, ◌++◌, replicate, ltb, leb}
use Rattle.std.proofs.Math.Path.{refl, ap}
use Rattle.std.proofs.Common.{sym, subst, ◌∙◌, arith, eqb-true, eq-eqb}
use Rattle.std.proofs.Math.Bool.{true, false}
use Prim.Native.Nat.{ℕ, zero, suc}
use Rattle.std.proofs.Math.Dec.{T, eqb}
use Rattle.words.specs.Table.{lookup}
use Rattle.words.specs.Word.{word_of, bit0, bit1, bit2}
use Rattle.records.specs.Forest.{end, node, flat}
use Rattle.records.specs.Prefix.{flat_build}
use Rattle.records.specs.Label.{Label, Trees, is, bit, word_at, words, read_from, arity, words_append, words_read}
use Rattle.grammar.specs.Grammar.{Slot, slot, Row, row, no_row, leaf, expressions, one_expression, statements, table, row_of, allowed, slots_below, module', symbols, own_statement, expression, key, id, body, element, method_parameters, parameter_of, code}
use Rattle.grammar.specs.Scan.{symbols_of}
use Rattle.grammar.specs.WellFormed.{tree_of, Allowed, Fits}
use Rattle.grammar.proofs.Rows.{each, each_row, implied, allowed_row, sole_kind}
use Rattle.grammar.proofs.Children.{allowed_sole, fits_kind, Bare, constructor_bare}
use Rattle.rewriting.specs.Parts.{is_empty, any_record, decorators, is_refused7}
use Rattle.rewriting.specs.Visit.{module_of, visit_words}
use Rattle.rewriting.specs.Answer.{turned_back, module_words}
use Rattle.rewriting.proofs.Roles.{never, by_number}
use Rattle.rewriting.proofs.Fitting.{EachSlot, slots_append, slots_replicate, pass_runs, pass_row, pass_row_lem, behind, module_fits}
use Rattle.rewriting.proofs.ClosedSlots.{◌⨾◌, tabled}
use Rattle.rewriting.proofs.Room.{not_turned_back}
use Rattle.rewriting.proofs.ReadAgain.{again}
use Rattle.rewriting.specs.Demand.{Demand}
use Rattle.rewriting.specs.DemandWords.{Same, DemandWords}
use Rattle.rewriting.specs.DemandGrammar.{is_expression, is_key, is_element, is_outside, all, begins, ends_in_body, of_method, of_field, child_rows, fits, is_misplaced, Accepted}
use Rattle.rewriting.proofs.DemandShapes.{is_other, is_kind, not_kind, key_cases}
use Rattle.rewriting.proofs.DemandHolds.{demand_3}

-- ---- the kinds in a slot

-- every record that may stand in the slot passes the test
abbrev Only : (Label → Bool) → Slot → Type 0
Only p q = (l : Label) → Allowed q l → p l ≡ true

passed : (b : Bool) → T b → b ≡ true
passed true t = refl
passed false t = absurd t

-- the kinds of some categories pass a test, if those of every row do
module _ (some : ℕ → Bool) (test : ℕ → Bool) where
  unfoldable pass_kind : ℕ → Row → Bool
  pass_kind k r = cond (some r.category) (test k) true

  kind_passes : T (each pass_kind table) → some 0 ≡ false → (q : Slot) → some q.category ≡ true → (l : Label) → Allowed q l → test l.kind ≡ true
  unfolding pass_kind no_row row
  kind_passes t none q e l a =
      let row' : T (pass_kind l.kind (row_of l.kind)) = each_row pass_kind t l.kind (subst (λ (b : Bool). T (cond b (test l.kind) true)) (sym none) tt) in
      passed (test l.kind) (implied (some (row_of l.kind).category) (test l.kind) row' (ap some (allowed_row q l.kind l.payload a.grammar).0 ∙ e))

-- no class, body or element
unfoldable is_outer : ℕ → Bool
is_outer c = lookup c ((0, false) ∷ (5, false) ∷ (8, false) ∷ (9, false) ∷ []) true

outer_only : (q : Slot) → is_outer q.category ≡ true → Only is_outside q
unfolding is_outside is
outer_only q e =
    kind_passes is_outer (λ k. not (eqb k 26 || eqb k 29 || eqb k 30 || eqb k 31 || eqb k 32)) (unfold pass_kind each table row is_outer lookup in tt) (unfold is_outer lookup in refl) q e

element_only : Only is_element element
unfolding is_element is
element_only = kind_passes (λ c. eqb c 9) (λ k. eqb k 30 || eqb k 31 || eqb k 32 || eqb k 33) (unfold pass_kind each table row in tt) refl element refl

key_only : (x : ℕ) → Only is_key (slot 4 x)
unfolding is_key is_expression is
key_only x = kind_passes (λ c. eqb c 4) (λ k. leb 8 k && leb k 25 || eqb k 34 || eqb k 35) (unfold pass_kind each table row in tt) refl (slot 4 x) refl

-- 34 and 35 stand only as a key
expression_only : Only is_expression expression
expression_only l a =
    key_cases l (is_expression l ≡ true) (λ e. e) (λ e. absurd (no 34 (unfold tabled in refl) e)) (λ e. absurd (no 35 (unfold tabled in refl) e)) (key_only 0 l a)
  where
    no : (n : ℕ) → allowed expression n l.payload ≡ false → is n l ≡ true → ⊥
    no n f e = never (sym f ∙ ap (λ (k : ℕ). allowed expression k l.payload) (sym (is_kind n l e)) ∙ a.grammar)

-- a category that has one kind
sole_only : (q : Slot) (n : ℕ) → T (ltb (sole_kind q.category) 64) → sole_kind q.category ≡ n → Only (is n) q
unfolding is
sole_only q n t e l a = eq-eqb l.kind n (allowed_sole q l a t ∙ e)

-- ---- children by their slots

fits_empty : (f : Trees) → Fits [] f → is_empty f ≡ true
unfolding Fits is_empty
fits_empty end h = refl
fits_empty (node l k r) h = absurd h

fits_all : (p : Label → Bool) (qs : List Slot) → EachSlot (Only p) qs → (f : Trees) → Fits qs f → all p f ≡ true
unfolding EachSlot Fits all
fits_all p [] o end h = refl
fits_all p [] o (node l k r) h = absurd h
fits_all p (q ∷ qs) o end h = absurd h
fits_all p (q ∷ qs) o (node l k r) h = rw (o.0 l h.0, fits_all p qs o.1 r h.2)

-- so many children in one slot
fits_run : (p : Label → Bool) (n : ℕ) (q : Slot) → Only p q → (f : Trees) → Fits (replicate n q ++ []) f → all p f ≡ true
unfolding EachSlot
fits_run p n q o = fits_all p (replicate n q ++ []) (slots_append (Only p) (replicate n q) [] (slots_replicate (Only p) n q o) tt)

fits_begins : (p : Label → Bool) (g : Trees → Bool) (q : Slot) (qs : List Slot) → Only p q → ((f : Trees) → Fits qs f → g f ≡ true) →
    (f : Trees) → Fits (q ∷ qs) f → begins p g f ≡ true
unfolding Fits begins
fits_begins p g q qs o e end h = absurd h
fits_begins p g q qs o e (node l k r) h = rw (o l h.0, e r h.2)

-- a class behind its 28
fits_body : (a b : ℕ) (f : Trees) → Fits (behind a b) f → ends_in_body f ≡ true
unfolding behind Fits ends_in_body is_expression sole_kind lookup
fits_body (suc a) b end h = absurd h
fits_body (suc a) b (node l k r) h = let e : is 27 l ≡ true = sole_only id 27 tt refl l h.0 in rw (is_other 27 29 l refl e, e, fits_body a b r h.2)
fits_body zero (suc b) end h = absurd h
fits_body zero (suc b) (node l k r) h =
    let e : is_expression l ≡ true = expression_only l h.0 in
    let no : (n : ℕ) → (leb 8 n && leb n 25) ≡ false → is n l ≡ false = λ n. not_kind (λ m. leb 8 m && leb m 25) n l e in
    rw (no 29 refl, no 27 refl, e, fits_body zero b r h.2)
fits_body zero zero end h = absurd h
fits_body zero zero (node l k r) h = rw (sole_only body 29 tt refl l h.0) (fits_empty r h.2)

-- an empty 28
bare_empty : (qs : List Slot) (k : Trees) → Fits qs k → Bare k → is_empty (decorators k) ≡ true
unfolding Bare decorators is tabled
bare_empty qs end h b = absurd b
bare_empty [] (node d ds r) h b = unfold Fits in absurd h
bare_empty (q ∷ qs) (node d ds r) h b =
    let f : Fits (slots_below q 28 0) ds = subst (λ (p : ℕ). Fits (slots_below q 28 p) ds) b.1 (fits_kind 28 q qs d ds r b.0 h) in
    rw b.0 (fits_empty ds f)

-- ---- one record

-- neither a class statement nor a class expression, a class or a body
unfoldable is_outer_kind : ℕ → Bool
is_outer_kind k = lookup k ((4, false) ∷ (20, false) ∷ (26, false) ∷ (29, false) ∷ []) true

outer_below : (q : Slot) (k p : ℕ) → is_outer_kind k ≡ true → EachSlot (Only is_outside) (slots_below q k p)
unfolding slots_below
outer_below q k p e =
    pass_row_lem (Only is_outside) (λ s. is_outer s.category) (λ s t. outer_only s (passed (is_outer s.category) t)) q.context p is_outer_kind k
    (unfold each table row pass_row is_outer_kind is_outer lookup pass_runs leaf expressions one_expression statements in tt) e

decorators_only : (x : ℕ) → Only (is 28) (slot 7 x)
unfolding sole_kind lookup
decorators_only x = sole_only (slot 7 x) 28 tt refl

-- one class
fits_class : (x : ℕ) (f : Trees) → Fits (slot 5 x ∷ []) f → begins (is 26) is_empty f ≡ true
unfolding sole_kind lookup
fits_class x = fits_begins (is 26) is_empty (slot 5 x) [] (sole_only (slot 5 x) 26 tt refl) fits_empty

-- 28, key and n values; 28, key, 36 and n codes
fits_field : (n : ℕ) (f : Trees) → Fits (slot 7 0 ∷ key ∷ (replicate n expression ++ [])) f → of_field f ≡ true
unfolding of_field is_outer lookup
fits_field n = fits_begins (is 28) _ (slot 7 0) _ (decorators_only 0) (fits_begins is_key _ key _ (key_only 1) (fits_run is_outside n expression (outer_only expression refl)))

fits_method : (x n : ℕ) (f : Trees) → Fits (slot 7 x ∷ key ∷ method_parameters ∷ (replicate n code ++ [])) f → of_method f ≡ true
unfolding of_method sole_kind is_outer lookup
fits_method x n =
    fits_begins (is 28) _ (slot 7 x) _ (decorators_only x) (fits_begins is_key _ key _ (key_only 1)
    (fits_begins (is 36) _ method_parameters _ (sole_only method_parameters 36 tt refl) (fits_run is_outside n code (outer_only code refl))))

-- a table of tests: that of n passes, or n has none
unfoldable Rows : ℕ → List (ℕ × Bool) → Type 0
Rows n [] = Unit {0}
Rows n (e ∷ es) = (n ≡ e.0 → e.1 ≡ true) × Rows n es

unfoldable Absent : ℕ → List (ℕ × Bool) → Type 0
Absent n [] = Unit {0}
Absent n (e ∷ es) = (eqb n e.0 ≡ false) × Absent n es

lookup_true : (n : ℕ) (es : List (ℕ × Bool)) (d : Bool) → Rows n es → (Absent n es → d ≡ true) → lookup n es d ≡ true
unfolding Rows Absent lookup
lookup_true n [] d h g = g tt
lookup_true n (e ∷ es) d h g = by_number (λ b. b ≡ true) n e.0 e.1 (lookup n es d) h.0 (λ f. lookup_true n es d h.1 (λ a. g (f, a)))

module _ (q : Slot) (qs : List Slot) (l : Label) (k r : Trees) (h : Fits (q ∷ qs) (node l k r)) where
  below : (n : ℕ) → l.kind ≡ n → Fits (slots_below q n l.payload) k
  below n e = fits_kind n q qs l k r e h

  constructor_below : l.kind ≡ 30 → (not (bit bit1 l) || is_empty (decorators k)) ≡ true
  unfolding bit
  constructor_below e = go (eqb (bit1 l.payload) 1) refl
    where
      go : (b : Bool) → eqb (bit1 l.payload) 1 ≡ b → (not b || is_empty (decorators k)) ≡ true
      go true f = bare_empty (slots_below q 30 l.payload) k (below 30 e) (constructor_bare q qs l k r e (eqb-true (bit1 l.payload) 1 f) h)
      go false f = refl

  method_below : l.kind ≡ 30 → (of_method k && (not (bit bit1 l) || is_empty (decorators k))) ≡ true
  unfolding tabled
  method_below e = rw (fits_method (bit1 l.payload) (bit2 l.payload) k (below 30 e), constructor_below e)

  rows : Rows l.kind (child_rows l k)
  unfolding Rows child_rows tabled sole_kind is_outer behind
  rows =
      let x : ℕ = q.context in
      let p : ℕ = l.payload in
      (λ e. fits_begins (is 40) (all is_outside) symbols _ (sole_only symbols 40 tt refl) (fits_run is_outside p own_statement (outer_only own_statement refl)) k (below 1 e)) ⨾
      (λ e. fits_class p k (below 4 e)) ⨾
      (λ e. fits_class 3 k (below 20 e)) ⨾
      (λ e. fits_begins (is 28) ends_in_body (slot 7 0) _ (decorators_only 0) (fits_body (bit0 p) (bit2 p)) k (below 26 e)) ⨾
      (λ e. fits_run is_expression p expression expression_only k (below 28 e)) ⨾
      (λ e. fits_run is_element p element element_only k (below 29 e)) ⨾
      method_below ⨾
      (λ e. fits_field (bit1 p) k (below 31 e)) ⨾
      (λ e. fits_field 0 k (below 32 e)) ⨾
      (λ e. fits_run (is 37) p (parameter_of x) (sole_only (parameter_of x) 37 tt refl) k (below 36 e)) ⨾
      (λ e. fits_begins (is 28) (all is_outside) (slot 7 x) _ (decorators_only x) (fits_run is_outside p expression (outer_only expression refl)) k (below 37 e)) ⨾ tt

  others : Absent l.kind (child_rows l k) → all is_outside k ≡ true
  unfolding Absent child_rows is_outer_kind lookup
  others n =
      let m = n.1 in
      fits_all is_outside _ (outer_below q l.kind l.payload (rw (m.0, m.1.0, m.1.1.0, m.1.1.1.1.0))) k (below l.kind refl)

  placed : fits l k ≡ true
  unfolding fits
  placed = lookup_true l.kind (child_rows l k) (all is_outside k) rows others

-- ---- every record of a tree that obeys the grammar, so of an accepted module

pub none_misplaced : (qs : List Slot) (f : Trees) → Fits qs f → any_record is_misplaced f ≡ false
unfolding Fits any_record is_misplaced
none_misplaced qs end h = refl
none_misplaced [] (node l k r) h = absurd h
none_misplaced (q ∷ qs) (node l k r) h = rw (placed q qs l k r h, none_misplaced (slots_below q l.kind l.payload) k h.1, none_misplaced qs r h.2)

not_7 : (ws : List ℕ) → turned_back ws ≡ 0 → any_record is_refused7 (module_of ws) ≡ false
unfolding turned_back
not_7 ws e = go (any_record is_refused7 (module_of ws)) (rw (not_turned_back ws e) at e)
  where
    go : (b : Bool) → ◌≡◌ {A = ℕ} (cond b 7 0) 0 → b ≡ false
    go true f = absurd (omega (arith, f))
    go false f = refl

pub accepted_of : (ws : List ℕ) → turned_back ws ≡ 0 → Accepted (module_of ws)
accepted_of ws e = record { grammar = none_misplaced (module' ∷ []) (module_of ws) (module_fits ws (not_turned_back ws e)); seven = not_7 ws e }

-- demand 3 holds of every module that isn't turned back
pub demand_of : (ws : List ℕ) → turned_back ws ≡ 0 → Demand (module_of ws) (visit_words (symbols_of ws) ws).here (visit_words (symbols_of ws) ws).fresh
demand_of ws e = demand_3 (symbols_of ws) ws (accepted_of ws e)

-- ---- the words of its rewriting

pub demand_words : (ws : List ℕ) → turned_back ws ≡ 0 → DemandWords ws (module_words ws)
unfolding module_of tree_of
demand_words ws e = record { written = (visit_words (symbols_of ws) ws).here; same = again ws (not_turned_back ws e); demand = demand_of ws e }

same_words : (f g : Trees) → Same f g → words (flat f) ≡ words (flat g)
unfolding Same words flat word_at
same_words end end h = refl
same_words end (node m j s) h = absurd h
same_words (node l k r) end h = absurd h
same_words (node l k r) (node m j s) h =
    let e : words (flat k ++ flat r) ≡ words (flat j ++ flat s) = rw (words_append (flat k) (flat r), words_append (flat j) (flat s), same_words k j h.2, same_words r s h.3) in
    rw (h.0, h.1) (ap (word_of m.kind m.payload ∷◌) e)

-- the records of which the demand speaks are those of the words written
pub words_written : (ws out : List ℕ) (d : DemandWords ws out) → words (flat d.written) ≡ out
unfolding module_of
words_written ws out d = sym (same_words (module_of out) d.written d.same) ∙ rw (flat_build arity (read_from 0 out), words_read 0 out)
