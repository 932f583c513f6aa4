-- Demand 3 of a class that has an alias and of a nameless one, and wrong rewritings of them that the statement rules out. Assumes nothing.
use Rattle.std.specs.Prelude.{◌≡◌, refl, false, cond, List, [], ◌∷◌, ℕ, ◌≤◌}
use Rattle.std.proofs.Common.{ap, sym, ◌∙◌, subst, arith}
use Rattle.std.specs.declared.option.Option.{Option}
use Rattle.std.specs.declared.option.Option.TheVariants.{None as none, Some as some}
use Rattle.records.specs.Forest.{end, node, drop_f, append_f, append_f_end}
use Rattle.records.specs.Label.{Label, read, Trees, ◌∶◌, is, words}
use Rattle.rewriting.specs.Parts.{tree}
use Rattle.rewriting.specs.Visit.{Default, Alias, export, prefix, member_call, assignment, module_of, visit_words}
use Rattle.rewriting.specs.Answer.{turned_back, module_words}
use Rattle.rewriting.specs.Demand.{Names, Has, first, count_at, taken, AsVisited, Listed, Behind, Demand}
use Rattle.rewriting.specs.DemandWords.{DemandWords}
use Rattle.rewriting.proofs.DemandAccepted.{demand_words}
use Rattle.rewriting.proofs.DemandExample.{module_listed, computed, at, leaf, first_kids, first_payload_of}

-- `@C class C { constructor(@x p); constructor(@y q) {} @C m() { C } }`, with C, x, y as 0 to 2
unfoldable example : List ℕ
example = words (
    1 ∶ 1 ∷ 40 ∶ 3 ∷ 4 ∶ 0 ∷ 26 ∶ 1 ∷ 28 ∶ 1 ∷ 9 ∶ 0 ∷ 27 ∶ 0 ∷ 29 ∶ 3 ∷ 30 ∶ 2 ∷ 28 ∶ 0 ∷ 34 ∶ 7 ∷ 36 ∶ 1 ∷ 37 ∶ 0 ∷ 28 ∶ 1 ∷ 9 ∶ 1 ∷
    30 ∶ 6 ∷ 28 ∶ 0 ∷ 34 ∶ 7 ∷ 36 ∶ 1 ∷ 37 ∶ 0 ∷ 28 ∶ 1 ∷ 9 ∶ 2 ∷ 39 ∶ 0 ∷ 30 ∶ 4 ∷ 28 ∶ 1 ∷ 9 ∶ 0 ∷ 34 ∶ 5 ∷ 36 ∶ 0 ∷ 39 ∶ 1 ∷ 2 ∶ 0 ∷ 9 ∶ 0 ∷ [])

-- the constructors with these decorators of their parameters; m with these decorators, and C or its alias in its code
abbrev first_with : ℕ → Trees → Trees → Trees
first_with n ds r = node (at 8 30 2) (node (at 9 28 0) end (node (at 10 34 7) end (node (at 11 36 1) (node (at 12 37 0) (node (at 13 28 n) ds end) end) end))) r

abbrev later_kids : ℕ → Trees → Trees
later_kids n ds = node (at 16 28 0) end (node (at 17 34 7) end (node (at 18 36 1) (node (at 19 37 0) (node (at 20 28 n) ds end) end) (leaf (at 22 39 0))))

abbrev m_with : ℕ → Trees → ℕ → Trees
m_with n ds c = node (at 23 30 4) (node (at 24 28 n) ds (node (at 26 34 5) end (node (at 27 36 0) end (node (at 28 39 1) (node (at 29 2 0) (leaf (at 30 9 c)) end) end)))) end

abbrev class_C : Trees
class_C =
    node (at 4 28 1) (leaf (at 5 9 0)) (node (at 6 27 0) end (node (at 7 29 3)
    (first_with 1 (leaf (at 14 9 1)) (node (at 15 30 6) (later_kids 1 (leaf (at 21 9 2))) (m_with 1 (leaf (at 25 9 0)) 0))) end))

abbrev statements : Trees
statements = node (at 2 4 0) (node (at 3 26 1) class_C end) end

abbrev read_module : Trees
read_module = node (at 0 1 1) (node (at 1 40 3) end statements) end

built : module_of example ≡ read_module
unfolding example computed
built = refl

accepted : turned_back example ≡ 0
unfolding example computed
accepted = refl

holds : DemandWords example (module_words example)
holds = demand_words example accepted

-- what it becomes, with these children of the later constructor, the payloads c and d of m's and the class's decorator in their arrays
abbrev became : Trees → ℕ → ℕ → Trees
became later c d =
    node (at 0 1 3) (node (at 1 40 5) end (node (at 2 5 0) (tree (18 ∶ 4) (tree (20 ∶ 0) (node (at 3 26 1) (node (at 4 28 0) end (node (at 6 27 3) end (node (at 7 29 3)
    (first_with 0 end (node (at 15 30 6) later (m_with 0 end 4))) end))) end)))
    (append_f (member_call (leaf (at 25 9 c)) (prefix 0 false) (leaf (10 ∶ 5)) (13 ∶ 0)) (assignment 0 (some 4) (node (at 5 9 d) end (tree (23 ∶ 0) (leaf (at 14 9 1)))))))) end

right : (visit_words 3 example).here ≡ became (later_kids 1 (leaf (at 21 9 2))) 0 0
unfolding example computed
right = refl

-- ---- by the statement alone: what became of the class

record Part (rs : List Label) (os : Trees) : Type 0 where
  o : Label
  ok : Trees
  put : Trees
  whole : os ≡ node o ok put
  C : Behind rs (at 2 4 0) class_C o ok put

part : (rs : List Label) (os : Trees) → Listed rs statements os → Part rs os
unfolding computed
part rs os h = record { o = h.0; ok = h.1; put = h.2; whole = h.4 ∙ ap (node h.0 h.1) (ap (append_f h.2) h.7 ∙ append_f_end h.2); C = h.6.1 }

is_part_lem : (out : Trees) (rs : List Label) → Demand read_module out rs → (m : Label) (j : Trees) → Has m j out → m.from ≡ read 0 → count_at 0 out ≤ 1 → Part rs (drop_f 1 j)
unfolding computed
is_part_lem out rs d m j there from once = part rs (drop_f 1 j) (module_listed (at 0 1 1) (at 1 40 3) end statements out rs d refl refl refl refl m j there from once)

-- the payload of the first entry of an array, down the first children
unfoldable first_in : Trees → ℕ
first_in end = 0
first_in (node l k r) = cond (is 16 l) (first_payload_of k) (first_in k)

assigned_first : (c : ℕ) (alias : Option ℕ) (es more : Trees) → first_in (append_f (assignment c alias es) more) ≡ first_payload_of es
unfolding computed first_in
assigned_first c none es more = refl
assigned_first c (some b) es more = refl

one_entry : (l : Label) (es more : Trees) → AsVisited (leaf l) es → first_payload_of (append_f es more) ≡ l.payload
unfolding append_f first_payload_of
one_entry l end more h = absurd h
one_entry l (node m j end) more h = ap (λ (x : Label). x.payload) h.0
one_entry l (node m j (node x y z)) more h = absurd h.2

-- the decorators of m and of the class are as read
module _ (rs : List Label) (o : Label) (ok put : Trees) (b : Behind rs (at 2 4 0) class_C o ok put) where
  must_m : first_in put ≡ 0
  unfolding computed first_in
  must_m =
      let x = b.called in
      let y = x.4 in
      let z = y.4 in
      rw (b.whole, x.2, x.3, y.2, y.3, z.2, z.3.2) (ap first_payload_of (sym (append_f_end z.3.0)) ∙ one_entry (at 25 9 0) z.3.0 end z.3.3)

  must_C : first_in (drop_f 1 put) ≡ 0
  unfolding computed first_in
  must_C =
      let x = b.called in
      let y = x.4 in
      let z = y.4 in
      let a = b.assign in
      rw (b.whole, x.2, x.3, y.2, y.3, z.2, z.3.2, z.4, a.2)
      (assigned_first b.symbol (taken Alias (read 2) rs) _ (cond (is 5 o) (export 0 b.symbol) end) ∙ one_entry (at 5 9 0) a.0 _ a.3)

-- ---- wrong rewritings

-- rule 6 reaches the decorator of a member
alias_in_member : (rs : List Label) → Demand read_module (became (later_kids 1 (leaf (at 21 9 2))) 4 0) rs → ⊥
unfolding computed first_in first_payload_of
alias_in_member rs d =
    let h = is_part_lem (became (later_kids 1 (leaf (at 21 9 2))) 4 0) rs d _ _ first refl (omega arith) in
    let e : ◌≡◌ {A = ℕ} 4 0 = ap (λ f. first_in (drop_f 1 f)) h.whole ∙ must_m rs h.o h.ok h.put h.C in
    omega (arith, e)

-- rule 6 reaches the decorator of the class
alias_in_class : (rs : List Label) → Demand read_module (became (later_kids 1 (leaf (at 21 9 2))) 0 4) rs → ⊥
unfolding computed first_in first_payload_of
alias_in_class rs d =
    let h = is_part_lem (became (later_kids 1 (leaf (at 21 9 2))) 0 4) rs d _ _ first refl (omega arith) in
    let e : ◌≡◌ {A = ℕ} 4 0 = ap (λ f. first_in (drop_f 2 f)) h.whole ∙ must_C rs h.o h.ok h.put h.C in
    omega (arith, e)

-- the later constructor loses its parameter's decorator
later_stripped : (rs : List Label) → Demand read_module (became (later_kids 0 end) 0 0) rs → ⊥
unfolding computed
later_stripped rs d = let e : ◌≡◌ {A = ℕ} 0 1 = d.once 21 in omega (arith, e)

-- `(class { constructor(@x p); })`, x as 0: the constructor of a class expression loses its parameter's decorator
abbrev expression_with : ℕ → Trees → Trees
expression_with n ds =
    node (at 0 1 1) (node (at 1 40 1) end (node (at 2 2 0) (node (at 3 20 0) (node (at 4 26 0) (node (at 5 28 0) end (node (at 6 29 1)
    (node (at 7 30 2) (node (at 8 28 0) end (node (at 9 34 7) end (node (at 10 36 1) (node (at 11 37 0) (node (at 12 28 n) ds end) end) end))) end) end)) end) end) end)) end

expression_stripped : (rs : List Label) → Demand (expression_with 1 (leaf (at 13 9 0))) (expression_with 0 end) rs → ⊥
unfolding computed
expression_stripped rs d = let e : ◌≡◌ {A = ℕ} 0 1 = d.once 13 in omega (arith, e)

-- ---- a nameless class: `export default class { @a m(); }`, a as 0

unfoldable nameless : List ℕ
nameless = words (1 ∶ 1 ∷ 40 ∶ 1 ∷ 4 ∶ 2 ∷ 26 ∶ 0 ∷ 28 ∶ 0 ∷ 29 ∶ 1 ∷ 30 ∶ 0 ∷ 28 ∶ 1 ∷ 9 ∶ 0 ∷ 34 ∶ 5 ∷ 36 ∶ 0 ∷ [])

abbrev body_with : ℕ → Trees → Trees
body_with n ds = node (at 5 29 1) (node (at 6 30 0) (node (at 7 28 n) ds (node (at 9 34 5) end (leaf (at 10 36 0)))) end) end

abbrev nameless_kids : Trees
nameless_kids = node (at 4 28 0) end (body_with 1 (leaf (at 8 9 0)))

abbrev nameless_statement : Trees
nameless_statement = node (at 2 4 2) (node (at 3 26 0) nameless_kids end) end

abbrev nameless_module : Trees
nameless_module = node (at 0 1 1) (node (at 1 40 1) end nameless_statement) end

-- what it becomes, the call being for the symbol c
abbrev nameless_became : ℕ → Trees
nameless_became c =
    node (at 0 1 2) (node (at 1 40 2) end (node (at 2 4 2) (node (at 3 26 1) (node (at 4 28 0) end (node (27 ∶ 1) end (body_with 0 end))) end)
    (member_call (leaf (at 8 9 0)) (prefix c false) (leaf (10 ∶ 5)) (13 ∶ 0)))) end

nameless_right : (module_of nameless ≡ nameless_module) × ((visit_words 1 nameless).here ≡ nameless_became 1)
unfolding nameless computed
nameless_right = (refl, refl)

-- the symbol that a call is for
prefix_in : Trees → ℕ
prefix_in f = first_payload_of (first_kids (drop_f 1 (first_kids (first_kids f))))

must_default : (rs : List Label) (o : Label) (ok put : Trees) → Behind rs (at 2 4 2) nameless_kids o ok put → taken Default (read 2) rs ≡ some 1 → prefix_in put ≡ 1
unfolding computed prefix_in first_kids first_payload_of
must_default rs o ok put b e =
    let x = b.called in
    let symbol : b.symbol ≡ 1 = subst (λ (y : Option ℕ). Names none y b.symbol put) e b.named in
    rw (b.whole, x.2, x.3.2, symbol)

default_other : Demand nameless_module (nameless_became 2) (visit_words 1 nameless).fresh → ⊥
unfolding nameless computed prefix_in first_kids first_payload_of
default_other d =
    let rs : List Label = (visit_words 1 nameless).fresh in
    let h : Listed rs nameless_statement _ = module_listed (at 0 1 1) (at 1 40 1) end nameless_statement (nameless_became 2) rs d refl refl refl refl _ _ first refl (omega arith) in
    let e : ◌≡◌ {A = ℕ} 2 1 = ap (λ f. prefix_in (drop_f 1 f)) (h.4 ∙ ap (node h.0 h.1) (ap (append_f h.2) h.7 ∙ append_f_end h.2)) ∙ must_default rs h.0 h.1 h.2 h.6.1 refl in
    omega (arith, e)
