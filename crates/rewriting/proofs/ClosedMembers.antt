-- Rules 2, 3 and 5 keep the grammar: records without their decorators, the calls and the names in them, members. Assumes nothing.
use Rattle.std.specs.Prelude.{◌≡◌, Bool, true, cond, ◌&&◌, ◌||◌, List, [], ◌∷◌, ℕ, suc, eqb}
use Rattle.std.proofs.Math.Path.{refl}
use Rattle.std.proofs.Common.{sym, ap, subst, ◌∙◌, append-nil, arith, eqb-true}
use Rattle.std.proofs.Math.Bool.{false}
use Rattle.std.specs.declared.option.Option.{Option}
use Rattle.words.specs.Table.{lookup}
use Rattle.words.specs.Word.{bit0, bit1}
use Rattle.records.specs.Forest.{end, node, append_f, count_f, take_f, drop_f}
use Rattle.records.specs.Label.{Label, Trees, ◌∶◌, repay, is, bit}
use Rattle.grammar.specs.Grammar.{Slot, slot, expression, row, table, row_of, holds, expressions, allowed, slots, slots_below}
use Rattle.grammar.specs.WellFormed.{Allowed, Fits}
use Rattle.rewriting.specs.Parts.{tree, kids_of, change_kids, decorators, undecorate, parameters_of, indexed, of_parameters, bare_parameters, method, field, decorators_of, bare_method, bare_field, is_decorated_member, is_plain_key, first_is_plain, has_plain_key}
use Rattle.rewriting.specs.Visit.{Result, Taken, Named, class_symbol, called₁, called₂, member_if, member, own, plain_name, name_if, name_of, prefix, array, member_call, with_key}
use Rattle.rewriting.specs.declared.Around.{Around}
use Rattle.rewriting.specs.declared.State.{State}
use Rattle.rewriting.proofs.Roles.{never}
use Rattle.rewriting.proofs.Fitting.{category_of, parameters_are}
use Rattle.rewriting.proofs.Kept.{Like}
use Rattle.rewriting.proofs.ClosedSlots.{EachFits, each_append, each_fits, fits_each, fits_append, one_fits, fits_one, may_stand, key_expression, tabled, made_fits}

-- ---- decorators taken out

emptied : (q : Slot) (l : Label) → l.kind ≡ 28 → Allowed q l → Allowed q (repay l 0)
unfolding repay row_of lookup table row holds
emptied q l e a =
    let c : (row_of 28).category ≡ q.category = category_of q l 28 a e in
    record { grammar = rw e (may_stand q 28 0 c (either (eqb q.context 2))); bare = λ d x. refl }
  where
    either : (b : Bool) → cond b (eqb 0 0) true ≡ true
    either true = refl
    either false = refl

pub undecorate_fits : (qs : List Slot) (f : Trees) → Fits qs f → Fits qs (undecorate f)
unfolding undecorate
undecorate_fits qs end h = h
undecorate_fits [] (node l k r) h = unfold Fits in absurd h
undecorate_fits (q ∷ qs) (node l k r) h = go (is 28 l) refl h
  where
    go : (b : Bool) → is 28 l ≡ b → Fits (q ∷ qs) (node l k r) → Fits (q ∷ qs) (cond b (node (repay l 0) end r) (node l k r))
    go true e h = unfold Fits is repay slots_below slots row_of lookup table row expressions in
        (emptied q l (eqb-true l.kind 28 e) h.0, rw (eqb-true l.kind 28 e) tt, h.2)
    go false e h = h

-- they are expressions
kids_expressions : (q : Slot) (l : Label) (k : Trees) → l.kind ≡ 28 → Fits (slots_below q l.kind l.payload) k → EachFits expression k
unfolding slots_below slots row_of lookup table row expressions
kids_expressions q l k e h =
    let g : Fits (slots ((row_of 28).below q.context l.payload)) k = subst (λ (n : ℕ). Fits (slots ((row_of n).below q.context l.payload)) k) e h in
    fits_each l.payload expression k (rw append-nil at g)

pub decorators_each : (qs : List Slot) (f : Trees) → Fits qs f → EachFits expression (decorators f)
unfolding decorators
decorators_each qs end h = unfold EachFits in tt
decorators_each [] (node l k r) h = unfold Fits in absurd h
decorators_each (q ∷ qs) (node l k r) h = go (is 28 l) refl h
  where
    go : (b : Bool) → is 28 l ≡ b → Fits (q ∷ qs) (node l k r) → EachFits expression (cond b k end)
    go true e h = unfold Fits is in kids_expressions q l k (eqb-true l.kind 28 e) h.1
    go false e h = unfold EachFits in tt

-- ---- parameters

bare_parameters_fits : (qs : List Slot) (f : Trees) → Fits qs f → Fits qs (bare_parameters f)
unfolding Fits bare_parameters
bare_parameters_fits [] end h = tt
bare_parameters_fits [] (node l k r) h = absurd h
bare_parameters_fits (q ∷ qs) end h = absurd h
bare_parameters_fits (q ∷ qs) (node l k r) h = (h.0, undecorate_fits (slots_below q l.kind l.payload) k h.1, bare_parameters_fits qs r h.2)

change_fits : (n : ℕ) (qs : List Slot) (f : Trees) → Fits qs f → Fits qs (change_kids n bare_parameters f)
unfolding Fits change_kids
change_fits n [] end h = tt
change_fits n [] (node l k r) h = absurd h
change_fits n (q ∷ qs) end h = absurd h
change_fits n (q ∷ qs) (node l k r) h = go (is n l) h (change_fits n qs r h.2)
  where
    go : (b : Bool) → Fits (q ∷ qs) (node l k r) → Fits qs (change_kids n bare_parameters r) →
        Fits (q ∷ qs) (cond b (node l (bare_parameters k) r) (node l k (change_kids n bare_parameters r)))
    go true h g = unfold Fits in (h.0, bare_parameters_fits (slots_below q l.kind l.payload) k h.1, h.2)
    go false h g = unfold Fits in (h.0, h.1, g)

pub method_fits : (qs : List Slot) (f : Trees) → Fits qs f → Fits qs (bare_method f)
unfolding bare_method
method_fits qs f h = undecorate_fits qs (change_kids 36 bare_parameters f) (change_fits 36 qs f h)

-- rule 3: each under a 23
under23 : (i : ℕ) (f : Trees) → Fits (expression ∷ []) f → Fits (expression ∷ []) (tree (23 ∶ i) f)
unfolding tabled
under23 i f h = made_fits expression 23 i f refl (λ d. omega arith) h

indexed_each : (i : ℕ) (f : Trees) → EachFits expression f → EachFits expression (indexed i f)
unfolding EachFits indexed append_f tree
indexed_each i end h = tt
indexed_each i (node l k r) h =
    each_append expression (tree (23 ∶ i) (tree l k)) (indexed i r) (fits_one expression (tree (23 ∶ i) (tree l k)) (under23 i (tree l k) (one_fits expression l k h.0 h.1))) (indexed_each i r h.2)

of_parameters_each : (qs : List Slot) (i : ℕ) (f : Trees) → Fits qs f → EachFits expression (of_parameters i f)
unfolding Fits of_parameters
of_parameters_each qs i end h = unfold EachFits in tt
of_parameters_each [] i (node l k r) h = absurd h
of_parameters_each (q ∷ qs) i (node l k r) h =
    each_append expression (indexed i (decorators k)) (of_parameters (suc i) r)
    (indexed_each i (decorators k) (decorators_each (slots_below q l.kind l.payload) k h.1)) (of_parameters_each qs (suc i) r h.2)

pub parameters_each : (qs : List Slot) (f : Trees) → Fits qs f → EachFits expression (of_parameters 0 (parameters_of f))
unfolding parameters_of
parameters_each qs f h = let a = parameters_are f qs h in of_parameters_each a.slots 0 (kids_of 36 f) a.fits

pub entries_each : (qs : List Slot) (f : Trees) → Fits qs f → EachFits expression (decorators_of method f)
unfolding decorators_of
entries_each qs f h = each_append expression (decorators f) (of_parameters 0 (parameters_of f)) (decorators_each qs f h) (parameters_each qs f h)

-- ---- calls

pub array_fits : (entries : Trees) → EachFits expression entries → Fits (expression ∷ []) (array entries)
unfolding array tabled
array_fits entries h = made_fits expression 16 (count_f entries) entries refl (λ d. omega arith) (rw append-nil (each_fits expression entries h))

pub identifier_fits : (c : ℕ) → Fits (expression ∷ []) (tree (9 ∶ c) end)
unfolding tabled Fits
identifier_fits c = made_fits expression 9 c end refl (λ d. omega arith) tt

prefix_fits : (c : ℕ) (b : Bool) → Fits (expression ∷ []) (prefix c b)
unfolding prefix tabled
prefix_fits c true = identifier_fits c
prefix_fits c false = made_fits expression 24 0 (tree (9 ∶ c) end) refl (λ d. omega arith) (identifier_fits c)

-- an expression as a statement of any list
pub statement_fits : (x : ℕ) (f : Trees) → Fits (expression ∷ []) f → EachFits (slot 3 x) (tree (2 ∶ 0) f)
unfolding tabled
statement_fits x f h = fits_one (slot 3 x) (tree (2 ∶ 0) f) (made_fits (slot 3 x) 2 0 f refl (λ d. omega arith) h)

call_fits : (x : ℕ) (entries pre name : Trees) (d : Label) → EachFits expression entries → Fits (expression ∷ []) pre → Fits (expression ∷ []) name →
    Fits (expression ∷ []) (tree d end) → EachFits (slot 3 x) (member_call entries pre name d)
unfolding member_call tabled
call_fits x entries pre name d a b c e =
    let args : Trees = append_f (array entries) (append_f pre (append_f name (tree d end))) in
    let four : Fits (expression ∷ expression ∷ expression ∷ expression ∷ []) args =
    fits_append (expression ∷ []) (expression ∷ expression ∷ expression ∷ []) (array entries) (append_f pre (append_f name (tree d end))) (array_fits entries a)
    (fits_append (expression ∷ []) (expression ∷ expression ∷ []) pre (append_f name (tree d end)) b (fits_append (expression ∷ []) (expression ∷ []) name (tree d end) c e)) in
    statement_fits x (tree (22 ∶ 4) args) (made_fits expression 22 4 args refl (λ d. omega arith) four)

-- ---- names: l and k the key as visited, b whether it gives a name as it stands

descriptor_fits : (k : ℕ) → allowed expression k 0 ≡ true → slots_below expression k 0 ≡ [] → Fits (expression ∷ []) (tree (k ∶ 0) end)
unfolding Fits
descriptor_fits k a e = made_fits expression k 0 end a (λ d. omega arith) (rw e tt)

-- 10, 11, 12 and 13 are copied
copied_fits : (l : Label) (k : ℕ) → l.kind ≡ k → allowed expression k l.payload ≡ allowed (slot 4 1) k l.payload → slots_below expression k l.payload ≡ [] →
    Allowed (slot 4 1) l → Fits (expression ∷ []) (tree (l.kind ∶ l.payload) end)
unfolding Fits
copied_fits l k e same leaf' a =
    made_fits expression l.kind l.payload end
    (ap (λ (n : ℕ). allowed expression n l.payload) e ∙ same ∙ sym (ap (λ (n : ℕ). allowed (slot 4 1) n l.payload) e) ∙ a.grammar) (λ d. omega arith)
    (subst (λ (qs : List Slot). Fits qs end) (sym (ap (λ (n : ℕ). slots_below expression n l.payload) e ∙ leaf')) tt)

string_fits : (p : ℕ) → Fits (expression ∷ []) (tree (10 ∶ p) end)
unfolding tabled Fits
string_fits p = made_fits expression 10 p end refl (λ d. omega arith) tt

name_fits : (l : Label) → is_plain_key l ≡ true → Allowed (slot 4 1) l → Fits (expression ∷ []) (tree (plain_name l) end)
unfolding is_plain_key plain_name is tabled
name_fits l p h = go (eqb l.kind 34) (eqb l.kind 35) (eqb l.kind 10) (eqb l.kind 11) (eqb l.kind 12) (eqb l.kind 13) refl refl refl refl p
  where
    go : (a b c d e f : Bool) → eqb l.kind 10 ≡ c → eqb l.kind 11 ≡ d → eqb l.kind 12 ≡ e → eqb l.kind 13 ≡ f →
        (a || b || c || d || e || f) ≡ true → Fits (expression ∷ []) (tree (cond a (10 ∶ l.payload) (cond b (10 ∶ 0) (l.kind ∶ l.payload))) end)
    go true b c d e f z10 z11 z12 z13 t = string_fits l.payload
    go false true c d e f z10 z11 z12 z13 t = string_fits 0
    go false false true d e f z10 z11 z12 z13 t = copied_fits l 10 (eqb-true l.kind 10 z10) refl refl h
    go false false false true e f z10 z11 z12 z13 t = copied_fits l 11 (eqb-true l.kind 11 z11) refl refl h
    go false false false false true f z10 z11 z12 z13 t = copied_fits l 12 (eqb-true l.kind 12 z12) refl refl h
    go false false false false false true z10 z11 z12 z13 t = copied_fits l 13 (eqb-true l.kind 13 z13) refl refl h
    go false false false false false false z10 z11 z12 z13 t = absurd (never t)

-- a key that gives no name as it stands is no 34 and no 35
not_plain : (a b c d e f : Bool) → (a || b || c || d || e || f) ≡ false → (a ≡ false) × (b ≡ false)
not_plain true b c d e f h = absurd (never (sym h))
not_plain false true c d e f h = absurd (never (sym h))
not_plain false false c d e f h = (refl, refl)

key_fits : (l : Label) (k : Trees) (n : ℕ) → is_plain_key l ≡ false → Allowed (slot 4 1) l → Fits (slots_below (slot 4 1) l.kind l.payload) k →
    Fits (slot 4 1 ∷ []) (tree (18 ∶ n) (tree l k))
unfolding is_plain_key is tabled
key_fits l k n e a h =
    let z = not_plain (eqb l.kind 34) (eqb l.kind 35) (eqb l.kind 10) (eqb l.kind 11) (eqb l.kind 12) (eqb l.kind 13) e in
    made_fits (slot 4 1) 18 n (tree l k) refl (λ d. omega arith) (key_expression l k z.0 z.1 a h)

-- the key as it stays, and the name
record Keyed (qs : List Slot) (bare : Trees) (n : Named) : Type 0 where
  kids : Fits qs (with_key n.key bare)
  name : Fits (expression ∷ []) n.name

keyed_if : (b : Bool) (q : Slot) (qs : List Slot) (d l : Label) (dk k r : Trees) (s : State) → is_plain_key l ≡ b → Fits (q ∷ slot 4 1 ∷ qs) (node d dk (node l k r)) →
    Keyed (q ∷ slot 4 1 ∷ qs) (node d dk (node l k r)) (name_if b l k s)
unfolding Fits name_if with_key take_f drop_f append_f tree
keyed_if true q qs d l dk k r s e h = record { kids = h; name = name_fits l e h.2.0 }
keyed_if false q qs d l dk k r s e h =
    let f = key_fits l k s.next e h.2.0 h.2.1 in
    record { kids = (h.0, h.1, (f.0, f.1, h.2.2)); name = identifier_fits s.next }

keyed : (b : Bool) (q : Slot) (qs : List Slot) (bare : Trees) (s : State) → has_plain_key bare ≡ b → Fits (q ∷ slot 4 1 ∷ qs) bare →
    Keyed (q ∷ slot 4 1 ∷ qs) bare (name_of b (take_f 1 (drop_f 1 bare)) s)
unfolding Fits name_of take_f drop_f has_plain_key first_is_plain
keyed b q qs end s e h = absurd h
keyed b q qs (node d dk end) s e h = absurd h.2
keyed b q qs (node d dk (node l k r)) s e h = keyed_if b q qs d l dk k r s e h

-- ---- the key is of the kind that was read

plain_undecorate : (f : Trees) → has_plain_key (undecorate f) ≡ has_plain_key f
unfolding has_plain_key undecorate drop_f
plain_undecorate end = refl
plain_undecorate (node l k r) = either (is 28 l)
  where
    either : (b : Bool) → first_is_plain (drop_f 1 (cond b (node (repay l 0) end r) (node l k r))) ≡ first_is_plain r
    either true = refl
    either false = refl

first_change : (n : ℕ) (g : Trees → Trees) (f : Trees) → first_is_plain (change_kids n g f) ≡ first_is_plain f
unfolding first_is_plain change_kids
first_change n g end = refl
first_change n g (node l k r) = either (is n l)
  where
    either : (b : Bool) → first_is_plain (cond b (node l (g k) r) (node l k (change_kids n g r))) ≡ is_plain_key l
    either true = refl
    either false = refl

plain_change : (n : ℕ) (g : Trees → Trees) (f : Trees) → has_plain_key (change_kids n g f) ≡ has_plain_key f
unfolding has_plain_key change_kids drop_f
plain_change n g end = refl
plain_change n g (node l k r) = either (is n l)
  where
    either : (b : Bool) → first_is_plain (drop_f 1 (cond b (node l (g k) r) (node l k (change_kids n g r)))) ≡ first_is_plain r
    either true = refl
    either false = first_change n g r

pub plain_method : (f : Trees) → has_plain_key (bare_method f) ≡ has_plain_key f
unfolding bare_method
plain_method f = plain_undecorate (change_kids 36 bare_parameters f) ∙ plain_change 36 bare_parameters f

plain_kind : (l m : Label) → m.kind ≡ l.kind → is_plain_key m ≡ is_plain_key l
unfolding is_plain_key is
plain_kind l m e = rw e

first_like : (f h : Trees) → Like f h → first_is_plain h ≡ first_is_plain f
unfolding Like first_is_plain
first_like end end e = refl
first_like end (node m j s) e = absurd e
first_like (node l k r) end e = absurd e
first_like (node l k r) (node m j s) e = plain_kind l m e.0

pub plain_like : (f h : Trees) → Like f h → has_plain_key h ≡ has_plain_key f
unfolding Like has_plain_key drop_f
plain_like end end e = refl
plain_like end (node m j s) e = absurd e
plain_like (node l k r) end e = absurd e
plain_like (node l k r) (node m j s) e = first_like r s e.3

-- ---- members

-- calls, in a list of statements of any context
unfoldable pub Calls : Trees → Type 0
Calls f = (x : ℕ) → EachFits (slot 3 x) f

-- kids: the children as read; bare: as visited and without decorators
member_fits : (b : Bool) (q p : Slot) (qs : List Slot) (around : Around) (l : Label) (kids bare entries : Trees) (d : Label) (a : Result) →
    slots_below q l.kind l.payload ≡ p ∷ slot 4 1 ∷ qs → Allowed q l → Fits (slots_below q l.kind l.payload) bare → EachFits expression entries →
    Fits (expression ∷ []) (tree d end) → has_plain_key bare ≡ has_plain_key kids → Calls a.calls →
    Fits (q ∷ []) (member_if b around l kids bare entries d a).here × Calls (member_if b around l kids bare entries d a).calls
unfolding member_if called₁ called₂ Calls
member_fits true q p qs around l kids bare entries d a e allow h g i z c =
    let t : Taken = class_symbol around.id a.after.default a.after in
    let n : Named = name_of (has_plain_key kids) (take_f 1 (drop_f 1 bare)) t.after in
    let y : Keyed (p ∷ slot 4 1 ∷ qs) bare n = keyed (has_plain_key kids) p qs bare t.after z (subst (λ (rs : List Slot). Fits rs bare) e h) in (
      one_fits q l (with_key n.key bare) allow (subst (λ (rs : List Slot). Fits rs (with_key n.key bare)) (sym e) y.kids),
      λ x. each_append (slot 3 x) a.calls (member_call entries (prefix t.symbol (bit bit0 l)) n.name d) (c x)
          (call_fits x entries (prefix t.symbol (bit bit0 l)) n.name d g (prefix_fits t.symbol (bit bit0 l)) y.name i),
    )
member_fits false q p qs around l kids bare entries d a e allow h g i z c = (one_fits q l bare allow h, c)

-- by kind: a as visited
module _ (q : Slot) (around : Around) (l : Label) (kids : Trees) (outside : Option ℕ) (a : Result) (allow : Allowed q l) (fits : Fits (slots_below q l.kind l.payload) a.here)
    (alike : Like kids a.here) (calls : Calls a.calls) where
  pub method_closed : l.kind ≡ 30 → Fits (q ∷ []) (own method around l kids outside a).here × Calls (own method around l kids outside a).calls
  unfolding own member tabled
  method_closed e =
      member_fits (around.live && is_decorated_member l kids) q (slot 7 (bit1 l.payload)) _ around l kids (bare_method a.here) (decorators_of method a.here) (13 ∶ 0) a
      (ap (λ (n : ℕ). slots_below q n l.payload) e) allow (method_fits (slots_below q l.kind l.payload) a.here fits)
      (entries_each (slots_below q l.kind l.payload) a.here fits) (descriptor_fits 13 refl refl) (plain_method a.here ∙ plain_like kids a.here alike) calls

  field_closed : (d : Label) (p : Slot) (qs : List Slot) → slots_below q l.kind l.payload ≡ p ∷ slot 4 1 ∷ qs → Fits (expression ∷ []) (tree d end) →
      Fits (q ∷ []) (own (field d) around l kids outside a).here × Calls (own (field d) around l kids outside a).calls
  unfolding own member bare_field
  field_closed d p qs e h =
      member_fits (around.live && is_decorated_member l kids) q p qs around l kids (undecorate a.here) (decorators a.here) d a e allow
      (undecorate_fits (slots_below q l.kind l.payload) a.here fits) (decorators_each (slots_below q l.kind l.payload) a.here fits) h
      (plain_undecorate a.here ∙ plain_like kids a.here alike) calls

  pub property_closed : l.kind ≡ 31 → Fits (q ∷ []) (own (field (14 ∶ 0)) around l kids outside a).here × Calls (own (field (14 ∶ 0)) around l kids outside a).calls
  unfolding tabled
  property_closed e = field_closed (14 ∶ 0) (slot 7 0) _ (ap (λ (n : ℕ). slots_below q n l.payload) e) (descriptor_fits 14 refl refl)

  pub accessor_closed : l.kind ≡ 32 → Fits (q ∷ []) (own (field (13 ∶ 0)) around l kids outside a).here × Calls (own (field (13 ∶ 0)) around l kids outside a).calls
  unfolding tabled
  accessor_closed e = field_closed (13 ∶ 0) (slot 7 0) _ (ap (λ (n : ℕ). slots_below q n l.payload) e) (descriptor_fits 13 refl refl)
