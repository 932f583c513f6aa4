-- Rules 6 to 10 keep the grammar: the body, the id and the alias of a class, its statement and its queue. Assumes nothing.
use Rattle.std.specs.Prelude.{◌≡◌, cond, ◌&&◌, ◌||◌, ltb}
use Rattle.std.proofs.Math.Path.{refl, ap, subst}
use Rattle.std.proofs.Common.{sym, ◌∙◌, arith}
use Rattle.std.proofs.Math.Bool.{Bool, true, false}
use Rattle.std.specs.declared.option.Option.{Option}
use Rattle.std.specs.declared.option.Option.TheVariants.{None as none, Some as some}
use mathlib.Core.List.{List, [], ◌∷◌, append-nil}
use Prim.Native.Nat.{ℕ, zero, suc, ◌/◌, ◌%◌, ◌<◌}
use Rattle.std.proofs.Math.Dec.{eqb}
use borrow.Author.Tests.{eqb-true, eqb-false, eq-eqb, ltb-true, lt-ltb}
use Rattle.words.specs.Table.{lookup}
use Rattle.words.specs.Word.{bit0, bit1, bit2}
use Rattle.records.specs.Forest.{end, node, append_f, count_f, take_f, drop_f, map_f}
use Rattle.records.specs.Label.{Label, Trees, ◌∶◌, repay, become, is, bit}
use Rattle.grammar.specs.Grammar.{Slot, slot, expression, element, statement, id, row_of, any, allowed, slots_below}
use Rattle.grammar.specs.WellFormed.{Allowed, Fits}
use Rattle.grammar.proofs.Rows.{sole_kind}
use Rattle.rewriting.specs.Parts.{tree, recount, kids_of, decorators, undecorate, parameters_of, of_parameters, is_constructor, bare_method, elements_of, with_elements, symbol_if, id_of, has_private_in, has_static, first_constructor, bare_first, is_decorated, is_empty}
use Rattle.rewriting.specs.Visit.{is_ref, to_alias, renamed, Symbols, symbols_of, aliased, array, assignment, block_alias, let_alias, alias_block, call_block, queued, export, first_payload, with_id, decorated_statement, decorated₁, decorated₂, name_class, extend_body, undecorated_if, live_class_if, live_class}
use Rattle.rewriting.specs.declared.State.{State}
use Rattle.rewriting.proofs.Roles.{never}
use Rattle.rewriting.proofs.Fitting.{behind}
use Rattle.rewriting.proofs.Kept.{Like}
use Rattle.rewriting.proofs.Spare.{sole}
use Rattle.rewriting.proofs.ClosedSlots.{EachFits, each_append, each_fits, fits_each, fits_append, one_fits, fits_one, free, tabled, made_fits}
use Rattle.rewriting.proofs.ClosedMembers.{Calls, undecorate_fits, decorators_each, method_fits, parameters_each, array_fits, identifier_fits, statement_fits}

-- ---- rule 6's replacement: a 9 or 18 with another payload

reference : (c : ℕ) (l : Label) → is_ref c l ≡ true → ((row_of l.kind).rule ≡ any) × ((q : Slot) (n : ℕ) → slots_below q l.kind n ≡ slots_below q l.kind l.payload)
unfolding is_ref is tabled
reference c l h = go (eqb l.kind 9) (eqb l.kind 18) refl refl h
  where
    go : (a b : Bool) → eqb l.kind 9 ≡ a → eqb l.kind 18 ≡ b → ((a || b) && eqb l.payload c) ≡ true →
        ((row_of l.kind).rule ≡ any) × ((q : Slot) (n : ℕ) → slots_below q l.kind n ≡ slots_below q l.kind l.payload)
    go true b e f h = (rw (eqb-true l.kind 9 e), λ q n. rw (eqb-true l.kind 9 e))
    go false true e f h = (rw (eqb-true l.kind 18 f), λ q n. rw (eqb-true l.kind 18 f))
    go false false e f h = absurd (never h)

module _ (c b : ℕ) where
  alias_allowed : (q : Slot) (l : Label) → Allowed q l → Allowed q (to_alias c b l)
  unfolding to_alias
  alias_allowed q l a = go (is_ref c l) refl
    where
      go : (x : Bool) → is_ref c l ≡ x → Allowed q (cond x (repay l b) l)
      go true e = free q l b a (reference c l e).0
      go false e = a

  alias_slots : (q : Slot) (l : Label) → slots_below q (to_alias c b l).kind (to_alias c b l).payload ≡ slots_below q l.kind l.payload
  unfolding to_alias
  alias_slots q l = go (is_ref c l) refl
    where
      go : (x : Bool) → is_ref c l ≡ x → slots_below q (cond x (repay l b) l).kind (cond x (repay l b) l).payload ≡ slots_below q l.kind l.payload
      go true e = unfold repay in (reference c l e).1 q b
      go false e = refl

  alias_fits : (f : Trees) (qs : List Slot) → Fits qs f → Fits qs (map_f (to_alias c b) f)
  unfolding Fits map_f
  alias_fits end [] h = tt
  alias_fits end (q ∷ qs) h = absurd h
  alias_fits (node l k r) [] h = absurd h
  alias_fits (node l k r) (q ∷ qs) h = (
    alias_allowed q l h.0,
    subst (λ (rs : List Slot). Fits rs (map_f (to_alias c b) k)) (sym (alias_slots q l)) (alias_fits k (slots_below q l.kind l.payload) h.1),
    alias_fits r qs h.2,
  )

  alias_each : (q : Slot) (f : Trees) → EachFits q f → EachFits q (map_f (to_alias c b) f)
  unfolding EachFits map_f
  alias_each q end h = tt
  alias_each q (node l k r) h = (
    alias_allowed q l h.0,
    subst (λ (rs : List Slot). Fits rs (map_f (to_alias c b) k)) (sym (alias_slots q l)) (alias_fits k (slots_below q l.kind l.payload) h.1),
    alias_each q r h.2,
  )

renamed_each : (c : ℕ) (alias : Option ℕ) (q : Slot) (f : Trees) → EachFits q f → EachFits q (renamed c alias f)
unfolding renamed
renamed_each c none q f h = h
renamed_each c (some b) q f h = alias_each c b q f h

-- ---- elements

elements_each : (f : Trees) (qs : List Slot) → Fits qs f → EachFits element (kids_of 29 f)
unfolding Fits kids_of
elements_each end qs h = unfold EachFits in tt
elements_each (node l k r) [] h = absurd h
elements_each (node l k r) (q ∷ qs) h = go (is 29 l) refl h.1 (elements_each r qs h.2)
  where
    go : (b : Bool) → is 29 l ≡ b → Fits (slots_below q l.kind l.payload) k → EachFits element (kids_of 29 r) → EachFits element (cond b k (kids_of 29 r))
    go true e h g = unfold is tabled in
        let z : Fits (slots_below q 29 l.payload) k = subst (λ (n : ℕ). Fits (slots_below q n l.payload) k) (eqb-true l.kind 29 e) h in
        fits_each l.payload element k (rw append-nil at z)
    go false e h g = g

with_elements_fits : (new : Trees) (f : Trees) (qs : List Slot) → EachFits element new → Fits qs f → Fits qs (with_elements new f)
unfolding Fits with_elements
with_elements_fits new end [] n h = tt
with_elements_fits new end (q ∷ qs) n h = absurd h
with_elements_fits new (node l k r) [] n h = absurd h
with_elements_fits new (node l k r) (q ∷ qs) n h = go (is 29 l) refl h (with_elements_fits new r qs n h.2)
  where
    go : (b : Bool) → is 29 l ≡ b → Fits (q ∷ qs) (node l k r) → Fits qs (with_elements new r) → Fits (q ∷ qs) (cond b (node (recount l new) new r) (node l k (with_elements new r)))
    go true e h g = unfold Fits recount repay is tabled in
        let k29 : l.kind ≡ 29 = eqb-true l.kind 29 e in
        (free q l (count_f new) h.0 (rw k29), rw (k29, append-nil) (each_fits element new n), h.2)
    go false e h g = unfold Fits in (h.0, h.1, g)

bare_first_each : (q : Slot) (f : Trees) → EachFits q f → EachFits q (bare_first f)
unfolding EachFits bare_first
bare_first_each q end h = tt
bare_first_each q (node l k r) h = go (is_constructor l) h (bare_first_each q r h.2)
  where
    go : (b : Bool) → EachFits q (node l k r) → EachFits q (bare_first r) → EachFits q (cond b (node l (bare_method k) r) (node l k (bare_first r)))
    go true h g = unfold EachFits in (h.0, method_fits (slots_below q l.kind l.payload) k h.1, h.2)
    go false h g = unfold EachFits in (h.0, h.1, g)

first_each : (q : Slot) (f : Trees) → EachFits q f → EachFits expression (first_constructor f)
unfolding EachFits first_constructor
first_each q end h = tt
first_each q (node l k r) h = go (is_constructor l) (parameters_each (slots_below q l.kind l.payload) k h.1) (first_each q r h.2)
  where
    go : (b : Bool) → EachFits expression (of_parameters 0 (parameters_of k)) → EachFits expression (first_constructor r) →
        EachFits expression (cond b (of_parameters 0 (parameters_of k)) (first_constructor r))
    go true h g = h
    go false h g = g

-- ---- the id

none_some : (c : ℕ) → ◌≡◌ {A = Option ℕ} none (some c) → ⊥
none_some c e = let z : ◌≡◌ {A = ℕ} 0 1 = cc in omega arith

id_kind : (l : Label) (k r : Trees) (c : ℕ) → symbol_if (node l k r) ≡ some c → l.kind ≡ 27
unfolding symbol_if is
id_kind l k r c h = go (eqb l.kind 27) refl h
  where
    go : (b : Bool) → eqb l.kind 27 ≡ b → cond b (some l.payload) none ≡ some c → l.kind ≡ 27
    go true e h = eqb-true l.kind 27 e
    go false e h = absurd (none_some c h)

id_allowed : (q : Slot) (l : Label) (i : ℕ) → l.kind ≡ 27 → Allowed q l → Allowed q (repay l i)
unfolding tabled
id_allowed q l i e a = free q l i a (rw e)

id_slots : (q : Slot) (l : Label) (i : ℕ) → l.kind ≡ 27 → slots_below q l.kind i ≡ slots_below q l.kind l.payload
unfolding tabled
id_slots q l i e = rw e

-- f: as read; h: as visited
id_fits : (c i : ℕ) (f h : Trees) (qs : List Slot) → Like f h → id_of f ≡ some c → Fits qs h → Fits qs (with_id (some i) h)
unfolding Like Fits id_of with_id first_payload repay
id_fits c i end h qs e d g = absurd (none_some c d)
id_fits c i (node l k r) end qs e d g = absurd e
id_fits c i (node l k end) (node m j s) qs e d g = unfold symbol_if in absurd (none_some c d)
id_fits c i (node l k (node n o r)) (node m j end) qs e d g = absurd e.3
id_fits c i (node l k (node n o r)) (node m j (node u v s)) [] e d g = absurd g
id_fits c i (node l k (node n o r)) (node m j (node u v s)) (q ∷ []) e d g = absurd g.2
id_fits c i (node l k (node n o r)) (node m j (node u v s)) (q ∷ p ∷ qs) e d g =
    let k27 : u.kind ≡ 27 = e.3.0 ∙ id_kind n o r c d in
    (g.0, g.1, (id_allowed p u i k27 g.2.0, subst (λ (rs : List Slot). Fits rs v) (sym (id_slots p u i k27)) g.2.1, g.2.2))

-- ---- blocks

alias_block_each : (alias : Option ℕ) → EachFits element (alias_block alias)
unfolding alias_block tabled count_f tree
alias_block_each none = unfold EachFits in tt
alias_block_each (some b) =
    let this : Trees = tree (15 ∶ 0) end in
    let assigned : Fits (expression ∷ []) (tree (18 ∶ b) this) = made_fits expression 18 b this refl (λ d. omega arith) (made_fits expression 15 0 end refl (λ d. omega arith) (unfold Fits in tt)) in
    let block : Trees = tree (2 ∶ 0) (tree (18 ∶ b) this) in
    fits_one element (tree (33 ∶ 1) block) (made_fits element 33 1 block refl (λ d. omega arith) (each_fits statement block (statement_fits 0 (tree (18 ∶ b) this) assigned)))

call_block_each : (priv : Bool) (calls : Trees) → Calls calls → EachFits element (call_block priv calls)
unfolding call_block Calls tabled
call_block_each true calls c =
    fits_one element (tree (33 ∶ count_f calls) calls) (made_fits element 33 (count_f calls) calls refl (λ d. omega arith) (rw append-nil (each_fits statement calls (c 0))))
call_block_each false calls c = unfold EachFits in tt

-- ---- what stands behind the statement, in a list of the context x

aliased_fits : (alias : Option ℕ) (e : Trees) → Fits (expression ∷ []) e → Fits (expression ∷ []) (aliased alias e)
unfolding aliased tabled
aliased_fits none e h = h
aliased_fits (some b) e h = made_fits expression 18 b e refl (λ d. omega arith) h

assignment_each : (x c : ℕ) (alias : Option ℕ) (entries : Trees) → EachFits expression entries → EachFits (slot 3 x) (assignment c alias entries)
unfolding assignment tabled
assignment_each x c alias entries h =
    let args : Trees = append_f (array entries) (tree (9 ∶ c) end) in
    let two : Fits (expression ∷ expression ∷ []) args = fits_append (expression ∷ []) (expression ∷ []) (array entries) (tree (9 ∶ c) end) (array_fits entries h) (identifier_fits c) in
    let value : Trees = aliased alias (tree (22 ∶ 2) args) in
    statement_fits x (tree (18 ∶ c) value) (made_fits expression 18 c value refl (λ d. omega arith) (aliased_fits alias (tree (22 ∶ 2) args) (made_fits expression 22 2 args refl (λ d. omega arith) two)))

-- only a module's own list has a class statement that is exported
exported : (x p : ℕ) → allowed (slot 3 x) 4 p ≡ true → (p ≡ 0 → ⊥) → eqb x 1 ≡ true
unfolding tabled
exported x p h n = go (eqb x 1) refl h
  where
    go : (b : Bool) → eqb x 1 ≡ b → cond b (ltb p 3) (eqb p 0) ≡ true → b ≡ true
    go true e h = refl
    go false e h = absurd (n (eqb-true p 0 h))

export_each : (x p c : ℕ) → allowed (slot 3 x) 4 p ≡ true → EachFits (slot 3 x) (export p c)
unfolding export tabled Fits
export_each x zero c a = unfold EachFits in tt
export_each x (suc zero) c a =
    fits_one (slot 3 x) (tree (6 ∶ c) end) (made_fits (slot 3 x) 6 c end (exported x 1 a (λ e. omega arith)) (λ d. omega arith) tt)
export_each x (suc (suc p)) c a =
    fits_one (slot 3 x) (tree (7 ∶ c) end) (made_fits (slot 3 x) 7 c end (exported x (suc (suc p)) a (λ e. omega arith)) (λ d. omega arith) tt)

queued_each : (q : Slot) (priv : Bool) (f : Trees) → EachFits q f → EachFits q (queued priv f)
unfolding queued
queued_each q true f h = unfold EachFits in tt
queued_each q false f h = h

-- ---- a class

-- the slots below it are the same everywhere
class_below : (y p : ℕ) → slots_below (slot 5 y) 26 p ≡ slot 7 0 ∷ behind (bit0 p) (bit2 p)
unfolding tabled behind
class_below y p = refl

-- what the flags of a class say
flags : (y p : ℕ) → allowed (slot 5 y) 26 p ≡ true → (p < 8) × (cond (ltb y 2) (eqb (bit0 p) 1) (eqb (bit1 p) 0) ≡ true)
unfolding tabled
flags y p h = go (ltb p 8) refl h
  where
    go : (b : Bool) → ltb p 8 ≡ b → cond b (cond (ltb y 2) (eqb (bit0 p) 1) (eqb (bit1 p) 0)) false ≡ true → (p < 8) × (cond (ltb y 2) (eqb (bit0 p) 1) (eqb (bit1 p) 0) ≡ true)
    go true e h = (ltb-true p 8 e, h)
    go false e h = absurd (never h)

-- under a 20
expression_class : (y p : ℕ) → allowed (slot 5 y) 26 p ≡ true → eqb (bit1 p) 1 ≡ false → allowed (slot 5 3) 26 p ≡ true
unfolding tabled
expression_class y p h n =
    let z : bit1 p ≡ 0 = omega (arith, eqb-false (bit1 p) 1 n) in
    rw (lt-ltb p 8 (flags y p h).0, eq-eqb (bit1 p) 0 z)

-- with an id that it didn't have
half_next : (p : ℕ) → p % 2 ≡ 0 → suc p / 2 ≡ p / 2
half_next p e = omega arith

quarter : (p : ℕ) → p / 4 ≡ p / 2 / 2
quarter p = omega arith

bits_next : (p : ℕ) → bit0 p ≡ 0 → (bit0 (suc p) ≡ 1) × (bit1 (suc p) ≡ bit1 p) × (bit2 (suc p) ≡ bit2 p)
unfolding bit0 bit1 bit2
bits_next p e = (
  omega arith,
  ap (λ (n : ℕ). n % 2) (half_next p e),
  ap (λ (n : ℕ). n % 2) (quarter (suc p) ∙ ap (λ (n : ℕ). n / 2) (half_next p e) ∙ sym (quarter p)),
)

named_class : (y p : ℕ) → allowed (slot 5 y) 26 p ≡ true → bit0 p ≡ 0 → allowed (slot 5 y) 26 (suc p) ≡ true
unfolding tabled
named_class y p h n =
    let few : suc p < 8 = omega (arith, (flags y p h).0) in
    let z = bits_next p n in
    rw (lt-ltb (suc p) 8 few) (go (ltb y 2) (eq-eqb (bit0 (suc p)) 1 z.0) (ap (λ (m : ℕ). eqb m 0) z.1) (flags y p h).1)
  where
    go : (b : Bool) → eqb (bit0 (suc p)) 1 ≡ true → eqb (bit1 (suc p)) 0 ≡ eqb (bit1 p) 0 → cond b (eqb (bit0 p) 1) (eqb (bit1 p) 0) ≡ true →
        cond b (eqb (bit0 (suc p)) 1) (eqb (bit1 (suc p)) 0) ≡ true
    go true e f h = e
    go false e f h = f ∙ h

named_below : (y p : ℕ) → bit0 p ≡ 0 → slots_below (slot 5 y) 26 (suc p) ≡ slot 7 0 ∷ (id ∷ behind (bit0 p) (bit2 p))
unfolding behind
named_below y p n =
    let z = bits_next p n in
    class_below y (suc p) ∙ ap (λ (a : ℕ). slot 7 0 ∷ behind a (bit2 (suc p))) z.0 ∙ ap (λ (b : ℕ). slot 7 0 ∷ behind 1 b) z.2
    ∙ ap (λ (a : ℕ). slot 7 0 ∷ (id ∷ behind a (bit2 p))) (sym n)

-- a class that has no id is read with none
no_id : (a b : ℕ) (f : Trees) → Fits (slot 7 0 ∷ behind a b) f → id_of f ≡ none → a ≡ 0
unfolding Fits behind id_of symbol_if is sole_kind lookup
no_id zero b f h e = refl
no_id (suc a) b end h e = absurd h
no_id (suc a) b (node l k end) h e = absurd h.2
no_id (suc a) b (node l k (node m j r)) h e =
    let k27 : m.kind ≡ 27 = sole id m 6 h.2.0 refl tt in
    absurd (none_some m.payload (sym (rw (eq-eqb m.kind 27 k27) at e)))

insert_fits : (q : Slot) (qs : List Slot) (d : ℕ) (f : Trees) → Fits (q ∷ qs) f → Fits (q ∷ (id ∷ qs)) (append_f (take_f 1 f) (append_f (tree (27 ∶ d) end) (drop_f 1 f)))
unfolding Fits take_f drop_f append_f tree tabled
insert_fits q qs d end h = absurd h
insert_fits q qs d (node l k r) h = let i = made_fits id 27 d end refl (λ z. omega arith) tt in (h.0, h.1, (i.0, i.1, h.2))

extend_fits : (q : Slot) (more f : Trees) → EachFits element more → Fits (q ∷ []) f → Fits (q ∷ []) (extend_body more f)
unfolding Fits extend_body elements_of
extend_fits q more end n h = absurd h
extend_fits q more (node c ck r) n h =
    let qs : List Slot = slots_below q c.kind c.payload in
    (h.0, with_elements_fits (append_f (kids_of 29 ck) more) ck qs (each_append element (kids_of 29 ck) more (elements_each ck qs h.1) n) h.1, h.2)

-- only a class with an id takes an inner symbol
inner_named : (id d : Option ℕ) (n : ℕ) (els : Trees) (i : ℕ) → (symbols_of id d n els).inner ≡ some i → (y : ℕ) × (id ≡ some y)
unfolding symbols_of
inner_named (some c) d n els i e = (c, refl)
inner_named none (some d) n els i e = absurd (none_some i e)
inner_named none none n els i e = absurd (none_some i e)

-- ---- a class statement: l and c its word and its class's, rk the class's children as read, ck as visited

module _ (x : ℕ) (l c : Label) (rk ck calls : Trees) (k4 : l.kind ≡ 4) (k26 : c.kind ≡ 26) (allow : Allowed (slot 3 x) l) (class : Allowed (slot 5 l.payload) c)
    (live : bit bit1 c ≡ false) (read : Fits (slots_below (slot 5 l.payload) c.kind c.payload) rk)
    (fits : Fits (slots_below (slot 5 l.payload) c.kind c.payload) ck) (alike : Like rk ck) (queue : Calls calls) where
  -- the class as it was allowed, by its kind
  class_allowed : allowed (slot 5 l.payload) 26 c.payload ≡ true
  class_allowed = ap (λ (n : ℕ). allowed (slot 5 l.payload) n c.payload) (sym k26) ∙ class.grammar

  statement_allowed : allowed (slot 3 x) 4 l.payload ≡ true
  statement_allowed = ap (λ (n : ℕ). allowed (slot 3 x) n l.payload) (sym k4) ∙ allow.grammar

  same_slots : (y : ℕ) → slots_below (slot 5 y) c.kind c.payload ≡ slots_below (slot 5 l.payload) c.kind c.payload
  same_slots y =
      ap (λ (n : ℕ). slots_below (slot 5 y) n c.payload) k26 ∙ class_below y c.payload ∙ sym (class_below l.payload c.payload)
      ∙ ap (λ (n : ℕ). slots_below (slot 5 l.payload) n c.payload) (sym k26)

  -- under the statement's own word, or as a class expression
  under_statement : (cls : Trees) → Fits (slot 5 l.payload ∷ []) cls → EachFits (slot 3 x) (tree l cls)
  unfolding tabled
  under_statement cls h = fits_one (slot 3 x) (tree l cls) (one_fits (slot 3 x) l cls allow (rw k4 h))

  as_expression : (new : Trees) → Fits (slots_below (slot 5 l.payload) c.kind c.payload) new → Fits (expression ∷ []) (tree (20 ∶ 0) (tree c new))
  unfolding tabled
  as_expression new h =
      let n : eqb (bit1 c.payload) 1 ≡ false = unfold bit in live in
      let a : Allowed (slot 5 3) c = record {
        grammar = ap (λ (m : ℕ). allowed (slot 5 3) m c.payload) k26 ∙ expression_class l.payload c.payload class_allowed n;
        bare = λ d y. absurd (omega arith);
      } in
      made_fits expression 20 0 (tree c new) refl (λ d. omega arith) (one_fits (slot 5 3) c new a (subst (λ (qs : List Slot). Fits qs new) (sym (same_slots 3)) h))

  let_each : (y : ℕ) (e : Trees) → Fits (expression ∷ []) e → EachFits (slot 3 x) (tree (become l 5 y) e)
  unfolding tabled become
  let_each y e h = fits_one (slot 3 x) (tree (become l 5 y) e) (one_fits (slot 3 x) (become l 5 y) e (record { grammar = refl; bare = λ d z. absurd (omega arith) }) h)

  decorated_statement_each : (priv : Bool) (y : ℕ) (alias : Option ℕ) (new : Trees) → Fits (slots_below (slot 5 l.payload) c.kind c.payload) new →
      EachFits (slot 3 x) (decorated_statement priv l y alias (tree c new))
  unfolding decorated_statement
  decorated_statement_each true y alias new h = under_statement (tree c new) (one_fits (slot 5 l.payload) c new class h)
  decorated_statement_each false y alias new h =
      let_each y (aliased alias (tree (20 ∶ 0) (tree c new))) (aliased_fits alias (tree (20 ∶ 0) (tree c new)) (as_expression new h))

  inner_fits : (inner : Option ℕ) → ((i : ℕ) → inner ≡ some i → (y : ℕ) × (id_of rk ≡ some y)) → Fits (slots_below (slot 5 l.payload) c.kind c.payload) (with_id inner ck)
  inner_fits none h = unfold with_id in fits
  inner_fits (some i) h = let y = h i refl in id_fits y.0 i rk ck (slots_below (slot 5 l.payload) c.kind c.payload) alike y.1 fits

  decorated_each : (s : Symbols) (els : Trees) (outside : Option ℕ) → ((i : ℕ) → s.inner ≡ some i → (y : ℕ) × (id_of rk ≡ some y)) → EachFits element els →
      EachFits (slot 3 x) (decorated₂ rk l c ck calls s els outside).here
  unfolding decorated₂
  decorated_each s els outside named h =
      let priv : Bool = has_private_in rk in
      let static : Bool = has_static (elements_of rk) in
      let block : Trees = alias_block (block_alias s.alias static) in
      let body : Trees = append_f block (append_f (bare_first els) (call_block priv calls)) in
      let bare : Trees = undecorate (with_id s.inner ck) in
      let entries : Trees = append_f (decorators ck) (first_constructor els) in
      let stmt : Trees = decorated_statement priv l s.outer (let_alias s.alias static) (tree c (with_elements body bare)) in
      let assign : Trees = assignment s.outer s.alias entries in
      let out : Trees = export l.payload s.outer in
      let qs : List Slot = slots_below (slot 5 l.payload) c.kind c.payload in
      let elements : EachFits element body =
      each_append element block (append_f (bare_first els) (call_block priv calls)) (alias_block_each (block_alias s.alias static))
      (each_append element (bare_first els) (call_block priv calls) (bare_first_each element els h) (call_block_each priv calls queue)) in
      let kids : Fits qs (with_elements body bare) = with_elements_fits body bare qs elements (undecorate_fits qs (with_id s.inner ck) (inner_fits s.inner named)) in
      let array' : EachFits expression entries = each_append expression (decorators ck) (first_constructor els) (decorators_each qs ck fits) (first_each element els h) in
      each_append (slot 3 x) stmt (queued priv (append_f calls (append_f assign out))) (decorated_statement_each priv s.outer (let_alias s.alias static) (with_elements body bare) kids)
      (queued_each (slot 3 x) priv (append_f calls (append_f assign out))
      (each_append (slot 3 x) calls (append_f assign out) (unfold Calls in queue x)
      (each_append (slot 3 x) assign out (assignment_each x s.outer s.alias entries array') (export_each x l.payload s.outer statement_allowed))))

  -- an undecorated class may take an id and a block
  name_class_if : (id d : Option ℕ) → id_of rk ≡ id → Fits (slot 5 l.payload ∷ []) (name_class id d c ck)
  unfolding name_class repay
  name_class_if (some i) d e = one_fits (slot 5 l.payload) c ck class fits
  name_class_if none none e = one_fits (slot 5 l.payload) c ck class fits
  name_class_if none (some d) e =
      let p : ℕ = c.payload in
      let y : ℕ = l.payload in
      let by_kind : slots_below (slot 5 y) c.kind p ≡ slot 7 0 ∷ behind (bit0 p) (bit2 p) = ap (λ (n : ℕ). slots_below (slot 5 y) n p) k26 ∙ class_below y p in
      let z : bit0 p ≡ 0 = no_id (bit0 p) (bit2 p) rk (subst (λ (qs : List Slot). Fits qs rk) by_kind read) e in
      let kids : Trees = append_f (take_f 1 ck) (append_f (tree (27 ∶ d) end) (drop_f 1 ck)) in
      let h : Fits (slot 7 0 ∷ (slot 6 0 ∷ behind (bit0 p) (bit2 p))) kids = insert_fits (slot 7 0) (behind (bit0 p) (bit2 p)) d ck (subst (λ (qs : List Slot). Fits qs ck) by_kind fits) in
      one_fits (slot 5 y) (repay c (suc p)) kids
      (record { grammar = ap (λ (n : ℕ). allowed (slot 5 y) n (suc p)) k26 ∙ named_class y p class_allowed z; bare = λ d x. absurd (omega arith) })
      (subst (λ (qs : List Slot). Fits qs kids) (sym (ap (λ (n : ℕ). slots_below (slot 5 y) n (suc p)) k26 ∙ named_below y p z)) h)

  undecorated_each : (b : Bool) (d : Option ℕ) → EachFits (slot 3 x) (undecorated_if b rk d l c ck calls)
  unfolding undecorated_if
  undecorated_each true d = under_statement (tree c ck) (one_fits (slot 5 l.payload) c ck class fits)
  undecorated_each false d =
      let priv : Bool = has_private_in rk in
      let cls : Trees = extend_body (call_block priv calls) (name_class (id_of rk) d c ck) in
      each_append (slot 3 x) (tree l cls) (queued priv calls)
      (under_statement cls (extend_fits (slot 5 l.payload) (call_block priv calls) (name_class (id_of rk) d c ck) (call_block_each priv calls queue) (name_class_if (id_of rk) d refl)))
      (queued_each (slot 3 x) priv calls (unfold Calls in queue x))

  live_if_each : (b : Bool) (s : State) (outside : Option ℕ) → EachFits (slot 3 x) (live_class_if b rk l c ck calls s outside).here
  unfolding live_class_if decorated₁
  live_if_each true s outside =
      let y : Symbols = symbols_of (id_of rk) s.default s.next (elements_of ck) in
      decorated_each y (renamed y.outer y.alias (elements_of ck)) outside (inner_named (id_of rk) s.default s.next (elements_of ck))
      (renamed_each y.outer y.alias element (elements_of ck) (unfold elements_of in elements_each ck (slots_below (slot 5 l.payload) c.kind c.payload) fits))
  live_if_each false s outside = undecorated_each (is_empty calls) s.default

  pub live_each : (s : State) (outside : Option ℕ) → EachFits (slot 3 x) (live_class rk l (node c ck end) calls s outside).here
  unfolding live_class
  live_each s outside = live_if_each (is_decorated rk) s outside

live_if_calls_lem : (b : Bool) (rk : Trees) (l c : Label) (ck calls : Trees) (s : State) (outside : Option ℕ) → (live_class_if b rk l c ck calls s outside).calls ≡ end
unfolding live_class_if decorated₁ decorated₂
live_if_calls_lem true rk l c ck calls s outside = refl
live_if_calls_lem false rk l c ck calls s outside = refl

-- nothing is queued for the class around a class statement
pub live_calls : (rk : Trees) (l : Label) (cls calls : Trees) (s : State) (outside : Option ℕ) → (live_class rk l cls calls s outside).calls ≡ end
unfolding live_class
live_calls rk l end calls s outside = refl
live_calls rk l (node c ck rest) calls s outside = live_if_calls_lem (is_decorated rk) rk l c ck calls s outside
