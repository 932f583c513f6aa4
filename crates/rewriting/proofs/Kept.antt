-- What a visit keeps of records that are no statements: one record for each, of its kind; the word and the children's places where it has no work of its own.
-- Assumes nothing.
use Rattle.std.specs.Prelude.{◌≡◌, Bool, cond, ◌&&◌, ◌||◌, List, [], ◌∷◌, ℕ, suc, ◌<◌, T}
use Rattle.std.proofs.Math.Path.{refl, ap}
use Rattle.std.proofs.Common.{sym, subst, ◌∙◌, arith, eqb-true}
use Rattle.std.proofs.Math.Bool.{true, false}
use Rattle.std.specs.declared.option.Option.{Option}
use Rattle.std.specs.declared.option.Option.TheVariants.{None as none, Some as some}
use Rattle.std.proofs.Math.Dec.{eqb}
use Rattle.words.specs.Table.{lookup}
use Rattle.words.specs.Word.{bit1}
use Rattle.records.specs.Forest.{end, node, append_f, count_f, map_f, count_f_append}
use Rattle.records.specs.Label.{Label, Trees, ◌∶◌, repay, is, bit}
use Rattle.grammar.specs.Grammar.{Slot, row, table, row_of, slots_below}
use Rattle.grammar.specs.WellFormed.{Allowed, Fits}
use Rattle.grammar.proofs.Rows.{allowed_row, sole_kind, kind_sole}
use Rattle.rewriting.specs.Parts.{parameters_of, indexed, of_parameters, first_constructor, Role, module', list, statement, expression, method, constructor, plain, field, role_of, tree, recount, decorators, decorators_of, bare_method, bare_field, is_constructor, kids_of}
use Rattle.rewriting.specs.Visit.{is_ref, to_alias, renamed, Result, called₁, called₂, member_if, member, dead_class, kept, own, since, work, inside, entering, join, ◌then◌, visit}
use Rattle.rewriting.specs.declared.Around.{Around}
use Rattle.rewriting.specs.declared.State.{State}
use Rattle.rewriting.proofs.Roles.{never, Plain, role_case, is_plain, plain_role}
use Rattle.rewriting.proofs.Fitting.{EachSlot, Of, parameters_are, Above, has_statements, deep_below, category_of}

-- ---- one record for each

-- neither a module nor a class statement
unfoldable single : Role → Bool
single module' = false
single statement = false
single list = true
single expression = true
single method = true
single constructor = true
single (field d) = true
single plain = true

-- a record without work of its own
unfoldable pub keeps : Role → Bool
keeps module' = false
keeps statement = false
keeps list = false
keeps expression = false
keeps method = false
keeps (field d) = false
keeps constructor = true
keeps plain = true

-- a record whose count is put right
unfoldable recounts : Role → Bool
recounts module' = true
recounts statement = false
recounts list = true
recounts expression = false
recounts method = false
recounts (field d) = false
recounts constructor = false
recounts plain = false

-- h is one record with l's word, but for a count; if it has no work of its own, its children are those visited, a
record One (r : Role) (l : Label) (a : Result) (h : Trees) : Type 0 where
  payload : ℕ
  kids : Trees
  whole : h ≡ node (repay l payload) kids end
  same : recounts r ≡ false → payload ≡ l.payload
  kept : keeps r ≡ true → kids ≡ a.here

one : (r : Role) (l : Label) (a : Result) (kids : Trees) → keeps r ≡ false → One r l a (node l kids end)
unfolding repay
one r l a kids n = record { payload = l.payload; kids = kids; whole = refl; same = λ e. refl; kept = λ e. absurd (never (sym n ∙ e)) }

member_if_one : (r : Role) (b : Bool) (around : Around) (l : Label) (kids bare entries : Trees) (d : Label) (a : Result) → keeps r ≡ false →
    One r l a (member_if b around l kids bare entries d a).here
unfolding member_if called₁ called₂ tree
member_if_one r true around l kids bare entries d a n = one r l a _ n
member_if_one r false around l kids bare entries d a n = one r l a bare n

own_one : (r : Role) (around : Around) (l : Label) (kids : Trees) (outside : Option ℕ) (a : Result) → T (single r) →
    One r l a (own r around l kids outside a).here
unfolding own kept dead_class member tree single keeps recounts recount repay
own_one module' around l kids outside a t = absurd t
own_one statement around l kids outside a t = absurd t
own_one list around l kids outside a t =
    record { payload = count_f a.here; kids = a.here; whole = refl; same = λ n. absurd (never (sym n)); kept = λ e. absurd (never e) }
own_one expression around l kids outside a t = one expression l a a.here refl
own_one method around l kids outside a t = member_if_one method _ around l kids (bare_method a.here) (decorators_of method a.here) (13 ∶ 0) a refl
own_one (field d) around l kids outside a t = member_if_one (field d) _ around l kids (bare_field a.here) (decorators a.here) d a refl
own_one constructor around l kids outside a t = record { payload = l.payload; kids = a.here; whole = refl; same = λ n. refl; kept = λ e. refl }
own_one plain around l kids outside a t = record { payload = l.payload; kids = a.here; whole = refl; same = λ n. refl; kept = λ e. refl }

-- ---- the same kinds, at the same places

-- h has a record of its kind for each record of f, and below a record without work of its own the same again
unfoldable pub Like : Trees → Trees → Type 0
Like end end = Unit {0}
Like end (node m j s) = ⊥
Like (node l k r) end = ⊥
Like (node l k r) (node m j s) = (m.kind ≡ l.kind) × (is_constructor m ≡ is_constructor l) × (keeps (role_of l) ≡ true → Like k j) × Like r s

-- a slot below a module's own list holds no module and no class statement
deep_single : (q : Slot) (l : Label) → 3 < q.category → Allowed q l → T (single (role_of l))
unfolding single row_of lookup table row
deep_single q l h a =
    role_case (λ r. T (single r)) l (λ e. absurd (omega (arith, category_of q l 1 a e))) (λ e. tt) (λ e. tt) (λ e. tt)
    (λ e. absurd (omega (arith, category_of q l 4 a e))) (λ e. tt) (λ e. either (bit bit1 l)) (λ e. tt) (λ e. tt) (λ n. tt)
  where
    either : (b : Bool) → T (single (cond b constructor method))
    either true = tt
    either false = tt

pub plain_statements : (l : Label) → Plain l → has_statements l.kind ≡ false
unfolding has_statements lookup
plain_statements l n = rw (n.not1, n.not3, n.not33, n.not39)

keeps_deep : (q : Slot) (l : Label) → keeps (role_of l) ≡ true → Above 3 (slots_below q l.kind l.payload)
unfolding keeps has_statements lookup
keeps_deep q l =
    role_case (λ r. keeps r ≡ true → Above 3 (slots_below q l.kind l.payload)) l
    (λ e k. absurd (never k)) (λ e k. absurd (never k)) (λ e k. absurd (never k)) (λ e k. absurd (never k)) (λ e k. absurd (never k)) (λ e k. absurd (never k))
    (λ e k. deep_below q l.kind l.payload (ap has_statements e))
    (λ e k. absurd (never k)) (λ e k. absurd (never k)) (λ n k. deep_below q l.kind l.payload (plain_statements l n))

constructor_recounts : (l : Label) → l.kind ≡ 30 → recounts (role_of l) ≡ false
unfolding recounts
constructor_recounts l =
    role_case (λ r. l.kind ≡ 30 → recounts r ≡ false) l (λ e f. absurd (omega arith)) (λ e f. absurd (omega arith)) (λ e f. absurd (omega arith))
    (λ e f. absurd (omega arith)) (λ e f. refl) (λ e f. refl) (λ e f. either (bit bit1 l)) (λ e f. refl) (λ e f. refl) (λ n f. refl)
  where
    either : (b : Bool) → recounts (cond b constructor method) ≡ false
    either true = refl
    either false = refl

same_constructor : (l : Label) (p : ℕ) → (recounts (role_of l) ≡ false → p ≡ l.payload) → is_constructor (repay l p) ≡ is_constructor l
unfolding is_constructor is repay bit
same_constructor l p h = go (eqb l.kind 30) refl
  where
    go : (b : Bool) → eqb l.kind 30 ≡ b → (b && eqb (bit1 p) 1) ≡ (b && eqb (bit1 l.payload) 1)
    go true e = rw (h (constructor_recounts l (eqb-true l.kind 30 e)))
    go false e = refl

pub like : (f : Trees) (qs : List Slot) (around : Around) (s : State) → Above 3 qs → Fits qs f → Like f (visit around f s).here
unfolding EachSlot Fits Like visit ◌then◌ join work since append_f repay
like end [] around s d h = tt
like end (q ∷ qs) around s d h = absurd h
like (node l k r) [] around s d h = absurd h
like (node l k r) (q ∷ qs) around s d h =
    let a : Result = visit (inside (role_of l) around k) k (entering (role_of l) s) in
    let b : Result = own (role_of l) around l k s.default a in
    let o : One (role_of l) l a b.here = own_one (role_of l) around l k s.default a (deep_single q l d.0 h.0) in
    let below : keeps (role_of l) ≡ true → Like k o.kids =
    λ e. subst (Like k) (sym (o.kept e)) (like k (slots_below q l.kind l.payload) (inside (role_of l) around k) (entering (role_of l) s) (keeps_deep q l e) h.1) in
    subst (λ (t : Trees). Like (node l k r) (append_f t (visit around r b.after).here)) (sym o.whole)
    (refl, same_constructor l o.payload o.same, below, like r qs around b.after d.1 h.2)

-- ---- what follows of two such forests

pub like_count : (f h : Trees) → Like f h → count_f h ≡ count_f f
unfolding Like count_f
like_count end end e = refl
like_count end (node m j s) e = absurd e
like_count (node l k r) end e = absurd e
like_count (node l k r) (node m j s) e = ap suc (like_count r s e.3)

-- the children of the first record of a kind without work of its own
module _ (n : ℕ) (t : T (is_plain n)) where
  plain_keeps : (l : Label) → is n l ≡ true → keeps (role_of l) ≡ true
  unfolding is keeps
  plain_keeps l e = ap keeps (plain_role l n (eqb-true l.kind n e) t)

  like_if : (x y : Bool) (k j f h : Trees) → y ≡ x → (x ≡ true → Like k j) → Like f h → Like (cond x k f) (cond y j h)
  like_if true true k j f h e a b = a refl
  like_if true false k j f h e a b = absurd (never e)
  like_if false true k j f h e a b = absurd (never (sym e))
  like_if false false k j f h e a b = b

  same_is : (l m : Label) → m.kind ≡ l.kind → is n m ≡ is n l
  unfolding is
  same_is l m e = ap (λ (k : ℕ). eqb k n) e

  pub like_kids : (f h : Trees) → Like f h → Like (kids_of n f) (kids_of n h)
  unfolding Like kids_of
  like_kids end end e = tt
  like_kids end (node m j s) e = absurd e
  like_kids (node l k r) end e = absurd e
  like_kids (node l k r) (node m j s) e = like_if (is n l) (is n m) k j (kids_of n r) (kids_of n s) (same_is l m e.0) (λ x. e.2 (plain_keeps l x)) (like_kids r s e.3)

pub like_decorators : (f h : Trees) → Like f h → Like (decorators f) (decorators h)
unfolding Like decorators is_plain lookup
like_decorators end end e = tt
like_decorators end (node m j s) e = absurd e
like_decorators (node l k r) end e = absurd e
like_decorators (node l k r) (node m j s) e = like_if 28 tt (is 28 l) (is 28 m) k j end end (same_is 28 tt l m e.0) (λ x. e.2 (plain_keeps 28 tt l x)) tt

-- parameters have as many decorators
pub indexed_count : (i : ℕ) (f : Trees) → count_f (indexed i f) ≡ count_f f
unfolding indexed count_f
indexed_count i end = refl
indexed_count i (node l k r) = ap suc (indexed_count i r)

parameter_keeps : (q : Slot) (l : Label) → q.category ≡ 11 → Allowed q l → keeps (role_of l) ≡ true
unfolding is_plain lookup sole_kind keeps
parameter_keeps q l c a = ap keeps (plain_role l 37 (kind_sole l.kind 11 ((allowed_row q l.kind l.payload a.grammar).0 ∙ c) tt) tt)

like_rows : (f h : Trees) (qs : List Slot) (i : ℕ) → Of 11 qs → Fits qs f → Like f h → count_f (of_parameters i h) ≡ count_f (of_parameters i f)
unfolding EachSlot Fits Like of_parameters
like_rows end end qs i o g e = refl
like_rows end (node m j s) qs i o g e = absurd e
like_rows (node l k r) end qs i o g e = absurd e
like_rows (node l k r) (node m j s) [] i o g e = absurd g
like_rows (node l k r) (node m j s) (q ∷ qs) i o g e =
    omega (
      arith,
      count_f_append (indexed i (decorators j)) (of_parameters (suc i) s),
      count_f_append (indexed i (decorators k)) (of_parameters (suc i) r),
      indexed_count i (decorators j),
      indexed_count i (decorators k),
      like_count (decorators k) (decorators j) (like_decorators k j (e.2 (parameter_keeps q l o.0 g.0))),
      like_rows r s qs (suc i) o.1 g.2 e.3,
    )

pub like_parameters : (f h : Trees) (qs : List Slot) → Fits qs f → Like f h → count_f (of_parameters 0 (parameters_of h)) ≡ count_f (of_parameters 0 (parameters_of f))
unfolding parameters_of is_plain lookup
like_parameters f h qs g e =
    let a = parameters_are f qs g in like_rows (kids_of 36 f) (kids_of 36 h) a.slots 0 a.of a.fits (like_kids 36 tt f h e)

-- and so has the first constructor
constructor_keeps : (l : Label) → is_constructor l ≡ true → keeps (role_of l) ≡ true
unfolding is_constructor is bit keeps
constructor_keeps l =
    role_case (λ r. (eqb l.kind 30 && bit bit1 l) ≡ true → keeps r ≡ true) l
    (λ e f. absurd (never (rw e at f))) (λ e f. absurd (never (rw e at f))) (λ e f. absurd (never (rw e at f))) (λ e f. absurd (never (rw e at f)))
    (λ e f. absurd (never (rw e at f))) (λ e f. absurd (never (rw e at f))) (λ e f. either (bit bit1 l) (rw e at f)) (λ e f. absurd (never (rw e at f)))
    (λ e f. absurd (never (rw e at f))) (λ n f. refl)
  where
    either : (b : Bool) → b ≡ true → keeps (cond b constructor method) ≡ true
    either true e = refl
    either false e = absurd (never e)

like_first_if : (x y : Bool) (k j f h : Trees) → y ≡ x → (x ≡ true → count_f j ≡ count_f k) → count_f h ≡ count_f f → count_f (cond y j h) ≡ count_f (cond x k f)
like_first_if true true k j f h e a b = a refl
like_first_if true false k j f h e a b = absurd (never e)
like_first_if false true k j f h e a b = absurd (never (sym e))
like_first_if false false k j f h e a b = b

pub like_first : (f h : Trees) (qs : List Slot) → Fits qs f → Like f h → count_f (first_constructor h) ≡ count_f (first_constructor f)
unfolding Fits Like first_constructor
like_first end end qs g e = refl
like_first end (node m j s) qs g e = absurd e
like_first (node l k r) end qs g e = absurd e
like_first (node l k r) (node m j s) [] g e = absurd g
like_first (node l k r) (node m j s) (q ∷ qs) g e =
    like_first_if (is_constructor l) (is_constructor m) _ _ (first_constructor r) (first_constructor s) e.1
    (λ x. like_parameters k j (slots_below q l.kind l.payload) g.1 (e.2 (constructor_keeps l x))) (like_first r s qs g.2 e.3)

-- rule 6's replacement changes neither
reference_kind : (k : ℕ) (z : Bool) → ((eqb k 9 || eqb k 18) && z) ≡ true → eqb k 30 ≡ false
reference_kind k z h = go (eqb k 9) (eqb k 18) refl refl h
  where
    go : (a b : Bool) → eqb k 9 ≡ a → eqb k 18 ≡ b → ((a || b) && z) ≡ true → eqb k 30 ≡ false
    go true b e f h = rw (eqb-true k 9 e)
    go false true e f h = rw (eqb-true k 18 f)
    go false false e f h = absurd (never h)

module _ (c b : ℕ) where
  alias_kind : (m : Label) → (to_alias c b m).kind ≡ m.kind
  unfolding to_alias
  alias_kind m = either (is_ref c m)
    where
      either : (x : Bool) → (cond x (repay m b) m).kind ≡ m.kind
      either true = unfold repay in refl
      either false = refl

  alias_constructor : (m : Label) → is_constructor (to_alias c b m) ≡ is_constructor m
  unfolding to_alias is_constructor is
  alias_constructor m = go (is_ref c m) refl
    where
      go : (x : Bool) → is_ref c m ≡ x → (eqb (cond x (repay m b) m).kind 30 && bit bit1 (cond x (repay m b) m)) ≡ (eqb m.kind 30 && bit bit1 m)
      go true e = unfold is_ref is repay in rw (reference_kind m.kind (eqb m.payload c) e)
      go false e = refl

  pub like_alias : (f h : Trees) → Like f h → Like f (map_f (to_alias c b) h)
  unfolding Like map_f
  like_alias end end e = tt
  like_alias end (node m j s) e = absurd e
  like_alias (node l k r) end e = absurd e
  like_alias (node l k r) (node m j s) e = (alias_kind m ∙ e.0, alias_constructor m ∙ e.1, λ x. like_alias k j (e.2 x), like_alias r s e.3)

pub like_renamed : (c : ℕ) (alias : Option ℕ) (f h : Trees) → Like f h → Like f (renamed c alias h)
unfolding renamed
like_renamed c none f h e = e
like_renamed c (some b) f h e = like_alias c b f h e
