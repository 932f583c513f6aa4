-- What is asked of members, constructors and classes, as tests of their rows and by their words. Assumes nothing.
use Rattle.std.specs.Prelude.{◌≡◌, Bool, ◌&&◌, ◌||◌, not, cond, List, ℕ, suc, ◌+◌, ◌-◌, ◌/◌, ◌%◌, ◌<◌, ◌≤◌, eqb, get_or}
use Rattle.std.proofs.Math.Path.{refl, ap, sym}
use Rattle.std.proofs.Common.{◌∙◌, arith}
use Rattle.std.proofs.Math.Bool.{true, false}
use Rattle.std.specs.declared.option.Option.TheVariants.{None as none, Some as some}
use borrow.Author.Tests.{eq-eqb, ne_eqb, eqb-true, eqb-false}
use Rattle.std.proofs.Math.ListN.{length}
use Rattle.std.specs.declared.option.Option.{Option}
use Rattle.words.specs.Kinds.{named, number_other}
use Rattle.words.specs.declared.kinds.Kind.{Kind}
use Rattle.words.specs.declared.kinds.Kind.TheVariants.{String, Number, Template, Null, Method, Property, AbstractAccessor, StaticBlock, Name, PrivateName}
use Rattle.words.specs.Word.{bit0, bit1, bit2, children, child_table}
use Rattle.words.specs.Table.{lookup}
use Rattle.records.specs.Forest.{end, node, take_f, drop_f, append_f}
use Rattle.records.specs.Label.{Label, Trees, is, bit, read_at, ◌∶◌}
use Rattle.records.specs.Place.{records_at, label_at, arity_at, kids_at, end_of, end_add, records_past, record_one, kids_past}
use Rattle.rewriting.specs.Parts.{is_empty, decorators, parameters_of, indexed, of_parameters, role_of, decorators_of, is_constructor, is_member, is_decorated_member, is_plain_key, first_is_plain, has_plain_key, symbol_if, id_of, has_static, constructor_decorated, first_constructor, bare_method, bare_first, is_live, class_kids}
use Rattle.inspect.specs.Row.{Test, any_row, count_row, before, or_left, or_right, before_place, before_others, before_row, by_end}
use Rattle.inspect.specs.Child.{SecondAt, arity_kind, kind_past, kind_within, kids_row}

-- ---- tests of records

-- decorators of its own
unfoldable pub has_decorators : Test
has_decorators l kids = not (is_empty (decorators kids))

unfoldable pub constructs : Test
constructs l kids = is_constructor l

-- a constructor with a decorated parameter
unfoldable pub is_decorated_constructor : Test
is_decorated_constructor l kids = is_constructor l && not (is_empty (of_parameters 0 (parameters_of kids)))

-- a static block, or a static property
unfoldable pub is_static : Test
is_static l kids = is 33 l || (is 31 l && bit bit0 l)

-- the decorated members of a row
unfoldable pub count_called : Trees → ℕ
count_called f = count_row is_decorated_member f

-- ---- rows by these tests

pub not_empty_append : (f g : Trees) → not (is_empty (append_f f g)) ≡ (not (is_empty f) || not (is_empty g))
unfolding is_empty append_f
not_empty_append end g = refl
not_empty_append (node l k r) g = refl

pub indexed_empty : (i : ℕ) (f : Trees) → is_empty (indexed i f) ≡ is_empty f
unfolding indexed is_empty
indexed_empty i end = refl
indexed_empty i (node l k r) = refl

pub parameters_any : (i : ℕ) (f : Trees) → not (is_empty (of_parameters i f)) ≡ any_row has_decorators f
unfolding of_parameters any_row has_decorators
parameters_any i end = unfold is_empty in refl
parameters_any i (node l k r) =
    not_empty_append (indexed i (decorators k)) (of_parameters (suc i) r)
    ∙ ap (λ (b : Bool). not b || not (is_empty (of_parameters (suc i) r))) (indexed_empty i (decorators k))
    ∙ ap (λ (b : Bool). not (is_empty (decorators k)) || b) (parameters_any (suc i) r)

pub constructors_any : (f : Trees) → constructor_decorated f ≡ any_row is_decorated_constructor f
unfolding constructor_decorated any_row is_decorated_constructor
constructors_any end = refl
constructors_any (node l k r) = ap ((is_constructor l && not (is_empty (of_parameters 0 (parameters_of k)))) ||◌) (constructors_any r)

pub static_any : (f : Trees) → has_static f ≡ any_row is_static f
unfolding has_static any_row is_static
static_any end = refl
static_any (node l k r) = ap ((is 33 l || (is 31 l && bit bit0 l)) ||◌) (static_any r)

-- the first constructor of a row
pub first_none : (f : Trees) → any_row constructs f ≡ false → first_constructor f ≡ end
unfolding first_constructor any_row constructs
first_none end e = refl
first_none (node l k r) e = rw (or_left (is_constructor l) (any_row constructs r) e) (first_none r (or_right (is_constructor l) (any_row constructs r) e))

pub first_here : (f : Trees) (l : Label) (kids rest : Trees) → any_row constructs f ≡ false → is_constructor l ≡ true →
    first_constructor (append_f f (node l kids rest)) ≡ of_parameters 0 (parameters_of kids)
unfolding first_constructor append_f any_row constructs
first_here end l kids rest e t = rw t
first_here (node m k r) l kids rest e t = rw (or_left (is_constructor m) (any_row constructs r) e) (first_here r l kids rest (or_right (is_constructor m) (any_row constructs r) e) t)

pub bare_none : (f : Trees) → any_row constructs f ≡ false → bare_first f ≡ f
unfolding bare_first any_row constructs
bare_none end e = refl
bare_none (node l k r) e = rw (or_left (is_constructor l) (any_row constructs r) e) (ap (node l k) (bare_none r (or_right (is_constructor l) (any_row constructs r) e)))

pub bare_here : (f : Trees) (l : Label) (kids rest : Trees) → any_row constructs f ≡ false → is_constructor l ≡ true →
    bare_first (append_f f (node l kids rest)) ≡ append_f f (node l (bare_method kids) rest)
unfolding bare_first append_f any_row constructs
bare_here end l kids rest e t = rw t
bare_here (node m k r) l kids rest e t =
    rw (or_left (is_constructor m) (any_row constructs r) e) (ap (node m k) (bare_here r l kids rest (or_right (is_constructor m) (any_row constructs r) e) t))

-- by its place: j elements stand before it
module _ (ws : List ℕ) (at k j : ℕ) (e : j ≡ before constructs k (records_at ws at)) where
  pub is_first : j < k → is_constructor (label_at ws (end_of ws at j)) ≡ true
  unfolding constructs
  is_first h = (before_place constructs ws at k j e h).1

  pub first_place : j < k → first_constructor (take_f k (records_at ws at)) ≡ of_parameters 0 (parameters_of (kids_at ws (end_of ws at j)))
  first_place h = ap first_constructor (before_row constructs ws at k j e h) ∙ first_here (take_f j (records_at ws at)) _ _ _ (before_others constructs ws at k j e) (is_first h)

-- ---- words: a constructor is one wherever it was read

pub constructor_at : (ws : List ℕ) (at w : ℕ) → w ≡ get_or ws at 0 → is_constructor (read_at 0 w) ≡ is_constructor (label_at ws at)
unfolding label_at is_constructor is bit read_at
constructor_at ws at w e = rw e

pub plain_read : (ws : List ℕ) (at w : ℕ) → w ≡ get_or ws at 0 → is_plain_key (read_at 0 w) ≡ is_plain_key (label_at ws at)
unfolding label_at is_plain_key is read_at
plain_read ws at w e = rw e

pub plain_kind : (l : Label) → is_plain_key l ≡ is_plain_key (l.kind ∶ 0)
unfolding is_plain_key is ◌∶◌
plain_kind l = refl

-- a key of none of the six kinds of rule 5
pub not_plain : {o : Option Kind} (l : Label) → o ≡ named l.kind → (o ≡ some String → ⊥) → (o ≡ some Number → ⊥) → (o ≡ some Template → ⊥) → (o ≡ some Null → ⊥) → (o ≡ some Name → ⊥) → (o ≡ some PrivateName → ⊥) →
    is_plain_key l ≡ false
unfolding is_plain_key is
not_plain l n a b c d e f =
    rw (ne_eqb _ 34 (number_other Name n e), ne_eqb _ 35 (number_other PrivateName n f), ne_eqb _ 10 (number_other String n a), ne_eqb _ 11 (number_other Number n b), ne_eqb _ 12 (number_other Template n c), ne_eqb _ 13 (number_other Null n d))

-- ---- members, by their kind

module _ (l : Label) (k : Trees) where
  pub member_31 : l.kind ≡ 31 → is_decorated_member l k ≡ not (is_empty (decorators k))
  unfolding is_decorated_member is_member is decorators_of role_of lookup
  member_31 e = rw e

  pub member_32 : l.kind ≡ 32 → is_decorated_member l k ≡ not (is_empty (decorators k))
  unfolding is_decorated_member is_member is decorators_of role_of lookup
  member_32 e = rw e

  pub member_field : 30 < l.kind → l.kind < 33 → is_decorated_member l k ≡ not (is_empty (decorators k))
  member_field a b = go (eqb l.kind 31) refl
    where
      go : (t : Bool) → eqb l.kind 31 ≡ t → is_decorated_member l k ≡ not (is_empty (decorators k))
      go true e = member_31 (eqb-true l.kind 31 e)
      go false e = let n : l.kind ≡ 31 → ⊥ = eqb-false l.kind 31 e in member_32 (omega (arith, n))

  pub member_method : l.kind ≡ 30 → is_constructor l ≡ false → is_decorated_member l k ≡ (not (is_empty (decorators k)) || not (is_empty (of_parameters 0 (parameters_of k))))
  unfolding is_decorated_member is_member is_constructor is decorators_of role_of lookup bit
  member_method e i =
      let b : bit bit1 l ≡ false = (rw e at i) in
      rw (e, b) (not_empty_append (decorators k) (of_parameters 0 (parameters_of k)))

  pub member_constructor : l.kind ≡ 30 → is_constructor l ≡ true → is_decorated_member l k ≡ false
  unfolding is_decorated_member is_member is_constructor is bit
  member_constructor e i =
      let b : bit bit1 l ≡ true = (rw e at i) in
      rw (e, b)

  pub member_apart : (l.kind ≡ 30 → ⊥) → (l.kind ≡ 31 → ⊥) → (l.kind ≡ 32 → ⊥) → is_decorated_member l k ≡ false
  unfolding is_decorated_member is_member is
  member_apart a b c = rw (ne_eqb _ 30 a, ne_eqb _ 31 b, ne_eqb _ 32 c)

  -- where the answer is none of the three kinds
  pub member_other : {o : Option Kind} → o ≡ named l.kind → (o ≡ some Method → ⊥) → (o ≡ some Property → ⊥) → (o ≡ some AbstractAccessor → ⊥) → is_decorated_member l k ≡ false
  member_other n a b c = member_apart (number_other Method n a) (number_other Property n b) (number_other AbstractAccessor n c)

  pub static_property : l.kind ≡ 31 → is_static l k ≡ eqb (l.payload % 2) 1
  unfolding is_static is bit bit0
  static_property e = rw e

  pub static_block : l.kind ≡ 33 → is_static l k ≡ true
  unfolding is_static is
  static_block e = rw e

  pub static_other : {o : Option Kind} → o ≡ named l.kind → (o ≡ some Property → ⊥) → (o ≡ some StaticBlock → ⊥) → is_static l k ≡ false
  unfolding is_static is
  static_other n a b = rw (ne_eqb _ 31 (number_other Property n a), ne_eqb _ 33 (number_other StaticBlock n b))

-- ---- the second child

row_plain : (f : Trees) → first_is_plain f ≡ first_is_plain (take_f 1 f)
unfolding first_is_plain take_f
row_plain end = refl
row_plain (node l k r) = refl

row_symbol : (f : Trees) → symbol_if f ≡ symbol_if (take_f 1 f)
unfolding symbol_if take_f
row_symbol end = refl
row_symbol (node l k r) = refl

symbol_node : (b : Bool) (l : Label) (kids rest : Trees) → is 27 l ≡ b → symbol_if (node l kids rest) ≡ cond b (some l.payload) none
unfolding symbol_if
symbol_node b l kids rest e = rw e

id_second : (f : Trees) → id_of f ≡ symbol_if (drop_f 1 f)
unfolding id_of symbol_if drop_f
id_second end = refl
id_second (node l k r) = refl

module _ (ws : List ℕ) (at r : ℕ) (s : SecondAt ws at r) where
  -- a key that gives a name as it stands
  pub key_second : is_plain_key (label_at ws r) ≡ has_plain_key (kids_at ws at)
  unfolding has_plain_key
  key_second = sym (row_plain (drop_f 1 (kids_at ws at)) ∙ ap first_is_plain (sym s.child) ∙ by_end ws r here past)
    where
      here : r < length ws → first_is_plain (take_f 1 (records_at ws r)) ≡ is_plain_key (label_at ws r)
      here l = ap first_is_plain (record_one ws r l) ∙ (unfold first_is_plain in refl)

      past : length ws ≤ r → first_is_plain (take_f 1 (records_at ws r)) ≡ is_plain_key (label_at ws r)
      past l =
          let none_read : first_is_plain (take_f 1 end) ≡ false = unfold first_is_plain take_f in refl in
          let none_plain : is_plain_key (0 ∶ 0) ≡ false = unfold is_plain_key is ◌∶◌ in refl in
          ap (λ (f : Trees). first_is_plain (take_f 1 f)) (records_past ws r l) ∙ none_read ∙ sym (plain_kind (label_at ws r) ∙ ap (λ (n : ℕ). is_plain_key (n ∶ 0)) (kind_past ws r l) ∙ none_plain)

  -- an id
  id_child : id_of (kids_at ws at) ≡ symbol_if (take_f 1 (records_at ws r))
  id_child = id_second (kids_at ws at) ∙ row_symbol (drop_f 1 (kids_at ws at)) ∙ ap symbol_if (sym s.child)

  pub id_here : (label_at ws r).kind ≡ 27 → id_of (kids_at ws at) ≡ some (label_at ws r).payload
  id_here e = id_child ∙ ap symbol_if (record_one ws r (kind_within ws r 26 e)) ∙ symbol_node true (label_at ws r) (kids_at ws r) end (unfold is in eq-eqb _ _ e)

  pub id_other : ((label_at ws r).kind ≡ 27 → ⊥) → id_of (kids_at ws at) ≡ none
  id_other h = id_child ∙ by_end ws r here past
    where
      here : r < length ws → symbol_if (take_f 1 (records_at ws r)) ≡ none
      here l = ap symbol_if (record_one ws r l) ∙ symbol_node false (label_at ws r) (kids_at ws r) end (unfold is in ne_eqb _ _ h)

      past : length ws ≤ r → symbol_if (take_f 1 (records_at ws r)) ≡ none
      past l = ap (λ (f : Trees). symbol_if (take_f 1 f)) (records_past ws r l) ∙ (unfold symbol_if take_f in refl)

-- ---- the body of a class, behind the 28, the id and the heritage that the flags say

module _ (ws : List ℕ) (at : ℕ) (e : (label_at ws at).kind ≡ 26) where
  body_count : arity_at ws at - 1 ≡ 1 + bit0 (label_at ws at).payload + bit2 (label_at ws at).payload
  unfolding children child_table lookup
  body_count = omega (arith, arity_kind ws at 26 e)

  pub body_bare : bit2 (label_at ws at).payload ≡ 0 → end_of ws (at + 1) (arity_at ws at - 1) ≡ end_of ws (at + 1) (1 + bit0 (label_at ws at).payload)
  body_bare z = ap (end_of ws (at + 1)) (omega (arith, body_count, z))

  pub body_inherited : bit2 (label_at ws at).payload ≡ 1 → end_of ws (at + 1) (arity_at ws at - 1) ≡ end_of ws (end_of ws (at + 1) (1 + bit0 (label_at ws at).payload)) 1
  body_inherited z = ap (end_of ws (at + 1)) (omega (arith, body_count, z)) ∙ end_add ws (at + 1) (1 + bit0 (label_at ws at).payload) 1

-- ---- the class of a statement

-- its class's children
pub class_place : (ws : List ℕ) (at : ℕ) → class_kids (take_f 1 (records_at ws at)) ≡ kids_at ws at
class_place ws at = by_end ws at here past
  where
    here : at < length ws → class_kids (take_f 1 (records_at ws at)) ≡ kids_at ws at
    here l = ap class_kids (record_one ws at l) ∙ (unfold class_kids in refl)

    past : length ws ≤ at → class_kids (take_f 1 (records_at ws at)) ≡ kids_at ws at
    past l =
        let none_read : class_kids (take_f 1 end) ≡ end = unfold take_f class_kids in refl in
        ap (λ (f : Trees). class_kids (take_f 1 f)) (records_past ws at l) ∙ none_read ∙ sym (kids_past ws at l)

module _ (ws : List ℕ) (at : ℕ) where
  pub class_row : (label_at ws at).kind ≡ 4 → kids_at ws at ≡ take_f 1 (records_at ws (at + 1))
  class_row e = sym (kids_row ws at 1 (sym (arity_kind ws at 4 e ∙ (unfold children child_table lookup in refl))))

  pub class_kids_lem : (label_at ws at).kind ≡ 4 → class_kids (kids_at ws at) ≡ kids_at ws (at + 1)
  class_kids_lem e = ap class_kids (class_row e) ∙ class_place ws (at + 1)

  -- rule 2
  pub live_here : at < length ws → is_live (take_f 1 (records_at ws at)) ≡ not (eqb ((label_at ws at).payload / 2 % 2) 1)
  live_here h = ap is_live (record_one ws at h) ∙ (unfold is_live bit bit1 in refl)

  pub live_past : length ws ≤ at → is_live (take_f 1 (records_at ws at)) ≡ false
  live_past h = ap (λ (f : Trees). is_live (take_f 1 f)) (records_past ws at h) ∙ (unfold is_live take_f in refl)
