-- The length of a rewritten module: at most 3 times the words of an accepted one. Assumes nothing.
use Rattle.std.specs.Prelude.{◌≡◌, Bool, cond, ◌&&◌, List, [], ◌∷◌, ℕ, zero, suc, ◌+◌, ◌*◌, ◌≤◌, length, eqb}
use Rattle.std.proofs.Math.Path.{refl, ap, subst}
use Rattle.std.proofs.Common.{◌∙◌, eqb-true}
use Rattle.std.proofs.Math.Bool.{true, false}
use Rattle.std.specs.declared.option.Option.{Option}
use Rattle.std.specs.declared.option.Option.TheVariants.{None as none, Some as some}
use native.Mathlib.Omega.{arith}
use Rattle.words.specs.Table.{lookup}
use Rattle.words.specs.Word.{bit0, bit1}
use Rattle.records.specs.Forest.{end, node, flat, size, count_size, take_f, drop_f, append_f, count_f, any_f, size_node, size_append, size_map, size_take_drop, count_f_append, drop_f_suc}
use Rattle.records.specs.Label.{Label, Trees, ◌∶◌, repay, become, is, bit, length_words}
use Rattle.grammar.specs.Grammar.{Slot, module' as moduleSlot, slot, row, table, row_of, slots, slots_below}
use Rattle.grammar.specs.Scan.{refusal, symbols_of as symbolCount}
use Rattle.grammar.specs.WellFormed.{Allowed, Fits}
use Rattle.grammar.proofs.Rows.{sole_kind}
use Rattle.rewriting.specs.Parts.{tree, is_empty, recount, kids_of, change_kids, module', list, statement, method, constructor, field, role_of, decorators, undecorate, parameters_of, indexed, of_parameters, bare_parameters, decorators_of, bare_method, bare_field, is_constructor, is_decorated_member, has_plain_key, elements_of, with_elements, id_of, has_private_in, has_static, first_constructor, bare_first, is_decorated, is_live, class_kids}
use Rattle.rewriting.specs.Visit.{Result, Taken, Named, class_symbol, plain_name, name_if, name_of, prefix, array, member_call, with_key, called₁, called₂, member_if, member, renamed, Symbols, symbols_of, named_symbols, is_ref, aliased, assignment, block_alias, let_alias, alias_block, call_block, queued, export, first_payload, with_id, decorated_statement, decorated₁, decorated₂, name_class, extend_body, undecorated_if, live_class_if, live_class, dead_class, class_if, whole_module, kept, own, since, work, inside, entering, join, ◌then◌, visit, outermost, module_of, visit_words, rewritten}
use Rattle.rewriting.specs.declared.Around.{Around}
use Rattle.rewriting.specs.declared.State.{State}
use Rattle.rewriting.specs.Answer.{module_words}
use Rattle.rewriting.proofs.Roles.{role_case, is_plain, plain_role, property_role, accessor_role}
use Rattle.rewriting.proofs.Fitting.{words_size, module_fits, Above, has_statements, deep_below, elements_are}
use Rattle.rewriting.proofs.Kept.{keeps, Like, like, like_parameters, like_first, like_kids, like_renamed, indexed_count}
use Rattle.rewriting.proofs.Spare.{grows, grows_method, grows_statement, grows_property, grows_accessor, field_decorated, sole, spare_still, spare_of, spare, spare_le, spare_none, method_room, property_room, accessor_room, Class, class_room}

none_size : size {A = Label} end ≡ 0
unfolding size flat
none_size = refl

one_size : (l : Label) (k : Trees) → size (tree l k) ≡ suc (size k)
unfolding tree
one_size l k = omega (arith, size_node l k end, none_size)

-- ---- decorators taken out

undecorate_size : (f : Trees) → size (undecorate f) + size (decorators f) ≡ size f
unfolding undecorate decorators
undecorate_size end = omega (arith, none_size)
undecorate_size (node l k r) = either (is 28 l)
  where
    either : (b : Bool) → size (cond b (node (repay l 0) end r) (node l k r)) + size (cond b k end) ≡ size (node l k r)
    either true = omega (arith, size_node (repay l 0) end r, size_node l k r, none_size)
    either false = omega (arith, none_size)

-- each is put under a 23
indexed_size : (i : ℕ) (f : Trees) → size (indexed i f) ≡ size f + count_f f
unfolding indexed count_f
indexed_size i end = omega arith
indexed_size i (node l k r) =
    omega (arith, indexed_size i r, size_node (23 ∶ i) (tree l k) (indexed i r), one_size l k, size_node l k r)

parameters_size : (i : ℕ) (f : Trees) → size (bare_parameters f) + size (of_parameters i f) ≡ size f + count_f (of_parameters i f)
unfolding bare_parameters of_parameters
parameters_size i end = unfold count_f in omega (arith, none_size)
parameters_size i (node l k r) =
    omega (
      arith,
      parameters_size (suc i) r,
      undecorate_size k,
      indexed_size i (decorators k),
      indexed_count i (decorators k),
      size_node l (undecorate k) (bare_parameters r),
      size_node l k r,
      size_append (indexed i (decorators k)) (of_parameters (suc i) r),
      count_f_append (indexed i (decorators k)) (of_parameters (suc i) r),
    )

-- the children of one record changed
change_size : (n : ℕ) (g : Trees → Trees) (f : Trees) → size (g end) ≡ 0 → size (change_kids n g f) + size (kids_of n f) ≡ size f + size (g (kids_of n f))
unfolding change_kids kids_of
change_size n g end z = omega (arith, none_size)
change_size n g (node l k r) z = either (is n l) (change_size n g r z)
  where
    either : (b : Bool) → size (change_kids n g r) + size (kids_of n r) ≡ size r + size (g (kids_of n r)) →
        size (cond b (node l (g k) r) (node l k (change_kids n g r))) + size (cond b k (kids_of n r)) ≡ size (node l k r) + size (g (cond b k (kids_of n r)))
    either true h = omega (arith, size_node l (g k) r, size_node l k r)
    either false h = omega (arith, size_node l k (change_kids n g r), size_node l k r)

-- a 36 is no 28
decorators_change : (g : Trees → Trees) (f : Trees) → decorators (change_kids 36 g f) ≡ decorators f
unfolding change_kids decorators is
decorators_change g end = refl
decorators_change g (node l k r) = go (eqb l.kind 36) refl
  where
    go : (b : Bool) → eqb l.kind 36 ≡ b → decorators (cond b (node l (g k) r) (node l k (change_kids 36 g r))) ≡ cond (eqb l.kind 28) k end
    go true e = unfold decorators is in rw (eqb-true l.kind 36 e)
    go false e = unfold decorators is in refl

method_size : (f : Trees) → size (bare_method f) + size (decorators_of method f) ≡ size f + count_f (of_parameters 0 (parameters_of f))
unfolding bare_method decorators_of parameters_of
method_size f =
    let bare : Trees = change_kids 36 bare_parameters f in
    omega (
      arith,
      undecorate_size bare,
      ap size (decorators_change bare_parameters f),
      change_size 36 bare_parameters f (unfold bare_parameters in none_size),
      parameters_size 0 (kids_of 36 f),
      size_append (decorators f) (of_parameters 0 (kids_of 36 f)),
    )

-- the first constructor gives up its parameters' decorators
first_size : (f : Trees) → size (bare_first f) + size (first_constructor f) ≤ size f + count_f (first_constructor f)
unfolding bare_first first_constructor
first_size end = unfold count_f in omega (arith, none_size)
first_size (node l k r) = either (is_constructor l) (first_size r)
  where
    either : (b : Bool) → size (bare_first r) + size (first_constructor r) ≤ size r + count_f (first_constructor r) →
        size (cond b (node l (bare_method k) r) (node l k (bare_first r))) + size (cond b (of_parameters 0 (parameters_of k)) (first_constructor r)) ≤
        size (node l k r) + count_f (cond b (of_parameters 0 (parameters_of k)) (first_constructor r))
    either true h = unfold decorators_of in
        omega (arith, method_size k, size_append (decorators k) (of_parameters 0 (parameters_of k)), size_node l (bare_method k) r, size_node l k r)
    either false h = omega (arith, size_node l k (bare_first r), size_node l k r)

-- ---- members

-- what a result holds
cost : Result → ℕ
cost r = size r.here + size r.calls

-- a key grows by at most one word, and the name is one word
record Named-by (f : Trees) (n : Named) : Type 0 where
  key : size n.key ≤ size f + 1
  name : size n.name ≤ 1

name_if_size : (b : Bool) (l : Label) (k r : Trees) (s : State) → Named-by (node l k r) (name_if b l k s)
unfolding name_if
name_if_size true l k r s = omega (arith, one_size l k, size_node l k r, one_size (plain_name l) end, none_size)
name_if_size false l k r s = omega (arith, one_size (18 ∶ s.next) (tree l k), one_size l k, size_node l k r, one_size (9 ∶ s.next) end, none_size)

name_size : (b : Bool) (f : Trees) (s : State) → Named-by f (name_of b f s)
unfolding name_of
name_size b end s = omega (arith, none_size)
name_size b (node l k r) s = name_if_size b l k r s

prefix_size : (c : ℕ) (b : Bool) → size (prefix c b) ≤ 2
unfolding prefix
prefix_size c true = omega (arith, one_size (9 ∶ c) end, none_size)
prefix_size c false = omega (arith, one_size (24 ∶ 0) (tree (9 ∶ c) end), one_size (9 ∶ c) end, none_size)

call_size : (entries pre name : Trees) (d : Label) → size (member_call entries pre name d) ≡ 4 + size entries + size pre + size name
unfolding member_call array
call_size entries pre name d =
    let behind : Trees = append_f pre (append_f name (tree d end)) in
    let args : Trees = append_f (tree (16 ∶ count_f entries) entries) behind in
    omega (
      arith,
      none_size,
      one_size (2 ∶ 0) (tree (22 ∶ 4) args),
      one_size (22 ∶ 4) args,
      size_append (tree (16 ∶ count_f entries) entries) behind,
      one_size (16 ∶ count_f entries) entries,
      size_append pre (append_f name (tree d end)),
      size_append name (tree d end),
      one_size d end,
    )

key_size : (key f : Trees) (c : ℕ) → size key ≤ size (take_f 1 (drop_f 1 f)) + c → size (with_key key f) ≤ size f + c
unfolding with_key
key_size key f c h =
    omega (
      arith,
      size_append (take_f 1 f) (append_f key (drop_f 2 f)),
      size_append key (drop_f 2 f),
      size_take_drop 1 f,
      size_take_drop 1 (drop_f 1 f),
      ap size (drop_f_suc 1 f),
    )

-- b: is it called
member_if_size : (b : Bool) (around : Around) (l : Label) (kids bare entries : Trees) (d : Label) (a : Result) →
    cost (member_if b around l kids bare entries d a) ≤ size bare + cond b (size entries) 0 + size a.calls + cond b 9 1
unfolding member_if called₁ called₂ cost
member_if_size true around l kids bare entries d a =
    let t : Taken = class_symbol around.id a.after.default a.after in
    let n : Named = name_of (has_plain_key kids) (take_f 1 (drop_f 1 bare)) t.after in
    let pre : Trees = prefix t.symbol (bit bit0 l) in
    let h : Named-by (take_f 1 (drop_f 1 bare)) n = name_size (has_plain_key kids) (take_f 1 (drop_f 1 bare)) t.after in
    omega (
      arith,
      one_size l (with_key n.key bare),
      key_size n.key bare 1 h.key,
      size_append a.calls (member_call entries pre n.name d),
      call_size entries pre n.name d,
      prefix_size t.symbol (bit bit0 l),
      h.name,
    )
member_if_size false around l kids bare entries d a = omega (arith, one_size l bare)

-- ---- classes

pub renamed_size : (c : ℕ) (alias : Option ℕ) (f : Trees) → size (renamed c alias f) ≡ size f
unfolding renamed
renamed_size c none f = refl
renamed_size c (some b) f = size_map _ f

first_payload_size : (p : ℕ) (f : Trees) → size (first_payload p f) ≡ size f
unfolding first_payload
first_payload_size p end = refl
first_payload_size p (node l k r) = omega (arith, size_node (repay l p) k r, size_node l k r)

id_size : (i : Option ℕ) (f : Trees) → size (with_id i f) ≡ size f
unfolding with_id
id_size none f = refl
id_size (some i) end = refl
id_size (some i) (node l k r) = omega (arith, size_node l k (first_payload i r), first_payload_size i r, size_node l k r)

id_decorators : (i : Option ℕ) (f : Trees) → decorators (with_id i f) ≡ decorators f
unfolding with_id decorators
id_decorators none f = refl
id_decorators (some i) end = refl
id_decorators (some i) (node l k r) = refl

first_payload_kids : (n p : ℕ) (f : Trees) → kids_of n (first_payload p f) ≡ kids_of n f
unfolding first_payload kids_of is repay
first_payload_kids n p end = refl
first_payload_kids n p (node l k r) = refl

id_kids : (n : ℕ) (i : Option ℕ) (f : Trees) → kids_of n (with_id i f) ≡ kids_of n f
unfolding with_id kids_of
id_kids n none f = refl
id_kids n (some i) end = refl
id_kids n (some i) (node l k r) = ap (cond (is n l) k) (first_payload_kids n i r)

-- a 28 is no 29
undecorate_elements : (f : Trees) → kids_of 29 (undecorate f) ≡ kids_of 29 f
unfolding undecorate kids_of is
undecorate_elements end = refl
undecorate_elements (node l k r) = go (eqb l.kind 28) refl
  where
    go : (b : Bool) → eqb l.kind 28 ≡ b → kids_of 29 (cond b (node (repay l 0) end r) (node l k r)) ≡ cond (eqb l.kind 29) k (kids_of 29 r)
    go true e = unfold kids_of is repay in rw (eqb-true l.kind 28 e)
    go false e = unfold kids_of is in refl

elements_size : (new f : Trees) → size (with_elements new f) + size (kids_of 29 f) ≤ size f + size new
unfolding with_elements kids_of
elements_size new end = omega (arith, none_size)
elements_size new (node l k r) = either (is 29 l) (elements_size new r)
  where
    either : (b : Bool) → size (with_elements new r) + size (kids_of 29 r) ≤ size r + size new →
        size (cond b (node (recount l new) new r) (node l k (with_elements new r))) + size (cond b k (kids_of 29 r)) ≤ size (node l k r) + size new
    either true h = omega (arith, size_node (recount l new) new r, size_node l k r)
    either false h = omega (arith, size_node l k (with_elements new r), size_node l k r)

-- the class of a decorated statement: other elements, no decorators
class_size : (ck : Trees) (inner : Option ℕ) (body : Trees) →
    size (with_elements body (undecorate (with_id inner ck))) + size (elements_of ck) + size (decorators ck) ≤ size ck + size body
unfolding elements_of
class_size ck inner body =
    let bare : Trees = undecorate (with_id inner ck) in
    omega (
      arith,
      elements_size body bare,
      ap size (undecorate_elements (with_id inner ck) ∙ id_kids 29 inner ck),
      undecorate_size (with_id inner ck),
      ap size (id_decorators inner ck),
      id_size inner ck,
    )

-- what an alias adds: it is assigned in front of the body or by the let, and by the class assignment
extra : Option ℕ → ℕ
extra none = 0
extra (some b) = 5

alias_size : (alias : Option ℕ) (static : Bool) (e g : Trees) →
    size (aliased (let_alias alias static) e) + size (alias_block (block_alias alias static)) + size (aliased alias g) ≤ size e + size g + extra alias
unfolding aliased let_alias block_alias alias_block extra
alias_size none true e g = omega (arith, none_size)
alias_size none false e g = omega (arith, none_size)
alias_size (some b) true e g =
    omega (
      arith,
      none_size,
      one_size (18 ∶ b) g,
      one_size (33 ∶ 1) (tree (2 ∶ 0) (tree (18 ∶ b) (tree (15 ∶ 0) end))),
      one_size (2 ∶ 0) (tree (18 ∶ b) (tree (15 ∶ 0) end)),
      one_size (18 ∶ b) (tree (15 ∶ 0) end),
      one_size (15 ∶ 0) end,
    )
alias_size (some b) false e g = omega (arith, none_size, one_size (18 ∶ b) e, one_size (18 ∶ b) g)

export_size : (p c : ℕ) → size (export p c) ≤ 1
unfolding export
export_size zero c = omega (arith, none_size)
export_size (suc zero) c = omega (arith, one_size (6 ∶ c) end, none_size)
export_size (suc (suc p)) c = omega (arith, one_size (7 ∶ c) end, none_size)

-- the statement, its alias and its queue; the calls stand in the queue or, by rule 9, in a block
placed_size : (priv : Bool) (l : Label) (c : ℕ) (alias : Option ℕ) (static : Bool) (p : ℕ) (cls entries calls : Trees) →
    size (decorated_statement priv l c (let_alias alias static) cls) + size (alias_block (block_alias alias static)) + size (call_block priv calls)
    + size (queued priv (append_f calls (append_f (assignment c alias entries) (export p c))))
    ≤ size cls + size entries + size calls + 8 + extra alias
unfolding decorated_statement call_block queued assignment array
placed_size true l c alias static p cls entries calls =
    omega (arith, none_size, one_size l cls, one_size (33 ∶ count_f calls) calls, alias_size alias static end end)
placed_size false l c alias static p cls entries calls =
    let let' : Trees = aliased (let_alias alias static) (tree (20 ∶ 0) cls) in
    let args : Trees = append_f (tree (16 ∶ count_f entries) entries) (tree (9 ∶ c) end) in
    let value : Trees = aliased alias (tree (22 ∶ 2) args) in
    omega (
      arith,
      none_size,
      one_size (become l 5 c) let',
      one_size (20 ∶ 0) cls,
      alias_size alias static (tree (20 ∶ 0) cls) (tree (22 ∶ 2) args),
      one_size (22 ∶ 2) args,
      size_append (tree (16 ∶ count_f entries) entries) (tree (9 ∶ c) end),
      one_size (16 ∶ count_f entries) entries,
      one_size (9 ∶ c) end,
      one_size (2 ∶ 0) (tree (18 ∶ c) value),
      one_size (18 ∶ c) value,
      size_append calls (append_f (tree (2 ∶ 0) (tree (18 ∶ c) value)) (export p c)),
      size_append (tree (2 ∶ 0) (tree (18 ∶ c) value)) (export p c),
      export_size p c,
    )

-- els: the elements visited, C replaced; w: their first constructor's entries
decorated_size : (rk : Trees) (l c : Label) (ck calls : Trees) (s : Symbols) (els : Trees) (outside : Option ℕ) → size els ≡ size (elements_of ck) →
    cost (decorated₂ rk l c ck calls s els outside) ≤ size ck + size calls + count_f (first_constructor els) + 9 + extra s.alias
unfolding decorated₂ cost
decorated_size rk l c ck calls s els outside e =
    let priv : Bool = has_private_in rk in
    let static : Bool = has_static (elements_of rk) in
    let block : Trees = alias_block (block_alias s.alias static) in
    let body : Trees = append_f block (append_f (bare_first els) (call_block priv calls)) in
    let new : Trees = with_elements body (undecorate (with_id s.inner ck)) in
    let entries : Trees = append_f (decorators ck) (first_constructor els) in
    let stmt : Trees = decorated_statement priv l s.outer (let_alias s.alias static) (tree c new) in
    let queue : Trees = queued priv (append_f calls (append_f (assignment s.outer s.alias entries) (export l.payload s.outer))) in
    omega (
      arith,
      none_size,
      size_append stmt queue,
      placed_size priv l s.outer s.alias static l.payload (tree c new) entries calls,
      one_size c new,
      class_size ck s.inner body,
      size_append block (append_f (bare_first els) (call_block priv calls)),
      size_append (bare_first els) (call_block priv calls),
      size_append (decorators ck) (first_constructor els),
      first_size els,
    )

-- an undecorated class: an id and a block at most
class_name_size : (id d : Option ℕ) (c : Label) (ck : Trees) → size (name_class id d c ck) ≤ size ck + 2
unfolding name_class
class_name_size (some i) d c ck = omega (arith, one_size c ck)
class_name_size none none c ck = omega (arith, one_size c ck)
class_name_size none (some d) c ck =
    let id : Trees = tree (27 ∶ d) end in
    let kids : Trees = append_f (take_f 1 ck) (append_f id (drop_f 1 ck)) in
    omega (
      arith,
      none_size,
      one_size (repay c (suc c.payload)) kids,
      size_append (take_f 1 ck) (append_f id (drop_f 1 ck)),
      size_append id (drop_f 1 ck),
      one_size (27 ∶ d) end,
      size_take_drop 1 ck,
    )

extend_size : (more f : Trees) → size (extend_body more f) ≤ size f + size more
unfolding extend_body elements_of
extend_size more end = omega arith
extend_size more (node c ck rest) =
    omega (
      arith,
      size_node c (with_elements (append_f (kids_of 29 ck) more) ck) rest,
      size_node c ck rest,
      elements_size (append_f (kids_of 29 ck) more) ck,
      size_append (kids_of 29 ck) more,
    )

block_size : (priv : Bool) (calls : Trees) → size (call_block priv calls) + size (queued priv calls) ≤ 1 + size calls
unfolding call_block queued
block_size true calls = omega (arith, one_size (33 ∶ count_f calls) calls, none_size)
block_size false calls = omega (arith, none_size)

undecorated_size : (b : Bool) (rk : Trees) (d : Option ℕ) (l c : Label) (ck calls : Trees) →
    size (undecorated_if b rk d l c ck calls) ≤ size ck + size calls + 4
unfolding undecorated_if
undecorated_size true rk d l c ck calls = omega (arith, one_size l (tree c ck), one_size c ck)
undecorated_size false rk d l c ck calls =
    let priv : Bool = has_private_in rk in
    let cls : Trees = extend_body (call_block priv calls) (name_class (id_of rk) d c ck) in
    omega (
      arith,
      size_append (tree l cls) (queued priv calls),
      one_size l cls,
      extend_size (call_block priv calls) (name_class (id_of rk) d c ck),
      class_name_size (id_of rk) d c ck,
      block_size priv calls,
    )

-- ---- a record in its slot: k its children as read, a as visited

module_size : (l : Label) (f : Trees) (n : ℕ) → size (whole_module l f n) ≡ suc (size f)
unfolding whole_module
module_size l end n = one_size l end
module_size l (node s sk rest) n =
    omega (arith, one_size (repay l (count_f rest)) (node (repay s n) sk rest), size_node (repay s n) sk rest, size_node s sk rest)

module _ (q : Slot) (l : Label) (k : Trees) (a : Result) (around : Around) (outside : Option ℕ)
    (fits : Fits (slots_below q l.kind l.payload) k) (few : cost a + spare k ≤ 3 * size k)
    (alike : Above 3 (slots_below q l.kind l.payload) → Like k a.here) where
  kept_length : (m : Label) → cost (record { here = tree m a.here; calls = a.calls; fresh = []; after = a.after }) + spare_of l (spare k) ≤ 3 + 3 * size k
  unfolding cost
  kept_length m = omega (arith, one_size m a.here, spare_le l (spare k), few)

  dead_length : cost (dead_class l a outside) + spare_of l (spare k) ≤ 3 + 3 * size k
  unfolding cost dead_class
  dead_length = omega (arith, one_size l a.here, spare_le l (spare k), few, none_size)

  whole_length : cost (own module' around l k outside a) + spare_of l (spare k) ≤ 3 + 3 * size k
  unfolding cost own
  whole_length = omega (arith, module_size l a.here a.after.next, spare_le l (spare k), few)

  -- the children have the kinds that were read
  read_kinds : (n : ℕ) → l.kind ≡ n → has_statements n ≡ false → Like k a.here
  read_kinds n e z = alike (deep_below q l.kind l.payload (ap has_statements e ∙ z))

  method_length : l.kind ≡ 30 → bit bit1 l ≡ false → cost (own method around l k outside a) + spare_of l (spare k) ≤ 3 + 3 * size k
  unfolding own member has_statements lookup
  method_length e n = either (around.live && is_decorated_member l k)
    where
      h : Trees
      h = a.here

      same : count_f (of_parameters 0 (parameters_of h)) ≡ count_f (of_parameters 0 (parameters_of k))
      same = like_parameters k h (slots_below q l.kind l.payload) fits (read_kinds 30 e refl)

      either : (b : Bool) → cost (member_if b around l k (bare_method h) (decorators_of method h) (13 ∶ 0) a) + spare_of l (spare k) ≤ 3 + 3 * size k
      either true = unfold cost in
          omega (
            arith,
            few,
            spare_none l (spare k) (grows_method l e n),
            member_if_size true around l k (bare_method h) (decorators_of method h) (13 ∶ 0) a,
            method_size h,
            same,
            method_room q l k e fits,
          )
      either false = unfold cost decorators_of in
          omega (
            arith,
            few,
            spare_none l (spare k) (grows_method l e n),
            member_if_size false around l k (bare_method h) (decorators_of method h) (13 ∶ 0) a,
            method_size h,
            size_append (decorators h) (of_parameters 0 (parameters_of h)),
            count_size (of_parameters 0 (parameters_of h)),
          )

  field_length : (d : Label) → grows l ≡ true → (is_decorated_member l k ≡ true → 6 ≤ spare k) → cost (own (field d) around l k outside a) + spare_of l (spare k) ≤ 3 + 3 * size k
  unfolding own member bare_field
  field_length d g room = either around.live (is_decorated_member l k) refl
    where
      h : Trees
      h = a.here

      either : (x y : Bool) → is_decorated_member l k ≡ y → cost (member_if (x && y) around l k (undecorate h) (decorators h) d a) + spare_of l (spare k) ≤ 3 + 3 * size k
      either true true e = unfold cost in
          omega (arith, few, spare_none l (spare k) g, member_if_size true around l k (undecorate h) (decorators h) d a, undecorate_size h, room e)
      either true false e = unfold cost in
          omega (arith, few, spare_none l (spare k) g, member_if_size false around l k (undecorate h) (decorators h) d a, undecorate_size h)
      either false y e = unfold cost in
          omega (arith, few, spare_none l (spare k) g, member_if_size false around l k (undecorate h) (decorators h) d a, undecorate_size h)

-- ---- a class statement: c the class's word, ck its children as read, h and calls as visited

module _ (x : Slot) (l c : Label) (ck : Trees) (outside : Option ℕ) (allow : Allowed x c) (class : x.category ≡ 5)
    (fits : Fits (slots_below x c.kind c.payload) ck) where
  kind26 : c.kind ≡ 26
  unfolding sole_kind lookup
  kind26 = sole x c 5 allow class tt

  spare_class : (r : Trees) → spare (node c ck r) ≡ 2 + spare ck + spare r
  spare_class r = spare_still x c ck r allow (λ e. omega (arith, class)) (λ e. omega (arith, class))

  -- m, j and r: the class as visited
  module _ (m : Label) (j r calls : Trees) (s : State) (alike : Like ck j) (few : size (node m j r) + size calls + spare (node c ck end) ≤ 3 * size (node c ck end)) where
    first_same : (y : ℕ) (alias : Option ℕ) → count_f (first_constructor (renamed y alias (elements_of j))) ≡ count_f (first_constructor (elements_of ck))
    unfolding elements_of is_plain lookup
    first_same y alias =
        let e = elements_are ck (slots_below x c.kind c.payload) fits in
        like_first (kids_of 29 ck) (renamed y alias (kids_of 29 j)) e.slots e.fits (like_renamed y alias (kids_of 29 ck) (kids_of 29 j) (like_kids 29 tt ck j alike))

    by_room : (n : ℕ) → n ≤ size j + size calls + 6 + spare ck → n ≤ 3 + 3 * size (node c ck end)
    by_room n h = omega (arith, few, size_node m j r, spare_class end)

    decorated_length : (y : Symbols) → count_f (first_constructor (elements_of ck)) + 3 + extra y.alias ≤ spare ck → cost (decorated₁ ck l m j calls y outside) ≤ 3 + 3 * size (node c ck end)
    unfolding decorated₁
    decorated_length y room =
        by_room (cost (decorated₂ ck l m j calls y (renamed y.outer y.alias (elements_of j)) outside))
        (omega (arith, decorated_size ck l m j calls y (renamed y.outer y.alias (elements_of j)) outside (renamed_size y.outer y.alias (elements_of j)), first_same y.outer y.alias, room))

    named_extra : (b : Bool) (y n : ℕ) → extra (named_symbols b y n).alias ≤ 5
    unfolding named_symbols extra
    named_extra true y n = omega arith
    named_extra false y n = omega arith

    -- only a class with an id has an alias
    symbols_room : (id d : Option ℕ) (n : ℕ) (els : Trees) → id_of ck ≡ id → Class ck → count_f (first_constructor (elements_of ck)) + 3 + extra (symbols_of id d n els).alias ≤ spare ck
    unfolding symbols_of extra
    symbols_room (some y) d n els e room = omega (arith, room.named y e, named_extra (any_f (is_ref y) els) y n)
    symbols_room none (some d) n els e room = omega (arith, room.any)
    symbols_room none none n els e room = omega (arith, room.any)

    live_if : (b : Bool) → is_decorated ck ≡ b → cost (live_class_if b ck l m j calls s outside) ≤ 3 + 3 * size (node c ck end)
    unfolding live_class_if
    live_if true e = decorated_length (symbols_of (id_of ck) s.default s.next (elements_of j)) (symbols_room (id_of ck) s.default s.next (elements_of j) refl (class_room x c ck kind26 fits e))
    live_if false e = unfold cost in by_room _ (omega (arith, undecorated_size (is_empty calls) ck s.default l m j calls, none_size))

  live_length : (h calls : Trees) (s : State) → Like (node c ck end) h → size h + size calls + spare (node c ck end) ≤ 3 * size (node c ck end) →
      cost (live_class ck l h calls s outside) ≤ 3 + 3 * size (node c ck end)
  unfolding Like live_class
  live_length end calls s e few = absurd e
  live_length (node m j r) calls s e few =
      live_if m j r calls s (e.2 (unfold keeps is_plain lookup in ap keeps (plain_role c 26 kind26 tt))) few (is_decorated ck) refl

class_length : (x : Slot) (l : Label) (k : Trees) (a : Result) (around : Around) (outside : Option ℕ) → x.category ≡ 5 → Fits (x ∷ []) k →
    cost a + spare k ≤ 3 * size k → Like k a.here → cost (own statement around l k outside a) ≤ 3 + 3 * size k
unfolding Fits own
class_length x l end a around outside e fits few alike = absurd fits
class_length x l (node c ck (node d dk r)) a around outside e fits few alike = absurd fits.2
class_length x l (node c ck end) a around outside e fits few alike = either (is_live (node c ck end))
  where
    either : (b : Bool) → cost (class_if b l (node c ck end) outside a) ≤ 3 + 3 * size (node c ck end)
    either true = unfold class_if class_kids in live_length x l c ck outside fits.0 e fits.1 a.here a.calls a.after alike (unfold cost in few)
    either false = unfold class_if dead_class cost in omega (arith, one_size l a.here, few, none_size)

-- ---- any record

node_length : (q : Slot) (l : Label) (k : Trees) (a : Result) (around : Around) (outside : Option ℕ) → Fits (slots_below q l.kind l.payload) k →
    cost a + spare k ≤ 3 * size k → (Above 3 (slots_below q l.kind l.payload) → Like k a.here) →
    cost (own (role_of l) around l k outside a) + spare_of l (spare k) ≤ 3 + 3 * size k
node_length q l k a around outside fits few alike =
    role_case (λ r. cost (own r around l k outside a) + spare_of l (spare k) ≤ 3 + 3 * size k) l
    (λ e. whole_length q l k a around outside fits few alike)
    list_length list_length list_length class
    (λ e. unfold own in dead_length q l k a around outside fits few alike)
    (λ e. method_or (bit bit1 l) refl e)
    (λ e. field_length q l k a around outside fits few alike (14 ∶ 0) (grows_property l e) (λ d. omega (arith, property_room q l k e fits, field_decorated l (14 ∶ 0) k (property_role l e) d)))
    (λ e. field_length q l k a around outside fits few alike (13 ∶ 0) (grows_accessor l e) (λ d. omega (arith, accessor_room q l k e fits, field_decorated l (13 ∶ 0) k (accessor_role l e) d)))
    (λ n. unfold own kept in kept_length q l k a around outside fits few alike l)
  where
    list_length : {n : ℕ} → l.kind ≡ n → cost (own list around l k outside a) + spare_of l (spare k) ≤ 3 + 3 * size k
    list_length e = unfold own in kept_length q l k a around outside fits few alike (recount l a.here)

    class : l.kind ≡ 4 → cost (own statement around l k outside a) + spare_of l (spare k) ≤ 3 + 3 * size k
    class e =
        let f : Fits (slot 5 l.payload ∷ []) k = unfold slots_below slots row_of lookup table row in subst (λ (n : ℕ). Fits (slots ((row_of n).below q.context l.payload)) k) e fits in
        let d : Above 3 (slots_below q l.kind l.payload) = unfold has_statements lookup in deep_below q l.kind l.payload (ap has_statements e) in
        omega (arith, class_length (slot 5 l.payload) l k a around outside refl f few (alike d), spare_none l (spare k) (grows_statement l e))

    method_or : (b : Bool) → bit bit1 l ≡ b → l.kind ≡ 30 → cost (own (cond b constructor method) around l k outside a) + spare_of l (spare k) ≤ 3 + 3 * size k
    method_or true z e = unfold own kept in kept_length q l k a around outside fits few alike l
    method_or false z e = method_length q l k a around outside fits few alike e z

-- what a forest that obeys the grammar gives has at most three times its words
visit_cost : (f : Trees) (qs : List Slot) (around : Around) (s : State) → Fits qs f → cost (visit around f s) + spare f ≤ 3 * size f
unfolding Fits visit ◌then◌ join work since cost spare
visit_cost end qs around s h = omega (arith, none_size)
visit_cost (node l k r) [] around s h = absurd h
visit_cost (node l k r) (q ∷ qs) around s h =
    let a : Result = visit (inside (role_of l) around k) k (entering (role_of l) s) in
    let b : Result = own (role_of l) around l k s.default a in
    let c : Result = visit around r b.after in
    omega (
      arith,
      node_length q l k a around s.default h.1 (visit_cost k (slots_below q l.kind l.payload) (inside (role_of l) around k) (entering (role_of l) s) h.1)
          (λ d. like k (slots_below q l.kind l.payload) (inside (role_of l) around k) (entering (role_of l) s) d h.1),
      visit_cost r qs around b.after h.2,
      size_append b.here c.here,
      size_append b.calls c.calls,
      size_node l k r,
    )

pub visit_length : (f : Trees) (qs : List Slot) (around : Around) (s : State) → Fits qs f → size (visit around f s).here ≤ 3 * size f
unfolding cost
visit_length f qs around s h = omega (arith, visit_cost f qs around s h)

-- ---- an accepted module

pub module_length : (ws : List ℕ) → refusal ws ≡ 0 → length (module_words ws) ≤ 3 * length ws
unfolding module_words rewritten visit_words size
module_length ws e =
    let s : State = record { next = symbolCount ws; default = none } in
    omega (
      arith,
      visit_length (module_of ws) (moduleSlot ∷ []) outermost s (module_fits ws e),
      length_words (flat (visit outermost (module_of ws) s).here),
      words_size ws,
    )
