-- The state behind one record: the next fresh symbol and the default symbol of the class around (rules 1 and 4 to 6). Assumes nothing.
use Rattle.std.specs.Prelude.{◌≡◌, Bool, true, ◌&&◌, cond}
use Rattle.std.proofs.Math.Path.{refl, ap}
use Rattle.std.proofs.Common.{◌∙◌}
use Rattle.std.proofs.Math.Bool.{false}
use Rattle.std.specs.declared.option.Option.{Option}
use Rattle.std.specs.declared.option.Option.TheVariants.{None as none, Some as some}
use Prim.Native.Nat.{ℕ, suc, ◌≤◌}
use native.Mathlib.Omega.{arith}
use Rattle.records.specs.Forest.{end, node, take_f, drop_f, append_f, count_f, any_f, count_f_append}
use Rattle.records.specs.Label.{Label, Trees, repay, is}
use Rattle.rewriting.specs.Parts.{Role, module' as module_role, list, statement, expression, method, constructor, plain, field, role_of, tree, undecorate, change_kids, bare_parameters, bare_method, bare_field, is_decorated_member, has_plain_key, elements_of, id_of, is_decorated, is_live, class_kids, is_empty}
use Rattle.rewriting.specs.Visit.{Result, class_symbol, name_if, name_of, called₁, called₂, member_if, member, is_ref, symbols_of, named_symbols, decorated₁, decorated₂, live_class_if, live_class, dead_class, class_if, kept, own, work, since, inside, entering, join, ◌then◌, whole_module, decorated_statement, undecorated_if, visit, visit_one, visit_node}
use Rattle.rewriting.specs.declared.Around.{Around}
use Rattle.rewriting.specs.declared.State.{State}
use Rattle.walk_laws.specs.Rows.{fresh}

-- ---- what a member and a class add

-- rule 5: a key that isn't plain takes a symbol
unfoldable pub key_after : Bool → State → State
key_after true s = s
key_after false s = record { next = suc s.next; default = s.default }

unfoldable pub member_after : Bool → Bool → Option ℕ → State → State
member_after false b id s = s
member_after true b id s = key_after b (class_symbol id s.default s).after

-- rule 6's search
unfoldable pub mentioned : Option ℕ → Trees → Bool
mentioned none f = false
mentioned (some c) f = any_f (is_ref c) f

unfoldable pub alias_after : Bool → ℕ → ℕ
alias_after true n = suc (suc n)
alias_after false n = suc n

unfoldable pub default_after : Option ℕ → ℕ → ℕ
default_after none n = suc n
default_after (some d) n = n

unfoldable pub decorated_after : Option ℕ → Bool → State → ℕ
decorated_after (some c) m s = alias_after m s.next
decorated_after none m s = default_after s.default s.next

-- rule 6: a live class; m: whether the search finds its symbol
unfoldable pub class_after : Bool → Option ℕ → Bool → State → ℕ
class_after true id m s = decorated_after id m s
class_after false id m s = s.next

symbols_after : (id d : Option ℕ) (n : ℕ) (f : Trees) → (symbols_of id d n f).next ≡ decorated_after id (mentioned id f) (record { next = n; default = d })
unfolding symbols_of decorated_after mentioned
symbols_after (some c) d n f = go (any_f (is_ref c) f)
  where
    go : (b : Bool) → (named_symbols b c n).next ≡ alias_after b n
    go true = unfold named_symbols alias_after in refl
    go false = unfold named_symbols alias_after in refl
symbols_after none none n f = unfold default_after in refl
symbols_after none (some d) n f = unfold default_after in refl

-- ---- by role

module _ (around : Around) (l : Label) (k : Trees) (s : State) where
  pub after_plain : role_of l ≡ plain → (visit_one around l k s).after ≡ (visit around k s).after
  unfolding visit_one work since
  after_plain e = rw e (unfold own kept inside entering in refl)

  pub after_constructor : role_of l ≡ constructor → (visit_one around l k s).after ≡ (visit around k s).after
  unfolding visit_one work since
  after_constructor e = rw e (unfold own kept inside entering in refl)

  pub after_list : role_of l ≡ list → (visit_one around l k s).after ≡ (visit around k s).after
  unfolding visit_one work since
  after_list e = rw e (unfold own inside entering in refl)

  pub after_module : role_of l ≡ module_role → (visit_one around l k s).after ≡ (visit around k s).after
  unfolding visit_one work since
  after_module e = rw e (unfold own inside entering in refl)

  pub after_expression : role_of l ≡ expression →
      (visit_one around l k s).after ≡ record { next = (visit (record { live = false; id = none }) k (fresh s.next)).after.next; default = s.default }
  unfolding visit_one work since
  after_expression e = rw e (unfold own dead_class inside entering fresh in refl)

  statement_own : role_of l ≡ statement → (visit_one around l k s).after ≡
      (class_if (is_live k) l k s.default (visit (record { live = is_live k; id = id_of (class_kids k) }) k (fresh s.next))).after
  unfolding visit_one work since
  statement_own e = rw e (unfold own inside entering fresh in refl)

  pub after_dead : role_of l ≡ statement → is_live k ≡ false → (visit_one around l k s).after ≡
      record { next = (visit (record { live = false; id = id_of (class_kids k) }) k (fresh s.next)).after.next; default = s.default }
  after_dead e d = statement_own e ∙ (rw d (unfold class_if dead_class in refl))

  live_after : (rk : Trees) (c : Label) (ck calls : Trees) (t : State) (b : Bool) → (live_class_if b rk l c ck calls t s.default).after ≡
      record { next = class_after b (id_of rk) (mentioned (id_of rk) (elements_of ck)) t; default = s.default }
  live_after rk c ck calls t true = unfold live_class_if decorated₁ decorated₂ class_after in
      ap (λ (n : ℕ). record { next = n; default = s.default }) (symbols_after (id_of rk) t.default t.next (elements_of ck))
  live_after rk c ck calls t false = unfold live_class_if class_after in refl

  -- a live class statement over one class, which is kept
  pub after_live : role_of l ≡ statement → is_live k ≡ true → (c : Label) (ck : Trees) →
      (visit (record { live = true; id = id_of (class_kids k) }) k (fresh s.next)).here ≡ tree c ck → (visit_one around l k s).after ≡
      record {
        next = class_after (is_decorated (class_kids k)) (id_of (class_kids k)) (mentioned (id_of (class_kids k)) (elements_of ck))
            (visit (record { live = true; id = id_of (class_kids k) }) k (fresh s.next)).after;
        default = s.default;
      }
  after_live e v c ck h =
      statement_own e ∙ (rw v (unfold class_if in rw h (unfold tree live_class in live_after (class_kids k) c ck _ _ (is_decorated (class_kids k)))))

-- ---- a member

-- every record becomes at least one
some_tree : (l : Label) (k f : Trees) → 1 ≤ count_f (append_f (tree l k) f)
unfolding tree append_f count_f
some_tree l k f = omega arith

one_tree : (l : Label) (k : Trees) → 1 ≤ count_f (tree l k)
unfolding tree count_f
one_tree l k = omega arith

some_statement : (b : Bool) (l : Label) (c : ℕ) (alias : Option ℕ) (cls f : Trees) → 1 ≤ count_f (append_f (decorated_statement b l c alias cls) f)
unfolding decorated_statement
some_statement true l c alias cls f = some_tree l cls f
some_statement false l c alias cls f = some_tree _ _ f

some_undecorated : (b : Bool) (rk : Trees) (d : Option ℕ) (l c : Label) (ck calls : Trees) → 1 ≤ count_f (undecorated_if b rk d l c ck calls)
unfolding undecorated_if
some_undecorated true rk d l c ck calls = one_tree _ _
some_undecorated false rk d l c ck calls = some_tree _ _ _

some_live : (b : Bool) (rk : Trees) (l c : Label) (ck calls : Trees) (s : State) (outside : Option ℕ) → 1 ≤ count_f (live_class_if b rk l c ck calls s outside).here
unfolding live_class_if decorated₁ decorated₂
some_live true rk l c ck calls s outside = some_statement _ l _ _ _ _
some_live false rk l c ck calls s outside = some_undecorated (is_empty calls) rk s.default l c ck calls

some_class : (b : Bool) (l : Label) (k : Trees) (outside : Option ℕ) (a : Result) → 1 ≤ count_f (class_if b l k outside a).here
unfolding class_if dead_class
some_class false l k outside a = one_tree _ _
some_class true l k outside a = go a.here
  where
    go : (f : Trees) → 1 ≤ count_f (live_class (class_kids k) l f a.calls a.after outside).here
    go end = unfold live_class in one_tree _ _
    go (node c ck r) = unfold live_class in some_live _ _ l c ck _ _ outside

some_member : (b : Bool) (around : Around) (l : Label) (k bare entries : Trees) (d : Label) (a : Result) → 1 ≤ count_f (member_if b around l k bare entries d a).here
unfolding member_if called₁ called₂
some_member true around l k bare entries d a = one_tree _ _
some_member false around l k bare entries d a = one_tree _ _

some_own : (r : Role) (around : Around) (l : Label) (k : Trees) (outside : Option ℕ) (a : Result) → 1 ≤ count_f (own r around l k outside a).here
unfolding own kept dead_class member
some_own module_role around l k outside a = go a.here
  where
    go : (f : Trees) → 1 ≤ count_f (whole_module l f a.after.next)
    go end = unfold whole_module in one_tree _ _
    go (node x y z) = unfold whole_module in one_tree _ _
some_own list around l k outside a = one_tree _ _
some_own statement around l k outside a = some_class (is_live k) l k outside a
some_own expression around l k outside a = one_tree _ _
some_own method around l k outside a = some_member _ around l k _ _ _ a
some_own constructor around l k outside a = one_tree _ _
some_own plain around l k outside a = one_tree _ _
some_own (field d) around l k outside a = some_member _ around l k _ _ _ a

some_one : (around : Around) (l : Label) (k : Trees) (s : State) → 1 ≤ count_f (visit_one around l k s).here
unfolding visit_one work since
some_one around l k s = some_own (role_of l) around l k s.default (visit (inside (role_of l) around k) k (entering (role_of l) s))

pub visit_count : (f : Trees) (around : Around) (s : State) → count_f f ≤ count_f (visit around f s).here
visit_count end around s = unfold count_f in omega arith
visit_count (node l k r) around s =
    let b : Result = visit_one around l k s in
    let e : (visit around (node l k r) s).here ≡ append_f b.here (visit around r b.after).here = ap (λ (x : Result). x.here) (visit_node around l k r s) ∙ (unfold ◌then◌ join in refl) in
    let n : count_f (node l k r) ≡ suc (count_f r) = unfold count_f in refl in
    omega (arith, ap count_f e, count_f_append b.here (visit around r b.after).here, some_one around l k s, visit_count r around b.after, n)

count_undecorate : (f : Trees) → count_f (undecorate f) ≡ count_f f
unfolding undecorate count_f
count_undecorate end = refl
count_undecorate (node l k r) = go (is 28 l)
  where
    go : (b : Bool) → count_f (cond b (node (repay l 0) end r) (node l k r)) ≡ suc (count_f r)
    go true = unfold count_f in refl
    go false = unfold count_f in refl

count_change : (n : ℕ) (g : Trees → Trees) (f : Trees) → count_f (change_kids n g f) ≡ count_f f
unfolding change_kids count_f
count_change n g end = refl
count_change n g (node l k r) = go (is n l) (count_change n g r)
  where
    go : (b : Bool) → count_f (change_kids n g r) ≡ count_f r → count_f (cond b (node l (g k) r) (node l k (change_kids n g r))) ≡ suc (count_f r)
    go true e = unfold count_f in refl
    go false e = unfold count_f in ap suc e

-- two trees or more have a second
keyed : (f : Trees) (b : Bool) (s : State) → 2 ≤ count_f f → (name_of b (take_f 1 (drop_f 1 f)) s).after ≡ key_after b s
unfolding take_f drop_f count_f
keyed end b s h = absurd (omega arith)
keyed (node l k end) b s h = absurd (omega arith)
keyed (node l k (node m j r)) b s h = go b
  where
    go : (b : Bool) → (name_of b (node m j end) s).after ≡ key_after b s
    go true = unfold name_of name_if key_after in refl
    go false = unfold name_of name_if key_after in refl

member_after_lem : (b : Bool) (around : Around) (l : Label) (k bare entries : Trees) (d : Label) (a : Result) → 2 ≤ count_f bare →
    (member_if b around l k bare entries d a).after ≡ member_after b (has_plain_key k) around.id a.after
unfolding member_if called₁ called₂ member_after
member_after_lem true around l k bare entries d a h = keyed bare (has_plain_key k) _ h
member_after_lem false around l k bare entries d a h = refl

module _ (around : Around) (l : Label) (k : Trees) (s : State) (two : 2 ≤ count_f k) where
  pub two_method : 2 ≤ count_f (bare_method (visit around k s).here)
  unfolding bare_method
  two_method = omega (arith, two, visit_count k around s, count_change 36 bare_parameters (visit around k s).here, count_undecorate (change_kids 36 bare_parameters (visit around k s).here))

  pub two_field : 2 ≤ count_f (bare_field (visit around k s).here)
  unfolding bare_field
  two_field = omega (arith, two, visit_count k around s, count_undecorate (visit around k s).here)

  pub after_method : role_of l ≡ method →
      (visit_one around l k s).after ≡ member_after (around.live && is_decorated_member l k) (has_plain_key k) around.id (visit around k s).after
  unfolding visit_one work since
  after_method e = rw e (unfold own inside entering member in member_after_lem (around.live && is_decorated_member l k) around l k _ _ _ (visit around k s) two_method)

  pub after_field : (d : Label) → role_of l ≡ field d →
      (visit_one around l k s).after ≡ member_after (around.live && is_decorated_member l k) (has_plain_key k) around.id (visit around k s).after
  unfolding visit_one work since
  after_field d e = rw e (unfold own inside entering member in member_after_lem (around.live && is_decorated_member l k) around l k _ _ _ (visit around k s) two_field)
