-- Each record read stands at most once in what it became, and at least once but for dropped decorators. Assumes nothing.
use Rattle.std.specs.Prelude.{◌≡◌, ◌&&◌, ◌||◌}
use Rattle.std.proofs.Math.Path.{refl, ap}
use Rattle.std.proofs.Common.{sym, ◌∙◌, true≢false}
use Rattle.std.proofs.Math.Bool.{Bool, true, false, cond, not}
use Rattle.std.proofs.lemmas.Bool.{false≢true}
use Rattle.std.specs.declared.option.Option.{Option}
use Rattle.std.specs.declared.option.Option.TheVariants.{None as none, Some as some}
use mathlib.Core.List.{List, []}
use Prim.Native.Nat.{ℕ, zero, suc, ◌+◌, ◌≤◌}
use native.Mathlib.Omega.{arith}
use Rattle.words.specs.Word.{bit0}
use Rattle.records.specs.Forest.{end, node, take_f, drop_f, append_f, map_f, count_f, drop_f_suc}
use Rattle.records.specs.Label.{Label, Origin, made, read, Trees, ◌∶◌, repay, become, is, bit}
use Rattle.rewriting.specs.Parts.{tree, is_empty, recount, kids_of, change_kids, Role, module', list, statement, expression, method, constructor, plain, field, role_of, decorators, undecorate, indexed, of_parameters, parameters_of, bare_parameters, bare_method, bare_field, decorators_of, is_constructor, is_decorated_member, has_plain_key, elements_of, with_elements, id_of, has_private_in, has_static, first_constructor, bare_first, is_decorated, is_live, class_kids}
use Rattle.rewriting.specs.Visit.{Result, Taken, Named, Symbols, kept, own, work, since, inside, entering, visit, visit_one, visit_end, member, member_if, called₁, called₂, class_symbol, name_of, name_if, plain_name, prefix, array, member_call, with_key, to_alias, renamed, symbols_of, aliased, assignment, block_alias, let_alias, alias_block, call_block, queued, export, first_payload, with_id, decorated_statement, decorated₁, decorated₂, name_class, extend_body, undecorated_if, live_class_if, live_class, dead_class, class_if, whole_module}
use Rattle.rewriting.specs.declared.Around.{Around}
use Rattle.rewriting.specs.declared.State.{State}
use Rattle.rewriting.specs.Demand.{same, is_at, count_at, dropped_at, dropped, Below, AsVisited}
use Rattle.rewriting.proofs.DemandShapes.{is_other, member_role, member_role_lem, statement_role, statement_role_lem, descriptor_of, descriptor_made, ClassOnly, Shape, Shaped}
use Rattle.rewriting.proofs.DemandVisits.{one_as, one_role_lem, visit_here, visit_calls, method_each, field_each, class_if_without_calls, append_ends}
use Rattle.rewriting.proofs.DemandClasses.{Bodies, first_each, has_body, ClassVisited, class_visited, class_bodies}
use Rattle.rewriting.proofs.DemandRenaming.{alias_from, alias_decorators, alias_constructor, renamed_first}
use Rattle.rewriting.proofs.DemandBehind.{body_undecorate, body_id, with_default, default_body}

-- ---- what is dropped, by the role

unfoldable pub dropped_by : Role → Bool → Trees → Trees
dropped_by module' live k = end
dropped_by list live k = end
dropped_by statement live k = cond (is_live k && has_private_in (class_kids k)) (append_f (decorators (class_kids k)) (first_constructor (elements_of (class_kids k)))) end
dropped_by expression live k = end
dropped_by method live k = cond live end (decorators_of method k)
dropped_by constructor live k = end
dropped_by plain live k = end
dropped_by (field d) live k = cond live end (decorators k)

swapped : (b : Bool) (f : Trees) → cond (not b) f end ≡ cond b end f
swapped true f = refl
swapped false f = refl

dropped_as : (r : Role) (live : Bool) (k : Trees) →
    cond (statement_role r && is_live k && has_private_in (class_kids k)) (append_f (decorators (class_kids k)) (first_constructor (elements_of (class_kids k))))
    (cond (member_role r && not live) (decorators_of r k) end) ≡ dropped_by r live k
unfolding statement_role member_role dropped_by decorators_of
dropped_as module' live k = refl
dropped_as list live k = refl
dropped_as statement live k = refl
dropped_as expression live k = refl
dropped_as method live k = swapped live (decorators_of method k)
dropped_as constructor live k = refl
dropped_as plain live k = refl
dropped_as (field d) live k = swapped live (decorators k)

pub dropped_by_lem : (live : Bool) (l : Label) (k : Trees) → dropped_at live l k ≡ dropped_by (role_of l) live k
unfolding dropped_at
dropped_by_lem live l k = rw (statement_role_lem l, member_role_lem l) (dropped_as (role_of l) live k)

-- ---- a class that isn't live queues nothing

member_dead : (b x : Bool) (around : Around) (l : Label) (k bare entries : Trees) (d : Label) (a : Result) → b ≡ false → (member_if (b && x) around l k bare entries d a).calls ≡ a.calls
unfolding member_if
member_dead true x around l k bare entries d a e = absurd (true≢false e)
member_dead false x around l k bare entries d a e = refl

dead_as : (r : Role) (around : Around) (l : Label) (k : Trees) (s : State) → around.live ≡ false →
    ((s : State) → (visit around k s).calls ≡ end) → (one_as r around l k s).calls ≡ end
unfolding one_as work since own kept dead_class member inside entering
dead_as module' around l k s e h = h s
dead_as list around l k s e h = h s
dead_as statement around l k s e h = (class_if_without_calls (is_live k) l k s.default _).calls
dead_as expression around l k s e h = refl
dead_as method around l k s e h = member_dead around.live _ around l k _ _ (13 ∶ 0) _ e ∙ h s
dead_as constructor around l k s e h = h s
dead_as plain around l k s e h = h s
dead_as (field d) around l k s e h = member_dead around.live _ around l k _ _ d _ e ∙ h s

pub dead_calls : (f : Trees) (around : Around) (s : State) → around.live ≡ false → (visit around f s).calls ≡ end
dead_calls end around s e = ap (λ (x : Result). x.calls) (visit_end around s)
dead_calls (node l k r) around s e =
    visit_calls around l k r s ∙ append_ends (visit_one around l k s).calls _
    (ap (λ (x : Result). x.calls) (one_role_lem around l k s) ∙ dead_as (role_of l) around l k s e (λ t. dead_calls k around t e))
    (dead_calls r around (visit_one around l k s).after e)

-- ---- the parts of a class whose decorators or id have changed

change_if : (b : Bool) (g : Trees → Trees) (l : Label) (k r x : Trees) → is 36 l ≡ b → decorators (cond b (node l (g k) r) (node l k x)) ≡ decorators (node l k r)
unfolding decorators
change_if true g l k r x e = rw (is_other 36 28 l refl e)
change_if false g l k r x e = refl

decorators_change : (g : Trees → Trees) (f : Trees) → decorators (change_kids 36 g f) ≡ decorators f
unfolding change_kids
decorators_change g end = refl
decorators_change g (node l k r) = change_if (is 36 l) g l k r (change_kids 36 g r) refl

id_decorators : (i : Option ℕ) (f : Trees) → decorators (with_id i f) ≡ decorators f
unfolding with_id decorators
id_decorators none f = refl
id_decorators (some i) end = refl
id_decorators (some i) (node l k r) = refl

id_elements : (i : Option ℕ) (f : Trees) → elements_of (with_id i f) ≡ elements_of f
unfolding with_id first_payload elements_of kids_of is repay
id_elements none f = refl
id_elements (some i) end = refl
id_elements (some i) (node l k end) = refl
id_elements (some i) (node l k (node m j r)) = refl

undecorate_elements_if : (b : Bool) (l : Label) (k r : Trees) → is 28 l ≡ b → elements_of (cond b (node (repay l 0) end r) (node l k r)) ≡ elements_of (node l k r)
unfolding elements_of kids_of repay is
undecorate_elements_if true l k r e = rw (is_other 28 29 l refl e)
undecorate_elements_if false l k r e = refl

pub undecorate_elements : (f : Trees) → elements_of (undecorate f) ≡ elements_of f
unfolding undecorate
undecorate_elements end = refl
undecorate_elements (node l k r) = undecorate_elements_if (is 28 l) l k r refl

-- every constructor's own 28 is empty (refusal 6)
abbrev pub Bare : Trees → Type 0
Bare end = Unit {0}
Bare (node e k r) = (is_constructor e ≡ true → decorators k ≡ end) × Bare r

pub bodies_bare : (f g : Trees) → Bodies f g → Bare g
bodies_bare end end h = tt
bodies_bare end (node m j g) h = absurd h
bodies_bare (node e k f) end h = absurd h
bodies_bare (node e k f) (node m j g) h = (λ c. (h.1 (sym h.0 ∙ c)).2, bodies_bare f g h.2)

-- renaming leaves them empty
renamed_bare : (c : ℕ) (alias : Option ℕ) (f : Trees) → Bare f → Bare (renamed c alias f)
unfolding renamed map_f
renamed_bare c none f h = h
renamed_bare c (some b) end h = tt
renamed_bare c (some b) (node e k r) h =
    (λ x. alias_decorators c b k ∙ ap (map_f (to_alias c b)) (h.0 (sym (alias_constructor c b e) ∙ x)), renamed_bare c (some b) r h.1)

-- ---- counting the records that were read at i

made_none : (i : ℕ) → is_at i made ≡ 0
unfolding is_at same
made_none i = refl

module _ (i : ℕ) where
  unfoldable pub w : Label → ℕ
  w l = is_at i l.from

  pub count_append : (f g : Trees) → count_at i (append_f f g) ≡ count_at i f + count_at i g
  unfolding count_at append_f
  count_append end g = omega arith
  count_append (node l k r) g = omega (arith, count_append r g)

  count_tree : (k p : ℕ) (f : Trees) → count_at i (tree (k ∶ p) f) ≡ count_at i f
  unfolding count_at tree ◌∶◌
  count_tree k p f = omega (arith, made_none i)

  undecorate_if : (b : Bool) (l : Label) (k r : Trees) → count_at i (cond b (node (repay l 0) end r) (node l k r)) + count_at i (cond b k end) ≡ count_at i (node l k r)
  unfolding count_at repay
  undecorate_if true l k r = omega arith
  undecorate_if false l k r = omega arith

  pub count_undecorate : (f : Trees) → count_at i (undecorate f) + count_at i (decorators f) ≡ count_at i f
  unfolding undecorate decorators count_at
  count_undecorate end = omega arith
  count_undecorate (node l k r) = undecorate_if (is 28 l) l k r

  count_indexed : (j : ℕ) (f : Trees) → count_at i (indexed j f) ≡ count_at i f
  unfolding indexed count_at tree ◌∶◌
  count_indexed j end = refl
  count_indexed j (node l k r) = omega (arith, count_indexed j r, made_none i)

  count_parameters : (j : ℕ) (f : Trees) → count_at i (bare_parameters f) + count_at i (of_parameters j f) ≡ count_at i f
  unfolding bare_parameters of_parameters count_at
  count_parameters j end = omega arith
  count_parameters j (node l k r) =
      omega (arith, count_parameters (suc j) r, count_undecorate k, count_indexed j (decorators k), count_append (indexed j (decorators k)) (of_parameters (suc j) r))

  -- other elements for a class
  with_high_if : (b : Bool) (new : Trees) (l : Label) (k r x y : Trees) → count_at i x + count_at i y ≤ count_at i r + count_at i new →
      count_at i (cond b (node (recount l new) new r) (node l k x)) + count_at i (cond b k y) ≤ count_at i (node l k r) + count_at i new
  unfolding count_at recount repay
  with_high_if true new l k r x y h = omega arith
  with_high_if false new l k r x y h = omega arith

  pub with_high : (new f : Trees) → count_at i (with_elements new f) + count_at i (elements_of f) ≤ count_at i f + count_at i new
  unfolding with_elements elements_of kids_of
  with_high new end = unfold count_at in omega arith
  with_high new (node l k r) = with_high_if (is 29 l) new l k r (with_elements new r) (kids_of 29 r) (with_high new r)

  with_low_if : (b h : Bool) (new : Trees) (l : Label) (k r x y : Trees) → (b || h) ≡ true → (h ≡ true → count_at i r + count_at i new ≤ count_at i x + count_at i y) →
      count_at i (node l k r) + count_at i new ≤ count_at i (cond b (node (recount l new) new r) (node l k x)) + count_at i (cond b k y)
  unfolding count_at recount repay
  with_low_if true h new l k r x y e g = omega arith
  with_low_if false h new l k r x y e g = let z : count_at i r + count_at i new ≤ count_at i x + count_at i y = g e in omega arith

  pub with_low : (new f : Trees) → has_body f ≡ true → count_at i f + count_at i new ≤ count_at i (with_elements new f) + count_at i (elements_of f)
  unfolding with_elements elements_of kids_of has_body
  with_low new end h = absurd (false≢true h)
  with_low new (node l k r) h = with_low_if (is 29 l) (has_body r) new l k r (with_elements new r) (kids_of 29 r) h (with_low new r)

  change_count_if : (b : Bool) (l : Label) (k r x y : Trees) → count_at i x + count_at i (of_parameters 0 y) ≡ count_at i r →
      count_at i (cond b (node l (bare_parameters k) r) (node l k x)) + count_at i (of_parameters 0 (cond b k y)) ≡ count_at i (node l k r)
  unfolding count_at
  change_count_if true l k r x y h = omega (arith, count_parameters 0 k)
  change_count_if false l k r x y h = omega arith

  change_count : (f : Trees) → count_at i (change_kids 36 bare_parameters f) + count_at i (of_parameters 0 (parameters_of f)) ≡ count_at i f
  unfolding change_kids parameters_of kids_of
  change_count end = unfold of_parameters count_at in omega arith
  change_count (node l k r) = change_count_if (is 36 l) l k r (change_kids 36 bare_parameters r) (kids_of 36 r) (change_count r)

  pub count_method : (f : Trees) → count_at i (bare_method f) + count_at i (decorators_of method f) ≡ count_at i f
  unfolding bare_method decorators_of
  count_method f =
      let x : Trees = change_kids 36 bare_parameters f in
      omega (
        arith,
        count_undecorate x,
        ap (count_at i) (decorators_change bare_parameters f),
        count_append (decorators f) (of_parameters 0 (parameters_of f)),
        change_count f,
      )

  pub count_field : (f : Trees) → count_at i (bare_field f) + count_at i (decorators f) ≡ count_at i f
  unfolding bare_field
  count_field f = count_undecorate f

  pub count_take : (j : ℕ) (f : Trees) → count_at i (take_f j f) + count_at i (drop_f j f) ≡ count_at i f
  unfolding take_f drop_f count_at
  count_take zero f = omega arith
  count_take (suc j) end = omega arith
  count_take (suc j) (node l k r) = omega (arith, count_take j r)

  -- ---- members

  record Counted (f : Trees) (x : Named) : Type 0 where
    key : count_at i x.key ≡ count_at i f
    name : count_at i x.name ≡ 0

  plain_made : (a b : Bool) (l : Label) → count_at i (node (cond a (10 ∶ l.payload) (cond b (10 ∶ 0) (l.kind ∶ l.payload))) end end) ≡ 0
  unfolding count_at ◌∶◌
  plain_made true b l = omega (arith, made_none i)
  plain_made false true l = omega (arith, made_none i)
  plain_made false false l = omega (arith, made_none i)

  name_if_count : (b : Bool) (l : Label) (k : Trees) (s : State) → Counted (node l k end) (name_if b l k s)
  unfolding name_if
  name_if_count true l k s = record { key = unfold tree in refl; name = unfold tree plain_name in plain_made (is 34 l) (is 35 l) l }
  name_if_count false l k s = record { key = count_tree 18 s.next (tree l k) ∙ (unfold tree in refl); name = count_tree 9 s.next end ∙ (unfold count_at in refl) }

  name_of_count : (b : Bool) (f : Trees) (s : State) → Counted (take_f 1 f) (name_of b (take_f 1 f) s)
  unfolding name_of take_f count_at
  name_of_count b end s = record { key = refl; name = refl }
  name_of_count b (node l k r) s = name_if_count b l k s

  count_prefix : (c : ℕ) (b : Bool) → count_at i (prefix c b) ≡ 0
  unfolding prefix
  count_prefix c true = count_tree 9 c end ∙ (unfold count_at in refl)
  count_prefix c false = count_tree 24 0 (tree (9 ∶ c) end) ∙ count_tree 9 c end ∙ (unfold count_at in refl)

  count_call : (entries pre name : Trees) (d : Label) → w d ≡ 0 → count_at i (member_call entries pre name d) ≡ count_at i entries + count_at i pre + count_at i name
  unfolding member_call array w
  count_call entries pre name d e =
      let last : count_at i (tree d end) ≡ 0 = unfold count_at tree in omega arith in
      omega (
        arith,
        count_tree 2 0 (tree (22 ∶ 4) (append_f (array entries) (append_f pre (append_f name (tree d end))))),
        count_tree 22 4 (append_f (array entries) (append_f pre (append_f name (tree d end)))),
        count_append (array entries) (append_f pre (append_f name (tree d end))),
        count_tree 16 (count_f entries) entries,
        count_append pre (append_f name (tree d end)),
        count_append name (tree d end),
        last,
      )

  count_key : (key f : Trees) → count_at i key ≡ count_at i (take_f 1 (drop_f 1 f)) → count_at i (with_key key f) ≡ count_at i f
  unfolding with_key
  count_key key f h =
      omega (
        arith,
        count_append (take_f 1 f) (append_f key (drop_f 2 f)),
        count_append key (drop_f 2 f),
        count_take 1 f,
        count_take 1 (drop_f 1 f),
        ap (count_at i) (drop_f_suc 1 f),
      )

  unfoldable pub cost : Result → ℕ
  cost r = count_at i r.here + count_at i r.calls

  count_one : (l : Label) (k : Trees) → count_at i (tree l k) ≡ w l + count_at i k
  unfolding count_at tree w
  count_one l k = omega arith

  module _ (l : Label) (k bare entries : Trees) (d : Label) (a : Result) (mine : w d ≡ 0) where
    called_here : (t : Taken) (x : Named) → Counted (take_f 1 (drop_f 1 bare)) x → count_at i (called₂ l bare entries d a.calls t x).here ≡ w l + count_at i bare
    unfolding called₂
    called_here t x h = omega (arith, count_one l (with_key x.key bare), count_key x.key bare h.key)

    called_calls : (t : Taken) (x : Named) → Counted (take_f 1 (drop_f 1 bare)) x → count_at i (called₂ l bare entries d a.calls t x).calls ≡ count_at i a.calls + count_at i entries
    unfolding called₂
    called_calls t x h =
        omega (
          arith,
          count_append a.calls (member_call entries (prefix t.symbol (bit bit0 l)) x.name d),
          count_call entries (prefix t.symbol (bit bit0 l)) x.name d mine,
          count_prefix t.symbol (bit bit0 l),
          h.name,
        )

    -- what stays of a member, and its calls
    pub member_if_here : (b : Bool) (around : Around) → count_at i (member_if b around l k bare entries d a).here ≡ w l + count_at i bare
    unfolding member_if called₁
    member_if_here true around = let t : Taken = class_symbol around.id a.after.default a.after in called_here t _ (name_of_count (has_plain_key k) (drop_f 1 bare) t.after)
    member_if_here false around = count_one l bare

    pub member_if_calls : (b : Bool) (around : Around) → count_at i (member_if b around l k bare entries d a).calls ≡ count_at i a.calls + cond b (count_at i entries) 0
    unfolding member_if called₁
    member_if_calls true around = let t : Taken = class_symbol around.id a.after.default a.after in called_calls t _ (name_of_count (has_plain_key k) (drop_f 1 bare) t.after)
    member_if_calls false around = omega arith

  -- lost: the decorators of a member that makes no call
  member_if_count : (l : Label) (k bare entries : Trees) (d : Label) (a : Result) → w d ≡ 0 → count_at i bare + count_at i entries ≡ count_at i a.here → (b : Bool) (around : Around) →
      cost (member_if b around l k bare entries d a) + cond b 0 (count_at i entries) ≡ w l + cost a
  unfolding cost
  member_if_count l k bare entries d a mine parts true around = omega (arith, member_if_here l k bare entries d a mine true around, member_if_calls l k bare entries d a mine true around)
  member_if_count l k bare entries d a mine parts false around = omega (arith, member_if_here l k bare entries d a mine false around, member_if_calls l k bare entries d a mine false around)

  pub empty_count : (f : Trees) → is_empty f ≡ true → count_at i f ≡ 0
  unfolding is_empty count_at
  empty_count end e = refl
  empty_count (node l k r) e = absurd (false≢true e)

  -- ---- classes

  count_alias : (c b : ℕ) (f : Trees) → count_at i (map_f (to_alias c b) f) ≡ count_at i f
  unfolding map_f count_at
  count_alias c b end = refl
  count_alias c b (node l k r) = omega (arith, ap (is_at i) (alias_from c b l), count_alias c b k, count_alias c b r)

  pub count_renamed : (c : ℕ) (alias : Option ℕ) (f : Trees) → count_at i (renamed c alias f) ≡ count_at i f
  unfolding renamed
  count_renamed c none f = refl
  count_renamed c (some b) f = count_alias c b f

  constructor_count : (k : Trees) → count_at i (bare_method k) + count_at i (decorators k) + count_at i (of_parameters 0 (parameters_of k)) ≡ count_at i k
  unfolding decorators_of
  constructor_count k = omega (arith, count_method k, count_append (decorators k) (of_parameters 0 (parameters_of k)))

  first_high_if : (x : Bool) (l : Label) (k r : Trees) → count_at i (bare_first r) + count_at i (first_constructor r) ≤ count_at i r →
      count_at i (cond x (node l (bare_method k) r) (node l k (bare_first r))) + count_at i (cond x (of_parameters 0 (parameters_of k)) (first_constructor r)) ≤ count_at i (node l k r)
  unfolding count_at
  first_high_if true l k r h = omega (arith, constructor_count k)
  first_high_if false l k r h = omega arith

  pub first_high : (f : Trees) → count_at i (bare_first f) + count_at i (first_constructor f) ≤ count_at i f
  unfolding bare_first first_constructor count_at
  first_high end = omega arith
  first_high (node l k r) = first_high_if (is_constructor l) l k r (first_high r)

  first_low_if : (x : Bool) (l : Label) (k r : Trees) → (x ≡ true → decorators k ≡ end) → count_at i r ≤ count_at i (bare_first r) + count_at i (first_constructor r) →
      count_at i (node l k r) ≤ count_at i (cond x (node l (bare_method k) r) (node l k (bare_first r))) + count_at i (cond x (of_parameters 0 (parameters_of k)) (first_constructor r))
  unfolding count_at
  first_low_if true l k r e h = omega (arith, constructor_count k, ap (count_at i) (e refl))
  first_low_if false l k r e h = omega arith

  pub first_low : (f : Trees) → Bare f → count_at i f ≤ count_at i (bare_first f) + count_at i (first_constructor f)
  unfolding bare_first first_constructor count_at
  first_low end h = omega arith
  first_low (node l k r) h = first_low_if (is_constructor l) l k r h.0 (first_low r h.1)

  count_payload : (p : ℕ) (f : Trees) → count_at i (first_payload p f) ≡ count_at i f
  unfolding first_payload count_at repay
  count_payload p end = refl
  count_payload p (node l k r) = refl

  count_id : (o : Option ℕ) (f : Trees) → count_at i (with_id o f) ≡ count_at i f
  unfolding with_id count_at
  count_id none f = refl
  count_id (some p) end = refl
  count_id (some p) (node l k r) = omega (arith, count_payload p r)

  count_block : (alias : Option ℕ) → count_at i (alias_block alias) ≡ 0
  unfolding alias_block
  count_block none = unfold count_at in refl
  count_block (some b) =
      count_tree 33 1 (tree (2 ∶ 0) (tree (18 ∶ b) (tree (15 ∶ 0) end))) ∙ count_tree 2 0 (tree (18 ∶ b) (tree (15 ∶ 0) end)) ∙ count_tree 18 b (tree (15 ∶ 0) end) ∙ count_tree 15 0 end ∙ (unfold count_at in refl)

  count_aliased : (alias : Option ℕ) (e : Trees) → count_at i (aliased alias e) ≡ count_at i e
  unfolding aliased
  count_aliased none e = refl
  count_aliased (some b) e = count_tree 18 b e

  count_assignment : (c : ℕ) (alias : Option ℕ) (entries : Trees) → count_at i (assignment c alias entries) ≡ count_at i entries
  unfolding assignment array
  count_assignment c alias entries =
      let call : Trees = tree (22 ∶ 2) (append_f (array entries) (tree (9 ∶ c) end)) in
      let last : count_at i (tree (9 ∶ c) end) ≡ 0 = count_tree 9 c end ∙ (unfold count_at in refl) in
      omega (
        arith,
        count_tree 2 0 (tree (18 ∶ c) (aliased alias call)),
        count_tree 18 c (aliased alias call),
        count_aliased alias call,
        count_tree 22 2 (append_f (array entries) (tree (9 ∶ c) end)),
        count_append (array entries) (tree (9 ∶ c) end),
        count_tree 16 (count_f entries) entries,
        last,
      )

  count_export : (p c : ℕ) → count_at i (export p c) ≡ 0
  unfolding export
  count_export zero c = unfold count_at in refl
  count_export (suc zero) c = count_tree 6 c end ∙ (unfold count_at in refl)
  count_export (suc (suc p)) c = count_tree 7 c end ∙ (unfold count_at in refl)

  count_statement : (priv : Bool) (l : Label) (c : ℕ) (alias : Option ℕ) (cls : Trees) → count_at i (decorated_statement priv l c alias cls) ≡ w l + count_at i cls
  unfolding decorated_statement
  count_statement true l c alias cls = count_one l cls
  count_statement false l c alias cls =
      omega (arith, count_one (become l 5 c) (aliased alias (tree (20 ∶ 0) cls)), count_aliased alias (tree (20 ∶ 0) cls), count_tree 20 0 cls, own_from l c)
    where
      own_from : (l : Label) (c : ℕ) → w (become l 5 c) ≡ w l
      own_from l c = unfold w become in refl

  -- calls, in the block or in the queue; more: what is behind them in the queue, or lost
  count_placed : (priv : Bool) (calls more : Trees) → count_at i (call_block priv calls) + count_at i (queued priv (append_f calls more)) + cond priv (count_at i more) 0 ≡ count_at i calls + count_at i more
  unfolding call_block queued
  count_placed true calls more = unfold count_at in omega (arith, count_tree 33 (count_f calls) calls)
  count_placed false calls more = unfold count_at in omega (arith, count_append calls more)

  module _ (rk : Trees) (l c : Label) (ck calls : Trees) (s : Symbols) (els : Trees) (outside : Option ℕ) (same : count_at i els ≡ count_at i (elements_of ck)) where
    abbrev priv : Bool
    priv = has_private_in rk

    abbrev static : Bool
    static = has_static (elements_of rk)

    abbrev lost : ℕ
    lost = cond (has_private_in rk) (count_at i (decorators ck) + count_at i (first_constructor els)) 0

    abbrev body : Trees
    body = append_f (alias_block (block_alias s.alias (has_static (elements_of rk)))) (append_f (bare_first els) (call_block (has_private_in rk) calls))

    abbrev bare : Trees
    bare = undecorate (with_id s.inner ck)

    decorated_sum : count_at i (decorated₂ rk l c ck calls s els outside).here + lost + count_at i (call_block priv calls) ≡
        w l + w c + count_at i (with_elements body bare) + count_at i (decorators ck) + count_at i (first_constructor els) + count_at i calls
    unfolding decorated₂
    decorated_sum =
        let cls : Trees = tree c (with_elements body bare) in
        let entries : Trees = append_f (decorators ck) (first_constructor els) in
        let assign : Trees = assignment s.outer s.alias entries in
        let out : Trees = export l.payload s.outer in
        let stmt : Trees = decorated_statement priv l s.outer (let_alias s.alias static) cls in
        let more : count_at i (append_f assign out) ≡ count_at i (decorators ck) + count_at i (first_constructor els) =
        omega (arith, count_append assign out, count_assignment s.outer s.alias entries, count_append (decorators ck) (first_constructor els), count_export l.payload s.outer) in
        omega (
          arith,
          more,
          count_append stmt (queued priv (append_f calls (append_f assign out))),
          count_statement priv l s.outer (let_alias s.alias static) cls,
          count_one c (with_elements body bare),
          count_placed priv calls (append_f assign out),
          ap (λ x. cond priv x 0) more,
        )

    count_body : count_at i body ≡ count_at i (bare_first els) + count_at i (call_block priv calls)
    count_body =
        let block : Trees = alias_block (block_alias s.alias static) in
        let tail : Trees = append_f (bare_first els) (call_block priv calls) in
        omega (arith, count_append block tail, count_append (bare_first els) (call_block priv calls), count_block (block_alias s.alias static))

    count_bare : count_at i bare + count_at i (decorators ck) ≡ count_at i ck
    count_bare = omega (arith, count_undecorate (with_id s.inner ck), ap (count_at i) (id_decorators s.inner ck), count_id s.inner ck)

    bare_elements : count_at i (elements_of bare) ≡ count_at i (elements_of ck)
    bare_elements = ap (count_at i) (undecorate_elements (with_id s.inner ck) ∙ id_elements s.inner ck)

    pub decorated_high : count_at i (decorated₂ rk l c ck calls s els outside).here + lost ≤ w l + w c + count_at i ck + count_at i calls
    decorated_high = omega (arith, decorated_sum, with_high body bare, count_body, count_bare, bare_elements, first_high els, same)

    decorated_low : has_body ck ≡ true → Bare els → w l + w c + count_at i ck + count_at i calls ≤ count_at i (decorated₂ rk l c ck calls s els outside).here + lost
    decorated_low has bare' =
        omega (
          arith,
          decorated_sum,
          with_low body bare (body_undecorate (with_id s.inner ck) ∙ body_id s.inner ck ∙ has),
          count_body,
          count_bare,
          bare_elements,
          first_low els bare',
          same,
        )

  -- ---- undecorated classes

  count_queued : (priv : Bool) (calls : Trees) → count_at i (call_block priv calls) + count_at i (queued priv calls) ≡ count_at i calls
  unfolding call_block queued
  count_queued true calls = unfold count_at in omega (arith, count_tree 33 (count_f calls) calls)
  count_queued false calls = unfold count_at in omega arith

  count_default : (d : ℕ) (ck : Trees) → count_at i (with_default d ck) ≡ count_at i ck
  count_default d ck =
      let one : count_at i (node (27 ∶ d) end end) ≡ 0 = unfold count_at ◌∶◌ in omega (arith, made_none i) in
      omega (arith, count_append (take_f 1 ck) (append_f (node (27 ∶ d) end end) (drop_f 1 ck)), count_append (node (27 ∶ d) end end) (drop_f 1 ck), count_take 1 ck, one)

  -- the class with more elements, its id put in if it takes one
  extend_high_one : (more : Trees) (c : Label) (ck : Trees) → count_at i (extend_body more (node c ck end)) ≤ w c + count_at i ck + count_at i more
  unfolding extend_body count_at w
  extend_high_one more c ck = omega (arith, with_high (append_f (elements_of ck) more) ck, count_append (elements_of ck) more)

  extend_low_one : (more : Trees) (c : Label) (ck : Trees) → has_body ck ≡ true → w c + count_at i ck + count_at i more ≤ count_at i (extend_body more (node c ck end))
  unfolding extend_body count_at w
  extend_low_one more c ck h = omega (arith, with_low (append_f (elements_of ck) more) ck h, count_append (elements_of ck) more)

  extend_high : (id d : Option ℕ) (c : Label) (ck more : Trees) → count_at i (extend_body more (name_class id d c ck)) ≤ w c + count_at i ck + count_at i more
  unfolding name_class tree
  extend_high (some o) d c ck more = extend_high_one more c ck
  extend_high none none c ck more = extend_high_one more c ck
  extend_high none (some d) c ck more = omega (arith, extend_high_one more (repay c (suc c.payload)) (with_default d ck), count_default d ck, repaid c (suc c.payload))
    where
      repaid : (c : Label) (p : ℕ) → w (repay c p) ≡ w c
      repaid c p = unfold w repay in refl

  extend_low : (id d : Option ℕ) (c : Label) (ck more : Trees) → has_body ck ≡ true → w c + count_at i ck + count_at i more ≤ count_at i (extend_body more (name_class id d c ck))
  unfolding name_class tree
  extend_low (some o) d c ck more h = extend_low_one more c ck h
  extend_low none none c ck more h = extend_low_one more c ck h
  extend_low none (some d) c ck more h = omega (arith, extend_low_one more (repay c (suc c.payload)) (with_default d ck) (default_body d ck ∙ h), count_default d ck, repaid c (suc c.payload))
    where
      repaid : (c : Label) (p : ℕ) → w (repay c p) ≡ w c
      repaid c p = unfold w repay in refl

  two_nodes : (l c : Label) (ck : Trees) → count_at i (node l (node c ck end) end) ≡ w l + w c + count_at i ck
  unfolding count_at w
  two_nodes l c ck = omega arith

  a_node : (l : Label) (f : Trees) → count_at i (node l f end) ≡ w l + count_at i f
  unfolding count_at w
  a_node l f = omega arith

  undecorated_high : (b : Bool) (rk : Trees) (d : Option ℕ) (l c : Label) (ck calls : Trees) → count_at i (undecorated_if b rk d l c ck calls) ≤ w l + w c + count_at i ck + count_at i calls
  unfolding undecorated_if tree
  undecorated_high true rk d l c ck calls = omega (arith, two_nodes l c ck)
  undecorated_high false rk d l c ck calls =
      let priv : Bool = has_private_in rk in
      let x : Trees = extend_body (call_block priv calls) (name_class (id_of rk) d c ck) in
      omega (arith, count_append (node l x end) (queued priv calls), a_node l x, extend_high (id_of rk) d c ck (call_block priv calls), count_queued priv calls)

  undecorated_low : (b : Bool) (rk : Trees) (d : Option ℕ) (l c : Label) (ck calls : Trees) → is_empty calls ≡ b → has_body ck ≡ true →
      w l + w c + count_at i ck + count_at i calls ≤ count_at i (undecorated_if b rk d l c ck calls)
  unfolding undecorated_if tree
  undecorated_low true rk d l c ck calls e h = omega (arith, two_nodes l c ck, empty_count calls e)
  undecorated_low false rk d l c ck calls e h =
      let priv : Bool = has_private_in rk in
      let x : Trees = extend_body (call_block priv calls) (name_class (id_of rk) d c ck) in
      omega (arith, count_append (node l x end) (queued priv calls), a_node l x, extend_low (id_of rk) d c ck (call_block priv calls) h, count_queued priv calls)

  -- ---- class statements

  no_calls : (f : Trees) (x : List Label) (t : State) → cost (record { here = f; calls = end; fresh = x; after = t }) ≡ count_at i f
  unfolding cost count_at
  no_calls f x t = omega arith

  pub decorated_cost : (rk : Trees) (l c : Label) (ck calls : Trees) (s : Symbols) (outside : Option ℕ) →
      cost (decorated₁ rk l c ck calls s outside) ≡ count_at i (decorated₂ rk l c ck calls s (renamed s.outer s.alias (elements_of ck)) outside).here
  unfolding decorated₁ decorated₂
  decorated_cost rk l c ck calls s outside = no_calls (decorated₁ rk l c ck calls s outside).here s.fresh (record { next = s.next; default = outside })

  live_if_high : (b : Bool) (rk : Trees) (l c : Label) (ck calls : Trees) (s : State) (outside : Option ℕ) →
      cost (live_class_if b rk l c ck calls s outside) ≤ w l + w c + count_at i ck + count_at i calls
  unfolding live_class_if
  live_if_high true rk l c ck calls s outside =
      let y : Symbols = symbols_of (id_of rk) s.default s.next (elements_of ck) in
      omega (
        arith,
        decorated_cost rk l c ck calls y outside,
        decorated_high rk l c ck calls y (renamed y.outer y.alias (elements_of ck)) outside (count_renamed y.outer y.alias (elements_of ck)),
      )
  live_if_high false rk l c ck calls s outside =
      omega (
        arith,
        no_calls (undecorated_if (is_empty calls) rk s.default l c ck calls) [] (record { next = s.next; default = outside }),
        undecorated_high (is_empty calls) rk s.default l c ck calls,
      )

  live_high : (rk : Trees) (l : Label) (cls calls : Trees) (s : State) (outside : Option ℕ) → cost (live_class rk l cls calls s outside) ≤ w l + count_at i cls + count_at i calls
  unfolding live_class
  live_high rk l end calls s outside = omega (arith, no_calls (tree l end) [] (record { next = s.next; default = outside }), count_one l end)
  live_high rk l (node c ck r) calls s outside = let x = live_if_high (is_decorated rk) rk l c ck calls s outside in unfold count_at w in omega (arith, more x)
    where
      more : cost (live_class_if (is_decorated rk) rk l c ck calls s outside) ≤ w l + w c + count_at i ck + count_at i calls →
          cost (live_class_if (is_decorated rk) rk l c ck calls s outside) ≤ is_at i l.from + is_at i c.from + count_at i ck + count_at i calls
      more h = unfold w in h

  class_if_high : (b : Bool) (l : Label) (k : Trees) (outside : Option ℕ) (a : Result) → cost (class_if b l k outside a) ≤ w l + cost a
  unfolding class_if dead_class
  class_if_high true l k outside a = unfold cost in omega (arith, live_high (class_kids k) l a.here a.calls a.after outside)
  class_if_high false l k outside a = unfold cost count_at w tree in omega arith

  -- ---- the visit: nothing stands twice

  module_count : (l : Label) (f : Trees) (m : ℕ) → count_at i (whole_module l f m) ≡ w l + count_at i f
  unfolding whole_module count_at repay w tree
  module_count l end m = omega arith
  module_count l (node s sk r) m = omega arith

  -- the descriptor of a member is made
  pub role_made : (l : Label) → w (descriptor_of (role_of l)) ≡ 0
  unfolding w
  role_made l = ap (is_at i) (descriptor_made l) ∙ made_none i

  as_high : (r : Role) (around : Around) (l : Label) (k : Trees) (s : State) → w (descriptor_of r) ≡ 0 →
      cost (one_as r around l k s) ≤ w l + cost (visit (inside r around k) k (entering r s))
  unfolding one_as work since own kept dead_class member recount repay cost count_at w descriptor_of tree
  as_high module' around l k s m =
      let a : Result = visit (inside module' around k) k (entering module' s) in
      omega (arith, module_count l a.here a.after.next)
  as_high list around l k s m = omega arith
  as_high statement around l k s m = class_if_high (is_live k) l k s.default (visit (inside statement around k) k (entering statement s))
  as_high expression around l k s m = omega arith
  as_high method around l k s m =
      let a : Result = visit (inside method around k) k (entering method s) in
      omega (arith, member_if_count l k (bare_method a.here) (decorators_of method a.here) (13 ∶ 0) a m (count_method a.here) (around.live && is_decorated_member l k) around)
  as_high constructor around l k s m = omega arith
  as_high plain around l k s m = omega arith
  as_high (field d) around l k s m =
      let a : Result = visit (inside (field d) around k) k (entering (field d) s) in
      omega (arith, member_if_count l k (bare_field a.here) (decorators a.here) d a m (count_field a.here) (around.live && is_decorated_member l k) around)

  pub one_high : (around : Around) (l : Label) (k : Trees) (s : State) → cost (visit_one around l k s) ≤ w l + cost (visit (inside (role_of l) around k) k (entering (role_of l) s))
  one_high around l k s = rw one_role_lem (as_high (role_of l) around l k s (role_made l))

  pub cost_node : (around : Around) (l : Label) (k r : Trees) (s : State) →
      cost (visit around (node l k r) s) ≡ cost (visit_one around l k s) + cost (visit around r (visit_one around l k s).after)
  unfolding cost
  cost_node around l k r s =
      let o : Result = visit_one around l k s in
      let x : Result = visit around r o.after in
      omega (
        arith,
        ap (count_at i) (visit_here around l k r s),
        ap (count_at i) (visit_calls around l k r s),
        count_append o.here x.here,
        count_append o.calls x.calls,
      )

  cost_end : (around : Around) (s : State) → cost (visit around end s) ≡ 0
  cost_end around s = ap cost (visit_end around s) ∙ (unfold cost count_at in refl)

  pub cost_high : (f : Trees) (around : Around) (s : State) → cost (visit around f s) ≤ count_at i f
  unfolding count_at w
  cost_high end around s = omega (arith, cost_end around s)
  cost_high (node l k r) around s =
      omega (
        arith,
        cost_node around l k r s,
        one_high around l k s,
        cost_high k (inside (role_of l) around k) (entering (role_of l) s),
        cost_high r around (visit_one around l k s).after,
      )

  pub high : (f : Trees) (around : Around) (s : State) → count_at i (visit around f s).here + count_at i (visit around f s).calls ≤ count_at i f
  unfolding cost
  high f around s = cost_high f around s

  -- ---- the visit: nothing is lost but dropped decorators

  below_count : (o : Origin) (A : Type 0) (k j : Trees) → Below o A k j → (A → count_at i j ≤ count_at i k) → count_at i j ≤ count_at i k
  below_count made A k j v h = h v
  below_count (read n) A k j v h = omega (arith, ap (count_at i) v.2, high k v.0 v.1)

  pub each_count : (f g : Trees) → AsVisited f g → count_at i g ≤ count_at i f
  unfolding count_at
  each_count end end h = omega arith
  each_count end (node m j g) h = absurd h
  each_count (node l k f) end h = absurd h
  each_count (node l k f) (node m j g) h =
      omega (
        arith,
        each_count f g h.2,
        ap (λ (x : Label). is_at i x.from) h.0,
        below_count l.from (AsVisited k j) k j h.1 (each_count k j),
      )

  cond_count : (b : Bool) (f : Trees) → count_at i (cond b end f) ≡ cond b 0 (count_at i f)
  unfolding count_at
  cond_count true f = refl
  cond_count false f = refl

  if_count : (b : Bool) (f : Trees) → count_at i (cond b f end) ≡ cond b (count_at i f) 0
  unfolding count_at
  if_count true f = refl
  if_count false f = refl

  -- only what the class around, not live, drops
  lost_if : (live dec : Bool) (n m : ℕ) → n ≤ m → (dec ≡ false → m ≡ 0) → cond (live && dec) 0 n ≤ cond live 0 m
  lost_if true true n m h g = omega arith
  lost_if true false n m h g = let z : m ≡ 0 = g refl in omega arith
  lost_if false dec n m h g = h

  plain_none : (l : Label) (r : Role) (k : Trees) → role_of l ≡ r → member_role r ≡ true → is_decorated_member l k ≡ false → count_at i (decorators_of r k) ≡ 0
  unfolding is_decorated_member
  plain_none l r k e m h = empty_count (decorators_of r k) (flip (is_empty (decorators_of r k)) (rw (member_role_lem l, e, m) at h))
    where
      flip : (b : Bool) → not b ≡ false → b ≡ true
      flip true h = refl
      flip false h = absurd (true≢false h)

  seen : (b : Bool) (x y : ℕ) → x ≤ y → cond b x 0 ≤ cond b y 0
  seen true x y h = h
  seen false x y h = omega arith

  module _ (around : Around) (l c : Label) (ck : Trees) (a : Result) (v : ClassVisited around c ck a) (outside : Option ℕ) where
    entries_count : (y : Symbols) → count_at i (decorators v.kids) + count_at i (first_constructor (renamed y.outer y.alias (elements_of v.kids))) ≤
        count_at i (decorators ck) + count_at i (first_constructor (elements_of ck))
    entries_count y =
        let els : Trees = elements_of v.kids in
        omega (
          arith,
          each_count (decorators ck) (decorators v.kids) v.each,
          each_count (first_constructor (elements_of ck)) (first_constructor els) (first_each (elements_of ck) els (class_bodies around c ck a v)),
          ap (count_at i) (renamed_first y.outer y.alias els),
          count_renamed y.outer y.alias (first_constructor els),
        )

    shape_count : count_at i a.here ≡ w c + count_at i v.kids
    shape_count = ap (count_at i) v.shape ∙ a_node c v.kids

    live_if_low : (b : Bool) → w l + count_at i a.here + count_at i a.calls ≤
        cost (live_class_if b ck l c v.kids a.calls a.after outside) + cond (has_private_in ck) (count_at i (decorators ck) + count_at i (first_constructor (elements_of ck))) 0
    unfolding live_class_if
    live_if_low true =
        let els : Trees = elements_of v.kids in
        let y : Symbols = symbols_of (id_of ck) a.after.default a.after.next els in
        let p : Bool = has_private_in ck in
        omega (
          arith,
          shape_count,
          decorated_cost ck l c v.kids a.calls y outside,
          decorated_low ck l c v.kids a.calls y (renamed y.outer y.alias els) outside (count_renamed y.outer y.alias els) v.body
              (renamed_bare y.outer y.alias els (bodies_bare (elements_of ck) els (class_bodies around c ck a v))),
          seen p (count_at i (decorators v.kids) + count_at i (first_constructor (renamed y.outer y.alias els))) (count_at i (decorators ck) + count_at i (first_constructor (elements_of ck))) (entries_count y),
        )
    live_if_low false =
        omega (
          arith,
          shape_count,
          no_calls (undecorated_if (is_empty a.calls) ck a.after.default l c v.kids a.calls) [] (record { next = a.after.next; default = outside }),
          undecorated_low (is_empty a.calls) ck a.after.default l c v.kids a.calls refl v.body,
        )

  module _ (l c : Label) (ck : Trees) (s : State) (shape : ClassOnly (node c ck end)) (ok : Shaped (node c ck end)) (outside : Option ℕ) (live : Bool) where
    class_if_low : (b : Bool) → is_live (node c ck end) ≡ b →
        w l + cost (visit (record { live = is_live (node c ck end); id = id_of ck }) (node c ck end) s) ≤
        cost (class_if b l (node c ck end) outside (visit (record { live = is_live (node c ck end); id = id_of ck }) (node c ck end) s)) + count_at i (dropped_by statement live (node c ck end))
    unfolding class_if dead_class live_class dropped_by class_kids cost
    class_if_low false e =
        let k : Trees = node c ck end in
        let around : Around = record { live = is_live k; id = id_of ck } in
        unfold count_at w tree in omega (arith, ap (count_at i) (dead_calls k around s e))
    class_if_low true e =
        let k : Trees = node c ck end in
        let around : Around = record { live = is_live k; id = id_of ck } in
        let a : Result = visit around k s in
        let v : ClassVisited around c ck a = class_visited around c ck s shape.0 shape.1 ok.1 in
        let p : Bool = has_private_in ck in
        let d : Trees = append_f (decorators ck) (first_constructor (elements_of ck)) in
        let lost : count_at i (cond (is_live k && p) d end) ≡ cond p (count_at i (decorators ck) + count_at i (first_constructor (elements_of ck))) 0 =
        if_count (is_live k && p) d ∙ ap (λ (x : Bool). cond (x && p) (count_at i d) 0) e ∙ ap (λ (x : ℕ). cond p x 0) (count_append (decorators ck) (first_constructor (elements_of ck))) in
        omega (
          arith,
          lost,
          live_if_low around l c ck a v outside (is_decorated ck),
          ap (λ f. cost (live_class ck l f a.calls a.after outside)) v.shape,
        )

  statement_low : (around : Around) (l : Label) (k : Trees) (s : State) → ClassOnly k → Shaped k →
      w l + cost (visit (inside statement around k) k (entering statement s)) ≤ cost (one_as statement around l k s) + count_at i (dropped_by statement around.live k)
  unfolding one_as work since own inside entering cost class_kids
  statement_low around l end s h a = absurd h
  statement_low around l (node c ck end) s h a = class_if_low l c ck (record { next = s.next; default = none }) h a s.default around.live (is_live (node c ck end)) refl
  statement_low around l (node c ck (node x y z)) s h a = absurd h

  as_low : (r : Role) (around : Around) (l : Label) (k : Trees) (s : State) → role_of l ≡ r → w (descriptor_of r) ≡ 0 → Shape r k → Shaped k →
      w l + cost (visit (inside r around k) k (entering r s)) ≤ cost (one_as r around l k s) + count_at i (dropped_by r around.live k)
  as_low module' around l k s e m h g =
      let a : Result = visit (inside module' around k) k (entering module' s) in
      unfold one_as work since own cost dropped_by count_at w in omega (arith, module_count l a.here a.after.next)
  as_low list around l k s e m h g = unfold one_as work since own recount repay cost dropped_by count_at w tree in omega arith
  as_low statement around l k s e m h g = statement_low around l k s h.0 g
  as_low expression around l k s e m h g =
      unfold one_as work since own dead_class cost dropped_by count_at w tree in omega (arith, ap (count_at i) (dead_calls k (inside expression around k) (entering expression s) (unfold inside in refl)))
  as_low method around l k s e m h g =
      let a : Result = visit around k s in
      let es : Trees = decorators_of method a.here in
      let ds : Trees = decorators_of method k in
      unfold one_as work since own member cost dropped_by inside entering in omega (
        arith,
        member_if_count l k (bare_method a.here) es (13 ∶ 0) a (unfold descriptor_of in m) (count_method a.here) (around.live && is_decorated_member l k) around,
        lost_if around.live (is_decorated_member l k) (count_at i es) (count_at i ds) (each_count ds es (method_each k around s h.0)) (plain_none l method k e (unfold member_role in refl)),
        cond_count around.live ds,
      )
  as_low constructor around l k s e m h g = unfold one_as work since own kept cost dropped_by count_at w tree in omega arith
  as_low plain around l k s e m h g = unfold one_as work since own kept cost dropped_by count_at w tree in omega arith
  as_low (field d) around l k s e m h g =
      let a : Result = visit around k s in
      let es : Trees = decorators a.here in
      let ds : Trees = decorators k in
      unfold one_as work since own member cost dropped_by inside entering in omega (
        arith,
        member_if_count l k (bare_field a.here) es d a (unfold descriptor_of in m) (count_field a.here) (around.live && is_decorated_member l k) around,
        lost_if around.live (is_decorated_member l k) (count_at i es) (count_at i ds) (each_count ds es (field_each k around s h.0)) (unfold decorators_of in plain_none l (field d) k e (unfold member_role in refl)),
        cond_count around.live ds,
      )

  pub low : (f : Trees) (around : Around) (s : State) → Shaped f → count_at i f ≤ cost (visit around f s) + count_at i (dropped around f)
  unfolding count_at w dropped
  low end around s h = omega arith
  low (node l k r) around s h =
      let x : Trees = dropped_at around.live l k in
      let y : Trees = dropped (inside (role_of l) around k) k in
      omega (
        arith,
        cost_node around l k r s,
        ap cost (one_role_lem around l k s),
        as_low (role_of l) around l k s refl (role_made l) h.0 h.1,
        ap (count_at i) (dropped_by_lem around.live l k),
        low k (inside (role_of l) around k) (entering (role_of l) s) h.1,
        low r around (visit_one around l k s).after h.2,
        count_append x (append_f y (dropped around r)),
        count_append y (dropped around r),
      )
