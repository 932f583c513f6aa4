-- Where a record of a class that is visited comes from: what rule 6 searches, or not. Assumes nothing.
use Rattle.std.specs.Prelude.{◌≡◌, true, false, cond, ◌&&◌, ℕ, zero, suc, ◌+◌, ◌≤◌}
use Rattle.std.proofs.Math.Path.{refl, ap}
use Rattle.std.proofs.Common.{sym, eqb-true}
use Rattle.std.proofs.Math.Bool.{Bool}
use Rattle.std.proofs.lemmas.Bool.{false≢true}
use native.Mathlib.Omega.{arith}
use Rattle.std.proofs.Math.Dec.{eqb}
use Rattle.records.specs.Forest.{end, node}
use Rattle.records.specs.Label.{Label, Origin, made, read, Trees, ◌∶◌, repay, is}
use Rattle.rewriting.specs.Parts.{tree, recount, Role, module', list, statement, expression, method, constructor, plain, field, role_of, decorators, undecorate, bare_parameters, bare_method, bare_field, decorators_of, is_member, is_decorated_member, elements_of, with_elements, class_kids}
use Rattle.rewriting.specs.Visit.{Result, kept, own, work, since, inside, entering, visit, visit_one, visit_end, member}
use Rattle.rewriting.specs.declared.Around.{Around}
use Rattle.rewriting.specs.declared.State.{State}
use Rattle.rewriting.specs.Demand.{Has, first, below, behind, same, is_at, count_at, searched}
use Rattle.rewriting.proofs.DemandShapes.{member_role, member_role_lem, method_role, method_role_lem, role_28, role_29, role_37, descriptor_of, element_role, Elements, BodyLast, Head, Params, MethodKids, FieldKids, ClassKids, Shape, Shaped}
use Rattle.rewriting.proofs.DemandVisits.{one_as, one_role_lem, visit_here, visit_calls, visit_first, plain_here, Visited, one_visited, method_visited, method_each, field_each, field_head, no_members_visit}
use Rattle.rewriting.proofs.DemandReport.{at_from}
use Rattle.rewriting.proofs.DemandCalls.{bare_method_lem}
use Rattle.rewriting.proofs.DemandClasses.{elements_le}
use Rattle.rewriting.proofs.DemandCount.{count_append, count_method, count_field, with_high, each_count, member_if_here, member_if_calls, role_made, high, w}

-- ---- a record that stands in a forest is counted there; a place that is counted is some record's

pub has_count : (i : ℕ) (l : Label) (k f : Trees) → Has l k f → l.from ≡ read i → 1 ≤ count_at i f
unfolding count_at
has_count i l k end h e = elim h [ ]
has_count i l k (node a b r) first e = omega (arith, at_from i l e)
has_count i l k (node a b r) (below h) e = omega (arith, has_count i l k b h e)
has_count i l k (node a b r) (behind h) e = omega (arith, has_count i l k r h e)

zero_one : 1 ≤ 0 → ⊥
zero_one h = omega arith

at_read : (i : ℕ) (o : Origin) → 1 ≤ is_at i o → o ≡ read i
unfolding is_at same
at_read i made h = absurd (zero_one h)
at_read i (read j) h = go (eqb i j) refl h
  where
    go : (b : Bool) → eqb i j ≡ b → 1 ≤ cond b 1 0 → read j ≡ read i
    go true e h = ap read (sym (eqb-true i j e))
    go false e h = absurd (zero_one h)

abbrev pub Some : ℕ → Trees → Type 0
Some i f = (l : Label) × (k : Trees) × Has l k f × (l.from ≡ read i)

pick : (i : ℕ) (l : Label) (k r : Trees) (x y : ℕ) → is_at i l.from ≡ x → count_at i k ≡ y → (1 ≤ count_at i k → Some i k) → (1 ≤ count_at i r → Some i r) →
    1 ≤ is_at i l.from + count_at i k + count_at i r → Some i (node l k r)
pick i l k r (suc x) y e g p q h = (l, k, first, at_read i l.from (omega arith))
pick i l k r zero (suc y) e g p q h = let u = p (omega arith) in (u.0, u.1, below u.2, u.3)
pick i l k r zero zero e g p q h = let u = q (omega arith) in (u.0, u.1, behind u.2, u.3)

pub has_some : (i : ℕ) (f : Trees) → 1 ≤ count_at i f → Some i f
unfolding count_at
has_some i end h = absurd (zero_one h)
has_some i (node l k r) h = pick i l k r (is_at i l.from) (count_at i k) refl refl (has_some i k) (has_some i r) h

-- two records of one place are one, where each place is counted once
pub unique : (i : ℕ) (l m : Label) (k j f : Trees) → Has l k f → Has m j f → l.from ≡ read i → m.from ≡ read i → count_at i f ≤ 1 → (m ≡ l) × (j ≡ k)
unfolding count_at
unique i l m k j end x y e h c = elim x [ ]
unique i l m k j (node a b r) first first e h c = (refl, refl)
unique i l m k j (node a b r) first (below y) e h c = absurd (let z : ⊥ = omega (arith, at_from i l e, has_count i m j b y h) in z)
unique i l m k j (node a b r) first (behind y) e h c = absurd (let z : ⊥ = omega (arith, at_from i l e, has_count i m j r y h) in z)
unique i l m k j (node a b r) (below x) first e h c = absurd (let z : ⊥ = omega (arith, at_from i m h, has_count i l k b x e) in z)
unique i l m k j (node a b r) (below x) (below y) e h c = unique i l m k j b x y e h (omega arith)
unique i l m k j (node a b r) (below x) (behind y) e h c = absurd (let z : ⊥ = omega (arith, has_count i l k b x e, has_count i m j r y h) in z)
unique i l m k j (node a b r) (behind x) first e h c = absurd (let z : ⊥ = omega (arith, at_from i m h, has_count i l k r x e) in z)
unique i l m k j (node a b r) (behind x) (below y) e h c = absurd (let z : ⊥ = omega (arith, has_count i l k r x e, has_count i m j b y h) in z)
unique i l m k j (node a b r) (behind x) (behind y) e h c = unique i l m k j r x y e h (omega arith)

-- ---- what is left of an element, by its role

bare_by : Role → Trees → Trees
bare_by module' k = k
bare_by list k = k
bare_by statement k = k
bare_by expression k = k
bare_by method k = bare_method k
bare_by constructor k = k
bare_by plain k = k
bare_by (field d) k = bare_field k

bare_as : (r : Role) (k : Trees) → cond (member_role r) (cond (method_role r) (bare_method k) (bare_field k)) k ≡ bare_by r k
unfolding member_role method_role bare_by
bare_as module' k = refl
bare_as list k = refl
bare_as statement k = refl
bare_as expression k = refl
bare_as method k = refl
bare_as constructor k = refl
bare_as plain k = refl
bare_as (field d) k = refl

bare_by_lem : (e : Label) (k : Trees) → cond (is_member e) (cond (is 30 e) (bare_method k) (bare_field k)) k ≡ bare_by (role_of e) k
bare_by_lem e k = rw (member_role_lem e, method_role_lem e) (bare_as (role_of e) k)

module _ (i : ℕ) where
  bare_le : (r : Role) (k : Trees) → count_at i (bare_by r k) ≤ count_at i k
  unfolding bare_by
  bare_le module' k = omega arith
  bare_le list k = omega arith
  bare_le statement k = omega arith
  bare_le expression k = omega arith
  bare_le method k = omega (arith, count_method i k)
  bare_le constructor k = omega arith
  bare_le plain k = omega arith
  bare_le (field d) k = omega (arith, count_field i k)

  searched_le : (f : Trees) → count_at i (searched f) ≤ count_at i f
  unfolding searched count_at
  searched_le end = omega arith
  searched_le (node e k r) = omega (arith, ap (count_at i) (bare_by_lem e k), bare_le (role_of e) k, searched_le r)

  pub kids_le : (k : Trees) → count_at i (class_kids k) ≤ count_at i k
  unfolding class_kids count_at
  kids_le end = omega arith
  kids_le (node c ck r) = omega arith

  pub search_le : (k : Trees) → count_at i (searched (elements_of (class_kids k))) ≤ count_at i k
  search_le k = omega (arith, searched_le (elements_of (class_kids k)), elements_le i (class_kids k), kids_le k)

  -- ---- members: what is left of them, visited

  undecorate_28 : (d : Label) (xs r : Trees) → d.kind ≡ 28 → count_at i (undecorate (node d xs r)) ≡ is_at i d.from + count_at i r
  unfolding undecorate is count_at repay
  undecorate_28 d xs r e = rw e (omega arith)

  pub undecorated_visit : (k : Trees) (around : Around) (s : State) → Head k → count_at i (undecorate (visit around k s).here) ≤ count_at i (undecorate k)
  undecorated_visit end around s h = absurd h
  undecorated_visit (node d ds r) around s h =
      let t : State = (visit_one around d ds s).after in
      omega (
        arith,
        ap (λ f. count_at i (undecorate f)) (visit_first around d ds r s _ (plain_here around d ds s (role_28 d h.0))),
        undecorate_28 d (visit around ds s).here (visit around r t).here h.0,
        undecorate_28 d ds r h.0,
        high i r around t,
      )

  params_visit : (f : Trees) (around : Around) (s : State) → Params f → count_at i (bare_parameters (visit around f s).here) ≤ count_at i (bare_parameters f)
  unfolding bare_parameters count_at
  params_visit end around s h = omega (arith, ap (λ (x : Result). count_at i (bare_parameters x.here)) (visit_end around s))
  params_visit (node p pk r) around s h =
      omega (
        arith,
        ap (λ f. count_at i (bare_parameters f)) (visit_first around p pk r s _ (plain_here around p pk s (role_37 p h.0))),
        undecorated_visit pk around s h.1,
        params_visit r around (visit_one around p pk s).after h.2,
      )

  -- the children of a method without decorators, counted
  method_shape : (d : Label) (xs : Trees) (key : Label) (ys : Trees) (ps : Label) (zs code : Trees) → d.kind ≡ 28 → is 36 key ≡ false → ps.kind ≡ 36 →
      count_at i (bare_method (node d xs (node key ys (node ps zs code)))) ≡
      is_at i d.from + (is_at i key.from + count_at i ys + (is_at i ps.from + count_at i (bare_parameters zs) + count_at i code))
  unfolding count_at repay
  method_shape d xs key ys ps zs code e h g = rw (bare_method_lem d xs key ys ps zs code e h g) (omega arith)

  pub method_visit : (k : Trees) (around : Around) (s : State) → MethodKids k → count_at i (bare_method (visit around k s).here) ≤ count_at i (bare_method k)
  method_visit end around s h = absurd h
  method_visit (node d ds end) around s h = absurd h
  method_visit (node d ds (node key kk end)) around s h = absurd h
  method_visit (node d ds (node key kk (node ps pk code))) around s h =
      let m = method_visited around d ds key kk ps pk code s h in
      omega (
        arith,
        ap (λ f. count_at i (bare_method f)) m.shape,
        method_shape d m.xs key m.key_kids ps (visit around pk m.state).here m.code h.0 h.3 h.4,
        method_shape d ds key kk ps pk code h.0 h.3 h.4,
        ap (count_at i) m.key_visited.2,
        high i kk m.key_visited.0 m.key_visited.1,
        ap (count_at i) m.code_visited.1,
        high i code around m.code_visited.0,
        params_visit pk around m.state h.5,
      )

  pub field_visit : (k : Trees) (around : Around) (s : State) → FieldKids k → count_at i (bare_field (visit around k s).here) ≤ count_at i (bare_field k)
  unfolding bare_field
  field_visit k around s h = undecorated_visit k around s (field_head k h)

  -- ---- one element

  abbrev Parted : Role → Label → Trees → Result → Type 0
  Parted r e k x = (count_at i x.here ≤ is_at i e.from + count_at i (bare_by r k)) × (count_at i x.calls + count_at i (bare_by r k) ≤ count_at i k)

  pub no_count : (f : Trees) → f ≡ end → count_at i f ≡ 0
  unfolding count_at
  no_count f e = ap (count_at i) e

  at_most : (b : Bool) (n : ℕ) → cond b n 0 ≤ n
  at_most true n = omega arith
  at_most false n = omega arith

  element_parts : (r : Role) (around : Around) (e : Label) (k : Trees) (s : State) → w i (descriptor_of r) ≡ 0 → element_role r ≡ true → Shape r k → Parted r e k (one_as r around e k s)
  element_parts module' around e k s m t h = absurd (false≢true (unfold element_role in t))
  element_parts list around e k s m t h =
      unfold one_as work since own inside entering bare_by recount repay count_at tree in omega (arith, high i k around s, ap (count_at i) (no_members_visit k around s h).calls)
  element_parts statement around e k s m t h = absurd (false≢true (unfold element_role in t))
  element_parts expression around e k s m t h = absurd (false≢true (unfold element_role in t))
  element_parts method around e k s m t h =
      let a : Result = visit around k s in
      let es : Trees = decorators_of method a.here in
      let b : Bool = around.live && is_decorated_member e k in
      unfold one_as work since own member inside entering bare_by w in omega (
        arith,
        member_if_here i e k (bare_method a.here) es (13 ∶ 0) a (unfold descriptor_of in m) b around,
        member_if_calls i e k (bare_method a.here) es (13 ∶ 0) a (unfold descriptor_of in m) b around,
        at_most b (count_at i es),
        method_visit k around s h.0,
        each_count i (decorators_of method k) es (method_each k around s h.0),
        count_method i k,
        no_count a.calls (no_members_visit k around s h.1).calls,
      )
  element_parts constructor around e k s m t h =
      unfold one_as work since own kept inside entering bare_by count_at tree in omega (arith, high i k around s, ap (count_at i) (no_members_visit k around s h.1).calls)
  element_parts plain around e k s m t h = absurd (false≢true (unfold element_role in t))
  element_parts (field d) around e k s m t h =
      let a : Result = visit around k s in
      let es : Trees = decorators a.here in
      let b : Bool = around.live && is_decorated_member e k in
      unfold one_as work since own member inside entering bare_by w in omega (
        arith,
        member_if_here i e k (bare_field a.here) es d a (unfold descriptor_of in m) b around,
        member_if_calls i e k (bare_field a.here) es d a (unfold descriptor_of in m) b around,
        at_most b (count_at i es),
        field_visit k around s h.0,
        each_count i (decorators k) es (field_each k around s h.0),
        count_field i k,
        no_count a.calls (no_members_visit k around s h.1).calls,
      )

  -- ---- the elements: what is visited of them is what rule 6 searches; their calls are not in it
  pub elements_parts : (els : Trees) (around : Around) (s : State) → Elements els → Shaped els →
      (count_at i (visit around els s).here ≤ count_at i (searched els)) × (count_at i (visit around els s).calls + count_at i (searched els) ≤ count_at i els)
  unfolding searched count_at
  elements_parts end around s h k =
      omega (arith, ap (λ (x : Result). count_at i x.here) (visit_end around s), ap (λ (x : Result). count_at i x.calls) (visit_end around s))
  elements_parts (node e ek r) around s h k =
      let o : Result = visit_one around e ek s in
      let x : Result = visit around r o.after in
      let p : Parted (role_of e) e ek o = rw one_role_lem (element_parts (role_of e) around e ek s (role_made i e) h.0 k.0) in
      let q = elements_parts r around o.after h.1 k.2 in
      omega (
        arith,
        ap (count_at i) (visit_here around e ek r s),
        ap (count_at i) (visit_calls around e ek r s),
        count_append i o.here x.here,
        count_append i o.calls x.calls,
        ap (count_at i) (bare_by_lem e ek),
        p.0,
        p.1,
        q.0,
        q.1,
      )

  -- ---- a class without its elements

  without_first : (b : Label) (els r : Trees) → b.kind ≡ 29 → count_at i (with_elements end (node b els r)) ≡ is_at i b.from + count_at i r
  unfolding with_elements is count_at recount repay
  without_first b els r e = rw e (omega arith)

  without_behind : (m : Label) (mk r : Trees) → is 29 m ≡ false → count_at i (with_elements end (node m mk r)) ≡ is_at i m.from + count_at i mk + count_at i (with_elements end r)
  unfolding with_elements count_at
  without_behind m mk r e = rw e

  body_parts : (more : Trees) (around : Around) (s : State) → BodyLast more → count_at i (with_elements end (visit around more s).here) ≤ count_at i (with_elements end more)
  body_parts end around s h = absurd h
  body_parts (node b els end) around s h =
      omega (
        arith,
        ap (λ f. count_at i (with_elements end f)) (visit_first around b els end s _ (plain_here around b els s (role_29 b h.0))),
        without_first b els end h.0,
        without_first b (visit around els s).here (visit around end (visit_one around b els s).after).here h.0,
        ap (λ (x : Result). count_at i x.here) (visit_end around (visit_one around b els s).after),
      )
  body_parts (node m mk (node x xk r)) around s h =
      let u : Visited m mk (visit_one around m mk s).here = one_visited around m mk s h.0 in
      let t : State = (visit_one around m mk s).after in
      omega (
        arith,
        ap (λ f. count_at i (with_elements end f)) (visit_first around m mk (node x xk r) s _ u.2),
        without_behind m (visit u.0 mk u.1).here (visit around (node x xk r) t).here h.1,
        without_behind m mk (node x xk r) h.1,
        high i mk u.0 u.1,
        body_parts (node x xk r) around t h.3,
      )

  pub class_parts_lem : (ck : Trees) (around : Around) (s : State) → ClassKids ck → count_at i (with_elements end (visit around ck s).here) + count_at i (elements_of ck) ≤ count_at i ck
  class_parts_lem end around s h = absurd h
  class_parts_lem (node d ds more) around s h =
      let n : is 29 d ≡ false = unfold is in ap (λ x. eqb x 29) h.0 in
      omega (
        arith,
        ap (λ f. count_at i (with_elements end f)) (visit_first around d ds more s _ (plain_here around d ds s (role_28 d h.0))),
        without_behind d (visit around ds s).here (visit around more (visit_one around d ds s).after).here n,
        without_behind d ds more n,
        high i ds around s,
        body_parts more around (visit_one around d ds s).after h.3,
        with_high i end (node d ds more),
        no_count end refl,
      )
