-- Dropped decorators are gone: none of their records stands in what the module became. Assumes nothing.
use Rattle.std.specs.Prelude.{◌≡◌, Bool, not, ◌&&◌, ◌||◌}
use Rattle.std.proofs.Math.Path.{refl, ap, subst}
use Rattle.std.proofs.Common.{sym, ◌∙◌, true≢false}
use Rattle.std.proofs.Math.Bool.{true, false, cond}
use Rattle.std.proofs.lemmas.Bool.{false≢true}
use Rattle.std.specs.declared.option.Option.{Option}
use Rattle.std.specs.declared.option.Option.TheVariants.{None as none}
use Prim.Native.Nat.{ℕ, zero, suc, ◌+◌, ◌≤◌}
use native.Mathlib.Omega.{arith}
use Rattle.records.specs.Forest.{end, node, append_f}
use Rattle.records.specs.Label.{Label, Trees, ◌∶◌}
use Rattle.rewriting.specs.Parts.{tree, is_empty, Role, module', list, statement, expression, method, constructor, plain, field, role_of, decorators, undecorate, bare_method, bare_field, decorators_of, is_constructor, is_decorated_member, elements_of, with_elements, id_of, has_private_in, constructor_decorated, first_constructor, bare_first, is_decorated, is_live, class_kids}
use Rattle.rewriting.specs.Visit.{Result, Symbols, kept, own, work, since, inside, entering, visit, visit_one, visit_end, member, symbols_of, renamed, live_class_if, live_class, class_if}
use Rattle.rewriting.specs.declared.Around.{Around}
use Rattle.rewriting.specs.declared.State.{State}
use Rattle.rewriting.specs.Demand.{is_at, count_at, dropped_at, dropped}
use Rattle.rewriting.proofs.DemandShapes.{and_left, and_right, role_constructor, descriptor_of, Head, Elements, ClassKids, ClassOnly, Shape, Shaped}
use Rattle.rewriting.proofs.DemandVisits.{one_as, one_role_lem, visit_here, visit_calls, no_members_visit}
use Rattle.rewriting.proofs.DemandClasses.{OneBody, element_body, elements_le, ClassVisited, class_visited, class_bodies}
use Rattle.rewriting.proofs.DemandRenaming.{renamed_first}
use Rattle.rewriting.proofs.DemandBehind.{first_decorated}
use Rattle.rewriting.proofs.DemandCount.{dropped_by, dropped_by_lem, dead_calls, bodies_bare, undecorate_elements, w, count_append, count_undecorate, with_low, count_method, count_field, member_if_here, member_if_calls, empty_count, count_renamed, first_high, first_low, decorated_high, decorated_cost, cost, role_made, one_high, cost_node, cost_high, high}
use Rattle.rewriting.proofs.DemandReach.{kids_le, undecorated_visit, method_visit, field_visit, no_count, class_parts_lem}

module _ (i : ℕ) where
  -- ---- what is dropped was read

  if_none : (b : Bool) (f : Trees) → count_at i f ≡ 0 → count_at i (cond b f end) ≡ 0
  unfolding count_at
  if_none true f e = e
  if_none false f e = refl

  unless_none : (b : Bool) (f : Trees) → count_at i f ≡ 0 → count_at i (cond b end f) ≡ 0
  unfolding count_at
  unless_none true f e = refl
  unless_none false f e = e

  by_none : (r : Role) (live : Bool) (k : Trees) → count_at i k ≡ 0 → count_at i (dropped_by r live k) ≡ 0
  unfolding dropped_by
  by_none module' live k e = unfold count_at in refl
  by_none list live k e = unfold count_at in refl
  by_none statement live k e =
      let ck : Trees = class_kids k in
      let els : Trees = elements_of ck in
      if_none (is_live k && has_private_in ck) (append_f (decorators ck) (first_constructor els))
      (omega (arith, count_append i (decorators ck) (first_constructor els), count_undecorate i ck, first_high i els, elements_le i ck, kids_le i k))
  by_none expression live k e = unfold count_at in refl
  by_none method live k e = unless_none live (decorators_of method k) (omega (arith, count_method i k))
  by_none constructor live k e = unfold count_at in refl
  by_none plain live k e = unfold count_at in refl
  by_none (field d) live k e = unless_none live (decorators k) (omega (arith, count_field i k))

  dropped_none : (f : Trees) (around : Around) → count_at i f ≡ 0 → count_at i (dropped around f) ≡ 0
  unfolding dropped count_at
  dropped_none end around e = refl
  dropped_none (node l k r) around e =
      let x : Trees = dropped_at around.live l k in
      let y : Trees = dropped (inside (role_of l) around k) k in
      omega (
        arith,
        ap (count_at i) (dropped_by_lem around.live l k),
        by_none (role_of l) around.live k (omega arith),
        dropped_none k (inside (role_of l) around k) (omega arith),
        dropped_none r around (omega arith),
        count_append i x (append_f y (dropped around r)),
        count_append i y (dropped around r),
      )

  -- ---- the elements without the first constructor's decorators, read and visited

  constructor_here : (around : Around) (e : Label) (k : Trees) (s : State) → role_of e ≡ constructor → (visit_one around e k s).here ≡ node e (visit around k s).here end
  unfolding visit_one work since own kept inside entering tree
  constructor_here around e k s h = rw h

  constructor_calls : (around : Around) (e : Label) (k : Trees) (s : State) → role_of e ≡ constructor → (visit_one around e k s).calls ≡ (visit around k s).calls
  unfolding visit_one work since own kept inside entering
  constructor_calls around e k s h = rw h

  bare_first_lem : (e : Label) (k r : Trees) → is_constructor e ≡ true → count_at i (bare_first (node e k r)) ≡ is_at i e.from + count_at i (bare_method k) + count_at i r
  unfolding bare_first count_at
  bare_first_lem e k r h = rw h

  bare_behind : (e : Label) (k r : Trees) → is_constructor e ≡ false → count_at i (bare_first (node e k r)) ≡ is_at i e.from + count_at i k + count_at i (bare_first r)
  unfolding bare_first count_at
  bare_behind e k r h = rw h

  first_step : (b : Bool) (e : Label) (ek r : Trees) (around : Around) (s : State) → is_constructor e ≡ b → OneBody e ek (visit_one around e ek s).here → Shape (role_of e) ek →
      count_at i (bare_first (visit around r (visit_one around e ek s).after).here) + count_at i (visit around r (visit_one around e ek s).after).calls ≤ count_at i (bare_first r) →
      count_at i (bare_first (visit around (node e ek r) s).here) + count_at i (visit around (node e ek r) s).calls ≤ count_at i (bare_first (node e ek r))
  unfolding append_f
  first_step true e ek r around s h o shape rest =
      let t : State = (visit_one around e ek s).after in
      let role : role_of e ≡ constructor = role_constructor e h in
      let k = subst (λ x. Shape x ek) role shape in
      omega (
        arith,
        ap (λ f. count_at i (bare_first f)) (visit_here around e ek r s ∙ ap (λ f. append_f f (visit around r t).here) (constructor_here around e ek s role)),
        bare_first_lem e (visit around ek s).here (visit around r t).here h,
        bare_first_lem e ek r h,
        ap (count_at i) (visit_calls around e ek r s),
        count_append i (visit_one around e ek s).calls (visit around r t).calls,
        ap (count_at i) (constructor_calls around e ek s role),
        no_count i (visit around ek s).calls (no_members_visit ek around s k.1).calls,
        method_visit i ek around s k.0,
        high i r around t,
      )
  first_step false e ek r around s h o shape rest =
      let one : Result = visit_one around e ek s in
      let t : State = one.after in
      omega (
        arith,
        ap (λ f. count_at i (bare_first f)) (visit_here around e ek r s ∙ ap (λ f. append_f f (visit around r t).here) o.2),
        bare_behind o.0 o.1 (visit around r t).here (o.3 ∙ h),
        bare_behind e ek r h,
        ap (count_at i) (visit_calls around e ek r s),
        count_append i one.calls (visit around r t).calls,
        a_node o.0 o.1 one.here o.2,
        whole around e ek s,
      )
    where
      a_node : (m : Label) (j f : Trees) → f ≡ node m j end → count_at i f ≡ is_at i m.from + count_at i j
      a_node m j f e = unfold count_at in omega (arith, ap (count_at i) e)

      whole : (around : Around) (e : Label) (ek : Trees) (s : State) → count_at i (visit_one around e ek s).here + count_at i (visit_one around e ek s).calls ≤ is_at i e.from + count_at i ek
      whole around e ek s = unfold cost w in omega (arith, one_high i around e ek s, cost_high i ek (inside (role_of e) around ek) (entering (role_of e) s))

  first_visit : (els : Trees) (around : Around) (s : State) → Elements els → Shaped els →
      count_at i (bare_first (visit around els s).here) + count_at i (visit around els s).calls ≤ count_at i (bare_first els)
  first_visit end around s h k =
      omega (arith, ap (λ (x : Result). count_at i (bare_first x.here)) (visit_end around s), ap (λ (x : Result). count_at i x.calls) (visit_end around s), no_count i end refl)
  first_visit (node e ek r) around s h k =
      first_step (is_constructor e) e ek r around s refl (rw one_role_lem (element_body around e s (role_of e) ek refl h.0 k.0)) k.0
      (first_visit r around (visit_one around e ek s).after h.1 k.2)

  -- ---- a class with a private-in test that loses a record read at i

  -- it is decorated
  undecorated_none : (ck : Trees) → is_decorated ck ≡ false → count_at i (decorators ck) + count_at i (first_constructor (elements_of ck)) ≡ 0
  unfolding is_decorated
  undecorated_none ck e = go (is_empty (decorators ck)) (is_empty (first_constructor (elements_of ck))) refl refl e
    where
      flip : (b : Bool) → (not b ≡ true → constructor_decorated (elements_of ck) ≡ true) → constructor_decorated (elements_of ck) ≡ false → b ≡ true
      flip true h e = refl
      flip false h e = absurd (true≢false (sym (h refl) ∙ e))

      go : (a b : Bool) → is_empty (decorators ck) ≡ a → is_empty (first_constructor (elements_of ck)) ≡ b → (not a || constructor_decorated (elements_of ck)) ≡ false →
          count_at i (decorators ck) + count_at i (first_constructor (elements_of ck)) ≡ 0
      go false b p q h = absurd (true≢false h)
      go true b p q h =
          omega (
            arith,
            empty_count i (decorators ck) p,
            empty_count i (first_constructor (elements_of ck)) (q ∙ flip b (λ x. first_decorated (elements_of ck) (ap not q ∙ x)) h),
          )

  module _ (around : Around) (c : Label) (ck : Trees) (a : Result) (v : ClassVisited around c ck a) (kids : ClassKids ck) (once : count_at i ck ≤ 1) where
    -- what is visited of the class holds it only in the class's decorators and the first constructor's parameters'
    kids_gone : (x : ℕ) → count_at i (decorators ck) ≡ x → 1 ≤ count_at i (decorators ck) + count_at i (first_constructor (elements_of ck)) →
        count_at i v.kids + count_at i a.calls ≤ count_at i (decorators v.kids) + count_at i (first_constructor (elements_of v.kids))
    kids_gone (suc x) e h =
        omega (
          arith,
          count_undecorate i ck,
          count_undecorate i v.kids,
          ap (λ f. count_at i (undecorate f)) v.kids_visited,
          undecorated_visit i ck around v.start (head ck kids),
          ap (count_at i) (undecorate_elements ck),
          elements_le i (undecorate ck),
          ap (count_at i) v.calls,
          high i (elements_of ck) around v.state,
        )
      where
        head : (ck : Trees) → ClassKids ck → Head ck
        head end h = absurd h
        head (node d ds more) h = (h.0, h.1)
    kids_gone zero e h =
        let els : Trees = elements_of v.kids in
        omega (
          arith,
          first_high i (elements_of ck),
          elements_le i ck,
          ap (λ f. count_at i (with_elements end f)) v.kids_visited,
          class_parts_lem i ck around v.start kids,
          with_low i end v.kids v.body,
          no_count i end refl,
          first_visit (elements_of ck) around v.state v.element_roles v.shaped,
          ap (λ f. count_at i (bare_first f)) v.elements,
          ap (count_at i) v.calls,
          first_low i els (bodies_bare (elements_of ck) els (class_bodies around c ck a v)),
        )

  module _ (around : Around) (l c : Label) (ck : Trees) (a : Result) (v : ClassVisited around c ck a) (kids : ClassKids ck) (once : w i l + w i c + count_at i ck ≤ 1) (outside : Option ℕ)
      (priv : has_private_in ck ≡ true) (dropped' : 1 ≤ count_at i (decorators ck) + count_at i (first_constructor (elements_of ck))) where
    live_if_gone : (b : Bool) → is_decorated ck ≡ b → cost i (live_class_if b ck l c v.kids a.calls a.after outside) ≡ 0
    unfolding live_class_if
    live_if_gone true e =
        let els : Trees = elements_of v.kids in
        let y : Symbols = symbols_of (id_of ck) a.after.default a.after.next els in
        let ds : ℕ = count_at i (decorators v.kids) in
        let ps : ℕ = count_at i (first_constructor (renamed y.outer y.alias els)) in
        let lost : cond (has_private_in ck) (ds + ps) 0 ≡ ds + ps = ap (λ (b : Bool). cond b (ds + ps) 0) priv in
        omega (
          arith,
          lost,
          decorated_cost i ck l c v.kids a.calls y outside,
          decorated_high i ck l c v.kids a.calls y (renamed y.outer y.alias els) outside (count_renamed i y.outer y.alias els),
          ap (count_at i) (renamed_first y.outer y.alias els),
          count_renamed i y.outer y.alias (first_constructor els),
          kids_gone around c ck a v kids (omega arith) (count_at i (decorators ck)) refl dropped',
          count_undecorate i ck,
          first_high i (elements_of ck),
          elements_le i ck,
        )
    live_if_gone false e = absurd (let z : ⊥ = omega (arith, undecorated_none ck e) in z)

  -- ---- one record

  if_some : (b : Bool) (f : Trees) → 1 ≤ count_at i (cond b f end) → (b ≡ true) × (1 ≤ count_at i f)
  unfolding count_at
  if_some true f h = (refl, h)
  if_some false f h = absurd (let z : ⊥ = omega arith in z)

  unless_some : (b : Bool) (f : Trees) → 1 ≤ count_at i (cond b end f) → (b ≡ false) × (1 ≤ count_at i f)
  unfolding count_at
  unless_some false f h = (refl, h)
  unless_some true f h = absurd (let z : ⊥ = omega arith in z)

  class_gone : (l c : Label) (ck : Trees) (s : State) (outside : Option ℕ) → ClassOnly (node c ck end) → Shaped (node c ck end) → w i l + count_at i (node c ck end) ≤ 1 →
      (b : Bool) → is_live (node c ck end) ≡ b → b ≡ true → has_private_in ck ≡ true → 1 ≤ count_at i (append_f (decorators ck) (first_constructor (elements_of ck))) →
      cost i (class_if b l (node c ck end) outside (visit (record { live = is_live (node c ck end); id = id_of ck }) (node c ck end) s)) ≡ 0
  unfolding class_if live_class class_kids
  class_gone l c ck s outside h shaped once true live t priv n =
      let k : Trees = node c ck end in
      let around : Around = record { live = is_live k; id = id_of ck } in
      let a : Result = visit around k s in
      let v : ClassVisited around c ck a = class_visited around c ck s h.0 h.1 shaped.1 in
      ap (λ f. cost i (live_class ck l f a.calls a.after outside)) v.shape
      ∙ live_if_gone around l c ck a v h.1 (parts once) outside priv (omega (arith, count_append i (decorators ck) (first_constructor (elements_of ck)))) (is_decorated ck) refl
    where
      parts : w i l + count_at i (node c ck end) ≤ 1 → w i l + w i c + count_at i ck ≤ 1
      parts h = unfold count_at w in omega (arith, more h)
        where
          more : w i l + count_at i (node c ck end) ≤ 1 → is_at i l.from + (is_at i c.from + count_at i ck + 0) ≤ 1
          more h = unfold count_at w in h
  class_gone l c ck s outside h shaped once false live t priv n = absurd (false≢true t)

  statement_gone : (around : Around) (l : Label) (k : Trees) (s : State) → ClassOnly k → Shaped k → w i l + count_at i k ≤ 1 → 1 ≤ count_at i (dropped_by statement around.live k) →
      cost i (one_as statement around l k s) ≡ 0
  statement_gone around l end s h shaped once n = absurd h
  statement_gone around l (node c ck end) s h shaped once n =
      let x = if_some (is_live (node c ck end) && has_private_in ck) (append_f (decorators ck) (first_constructor (elements_of ck))) (unfold dropped_by class_kids in n) in
      unfold one_as work since own inside entering cost class_kids in
      class_gone l c ck (record { next = s.next; default = none }) s.default h shaped once (is_live (node c ck end)) refl (and_left (is_live (node c ck end)) (has_private_in ck) x.0)
      (and_right (is_live (node c ck end)) (has_private_in ck) x.0) x.1
  statement_gone around l (node c ck (node x y z)) s h shaped once n = absurd h

  nothing : 1 ≤ count_at i end → ⊥
  unfolding count_at
  nothing h = omega arith

  as_gone : (r : Role) (around : Around) (l : Label) (k : Trees) (s : State) → w i (descriptor_of r) ≡ 0 → Shape r k → Shaped k → w i l + count_at i k ≤ 1 →
      1 ≤ count_at i (dropped_by r around.live k) → cost i (one_as r around l k s) ≡ 0
  as_gone module' around l k s m h g once n = absurd (nothing (unfold dropped_by in n))
  as_gone list around l k s m h g once n = absurd (nothing (unfold dropped_by in n))
  as_gone statement around l k s m h g once n = statement_gone around l k s h.0 g once n
  as_gone expression around l k s m h g once n = absurd (nothing (unfold dropped_by in n))
  as_gone method around l k s m h g once n =
      let a : Result = visit around k s in
      let es : Trees = decorators_of method a.here in
      let x = unless_some around.live (decorators_of method k) (unfold dropped_by in n) in
      unfold one_as work since own member cost inside entering in omega (
        arith,
        x.1,
        member_if_here i l k (bare_method a.here) es (13 ∶ 0) a (unfold descriptor_of in m) (around.live && is_decorated_member l k) around,
        member_if_calls i l k (bare_method a.here) es (13 ∶ 0) a (unfold descriptor_of in m) (around.live && is_decorated_member l k) around,
        ap (λ (b : Bool). cond (b && is_decorated_member l k) (count_at i es) 0) x.0,
        no_count i a.calls (dead_calls k around s x.0),
        method_visit i k around s h.0,
        count_method i k,
      )
  as_gone constructor around l k s m h g once n = absurd (nothing (unfold dropped_by in n))
  as_gone plain around l k s m h g once n = absurd (nothing (unfold dropped_by in n))
  as_gone (field d) around l k s m h g once n =
      let a : Result = visit around k s in
      let es : Trees = decorators a.here in
      let x = unless_some around.live (decorators k) (unfold dropped_by in n) in
      unfold one_as work since own member cost inside entering in omega (
        arith,
        x.1,
        member_if_here i l k (bare_field a.here) es d a (unfold descriptor_of in m) (around.live && is_decorated_member l k) around,
        member_if_calls i l k (bare_field a.here) es d a (unfold descriptor_of in m) (around.live && is_decorated_member l k) around,
        ap (λ (b : Bool). cond (b && is_decorated_member l k) (count_at i es) 0) x.0,
        no_count i a.calls (dead_calls k around s x.0),
        field_visit i k around s h.0,
        count_field i k,
      )

  -- ---- the visit

  some_of : (n m : ℕ) → (n ≡ 0 → m ≡ 0) → 1 ≤ m → 1 ≤ n
  some_of zero m h e = let z : m ≡ 0 = h refl in omega arith
  some_of (suc n) m h e = omega arith

  module _ (around : Around) (l : Label) (k r : Trees) (s : State) (shape : Shape (role_of l) k) (shaped : Shaped k) (once : w i l + count_at i k + count_at i r ≤ 1) where
    -- x, y: how often i stands in what is dropped of the record itself, and below it
    step : (x y : ℕ) → count_at i (dropped_at around.live l k) ≡ x → count_at i (dropped (inside (role_of l) around k) k) ≡ y →
        1 ≤ x + y + count_at i (dropped around r) →
        (1 ≤ count_at i (dropped (inside (role_of l) around k) k) → cost i (visit (inside (role_of l) around k) k (entering (role_of l) s)) ≡ 0) →
        (1 ≤ count_at i (dropped around r) → cost i (visit around r (visit_one around l k s).after) ≡ 0) → cost i (visit around (node l k r) s) ≡ 0
    step (suc x) y e g n hk hr =
        let d : 1 ≤ count_at i (dropped_by (role_of l) around.live k) = omega (arith, ap (count_at i) (dropped_by_lem around.live l k)) in
        let some' : 1 ≤ count_at i k = some_of (count_at i k) _ (by_none (role_of l) around.live k) d in
        omega (
          arith,
          cost_node i around l k r s,
          ap (cost i) (one_role_lem around l k s),
          as_gone (role_of l) around l k s (role_made i l) shape shaped (omega arith) d,
          cost_high i r around (visit_one around l k s).after,
        )
    step zero (suc y) e g n hk hr =
        let d : 1 ≤ count_at i (dropped (inside (role_of l) around k) k) = omega arith in
        let some' : 1 ≤ count_at i k = some_of (count_at i k) _ (dropped_none k (inside (role_of l) around k)) d in
        omega (arith, cost_node i around l k r s, one_high i around l k s, hk d, cost_high i r around (visit_one around l k s).after)
    step zero zero e g n hk hr =
        let d : 1 ≤ count_at i (dropped around r) = omega arith in
        let some' : 1 ≤ count_at i r = some_of (count_at i r) _ (dropped_none r around) d in
        omega (arith, cost_node i around l k r s, one_high i around l k s, cost_high i k (inside (role_of l) around k) (entering (role_of l) s), hr d)

  pub gone : (f : Trees) (around : Around) (s : State) → Shaped f → count_at i f ≤ 1 → 1 ≤ count_at i (dropped around f) → cost i (visit around f s) ≡ 0
  unfolding count_at dropped w
  gone end around s h once n = absurd (let z : ⊥ = omega arith in z)
  gone (node l k r) around s h once n =
      let x : Trees = dropped_at around.live l k in
      let y : Trees = dropped (inside (role_of l) around k) k in
      step around l k r s h.0 h.1 once (count_at i x) (count_at i y) refl refl (omega (arith, count_append i x (append_f y (dropped around r)), count_append i y (dropped around r)))
      (λ d. gone k (inside (role_of l) around k) (entering (role_of l) s) h.1 (omega arith) d) (λ d. gone r around (visit_one around l k s).after h.2 (omega arith) d)
