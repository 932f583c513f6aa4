-- The visit of a class: its constructors, its elements, its body. Assumes nothing.
use Rattle.std.specs.Prelude.{◌≡◌, Bool, true, cond, ◌&&◌, ◌||◌, List, ℕ, ◌+◌, ◌≤◌}
use Rattle.std.proofs.Math.Path.{refl, ap, subst}
use Rattle.std.proofs.Common.{sym, ◌∙◌, true≢false, arith}
use Rattle.std.proofs.Math.Bool.{false}
use Rattle.std.proofs.lemmas.Bool.{false≢true}
use Rattle.std.proofs.Math.Dec.{eqb}
use Rattle.words.specs.Word.{bit1}
use Rattle.records.specs.Forest.{end, node, append_f, append_f_end}
use Rattle.records.specs.Label.{Label, Trees, ◌∶◌, repay, is, bit}
use Rattle.rewriting.specs.Parts.{tree, recount, kids_of, Role, module', list, statement, expression, method, constructor, plain, field, role_of, decorators, of_parameters, parameters_of, decorators_of, bare_method, bare_field, is_constructor, is_decorated_member, elements_of, first_constructor}
use Rattle.rewriting.specs.Visit.{Result, kept, member_if, member, called₁, called₂, own, work, since, inside, entering, visit, visit_one, visit_end}
use Rattle.rewriting.specs.declared.Around.{Around}
use Rattle.rewriting.specs.declared.State.{State}
use Rattle.rewriting.specs.Demand.{count_at, AsVisited}
use Rattle.rewriting.proofs.DemandShapes.{Read, and_left, NoLists, no_plain, member_role, method_role, method_role_lem, role_constructor, role_26, role_28, role_29, role_37, element_role, NoMembers, Params, MethodKids, Elements, BodyLast, ClassKids, Shape, Shaped}
use Rattle.rewriting.proofs.DemandVisits.{one_as, one_role_lem, visit_here, visit_calls, visit_after, visit_first, plain_here, plain_calls, plain_after, Visited, one_visited, each_end, head_each, parameters_read, method_visited, method_head, parameters_each, no_members_visit}
use Rattle.rewriting.proofs.DemandReport.{Distinct, Agree, agree_kids, agree_rest, once_kids, once_rest}

-- ---- constructors

-- the elements read and visited: the same constructors, with their decorators visited
abbrev pub Bodies : Trees → Trees → Type 0
Bodies end end = Unit {0}
Bodies end (node m j g) = ⊥
Bodies (node e k f) end = ⊥
Bodies (node e k f) (node m j g) = (is_constructor m ≡ is_constructor e) ×
    (is_constructor e ≡ true → (m ≡ e) × AsVisited (of_parameters 0 (parameters_of k)) (of_parameters 0 (parameters_of j)) × (decorators j ≡ end) × NoLists (parameters_of j)) × Bodies f g

abbrev pub OneBody : Label → Trees → Trees → Type 0
OneBody e k f = (m : Label) × (j : Trees) × (f ≡ node m j end) × (is_constructor m ≡ is_constructor e) ×
    (is_constructor e ≡ true → (m ≡ e) × AsVisited (of_parameters 0 (parameters_of k)) (of_parameters 0 (parameters_of j)) × (decorators j ≡ end) × NoLists (parameters_of j))

pub member_if_here : (b : Bool) (around : Around) (l : Label) (k bare entries : Trees) (d : Label) (a : Result) →
    (j : Trees) × ((member_if b around l k bare entries d a).here ≡ node l j end)
unfolding member_if called₁ called₂ tree
member_if_here true around l k bare entries d a = (_, refl)
member_if_here false around l k bare entries d a = (_, refl)

-- no constructor, by its role
none_else : (e : Label) (r : Role) → role_of e ≡ r → method_role r ≡ false → is 30 e ≡ false
none_else e r h i = method_role_lem e ∙ ap method_role h ∙ i

and_no : (a x y : Bool) → a ≡ false → (a && x) ≡ (a && y)
and_no a x y e = rw e

recount_constructor : (e : Label) (f : Trees) → is 30 e ≡ false → is_constructor (recount e f) ≡ is_constructor e
unfolding is_constructor recount repay is
recount_constructor e f h = and_no (is 30 e) _ _ h

no_constructor : (e : Label) → is 30 e ≡ false → is_constructor e ≡ true → ⊥
unfolding is_constructor
no_constructor e h c = true≢false (sym (and_left (is 30 e) (bit bit1 e) c) ∙ h)

pub member≢ : (e : Label) (r : Role) → role_of e ≡ r → member_role r ≡ true → is_constructor e ≡ true → ⊥
unfolding member_role
member≢ e r h i c = true≢false (sym i ∙ ap member_role (sym h ∙ role_constructor e c))

params_like : (f : Trees) (around : Around) (s : State) → Params f → NoLists (visit around f s).here
params_like end around s h = rw visit_end tt
params_like (node p pk r) around s h =
    let e = role_37 p h.0 in
    rw (visit_first around p pk r s _ (plain_here around p pk s e)) (no_plain p e, params_like r around (visit_one around p pk s).after h.2)

pub method_like : (k : Trees) (around : Around) (s : State) → MethodKids k → NoLists (parameters_of (visit around k s).here)
method_like end around s h = absurd h
method_like (node d ds end) around s h = absurd h
method_like (node d ds (node key kk end)) around s h = absurd h
method_like (node d ds (node key kk (node ps pk code))) around s h =
    let m = method_visited around d ds key kk ps pk code s h in
    rw (m.shape, parameters_read d m.xs key m.key_kids ps (visit around pk m.state).here m.code h.0 h.3 h.4) (params_like pk around m.state h.5)

module _ (around : Around) (e : Label) (s : State) where
  pub element_body : (r : Role) (ek : Trees) → role_of e ≡ r → element_role r ≡ true → Shape r ek → OneBody e ek (one_as r around e ek s).here
  unfolding element_role one_as work since own member kept inside entering tree
  element_body module' ek h i k = absurd (false≢true i)
  element_body list ek h i k =
      let f : is 30 e ≡ false = none_else e list h (unfold method_role in refl) in
      (recount e (visit around ek s).here, (visit around ek s).here, refl, recount_constructor e (visit around ek s).here f, λ c. absurd (no_constructor e f c))
  element_body statement ek h i k = absurd (false≢true i)
  element_body expression ek h i k = absurd (false≢true i)
  element_body method ek h i k =
      let a : Result = visit around ek s in
      let m = member_if_here (around.live && is_decorated_member e ek) around e ek (bare_method a.here) (decorators_of method a.here) (13 ∶ 0) a in
      (e, m.0, m.1, refl, λ c. absurd (member≢ e method h (unfold member_role in refl) c))
  element_body constructor ek h i k =
      (e, (visit around ek s).here, refl, refl, λ c. (refl, parameters_each ek around s k.0, each_end _ _ k.2 (head_each ek around s (method_head ek k.0)), method_like ek around s k.0))
  element_body plain ek h i k = absurd (false≢true i)
  element_body (field d) ek h i k =
      let a : Result = visit around ek s in
      let m = member_if_here (around.live && is_decorated_member e ek) around e ek (bare_field a.here) (decorators a.here) d a in
      (e, m.0, m.1, refl, λ c. absurd (member≢ e (field d) h (unfold member_role in refl) c))

bodies : (els : Trees) (around : Around) → Elements els → Shaped els → (s : State) → Bodies els (visit around els s).here
unfolding append_f
bodies end around h k s = rw visit_end tt
bodies (node e ek r) around h k s =
    let o : OneBody e ek (visit_one around e ek s).here = rw one_role_lem (element_body around e s (role_of e) ek refl h.0 k.0) in
    rw (visit_here around e ek r s, o.2) (o.3, o.4, bodies r around h.1 k.2 (visit_one around e ek s).after)

first_if : (b x : Bool) (p q f g : Trees) → x ≡ b → (b ≡ true → AsVisited p q) → AsVisited f g → AsVisited (cond b p f) (cond x q g)
first_if true x p q f g e h v = rw e (h refl)
first_if false x p q f g e h v = rw e v

pub first_each : (f g : Trees) → Bodies f g → AsVisited (first_constructor f) (first_constructor g)
unfolding first_constructor
first_each end end h = tt
first_each end (node m j g) h = absurd h
first_each (node e k f) end h = absurd h
first_each (node e k f) (node m j g) h =
    first_if (is_constructor e) (is_constructor m) _ _ _ _ h.0 (λ c. (h.1 c).1) (first_each f g h.2)

-- ---- the elements among the children of a class

unfoldable pub has_body : Trees → Bool
has_body end = false
has_body (node l k r) = is 29 l || has_body r

elements_first : (b : Label) (els r : Trees) → b.kind ≡ 29 → elements_of (node b els r) ≡ els
unfolding elements_of kids_of is
elements_first b els r e = rw e

elements_behind : (m : Label) (mk r : Trees) → is 29 m ≡ false → elements_of (node m mk r) ≡ elements_of r
unfolding elements_of kids_of
elements_behind m mk r e = rw e

body_first : (b : Label) (els r : Trees) → b.kind ≡ 29 → has_body (node b els r) ≡ true
unfolding has_body is
body_first b els r e = rw e

body_behind : (m : Label) (mk r : Trees) → has_body r ≡ true → has_body (node m mk r) ≡ true
unfolding has_body
body_behind m mk r e = go (is 29 m)
  where
    go : (b : Bool) → (b || has_body r) ≡ true
    go true = refl
    go false = e

-- they are part of it
in_if : (b : Bool) (i : ℕ) (k r x : Trees) → count_at i x ≤ count_at i r → count_at i (cond b k x) ≤ count_at i k + count_at i r
in_if true i k r x h = omega arith
in_if false i k r x h = omega arith

pub elements_le : (i : ℕ) (f : Trees) → count_at i (elements_of f) ≤ count_at i f
unfolding elements_of kids_of count_at
elements_le i end = omega arith
elements_le i (node l k r) = omega (arith, in_if (is 29 l) i k r (kids_of 29 r) (elements_le i r))

read_if : (b : Bool) (k x : Trees) → Read k → Read x → Read (cond b k x)
read_if true k x h g = h
read_if false k x h g = g

pub read_elements : (f : Trees) → Read f → Read (elements_of f)
unfolding elements_of kids_of
read_elements end h = tt
read_elements (node l k r) h = read_if (is 29 l) k (kids_of 29 r) h.1 (read_elements r h.2)

-- ---- the children of a class behind its 28

plain_inside : (around : Around) (l : Label) (k : Trees) (s : State) → role_of l ≡ plain → visit (inside (role_of l) around k) k (entering (role_of l) s) ≡ visit around k s
unfolding inside entering
plain_inside around l k s e = rw e

-- a report that agrees on a plain record does so on its children
plain_agree : (F : List Label) (around : Around) (l : Label) (k r : Trees) (s : State) → role_of l ≡ plain → Distinct (node l k r) →
    Agree F (node l k r) (visit around (node l k r) s).fresh → Agree F k (visit around k s).fresh
plain_agree F around l k r s e once agree = subst (λ (x : Result). Agree F k x.fresh) (plain_inside around l k s e) (agree_kids F around l k r s once agree)

-- x: what they give; els: the elements of the body among them
record BodyVisited (around : Around) (more els : Trees) (x : Result) : Type 0 where
  state : State
  here : elements_of x.here ≡ (visit around els state).here
  calls : x.calls ≡ (visit around els state).calls
  default : x.after.default ≡ (visit around els state).after.default
  elements : Elements els
  shaped : Shaped els
  body : has_body x.here ≡ true
  agree : (F : List Label) → Distinct more → Agree F more x.fresh → Agree F els (visit around els state).fresh

one_without_calls : (around : Around) (m : Label) (mk : Trees) (s : State) → NoMembers (node m mk end) → (visit_one around m mk s).calls ≡ end
one_without_calls around m mk s q =
    sym (visit_calls around m mk end s ∙ ap (λ (x : Result). append_f (visit_one around m mk s).calls x.calls) (visit_end around (visit_one around m mk s).after) ∙ append_f_end (visit_one around m mk s).calls)
    ∙ (no_members_visit (node m mk end) around s q).calls

append_none : (f : Trees) → append_f end f ≡ f
unfolding append_f
append_none f = refl

body_visited : (more : Trees) (around : Around) (s : State) → BodyLast more → Shaped more → BodyVisited around more (elements_of more) (visit around more s)
body_visited end around s h k = absurd h
body_visited (node b els end) around s h k =
    let t : State = (visit_one around b els s).after in
    let p = role_29 b h.0 in
    let v = visit_first around b els end s _ (plain_here around b els s p) in
    subst (λ y. BodyVisited around (node b els end) y (visit around (node b els end) s)) (sym (elements_first b els end h.0)) (record {
      state = s;
      here = ap elements_of v ∙ elements_first b (visit around els s).here (visit around end t).here h.0;
      calls = visit_calls around b els end s ∙ ap (λ (x : Result). append_f (visit_one around b els s).calls x.calls) (visit_end around t) ∙ append_f_end (visit_one around b els s).calls
          ∙ plain_calls around b els s p;
      default = ap (λ (x : State). x.default) (visit_after around b els end s ∙ ap (λ (x : Result). x.after) (visit_end around t) ∙ plain_after around b els s p);
      elements = h.1;
      shaped = k.1;
      body = ap has_body v ∙ body_first b _ _ h.0;
      agree = λ F once g. plain_agree F around b els end s p once g;
    })
body_visited (node m mk (node x xk r)) around s h k =
    let more : Trees = node x xk r in
    let t : State = (visit_one around m mk s).after in
    let u : Visited m mk (visit_one around m mk s).here = one_visited around m mk s h.0 in
    let v = visit_first around m mk more s _ u.2 in
    let i = body_visited (node x xk r) around t h.3 k.2 in
    subst (λ y. BodyVisited around (node m mk more) y (visit around (node m mk more) s)) (sym (elements_behind m mk more h.1)) (record {
      state = i.state;
      here = ap elements_of v ∙ elements_behind m _ (visit around more t).here h.1 ∙ i.here;
      calls = visit_calls around m mk more s ∙ ap (λ f. append_f f (visit around more t).calls) (one_without_calls around m mk s h.2) ∙ append_none (visit around more t).calls ∙ i.calls;
      default = ap (λ (x : State). x.default) (visit_after around m mk more s) ∙ i.default;
      elements = i.elements;
      shaped = i.shaped;
      body = ap has_body v ∙ body_behind m _ _ i.body;
      agree = λ F once g. i.agree F (once_rest F around m mk more s once g) (agree_rest F around m mk more s once g);
    })

-- ---- the class

pub record ClassVisited (around : Around) (c : Label) (ck : Trees) (a : Result) : Type 0 where
  pub kids : Trees
  pub shape : a.here ≡ node c kids end
  pub each : AsVisited (decorators ck) (decorators kids)
  pub state : State
  pub elements : elements_of kids ≡ (visit around (elements_of ck) state).here
  pub calls : a.calls ≡ (visit around (elements_of ck) state).calls
  pub default : a.after.default ≡ (visit around (elements_of ck) state).after.default
  pub element_roles : Elements (elements_of ck)
  pub shaped : Shaped (elements_of ck)
  pub body : has_body kids ≡ true
  pub agree : (F : List Label) → Distinct (node c ck end) → Agree F (node c ck end) a.fresh → Agree F (elements_of ck) (visit around (elements_of ck) state).fresh
  pub start : State
  pub kids_visited : kids ≡ (visit around ck start).here

pub class_visited : (around : Around) (c : Label) (ck : Trees) (s : State) → c.kind ≡ 26 → ClassKids ck → Shaped ck → ClassVisited around c ck (visit around (node c ck end) s)
class_visited around c end s e h k = absurd h
class_visited around c (node d ds more) s e h k =
    let ck : Trees = node d ds more in
    let t : State = (visit_one around c ck s).after in
    let s1 : State = (visit_one around d ds s).after in
    let i = body_visited more around s1 h.3 k.2 in
    let q = no_members_visit ds around s h.2 in
    let o : role_of c ≡ plain = role_26 c e in
    let p : role_of d ≡ plain = role_28 d h.0 in
    let n : is 29 d ≡ false = unfold is in ap (λ x. eqb x 29) h.0 in
    let same : elements_of ck ≡ elements_of more = elements_behind d ds more n in
    let v = visit_first around d ds more s _ (plain_here around d ds s p) in
    let calls : (visit around (node c ck end) s).calls ≡ (visit around more s1).calls =
    visit_calls around c ck end s ∙ ap (λ (x : Result). append_f (visit_one around c ck s).calls x.calls) (visit_end around t) ∙ append_f_end (visit_one around c ck s).calls
    ∙ plain_calls around c ck s o ∙ visit_calls around d ds more s ∙ ap (λ f. append_f f (visit around more s1).calls) (plain_calls around d ds s p ∙ q.calls) ∙ append_none (visit around more s1).calls in
    record {
      kids = (visit around ck s).here;
      shape = visit_first around c ck end s _ (plain_here around c ck s o) ∙ ap (λ (x : Result). node c (visit around ck s).here x.here) (visit_end around t);
      each = head_each ck around s (h.0, h.1);
      state = i.state;
      elements = ap elements_of v ∙ elements_behind d _ (visit around more s1).here n ∙ i.here ∙ ap (λ f. (visit around f i.state).here) (sym same);
      calls = calls ∙ i.calls ∙ ap (λ f. (visit around f i.state).calls) (sym same);
      default = ap (λ (x : State). x.default) (visit_after around c ck end s ∙ ap (λ (x : Result). x.after) (visit_end around t) ∙ plain_after around c ck s o ∙ visit_after around d ds more s)
          ∙ i.default ∙ ap (λ f. (visit around f i.state).after.default) (sym same);
      element_roles = subst (λ f. Elements f) (sym same) i.elements;
      shaped = subst (λ f. Shaped f) (sym same) i.shaped;
      body = ap has_body v ∙ body_behind d _ _ i.body;
      agree = λ F once g.
          let x = plain_agree F around c ck end s o once g in
          let y = once_kids F around c ck end s once g in
          subst (λ f. Agree F f (visit around f i.state).fresh) (sym same) (i.agree F (once_rest F around d ds more s y x) (agree_rest F around d ds more s y x));
      start = s;
      kids_visited = refl;
    }

pub class_bodies : (around : Around) (c : Label) (ck : Trees) (a : Result) (v : ClassVisited around c ck a) → Bodies (elements_of ck) (elements_of v.kids)
class_bodies around c ck a v = rw v.elements (bodies (elements_of ck) around v.element_roles v.shaped v.state)
