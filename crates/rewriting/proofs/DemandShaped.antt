-- The children of each record of an accepted module, by its role: the shapes that DemandShapes states. Assumes nothing.
use Rattle.std.specs.Prelude.{◌≡◌, Bool, ◌&&◌, ◌||◌, ℕ}
use Rattle.std.proofs.Math.Path.{refl, ap}
use Rattle.std.proofs.Common.{sym, ◌∙◌}
use Rattle.std.proofs.Math.Bool.{true, false, cond, not, true≢false}
use Rattle.std.proofs.lemmas.Bool.{false≢true}
use Rattle.std.proofs.Math.Dec.{eqb}
use Rattle.words.specs.Table.{lookup}
use Rattle.words.specs.Word.{bit1}
use Rattle.records.specs.Forest.{end, node}
use Rattle.records.specs.Label.{Label, Trees, is, bit}
use Rattle.rewriting.specs.Parts.{is_empty, role_of, decorators, is_constructor, is_decorated_class, is_decorated, constructor_decorated, has_constructor, elements_of, class_kids, is_refused7, of_parameters, parameters_of}
use Rattle.rewriting.proofs.Roles.{by_number}
use Rattle.rewriting.specs.DemandGrammar.{is_expression, is_key, is_element, is_outside, all, begins, ends_in_body, of_method, of_field, child_rows, fits, Accepted}
use Rattle.rewriting.proofs.DemandShapes.{BodyLast, ClassKids, ClassOnly, Elements, Exprs, FieldKids, Fit, Head, MethodKids, ModuleKids, NoMembers, NoMembersAs, Params, Read, Settled, Shape, Shaped, all_map, and_left, and_right, begins_outside, by_kind, element_role_lem, expression_outside, fit, fit_1, fit_26, fit_28, fit_29, fit_3, fit_30, fit_31, fit_32, fit_33, fit_36, fit_37, fit_39, fit_4, is_kind, is_outside_lem, key_36, one_expression_lem, one_key, one_kind, one_role, or_cases}
use Rattle.rewriting.proofs.DemandOutside.{method_outside, field_outside}

-- a record outside of classes has only such below it, if it is no class statement or class expression
kids_outside : (l : Label) (k : Trees) → fits l k ≡ true → is_outside l ≡ true → (l.kind ≡ 4 → ⊥) → (l.kind ≡ 20 → ⊥) → all is_outside k ≡ true
unfolding fits child_rows lookup is_outside is
kids_outside l k h o no4 no20 =
    let n : ℕ = l.kind in
    let Q : Type 0 = all is_outside k ≡ true in
    let no : (a : ℕ) → not (eqb a 26 || eqb a 29 || eqb a 30 || eqb a 31 || eqb a 32) ≡ false → l.kind ≡ a → ⊥ = λ a f x.
    true≢false (sym o ∙ ap (λ m. not (eqb m 26 || eqb m 29 || eqb m 30 || eqb m 31 || eqb m 32)) x ∙ f) in
    let next : (a : ℕ) (v w : Bool) → (n ≡ a → v ≡ true → Q) → (w ≡ true → Q) → cond (eqb n a) v w ≡ true → Q = λ a v w f g. by_number (λ b. b ≡ true → Q) n a v w f (λ x. g) in
    next 1 _ _ (λ x e. begins_outside (is 40) _ (λ m. is_outside_lem m 40 refl) (λ f y. y) k e) (next 4 _ _ (λ x e. absurd (no4 x)) (next 20 _ _ (λ x e. absurd (no20 x))
    (next 26 _ _ (λ x e. absurd (no 26 refl x)) (next 28 _ _ (λ x e. all_map is_expression is_outside expression_outside k e) (next 29 _ _ (λ x e. absurd (no 29 refl x))
    (next 30 _ _ (λ x e. absurd (no 30 refl x)) (next 31 _ _ (λ x e. absurd (no 31 refl x)) (next 32 _ _ (λ x e. absurd (no 32 refl x))
    (next 36 _ _ (λ x e. all_map (is 37) is_outside (λ m. is_outside_lem m 37 refl) k e) (next 37 _ _ (λ x e. begins_outside (is 28) _ (λ m. is_outside_lem m 28 refl) (λ f y. y) k e) (λ e. e))))))))))) h

-- ---- the shapes

module _ (l : Label) (k : Trees) (h : fits l k ≡ true) (o : is_outside l ≡ true) (q : all is_outside k ≡ true → NoMembers k) where
  no_part : (a : ℕ) → not (eqb a 26 || eqb a 29 || eqb a 30 || eqb a 31 || eqb a 32) ≡ false → l.kind ≡ a → ⊥
  unfolding is_outside is
  no_part a f x = true≢false (sym o ∙ ap (λ m. not (eqb m 26 || eqb m 29 || eqb m 30 || eqb m 31 || eqb m 32)) x ∙ f)

  no_members_below : (is 4 l ≡ false) → (is 20 l ≡ false) → NoMembers k
  unfolding is
  no_members_below a b = q (kids_outside l k h o (λ x. true≢false (sym (ap (λ m. eqb m 4) x) ∙ a)) (λ x. true≢false (sym (ap (λ m. eqb m 20) x) ∙ b)))

  no_members_as : NoMembersAs (role_of l) (NoMembers k)
  unfolding is
  no_members_as =
      by_kind l (λ r. NoMembersAs r (NoMembers k)) (λ x. no_members_below (rw x) (rw x)) (λ x. no_members_below (rw x) (rw x)) (λ x. no_members_below (rw x) (rw x)) (λ x. no_members_below (rw x) (rw x)) (λ x. tt) (λ x. tt)
      (λ x y. absurd (no_part 30 refl x)) (λ x y. absurd (no_part 30 refl x)) (λ x. absurd (no_part 31 refl x)) (λ x. absurd (no_part 32 refl x)) (λ a b c d e f g i j. no_members_below e f)

no_members : (f : Trees) → Fit f → all is_outside f ≡ true → NoMembers f
unfolding all
no_members end h o = tt
no_members (node l k r) h o =
    (no_members_as l k h.0 (and_left (is_outside l) (all is_outside r) o) (λ e. no_members k h.2 e), no_members r h.3 (and_right (is_outside l) (all is_outside r) o))

exprs : (f : Trees) → Read f → all is_expression f ≡ true → Exprs f
unfolding all
exprs end rd e = tt
exprs (node l k r) rd e = (one_expression_lem l (and_left (is_expression l) (all is_expression r) e), rd.0, exprs r rd.2 (and_right (is_expression l) (all is_expression r) e))

head : (q : Trees → Bool) (f : Trees) → Fit f → Read f → begins (is 28) q f ≡ true → Head f
unfolding begins
head q end h rd e = absurd (false≢true e)
head q (node d ds r) h rd e = let x : d.kind ≡ 28 = is_kind 28 d (and_left (is 28 d) (q r) e) in (x, exprs ds rd.1 (fit_28 d ds h.0 x))

params : (f : Trees) → Fit f → Read f → all (is 37) f ≡ true → Params f
unfolding all
params end h rd e = tt
params (node p pk r) h rd e =
    let x : p.kind ≡ 37 = is_kind 37 p (and_left (is 37 p) (all (is 37) r) e) in
    (x, head (all is_outside) pk h.2 rd.1 (fit_37 p pk h.0 x), params r h.3 rd.2 (and_right (is 37 p) (all (is 37) r) e))

method_kids : (k : Trees) → Fit k → Read k → of_method k ≡ true → MethodKids k
unfolding of_method begins
method_kids end h rd e = absurd (false≢true e)
method_kids (node d ds end) h rd e = absurd (false≢true (and_right (is 28 d) false e))
method_kids (node d ds (node key kk end)) h rd e = absurd (false≢true (and_right (is_key key) false (and_right (is 28 d) (is_key key && false) e)))
method_kids (node d ds (node key kk (node ps pk code))) h rd e =
    let x = head (begins is_key (begins (is 36) (all is_outside))) (node d ds (node key kk (node ps pk code))) h rd e in
    let tail : (is_key key && (is 36 ps && all is_outside code)) ≡ true = and_right (is 28 d) _ e in
    let y : is_key key ≡ true = and_left (is_key key) _ tail in
    let z : ps.kind ≡ 36 = is_kind 36 ps (and_left (is 36 ps) (all is_outside code) (and_right (is_key key) _ tail)) in
    (x.0, x.1, one_key key y, key_36 key y, z, params pk h.3.3.2 rd.2.2.1 (fit_36 ps pk h.3.3.0 z), rd.2.0)

field_kids : (k : Trees) → Fit k → Read k → of_field k ≡ true → FieldKids k
unfolding of_field begins
field_kids end h rd e = absurd (false≢true e)
field_kids (node d ds end) h rd e = absurd (false≢true (and_right (is 28 d) false e))
field_kids (node d ds (node key kk r)) h rd e =
    let x = head (begins is_key (all is_outside)) (node d ds (node key kk r)) h rd e in
    (x.0, x.1, one_key key (and_left (is_key key) (all is_outside r) (and_right (is 28 d) _ e)), rd.2.0)

elements : (f : Trees) → all is_element f ≡ true → Elements f
unfolding all
elements end e = tt
elements (node l k r) e = (element_role_lem l (and_left (is_element l) (all is_element r) e), elements r (and_right (is_element l) (all is_element r) e))

-- an id or a heritage
middle_cases : (l : Label) (Q : Type 0) → (is 27 l ≡ true → Q) → (is_expression l ≡ true → Q) → (is 27 l || is_expression l) ≡ true → Q
middle_cases l Q = or_cases (is 27 l) (is_expression l) Q

one_middle : (l : Label) → (is 27 l || is_expression l) ≡ true → one_role (role_of l) ≡ true
one_middle l = middle_cases l (one_role (role_of l) ≡ true) (λ e. one_kind l 27 e refl refl refl refl refl refl refl refl) (one_expression_lem l)

middle_outside : (l : Label) → (is 27 l || is_expression l) ≡ true → is_outside l ≡ true
middle_outside l = middle_cases l (is_outside l ≡ true) (is_outside_lem l 27 refl) (expression_outside l)

body_last : (f : Trees) → Fit f → ends_in_body f ≡ true → BodyLast f
body_last end h e = absurd (false≢true (unfold ends_in_body in e))
body_last (node m mk end) h e = last (is 29 m) refl (unfold ends_in_body is_empty in e)
  where
    last : (b : Bool) → is 29 m ≡ b → cond b true ((is 27 m || is_expression m) && false) ≡ true → BodyLast (node m mk end)
    last true x g = let y : m.kind ≡ 29 = is_kind 29 m x in (y, elements mk (fit_29 m mk h.0 y))
    last false x g = absurd (false≢true (and_right (is 27 m || is_expression m) false g))
body_last (node m mk (node x xk r)) h e = more (is 29 m) refl (unfold ends_in_body is_empty in e) (body_last (node x xk r) h.3)
  where
    more : (b : Bool) → is 29 m ≡ b → cond b false ((is 27 m || is_expression m) && ends_in_body (node x xk r)) ≡ true → (ends_in_body (node x xk r) ≡ true → BodyLast (node x xk r)) →
        BodyLast (node m mk (node x xk r))
    more true y g rest = absurd (false≢true g)
    more false y g rest =
        let z : (is 27 m || is_expression m) ≡ true = and_left (is 27 m || is_expression m) (ends_in_body (node x xk r)) g in
        (one_middle m z, y, (no_members_as m mk h.0 (middle_outside m z) (λ o. no_members mk h.2 o), tt), rest (and_right (is 27 m || is_expression m) (ends_in_body (node x xk r)) g))

class_kids_lem : (ck : Trees) → Fit ck → Read ck → begins (is 28) ends_in_body ck ≡ true → ClassKids ck
unfolding begins
class_kids_lem end h rd e = absurd (false≢true e)
class_kids_lem (node d ds more) h rd e =
    let x = head ends_in_body (node d ds more) h rd e in
    (x.0, x.1, no_members ds h.2 (all_map is_expression is_outside expression_outside ds (fit_28 d ds h.0 x.0)), body_last more h.3 (and_right (is 28 d) (ends_in_body more) e))

class_only : (k : Trees) → Fit k → Read k → begins (is 26) is_empty k ≡ true → ClassOnly k
unfolding begins is_empty
class_only end h rd e = absurd (false≢true e)
class_only (node c ck end) h rd e = let x : c.kind ≡ 26 = is_kind 26 c (and_left (is 26 c) true e) in (x, class_kids_lem ck h.2 rd.1 (fit_26 c ck h.0 x))
class_only (node c ck (node x y z)) h rd e = absurd (false≢true (and_right (is 26 c) false e))

module_kids : (k : Trees) → begins (is 40) (all is_outside) k ≡ true → ModuleKids k
unfolding begins
module_kids end e = absurd (false≢true e)
module_kids (node s sk r) e = one_kind s 40 (and_left (is 40 s) (all is_outside r) e) refl refl refl refl refl refl refl refl

-- refusal 7
has_constructor_lem : (f : Trees) → constructor_decorated f ≡ true → has_constructor f ≡ true
unfolding constructor_decorated has_constructor
has_constructor_lem end e = e
has_constructor_lem (node l k r) e = step (is_constructor l) (not (is_empty (of_parameters 0 (parameters_of k)))) e (has_constructor_lem r)
  where
    step : (a b : Bool) → ((a && b) || constructor_decorated r) ≡ true → (constructor_decorated r ≡ true → has_constructor r ≡ true) → (a || has_constructor r) ≡ true
    step true b e h = refl
    step false b e h = h e

settled : (l : Label) (k : Trees) → l.kind ≡ 4 → is_refused7 l k ≡ false → Settled k
unfolding is_refused7 is is_decorated is_decorated_class
settled l k four h live e =
    let els : Trees = elements_of (class_kids k) in
    go (is_empty (decorators (class_kids k))) (constructor_decorated els) (has_constructor els) _ (has_constructor_lem els) e (rw (four, live, e) at h)
  where
    go : (a b c d : Bool) → (b ≡ true → c ≡ true) → (not a || b) ≡ true → (c && not (not a || d)) ≡ false → (not a || d) ≡ true
    go false b c d f e h = refl
    go true b true true f e h = refl
    go true b true false f e h = absurd (true≢false h)
    go true b false d f e h = absurd (false≢true (f e))

pub empty_end : (f : Trees) → is_empty f ≡ true → f ≡ end
unfolding is_empty
empty_end end e = refl
empty_end (node l k r) e = absurd (false≢true e)

shape : (l : Label) (k : Trees) → fits l k ≡ true → is_refused7 l k ≡ false → Fit k → Read k → Shape (role_of l) k
shape l k h s f rd =
    by_kind l (λ r. Shape r k) (λ e. module_kids k (fit_1 l k h e)) (λ e. no_members k f (fit_3 l k h e)) (λ e. no_members k f (fit_33 l k h e)) (λ e. no_members k f (fit_39 l k h e)) (λ e. (class_only k f rd (fit_4 l k h e), settled l k e s)) (λ e. tt)
    (λ e b.
    let x = fit_30 l k h e in
    let y = and_left (of_method k) (not (bit bit1 l) || is_empty (decorators k)) x in
    (method_kids k f rd y, no_members k f (method_outside k y), empty (bit bit1 l) (decorators k) b (and_right (of_method k) (not (bit bit1 l) || is_empty (decorators k)) x)))
    (λ e b. let y = and_left (of_method k) (not (bit bit1 l) || is_empty (decorators k)) (fit_30 l k h e) in (method_kids k f rd y, no_members k f (method_outside k y)))
    (λ e. fields (fit_31 l k h e)) (λ e. fields (fit_32 l k h e)) (λ a b c d e f g i j. tt)
  where
    fields : of_field k ≡ true → FieldKids k × NoMembers k
    fields y = (field_kids k f rd y, no_members k f (field_outside k y))

    empty : (b : Bool) (g : Trees) → b ≡ true → (not b || is_empty g) ≡ true → g ≡ end
    empty true g e h = empty_end g h
    empty false g e h = absurd (false≢true e)

fit_shaped : (f : Trees) → Fit f → Read f → Shaped f
fit_shaped end h rd = tt
fit_shaped (node l k r) h rd = (shape l k h.0 h.1 h.2 rd.1, fit_shaped k h.2 rd.1, fit_shaped r h.3 rd.2)

pub shaped : (f : Trees) → Read f → Accepted f → Shaped f
shaped f rd a = fit_shaped f (fit f a.grammar a.seven) rd
