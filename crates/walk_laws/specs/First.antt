-- The elements of a body, visited: one for each, a constructor for a constructor; the first constructor among them (rule 7). Assumes nothing.
use Rattle.std.specs.Prelude.{◌≡◌, Bool, ◌||◌, cond, List, ℕ, zero, suc, ◌+◌, ◌-◌, ◌<◌, eqb, T, length, replicate}
use Rattle.std.proofs.Math.Path.{refl, ap}
use Rattle.std.proofs.Common.{sym, subst, ◌∙◌, arith, eqb-true, eq-eqb}
use Rattle.std.proofs.Math.Bool.{true, false}
use Rattle.std.proofs.lemmas.List.{length-replicate, replicate-append-replicate}
use Rattle.words.specs.Word.{bit1}
use Rattle.records.specs.Forest.{end, node, take_f, append_f, count_f, append_f_end}
use Rattle.records.specs.Label.{Label, Trees, repay, is, bit}
use Rattle.records.specs.Place.{records_at, label_at, arity_at, kids_at, end_of}
use Rattle.grammar.specs.Grammar.{Element, element, Row, row, no_row, table, row_of}
use Rattle.grammar.specs.WellFormed.{Allowed, Fits}
use Rattle.grammar.proofs.Rows.{each, each_row, implied, allowed_row}
use Rattle.rewriting.specs.Parts.{method, constructor, role_of, tree, recount, of_parameters, parameters_of, bare_method, is_constructor, has_constructor, first_constructor, bare_first}
use Rattle.rewriting.specs.Visit.{Result, kept, own, since, work, inside, entering, join, ◌then◌, visit, visit_one, visit_node}
use Rattle.rewriting.specs.declared.Around.{Around}
use Rattle.rewriting.specs.declared.State.{State}
use Rattle.walk_laws.specs.Rows.{visit_at, one_here, here_add, kids_visit}
use Rattle.walk_laws.specs.Slots.{Standing, RowFits, same_row}
use Rattle.walk_laws.specs.Single.{Stays, one_stays, keeps, row_nth}
use Rattle.walk_laws.specs.Roles.{is_kind, role_30, role_31, role_32, role_33, constructor_kind}
use Rattle.walk_laws.specs.Elements.{below_29}
use Rattle.walk_laws.specs.ClassPlaces.{row_split}

-- ---- one element

-- one record, a constructor if l is one
record Alike (l : Label) (f : Trees) : Type 0 where
  label : Label
  below : Trees
  whole : f ≡ tree label below
  same : is_constructor label ≡ is_constructor l

unfoldable is_element : ℕ → Row → Bool
is_element k r = cond (eqb r.category Element) (eqb k 30 || eqb k 31 || eqb k 32 || eqb k 33) true

element_kind : (l : Label) → Allowed element l → T (eqb l.kind 30 || eqb l.kind 31 || eqb l.kind 32 || eqb l.kind 33)
unfolding each table row no_row is_element
element_kind l a =
    implied (eqb (row_of l.kind).category Element) (eqb l.kind 30 || eqb l.kind 31 || eqb l.kind 32 || eqb l.kind 33)
    (each_row is_element tt l.kind tt) (eq-eqb (row_of l.kind).category Element (allowed_row element l.kind l.payload a.grammar).0)

-- a test that fails for every kind of element
pub element_never : (f : ℕ → Bool) (l : Label) → f 30 ≡ false → f 31 ≡ false → f 32 ≡ false → f 33 ≡ false → Allowed element l → f l.kind ≡ false
element_never f l a b c d e = go (eqb l.kind 30) refl (eqb l.kind 31) refl (eqb l.kind 32) refl (eqb l.kind 33) refl (element_kind l e)
  where
    go : (w : Bool) → eqb l.kind 30 ≡ w → (x : Bool) → eqb l.kind 31 ≡ x → (y : Bool) → eqb l.kind 32 ≡ y → (z : Bool) → eqb l.kind 33 ≡ z → T (w || x || y || z) → f l.kind ≡ false
    go true p x q y r z s t = ap f (eqb-true _ 30 p) ∙ a
    go false p true q y r z s t = ap f (eqb-true _ 31 q) ∙ b
    go false p false q true r z s t = ap f (eqb-true _ 32 r) ∙ c
    go false p false q false r true s t = ap f (eqb-true _ 33 s) ∙ d
    go false p false q false r false s t = absurd t

module _ (around : Around) (l : Label) (k : Trees) (s : State) where
  stays_alike : Stays l (visit_one around l k s).here → Alike l (visit_one around l k s).here
  stays_alike t = record { label = l; below = t.below; whole = t.whole; same = refl }

  method_keeps : l.kind ≡ 30 → keeps (role_of l) ≡ true
  unfolding keeps
  method_keeps e = ap keeps (role_30 l e) ∙ go (bit bit1 l)
    where
      go : (b : Bool) → keeps (cond b constructor method) ≡ true
      go true = refl
      go false = refl

  list_alike : l.kind ≡ 33 → Alike l (visit_one around l k s).here
  unfolding visit_one work since
  list_alike e =
      let a : Result = visit around k s in
      record {
        label = recount l a.here;
        below = a.here;
        whole = rw (role_33 l e) (unfold inside entering own in refl);
        same = unfold is_constructor is recount repay in rw e;
      }

  element_alike : Allowed element l → Alike l (visit_one around l k s).here
  element_alike a = go (eqb l.kind 30) refl (eqb l.kind 31) refl (eqb l.kind 32) refl (eqb l.kind 33) refl (element_kind l a)
    where
      go : (x : Bool) → eqb l.kind 30 ≡ x → (y : Bool) → eqb l.kind 31 ≡ y → (z : Bool) → eqb l.kind 32 ≡ z → (w : Bool) → eqb l.kind 33 ≡ w →
          T (x || y || z || w) → Alike l (visit_one around l k s).here
      go true e y f z g w i t = stays_alike (one_stays around l k s (method_keeps (eqb-true l.kind 30 e)))
      go false e true f z g w i t = stays_alike (one_stays around l k s (ap keeps (role_31 l (eqb-true l.kind 31 f)) ∙ (unfold keeps in refl)))
      go false e false f true g w i t = stays_alike (one_stays around l k s (ap keeps (role_32 l (eqb-true l.kind 32 g)) ∙ (unfold keeps in refl)))
      go false e false f false g true i t = list_alike (eqb-true l.kind 33 i)
      go false e false f false g false i t = absurd t

constructor_role : (l : Label) → is_constructor l ≡ true → role_of l ≡ constructor
unfolding is_constructor
constructor_role l e = role_30 l (constructor_kind l e) ∙ ap (λ (b : Bool). cond b constructor method) (rw (is_kind l 30 (constructor_kind l e)) at e)

-- a constructor keeps its children as visited
constructor_one : (around : Around) (l : Label) (k : Trees) (s : State) → is_constructor l ≡ true → (visit_one around l k s).here ≡ tree l (visit around k s).here
unfolding visit_one work since
constructor_one around l k s e = rw (constructor_role l e) (unfold own kept inside entering in refl)

-- ---- a row of elements

visit_first : (around : Around) (l : Label) (k r : Trees) (s : State) (m : Label) (x : Trees) → (visit_one around l k s).here ≡ tree m x →
    (visit around (node l k r) s).here ≡ node m x (visit around r (visit_one around l k s).after).here
visit_first around l k r s m x e =
    ap (λ (t : Result). t.here) (visit_node around l k r s)
    ∙ joined
    ∙ ap (λ (f : Trees). append_f f (visit around r (visit_one around l k s).after).here) e
    ∙ unjoined
  where
    joined : (visit_one around l k s then λ t. visit around r t).here ≡ append_f (visit_one around l k s).here (visit around r (visit_one around l k s).after).here
    joined = unfold ◌then◌ join in refl

    unjoined : append_f (tree m x) (visit around r (visit_one around l k s).after).here ≡ node m x (visit around r (visit_one around l k s).after).here
    unjoined = unfold tree append_f in refl

elements_count : (n : ℕ) (f : Trees) (around : Around) (s : State) → Fits (replicate n element) f → count_f (visit around f s).here ≡ n
unfolding Fits count_f
elements_count zero end around s h = unfold visit in refl
elements_count zero (node l k r) around s h = absurd h
elements_count (suc n) end around s h = absurd h
elements_count (suc n) (node l k r) around s h =
    let o : Alike l (visit_one around l k s).here = element_alike around l k s h.0 in
    ap count_f (visit_first around l k r s o.label o.below o.whole) ∙ ap suc (elements_count n r around (visit_one around l k s).after h.2)

elements_constructors : (n : ℕ) (f : Trees) (around : Around) (s : State) → Fits (replicate n element) f → has_constructor (visit around f s).here ≡ has_constructor f
unfolding Fits has_constructor
elements_constructors zero end around s h = unfold visit in refl
elements_constructors zero (node l k r) around s h = absurd h
elements_constructors (suc n) end around s h = absurd h
elements_constructors (suc n) (node l k r) around s h =
    let o : Alike l (visit_one around l k s).here = element_alike around l k s h.0 in
    ap has_constructor (visit_first around l k r s o.label o.below o.whole)
    ∙ cc (o.same, elements_constructors n r around (visit_one around l k s).after h.2)

-- ---- the first constructor of a forest

or_none : (a b : Bool) → (a || b) ≡ false → (a ≡ false) × (b ≡ false)
or_none true b e = let z : ◌≡◌ {A = ℕ} 0 1 = cc in absurd (omega arith)
or_none false b e = (refl, e)

behind_bare : (f g : Trees) → has_constructor f ≡ false → bare_first (append_f f g) ≡ append_f f (bare_first g)
unfolding has_constructor bare_first append_f
behind_bare end g e = refl
behind_bare (node l k r) g e =
    let o = or_none (is_constructor l) (has_constructor r) e in
    rw o.0 (ap (node l k) (behind_bare r g o.1))

behind_first : (f g : Trees) → has_constructor f ≡ false → first_constructor (append_f f g) ≡ first_constructor g
unfolding has_constructor first_constructor append_f
behind_first end g e = refl
behind_first (node l k r) g e =
    let o = or_none (is_constructor l) (has_constructor r) e in
    rw o.0 (behind_first r g o.1)

module _ (l : Label) (k r : Trees) (e : is_constructor l ≡ true) where
  bare_here : bare_first (append_f (tree l k) r) ≡ append_f (tree l (bare_method k)) r
  unfolding bare_first append_f tree
  bare_here = rw e

  first_here : first_constructor (append_f (tree l k) r) ≡ of_parameters 0 (parameters_of k)
  unfolding first_constructor append_f tree
  first_here = rw e

-- ---- by place: the elements of the body at b

module _ (ws : List ℕ) (b j : ℕ) where
  -- the place of the j-th
  abbrev pub nth : ℕ
  nth = end_of ws (b + 1) j

  module _ (around : Around) (s : State) where
    -- the state in front of it, its children visited, and the elements behind it
    abbrev pub at_nth : State
    at_nth = (visit_at ws (b + 1) j around s).after

    abbrev pub nth_kids : Trees
    nth_kids = (visit around (kids_at ws nth) at_nth).here

    abbrev pub behind_nth : Trees
    behind_nth = (visit_at ws (end_of ws nth 1) (arity_at ws b - j - 1) around (visit_at ws nth 1 around at_nth).after).here

module _ (ws : List ℕ) (b : ℕ) (t : Standing ws b) (kind : (label_at ws b).kind ≡ 29) where
  pub elements_row : RowFits ws (b + 1) (arity_at ws b) (replicate (arity_at ws b) element)
  elements_row = same_row ws b 29 t element kind (below_29 t.slot (label_at ws b).payload)

  elements_fit : Fits (replicate (arity_at ws b) element) (kids_at ws b)
  unfolding kids_at
  elements_fit = unfold RowFits in elements_row

  module _ (around : Around) (s : State) where
    pub element_count : count_f (visit around (kids_at ws b) s).here ≡ arity_at ws b
    element_count = elements_count (arity_at ws b) (kids_at ws b) around s elements_fit

    body_constructors : has_constructor (visit around (kids_at ws b) s).here ≡ has_constructor (kids_at ws b)
    body_constructors = elements_constructors (arity_at ws b) (kids_at ws b) around s elements_fit

    module _ (e : has_constructor (kids_at ws b) ≡ false) where
      pub none_bare : bare_first (visit around (kids_at ws b) s).here ≡ (visit around (kids_at ws b) s).here
      none_bare =
          ap bare_first (sym (append_f_end (visit around (kids_at ws b) s).here))
          ∙ behind_bare (visit around (kids_at ws b) s).here end (body_constructors ∙ e)
          ∙ (unfold bare_first in append_f_end (visit around (kids_at ws b) s).here)

      pub none_first : first_constructor (visit around (kids_at ws b) s).here ≡ end
      none_first =
          ap first_constructor (sym (append_f_end (visit around (kids_at ws b) s).here))
          ∙ behind_first (visit around (kids_at ws b) s).here end (body_constructors ∙ e)
          ∙ (unfold first_constructor in refl)

    module _ (j : ℕ) (j< : j < arity_at ws b) (before : has_constructor (take_f j (records_at ws (b + 1))) ≡ false) (there : is_constructor (label_at ws (end_of ws (b + 1) j)) ≡ true) where
      count_split : arity_at ws b ≡ j + (1 + (arity_at ws b - j - 1))
      count_split = omega arith

      pub nth_place : end_of ws (b + 1) j < length ws
      nth_place = (row_nth ws (b + 1) (arity_at ws b) j element elements_row j<).0

      before_row : RowFits ws (b + 1) j (replicate j element)
      before_row =
          let m : ℕ = 1 + (arity_at ws b - j - 1) in
          let r : RowFits ws (b + 1) (j + m) (replicate (j + m) element) = subst (λ (n : ℕ). RowFits ws (b + 1) n (replicate n element)) count_split elements_row in
          (row_split ws (b + 1) j m (replicate j element) (replicate m element) (length-replicate j element) (subst (RowFits ws (b + 1) (j + m)) (sym (replicate-append-replicate j m element)) r)).0

      -- the elements before it have none
      before_none : has_constructor (visit_at ws (b + 1) j around s).here ≡ false
      unfolding visit_at
      before_none = elements_constructors j (take_f j (records_at ws (b + 1))) around s (unfold RowFits in before_row) ∙ before

      -- the elements before it, itself, and those behind it
      split_here : (visit around (kids_at ws b) s).here ≡
          append_f (visit_at ws (b + 1) j around s).here (append_f (tree (label_at ws (nth ws b j)) (nth_kids ws b j around s)) (behind_nth ws b j around s))
      split_here =
          ap (λ (r : Result). r.here) (sym (kids_visit ws around b s))
          ∙ ap (λ (n : ℕ). (visit_at ws (b + 1) n around s).here) count_split
          ∙ here_add ws around (b + 1) j (1 + (arity_at ws b - j - 1)) s
          ∙ ap (append_f (visit_at ws (b + 1) j around s).here) (
          here_add ws around (nth ws b j) 1 (arity_at ws b - j - 1) (at_nth ws b j around s)
          ∙ ap (λ (f : Trees). append_f f (behind_nth ws b j around s)) (
          one_here ws around (nth ws b j) (at_nth ws b j around s) nth_place
          ∙ constructor_one around (label_at ws (nth ws b j)) (kids_at ws (nth ws b j)) (at_nth ws b j around s) there))

      pub first_bare : bare_first (visit around (kids_at ws b) s).here ≡
          append_f (visit_at ws (b + 1) j around s).here (append_f (tree (label_at ws (nth ws b j)) (bare_method (nth_kids ws b j around s))) (behind_nth ws b j around s))
      first_bare =
          ap bare_first split_here
          ∙ behind_bare (visit_at ws (b + 1) j around s).here _ before_none
          ∙ ap (append_f (visit_at ws (b + 1) j around s).here) (bare_here (label_at ws (nth ws b j)) (nth_kids ws b j around s) (behind_nth ws b j around s) there)

      pub first_parameters : first_constructor (visit around (kids_at ws b) s).here ≡ of_parameters 0 (parameters_of (nth_kids ws b j around s))
      first_parameters =
          ap first_constructor split_here
          ∙ behind_first (visit_at ws (b + 1) j around s).here _ before_none
          ∙ first_here (label_at ws (nth ws b j)) (nth_kids ws b j around s) (behind_nth ws b j around s) there
