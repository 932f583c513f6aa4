-- The class statement at a place of an accepted module: where its parts stand, what they are as read and as visited. Assumes nothing.
use Rattle.std.proofs.Math.Path.{◌≡◌, refl, ap}
use Rattle.std.proofs.Common.{sym, ◌∙◌}
use Rattle.std.specs.Prelude.{Bool, ◌||◌, not, List, [], ◌∷◌, length}
use Rattle.std.proofs.Math.Bool.{true, false}
use Rattle.std.specs.declared.option.Option.{Option}
use Rattle.std.specs.declared.option.Option.TheVariants.{None as none}
use Prim.Native.Nat.{ℕ, ◌+◌, ◌-◌, ◌<◌}
use native.Mathlib.Omega.{arith}
use Rattle.words.specs.Table.{lookup}
use Rattle.words.specs.Word.{bit0, bit2, children, child_table}
use Rattle.records.specs.Forest.{end, node, take_f, count_f}
use Rattle.records.specs.Label.{Label, Trees, arity}
use Rattle.records.specs.Place.{records_at, label_at, arity_at, kids_at, end_of}
use Rattle.grammar.specs.Grammar.{Expression, module', row, table, row_of}
use Rattle.grammar.specs.WellFormed.{Fits}
use Rattle.rewriting.specs.Parts.{tree, role_of, statement, decorators, is_empty, elements_of, id_of, constructor_decorated, is_decorated, is_live, class_kids}
use Rattle.rewriting.specs.Visit.{Result, live_class_if, live_class, class_if, own, since, work, inside, entering, visit, visit_one}
use Rattle.rewriting.specs.declared.Around.{Around}
use Rattle.rewriting.specs.declared.State.{State}
use Rattle.walk_laws.specs.Rows.{visit_at, fresh, after_add, kids_visit, plain_here, plain_calls}
use Rattle.walk_laws.specs.ClassParts.{id_symbol, class_parts, Without, IsId, class_elements, class_symbol_lem}
use Rattle.walk_laws.specs.Slots.{Standing, standing_at}
use Rattle.walk_laws.specs.Default.{default_kept}
use Rattle.walk_laws.specs.Roles.{role_4, plain_26}
use Rattle.walk_laws.specs.Kinds.{kids_count, class_inside, class_kind, class_row_one, class_kids_lem}
use Rattle.walk_laws.specs.ClassPlaces.{no_29, heritage_of, body_of, id_at, first_place, first_kind_lem, body_place, body_is, id_is, without_read, without_here, read_parts, read_decorators, read_elements, body_last, heritage_state, body_state, here_parts, calls_parts, class_arity}
use Rattle.walk_laws.specs.First.{element_count}
use Rattle.walk_laws.specs.ClassPlan.{rk, scope, heritage_at, body_at, at_heritage, at_body, at_end, ds, els, queue}

-- ---- the class statement by place

module _ (ws : List ℕ) (at n : ℕ) where
  -- the label of its class, of its 28 and of its body; its heritage, visited
  abbrev pub class_label : Label
  class_label = label_at ws (at + 1)

  abbrev pub decorators_label : Label
  decorators_label = label_at ws (at + 2)

  abbrev pub body_label : Label
  body_label = label_at ws (body_at ws at)

  abbrev pub id_label : Option Label
  id_label = id_at ws (at + 1) (at + 2)

  abbrev pub heritage : Trees
  heritage = (visit_at ws (heritage_at ws at) (bit2 (label_at ws (at + 1)).payload) (scope ws at) (at_heritage ws at n)).here

  abbrev pub parts : Trees
  parts = class_parts decorators_label (ds ws at n) id_label heritage body_label (els ws at n)

pub is_empty_lem : (f : Trees) → is_empty f ≡ true → f ≡ end
is_empty_lem end e = refl
is_empty_lem (node l k r) e = let z : ◌≡◌ {A = ℕ} 0 1 = unfold is_empty in cc in absurd (omega arith)

-- what is known of it in an accepted module
pub record ClassFacts (ws : List ℕ) (at n : ℕ) : Type 0 where
  pub ck : (class_label ws at n).kind ≡ 26
  pub dk : (decorators_label ws at n).kind ≡ 28
  pub bk : (body_label ws at n).kind ≡ 29
  pub ik : IsId (id_label ws at n)
  pub hk : Without 29 (heritage ws at n)
  pub ids : id_of (rk ws at) ≡ id_symbol (id_label ws at n)
  pub count : count_f (els ws at n) ≡ arity_at ws (body_at ws at)
  pub payload : (body_label ws at n).payload ≡ arity_at ws (body_at ws at)
  pub bare : is_decorated (rk ws at) ≡ false → ((decorators_label ws at n).payload ≡ 0) × (ds ws at n ≡ end)
  pub default : is_empty (queue ws at n) ≡ true → (at_end ws at n).default ≡ none
  pub here : (visit_at ws (at + 1) 1 (scope ws at) (fresh n)).here ≡ tree (class_label ws at n) (parts ws at n)
  pub calls : (visit_at ws (at + 1) 1 (scope ws at) (fresh n)).calls ≡ queue ws at n

module _ (ws : List ℕ) (whole : Fits (module' ∷ []) (records_at ws 0)) (at : ℕ) (h : at < length ws) (kind : (label_at ws at).kind ≡ 4) where
  class_in : at + 1 < length ws
  class_in = class_inside ws whole at h kind

  class_is : (label_at ws (at + 1)).kind ≡ 26
  class_is = class_kind ws whole at h kind

  class_stands : Standing ws (at + 1)
  class_stands = standing_at ws (module' ∷ []) whole (at + 1) class_in

  next : at + 1 + 1 ≡ at + 2
  next = omega arith

  pub decorators_are : (label_at ws (at + 2)).kind ≡ 28
  decorators_are = first_kind_lem ws (at + 1) (at + 2) next class_stands class_is

  pub body_in : body_at ws at < length ws
  unfolding body_at heritage_at body_of heritage_of
  body_in = body_place ws (at + 1) (at + 2) next class_stands class_is

  pub body_kind : (label_at ws (body_at ws at)).kind ≡ 29
  unfolding body_at heritage_at body_of heritage_of
  body_kind = body_is ws (at + 1) (at + 2) next class_stands class_is

  no_27 : (row_of 27).category ≡ Expression → ⊥
  unfolding row_of lookup table row
  no_27 e = omega arith

  -- as read
  abbrev read : Trees
  read = take_f (bit2 (label_at ws (at + 1)).payload) (records_at ws (heritage_at ws at))

  rk_parts : rk ws at ≡ class_parts (label_at ws (at + 2)) (kids_at ws (at + 2)) (id_at ws (at + 1) (at + 2)) read (label_at ws (body_at ws at)) (kids_at ws (body_at ws at))
  unfolding rk body_at heritage_at body_of heritage_of
  rk_parts = read_parts ws (at + 1) (at + 2) next class_stands class_is

  named : IsId (id_at ws (at + 1) (at + 2))
  named = id_is ws (at + 1) (at + 2) next class_stands class_is

  read_27 : Without 27 read
  unfolding heritage_at heritage_of
  read_27 = without_read ws (at + 1) (at + 2) next class_stands class_is 27 no_27

  id_symbol_lem : id_of (rk ws at) ≡ id_symbol (id_at ws (at + 1) (at + 2))
  id_symbol_lem = ap id_of rk_parts ∙ class_symbol_lem _ _ (id_at ws (at + 1) (at + 2)) read _ _ named read_27 body_kind

  pub own_decorators : decorators (rk ws at) ≡ kids_at ws (at + 2)
  unfolding rk
  own_decorators = read_decorators ws (at + 1) (at + 2) next class_stands class_is

  pub own_elements : elements_of (rk ws at) ≡ kids_at ws (body_at ws at)
  unfolding rk body_at heritage_at body_of heritage_of
  own_elements = read_elements ws (at + 1) (at + 2) next class_stands class_is

  -- its body is its last child
  all_but_body : arity_at ws (at + 1) - 1 ≡ 1 + bit0 (label_at ws (at + 1)).payload + bit2 (label_at ws (at + 1)).payload
  all_but_body = omega (arith, class_arity ws (at + 1) (at + 2) next class_stands class_is)

  pub body_behind : end_of ws (at + 2) (arity_at ws (at + 1) - 1) ≡ body_at ws at
  unfolding body_at heritage_at body_of heritage_of
  body_behind = body_last ws (at + 1) (at + 2) next class_stands class_is

  elements_counted : (label_at ws (body_at ws at)).payload ≡ arity_at ws (body_at ws at)
  unfolding arity_at arity children child_table lookup
  elements_counted = rw body_kind

  decorators_counted : (label_at ws (at + 2)).payload ≡ arity_at ws (at + 2)
  unfolding arity_at arity children child_table lookup
  decorators_counted = rw decorators_are

  module _ (n : ℕ) where
    -- as visited
    pub body_after : (visit_at ws (at + 2) (arity_at ws (at + 1) - 1) (scope ws at) (fresh n)).after ≡ at_body ws at n
    unfolding at_body at_heritage heritage_at
    body_after =
        ap (λ (k : ℕ). (visit_at ws (at + 2) k (scope ws at) (fresh n)).after) all_but_body
        ∙ after_add ws (scope ws at) (at + 2) (1 + bit0 (label_at ws (at + 1)).payload) (bit2 (label_at ws (at + 1)).payload) (fresh n)

    heritage_kind : Without 29 (heritage ws at n)
    unfolding heritage_at heritage_of
    heritage_kind = without_here ws (at + 1) (at + 2) next class_stands class_is 29 no_29 (scope ws at) (at_heritage ws at n)

    ds_are : ds ws at n ≡ (visit (scope ws at) (kids_at ws (at + 2)) (fresh n)).here
    unfolding ds
    ds_are =
        let e : at + 3 ≡ at + 2 + 1 = omega arith in
        ap (λ (p : ℕ). (visit_at ws p (arity_at ws (at + 2)) (scope ws at) (fresh n)).here) e ∙ ap (λ (r : Result). r.here) (kids_visit ws (scope ws at) (at + 2) (fresh n))

    els_are : els ws at n ≡ (visit (scope ws at) (kids_at ws (body_at ws at)) (at_body ws at n)).here
    unfolding els
    els_are = ap (λ (r : Result). r.here) (kids_visit ws (scope ws at) (body_at ws at) (at_body ws at n))

    queue_is : queue ws at n ≡ (visit (scope ws at) (kids_at ws (body_at ws at)) (at_body ws at n)).calls
    unfolding queue
    queue_is = ap (λ (r : Result). r.calls) (kids_visit ws (scope ws at) (body_at ws at) (at_body ws at n))

    kids_here_lem : (visit (scope ws at) (kids_at ws (at + 1)) (fresh n)).here ≡
        class_parts (label_at ws (at + 2)) (visit (scope ws at) (kids_at ws (at + 2)) (fresh n)).here (id_at ws (at + 1) (at + 2)) (heritage ws at n)
        (label_at ws (body_at ws at)) (visit (scope ws at) (kids_at ws (body_at ws at)) (at_body ws at n)).here
    unfolding body_at heritage_at body_of heritage_of at_heritage at_body heritage_state body_state
    kids_here_lem = here_parts ws (at + 1) (at + 2) next class_stands class_is (scope ws at) (fresh n)

    kids_calls : (visit (scope ws at) (kids_at ws (at + 1)) (fresh n)).calls ≡ (visit (scope ws at) (kids_at ws (body_at ws at)) (at_body ws at n)).calls
    unfolding body_at heritage_at body_of heritage_of at_heritage at_body heritage_state body_state
    kids_calls = calls_parts ws (at + 1) (at + 2) next class_stands class_is (scope ws at) (fresh n)

    class_here : (visit_at ws (at + 1) 1 (scope ws at) (fresh n)).here ≡ tree (class_label ws at n) (parts ws at n)
    class_here = plain_here ws (scope ws at) (at + 1) (fresh n) class_in (plain_26 (label_at ws (at + 1)) class_is) ∙ ap (tree (label_at ws (at + 1))) (kids_here_lem ∙ cc (ds_are, els_are))

    class_calls : (visit_at ws (at + 1) 1 (scope ws at) (fresh n)).calls ≡ queue ws at n
    class_calls =
        plain_calls ws (scope ws at) (at + 1) (fresh n) class_in (plain_26 (label_at ws (at + 1)) class_is) ∙ kids_calls ∙ sym queue_is

    -- its elements are counted
    elements_are : count_f (els ws at n) ≡ arity_at ws (body_at ws at)
    elements_are = ap count_f els_are ∙ element_count ws (body_at ws at) (standing_at ws (module' ∷ []) whole (body_at ws at) body_in) body_kind (scope ws at) (at_body ws at n)

    -- it has none if it isn't decorated
    undecorated_bare : is_decorated (rk ws at) ≡ false → ((label_at ws (at + 2)).payload ≡ 0) × (ds ws at n ≡ end)
    undecorated_bare e =
        let none : kids_at ws (at + 2) ≡ end = sym own_decorators ∙ is_empty_lem (decorators (rk ws at)) (or_left (is_empty (decorators (rk ws at))) (constructor_decorated (elements_of (rk ws at))) (unfold is_decorated in e)) in
        let count : count_f (kids_at ws (at + 2)) ≡ arity_at ws (at + 2) = kids_count ws whole (at + 2) (first_place ws (at + 1) (at + 2) next class_stands class_is) in
        let zero : count_f (kids_at ws (at + 2)) ≡ 0 = ap count_f none ∙ (unfold count_f in refl) in
        (omega (arith, decorators_counted), ds_are ∙ ap (λ (f : Trees). (visit (scope ws at) f (fresh n)).here) none ∙ (unfold visit in refl))
      where
        or_left : (x y : Bool) → (not x || y) ≡ false → x ≡ true
        or_left true y e = refl
        or_left false y e = let z : ◌≡◌ {A = ℕ} 0 1 = cc in absurd (omega arith)

    -- it takes its default symbol with its first call
    default_none : is_empty (queue ws at n) ≡ true → (at_end ws at n).default ≡ none
    unfolding at_end visit_at fresh
    default_none e = default_kept (take_f 1 (records_at ws (at + 1))) (scope ws at) (fresh n) (ap is_empty class_calls ∙ e)

    pub elements_visited : elements_of (class_kids (visit_at ws (at + 1) 1 (scope ws at) (fresh n)).here) ≡ els ws at n
    elements_visited =
        ap (λ (f : Trees). elements_of (class_kids f)) class_here
        ∙ (unfold class_kids tree in class_elements (decorators_label ws at n) (ds ws at n) (id_label ws at n) (heritage ws at n) (body_label ws at n) (els ws at n) decorators_are body_kind named heritage_kind)

    pub class_facts : ClassFacts ws at n
    class_facts = record {
      ck = class_is;
      dk = decorators_are;
      bk = body_kind;
      ik = named;
      hk = heritage_kind;
      ids = id_symbol_lem;
      count = elements_are;
      payload = elements_counted;
      bare = undecorated_bare;
      default = default_none;
      here = class_here;
      calls = class_calls;
    }

-- its visit: the work on a live class
module _ (around : Around) (l : Label) (kids : Trees) (s : State) (r : Trees) where
  live_one : role_of l ≡ statement → is_live kids ≡ true → class_kids kids ≡ r →
      (visit_one around l kids s).here ≡
      (live_class r l (visit (record { live = true; id = id_of r }) kids (fresh s.next)).here (visit (record { live = true; id = id_of r }) kids (fresh s.next)).calls
      (visit (record { live = true; id = id_of r }) kids (fresh s.next)).after s.default).here
  unfolding visit_one work since
  live_one e live k = rw e (unfold own inside entering fresh in rw (live, k) (unfold class_if in rw k))

live_tree : (r : Trees) (l c : Label) (ck f calls : Trees) (s : State) (o : Option ℕ) → f ≡ tree c ck →
    (live_class r l f calls s o).here ≡ (live_class_if (is_decorated r) r l c ck calls s o).here
live_tree r l c ck f calls s o e = rw e (unfold live_class tree in refl)

module _ (ws : List ℕ) (whole : Fits (module' ∷ []) (records_at ws 0)) (at : ℕ) (h : at < length ws) (kind : (label_at ws at).kind ≡ 4)
    (live : is_live (take_f 1 (records_at ws (at + 1))) ≡ true) (around : Around) (s : State) where
  pub statement_here : (visit_one around (label_at ws at) (kids_at ws at) s).here ≡
      (live_class_if (is_decorated (rk ws at)) (rk ws at) (label_at ws at) (class_label ws at s.next) (parts ws at s.next) (queue ws at s.next) (at_end ws at s.next) s.default).here
  unfolding visit_at scope at_end
  statement_here =
      let n : ℕ = s.next in
      let one : kids_at ws at ≡ take_f 1 (records_at ws (at + 1)) = class_row_one ws whole at h kind in
      let k : class_kids (take_f 1 (records_at ws (at + 1))) ≡ rk ws at = ap class_kids (sym one) ∙ (unfold rk in class_kids_lem ws whole at h kind) in
      let f : ClassFacts ws at n = class_facts ws whole at h kind n in
      ap (λ (g : Trees). (visit_one around (label_at ws at) g s).here) one
      ∙ live_one around (label_at ws at) (take_f 1 (records_at ws (at + 1))) s (rk ws at) (role_4 (label_at ws at) kind) live k
      ∙ live_tree (rk ws at) (label_at ws at) (class_label ws at n) (parts ws at n) _ _ (at_end ws at n) s.default f.here
      ∙ ap (λ (q : Trees). (live_class_if (is_decorated (rk ws at)) (rk ws at) (label_at ws at) (class_label ws at n) (parts ws at n) q (at_end ws at n) s.default).here) f.calls
