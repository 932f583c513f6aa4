-- The children of a member, a constructor and a parameter, as read and as visited: decorators, key, parameters, and what stands behind. Assumes nothing.
use Rattle.std.specs.Prelude.{◌≡◌, true, false, List, [], ◌∷◌, ◌++◌, eqb, length, replicate}
use Rattle.std.proofs.Math.Path.{refl, ap}
use Rattle.std.proofs.Common.{sym, ◌∙◌, append-nil, ne_eqb}
use Prim.Native.Nat.{ℕ, suc, ◌+◌, ◌-◌, ◌<◌}
use native.Mathlib.Omega.{arith}
use Rattle.words.specs.Table.{lookup}
use Rattle.words.specs.Word.{bit1, bit2, children, child_table}
use Rattle.records.specs.Forest.{end, node, take_f, drop_f, append_f, count_f}
use Rattle.records.specs.Label.{Label, Trees, arity, repay, is}
use Rattle.records.specs.Place.{records_at, label_at, arity_at, kids_at, end_of, end_add, end_one, records_first}
use Rattle.grammar.specs.Grammar.{Slot, slot, Decorators, Parameters, Parameter, module', method_decorators, parameter_decorators, key, method_parameters, code, expression, element, parameter_of, table, row, row_of, slots, slots_below, expressions}
use Rattle.grammar.specs.WellFormed.{Allowed, Fits}
use Rattle.grammar.proofs.Children.{allowed_sole}
use Rattle.grammar.proofs.Rows.{sole_kind, allowed_row}
use Rattle.rewriting.specs.Parts.{tree, is_empty, kids_of, change_kids, decorators, undecorate, parameters_of, bare_parameters, bare_method, is_member, is_plain_key, first_is_plain, has_plain_key}
use Rattle.rewriting.specs.Visit.{Result, visit}
use Rattle.rewriting.specs.declared.Around.{Around}
use Rattle.rewriting.specs.declared.State.{State}
use Rattle.walk_laws.specs.Rows.{visit_at, here_add, after_add, kids_visit, plain_here, plain_after}
use Rattle.walk_laws.specs.Slots.{Standing, standing_at, RowFits, kind_row, same_row, row_first}
use Rattle.walk_laws.specs.Kinds.{kids_count}
use Rattle.walk_laws.specs.Single.{Stays, expression_stays, row_nth}
use Rattle.walk_laws.specs.Roles.{Sort, is_method, is_property, is_accessor, member_sort, is_kind, is_other, plain_28, plain_36, plain_37}

-- ---- slots

below_28 : (q : Slot) (p : ℕ) → slots_below q 28 p ≡ replicate p expression
unfolding slots_below row_of lookup table row slots expressions
below_28 q p = append-nil (replicate p expression)

pub below_29 : (q : Slot) (p : ℕ) → slots_below q 29 p ≡ replicate p element
unfolding slots_below row_of lookup table row slots
below_29 q p = append-nil (replicate p element)

pub below_36 : (q : Slot) (p : ℕ) → slots_below q 36 p ≡ replicate p (parameter_of q.context)
unfolding slots_below row_of lookup table row slots
below_36 q p = append-nil (replicate p (parameter_of q.context))

below_30 : (q : Slot) (p : ℕ) → slots_below q 30 p ≡ method_decorators (bit1 p) ∷ key ∷ method_parameters ∷ (replicate (bit2 p) code ++ [])
unfolding slots_below row_of lookup table row slots
below_30 q p = refl

pub below_31 : (q : Slot) (p : ℕ) → slots_below q 31 p ≡ slot Decorators 0 ∷ key ∷ (replicate (bit1 p) expression ++ [])
unfolding slots_below row_of lookup table row slots
below_31 q p = refl

pub below_32 : (q : Slot) (p : ℕ) → slots_below q 32 p ≡ slot Decorators 0 ∷ key ∷ []
unfolding slots_below row_of lookup table row slots
below_32 q p = refl

pub below_37 : (q : Slot) (p : ℕ) → slots_below q 37 p ≡ parameter_decorators q.context ∷ (replicate p expression ++ [])
unfolding slots_below row_of lookup table row slots
below_37 q p = refl

pub decorators_kind : (x : ℕ) (l : Label) → Allowed (slot Decorators x) l → l.kind ≡ 28
unfolding sole_kind lookup
decorators_kind x l a = allowed_sole (slot Decorators x) l a tt

parameters_kind : (x : ℕ) (l : Label) → Allowed (slot Parameters x) l → l.kind ≡ 36
unfolding sole_kind lookup
parameters_kind x l a = allowed_sole (slot Parameters x) l a tt

pub parameter_kind : (x : ℕ) (l : Label) → Allowed (slot Parameter x) l → l.kind ≡ 37
unfolding sole_kind lookup
parameter_kind x l a = allowed_sole (slot Parameter x) l a tt

-- what may stand in a slot is of no kind of another category
pub other_kind : (q : Slot) (l : Label) (k : ℕ) → Allowed q l → ((row_of k).category ≡ q.category → ⊥) → is k l ≡ false
unfolding is
other_kind q l k a n = ne_eqb l.kind k λ e. n (ap (λ (m : ℕ). (row_of m).category) (sym e) ∙ (allowed_row q l.kind l.payload a.grammar).0)

-- a key is no 36
key_other : (l : Label) → Allowed key l → is 36 l ≡ false
unfolding row_of lookup table row
key_other l a = other_kind key l 36 a λ e. omega arith

-- ---- as read

-- the places of the key and of the 36 of the element at `at`
unfoldable pub key_at : List ℕ → ℕ → ℕ
key_at ws at = end_of ws (at + 1) 1

unfoldable pub parameters_at : List ℕ → ℕ → ℕ
parameters_at ws at = end_of ws (key_at ws at) 1

-- the first child is a 28
pub record Marked (ws : List ℕ) (at : ℕ) : Type 0 where
  pub place : at + 1 < length ws
  pub kind : (label_at ws (at + 1)).kind ≡ 28
  pub count : arity_at ws at ≡ 1 + (arity_at ws at - 1)

-- the second child is a key
pub record Keyed (ws : List ℕ) (at : ℕ) : Type 0 where
  pub marked : Marked ws at
  pub place : key_at ws at < length ws
  pub slot : Allowed key (label_at ws (key_at ws at))
  pub count : arity_at ws at - 1 ≡ 1 + (arity_at ws at - 2)

-- the third child is a 36
pub record Called (ws : List ℕ) (at : ℕ) : Type 0 where
  pub keyed : Keyed ws at
  pub place : parameters_at ws at < length ws
  pub kind : (label_at ws (parameters_at ws at)).kind ≡ 36
  pub count : arity_at ws at - 2 ≡ 1 + (arity_at ws at - 3)

module _ (ws : List ℕ) (at : ℕ) where
  marked : (x : ℕ) (rs : List Slot) → arity_at ws at ≡ length (slot Decorators x ∷ rs) → RowFits ws (at + 1) (length (slot Decorators x ∷ rs)) (slot Decorators x ∷ rs) → Marked ws at
  marked x rs e f =
      let g = row_first ws (at + 1) (length rs) (slot Decorators x) rs f in
      record { place = g.0; kind = decorators_kind x (label_at ws (at + 1)) g.1; count = omega arith }

  keyed : (x : ℕ) (rs : List Slot) → arity_at ws at ≡ length (slot Decorators x ∷ key ∷ rs) → RowFits ws (at + 1) (length (slot Decorators x ∷ key ∷ rs)) (slot Decorators x ∷ key ∷ rs) → Keyed ws at
  unfolding key_at
  keyed x rs e f =
      let g = row_first ws (at + 1) (suc (length rs)) (slot Decorators x) (key ∷ rs) f in
      let i = row_first ws (end_of ws (at + 1) 1) (length rs) key rs g.2 in
      record { marked = marked x (key ∷ rs) e f; place = i.0; slot = i.1; count = omega arith }

  called : (x : ℕ) (rs : List Slot) → arity_at ws at ≡ length (slot Decorators x ∷ key ∷ method_parameters ∷ rs) →
      RowFits ws (at + 1) (length (slot Decorators x ∷ key ∷ method_parameters ∷ rs)) (slot Decorators x ∷ key ∷ method_parameters ∷ rs) → Called ws at
  unfolding key_at parameters_at
  called x rs e f =
      let g = row_first ws (at + 1) (suc (suc (length rs))) (slot Decorators x) (key ∷ method_parameters ∷ rs) f in
      let i = row_first ws (end_of ws (at + 1) 1) (suc (length rs)) key (method_parameters ∷ rs) g.2 in
      let j = row_first ws (end_of ws (end_of ws (at + 1) 1) 1) (length rs) method_parameters rs i.2 in
      record { keyed = keyed x (method_parameters ∷ rs) e f; place = j.0; kind = parameters_kind 0 (label_at ws (end_of ws (end_of ws (at + 1) 1) 1)) j.1; count = omega arith }

  -- where the record ends
  module _ (h : at < length ws) where
    pub marked_end : Marked ws at → end_of ws at 1 ≡ end_of ws (end_of ws (at + 1) 1) (arity_at ws at - 1)
    marked_end m = end_one ws at h ∙ ap (end_of ws (at + 1)) m.count ∙ end_add ws (at + 1) 1 (arity_at ws at - 1)

  module _ (whole : Fits (module' ∷ []) (records_at ws 0)) (h : at < length ws) where
    here : Standing ws at
    here = standing_at ws (module' ∷ []) whole at h

    -- the j-th child of a 28 and of a 36
    pub decorators_nth : (j : ℕ) → (label_at ws at).kind ≡ 28 → j < arity_at ws at → (end_of ws (at + 1) j < length ws) × Allowed expression (label_at ws (end_of ws (at + 1) j))
    decorators_nth j e = row_nth ws (at + 1) (arity_at ws at) j expression (same_row ws at 28 here expression e (below_28 here.slot (label_at ws at).payload))

    pub parameters_nth : (j : ℕ) → (label_at ws at).kind ≡ 36 → j < arity_at ws at → (end_of ws (at + 1) j < length ws) × ((label_at ws (end_of ws (at + 1) j)).kind ≡ 37)
    parameters_nth j e b =
        let x : ℕ = here.slot.context in
        let g = row_nth ws (at + 1) (arity_at ws at) j (parameter_of x) (same_row ws at 36 here (parameter_of x) e (below_36 here.slot (label_at ws at).payload)) b in
        (g.0, parameter_kind x (label_at ws (end_of ws (at + 1) j)) g.1)

    pub parameter_marked : (label_at ws at).kind ≡ 37 → Marked ws at
    parameter_marked e =
        let r = kind_row ws at 37 here _ e (below_37 here.slot (label_at ws at).payload) in
        marked here.slot.context (replicate (label_at ws at).payload expression ++ []) r.0 r.1

    pub method_called : (label_at ws at).kind ≡ 30 → Called ws at
    method_called e =
        let r = kind_row ws at 30 here _ e (below_30 here.slot (label_at ws at).payload) in
        called (bit1 (label_at ws at).payload) (replicate (bit2 (label_at ws at).payload) code ++ []) r.0 r.1

    pub property_keyed : (label_at ws at).kind ≡ 31 → Keyed ws at
    property_keyed e =
        let r = kind_row ws at 31 here _ e (below_31 here.slot (label_at ws at).payload) in
        keyed 0 (replicate (bit1 (label_at ws at).payload) expression ++ []) r.0 r.1

    pub accessor_keyed : (label_at ws at).kind ≡ 32 → Keyed ws at
    accessor_keyed e = let r = kind_row ws at 32 here _ e (below_32 here.slot (label_at ws at).payload) in keyed 0 [] r.0 r.1

    pub member_keyed : is_member (label_at ws at) ≡ true → Keyed ws at
    member_keyed m = go (member_sort (label_at ws at) m)
      where
        go : Sort (label_at ws at) → Keyed ws at
        go (is_method e r) = (method_called e).keyed
        go (is_property e r) = property_keyed e
        go (is_accessor e r) = accessor_keyed e

-- does the key give a name as it stands
pub key_plain : (ws : List ℕ) (at : ℕ) → Keyed ws at → has_plain_key (kids_at ws at) ≡ is_plain_key (label_at ws (key_at ws at))
unfolding has_plain_key first_is_plain drop_f kids_at key_at
key_plain ws at y =
    let n : arity_at ws at ≡ suc (suc (arity_at ws at - 2)) = omega (arith, y.count, y.marked.count) in
    ap (λ (m : ℕ). has_plain_key (take_f m (records_at ws (at + 1)))) n
    ∙ ap has_plain_key (records_first ws (at + 1) (suc (arity_at ws at - 2)) y.marked.place)
    ∙ ap first_is_plain (records_first ws (end_of ws (at + 1) 1) (arity_at ws at - 2) y.place)

-- ---- numbers of children

empty_count : (f : Trees) → is_empty f ≡ eqb (count_f f) 0
unfolding is_empty count_f
empty_count end = refl
empty_count (node l k r) = sym (ne_eqb (suc (count_f r)) 0 λ e. omega (arith, e))

module _ (ws : List ℕ) (at : ℕ) where
  counted_28 : (label_at ws at).kind ≡ 28 → arity_at ws at ≡ (label_at ws at).payload
  unfolding arity_at arity children child_table lookup
  counted_28 e = rw e

  pub counted_36 : (label_at ws at).kind ≡ 36 → arity_at ws at ≡ (label_at ws at).payload
  unfolding arity_at arity children child_table lookup
  counted_36 e = rw e

-- ---- parts of children that begin with a 28

module _ (l : Label) (k r : Trees) (e : l.kind ≡ 28) where
  pub decorators_first : decorators (node l k r) ≡ k
  unfolding decorators
  decorators_first = rw (is_kind l 28 e)

  pub undecorate_first : undecorate (node l k r) ≡ node (repay l 0) end r
  unfolding undecorate
  undecorate_first = rw (is_kind l 28 e)

-- a key stands between the 28 and the 36
module _ (d c p : Label) (x y z w : Trees) (e : d.kind ≡ 28) (n : is 36 c ≡ false) (h : p.kind ≡ 36) where
  parameters_third : parameters_of (node d x (node c y (node p z w))) ≡ z
  unfolding parameters_of kids_of
  parameters_third = rw (is_other d 28 36 e refl, n, is_kind p 36 h)

  bare_third : bare_method (node d x (node c y (node p z w))) ≡ node (repay d 0) end (node c y (node p (bare_parameters z) w))
  unfolding bare_method change_kids
  bare_third = rw (is_other d 28 36 e refl, n, is_kind p 36 h) (undecorate_first d x (node c y (node p (bare_parameters z) w)) e)

-- by place, as read
module _ (ws : List ℕ) (at : ℕ) where
  pub marked_read : Marked ws at → decorators (kids_at ws at) ≡ kids_at ws (at + 1)
  unfolding kids_at
  marked_read m =
      let n : arity_at ws at ≡ suc (arity_at ws at - 1) = omega (arith, m.count) in
      ap (λ (j : ℕ). decorators (take_f j (records_at ws (at + 1)))) n ∙ ap decorators (records_first ws (at + 1) (arity_at ws at - 1) m.place) ∙ decorators_first _ _ _ m.kind

  pub called_read : Called ws at → parameters_of (kids_at ws at) ≡ kids_at ws (end_of ws (at + 1) 2)
  unfolding kids_at key_at parameters_at
  called_read c =
      let n : arity_at ws at ≡ suc (suc (suc (arity_at ws at - 3))) = omega (arith, c.count, c.keyed.count, c.keyed.marked.count) in
      let third = records_first ws (parameters_at ws at) (arity_at ws at - 3) c.place in
      let second = records_first ws (key_at ws at) (suc (arity_at ws at - 3)) c.keyed.place ∙ ap (node (label_at ws (key_at ws at)) (kids_at ws (key_at ws at))) third in
      let row = records_first ws (at + 1) (suc (suc (arity_at ws at - 3))) c.keyed.marked.place ∙ ap (node (label_at ws (at + 1)) (kids_at ws (at + 1))) second in
      ap (λ (j : ℕ). parameters_of (take_f j (records_at ws (at + 1)))) n ∙ ap parameters_of row
      ∙ parameters_third _ _ _ _ _ _ _ c.keyed.marked.kind (key_other (label_at ws (key_at ws at)) c.keyed.slot) c.kind
      ∙ ap (kids_at ws) (sym (end_add ws (at + 1) 1 1))

  -- the payload of its 28 says whether there are decorators
  pub marked_empty : Fits (module' ∷ []) (records_at ws 0) → Marked ws at → is_empty (decorators (kids_at ws at)) ≡ eqb (label_at ws (at + 1)).payload 0
  marked_empty whole m =
      ap is_empty (marked_read m) ∙ empty_count (kids_at ws (at + 1))
      ∙ ap (λ (n : ℕ). eqb n 0) (kids_count ws whole (at + 1) m.place ∙ counted_28 ws (at + 1) m.kind)

-- ---- as visited

-- the states in front of the key and of the 36
module _ (ws : List ℕ) (around : Around) (at : ℕ) (s : State) where
  unfoldable pub at_key : State
  at_key = (visit_at ws (at + 1) 1 around s).after

  unfoldable pub at_parameters : State
  at_parameters = (visit_at ws (key_at ws at) 1 around at_key).after

module _ (ws : List ℕ) (around : Around) where
  -- one record in front of others
  pub here_first : (at k : ℕ) (s : State) (l : Label) (x : Trees) → (visit_at ws at 1 around s).here ≡ tree l x →
      (visit_at ws at (1 + k) around s).here ≡ node l x (visit_at ws (end_of ws at 1) k around (visit_at ws at 1 around s).after).here
  here_first at k s l x e = here_add ws around at 1 k s ∙ ap (λ (f : Trees). append_f f (visit_at ws (end_of ws at 1) k around (visit_at ws at 1 around s).after).here) e ∙ (unfold tree append_f in refl)

  module _ (at : ℕ) (s : State) where
    module _ (m : Marked ws at) where
      -- the states behind the 28 and behind a parameter
      pub parameter_after : at < length ws → (label_at ws at).kind ≡ 37 →
          (visit_at ws at 1 around s).after ≡ (visit_at ws (end_of ws (at + 1) 1) (arity_at ws at - 1) around (visit_at ws (at + 1) 1 around s).after).after
      parameter_after h e =
          plain_after ws around at s h (plain_37 _ e)
          ∙ ap (λ (n : ℕ). (visit_at ws (at + 1) n around s).after) m.count
          ∙ after_add ws around (at + 1) 1 (arity_at ws at - 1) s

      marked_here : (visit around (kids_at ws at) s).here ≡
          node (label_at ws (at + 1)) (visit around (kids_at ws (at + 1)) s).here (visit_at ws (key_at ws at) (arity_at ws at - 1) around (at_key ws around at s)).here
      unfolding key_at at_key
      marked_here =
          ap (λ (r : Result). r.here) (sym (kids_visit ws around at s))
          ∙ ap (λ (n : ℕ). (visit_at ws (at + 1) n around s).here) m.count
          ∙ here_first (at + 1) (arity_at ws at - 1) s _ _ (plain_here ws around (at + 1) s m.place (plain_28 _ m.kind))

      pub marked_decorators : decorators (visit around (kids_at ws at) s).here ≡ (visit_at ws (at + 2) (arity_at ws (at + 1)) around s).here
      marked_decorators =
          let two : at + 1 + 1 ≡ at + 2 = omega arith in
          ap decorators marked_here
          ∙ decorators_first _ _ _ m.kind
          ∙ ap (λ (r : Result). r.here) (sym (kids_visit ws around (at + 1) s))
          ∙ ap (λ (p : ℕ). (visit_at ws p (arity_at ws (at + 1)) around s).here) two

      pub marked_bare : undecorate (visit around (kids_at ws at) s).here ≡ node (repay (label_at ws (at + 1)) 0) end (visit_at ws (key_at ws at) (arity_at ws at - 1) around (at_key ws around at s)).here
      marked_bare = ap undecorate marked_here ∙ undecorate_first _ _ _ m.kind

    module _ (y : Keyed ws at) where
      pub key_stays : Stays (label_at ws (key_at ws at)) (visit_at ws (key_at ws at) 1 around (at_key ws around at s)).here
      key_stays = expression_stays ws (key_at ws at) key around (at_key ws around at s) y.place refl y.slot

      pub keyed_here : (visit_at ws (key_at ws at) (arity_at ws at - 1) around (at_key ws around at s)).here ≡ node (label_at ws (key_at ws at)) key_stays.below (visit_at ws (parameters_at ws at) (arity_at ws at - 2) around (at_parameters ws around at s)).here
      unfolding parameters_at at_parameters
      keyed_here = ap (λ (n : ℕ). (visit_at ws (key_at ws at) n around (at_key ws around at s)).here) y.count ∙ here_first (key_at ws at) (arity_at ws at - 2) (at_key ws around at s) _ _ key_stays.whole

    module _ (c : Called ws at) where
      called_third : (visit_at ws (parameters_at ws at) (arity_at ws at - 2) around (at_parameters ws around at s)).here ≡
          node (label_at ws (parameters_at ws at)) (visit around (kids_at ws (parameters_at ws at)) (at_parameters ws around at s)).here
          (visit_at ws (end_of ws (parameters_at ws at) 1) (arity_at ws at - 3) around (visit_at ws (parameters_at ws at) 1 around (at_parameters ws around at s)).after).here
      called_third =
          ap (λ (n : ℕ). (visit_at ws (parameters_at ws at) n around (at_parameters ws around at s)).here) c.count
          ∙ here_first (parameters_at ws at) (arity_at ws at - 3) (at_parameters ws around at s) _ _ (plain_here ws around (parameters_at ws at) (at_parameters ws around at s) c.place (plain_36 _ c.kind))

      pub called_here : (visit around (kids_at ws at) s).here ≡
          node (label_at ws (at + 1)) (visit around (kids_at ws (at + 1)) s).here (
          node (label_at ws (key_at ws at)) (key_stays c.keyed).below (
          node (label_at ws (parameters_at ws at)) (visit around (kids_at ws (parameters_at ws at)) (at_parameters ws around at s)).here
          (visit_at ws (end_of ws (parameters_at ws at) 1) (arity_at ws at - 3) around (visit_at ws (parameters_at ws at) 1 around (at_parameters ws around at s)).after).here))
      called_here =
          marked_here c.keyed.marked
          ∙ ap (node (label_at ws (at + 1)) (visit around (kids_at ws (at + 1)) s).here) (keyed_here c.keyed ∙ ap (node (label_at ws (key_at ws at)) (key_stays c.keyed).below) called_third)

      -- the parameters of a method or constructor
      pub called_parameters : parameters_of (visit around (kids_at ws at) s).here ≡ (visit around (kids_at ws (end_of ws (at + 1) 2)) (visit_at ws (at + 1) 2 around s).after).here
      unfolding key_at at_key parameters_at at_parameters
      called_parameters =
          ap parameters_of called_here
          ∙ parameters_third _ _ _ _ _ _ _ c.keyed.marked.kind (key_other (label_at ws (key_at ws at)) c.keyed.slot) c.kind
          ∙ ap (λ (p : ℕ). (visit around (kids_at ws p) (at_parameters ws around at s)).here) (sym (end_add ws (at + 1) 1 1))
          ∙ ap (λ (t : State). (visit around (kids_at ws (end_of ws (at + 1) 2)) t).here) (sym (after_add ws around (at + 1) 1 1 s))

      pub called_bare : bare_method (visit around (kids_at ws at) s).here ≡
          node (repay (label_at ws (at + 1)) 0) end (
          node (label_at ws (key_at ws at)) (key_stays c.keyed).below (
          node (label_at ws (parameters_at ws at)) (bare_parameters (visit around (kids_at ws (parameters_at ws at)) (at_parameters ws around at s)).here)
          (visit_at ws (end_of ws (parameters_at ws at) 1) (arity_at ws at - 3) around (visit_at ws (parameters_at ws at) 1 around (at_parameters ws around at s)).after).here))
      called_bare =
          ap bare_method called_here
          ∙ bare_third _ _ _ _ _ _ _ c.keyed.marked.kind (key_other (label_at ws (key_at ws at)) c.keyed.slot) c.kind
