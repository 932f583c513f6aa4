-- A member without decorators stays as it is, but for what becomes of the records in it. Assumes nothing.
use Rattle.std.specs.Prelude.{◌≡◌, true, ◌&&◌, cond, List, [], ◌∷◌, ◌++◌, length, replicate}
use Rattle.std.proofs.Math.Path.{refl, ap, sym}
use Rattle.std.proofs.Common.{subst, ◌∙◌, eqb-true}
use Rattle.std.proofs.Math.Bool.{false, and-false}
use Prim.Native.Nat.{ℕ, zero, suc, ◌+◌, ◌-◌, ◌<◌}
use Rattle.words.specs.Word.{children}
use Rattle.records.specs.Forest.{end, node, append_f, count_f}
use Rattle.records.specs.Label.{Label, Trees, repay, is}
use Rattle.records.specs.Place.{records_at, label_at, arity_at, kids_at, end_of, end_add}
use Rattle.grammar.specs.Grammar.{Slot, slot, Decorators, module', expression, parameter_decorators, parameter_of, slots_below}
use Rattle.grammar.specs.WellFormed.{Fits}
use Rattle.rewriting.specs.Parts.{plain, method, field, tree, role_of, is_empty, decorators, undecorate, decorators_of, parameters_of, indexed, of_parameters, bare_parameters, bare_method, bare_field, is_member, is_decorated_member}
use Rattle.rewriting.specs.Visit.{Result, member_if, member, since, join, ◌then◌, visit, visit_one, visit_node}
use Rattle.rewriting.specs.declared.Around.{Around}
use Rattle.rewriting.specs.declared.State.{State}
use Rattle.walk_laws.specs.Rows.{visit_at, plain_one}
use Rattle.walk_laws.specs.Slots.{Standing, standing_at, none_fits, fits_first, no_fits}
use Rattle.walk_laws.specs.Roles.{Sort, is_method, is_property, is_accessor, member_sort, is_kind, is_other, plain_28, plain_37, bare_by, descriptor_by, member_one}
use Rattle.walk_laws.specs.Still.{repaid, empty_end, empty_append, empty_indexed, member_role_lem, kids_number, many_28}
use Rattle.walk_laws.specs.Elements.{key_at, parameters_at, at_parameters, Marked, Called, decorators_kind, parameter_kind, decorators_first, undecorate_first, marked_read, marked_empty, called_read, key_stays, called_here, called_bare, method_called, below_31, below_32, below_36, below_37}

-- ---- children that begin with a 28

-- a record whose word stays, in front of others
plain_front : (around : Around) (l : Label) (k r : Trees) (s : State) → role_of l ≡ plain →
    (visit around (node l k r) s).here ≡ node l (visit around k s).here (visit around r (visit_one around l k s).after).here
plain_front around l k r s e =
    let t : State = (visit_one around l k s).after in
    let joined : (visit_one around l k s then λ u. visit around r u).here ≡ append_f (visit_one around l k s).here (visit around r t).here = unfold ◌then◌ join in refl in
    let one : (visit_one around l k s).here ≡ tree l (visit around k s).here = ap (λ (x : Result). x.here) (plain_one around l k s e) in
    let put : append_f (tree l (visit around k s).here) (visit around r t).here ≡ node l (visit around k s).here (visit around r t).here = unfold tree append_f in refl in
    ap (λ (x : Result). x.here) (visit_node around l k r s) ∙ joined ∙ ap (λ (f : Trees). append_f f (visit around r t).here) one ∙ put

-- a 28 that is empty
module _ (x : ℕ) (rs : List Slot) (d : Label) (k r : Trees) (h : Fits (slot Decorators x ∷ rs) (node d k r)) (none : is_empty (decorators (node d k r)) ≡ true) where
  first_kind_lem : d.kind ≡ 28
  unfolding Fits
  first_kind_lem = decorators_kind x d h.0

  none_kids : k ≡ end
  none_kids = empty_end k (ap is_empty (sym (decorators_first d k r first_kind_lem)) ∙ none)

  count_kids : count_f k ≡ d.payload
  unfolding Fits
  count_kids = kids_number (slot Decorators x) d k h.0 h.1 ∙ ap (λ (j : ℕ). children j d.payload) first_kind_lem ∙ many_28 d.payload

  none_payload : repay d 0 ≡ d
  none_payload = repaid d 0 (sym count_kids ∙ ap count_f none_kids ∙ (unfold count_f in refl))

  front_same : (around : Around) (s : State) → undecorate (visit around (node d k r) s).here ≡ (visit around (node d k r) s).here
  front_same around s =
      let t : State = (visit_one around d k s).after in
      let v : (visit around (node d k r) s).here ≡ node d (visit around k s).here (visit around r t).here = plain_front around d k r s (plain_28 d first_kind_lem) in
      let e : (visit around k s).here ≡ end = ap (λ (f : Trees). (visit around f s).here) none_kids ∙ (unfold visit in refl) in
      ap undecorate v ∙ undecorate_first d (visit around k s).here (visit around r t).here first_kind_lem
      ∙ ap (λ (l : Label). node l end (visit around r t).here) none_payload
      ∙ ap (λ (f : Trees). node d f (visit around r t).here) (sym e) ∙ sym v

undecorate_same : (x : ℕ) (rs : List Slot) (f : Trees) → Fits (slot Decorators x ∷ rs) f → is_empty (decorators f) ≡ true → (around : Around) (s : State) → undecorate (visit around f s).here ≡ (visit around f s).here
undecorate_same x rs end h e around s = absurd (no_fits (slot Decorators x) rs h)
undecorate_same x rs (node d k r) h e around s = front_same x rs d k r h e around s

-- ---- parameters

bare_node : (l : Label) (k r : Trees) → bare_parameters (node l k r) ≡ node l (undecorate k) (bare_parameters r)
unfolding bare_parameters
bare_node l k r = refl

empty_node : (i : ℕ) (l : Label) (k r : Trees) → is_empty (of_parameters i (node l k r)) ≡ true → (is_empty (decorators k) ≡ true) × (is_empty (of_parameters (suc i) r) ≡ true)
unfolding of_parameters
empty_node i l k r e =
    let p = empty_append (indexed i (decorators k)) (of_parameters (suc i) r) e in
    (empty_indexed i (decorators k) p.0, p.1)

bare_same : (x n : ℕ) (f : Trees) → Fits (replicate n (parameter_of x)) f → (i : ℕ) → is_empty (of_parameters i f) ≡ true → (around : Around) (s : State) →
    bare_parameters (visit around f s).here ≡ (visit around f s).here
bare_same x n end h i e around s = unfold visit bare_parameters in refl
bare_same x zero (node l k r) h i e around s = absurd (none_fits l k r h)
bare_same x (suc n) (node l k r) h i e around s =
    let g = fits_first (parameter_of x) (replicate n (parameter_of x)) l k r h in
    let c : l.kind ≡ 37 = parameter_kind x l g.0 in
    let t : State = (visit_one around l k s).after in
    let p = empty_node i l k r e in
    let fits : Fits (parameter_decorators x ∷ (replicate l.payload expression ++ [])) k =
    subst (λ (qs : List Slot). Fits qs k) (ap (λ (j : ℕ). slots_below (parameter_of x) j l.payload) c ∙ below_37 (parameter_of x) l.payload) g.1 in
    let v : (visit around (node l k r) s).here ≡ node l (visit around k s).here (visit around r t).here = plain_front around l k r s (plain_37 l c) in
    ap bare_parameters v ∙ bare_node l (visit around k s).here (visit around r t).here
    ∙ ap (λ (y : Trees). node l y (bare_parameters (visit around r t).here)) (undecorate_same x _ k fits p.0 around s)
    ∙ ap (node l (visit around k s).here) (bare_same x n r g.2 (suc i) p.1 around t) ∙ sym v

fields : (d : Label) (f : Trees) → is_empty (decorators_of (field d) f) ≡ true → is_empty (decorators f) ≡ true
unfolding decorators_of
fields d f e = e

-- ---- by place

module _ (ws : List ℕ) (whole : Fits (module' ∷ []) (records_at ws 0)) (at : ℕ) (h : at < length ws) where
  stands : Standing ws at
  stands = standing_at ws (module' ∷ []) whole at h

  kids_in : (k : ℕ) (qs : List Slot) → (label_at ws at).kind ≡ k → slots_below stands.slot k (label_at ws at).payload ≡ qs → Fits qs (kids_at ws at)
  kids_in k qs e b = subst (λ (rs : List Slot). Fits rs (kids_at ws at)) (ap (λ (j : ℕ). slots_below stands.slot j (label_at ws at).payload) e ∙ b) stands.kids

module _ (ws : List ℕ) (whole : Fits (module' ∷ []) (records_at ws 0)) (at : ℕ) (h : at < length ws) (around : Around) (s : State) where
  field_same : (x : ℕ) (rs : List Slot) → Fits (slot Decorators x ∷ rs) (kids_at ws at) → is_empty (decorators (kids_at ws at)) ≡ true →
      bare_field (visit around (kids_at ws at) s).here ≡ (visit around (kids_at ws at) s).here
  unfolding bare_field
  field_same x rs f e = undecorate_same x rs (kids_at ws at) f e around s

  method_same : Called ws at → is_empty (decorators_of method (kids_at ws at)) ≡ true → bare_method (visit around (kids_at ws at) s).here ≡ (visit around (kids_at ws at) s).here
  unfolding decorators_of parameters_at key_at
  method_same c e =
      let m : Marked ws at = c.keyed.marked in
      let d : Label = label_at ws (at + 1) in
      let q : ℕ = parameters_at ws at in
      let t : State = at_parameters ws around at s in
      let p = empty_append (decorators (kids_at ws at)) (of_parameters 0 (parameters_of (kids_at ws at))) e in
      let read : parameters_of (kids_at ws at) ≡ kids_at ws q = called_read ws at c ∙ ap (kids_at ws) (end_add ws (at + 1) 1 1) in
      let none : kids_at ws (at + 1) ≡ end = empty_end (kids_at ws (at + 1)) (ap is_empty (sym (marked_read ws at m)) ∙ p.0) in
      let zero : repay d 0 ≡ d = repaid d 0 (eqb-true d.payload 0 (sym (marked_empty ws at whole m) ∙ p.0)) in
      let g : Trees = (visit around (kids_at ws q) t).here in
      let w : Trees = (visit_at ws (end_of ws q 1) (arity_at ws at - 3) around (visit_at ws q 1 around t).after).here in
      let y : Trees = (key_stays ws around at s c.keyed).below in
      let k : Label = label_at ws (key_at ws at) in
      let bare : bare_parameters g ≡ g =
      bare_same (stands ws whole q c.place).slot.context (label_at ws q).payload (kids_at ws q)
      (kids_in ws whole q c.place 36 _ c.kind (below_36 (stands ws whole q c.place).slot (label_at ws q).payload))
      0 (ap (λ (f : Trees). is_empty (of_parameters 0 f)) (sym read) ∙ p.1) around t in
      let empty : (visit around (kids_at ws (at + 1)) s).here ≡ end = ap (λ (f : Trees). (visit around f s).here) none ∙ (unfold visit in refl) in
      called_bare ws around at s c
      ∙ ap (λ (l : Label). node l end (node k y (node (label_at ws q) (bare_parameters g) w))) zero
      ∙ ap (λ (f : Trees). node d end (node k y (node (label_at ws q) f w))) bare
      ∙ ap (λ (f : Trees). node d f (node k y (node (label_at ws q) g w))) (sym empty)
      ∙ sym (called_here ws around at s c)

  module _ (m : is_member (label_at ws at) ≡ true) (bare : is_decorated_member (label_at ws at) (kids_at ws at) ≡ false) where
    bare_is : bare_by (label_at ws at) (visit around (kids_at ws at) s).here ≡ (visit around (kids_at ws at) s).here
    unfolding bare_by
    bare_is = go (member_sort (label_at ws at) m)
      where
        q : Slot
        q = (stands ws whole at h).slot

        none : (d : Label) → role_of (label_at ws at) ≡ field d → is_empty (decorators (kids_at ws at)) ≡ true
        none d r = fields d (kids_at ws at) (member_role_lem (label_at ws at) (kids_at ws at) (field d) r m bare)

        go : Sort (label_at ws at) → cond (is 30 (label_at ws at)) (bare_method (visit around (kids_at ws at) s).here) (bare_field (visit around (kids_at ws at) s).here) ≡ (visit around (kids_at ws at) s).here
        go (is_method e r) =
            rw (is_kind (label_at ws at) 30 e)
            (method_same (method_called ws at whole h e) (member_role_lem (label_at ws at) (kids_at ws at) method r m bare))
        go (is_property e r) =
            rw (is_other (label_at ws at) 31 30 e refl)
            (field_same 0 _ (kids_in ws whole at h 31 _ e (below_31 q (label_at ws at).payload)) (none _ r))
        go (is_accessor e r) =
            rw (is_other (label_at ws at) 32 30 e refl)
            (field_same 0 _ (kids_in ws whole at h 32 _ e (below_32 q (label_at ws at).payload)) (none _ r))

    not_called : visit_one around (label_at ws at) (kids_at ws at) s ≡
        since (role_of (label_at ws at)) (label_at ws at) (member_if false around (label_at ws at) (kids_at ws at) (bare_by (label_at ws at) (visit around (kids_at ws at) s).here) (decorators_of (role_of (label_at ws at)) (visit around (kids_at ws at) s).here) (descriptor_by (label_at ws at)) (visit around (kids_at ws at) s)) (visit around (kids_at ws at) s)
    unfolding member
    not_called =
        let b : (around.live && is_decorated_member (label_at ws at) (kids_at ws at)) ≡ false = rw (bare, and-false around.live) in
        member_one around (label_at ws at) (kids_at ws at) s m ∙ rw b

    pub undecorated_here : (visit_one around (label_at ws at) (kids_at ws at) s).here ≡ tree (label_at ws at) (visit around (kids_at ws at) s).here
    undecorated_here = ap (λ (r : Result). r.here) not_called ∙ (unfold since member_if in ap (tree (label_at ws at)) bare_is)

    pub undecorated_after : (visit_one around (label_at ws at) (kids_at ws at) s).after ≡ (visit around (kids_at ws at) s).after
    undecorated_after = ap (λ (r : Result). r.after) not_called ∙ (unfold since member_if in refl)
