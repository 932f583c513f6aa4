-- The marks of classes, bodies and members by the places of their parts in an accepted module. Assumes nothing.
use Rattle.std.specs.Prelude.{◌≡◌, refl, Bool, true, false, not, List, [], ◌∷◌, ℕ, ◌+◌, ◌-◌, ◌<◌, length, eqb, ◌≤◌}
use Rattle.std.proofs.Common.{ap, sym, ◌∙◌, arith, eq-eqb, ne_eqb, eqb-true}
use Rattle.std.proofs.lemmas.Bool.{eqb-false}
use Rattle.records.specs.Place.{records_at, label_at, arity_at, kids_at, end_of}
use Rattle.grammar.specs.Grammar.{module'}
use Rattle.grammar.specs.WellFormed.{Fits}
use Rattle.rewriting.specs.Parts.{is_empty, decorators, parameters_of, constructor_decorated, is_constructor, is_decorated, is_decorated_member}
use Rattle.inspect.specs.Row.{any_row}
use Rattle.inspect.specs.Class.{has_decorators, parameters_any, member_31, member_32, member_method}
use Rattle.walk_laws.specs.Elements.{Marked, Called, marked_empty, called_read, method_called, property_keyed, accessor_keyed}
use Rattle.walk_laws.specs.ClassPlaces.{class_marked, class_body}

module _ (ws : List ℕ) (whole : Fits (module' ∷ []) (records_at ws 0)) (at : ℕ) where
  -- ---- the 28 right behind a record

  module _ (m : Marked ws at) where
    own_some : ((label_at ws (at + 1)).payload ≡ 0 → ⊥) → is_empty (decorators (kids_at ws at)) ≡ false
    own_some n = marked_empty ws at whole m ∙ ne_eqb _ 0 n

    own_none : (label_at ws (at + 1)).payload ≡ 0 → is_empty (decorators (kids_at ws at)) ≡ true
    own_none e = marked_empty ws at whole m ∙ eq-eqb _ 0 e

  -- ---- a class

  module _ (h : at < length ws) (kind : (label_at ws at).kind ≡ 26) where
    pub class_own : ((label_at ws (at + 1)).payload ≡ 0 → ⊥) → is_decorated (kids_at ws at) ≡ true
    unfolding is_decorated
    class_own n = rw (own_some (class_marked ws whole at h kind) n)

    pub class_constructor : (label_at ws (at + 1)).payload ≡ 0 → is_decorated (kids_at ws at) ≡ constructor_decorated (kids_at ws (end_of ws (at + 1) (arity_at ws at - 1)))
    unfolding is_decorated
    class_constructor e = rw (own_none (class_marked ws whole at h kind) e) (ap constructor_decorated (sym (class_body ws whole at h kind).2))

  -- ---- a member

  module _ (h : at < length ws) where
    pub property_own : (label_at ws at).kind ≡ 31 → is_decorated_member (label_at ws at) (kids_at ws at) ≡ not (eqb (label_at ws (at + 1)).payload 0)
    property_own e = member_31 (label_at ws at) (kids_at ws at) e ∙ ap not (marked_empty ws at whole (property_keyed ws at whole h e).marked)

    pub accessor_own : (label_at ws at).kind ≡ 32 → is_decorated_member (label_at ws at) (kids_at ws at) ≡ not (eqb (label_at ws (at + 1)).payload 0)
    accessor_own e = member_32 (label_at ws at) (kids_at ws at) e ∙ ap not (marked_empty ws at whole (accessor_keyed ws at whole h e).marked)

    -- a property or an accessor
    pub field_own : 31 ≤ (label_at ws at).kind → (label_at ws at).kind < 33 → is_decorated_member (label_at ws at) (kids_at ws at) ≡ not (eqb (label_at ws (at + 1)).payload 0)
    field_own l u = go (eqb (label_at ws at).kind 31) refl
      where
        go : (b : Bool) → eqb (label_at ws at).kind 31 ≡ b → is_decorated_member (label_at ws at) (kids_at ws at) ≡ not (eqb (label_at ws (at + 1)).payload 0)
        go true e = property_own (eqb-true _ 31 e)
        go false e = accessor_own (omega (arith, l, u, eqb-false _ 31 e))

    module _ (kind : (label_at ws at).kind ≡ 30) where
      called : Called ws at
      called = method_called ws at whole h kind

      module _ (c : is_constructor (label_at ws at) ≡ false) where
        pub method_own : ((label_at ws (at + 1)).payload ≡ 0 → ⊥) → is_decorated_member (label_at ws at) (kids_at ws at) ≡ true
        method_own n = member_method (label_at ws at) (kids_at ws at) kind c ∙ rw (own_some called.keyed.marked n)

        pub method_parameters_lem : (label_at ws (at + 1)).payload ≡ 0 → is_decorated_member (label_at ws at) (kids_at ws at) ≡ any_row has_decorators (kids_at ws (end_of ws (at + 1) 2))
        method_parameters_lem e =
            member_method (label_at ws at) (kids_at ws at) kind c
            ∙ rw (own_none called.keyed.marked e) (parameters_any 0 (parameters_of (kids_at ws at)) ∙ ap (any_row has_decorators) (called_read ws at called))
