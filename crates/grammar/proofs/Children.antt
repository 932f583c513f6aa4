-- What the grammar says of a record's children. Assumes nothing.
use Rattle.std.specs.Prelude.{◌≡◌, refl, List, [], ◌∷◌, ◌++◌, ℕ, replicate, ltb, T}
use Rattle.std.proofs.Common.{subst}
use Rattle.words.specs.Table.{lookup}
use Rattle.words.specs.Word.{bit1, bit2}
use Rattle.records.specs.Forest.{end, node, append_f}
use Rattle.records.specs.Label.{Label, Trees}
use Rattle.grammar.specs.Grammar.{Slot, row, table, row_of, slots, slots_below, key, method_decorators, method_parameters, code}
use Rattle.grammar.specs.WellFormed.{Allowed, Fits}
use Rattle.grammar.proofs.Rows.{allowed_row, sole_kind, kind_sole}

-- ---- trees that fit

-- one forest behind another
pub fits_append : (qs st : List Slot) (t u : Trees) → Fits qs t → Fits st u → Fits (qs ++ st) (append_f t u)
unfolding Fits append_f
fits_append [] st end u f g = g
fits_append [] st (node l k r) u f g = absurd f
fits_append (q ∷ qs) st end u f g = absurd f
fits_append (q ∷ qs) st (node l k r) u f g = (f.0, f.1, fits_append qs st r u f.2 g)

-- the kind of a record whose category has only one
pub allowed_sole : (q : Slot) (l : Label) → Allowed q l → T (ltb (sole_kind q.category) 64) → l.kind ≡ sole_kind q.category
allowed_sole q l a t = kind_sole l.kind q.category (allowed_row q l.kind l.payload a.grammar).0 t

-- the children of a record of kind k
pub fits_kind : (k : ℕ) (q : Slot) (qs : List Slot) (l : Label) (kids rest : Trees) → l.kind ≡ k → Fits (q ∷ qs) (node l kids rest) → Fits (slots_below q k l.payload) kids
unfolding Fits
fits_kind k q qs l kids rest e f = subst (λ (n : ℕ). Fits (slots_below q n l.payload) kids) e f.1

-- the first record is an empty 28
unfoldable pub Bare : Trees → Type 0
Bare end = ⊥
Bare (node l kids rest) = (l.kind ≡ 28) × (l.payload ≡ 0)

bare_first_lem : (qs : List Slot) (t : Trees) → Fits (method_decorators 1 ∷ qs) t → Bare t
unfolding Fits Bare sole_kind lookup
bare_first_lem qs end f = absurd f
bare_first_lem qs (node l kids rest) f = (allowed_sole (method_decorators 1) l f.0 tt, f.0.bare refl refl)

-- a constructor's own 28 is empty
pub constructor_bare : (q : Slot) (qs : List Slot) (l : Label) (kids rest : Trees) → l.kind ≡ 30 → bit1 l.payload ≡ 1 → Fits (q ∷ qs) (node l kids rest) → Bare kids
unfolding slots_below slots row_of table row lookup
constructor_bare q qs l kids rest e c f =
    let g : Fits (method_decorators (bit1 l.payload) ∷ key ∷ method_parameters ∷ (replicate (bit2 l.payload) code ++ [])) kids = fits_kind 30 q qs l kids rest e f in
    bare_first_lem (key ∷ method_parameters ∷ (replicate (bit2 l.payload) code ++ [])) kids
    (subst (λ (n : ℕ). Fits (method_decorators n ∷ key ∷ method_parameters ∷ (replicate (bit2 l.payload) code ++ [])) kids) c g)
