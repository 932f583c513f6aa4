-- A module stands at the first place alone. Assumes nothing.
use Rattle.std.specs.Prelude.{◌≡◌, true, List, [], ◌∷◌, ◌++◌, ℕ, zero, suc, ◌+◌, ◌<◌, ◌≤◌, ltb, length}
use Rattle.std.proofs.Math.Path.{refl, subst}
use Rattle.std.proofs.Common.{add-one, arith}
use Rattle.std.proofs.Math.Dec.{ltb→lt}
use Rattle.words.specs.Table.{lookup}
use Rattle.records.specs.Forest.{node, drop_f, append_f, take_drop}
use Rattle.records.specs.Label.{Label}
use Rattle.records.specs.Place.{records_at, label_at, arity_at, kids_at, records_node}
use Rattle.grammar.specs.Grammar.{Slot, module', row, leaf, expressions, one_expression, statements, table, row_of, slots_below}
use Rattle.grammar.specs.WellFormed.{Allowed, Fits}
use Rattle.grammar.proofs.Children.{fits_append, allowed_sole}
use Rattle.grammar.proofs.Rows.{each, sole_kind}
use Rattle.rewriting.proofs.Fitting.{Above, EachSlot, slots_append, pass_row, pass_row_lem, pass_runs, category_of}
use Rattle.walk_laws.specs.Slots.{none_fits, fits_first}

first_above : (q : Slot) (qs : List Slot) → Above 1 (q ∷ qs) → 1 < q.category
unfolding EachSlot
first_above q qs a = a.0

rest_above : (q : Slot) (qs : List Slot) → Above 1 (q ∷ qs) → Above 1 qs
unfolding EachSlot
rest_above q qs a = a.1

none_above : Above 1 []
unfolding EachSlot
none_above = tt

-- a module's category is 1
one_above : (q : Slot) (l : Label) → Allowed q l → l.kind ≡ 1 → 1 < q.category → ⊥
one_above q l a e h =
    let c : (row_of 1).category ≡ 1 = unfold row_of lookup table row in refl in
    omega (arith, category_of q l 1 a e, c, h)

-- no slot below a record is a module's
slots_above : (q : Slot) (k p : ℕ) → Above 1 (slots_below q k p)
unfolding slots_below
slots_above q k p =
    pass_row_lem (λ s. 1 < s.category) (λ s. ltb 1 s.category) (λ s. ltb→lt 1 s.category) q.context p (λ i. true) k
    (unfold each table row pass_row pass_runs leaf expressions one_expression statements in tt) refl

-- the records from a place on stand in such slots
record Waiting (ws : List ℕ) (i : ℕ) : Type 0 where
  slots : List Slot
  above : Above 1 slots
  fits : Fits slots (records_at ws i)

module _ (ws : List ℕ) where
  behind : (i : ℕ) (l : Label) → Fits [] (node l (kids_at ws i) (drop_f (arity_at ws i) (records_at ws (i + 1)))) → ⊥
  behind i l f = none_fits l _ _ f

  -- the record at a place, and the slots behind its word
  module _ (i : ℕ) (q : Slot) (qs : List Slot) (above : Above 1 qs) (f : Fits (q ∷ qs) (node (label_at ws i) (kids_at ws i) (drop_f (arity_at ws i) (records_at ws (i + 1))))) where
    next : Waiting ws (i + 1)
    next =
        let b : List Slot = slots_below q (label_at ws i).kind (label_at ws i).payload in
        let g = fits_first q qs _ _ _ f in
        let e : append_f (kids_at ws i) (drop_f (arity_at ws i) (records_at ws (i + 1))) ≡ records_at ws (i + 1) = unfold kids_at in take_drop (arity_at ws i) (records_at ws (i + 1)) in
        record {
          slots = b ++ qs;
          above = slots_append (λ s. 1 < s.category) b qs (slots_above q (label_at ws i).kind (label_at ws i).payload) above;
          fits = subst (Fits (b ++ qs)) e (fits_append b qs _ _ g.1 g.2);
        }

  step : (i : ℕ) → i < length ws → Waiting ws i → ((label_at ws i).kind ≡ 1 → ⊥) × Waiting ws (i + 1)
  step i h w = go w.slots w.above (subst (Fits w.slots) (records_node ws i h) w.fits)
    where
      go : (qs : List Slot) → Above 1 qs → Fits qs (node (label_at ws i) (kids_at ws i) (drop_f (arity_at ws i) (records_at ws (i + 1)))) → ((label_at ws i).kind ≡ 1 → ⊥) × Waiting ws (i + 1)
      go [] a f = absurd (behind i _ f)
      go (q ∷ qs) a f = (λ e. one_above q (label_at ws i) (fits_first q qs _ _ _ f).0 e (first_above q qs a), next i q qs (rest_above q qs a) f)

  module _ (whole : Fits (module' ∷ []) (records_at ws 0)) where
    pub first_kind : 0 < length ws → (label_at ws 0).kind ≡ 1
    unfolding sole_kind lookup
    first_kind h = allowed_sole module' (label_at ws 0) (fits_first module' [] _ _ _ (subst (Fits (module' ∷ [])) (records_node ws 0 h) whole)).0 tt

    waiting : (i : ℕ) → i < length ws → Waiting ws (i + 1)
    waiting zero h = next 0 module' [] none_above (subst (Fits (module' ∷ [])) (records_node ws 0 h) whole)
    waiting (suc i) h = subst (λ (n : ℕ). Waiting ws (n + 1)) (add-one i) (step (i + 1) (omega (arith, h)) (waiting i (omega (arith, h)))).1

    pub no_module : (at : ℕ) → 1 ≤ at → at < length ws → (label_at ws at).kind ≡ 1 → ⊥
    no_module zero h g = absurd (omega (arith, h))
    no_module (suc i) h g = subst (λ (n : ℕ). (label_at ws n).kind ≡ 1 → ⊥) (add-one i) (step (i + 1) (omega (arith, g)) (waiting i (omega (arith, g)))).0
