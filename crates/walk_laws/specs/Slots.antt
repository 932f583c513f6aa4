-- The grammar by place: what stands at a place of an accepted module's words, and what its children are. Assumes nothing.
use Rattle.std.specs.Prelude.{◌≡◌, Bool, List, [], ◌∷◌, ◌++◌, ℕ, zero, suc, ◌+◌, ◌<◌, ◌≤◌, replicate}
use Rattle.std.proofs.Math.Path.{refl, ap, sym, subst}
use Rattle.std.proofs.Common.{◌∙◌, add-one, arith}
use Rattle.std.proofs.Math.Bool.{true, false}
use Rattle.std.proofs.Math.Dec.{ltb}
use borrow.Author.Tests.{ltb-true, ltb-false}
use Rattle.std.proofs.Math.ListN.{length}
use Rattle.std.proofs.lemmas.List.{length-replicate}
use Rattle.records.specs.Forest.{end, node, take_f, drop_f, append_f, count_f, take_drop, take_f_end}
use Rattle.records.specs.Label.{Label, Trees, arity}
use Rattle.records.specs.Place.{records_at, label_at, arity_at, kids_at, end_of, records_node, records_past, records_first}
use Rattle.grammar.specs.Grammar.{Slot, slots_below}
use Rattle.grammar.specs.WellFormed.{Allowed, Fits}
use Rattle.grammar.proofs.Children.{fits_append}
use Rattle.grammar.proofs.Rows.{length_below}

-- ---- a forest in its slots

pub fits_count : (qs : List Slot) (f : Trees) → Fits qs f → count_f f ≡ length qs
unfolding Fits count_f
fits_count [] end h = refl
fits_count [] (node l k r) h = absurd h
fits_count (q ∷ qs) end h = absurd h
fits_count (q ∷ qs) (node l k r) h = ap suc (fits_count qs r h.2)

pub none_fits : (l : Label) (k r : Trees) → Fits [] (node l k r) → ⊥
unfolding Fits
none_fits l k r h = h

pub fits_first : (q : Slot) (qs : List Slot) (l : Label) (k r : Trees) → Fits (q ∷ qs) (node l k r) → Allowed q l × Fits (slots_below q l.kind l.payload) k × Fits qs r
unfolding Fits
fits_first q qs l k r h = h

pub no_fits : (q : Slot) (qs : List Slot) → Fits (q ∷ qs) end → ⊥
unfolding Fits
no_fits q qs h = h

-- ---- the record at a place

-- it stands in some slot
pub record Standing (ws : List ℕ) (i : ℕ) : Type 0 where
  pub slot : Slot
  pub own : Allowed slot (label_at ws i)
  pub kids : Fits (slots_below slot (label_at ws i).kind (label_at ws i).payload) (kids_at ws i)

-- k records at a place stand in the slots qs
unfoldable pub RowFits : List ℕ → ℕ → ℕ → List Slot → Type 0
RowFits ws at k qs = Fits qs (take_f k (records_at ws at))

record Waiting (ws : List ℕ) (i : ℕ) : Type 0 where
  slots : List Slot
  fits : Fits slots (records_at ws i)

module _ (ws : List ℕ) where
  first_standing : (i : ℕ) (qs : List Slot) → i < length ws → Fits qs (records_at ws i) → Standing ws i × Waiting ws (i + 1)
  first_standing i qs h f = go qs (subst (Fits qs) (records_node ws i h) f)
    where
      go : (qs : List Slot) → Fits qs (node (label_at ws i) (kids_at ws i) (drop_f (arity_at ws i) (records_at ws (i + 1)))) → Standing ws i × Waiting ws (i + 1)
      go [] f = absurd (none_fits _ _ _ f)
      go (q ∷ qs) f =
          let b : List Slot = slots_below q (label_at ws i).kind (label_at ws i).payload in
          let g : Allowed q (label_at ws i) × Fits b (kids_at ws i) × Fits qs (drop_f (arity_at ws i) (records_at ws (i + 1))) = fits_first q qs _ _ _ f in
          let e : append_f (kids_at ws i) (drop_f (arity_at ws i) (records_at ws (i + 1))) ≡ records_at ws (i + 1) = unfold kids_at in take_drop (arity_at ws i) (records_at ws (i + 1)) in
          (record { slot = q; own = g.0; kids = g.1 }, record { slots = b ++ qs; fits = subst (Fits (b ++ qs)) e (fits_append b qs _ _ g.1 g.2) })

  waiting_at : (i : ℕ) → i ≤ length ws → Waiting ws 0 → Waiting ws i
  waiting_at zero h w = w
  waiting_at (suc i) h w =
      let v : Waiting ws i = waiting_at i (omega arith) w in
      subst (Waiting ws) (add-one i) (first_standing i v.slots (omega arith) v.fits).1

  -- every place of a module's words
  pub standing_at : (qs : List Slot) → Fits qs (records_at ws 0) → (i : ℕ) → i < length ws → Standing ws i
  standing_at qs f i h =
      let v : Waiting ws i = waiting_at i (omega arith) (record { slots = qs; fits = f }) in
      (first_standing i v.slots h v.fits).0

  -- ---- rows

  -- the children of a record, as a row
  kids_row : (i : ℕ) → (t : Standing ws i) → RowFits ws (i + 1) (arity_at ws i) (slots_below t.slot (label_at ws i).kind (label_at ws i).payload)
  unfolding RowFits
  kids_row i t = unfold kids_at in t.kids

  pub arity_slots : (i : ℕ) → (t : Standing ws i) → arity_at ws i ≡ length (slots_below t.slot (label_at ws i).kind (label_at ws i).payload)
  unfolding arity_at arity
  arity_slots i t = sym (length_below t.slot (label_at ws i).kind (label_at ws i).payload t.own.grammar)

  -- the children of a record of kind k
  pub kind_row : (i k : ℕ) (t : Standing ws i) (rs : List Slot) → (label_at ws i).kind ≡ k → slots_below t.slot k (label_at ws i).payload ≡ rs →
      (arity_at ws i ≡ length rs) × RowFits ws (i + 1) (length rs) rs
  kind_row i k t rs e b =
      let all : slots_below t.slot (label_at ws i).kind (label_at ws i).payload ≡ rs = ap (λ (n : ℕ). slots_below t.slot n (label_at ws i).payload) e ∙ b in
      let count : arity_at ws i ≡ length rs = arity_slots i t ∙ ap length all in
      (count, subst (λ (n : ℕ). RowFits ws (i + 1) n rs) count (subst (RowFits ws (i + 1) (arity_at ws i)) all (kids_row i t)))

  -- of one whose payload counts children of one slot
  pub same_row : (i k : ℕ) (t : Standing ws i) (q : Slot) → (label_at ws i).kind ≡ k → slots_below t.slot k (label_at ws i).payload ≡ replicate (label_at ws i).payload q →
      RowFits ws (i + 1) (arity_at ws i) (replicate (arity_at ws i) q)
  same_row i k t q e b =
      let r = kind_row i k t (replicate (label_at ws i).payload q) e b in
      let n : length (replicate (label_at ws i).payload q) ≡ (label_at ws i).payload = length-replicate (label_at ws i).payload q in
      subst (λ (m : ℕ). RowFits ws (i + 1) m (replicate m q)) (sym (r.0 ∙ n)) (subst (λ (m : ℕ). RowFits ws (i + 1) m (replicate (label_at ws i).payload q)) n r.1)

  -- the first of a row, and the others
  pub row_first : (at k : ℕ) (q : Slot) (qs : List Slot) → RowFits ws at (suc k) (q ∷ qs) →
      (at < length ws) × Allowed q (label_at ws at) × RowFits ws (end_of ws at 1) k qs
  unfolding RowFits
  row_first at k q qs f = go (ltb at (length ws)) refl
    where
      go : (b : Bool) → ltb at (length ws) ≡ b → (at < length ws) × Allowed q (label_at ws at) × Fits qs (take_f k (records_at ws (end_of ws at 1)))
      go true e =
          let h : at < length ws = ltb-true at (length ws) e in
          let g = fits_first q qs _ _ _ (subst (Fits (q ∷ qs)) (records_first ws at k h) f) in
          (h, g.0, g.2)
      go false e =
          let n : take_f (suc k) (records_at ws at) ≡ end = ap (take_f (suc k)) (records_past ws at (ltb-false at (length ws) e)) ∙ take_f_end (suc k) in
          absurd (no_fits q qs (subst (Fits (q ∷ qs)) n f))
