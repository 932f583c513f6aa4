-- Items, such as words or bytes, written to a lent slice: laid over it from a place on, cut where it ends. Assumes nothing.
use Rattle.std.specs.Prelude.{◌≡◌, refl, List, [], ◌∷◌, ◌++◌, ℕ, suc, ◌+◌, ◌<◌, ◌≤◌, length, set}
use Rattle.std.proofs.Common.{sym, ap, ◌∙◌, add-zero, add-suc, suc-add, add_assoc, add-one, arith, length-set, length-append}
use Rattle.std.proofs.lemmas.List.{set_comm}
use Rattle.std.proofs.Math.Seq.{set_out}

-- o with ws over it from `at` on; an item past the end is lost
unfoldable pub overlay : {A : Type 0} → List A → ℕ → List A → List A
overlay o at [] = o
overlay o at (w ∷ ws) = overlay (set o at w) (suc at) ws

-- what a writer of the items ws at `at` leaves: the slice o', and the next place
pub record Wrote {A : Type 0} (o : List A) (at : ℕ) (ws : List A) (o' : List A) (next : ℕ) : Type 0 where
  pub list : o' ≡ overlay o at ws
  pub end : next ≡ at + length ws

-- ---- laws

pub length_overlay : {A : Type 0} → (o : List A) (at : ℕ) (ws : List A) → length (overlay o at ws) ≡ length o
unfolding overlay
length_overlay o at [] = refl
length_overlay o at (w ∷ ws) = length_overlay (set o at w) (suc at) ws ∙ length-set o at w

pub overlay_append : {A : Type 0} → (o : List A) (at : ℕ) (a b : List A) → overlay o at (a ++ b) ≡ overlay (overlay o at a) (at + length a) b
unfolding overlay
overlay_append o at [] b = rw add-zero
overlay_append o at (w ∷ a) b = rw (add-suc, ← suc-add) (overlay_append (set o at w) (suc at) a b)

-- nothing is written past the end
pub overlay_past : {A : Type 0} → (o : List A) (at : ℕ) (ws : List A) → length o ≤ at → overlay o at ws ≡ o
unfolding overlay
overlay_past o at [] h = refl
overlay_past {A} o at (w ∷ ws) h =
    let h' : length o ≤ suc at = omega arith in
    ap (λ (l : List A). overlay l (suc at) ws) (set_out o at w h) ∙ overlay_past o (suc at) ws h'

pub wrote_none : {A : Type 0} → (o : List A) (at : ℕ) → Wrote o at [] o at
unfolding overlay
wrote_none o at = record { list = refl; end = sym (add-zero at) }

-- the same items
pub wrote_as : {A : Type 0} {o : List A} {at : ℕ} {a b o₁ : List A} {n : ℕ} → a ≡ b → Wrote o at a o₁ n → Wrote o at b o₁ n
wrote_as e w = record { list = rw (← e) w.list; end = rw (← e) w.end }

-- one writer behind another
pub wrote_then : {A : Type 0} {o : List A} {at : ℕ} {a : List A} {o₁ : List A} {n₁ : ℕ} {b : List A} {o₂ : List A} {n₂ : ℕ} →
    Wrote o at a o₁ n₁ → Wrote o₁ n₁ b o₂ n₂ → Wrote o at (a ++ b) o₂ n₂
wrote_then {o} {at} {a} {b = b} p q = record {
  list = rw (overlay_append, ← p.list, ← p.end) q.list;
  end = rw (length-append, ← add_assoc, ← p.end) q.end;
}

set_overlay : {A : Type 0} → (o : List A) (p q : ℕ) (w : A) (ws : List A) → p < q → set (overlay o q ws) p w ≡ overlay (set o p w) q ws
unfolding overlay
set_overlay o p q w [] h = refl
set_overlay {A} o p q w (x ∷ ws) h =
    let n : q ≡ p → ⊥ = omega arith in
    let h' : p < suc q = omega arith in
    set_overlay (set o q x) p (suc q) w ws h' ∙ ap (λ (l : List A). overlay l (suc q) ws) (set_comm o q p x w n)

-- an item put last in front of what it counts
pub wrote_front : {A : Type 0} {o : List A} {at : ℕ} {ws o₁ : List A} {n : ℕ} {w : A} {o₂ : List A} {m : ℕ} →
    Wrote o (at + 1) ws o₁ n → Wrote o₁ at (w ∷ []) o₂ m → Wrote o at (w ∷ ws) o₂ n
unfolding overlay
wrote_front {A} {o} {at} {ws} {w = w} p q =
    let h : at < at + 1 = omega arith in
    record {
      list = q.list ∙ ap (λ (l : List A). set l at w) p.list ∙ set_overlay o at (at + 1) w ws h ∙ ap (λ (n : ℕ). overlay (set o at w) n ws) (add-one at);
      end = omega (arith, p.end);
    }
