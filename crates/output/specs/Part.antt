-- A part of a slice, lent on and written from its start, as the whole slice sees it. Assumes nothing.
use Rattle.std.specs.Prelude.{◌≡◌, List, [], ◌∷◌, ◌++◌, ℕ, suc, ◌+◌, ◌-◌, ◌≤◌, length, take, drop, set}
use Rattle.std.proofs.Common.{sym, ap, ◌∙◌, append-nil, add-zero, add-suc, le-add_right, arith, take-append-drop, length-drop, drop_of_length-le, take_all}
use Rattle.std.proofs.lemmas.List.{take-set-le, drop-set-add}
use Rattle.output.specs.Overlay.{overlay, overlay_past, Wrote}

overlay_part : {A : Type 0} → (o : List A) (a p : ℕ) (ws : List A) → take a o ++ overlay (drop a o) p ws ≡ overlay o (a + p) ws
unfolding overlay
overlay_part o a p [] = take-append-drop a o
overlay_part {A} o a p (w ∷ ws) =
    ap (λ (l : List A). l ++ overlay (set (drop a o) p w) (suc p) ws) (sym (take-set-le a o (a + p) w (le-add_right a p)))
    ∙ ap (λ (l : List A). take a (set o (a + p) w) ++ overlay l (suc p) ws) (sym (drop-set-add a o p w))
    ∙ overlay_part (set o (a + p) w) a (suc p) ws
    ∙ ap (λ (n : ℕ). overlay (set o (a + p) w) n ws) (add-suc a p)

-- the part of o from a on, as it is lent and comes back
module _ {A : Type 0} (o : List A) (a : ℕ) where
  part_all : take (length o - a) (drop a o) ≡ drop a o
  part_all = let e : length (drop a o) ≤ length o - a = omega (arith, length-drop a o) in take_all (length o - a) (drop a o) e

  behind_none : drop (length o - a) (drop a o) ≡ []
  behind_none = let e : length (drop a o) ≤ length o - a = omega (arith, length-drop a o) in drop_of_length-le (drop a o) e

  -- what was written to it at its start was written to o at a
  pub wrote_part : {ws ys : List A} {n : ℕ} → Wrote (take (length o - a) (drop a o)) 0 ws ys n → Wrote o a ws (take a o ++ (ys ++ drop (length o - a) (drop a o))) (a + n)
  wrote_part {ws} {ys} {n} w = record {
    list = rw (behind_none, append-nil, w.list, part_all, overlay_part, add-zero);
    end = omega (arith, w.end);
  }

  -- where a is o's end, the part is empty: what was written to it was written past the end, at any place there
  pub wrote_part_past : {ws ys : List A} {n : ℕ} (at : ℕ) → length o ≤ a → length o ≤ at →
      Wrote (take (length o - a) (drop a o)) 0 ws ys n → Wrote o at ws (take a o ++ (ys ++ drop (length o - a) (drop a o))) (at + n)
  wrote_part_past {ws} at ha h w = record {
    list = (wrote_part w).list ∙ overlay_past o a ws ha ∙ sym (overlay_past o at ws h);
    end = omega (arith, w.end);
  }
