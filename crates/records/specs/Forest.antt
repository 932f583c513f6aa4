-- Forests of labelled records, first child and next sibling: the first trees, those behind them, tests and maps over all labels.
-- For any label. Assumes nothing.
use Rattle.std.specs.Prelude.{◌≡◌, Bool, false, ◌||◌, length}
use Rattle.std.proofs.Math.Path.{refl, ap, sym}
use Rattle.std.proofs.Common.{◌∙◌, add-one, length-append}
use Rattle.std.proofs.Math.Bool.{or_assoc}
use mathlib.Core.List.{List, [], ◌∷◌, ◌++◌, append_assoc, map, map-append}
use Prim.Native.Nat.{ℕ, zero, suc, ◌+◌, ◌≤◌, max}
use Rattle.std.proofs.Math.Nat.{zero-add, suc-add}
use native.Mathlib.Omega.{arith}
use Rattle.std.proofs.lemmas.List.{length-map}

pub data Forest (A : Type 0) : Type 0 where
  end : Forest A
  node : A → Forest A → Forest A → Forest A

module _ {A : Type 0} where
  -- the labels in prefix order: a record's word, its children's, those of what stands behind it
  unfoldable pub flat : Forest A → List A
  flat end = []
  flat (node a kids rest) = a ∷ flat kids ++ flat rest

  -- the number of labels
  unfoldable pub size : Forest A → ℕ
  size f = length (flat f)

  -- the first n trees, and what stands behind them
  unfoldable pub take_f : ℕ → Forest A → Forest A
  take_f zero f = end
  take_f (suc n) end = end
  take_f (suc n) (node a kids rest) = node a kids (take_f n rest)

  unfoldable pub drop_f : ℕ → Forest A → Forest A
  drop_f zero f = f
  drop_f (suc n) end = end
  drop_f (suc n) (node a kids rest) = drop_f n rest

  unfoldable pub append_f : Forest A → Forest A → Forest A
  append_f end g = g
  append_f (node a kids rest) g = node a kids (append_f rest g)

  -- the number of trees
  unfoldable pub count_f : Forest A → ℕ
  count_f end = 0
  count_f (node a kids rest) = suc (count_f rest)

  -- the number of levels
  unfoldable pub height_f : Forest A → ℕ
  height_f end = 0
  height_f (node a kids rest) = max (suc (height_f kids)) (height_f rest)

  -- is there a label that passes the test
  unfoldable pub any_f : (A → Bool) → Forest A → Bool
  any_f p end = false
  any_f p (node a kids rest) = p a || any_f p kids || any_f p rest

  -- every label replaced
  unfoldable pub map_f : (A → A) → Forest A → Forest A
  map_f g end = end
  map_f g (node a kids rest) = node (g a) (map_f g kids) (map_f g rest)

  -- ---- one forest behind another

  pub append_f_end : (f : Forest A) → append_f f end ≡ f
  unfolding append_f
  append_f_end end = refl
  append_f_end (node a k r) = ap (node a k) (append_f_end r)

  pub append_f_assoc : (f g h : Forest A) → append_f (append_f f g) h ≡ append_f f (append_f g h)
  unfolding append_f
  append_f_assoc end g h = refl
  append_f_assoc (node a k r) g h = ap (node a k) (append_f_assoc r g h)

  pub flat_append : (f g : Forest A) → flat (append_f f g) ≡ flat f ++ flat g
  unfolding flat append_f
  flat_append end g = refl
  flat_append (node a k r) g = rw (flat_append r g, append_assoc)

  pub size_append : (f g : Forest A) → size (append_f f g) ≡ size f + size g
  unfolding size
  size_append f g = rw (flat_append, length-append)

  pub size_node : (a : A) (k r : Forest A) → size (node a k r) ≡ suc (size k + size r)
  unfolding size flat
  size_node a k r = ap suc (length-append (flat k) (flat r))

  pub count_f_append : (f g : Forest A) → count_f (append_f f g) ≡ count_f f + count_f g
  unfolding append_f count_f
  count_f_append end g = rw zero-add
  count_f_append (node a k r) g = rw suc-add (ap suc (count_f_append r g))

  pub any_f_append : (p : A → Bool) (f g : Forest A) → any_f p (append_f f g) ≡ (any_f p f || any_f p g)
  unfolding any_f append_f
  any_f_append p end g = refl
  any_f_append p (node a k r) g = ap ((p a || any_f p k) ||◌) (any_f_append p r g) ∙ sym (or_assoc (p a || any_f p k) (any_f p r) (any_f p g))

  pub map_f_append : (h : A → A) (f g : Forest A) → map_f h (append_f f g) ≡ append_f (map_f h f) (map_f h g)
  unfolding map_f append_f
  map_f_append h end g = refl
  map_f_append h (node a k r) g = ap (node (h a) (map_f h k)) (map_f_append h r g)

  pub height_f_append : (f g : Forest A) → height_f (append_f f g) ≡ max (height_f f) (height_f g)
  unfolding height_f append_f
  height_f_append end g = omega arith
  height_f_append (node a k r) g = omega (arith, height_f_append r g)

  -- ---- the first n trees and the others

  pub take_drop : (n : ℕ) (f : Forest A) → append_f (take_f n f) (drop_f n f) ≡ f
  unfolding take_f drop_f append_f
  take_drop zero f = refl
  take_drop (suc n) end = refl
  take_drop (suc n) (node a k r) = ap (node a k) (take_drop n r)

  pub flat_take_drop : (n : ℕ) (f : Forest A) → flat (take_f n f) ++ flat (drop_f n f) ≡ flat f
  flat_take_drop n f = rw (← flat_append, take_drop)

  pub size_take_drop : (n : ℕ) (f : Forest A) → size (take_f n f) + size (drop_f n f) ≡ size f
  size_take_drop n f = rw (← size_append, take_drop)

  pub drop_f_end : (n : ℕ) → drop_f n end ≡ end
  unfolding drop_f
  drop_f_end zero = refl
  drop_f_end (suc n) = refl

  pub take_f_end : (n : ℕ) → take_f n end ≡ end
  unfolding take_f
  take_f_end zero = refl
  take_f_end (suc n) = refl

  pub drop_f_add : (m n : ℕ) (f : Forest A) → drop_f (m + n) f ≡ drop_f n (drop_f m f)
  unfolding drop_f
  drop_f_add zero n f = rw zero-add
  drop_f_add (suc m) n end = rw (drop_f_end (suc m + n), drop_f_end n)
  drop_f_add (suc m) n (node a k r) = rw suc-add (drop_f_add m n r)

  pub take_f_add : (m n : ℕ) (f : Forest A) → take_f (m + n) f ≡ append_f (take_f m f) (take_f n (drop_f m f))
  unfolding take_f drop_f append_f
  take_f_add zero n f = rw zero-add
  take_f_add (suc m) n end = rw (take_f_end (suc m + n), take_f_end n)
  take_f_add (suc m) n (node a k r) = rw suc-add (ap (node a k) (take_f_add m n r))

  -- one tree more, seen from the back: a walker that has done n trees does the next
  pub take_f_suc : (n : ℕ) (f : Forest A) → take_f (suc n) f ≡ append_f (take_f n f) (take_f 1 (drop_f n f))
  take_f_suc n f = rw (← add-one n, take_f_add)

  pub drop_f_suc : (n : ℕ) (f : Forest A) → drop_f (suc n) f ≡ drop_f 1 (drop_f n f)
  drop_f_suc n f = rw (← add-one n, drop_f_add)

  pub take_append : (f g : Forest A) → take_f (count_f f) (append_f f g) ≡ f
  unfolding take_f append_f count_f
  take_append end g = refl
  take_append (node a k r) g = ap (node a k) (take_append r g)

  pub drop_append : (f g : Forest A) → drop_f (count_f f) (append_f f g) ≡ g
  unfolding drop_f append_f count_f
  drop_append end g = refl
  drop_append (node a k r) g = drop_append r g

  pub count_f_take : (n : ℕ) (f : Forest A) → count_f (take_f n f) ≤ n
  unfolding count_f take_f
  count_f_take zero f = omega arith
  count_f_take (suc n) end = omega arith
  count_f_take (suc n) (node a k r) = omega (arith, count_f_take n r)

  -- there are no more trees than labels
  pub count_size : (f : Forest A) → count_f f ≤ size f
  unfolding count_f
  count_size end = omega arith
  count_size (node a k r) = omega (arith, size_node a k r, count_size r)

  -- ---- maps and tests

  pub count_f_map : (g : A → A) (f : Forest A) → count_f (map_f g f) ≡ count_f f
  unfolding count_f map_f
  count_f_map g end = refl
  count_f_map g (node a k r) = ap suc (count_f_map g r)

  pub height_f_map : (g : A → A) (f : Forest A) → height_f (map_f g f) ≡ height_f f
  unfolding height_f map_f
  height_f_map g end = refl
  height_f_map g (node a k r) = rw (height_f_map g k, height_f_map g r)

  pub flat_map : (g : A → A) (f : Forest A) → flat (map_f g f) ≡ map g (flat f)
  unfolding flat map_f
  flat_map g end = refl
  flat_map g (node a k r) = rw (flat_map g k, flat_map g r, map-append g (flat k) (flat r))

  pub size_map : (g : A → A) (f : Forest A) → size (map_f g f) ≡ size f
  unfolding size
  size_map g f = rw (flat_map, length-map)

  pub take_f_map : (g : A → A) (n : ℕ) (f : Forest A) → take_f n (map_f g f) ≡ map_f g (take_f n f)
  unfolding take_f map_f
  take_f_map g zero f = refl
  take_f_map g (suc n) end = refl
  take_f_map g (suc n) (node a k r) = ap (node (g a) (map_f g k)) (take_f_map g n r)

  pub drop_f_map : (g : A → A) (n : ℕ) (f : Forest A) → drop_f n (map_f g f) ≡ map_f g (drop_f n f)
  unfolding drop_f map_f
  drop_f_map g zero f = refl
  drop_f_map g (suc n) end = refl
  drop_f_map g (suc n) (node a k r) = drop_f_map g n r

  -- the same test by the list of labels
  unfoldable pub any_l : (A → Bool) → List A → Bool
  any_l p [] = false
  any_l p (a ∷ as') = p a || any_l p as'

  any_l_append : (p : A → Bool) (xs ys : List A) → any_l p (xs ++ ys) ≡ (any_l p xs || any_l p ys)
  unfolding any_l
  any_l_append p [] ys = refl
  any_l_append p (x ∷ xs) ys = ap (p x ||◌) (any_l_append p xs ys) ∙ sym (or_assoc (p x) (any_l p xs) (any_l p ys))

  pub any_flat : (p : A → Bool) (f : Forest A) → any_f p f ≡ any_l p (flat f)
  unfolding any_f any_l flat
  any_flat p end = refl
  any_flat p (node a k r) =
      or_assoc (p a) (any_f p k) (any_f p r) ∙ ap (p a ||◌) (cc (any_flat p k, any_flat p r, any_l_append p (flat k) (flat r)))
