-- Prefix form: a list of labels, each with a known number of children, read as a forest. The number may depend on what stands behind the label.
-- For any label. Assumes nothing.
use Rattle.std.specs.Prelude.{◌≡◌, length, get_or, drop}
use Rattle.std.proofs.Math.Path.{refl, ap, sym}
use Rattle.std.proofs.Common.{◌∙◌, add-one, length-drop, drop_of_length-le, drop-drop}
use mathlib.Core.List.{List, [], ◌∷◌, ◌++◌, append_assoc, append-nil}
use Prim.Native.Nat.{ℕ, zero, suc, ◌+◌, ◌-◌, ◌<◌, ◌≤◌}
use Rattle.std.proofs.Math.Seq.{drop-cons}
use Rattle.records.specs.Forest.{Forest, end, node, flat, size, take_f, drop_f, append_f, count_f, append_f_end, flat_take_drop, take_append, drop_append, take_f_add, drop_f_add, take_f_end, drop_f_end, size_node, size_append}

module _ {A : Type 0} (arity : A → Forest A → ℕ) where
  -- the label a is put in front: it takes its children from the trees behind it
  unfoldable pub push : A → Forest A → Forest A
  push a st = node a (take_f (arity a st) st) (drop_f (arity a st) st)

  unfoldable pub build : List A → Forest A
  build [] = end
  build (a ∷ ws) = push a (build ws)

  -- every record of the forest, with st standing behind it, has as many children as its label asks for there
  unfoldable pub Full : Forest A → Forest A → Type 0
  Full end st = Unit {0}
  Full (node a kids rest) st = (count_f kids ≡ arity a (append_f kids (append_f rest st))) × Full kids (append_f rest st) × Full rest st

  pub flat_build : (ws : List A) → flat (build ws) ≡ ws
  unfolding flat build push
  flat_build [] = refl
  flat_build (a ∷ ws) = ap (a ∷◌) (flat_take_drop (arity a (build ws)) (build ws) ∙ flat_build ws)

  pub build_cons : (a : A) (ws : List A) → build (a ∷ ws) ≡ node a (take_f (arity a (build ws)) (build ws)) (drop_f (arity a (build ws)) (build ws))
  unfolding build push
  build_cons a ws = refl

  -- the labels of a full forest, in front of others, are read as that forest in front of the others'
  pub build_append : (f : Forest A) (ws : List A) → Full f (build ws) → build (flat f ++ ws) ≡ append_f f (build ws)
  unfolding flat append_f Full
  build_append end ws h = refl
  build_append (node a k r) ws h =
      let s : Full k (build (flat r ++ ws)) = rw (build_append r ws h.2) h.1 in
      rw (build_cons, append_assoc (flat k) (flat r) ws, build_append k (flat r ++ ws) s, build_append r ws h.2, ← h.0, take_append, drop_append)

  pub build_flat : (f : Forest A) → Full f end → build (flat f) ≡ f
  unfolding build
  build_flat f h = rw (← append-nil (flat f), build_append f [] h) (append_f_end f)

  size_first : (a : A) (k n : ℕ) (st : Forest A) → size (take_f (suc k) (node a (take_f n st) (drop_f n st))) ≡ suc (size (take_f (n + k) st))
  unfolding take_f
  size_first a k n st =
      size_node a (take_f n st) (take_f k (drop_f n st))
      ∙ ap suc (sym (size_append (take_f n st) (take_f k (drop_f n st))) ∙ ap size (sym (take_f_add n k st)))

  -- behind the first k trees stands what is read behind their labels
  pub drop_build : (ws : List A) (k : ℕ) → drop_f k (build ws) ≡ build (drop (size (take_f k (build ws))) ws)
  drop_build [] k = unfold build size in rw (drop_f_end {A = A} k, take_f_end {A = A} k) (unfold flat in refl)
  drop_build (a ∷ ws) k = go (λ m. drop_build ws m) k
    where
      st : Forest A
      st = build ws

      n : ℕ
      n = arity a (build ws)

      go : ((m : ℕ) → drop_f m st ≡ build (drop (size (take_f m st)) ws)) → (k : ℕ) → drop_f k (build (a ∷ ws)) ≡ build (drop (size (take_f k (build (a ∷ ws)))) (a ∷ ws))
      go later zero = unfold drop_f take_f size flat in refl
      go later (suc k) =
          let f : build (a ∷ ws) ≡ node a (take_f n st) (drop_f n st) = build_cons a ws in
          let s : size (take_f (suc k) (build (a ∷ ws))) ≡ suc (size (take_f (n + k) st)) = ap (λ (g : Forest A). size (take_f (suc k) g)) f ∙ size_first a k n st in
          let l : drop_f (suc k) (build (a ∷ ws)) ≡ drop_f k (drop_f n st) = ap (drop_f (suc k)) f ∙ (unfold drop_f in refl) in
          l ∙ sym (drop_f_add n k st) ∙ later (n + k) ∙ ap (λ (m : ℕ). build (drop m (a ∷ ws))) (sym s)

  -- what stands at place i of the words, as trees: the first is the record at i
  unfoldable pub stack_at : List A → ℕ → Forest A
  stack_at ws i = build (drop i ws)

  pub stack_at_node : (ws : List A) (i : ℕ) (d : A) → i < length ws →
      stack_at ws i ≡ node (get_or ws i d)
      (take_f (arity (get_or ws i d) (stack_at ws (i + 1))) (stack_at ws (i + 1)))
      (drop_f (arity (get_or ws i d) (stack_at ws (i + 1))) (stack_at ws (i + 1)))
  unfolding stack_at
  stack_at_node ws i d h = rw (add-one, drop-cons ws i d, build_cons)

  pub stack_at_past : (ws : List A) (i : ℕ) → length ws ≤ i → stack_at ws i ≡ end
  unfolding stack_at build
  stack_at_past ws i h = rw (drop_of_length-le ws h)

  pub size_stack_at : (ws : List A) (i : ℕ) → size (stack_at ws i) ≡ length ws - i
  unfolding stack_at size
  size_stack_at ws i = rw (flat_build, length-drop)

  -- k trees from the place i on end where their labels do
  pub stack_at_drop : (ws : List A) (i k : ℕ) → drop_f k (stack_at ws i) ≡ stack_at ws (i + size (take_f k (stack_at ws i)))
  unfolding stack_at
  stack_at_drop ws i k = drop_build (drop i ws) k ∙ ap build (drop-drop (size (take_f k (build (drop i ws)))) i ws)
