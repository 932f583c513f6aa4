-- The words of a forest as they are written: each label by a function of its kind and payload. Assumes nothing.
use Rattle.std.specs.Prelude.{◌≡◌, ℕ, length}
use Rattle.std.proofs.Math.Path.{refl, ap}
use Rattle.std.proofs.Common.{◌∙◌}
use mathlib.Core.List.{List, [], ◌∷◌, ◌++◌, map, map-append, append-nil}
use Rattle.std.proofs.Math.ListN.{length-map}
use Rattle.records.specs.Forest.{end, node, flat, size, append_f, flat_append}
use Rattle.records.specs.Label.{Label, Trees}

module _ (word : ℕ → ℕ → ℕ) where
  unfoldable pub word_by : Label → ℕ
  word_by l = word l.kind l.payload

  unfoldable pub written : Trees → List ℕ
  written f = map word_by (flat f)

  pub written_end : written end ≡ []
  unfolding written flat
  written_end = refl

  pub written_node : (l : Label) (k r : Trees) → written (node l k r) ≡ word_by l ∷ (written k ++ written r)
  unfolding written flat
  written_node l k r = ap (word_by l ∷◌) (map-append word_by (flat k) (flat r))

  pub written_append : (f g : Trees) → written (append_f f g) ≡ written f ++ written g
  unfolding written
  written_append f g = ap (map word_by) (flat_append f g) ∙ map-append word_by (flat f) (flat g)

  -- one record
  pub written_tree : (l : Label) (k : Trees) → written (node l k end) ≡ word_by l ∷ written k
  unfolding written flat
  written_tree l k = ap (λ (xs : List Label). map word_by (l ∷ xs)) (append-nil (flat k))

  pub length_written : (f : Trees) → length (written f) ≡ size f
  unfolding written size
  length_written f = rw length-map
