-- Rule 9 where no word is a private-in test: no class has one in a decorator. Assumes nothing.
use Rattle.std.specs.Prelude.{◌≡◌, Bool, true, false, ◌||◌, cond, List, get_or}
use Rattle.records.specs.Ends.{blank}
use Rattle.records.specs.declared.Note.{Note}
use Rattle.std.proofs.Math.Path.{refl}
use Rattle.std.proofs.Common.{sym, ◌∙◌, ne_eqb}
use Prim.Native.Nat.{ℕ, zero, suc, ◌+◌}
use Rattle.records.specs.Forest.{end, node, any_f, any_f_append}
use Rattle.records.specs.Label.{Label, Trees, is}
use Rattle.records.specs.Place.{label_at, arity_at, kids_at}
use Rattle.rewriting.specs.Parts.{Role, module', list, statement, expression, method, constructor, plain, field, role_of, kids_of, decorators, parameters_of, of_parameters, decorators_of, elements_of, has_private_in}
use Rattle.inspect.specs.Row.{any_row, or_left, or_right}
use Rattle.inspect.specs.Child.{kind_within}
use Rattle.inspect.specs.Inside.{any_word, any_words}
use Rattle.inspect.specs.Private.{private_in, private_in_element, parameters_private, elements_private, class_private}
use Rattle.counter.specs.Contract.{Planned}

-- ---- parts of records of which no word meets a test

module _ (p : Label → Bool) where
  kids_none : (l : Label) (k r : Trees) → any_f p (node l k r) ≡ false → any_f p k ≡ false
  unfolding any_f
  kids_none l k r e = or_right (p l) (any_f p k) (or_left (p l || any_f p k) (any_f p r) e)

  rest_none : (l : Label) (k r : Trees) → any_f p (node l k r) ≡ false → any_f p r ≡ false
  unfolding any_f
  rest_none l k r e = or_right (p l || any_f p k) (any_f p r) e

  first_none : (b : Bool) (k f : Trees) → any_f p k ≡ false → any_f p f ≡ false → any_f p (cond b k f) ≡ false
  first_none true k f e g = e
  first_none false k f e g = g

  decorators_none : (f : Trees) → any_f p f ≡ false → any_f p (decorators f) ≡ false
  unfolding decorators
  decorators_none end e = e
  decorators_none (node l k r) e = first_none (is 28 l) k end (kids_none l k r e) (unfold any_f in refl)

  child_none : (n : ℕ) (f : Trees) → any_f p f ≡ false → any_f p (kids_of n f) ≡ false
  unfolding kids_of
  child_none n end e = e
  child_none n (node l k r) e = first_none (is n l) k (kids_of n r) (kids_none l k r e) (child_none n r (rest_none l k r e))

-- ---- the decorators of a class, of its elements and of their parameters

parameters_none : (f : Trees) → any_f (is 19) f ≡ false → any_row private_in f ≡ false
unfolding any_row private_in
parameters_none end e = refl
parameters_none (node l k r) e = rw (decorators_none (is 19) k (kids_none (is 19) l k r e)) (parameters_none r (rest_none (is 19) l k r e))

of_parameters_none : (k : Trees) → any_f (is 19) k ≡ false → any_f (is 19) (of_parameters 0 (parameters_of k)) ≡ false
unfolding parameters_of
of_parameters_none k e = parameters_private 0 (kids_of 36 k) ∙ parameters_none (kids_of 36 k) (child_none (is 19) 36 k e)

element_none : (r : Role) (k : Trees) → any_f (is 19) k ≡ false → any_f (is 19) (decorators_of r k) ≡ false
unfolding decorators_of any_f
element_none module' k e = refl
element_none list k e = refl
element_none statement k e = refl
element_none expression k e = refl
element_none plain k e = refl
element_none method k e = any_f_append (is 19) (decorators k) (of_parameters 0 (parameters_of k)) ∙ rw (decorators_none (is 19) k e, of_parameters_none k e)
element_none constructor k e = of_parameters_none k e
element_none (field d) k e = decorators_none (is 19) k e

elements_none : (f : Trees) → any_f (is 19) f ≡ false → any_row private_in_element f ≡ false
unfolding any_row private_in_element
elements_none end e = refl
elements_none (node l k r) e = rw (element_none (role_of l) k (kids_none (is 19) l k r e)) (elements_none r (rest_none (is 19) l k r e))

private_none : (ck : Trees) → any_f (is 19) ck ≡ false → has_private_in ck ≡ false
unfolding elements_of
private_none ck e = class_private ck ∙ rw (decorators_none (is 19) ck e) (elements_private (kids_of 29 ck) ∙ elements_none (kids_of 29 ck) (child_none (is 19) 29 ck e))

-- ---- by places

module _ (ws : List ℕ) (none : (i : ℕ) → (label_at ws i).kind ≡ 19 → ⊥) where
  words_none : (n i : ℕ) → any_word (is 19) ws i n ≡ false
  unfolding any_word is
  words_none zero i = refl
  words_none (suc n) i = rw (ne_eqb _ 19 (none i)) (words_none n (i + 1))

  private_nowhere : (at : ℕ) → has_private_in (kids_at ws at) ≡ false
  unfolding kids_at
  private_nowhere at = private_none _ (any_words ws (is 19) (at + 1) (arity_at ws at) ∙ words_none _ (at + 1))

-- the mark of place 1 says that there is no such test
pub private_unmarked : {ws : List ℕ} {notes : List Note} (at : ℕ) → Planned ws notes → (get_or notes 1 blank).marked ≡ false → false ≡ has_private_in (kids_at ws at)
private_unmarked {ws} {notes} at p e = sym (private_nowhere ws (λ i k. p.tests e i (kind_within ws i 18 k) k) at)
