-- Rule 9's private-in tests: the decorators of records, of parameters and of elements, as tests of their rows. Assumes nothing.
use Rattle.std.specs.Prelude.{◌≡◌, Bool, ◌||◌, cond, ℕ, suc, ◌<◌, eqb}
use Rattle.std.proofs.Math.Path.{refl}
use Rattle.std.proofs.Common.{ap, ◌∙◌, arith}
use Rattle.std.proofs.Math.Bool.{true, false}
use borrow.Author.Tests.{ne_eqb, eqb-true, eqb-false}
use Rattle.std.specs.declared.option.Option.{Option}
use Rattle.std.specs.declared.option.Option.TheVariants.{Some}
use Rattle.words.specs.Kinds.{named, number_other}
use Rattle.words.specs.declared.kinds.Kind.{Kind}
use Rattle.words.specs.declared.kinds.Kind.TheVariants.{Method, Property, AbstractAccessor}
use Rattle.words.specs.Word.{bit1}
use Rattle.words.specs.Table.{lookup}
use Rattle.records.specs.Forest.{end, node, any_f, any_f_append}
use Rattle.records.specs.Label.{Label, Trees, is, bit, ◌∶◌}
use Rattle.rewriting.specs.Parts.{tree, module', list, statement, expression, plain, role_of, decorators, parameters_of, indexed, of_parameters, decorators_of, is_constructor, elements_of, of_elements, has_private_in}
use Rattle.inspect.specs.Row.{Test, any_row}

-- has the record a private-in test in its own decorators
unfoldable pub private_in : Test
private_in l kids = any_f (is 19) (decorators kids)

-- has the element one in its decorators, its parameters' included
unfoldable pub private_in_element : Test
private_in_element l kids = any_f (is 19) (decorators_of (role_of l) kids)

pub indexed_any : (i : ℕ) (f : Trees) → any_f (is 19) (indexed i f) ≡ any_f (is 19) f
unfolding indexed any_f tree is ◌∶◌
indexed_any i end = refl
indexed_any i (node l k r) = ap ((is 19 l || any_f (is 19) k || false) ||◌) (indexed_any i r) ∙ ap (◌|| any_f (is 19) r) (or_false (is 19 l || any_f (is 19) k))
  where
    or_false : (b : Bool) → (b || false) ≡ b
    or_false true = refl
    or_false false = refl

pub parameters_private : (i : ℕ) (f : Trees) → any_f (is 19) (of_parameters i f) ≡ any_row private_in f
unfolding of_parameters any_row private_in
parameters_private i end = unfold any_f in refl
parameters_private i (node l k r) =
    any_f_append (is 19) (indexed i (decorators k)) (of_parameters (suc i) r)
    ∙ ap (◌|| any_f (is 19) (of_parameters (suc i) r)) (indexed_any i (decorators k))
    ∙ ap (any_f (is 19) (decorators k) ||◌) (parameters_private (suc i) r)

pub elements_private : (f : Trees) → any_f (is 19) (of_elements f) ≡ any_row private_in_element f
unfolding of_elements any_row private_in_element
elements_private end = unfold any_f in refl
elements_private (node l k r) =
    any_f_append (is 19) (decorators_of (role_of l) k) (of_elements r) ∙ ap (any_f (is 19) (decorators_of (role_of l) k) ||◌) (elements_private r)

pub class_private : (ck : Trees) → has_private_in ck ≡ (any_f (is 19) (decorators ck) || any_f (is 19) (of_elements (elements_of ck)))
unfolding has_private_in
class_private ck = any_f_append (is 19) (decorators ck) (of_elements (elements_of ck))

-- ---- an element by its kind

module _ (l : Label) (k : Trees) where
  pub private_31 : l.kind ≡ 31 → private_in_element l k ≡ any_f (is 19) (decorators k)
  unfolding private_in_element decorators_of role_of lookup
  private_31 e = rw e

  pub private_32 : l.kind ≡ 32 → private_in_element l k ≡ any_f (is 19) (decorators k)
  unfolding private_in_element decorators_of role_of lookup
  private_32 e = rw e

  pub private_field : 30 < l.kind → l.kind < 33 → private_in_element l k ≡ any_f (is 19) (decorators k)
  private_field a b = go (eqb l.kind 31) refl
    where
      go : (t : Bool) → eqb l.kind 31 ≡ t → private_in_element l k ≡ any_f (is 19) (decorators k)
      go true e = private_31 (eqb-true l.kind 31 e)
      go false e = let n : l.kind ≡ 31 → ⊥ = eqb-false l.kind 31 e in private_32 (omega (arith, n))

  pub private_method : l.kind ≡ 30 → is_constructor l ≡ false → private_in_element l k ≡ (any_f (is 19) (decorators k) || any_f (is 19) (of_parameters 0 (parameters_of k)))
  unfolding private_in_element decorators_of role_of lookup is_constructor is bit
  private_method e i =
      let b : bit bit1 l ≡ false = (rw e at i) in
      rw (e, b) (any_f_append (is 19) (decorators k) (of_parameters 0 (parameters_of k)))

  pub private_constructor : l.kind ≡ 30 → is_constructor l ≡ true → private_in_element l k ≡ any_f (is 19) (of_parameters 0 (parameters_of k))
  unfolding private_in_element decorators_of role_of lookup is_constructor is bit
  private_constructor e i =
      let b : bit bit1 l ≡ true = (rw e at i) in
      rw (e, b)

  pub private_other : {o : Option Kind} → o ≡ named l.kind → (o ≡ Some Method → ⊥) → (o ≡ Some Property → ⊥) → (o ≡ Some AbstractAccessor → ⊥) → private_in_element l k ≡ false
  unfolding private_in_element role_of lookup
  private_other n a b c =
      rw (ne_eqb _ 30 (number_other Method n a), ne_eqb _ 31 (number_other Property n b), ne_eqb _ 32 (number_other AbstractAccessor n c)) (go (eqb l.kind 1) (eqb l.kind 3) (eqb l.kind 33) (eqb l.kind 39) (eqb l.kind 4) (eqb l.kind 20))
    where
      go : (b1 b3 b33 b39 b4 b20 : Bool) →
          any_f (is 19) (decorators_of (cond b1 module' (cond b3 list (cond b33 list (cond b39 list (cond b4 statement (cond b20 expression plain)))))) k) ≡ false
      go true b3 b33 b39 b4 b20 = unfold decorators_of any_f in refl
      go false true b33 b39 b4 b20 = unfold decorators_of any_f in refl
      go false false true b39 b4 b20 = unfold decorators_of any_f in refl
      go false false false true b4 b20 = unfold decorators_of any_f in refl
      go false false false false true b20 = unfold decorators_of any_f in refl
      go false false false false false true = unfold decorators_of any_f in refl
      go false false false false false false = unfold decorators_of any_f in refl
