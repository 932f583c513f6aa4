-- Refusal 7 of the record at a place, by its class's place. Assumes nothing.
use Rattle.std.specs.Prelude.{◌≡◌, refl, Bool, true, false, ◌&&◌, ◌||◌, not, List, ℕ, ◌+◌}
use Rattle.std.proofs.Common.{◌∙◌, ne_eqb}
use Rattle.records.specs.Forest.{end, node, take_f}
use Rattle.records.specs.Label.{Trees, is}
use Rattle.records.specs.Place.{records_at, label_at, kids_at}
use Rattle.rewriting.specs.Parts.{is_empty, decorators, of_parameters, parameters_of, elements_of, is_constructor, constructor_decorated, is_decorated, is_decorated_class, is_live, has_constructor, is_refused7}
use Rattle.inspect.specs.Row.{or_left}
use Rattle.inspect.specs.Class.{class_row, class_kids_lem}

-- a decorated class that has no decorators has a constructor
some_constructor : (f : Trees) → constructor_decorated f ≡ true → has_constructor f ≡ true
unfolding constructor_decorated has_constructor
some_constructor end e = e
some_constructor (node l k r) e = go (is_constructor l) e (λ t. some_constructor r t)
  where
    go : (b : Bool) → ((b && not (is_empty (of_parameters 0 (parameters_of k)))) || constructor_decorated r) ≡ true → (constructor_decorated r ≡ true → has_constructor r ≡ true) → (b || has_constructor r) ≡ true
    go true e later = refl
    go false e later = later e

pub decorated_constructor_lem : (ck : Trees) → is_decorated ck ≡ true → is_decorated_class ck ≡ false → has_constructor (elements_of ck) ≡ true
unfolding is_decorated is_decorated_class
decorated_constructor_lem ck e f =
    let own : not (is_empty (decorators ck)) ≡ false = or_left _ _ f in
    some_constructor (elements_of ck) (rw own at e)

module _ (ws : List ℕ) (at : ℕ) where
  pub refused_other : ((label_at ws at).kind ≡ 4 → ⊥) → is_refused7 (label_at ws at) (kids_at ws at) ≡ false
  unfolding is_refused7 is
  refused_other h = rw (ne_eqb _ 4 h)

  -- a class statement, by the place of its class
  statement_row : (label_at ws at).kind ≡ 4 →
      is_refused7 (label_at ws at) (kids_at ws at) ≡
      (is_live (take_f 1 (records_at ws (at + 1))) && is_decorated (kids_at ws (at + 1)) && has_constructor (elements_of (kids_at ws (at + 1))) && not (is_decorated_class (kids_at ws (at + 1))))
  unfolding is_refused7 is
  statement_row e = rw (e, class_kids_lem ws at e, class_row ws at e)

  pub refused_dead : (label_at ws at).kind ≡ 4 → is_live (take_f 1 (records_at ws (at + 1))) ≡ false → is_refused7 (label_at ws at) (kids_at ws at) ≡ false
  refused_dead e d = statement_row e ∙ rw d

  pub refused_plain : (label_at ws at).kind ≡ 4 → is_live (take_f 1 (records_at ws (at + 1))) ≡ true → is_decorated (kids_at ws (at + 1)) ≡ false → is_refused7 (label_at ws at) (kids_at ws at) ≡ false
  refused_plain e l d = statement_row e ∙ rw (l, d)

  pub refused_decorated : (label_at ws at).kind ≡ 4 → is_live (take_f 1 (records_at ws (at + 1))) ≡ true → is_decorated (kids_at ws (at + 1)) ≡ true →
      is_refused7 (label_at ws at) (kids_at ws at) ≡ not (is_decorated_class (kids_at ws (at + 1)))
  refused_decorated e l d = statement_row e ∙ rw (l, d) (go (is_decorated_class (kids_at ws (at + 1))) refl)
    where
      go : (b : Bool) → is_decorated_class (kids_at ws (at + 1)) ≡ b → (has_constructor (elements_of (kids_at ws (at + 1))) && not b) ≡ not b
      go true t = and_false (has_constructor (elements_of (kids_at ws (at + 1))))
        where
          and_false : (x : Bool) → (x && false) ≡ false
          and_false true = refl
          and_false false = refl
      go false t = rw (decorated_constructor_lem (kids_at ws (at + 1)) d t)
