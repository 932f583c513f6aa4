-- The parts of records that the rules of document 01 speak of: decorators, parameters, members, the parts of a class. Definitions only.
use Rattle.std.specs.Prelude.{Bool, true, false, ◌&&◌, ◌||◌, not, cond, [], ◌∷◌, ℕ, suc}
use Rattle.std.specs.declared.option.Option.{Option}
use Rattle.std.specs.declared.option.Option.TheVariants.{None as none, Some as some}
use Rattle.words.specs.Table.{lookup}
use Rattle.words.specs.Word.{bit0, bit1}
use Rattle.records.specs.Forest.{end, node, drop_f, append_f, count_f, any_f}
use Rattle.records.specs.Label.{Label, Trees, ◌∶◌, repay, is, bit}

-- ---- forests of records

-- one record
unfoldable pub tree : Label → Trees → Trees
tree l kids = node l kids end

unfoldable pub is_empty : Trees → Bool
is_empty end = true
is_empty (node l kids rest) = false

-- a label whose payload counts the given children
unfoldable pub recount : Label → Trees → Label
recount l kids = repay l (count_f kids)

-- the children of the first record of kind k
unfoldable pub kids_of : ℕ → Trees → Trees
kids_of k end = end
kids_of k (node l kids rest) = cond (is k l) kids (kids_of k rest)

-- the first record of kind k with its children changed, its word as it was
unfoldable pub change_kids : ℕ → (Trees → Trees) → Trees → Trees
change_kids k g end = end
change_kids k g (node l kids rest) = cond (is k l) (node l (g kids) rest) (node l kids (change_kids k g rest))

-- does a record at any depth pass a test of its word and children
unfoldable pub any_record : (Label → Trees → Bool) → Trees → Bool
any_record p end = false
any_record p (node l kids rest) = p l kids || any_record p kids || any_record p rest

-- ---- what a record is to the rewriting

pub data Role : Type 0 where
  -- a module; a list of statements (3, 33, 39); a class statement; a class expression; a method; a constructor; any other record
  module' list statement expression method constructor plain : Role
  -- a property or an abstract accessor, with the word of its descriptor (rule 3)
  field : Label → Role

unfoldable pub role_of : Label → Role
role_of l = lookup l.kind (
    (1, module') ∷ (3, list) ∷ (33, list) ∷ (39, list) ∷ (4, statement) ∷ (20, expression) ∷
    (30, cond (bit bit1 l) constructor method) ∷ (31, field (14 ∶ 0)) ∷ (32, field (13 ∶ 0)) ∷ []) plain

-- ---- decorators

-- of a record with these children: those of its 28, the first child
unfoldable pub decorators : Trees → Trees
decorators end = end
decorators (node l kids rest) = cond (is 28 l) kids end

-- the children with the 28 emptied
unfoldable pub undecorate : Trees → Trees
undecorate end = end
undecorate (node l kids rest) = cond (is 28 l) (node (repay l 0) end rest) (node l kids rest)

-- the parameters of a method, a constructor or a function: the children of its 36
unfoldable pub parameters_of : Trees → Trees
parameters_of kids = kids_of 36 kids

-- rule 3: each decorator as the child of a 23 with its parameter's index
unfoldable pub indexed : ℕ → Trees → Trees
indexed i end = end
indexed i (node l kids rest) = node (23 ∶ i) (tree l kids) (indexed i rest)

-- the decorators of the parameters from index i on
unfoldable pub of_parameters : ℕ → Trees → Trees
of_parameters i end = end
of_parameters i (node l kids rest) = append_f (indexed i (decorators kids)) (of_parameters (suc i) rest)

-- parameters without their decorators (rules 2 and 7)
unfoldable pub bare_parameters : Trees → Trees
bare_parameters end = end
bare_parameters (node l kids rest) = node l (undecorate kids) (bare_parameters rest)

-- the decorators of an element with these children, then its parameters': the entries of its array (rule 3)
unfoldable pub decorators_of : Role → Trees → Trees
decorators_of module' kids = end
decorators_of list kids = end
decorators_of statement kids = end
decorators_of expression kids = end
decorators_of plain kids = end
decorators_of method kids = append_f (decorators kids) (of_parameters 0 (parameters_of kids))
decorators_of constructor kids = of_parameters 0 (parameters_of kids)
decorators_of (field d) kids = decorators kids

-- the children of a method or constructor, and those of a field, without decorators
unfoldable pub bare_method : Trees → Trees
bare_method kids = undecorate (change_kids 36 bare_parameters kids)

unfoldable pub bare_field : Trees → Trees
bare_field kids = undecorate kids

-- ---- members (the term of document 01: any element but a constructor or static block)

unfoldable pub is_constructor : Label → Bool
is_constructor l = is 30 l && bit bit1 l

unfoldable pub is_member : Label → Bool
is_member l = (is 30 l && not (bit bit1 l)) || is 31 l || is 32 l

-- "A member is decorated if it or a parameter of it has decorators"
unfoldable pub is_decorated_member : Label → Trees → Bool
is_decorated_member l kids = is_member l && not (is_empty (decorators_of (role_of l) kids))

-- a key that gives a name as it stands (rule 5)
unfoldable pub is_plain_key : Label → Bool
is_plain_key l = is 34 l || is 35 l || is 10 l || is 11 l || is 12 l || is 13 l

unfoldable pub first_is_plain : Trees → Bool
first_is_plain end = false
first_is_plain (node l kids rest) = is_plain_key l

-- has a member with these children such a key: it is the second child
unfoldable pub has_plain_key : Trees → Bool
has_plain_key kids = first_is_plain (drop_f 1 kids)

-- ---- classes: ck are the children of a 26

-- the elements of its body, the 29
unfoldable pub elements_of : Trees → Trees
elements_of ck = kids_of 29 ck

-- the body with other elements, counted
unfoldable pub with_elements : Trees → Trees → Trees
with_elements new end = end
with_elements new (node l kids rest) = cond (is 29 l) (node (recount l new) new rest) (node l kids (with_elements new rest))

-- the symbol of its id: the second child, if that is a 27
unfoldable pub symbol_if : Trees → Option ℕ
symbol_if end = none
symbol_if (node l kids rest) = cond (is 27 l) (some l.payload) none

unfoldable pub id_of : Trees → Option ℕ
id_of end = none
id_of (node l kids rest) = symbol_if rest

-- the decorators of all elements
unfoldable pub of_elements : Trees → Trees
of_elements end = end
of_elements (node l kids rest) = append_f (decorators_of (role_of l) kids) (of_elements rest)

-- rule 9: "a decorator of a live class, its elements or their parameters has, as read, a 19 anywhere inside it"
unfoldable pub has_private_in : Trees → Bool
has_private_in ck = any_f (is 19) (append_f (decorators ck) (of_elements (elements_of ck)))

-- rule 8: elements with a static property or a static block
unfoldable pub has_static : Trees → Bool
has_static end = false
has_static (node l kids rest) = is 33 l || (is 31 l && bit bit0 l) || has_static rest

-- ---- constructors among elements

-- rule 6: has any constructor a decorated parameter
unfoldable pub constructor_decorated : Trees → Bool
constructor_decorated end = false
constructor_decorated (node l kids rest) = (is_constructor l && not (is_empty (of_parameters 0 (parameters_of kids)))) || constructor_decorated rest

-- the *first constructor* (the term of document 01): the entries of its parameters; the elements without them (rule 7)
unfoldable pub first_constructor : Trees → Trees
first_constructor end = end
first_constructor (node l kids rest) = cond (is_constructor l) (of_parameters 0 (parameters_of kids)) (first_constructor rest)

unfoldable pub bare_first : Trees → Trees
bare_first end = end
bare_first (node l kids rest) = cond (is_constructor l) (node l (bare_method kids) rest) (node l kids (bare_first rest))

-- rule 6: *decorated* (the term of document 01), "if it or any constructor's parameter has decorators"
unfoldable pub is_decorated : Trees → Bool
is_decorated ck = not (is_empty (decorators ck)) || constructor_decorated (elements_of ck)

-- "the class or its first constructor's parameters are decorated"
unfoldable pub is_decorated_class : Trees → Bool
is_decorated_class ck = not (is_empty (decorators ck)) || not (is_empty (first_constructor (elements_of ck)))

-- ---- the child of a class statement: a class

-- rule 2: *live* (the term of document 01), "a statement and not declare"
unfoldable pub is_live : Trees → Bool
is_live end = false
is_live (node c ck rest) = not (bit bit1 c)

-- the class's children
unfoldable pub class_kids : Trees → Trees
class_kids end = end
class_kids (node c ck rest) = ck

-- refusal 7: "some live decorated class has a first constructor, and neither that constructor's parameters nor the class have decorators"
unfoldable pub has_constructor : Trees → Bool
has_constructor end = false
has_constructor (node l kids rest) = is_constructor l || has_constructor rest

unfoldable pub is_refused7 : Label → Trees → Bool
is_refused7 l kids =
    is 4 l && is_live kids && is_decorated (class_kids kids) && has_constructor (elements_of (class_kids kids)) && not (is_decorated_class (class_kids kids))
