-- The children of a class: its decorators, its id, its heritage and its body, and what the rewriting makes of each. Assumes nothing.
use Rattle.std.specs.Prelude.{◌≡◌, Bool, true, false, cond, ℕ, suc}
use Rattle.std.proofs.Math.Path.{refl, ap}
use Rattle.std.proofs.Common.{◌∙◌}
use Rattle.std.specs.declared.option.Option.{Option}
use Rattle.std.specs.declared.option.Option.TheVariants.{None as none, Some as some}
use mathlib.Core.List.{List, ◌∷◌, ◌++◌}
use Rattle.records.specs.Forest.{end, node, take_f, drop_f, append_f, count_f}
use Rattle.records.specs.Label.{Label, Trees, ◌∶◌, repay, is}
use Rattle.rewriting.specs.Parts.{tree, recount, kids_of, decorators, undecorate, elements_of, with_elements, symbol_if, id_of, bare_first, bare_method, is_constructor}
use Rattle.rewriting.specs.Visit.{first_payload, with_id, name_class}
use Rattle.walk_laws.specs.Roles.{is_kind, is_other}
use Rattle.walk_laws.specs.Written.{word_by, written, written_node, written_append, written_tree}

-- ---- the shape

-- the record of an id
unfoldable pub id_tree : Option Label → Trees
id_tree none = end
id_tree (some i) = tree i end

unfoldable pub id_symbol : Option Label → Option ℕ
id_symbol none = none
id_symbol (some i) = some i.payload

-- d with its decorators, the id, the heritage h, b with the elements
unfoldable pub class_parts : Label → Trees → Option Label → Trees → Label → Trees → Trees
class_parts d ds i h b els = node d ds (append_f (id_tree i) (append_f h (tree b els)))

-- no record of a row is of kind k
unfoldable pub Without : ℕ → Trees → Type 0
Without k end = Unit {0}
Without k (node l kids rest) = (is k l ≡ false) × Without k rest

unfoldable pub IsId : Option Label → Type 0
IsId none = Unit {0}
IsId (some i) = i.kind ≡ 27

with_behind : (new f g : Trees) → Without 29 f → with_elements new (append_f f g) ≡ append_f f (with_elements new g)
unfolding Without with_elements append_f
with_behind new end g w = refl
with_behind new (node l k r) g w = rw w.0 (ap (node l k) (with_behind new r g w.1))

kids_behind : (k : ℕ) (f g : Trees) → Without k f → kids_of k (append_f f g) ≡ kids_of k g
unfolding Without kids_of append_f
kids_behind k end g w = refl
kids_behind k (node l j r) g w = rw w.0 (kids_behind k r g w.1)

id_without : (i : Option Label) → IsId i → Without 29 (id_tree i)
unfolding IsId Without id_tree tree
id_without none h = tt
id_without (some i) h = (is_other i 27 29 h refl, tt)

module _ (d : Label) (ds : Trees) (i : Option Label) (h : Trees) (b : Label) (els : Trees) (dk : d.kind ≡ 28) (bk : b.kind ≡ 29) (ik : IsId i) (hk : Without 29 h) where
  first_without : Without 29 (tree d ds)
  unfolding Without tree
  first_without = (is_other d 28 29 dk refl, tt)

  kids_last : kids_of 29 (tree b els) ≡ els
  unfolding kids_of tree
  kids_last = rw (is_kind b 29 bk)

  with_last : (new : Trees) → with_elements new (tree b els) ≡ tree (repay b (count_f new)) new
  unfolding with_elements tree recount
  with_last new = rw (is_kind b 29 bk)

  pub class_elements : elements_of (class_parts d ds i h b els) ≡ els
  unfolding elements_of class_parts tree append_f
  class_elements =
      kids_behind 29 (tree d ds) (append_f (id_tree i) (append_f h (tree b els))) first_without
      ∙ kids_behind 29 (id_tree i) (append_f h (tree b els)) (id_without i ik)
      ∙ kids_behind 29 h (tree b els) hk
      ∙ kids_last

  pub class_with : (new : Trees) → with_elements new (class_parts d ds i h b els) ≡ class_parts d ds i h (repay b (count_f new)) new
  unfolding class_parts tree append_f
  class_with new =
      with_behind new (tree d ds) (append_f (id_tree i) (append_f h (tree b els))) first_without
      ∙ ap (node d ds) (
      with_behind new (id_tree i) (append_f h (tree b els)) (id_without i ik)
      ∙ ap (append_f (id_tree i)) (with_behind new h (tree b els) hk ∙ ap (append_f h) (with_last new)))

  pub class_decorators : decorators (class_parts d ds i h b els) ≡ ds
  unfolding decorators class_parts
  class_decorators = rw (is_kind d 28 dk)

  pub class_undecorate : undecorate (class_parts d ds i h b els) ≡ class_parts (repay d 0) end i h b els
  unfolding undecorate class_parts
  class_undecorate = rw (is_kind d 28 dk)

pub class_symbol_lem : (d : Label) (ds : Trees) (i : Option Label) (h : Trees) (b : Label) (els : Trees) → IsId i → Without 27 h → b.kind ≡ 29 →
    id_of (class_parts d ds i h b els) ≡ id_symbol i
unfolding id_of symbol_if class_parts id_tree id_symbol IsId Without tree append_f
class_symbol_lem d ds (some i) h b els ik hk bk = rw (is_kind i 27 ik)
class_symbol_lem d ds none end b els ik hk bk = rw (is_other b 29 27 bk refl)
class_symbol_lem d ds none (node l k r) b els ik hk bk = rw hk.0

-- ---- its id

-- a symbol for the id that it has
unfoldable pub give_id : Option ℕ → Option Label → Option Label
give_id none i = i
give_id (some n) none = none
give_id (some n) (some i) = some (repay i n)

-- an id with the symbol that it is to take, if it has none
unfoldable pub name_id : Option ℕ → Option Label → Option Label
name_id n (some i) = some i
name_id none none = none
name_id (some n) none = some (27 ∶ n)

module _ (d : Label) (ds h : Trees) (b : Label) (els : Trees) where
  pub give_class : (n : ℕ) (i : Label) → with_id (some n) (class_parts d ds (some i) h b els) ≡ class_parts d ds (give_id (some n) (some i)) h b els
  unfolding with_id class_parts id_tree give_id tree append_f first_payload
  give_class n i = refl

  pub name_class_lem : (n : ℕ) (c : Label) → name_class none (some n) c (class_parts d ds none h b els) ≡ tree (repay c (suc c.payload)) (class_parts d ds (name_id (some n) none) h b els)
  unfolding name_class class_parts id_tree name_id tree append_f take_f drop_f
  name_class_lem n c = refl

pub give_is : (n : Option ℕ) (i : Option Label) → IsId i → IsId (give_id n i)
unfolding IsId give_id repay
give_is none i h = h
give_is (some n) none h = h
give_is (some n) (some i) h = h

pub name_is : (n : Option ℕ) (i : Option Label) → IsId i → IsId (name_id n i)
unfolding IsId name_id ◌∶◌
name_is n (some i) h = h
name_is none none h = h
name_is (some n) none h = refl

-- ---- words

module _ (word : ℕ → ℕ → ℕ) where
  pub parts_written : (d : Label) (ds : Trees) (i : Option Label) (h : Trees) (b : Label) (els : Trees) →
      written word (class_parts d ds i h b els) ≡ word_by word d ∷ (written word ds ++ (written word (id_tree i) ++ (written word h ++ (word_by word b ∷ written word els))))
  unfolding class_parts tree
  parts_written d ds i h b els =
      written_node word d ds _
      ∙ ap (λ (xs : List ℕ). word_by word d ∷ (written word ds ++ xs)) (
      written_append word (id_tree i) _
      ∙ ap (written word (id_tree i) ++◌) (written_append word h _ ∙ ap (written word h ++◌) (written_tree word b els)))

-- ---- the first constructor

pub count_bare_first : (f : Trees) → count_f (bare_first f) ≡ count_f f
unfolding bare_first count_f
count_bare_first end = refl
count_bare_first (node l k r) = go (is_constructor l) (count_bare_first r)
  where
    go : (x : Bool) → count_f (bare_first r) ≡ count_f r → count_f (cond x (node l (bare_method k) r) (node l k (bare_first r))) ≡ suc (count_f r)
    go true e = refl
    go false e = ap suc e
