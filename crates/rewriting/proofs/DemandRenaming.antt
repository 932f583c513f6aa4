-- Rule 6's replacement of a class's symbol by its alias, and the parts of records: it keeps kinds, origins and elements. Assumes nothing.
use Rattle.std.specs.Prelude.{◌≡◌, Bool, cond, ◌&&◌, ℕ, suc}
use Rattle.std.proofs.Math.Path.{refl, ap}
use Rattle.std.proofs.Common.{sym, ◌∙◌}
use Rattle.std.proofs.Math.Bool.{true, false}
use Rattle.std.proofs.lemmas.Bool.{false≢true}
use Rattle.std.specs.declared.option.Option.{Option}
use Rattle.std.specs.declared.option.Option.TheVariants.{None as none, Some as some}
use Rattle.std.proofs.Math.Dec.{eqb}
use Rattle.words.specs.Word.{bit1}
use Rattle.records.specs.Forest.{end, node, map_f, map_f_append}
use Rattle.records.specs.Label.{Label, Trees, ◌∶◌, repay, is, bit}
use Rattle.rewriting.specs.Parts.{tree, kids_of, decorators, indexed, of_parameters, parameters_of, is_constructor, is_member, first_constructor}
use Rattle.rewriting.specs.Visit.{is_ref, to_alias, renamed}
use Rattle.rewriting.proofs.DemandShapes.{and_left, is_kind, by_kind, member_role, member_role_lem}

if_map : (f : Trees → Trees) (b : Bool) (x y : Trees) → f (cond b x y) ≡ cond b (f x) (f y)
if_map f true x y = refl
if_map f false x y = refl

and_same : (x y u v : Bool) → y ≡ x → (x ≡ true → v ≡ u) → (y && v) ≡ (x && u)
and_same true y u v e h = rw (e, h refl)
and_same false y u v e h = rw e

module _ (c b : ℕ) where
  kind_if : (x : Bool) (l : Label) → (cond x (repay l b) l).kind ≡ l.kind
  unfolding repay
  kind_if true l = refl
  kind_if false l = refl

  from_if : (x : Bool) (l : Label) → (cond x (repay l b) l).from ≡ l.from
  unfolding repay
  from_if true l = refl
  from_if false l = refl

  pub alias_kind : (l : Label) → (to_alias c b l).kind ≡ l.kind
  unfolding to_alias
  alias_kind l = kind_if (is_ref c l) l

  pub alias_from : (l : Label) → (to_alias c b l).from ≡ l.from
  unfolding to_alias
  alias_from l = from_if (is_ref c l) l

  alias_is : (k : ℕ) (l : Label) → is k (to_alias c b l) ≡ is k l
  unfolding is
  alias_is k l = ap (λ n. eqb n k) (alias_kind l)

  -- an element's word stays
  ref_30 : (l : Label) → is 30 l ≡ true → is_ref c l ≡ false
  unfolding is_ref is
  ref_30 l e = rw (is_kind 30 l e)

  alias_30 : (l : Label) → is 30 l ≡ true → to_alias c b l ≡ l
  unfolding to_alias
  alias_30 l e = rw (ref_30 l e)

  pub alias_constructor : (l : Label) → is_constructor (to_alias c b l) ≡ is_constructor l
  unfolding is_constructor
  alias_constructor l = and_same (is 30 l) (is 30 (to_alias c b l)) (bit bit1 l) (bit bit1 (to_alias c b l)) (alias_is 30 l) (λ e. ap (bit bit1) (alias_30 l e))

  pub alias_decorators : (k : Trees) → decorators (map_f (to_alias c b) k) ≡ map_f (to_alias c b) (decorators k)
  unfolding decorators map_f
  alias_decorators end = refl
  alias_decorators (node l k r) = rw (alias_is 28 l) (sym (if_map (map_f (to_alias c b)) (is 28 l) k end))

  alias_indexed : (i : ℕ) (f : Trees) → indexed i (map_f (to_alias c b) f) ≡ map_f (to_alias c b) (indexed i f)
  unfolding indexed map_f tree to_alias is_ref is ◌∶◌
  alias_indexed i end = refl
  alias_indexed i (node l k r) = ap (node (23 ∶ i) (tree (to_alias c b l) (map_f (to_alias c b) k))) (alias_indexed i r)

  alias_parameters : (i : ℕ) (f : Trees) → of_parameters i (map_f (to_alias c b) f) ≡ map_f (to_alias c b) (of_parameters i f)
  unfolding of_parameters map_f
  alias_parameters i end = refl
  alias_parameters i (node l k r) =
      rw (alias_decorators k, alias_indexed i (decorators k), alias_parameters (suc i) r) (sym (map_f_append (to_alias c b) (indexed i (decorators k)) (of_parameters (suc i) r)))

  pub alias_kids : (n : ℕ) (f : Trees) → kids_of n (map_f (to_alias c b) f) ≡ map_f (to_alias c b) (kids_of n f)
  unfolding kids_of map_f
  alias_kids n end = refl
  alias_kids n (node l k r) = rw (alias_is n l, alias_kids n r) (sym (if_map (map_f (to_alias c b)) (is n l) k (kids_of n r)))

  alias_first : (f : Trees) → first_constructor (map_f (to_alias c b) f) ≡ map_f (to_alias c b) (first_constructor f)
  unfolding first_constructor parameters_of map_f
  alias_first end = refl
  alias_first (node l k r) =
      rw (alias_constructor l, alias_first r, alias_kids 36 k, alias_parameters 0 (kids_of 36 k))
      (sym (if_map (map_f (to_alias c b)) (is_constructor l) (of_parameters 0 (kids_of 36 k)) (first_constructor r)))

pub renamed_first : (c : ℕ) (alias : Option ℕ) (f : Trees) → first_constructor (renamed c alias f) ≡ renamed c alias (first_constructor f)
unfolding renamed
renamed_first c none f = refl
renamed_first c (some b) f = alias_first c b f

-- ---- one record

unfoldable pub labelled : ℕ → Option ℕ → Label → Label
labelled c none l = l
labelled c (some b) l = to_alias c b l

pub renamed_node : (c : ℕ) (alias : Option ℕ) (l : Label) (k r : Trees) → renamed c alias (node l k r) ≡ node (labelled c alias l) (renamed c alias k) (renamed c alias r)
unfolding renamed labelled map_f
renamed_node c none l k r = refl
renamed_node c (some b) l k r = refl

pub labelled_constructor : (c : ℕ) (alias : Option ℕ) (l : Label) → is_constructor (labelled c alias l) ≡ is_constructor l
unfolding labelled
labelled_constructor c none l = refl
labelled_constructor c (some b) l = alias_constructor c b l

pub labelled_ref : (c : ℕ) (alias : Option ℕ) (l : Label) → is_ref c l ≡ false → labelled c alias l ≡ l
unfolding labelled to_alias
labelled_ref c none l e = refl
labelled_ref c (some b) l e = rw e

-- constructors and members are no references
pub constructor_ref : (c : ℕ) (l : Label) → is_constructor l ≡ true → is_ref c l ≡ false
unfolding is_constructor
constructor_ref c l e = ref_30 c 0 l (and_left (is 30 l) (bit bit1 l) e)

pub member_ref : (c : ℕ) (l : Label) → is_member l ≡ true → is_ref c l ≡ false
unfolding is_ref is member_role
member_ref c l e =
    by_kind l (λ r. member_role r ≡ true → is_ref c l ≡ false) (λ k m. absurd (false≢true m)) (λ k m. absurd (false≢true m)) (λ k m. absurd (false≢true m)) (λ k m. absurd (false≢true m))
    (λ k m. absurd (false≢true m)) (λ k m. absurd (false≢true m)) (λ k b m. absurd (false≢true m)) (λ k b m. rw k) (λ k m. rw k) (λ k m. rw k)
    (λ a b c d e f g h i m. absurd (false≢true m)) (sym (member_role_lem l) ∙ e)
