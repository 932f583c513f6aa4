-- Records whose word stays, so that what stands in them becomes what it becomes by itself. Assumes nothing.
use Rattle.std.specs.Prelude.{◌≡◌, refl, Bool, ◌&&◌, ◌||◌, not, ◌⊎◌, ℕ, ◌+◌, ◌<◌, ◌≤◌, eqb, length, get_or}
use Rattle.records.specs.Ends.{blank}
use Rattle.records.specs.declared.Note.{Note}
use Rattle.std.proofs.Math.Logic.{⊎_elim}
use Rattle.std.proofs.Common.{ap, ◌∙◌, arith}
use Rattle.std.proofs.Math.Path.{sym}
use Rattle.std.proofs.Math.Bool.{true, false}
use mathlib.Core.List.{List, [], ◌∷◌}
use borrow.Author.Tests.{eqb-true, eqb-false, eq-eqb, ne_eqb}
use Rattle.words.specs.Table.{lookup}
use Rattle.words.specs.Word.{bit1, kind_of}
use Rattle.words.specs.Shape.{bit_of}
use Rattle.std.specs.declared.option.Option.TheVariants.{None as none}
use Rattle.records.specs.Forest.{take_f}
use Rattle.records.specs.Label.{Label, Trees, read_at, is, bit}
use Rattle.records.specs.Place.{records_at, label_at, arity_at, kids_at}
use Rattle.grammar.specs.Grammar.{Slot, module', class_expression, row, table, row_of, slots, slots_below}
use Rattle.grammar.proofs.Children.{allowed_sole}
use Rattle.grammar.proofs.Rows.{sole_kind}
use Rattle.grammar.specs.WellFormed.{Fits}
use Rattle.rewriting.specs.Parts.{plain, constructor, list as list_role, role_of, tree, is_member, is_constructor, is_decorated_member, is_live, id_of}
use Rattle.rewriting.specs.Visit.{visit, visit_one, work, since, own, kept, inside, entering}
use Rattle.rewriting.specs.declared.Around.{Around}
use Rattle.rewriting.specs.declared.State.{State}
use Rattle.walk_laws.specs.Slots.{Standing, standing_at, kind_row, row_first}
use Rattle.walk_laws.specs.Roles.{plain_26, constructor_kind}
use Rattle.walk_laws.specs.Kinds.{class_inside, class_kind}
use Rattle.walk_laws.specs.After.{after_plain, after_constructor}
use Rattle.walk_laws.specs.Bare.{undecorated_here, undecorated_after}
use Rattle.counter.specs.Contract.{Planned}
use Rattle.transform.specs.Contract.{here_at, after_at, kids_here}
use Rattle.transform.specs.declared.Sort.{Sort}
use Rattle.transform.specs.declared.Sort.TheVariants.{List as List_, Class, Live, Member, Kept}
use Rattle.transform.specs.Plain.{is_plain}
use Rattle.transform.specs.Steps.{here_one, after_one, here_kids, after_kids}

-- the word of the record at `at` stays, and the records in it become what they become in a row of their own
pub record KeptAt (ws : List ℕ) (at : ℕ) : Type 0 where
  pub inside : at < length ws
  pub here : (a : Around) (s : State) → here_at ws at 1 a s ≡ tree (label_at ws at) (here_at ws (at + 1) (arity_at ws at) a s)
  pub after : (a : Around) (s : State) → after_at ws at 1 a s ≡ after_at ws (at + 1) (arity_at ws at) a s

-- ---- by role

module _ (around : Around) (l : Label) (k : Trees) (s : State) where
  plain_here : role_of l ≡ plain → (visit_one around l k s).here ≡ tree l (visit around k s).here
  unfolding visit_one work since
  plain_here e = rw e (unfold own kept inside entering in refl)

  constructor_here : role_of l ≡ constructor → (visit_one around l k s).here ≡ tree l (visit around k s).here
  unfolding visit_one work since
  constructor_here e = rw e (unfold own kept inside entering in refl)

-- ---- the kinds that `record` tells apart

module _ (l : Label) where
  pub plain_rest : (l.kind ≡ 1 → ⊥) → (l.kind ≡ 3 → ⊥) → (l.kind ≡ 33 → ⊥) → (l.kind ≡ 39 → ⊥) → (l.kind ≡ 4 → ⊥) → (l.kind ≡ 20 → ⊥) → (l.kind ≡ 30 → ⊥) →
      (l.kind ≡ 31 → ⊥) → (l.kind ≡ 32 → ⊥) → role_of l ≡ plain
  unfolding role_of lookup
  plain_rest a b c d e f g h i =
      rw (ne_eqb _ 1 a, ne_eqb _ 3 b, ne_eqb _ 33 c, ne_eqb _ 39 d, ne_eqb _ 4 e, ne_eqb _ 20 f, ne_eqb _ 30 g, ne_eqb _ 31 h, ne_eqb _ 32 i)

  constructor_role : is_constructor l ≡ true → role_of l ≡ constructor
  unfolding role_of lookup is_constructor is bit
  constructor_role t =
      let e : l.kind ≡ 30 = constructor_kind l t in
      let b : bit bit1 l ≡ true = (rw (eq-eqb _ 30 e) at t) in
      rw (e, b)

  -- a method, property or accessor: any element of these kinds but a constructor
  element_member : 30 ≤ l.kind → l.kind < 33 → is_constructor l ≡ false → is_member l ≡ true
  unfolding is_constructor is_member is
  element_member low high t = go (eqb l.kind 30) refl (eqb l.kind 31) refl
    where
      go : (x : Bool) → eqb l.kind 30 ≡ x → (y : Bool) → eqb l.kind 31 ≡ y → ((eqb l.kind 30 && not (bit bit1 l)) || eqb l.kind 31 || eqb l.kind 32) ≡ true
      go true e y f = let b : bit bit1 l ≡ false = (rw e at t) in rw (e, b)
      go false e true f = rw (e, f)
      go false e false f = rw (e, f, eq-eqb l.kind 32 (omega (arith, eqb-false _ 30 e, eqb-false _ 31 f)))

module _ (ws : List ℕ) (at : ℕ) (h : at < length ws) where
  abbrev own_label : Label
  own_label = label_at ws at

  kept_by : ((around : Around) (s : State) → (visit_one around own_label (kids_at ws at) s).here ≡ tree own_label (visit around (kids_at ws at) s).here) →
      ((around : Around) (s : State) → (visit_one around own_label (kids_at ws at) s).after ≡ (visit around (kids_at ws at) s).after) → KeptAt ws at
  kept_by e g = record {
    inside = h;
    here = λ a s. here_one ws at a s h ∙ e a s ∙ ap (tree own_label) (sym (here_kids ws at a s ∙ (unfold kids_here in refl)));
    after = λ a s. after_one ws at a s h ∙ g a s ∙ sym (after_kids ws at a s);
  }

  pub kept_plain : role_of own_label ≡ plain → KeptAt ws at
  kept_plain e = kept_by (λ around s. plain_here around own_label (kids_at ws at) s e) (λ around s. after_plain around own_label (kids_at ws at) s e)

  kept_constructor : role_of own_label ≡ constructor → KeptAt ws at
  kept_constructor e = kept_by (λ around s. constructor_here around own_label (kids_at ws at) s e) (λ around s. after_constructor around own_label (kids_at ws at) s e)

  module _ (whole : Fits (module' ∷ []) (records_at ws 0)) (bare : is_decorated_member own_label (kids_at ws at) ≡ false) where
    kept_member : is_member own_label ≡ true → KeptAt ws at
    kept_member m = kept_by (λ around s. undecorated_here ws whole at h around s m bare) (λ around s. undecorated_after ws whole at h around s m bare)

    -- a method, constructor, property or accessor without decorators
    pub kept_element : 30 ≤ own_label.kind → own_label.kind < 33 → KeptAt ws at
    kept_element low high = go (is_constructor own_label) refl
      where
        go : (b : Bool) → is_constructor own_label ≡ b → KeptAt ws at
        go true c = kept_constructor (constructor_role own_label c)
        go false c = kept_member (element_member own_label low high c)

-- ---- by the set of kinds and the mark

-- the kinds whose words change, but for members
abbrev pub changing : ℕ
changing = 558346797082

not_in : (k n : ℕ) → bit_of changing k ≡ 0 → bit_of changing n ≡ 1 → k ≡ n → ⊥
not_in k n z o e = let y : ◌≡◌ {A = ℕ} 0 1 = sym z ∙ ap (bit_of changing) e ∙ o in omega arith

module _ (ws : List ℕ) (notes : List Note) (at : ℕ) (h : at < length ws) (whole : Fits (module' ∷ []) (records_at ws 0)) (p : Planned ws notes) (mark : (get_or notes at blank).marked ≡ false) where
  -- of these kinds, a record without the mark
  pub unmarked_kept : 30 ≤ (label_at ws at).kind → (label_at ws at).kind < 33 → KeptAt ws at
  unmarked_kept low high = kept_element ws at h whole (sym (p.members at h (λ g. omega arith) (λ g. omega arith) (λ g. omega arith) (λ g. omega arith)) ∙ mark) low high

  pub kept_unmarked : bit_of changing (label_at ws at).kind ≡ 0 → KeptAt ws at
  unfolding bit_of
  kept_unmarked z = go (eqb (label_at ws at).kind 30) refl (eqb (label_at ws at).kind 31) refl (eqb (label_at ws at).kind 32) refl
    where
      no : (n : ℕ) → bit_of changing n ≡ 1 → (label_at ws at).kind ≡ n → ⊥
      no n o e = not_in (label_at ws at).kind n z o e

      member : (n : ℕ) → 30 ≤ n → n < 33 → eqb (label_at ws at).kind n ≡ true → KeptAt ws at
      member n l u e = let k : (label_at ws at).kind ≡ n = eqb-true _ n e in unmarked_kept (omega arith) (omega arith)

      go : (x : Bool) → eqb (label_at ws at).kind 30 ≡ x → (y : Bool) → eqb (label_at ws at).kind 31 ≡ y → (w : Bool) → eqb (label_at ws at).kind 32 ≡ w → KeptAt ws at
      go true e y f w g = member 30 (omega arith) (omega arith) e
      go false e true f w g = member 31 (omega arith) (omega arith) f
      go false e false f true g = member 32 (omega arith) (omega arith) g
      go false e false f false g =
          kept_plain ws at h (plain_rest (label_at ws at) (no 1 refl) (no 3 refl) (no 33 refl) (no 39 refl) (no 4 refl) (no 20 refl) (eqb-false _ 30 e) (eqb-false _ 31 f) (eqb-false _ 32 g))

  -- the same by the word
  pub kept_word : (w : ℕ) → w ≡ get_or ws at 0 → bit_of changing (kind_of w) ≡ 0 → KeptAt ws at
  unfolding label_at read_at
  kept_word w e z = kept_unmarked (ap (λ (x : ℕ). bit_of changing (kind_of x)) (sym e) ∙ z)

below_20 : (q : Slot) (p : ℕ) → slots_below q 20 p ≡ class_expression ∷ []
unfolding slots_below slots row_of table lookup row
below_20 q p = refl

-- ---- the class below a class expression or a class statement

module _ (ws : List ℕ) (whole : Fits (module' ∷ []) (records_at ws 0)) (at : ℕ) (h : at < length ws) where
  pub kept_statement : (label_at ws at).kind ≡ 4 → KeptAt ws (at + 1)
  kept_statement e = kept_plain ws (at + 1) (class_inside ws whole at h e) (plain_26 (label_at ws (at + 1)) (class_kind ws whole at h e))

  pub kept_expression : (label_at ws at).kind ≡ 20 → KeptAt ws (at + 1)
  unfolding sole_kind lookup
  kept_expression e =
      let t : Standing ws at = standing_at ws (module' ∷ []) whole at h in
      let r = kind_row ws at 20 t _ e (below_20 t.slot (label_at ws at).payload) in
      let f = row_first ws (at + 1) 0 class_expression [] r.1 in
      kept_plain ws (at + 1) f.0 (plain_26 (label_at ws (at + 1)) (allowed_sole class_expression (label_at ws (at + 1)) f.1 tt))

-- ---- what becomes of a record

-- a class expression, or a class statement whose class is declare or plain
abbrev pub StaysAt : List ℕ → ℕ → Type 0
StaysAt ws at =
    ((label_at ws at).kind ≡ 20) ⊎
    (((label_at ws at).kind ≡ 4) × (is_live (take_f 1 (records_at ws (at + 1))) ≡ true → is_plain (kids_at ws (at + 1)) ≡ true))

-- the class below it, as the class around what stands in it
pub record ScopeBelow (ws : List ℕ) (at : ℕ) (b : Around) : Type 0 where
  pub expression : (label_at ws at).kind ≡ 20 → (b.live ≡ false) × (b.id ≡ none)
  pub statement : (label_at ws at).kind ≡ 4 → (b.live ≡ is_live (take_f 1 (records_at ws (at + 1)))) × (b.id ≡ id_of (kids_at ws (at + 1)))

-- as `sort_at` says of the record at `at`
abbrev pub SortAt : List ℕ → ℕ → Sort → Type 0
SortAt ws at List_ = role_of (label_at ws at) ≡ list_role
SortAt ws at Class = StaysAt ws at
SortAt ws at Live = ((label_at ws at).kind ≡ 4) × (is_live (take_f 1 (records_at ws (at + 1))) ≡ true)
SortAt ws at Member = is_decorated_member (label_at ws at) (kids_at ws at) ≡ true
SortAt ws at Kept = KeptAt ws at

-- the class below a class that stays
pub kept_below : (ws : List ℕ) → Fits (module' ∷ []) (records_at ws 0) → (at : ℕ) → at < length ws → StaysAt ws at → KeptAt ws (at + 1)
kept_below ws whole at h = ⊎_elim (λ e. kept_expression ws whole at h e) (λ e. kept_statement ws whole at h e.0)

pub list_kind : (l : Label) → (l.kind ≡ 3) ⊎ ((l.kind ≡ 33) ⊎ (l.kind ≡ 39)) → role_of l ≡ list_role
unfolding role_of lookup
list_kind l h = ⊎_elim (λ e. rw e) (λ g. ⊎_elim (λ e. rw e) (λ e. rw e) g) h
