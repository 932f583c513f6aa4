-- Roles by kind: what a record's role says of its kind, and its kind of its role. Assumes nothing.
use Rattle.std.specs.Prelude.{◌≡◌, Bool, ◌&&◌, ◌||◌, not, cond, [], ◌∷◌, ℕ, eqb}
use Rattle.std.proofs.Math.Path.{refl}
use Rattle.std.proofs.Common.{ap, sym, ◌∙◌, arith, eqb-true}
use Rattle.std.proofs.Math.Bool.{true, false}
use Rattle.std.proofs.lemmas.Bool.{eqb-false}
use Rattle.words.specs.Table.{lookup}
use Rattle.words.specs.Word.{bit1}
use Rattle.records.specs.Label.{Label, is, bit, ◌∶◌}
use Rattle.rewriting.specs.Parts.{Role, module', list, statement, expression, method, constructor, plain, field, role_of, is_constructor, is_member}
use Rattle.alias_search.specs.Mentions.{is_other}

-- the role of a record of kind k; b: its flag 2
unfoldable pub role_at : ℕ → Bool → Role
role_at k b = lookup k (
    (1, module') ∷ (3, list) ∷ (33, list) ∷ (39, list) ∷ (4, statement) ∷ (20, expression) ∷
    (30, cond b constructor method) ∷ (31, field (14 ∶ 0)) ∷ (32, field (13 ∶ 0)) ∷ []) plain

-- a number for each role
unfoldable pub tag : Role → ℕ
tag module' = 0
tag list = 1
tag statement = 2
tag expression = 3
tag method = 4
tag constructor = 5
tag plain = 6
tag (field d) = 7

module _ (k : ℕ) (l : Label) where
  pub role_kind : is k l ≡ true → role_of l ≡ role_at k (bit bit1 l)
  unfolding role_of role_at is
  role_kind h = rw (eqb-true l.kind k h)

  -- no record with another role is of the kind
  pub not_kind : (r : Role) → role_of l ≡ r → eqb (tag (role_at k (bit bit1 l))) (tag r) ≡ false → is k l ≡ false
  not_kind r e g = go (is k l) refl
    where
      go : (b : Bool) → is k l ≡ b → is k l ≡ false
      go true h = absurd (eqb-false _ _ g (ap tag (sym (role_kind h) ∙ e)))
      go false h = h

-- ---- the five sorts of records to a visit

-- a record that is kept: a list of statements, a class expression, a constructor, or any that has no work of its own
unfoldable pub keeps : Role → Bool
keeps module' = false
keeps list = true
keeps statement = false
keeps expression = true
keeps method = false
keeps constructor = true
keeps plain = true
keeps (field d) = false

pub data Sort (l : Label) : Type 0 where
  a_module : is 1 l ≡ true → role_of l ≡ module' → Sort l
  a_statement : is 4 l ≡ true → role_of l ≡ statement → Sort l
  a_method : is_member l ≡ true → role_of l ≡ method → Sort l
  a_field : (d : Label) → is 9 d ≡ false → is 18 d ≡ false → is_member l ≡ true → role_of l ≡ field d → Sort l
  kept_one : keeps (role_of l) ≡ true → is_member l ≡ false → is 4 l ≡ false → Sort l

module _ (l : Label) where
  of_30 : is 30 l ≡ true → Sort l
  of_30 h = go (bit bit1 l) refl
    where
      o1 : is 31 l ≡ false
      o1 = is_other 30 31 l h refl

      o2 : is 32 l ≡ false
      o2 = is_other 30 32 l h refl

      go : (b : Bool) → bit bit1 l ≡ b → Sort l
      go true e = kept_one (rw (role_kind 30 l h, e) (unfold role_at lookup keeps in refl)) (unfold is_member in rw (h, e, o1, o2)) (is_other 30 4 l h refl)
      go false e = a_method (unfold is_member in rw (h, e)) (role_kind 30 l h ∙ rw e (unfold role_at lookup in refl))

  pub others : is 1 l ≡ false → is 4 l ≡ false → is 30 l ≡ false → is 31 l ≡ false → is 32 l ≡ false → keeps (role_of l) ≡ true
  unfolding role_of lookup keeps is
  others a b d e f = rw (a, b, d, e, f) (go (eqb l.kind 3) (eqb l.kind 33) (eqb l.kind 39) (eqb l.kind 20))
    where
      go : (a b c d : Bool) → keeps (cond a list (cond b list (cond c list (cond d expression plain)))) ≡ true
      go true b c d = refl
      go false true c d = refl
      go false false true d = refl
      go false false false true = refl
      go false false false false = refl

  pub sort_of : Sort l
  sort_of = go (is 1 l) refl (is 4 l) refl (is 30 l) refl (is 31 l) refl (is 32 l) refl
    where
      go : (a : Bool) → is 1 l ≡ a → (b : Bool) → is 4 l ≡ b → (c : Bool) → is 30 l ≡ c → (d : Bool) → is 31 l ≡ d → (e : Bool) → is 32 l ≡ e → Sort l
      go true h b i c j d m e n = a_module h (role_kind 1 l h ∙ (unfold role_at lookup in refl))
      go false h true i c j d m e n = a_statement i (role_kind 4 l i ∙ (unfold role_at lookup in refl))
      go false h false i true j d m e n = of_30 j
      go false h false i false j true m e n = a_field (14 ∶ 0) (unfold is ◌∶◌ in refl) (unfold is ◌∶◌ in refl) (unfold is_member in rw (j, m)) (role_kind 31 l m ∙ (unfold role_at lookup in refl))
      go false h false i false j false m true n = a_field (13 ∶ 0) (unfold is ◌∶◌ in refl) (unfold is ◌∶◌ in refl) (unfold is_member in rw (j, m, n)) (role_kind 32 l n ∙ (unfold role_at lookup in refl))
      go false h false i false j false m false n = kept_one (others h i j m n) (unfold is_member in rw (j, m, n)) i

-- a member is a 30, 31 or 32
pub member_not : (k : ℕ) (l : Label) → is_member l ≡ true → eqb k 30 ≡ false → eqb k 31 ≡ false → eqb k 32 ≡ false → is k l ≡ false
unfolding is_member
member_not k l e a b d = go (is k l) refl
  where
    go : (x : Bool) → is k l ≡ x → is k l ≡ false
    go true h =
        let n : ((is 30 l && not (bit bit1 l)) || is 31 l || is 32 l) ≡ false = rw (is_other k 30 l h a, is_other k 31 l h b, is_other k 32 l h d) in
        let z : ◌≡◌ {A = ℕ} 0 1 = cc in absurd (omega arith)
    go false h = h

pub not_constructor : (l : Label) → is_member l ≡ true → is_constructor l ≡ false
unfolding is_member is_constructor
not_constructor l e = go (is 30 l) refl (bit bit1 l) refl
  where
    go : (a : Bool) → is 30 l ≡ a → (b : Bool) → bit bit1 l ≡ b → (a && b) ≡ false
    go true h true g =
        let n : ((is 30 l && not (bit bit1 l)) || is 31 l || is 32 l) ≡ false = rw (g, h, is_other 30 31 l h refl, is_other 30 32 l h refl) in
        let z : ◌≡◌ {A = ℕ} 0 1 = cc in absurd (omega arith)
    go true h false g = refl
    go false h b g = refl
