-- What a record is to the rewriting, by its kind. Assumes nothing.
use Rattle.std.specs.Prelude.{◌≡◌, refl, Bool, true, false, cond, [], ◌∷◌, ℕ, T, eqb}
use Rattle.std.proofs.Common.{sym, subst, ◌∙◌, arith, eqb-true}
use Rattle.words.specs.Table.{lookup}
use Rattle.words.specs.Word.{bit1}
use Rattle.records.specs.Label.{Label, ◌∶◌, bit}
use Rattle.rewriting.specs.Parts.{Role, module', list, statement, expression, method, constructor, plain, field, role_of}

pub never : false ≡ true → ⊥
never e = let z : ◌≡◌ {A = ℕ} 0 1 = cc in omega arith

-- none of the kinds that have a role of their own
pub record Plain (l : Label) : Type 0 where
  pub not1 : eqb l.kind 1 ≡ false
  pub not3 : eqb l.kind 3 ≡ false
  pub not33 : eqb l.kind 33 ≡ false
  pub not39 : eqb l.kind 39 ≡ false
  pub not4 : eqb l.kind 4 ≡ false
  pub not20 : eqb l.kind 20 ≡ false
  pub not30 : eqb l.kind 30 ≡ false
  pub not31 : eqb l.kind 31 ≡ false
  pub not32 : eqb l.kind 32 ≡ false

-- by whether the number k is n
pub by_number : {A : Type 0} (P : A → Type 0) (k n : ℕ) (x y : A) → (k ≡ n → P x) → (eqb k n ≡ false → P y) → P (cond (eqb k n) x y)
by_number P k n x y h g = go (eqb k n) refl
  where
    go : (b : Bool) → eqb k n ≡ b → P (cond b x y)
    go true e = h (eqb-true k n e)
    go false e = g e

-- by the kinds of a role
pub role_case : (P : Role → Type 0) (l : Label) →
    (l.kind ≡ 1 → P module') → (l.kind ≡ 3 → P list) → (l.kind ≡ 33 → P list) → (l.kind ≡ 39 → P list) → (l.kind ≡ 4 → P statement) →
    (l.kind ≡ 20 → P expression) → (l.kind ≡ 30 → P (cond (bit bit1 l) constructor method)) → (l.kind ≡ 31 → P (field (14 ∶ 0))) →
    (l.kind ≡ 32 → P (field (13 ∶ 0))) → (Plain l → P plain) → P (role_of l)
unfolding role_of lookup
role_case P l c1 c3 c33 c39 c4 c20 c30 c31 c32 others =
    by_number P l.kind 1 _ _ c1 λ n1. by_number P l.kind 3 _ _ c3 λ n3. by_number P l.kind 33 _ _ c33 λ n33. by_number P l.kind 39 _ _ c39 λ n39.
    by_number P l.kind 4 _ _ c4 λ n4. by_number P l.kind 20 _ _ c20 λ n20. by_number P l.kind 30 _ _ c30 λ n30. by_number P l.kind 31 _ _ c31 λ n31.
    by_number P l.kind 32 _ _ c32 λ n32.
    others (record { not1 = n1; not3 = n3; not33 = n33; not39 = n39; not4 = n4; not20 = n20; not30 = n30; not31 = n31; not32 = n32 })

-- the kinds without a role of their own
unfoldable pub is_plain : ℕ → Bool
is_plain k =
    lookup k ((1, false) ∷ (3, false) ∷ (33, false) ∷ (39, false) ∷ (4, false) ∷ (20, false) ∷ (30, false) ∷ (31, false) ∷ (32, false) ∷ []) true

pub plain_role : (l : Label) (k : ℕ) → l.kind ≡ k → T (is_plain k) → role_of l ≡ plain
unfolding is_plain lookup
plain_role l k e t =
    let no : (n : ℕ) → is_plain n ≡ false → l.kind ≡ n → ⊥ = λ n z f. subst T z (subst (λ (m : ℕ). T (is_plain m)) (sym e ∙ f) t) in
    role_case (λ r. r ≡ plain) l
    (λ f. absurd (no 1 refl f)) (λ f. absurd (no 3 refl f)) (λ f. absurd (no 33 refl f)) (λ f. absurd (no 39 refl f)) (λ f. absurd (no 4 refl f))
    (λ f. absurd (no 20 refl f)) (λ f. absurd (no 30 refl f)) (λ f. absurd (no 31 refl f)) (λ f. absurd (no 32 refl f)) (λ n. refl)

pub module_role_lem : (l : Label) → l.kind ≡ 1 → role_of l ≡ module'
unfolding role_of lookup
module_role_lem l e = rw e

pub statement_role_lem : (l : Label) → l.kind ≡ 4 → role_of l ≡ statement
unfolding role_of lookup
statement_role_lem l e = rw e

pub property_role : (l : Label) → l.kind ≡ 31 → role_of l ≡ field (14 ∶ 0)
unfolding role_of lookup
property_role l e = rw e

pub accessor_role : (l : Label) → l.kind ≡ 32 → role_of l ≡ field (13 ∶ 0)
unfolding role_of lookup
accessor_role l e = rw e
