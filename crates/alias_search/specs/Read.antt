-- The search on records as read: records that keep their children, and members that have no decorators. Assumes nothing.
use Rattle.std.proofs.Math.Path.{◌≡◌, refl, sym}
use Rattle.std.proofs.Common.{◌∙◌, arith}
use Rattle.std.specs.Prelude.{Bool, ◌&&◌, ◌||◌, cond, ℕ, suc}
use Rattle.std.proofs.Math.Bool.{true, false, or-false}
use Rattle.records.specs.Forest.{end, node, append_f}
use Rattle.records.specs.Label.{Label, Trees, is}
use Rattle.rewriting.specs.Parts.{is_empty, kids_of, Role, module', list, statement, expression, method, constructor, plain, field, role_of, decorators, parameters_of, indexed, of_parameters}
use Rattle.rewriting.specs.Visit.{is_ref}
use Rattle.inspect.specs.Class.{indexed_empty}
use Rattle.alias_search.specs.Mentions.{Mode, whole, gone, lead, until, each, elements, behind, within, searched, seek, seek_gone, is_other, of_field, of_method, mentions_word, mode_of, inner, mentions_by}
use Rattle.alias_search.specs.Shown.{all}
use Rattle.alias_search.specs.Roles.{keeps}
use Rattle.alias_search.specs.Formed.{keeps_one}
use Rattle.alias_search.specs.Fit.{Fit, FitOne}

pub empty_end : (f : Trees) → is_empty f ≡ true → f ≡ end
unfolding is_empty
empty_end end e = refl
empty_end (node l k r) e = let z : ◌≡◌ {A = ℕ} 0 1 = cc in absurd (omega arith)

module _ (c : ℕ) where
  pub mentions_node : (x : Mode) (l : Label) (k r : Trees) →
      mentions_by c x (node l k r) ≡ ((searched x && mentions_word c l k) || mentions_by c (within (inner c) x l k) k || mentions_by c (behind x l) r)
  unfolding mentions_by seek
  mentions_node x l k r = refl

  pub mentions_end : (x : Mode) → mentions_by c x end ≡ false
  unfolding mentions_by seek
  mentions_end x = refl

  pub mentions_gone : (f : Trees) → mentions_by c gone f ≡ false
  unfolding mentions_by
  mentions_gone f = seek_gone (mentions_word c) (inner c) f

  -- ---- a record that keeps its children

  pub kept_mode : (r : Role) (k : Trees) → keeps r ≡ true → mode_of c r k ≡ whole
  unfolding mode_of keeps
  kept_mode list k e = refl
  kept_mode expression k e = refl
  kept_mode constructor k e = refl
  kept_mode plain k e = refl
  kept_mode module' k e = refl
  kept_mode statement k e = let z : ◌≡◌ {A = ℕ} 0 1 = cc in absurd (omega arith)
  kept_mode method k e = let z : ◌≡◌ {A = ℕ} 0 1 = cc in absurd (omega arith)
  kept_mode (field d) k e = let z : ◌≡◌ {A = ℕ} 0 1 = cc in absurd (omega arith)

  kept_inner : (l : Label) (k : Trees) → keeps (role_of l) ≡ true → inner c l k ≡ whole
  unfolding inner
  kept_inner l k e = kept_mode (role_of l) k e

  pub kept_within : (x : Mode) (l : Label) (k : Trees) → keeps (role_of l) ≡ true → within (inner c) x l k ≡ within all x l k
  unfolding within
  kept_within whole l k e = kept_inner l k e
  kept_within gone l k e = refl
  kept_within (lead x y) l k e = rw (kept_within y l k e)
  kept_within (until n x) l k e = rw (kept_inner l k e)
  kept_within (each x) l k e = refl
  kept_within (elements x) l k e = refl

  pub other_word : (l : Label) (k : Trees) → is 4 l ≡ false → mentions_word c l k ≡ is_ref c l
  unfolding mentions_word
  other_word l k e = rw (e, or-false)

  -- ---- no decorators, nothing lost

  empty_append : (f g : Trees) → is_empty (append_f f g) ≡ true → (is_empty f ≡ true) × (is_empty g ≡ true)
  unfolding is_empty append_f
  empty_append end g e = (refl, e)
  empty_append (node l k r) g e = let z : ◌≡◌ {A = ℕ} 0 1 = cc in absurd (omega arith)

  pub bare_field_lem : (f : Trees) → is_empty (decorators f) ≡ true → mentions_by c of_field f ≡ mentions_by c whole f
  unfolding mentions_by seek searched within behind decorators
  bare_field_lem end e = refl
  bare_field_lem (node l k r) e = go (is 28 l) e
    where
      go : (b : Bool) → is_empty (cond b k end) ≡ true →
          (mentions_word c l k || mentions_by c (cond b gone (inner c l k)) k || mentions_by c (cond b whole whole) r) ≡ (mentions_word c l k || mentions_by c (inner c l k) k || mentions_by c whole r)
      go true e = rw (empty_end k e)
      go false e = refl

  bare_parameters_lem : (i : ℕ) (f : Trees) → Fit (each of_field) f → is_empty (of_parameters i f) ≡ true → mentions_by c (each of_field) f ≡ mentions_by c whole f
  unfolding mentions_by seek searched within behind of_parameters Fit FitOne keeps_one
  bare_parameters_lem i end h e = refl
  bare_parameters_lem i (node l k r) h e =
      let b = empty_append (indexed i (decorators k)) (of_parameters (suc i) r) e in
      let d : is_empty (decorators k) ≡ true = sym (indexed_empty i (decorators k)) ∙ b.0 in
      rw (bare_field_lem k d, kept_inner l k h.0, bare_parameters_lem (suc i) r h.2 b.1)

  bare_until : (f : Trees) → Fit (until 36 (each of_field)) f → is_empty (of_parameters 0 (kids_of 36 f)) ≡ true → mentions_by c (until 36 (each of_field)) f ≡ mentions_by c whole f
  unfolding mentions_by seek searched within behind kids_of Fit FitOne keeps_one
  bare_until end h e = refl
  bare_until (node l k r) h e = go (is 36 l) h.1 h.2 e (λ f g. bare_until r f g)
    where
      go : (b : Bool) → Fit (cond b (each of_field) whole) k → Fit (cond b whole (until 36 (each of_field))) r → is_empty (of_parameters 0 (cond b k (kids_of 36 r))) ≡ true →
          (Fit (until 36 (each of_field)) r → is_empty (of_parameters 0 (kids_of 36 r)) ≡ true → mentions_by c (until 36 (each of_field)) r ≡ mentions_by c whole r) →
          (mentions_word c l k || mentions_by c (cond b (each of_field) (inner c l k)) k || mentions_by c (cond b whole (until 36 (each of_field))) r)
          ≡ (mentions_word c l k || mentions_by c (inner c l k) k || mentions_by c whole r)
      go true f g e later = rw (bare_parameters_lem 0 k f e, kept_inner l k h.0)
      go false f g e later = rw (later g e)

  pub bare_method_lem : (f : Trees) → Fit of_method f → is_empty (append_f (decorators f) (of_parameters 0 (parameters_of f))) ≡ true → mentions_by c of_method f ≡ mentions_by c whole f
  unfolding mentions_by seek searched within behind Fit FitOne parameters_of kids_of decorators
  bare_method_lem end h e = refl
  bare_method_lem (node l k r) h e = go (is 28 l) refl
    where
      parts : (is_empty (decorators (node l k r)) ≡ true) × (is_empty (of_parameters 0 (parameters_of (node l k r))) ≡ true)
      parts = empty_append (decorators (node l k r)) (of_parameters 0 (parameters_of (node l k r))) e

      go : (b : Bool) → is 28 l ≡ b → mentions_by c of_method (node l k r) ≡ mentions_by c whole (node l k r)
      go true i =
          let d : is_empty k ≡ true = rw i at parts.0 in
          let f : Fit (until 36 (each of_field)) r = rw i at h.2 in
          let o : is 36 l ≡ false = is_other 28 36 l i refl in
          let g : is_empty (of_parameters 0 (kids_of 36 r)) ≡ true = rw o at parts.1 in
          rw (i, empty_end k d, bare_until r f g)
      go false i =
          let f : Fit (until 36 (each of_field)) (node l k r) = rw i at h in
          rw i (bare_until (node l k r) f parts.1)
