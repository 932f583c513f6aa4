-- The words and numbers of the functions that no walker stands below, case by case. Assumes nothing.
use Rattle.std.specs.Prelude.{◌≡◌, Bool, ◌&&◌, not, eqb}
use Rattle.std.proofs.Math.Path.{refl, ap, sym}
use Rattle.std.proofs.Common.{◌∙◌, subst, eq-eqb, ne_eqb}
use Rattle.std.proofs.Math.Bool.{true, false, cond}
use Rattle.std.specs.Option.{option_or}
use Rattle.std.proofs.lemmas.Option.{none-some, same_Some}
use Rattle.std.specs.declared.option.Option.{Option}
use Rattle.std.specs.declared.option.Option.TheVariants.{None as none, Some as some}
use mathlib.Core.List.{List, [], ◌∷◌}
use Prim.Native.Nat.{ℕ, zero, suc, ◌+◌, ◌%◌, ◌<◌, ◌≤◌}
use native.Mathlib.Omega.{arith}
use Rattle.std.proofs.Math.ListN.{length}
use Rattle.words.specs.Word.{bit0, kind_of, payload_of, word_of, kind_of_lem, payload_of_lem}
use Rattle.records.specs.Label.{is}
use Rattle.records.specs.Place.{label_at, kids_at, end_of}
use Rattle.output.specs.Overlay.{Wrote}
use Rattle.rewriting.specs.Parts.{is_decorated_member, has_plain_key}
use Rattle.rewriting.specs.declared.Around.{Around}
use Rattle.class_stack.specs.Renaming.{Sub}
use Rattle.class_stack.specs.Stack.{subs}
use Rattle.class_stack.specs.declared.ClassStack.{ClassStack}
use Rattle.walk_laws.specs.Written.{word_by}
use Rattle.walk_laws.specs.Calls.{symbol_of, prefix_words, name_word}
use Rattle.walk_laws.specs.ClassPlan.{under, optional, export_words}
use Rattle.transform.specs.Under.{word_under, under_push}
use Rattle.transform.specs.Contract.{word_below, takes_key}

-- the same words
pub wrote_as : {o : List ℕ} {at : ℕ} {ws vs o' : List ℕ} {n : ℕ} → ws ≡ vs → Wrote o at ws o' n → Wrote o at vs o' n
wrote_as {o} {at} {o' = o'} {n} e w = subst (λ (l : List ℕ). Wrote o at l o' n) e w

-- the word of a kind and a payload
pub wrote_made : {o o' : List ℕ} {at n w : ℕ} (c : ClassStack) (k p : ℕ) → w ≡ word_of k p → p < 67108864 → Wrote o at (word_below c (kind_of w) (payload_of w) ∷ []) o' n → Wrote o at (word_below c k p ∷ []) o' n
wrote_made {w = w} c k p e h =
    let f : kind_of w ≡ k = ap kind_of e ∙ kind_of_lem k p h in
    let g : payload_of w ≡ p = ap payload_of e ∙ payload_of_lem k p h in
    wrote_as (ap (λ (x : ℕ). word_below c x (payload_of w) ∷ []) f ∙ ap (λ (x : ℕ). word_below c k x ∷ []) g)

-- ---- a symbol, or none

pub optional_length : (word : ℕ → ℕ → ℕ) (k : ℕ) (o : Option ℕ) → length (optional word k o) ≤ 1
unfolding optional
optional_length word k none = omega arith
optional_length word k (some q) = omega arith

-- the symbol of a class that has one
pub symbol_is : (id d : Option ℕ) (c : ℕ) → option_or id d ≡ some c → symbol_of id d ≡ c
unfolding symbol_of
symbol_is (some i) d c e = same_Some i c e
symbol_is none (some i) c e = same_Some i c e
symbol_is none none c e = absurd (none-some c e)

-- ---- members

module _ (word : ℕ → ℕ → ℕ) (f c : ℕ) where
  pub prefix_static : f % 2 ≡ 1 → word 9 c ∷ [] ≡ prefix_words word (eqb (bit0 f) 1) c
  unfolding prefix_words bit0
  prefix_static e = rw (eq-eqb _ _ e)

  pub prefix_other : (f % 2 ≡ 1 → ⊥) → word 24 0 ∷ word 9 c ∷ [] ≡ prefix_words word (eqb (bit0 f) 1) c
  unfolding prefix_words bit0
  prefix_other h = rw (ne_eqb _ _ h)

  pub prefix_length : (b : Bool) → length (prefix_words word b c) ≤ 2
  unfolding prefix_words
  prefix_length true = omega arith
  prefix_length false = omega arith

-- the name of the member at `at`, by its key at q
module _ (word : ℕ → ℕ → ℕ) (ws : List ℕ) (at q : ℕ) (e : q ≡ end_of ws (at + 1) 1) where
  key_kind : (k : ℕ) → k ≡ (label_at ws q).kind → (label_at ws (end_of ws (at + 1) 1)).kind ≡ k
  key_kind k h = ap (λ (i : ℕ). (label_at ws i).kind) (sym e) ∙ sym h

  module _ (k : ℕ) (h : k ≡ (label_at ws q).kind) (n : ℕ) where
    name_by : (x y z : Bool) → eqb k 34 ≡ x → eqb k 35 ≡ y → has_plain_key (kids_at ws at) ≡ z →
        name_word word (label_at ws (end_of ws (at + 1) 1)) (has_plain_key (kids_at ws at)) n ≡
        cond x (word 10 (label_at ws q).payload) (cond y (word 10 0) (cond z (word k (label_at ws q).payload) (word 9 n)))
    unfolding name_word is word_by
    name_by x y z a b c = rw (key_kind k h, a, b, c) (ap (λ (i : ℕ). cond x (word 10 (label_at ws i).payload) (cond y (word 10 0) (cond z (word k (label_at ws i).payload) (word 9 n)))) (sym e))

    pub name_string : (p : ℕ) → p ≡ (label_at ws q).payload → k ≡ 34 → word 10 p ∷ [] ≡ name_word word (label_at ws (end_of ws (at + 1) 1)) (has_plain_key (kids_at ws at)) n ∷ []
    name_string p g a = ap (λ (w : ℕ). w ∷ []) (ap (word 10) g ∙ sym (name_by true _ _ (eq-eqb k 34 a) refl refl))

    pub name_private : (k ≡ 34 → ⊥) → k ≡ 35 → word 10 0 ∷ [] ≡ name_word word (label_at ws (end_of ws (at + 1) 1)) (has_plain_key (kids_at ws at)) n ∷ []
    name_private a b = ap (λ (w : ℕ). w ∷ []) (sym (name_by false true _ (ne_eqb k 34 a) (eq-eqb k 35 b) refl))

    pub name_copied : (p : ℕ) → p ≡ (label_at ws q).payload → (k ≡ 34 → ⊥) → (k ≡ 35 → ⊥) → has_plain_key (kids_at ws at) ≡ true →
        word k p ∷ [] ≡ name_word word (label_at ws (end_of ws (at + 1) 1)) (has_plain_key (kids_at ws at)) n ∷ []
    name_copied p g a b c = ap (λ (w : ℕ). w ∷ []) (ap (word k) g ∙ sym (name_by false false true (ne_eqb k 34 a) (ne_eqb k 35 b) c))

    pub name_fresh : (k ≡ 34 → ⊥) → (k ≡ 35 → ⊥) → has_plain_key (kids_at ws at) ≡ false →
        word 9 n ∷ [] ≡ name_word word (label_at ws (end_of ws (at + 1) 1)) (has_plain_key (kids_at ws at)) n ∷ []
    name_fresh a b c = ap (λ (w : ℕ). w ∷ []) (sym (name_by false false false (ne_eqb k 34 a) (ne_eqb k 35 b) c))

module _ (ws : List ℕ) (at : ℕ) (a : Around) where
  takes_by : (x y z : Bool) → a.live ≡ x → is_decorated_member (label_at ws at) (kids_at ws at) ≡ y → has_plain_key (kids_at ws at) ≡ z → takes_key ws at a ≡ (x && y && not z)
  unfolding takes_key
  takes_by x y z e f g = rw (e, f, g)

  pub takes_dead : a.live ≡ false → takes_key ws at a ≡ false
  unfolding takes_key
  takes_dead e = rw e

  pub takes_plain : a.live ≡ true → is_decorated_member (label_at ws at) (kids_at ws at) ≡ false → takes_key ws at a ≡ false
  unfolding takes_key
  takes_plain e f = rw (e, f)

  pub takes_named : a.live ≡ true → is_decorated_member (label_at ws at) (kids_at ws at) ≡ true → has_plain_key (kids_at ws at) ≡ true → takes_key ws at a ≡ false
  takes_named e f g = takes_by true true true e f g

  pub takes_fresh : a.live ≡ true → is_decorated_member (label_at ws at) (kids_at ws at) ≡ true → has_plain_key (kids_at ws at) ≡ false → takes_key ws at a ≡ true
  takes_fresh e f g = takes_by true true false e f g

-- ---- classes

module _ (word : ℕ → ℕ → ℕ) (c : ℕ) where
  pub export_none : (x : ℕ) → x ≡ 0 → [] ≡ export_words word x c
  unfolding export_words
  export_none x e = rw e

  pub export_own : (x : ℕ) → x ≡ 1 → word 6 c ∷ [] ≡ export_words word x c
  unfolding export_words
  export_own x e = rw e

  pub export_default : (x : ℕ) → (x ≡ 0 → ⊥) → (x ≡ 1 → ⊥) → word 7 c ∷ [] ≡ export_words word x c
  unfolding export_words
  export_default zero h g = absurd (h refl)
  export_default (suc zero) h g = absurd (g refl)
  export_default (suc (suc x)) h g = refl

-- in a body the stack has one class more where the class has an alias
pub body_push : (c r : ClassStack) (o b : ℕ) → subs r ≡ record { symbol = o; alias = b } ∷ subs c → (k p : ℕ) → under (word_below c) o (some b) k p ≡ word_below r k p
unfolding word_below
body_push c r o b e k p = under_push (subs c) o b k p ∙ ap (λ (ss : List Sub). word_under ss k p) (sym e)
