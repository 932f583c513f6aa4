-- What rule 6's search assumes of the records read, a part of the grammar of document 01: the kinds that the rewriting goes by stand only where the
-- grammar has them. What follows for the children of a record. Assumes nothing.
use Rattle.std.proofs.Math.Path.{◌≡◌, ap, sym}
use Rattle.std.specs.Prelude.{refl, Bool, ◌&&◌, ◌||◌, not, [], ◌∷◌, ℕ, eqb}
use Rattle.std.proofs.Common.{◌∙◌, arith, eqb-true}
use Rattle.std.proofs.Math.Bool.{true, false}
use Rattle.words.specs.Table.{lookup}
use Rattle.words.specs.Word.{bit1}
use Rattle.records.specs.Forest.{end, node}
use Rattle.records.specs.Label.{Label, Trees, is, bit}
use Rattle.rewriting.specs.Parts.{role_of, is_member}
use Rattle.alias_search.specs.Mentions.{is_other}
use Rattle.alias_search.specs.Roles.{keeps, others, role_at, role_kind}

-- every record of a row passes the test
unfoldable pub Each : (Label → Bool) → Trees → Type 0
Each p end = Unit {0}
Each p (node l k r) = (p l ≡ true) × Each p r

-- a record whose children are statements
unfoldable pub is_list : Label → Bool
is_list l = is 1 l || is 3 l || is 33 l || is 39 l

-- may a record of kind k stand right under the record l: a module under none, a block and a class statement in a list of statements, a class under a
-- class statement or expression, a body in a class, elements in a body, code under a method or function
unfoldable pub may_hold : Label → ℕ → Bool
may_hold l k = lookup k (
    (1, false) ∷ (3, is_list l) ∷ (4, is_list l) ∷ (26, is 4 l || is 20 l) ∷ (29, is 26 l) ∷
    (30, is 29 l) ∷ (31, is 29 l) ∷ (32, is 29 l) ∷ (33, is 29 l) ∷ (39, is 21 l || is 30 l) ∷ []) true

-- the one child of a class statement
unfoldable pub OneClass : Trees → Type 0
OneClass end = ⊥
OneClass (node c ck r) = (is 26 c ≡ true) × (r ≡ end)

-- at most one body
unfoldable pub OneBody : Trees → Type 0
OneBody end = Unit {0}
OneBody (node l k r) = (is 29 l ≡ true → Each (λ x. not (is 29 x)) r) × OneBody r

-- the first child of a module
unfoldable pub FirstSymbols : Trees → Type 0
FirstSymbols end = Unit {0}
FirstSymbols (node l k r) = is 40 l ≡ true

-- a record and its children
pub record Standing (l : Label) (kids : Trees) : Type 0 where
  pub held : Each (λ x. may_hold l x.kind) kids
  pub class : is 4 l ≡ true → OneClass kids
  pub body : is 26 l ≡ true → OneBody kids
  pub symbols : is 1 l ≡ true → FirstSymbols kids

unfoldable pub Formed : Trees → Type 0
Formed end = Unit {0}
Formed (node l k r) = Standing l k × Formed k × Formed r

-- ---- children

pub each_map : (p q : Label → Bool) → ((x : Label) → p x ≡ true → q x ≡ true) → (f : Trees) → Each p f → Each q f
unfolding Each
each_map p q h end e = tt
each_map p q h (node l k r) e = (h l e.0, each_map p q h r e.1)

pub no_list : (l : Label) → is 1 l ≡ false → is 3 l ≡ false → is 33 l ≡ false → is 39 l ≡ false → is_list l ≡ false
unfolding is_list
no_list l a b d e = rw (a, b, d, e)

pub not_list : (k : ℕ) (l : Label) → is k l ≡ true → eqb k 1 ≡ false → eqb k 3 ≡ false → eqb k 33 ≡ false → eqb k 39 ≡ false → is_list l ≡ false
not_list k l h a b d e = no_list l (is_other k 1 l h a) (is_other k 3 l h b) (is_other k 33 l h d) (is_other k 39 l h e)

-- a kind that may not stand there doesn't
pub held_not : (k : ℕ) (l x : Label) → may_hold l k ≡ false → may_hold l x.kind ≡ true → is k x ≡ false
held_not k l x n h = go (is k x) refl
  where
    go : (b : Bool) → is k x ≡ b → is k x ≡ false
    go true e =
        let i : x.kind ≡ k = eqb-true x.kind k (unfold is in e) in
        let z : true ≡ false = sym h ∙ ap (may_hold l) i ∙ n in
        let zero_one : ◌≡◌ {A = ℕ} 0 1 = cc in absurd (omega arith)
    go false e = e

-- a record that keeps its children
unfoldable pub keeps_one : Label → Bool
keeps_one x = keeps (role_of x)

pub kept_kind : (k : ℕ) (l : Label) → is k l ≡ true → keeps (role_at k (bit bit1 l)) ≡ true → keeps_one l ≡ true
unfolding keeps_one
kept_kind k l h e = rw (role_kind k l h) e

-- a record that queues nothing for the class around
unfoldable pub is_quiet : Label → Bool
is_quiet x = not (is 26 x) && not (is 29 x) && not (is_member x)

module _ (l : Label) where
  pub child_kept : is_list l ≡ false → is 29 l ≡ false → (x : Label) → may_hold l x.kind ≡ true → keeps_one x ≡ true
  unfolding keeps_one
  child_kept a b x h =
      others x
      (held_not 1 l x (unfold may_hold lookup in refl) h)
      (held_not 4 l x (unfold may_hold lookup in a) h)
      (held_not 30 l x (unfold may_hold lookup in b) h)
      (held_not 31 l x (unfold may_hold lookup in b) h)
      (held_not 32 l x (unfold may_hold lookup in b) h)

  pub kids_kept : (k : Trees) → is_list l ≡ false → is 29 l ≡ false → Standing l k → Each keeps_one k
  kids_kept k a b s = each_map (λ x. may_hold l x.kind) keeps_one (child_kept a b) k s.held

  child_quiet : is 4 l ≡ false → is 20 l ≡ false → is 26 l ≡ false → is 29 l ≡ false → (x : Label) → may_hold l x.kind ≡ true → is_quiet x ≡ true
  unfolding is_quiet is_member
  child_quiet a b d e x h =
      let m : may_hold l 26 ≡ false = unfold may_hold lookup in rw (a, b) in
      rw (
        held_not 26 l x m h,
        held_not 29 l x (unfold may_hold lookup in d) h,
        held_not 30 l x (unfold may_hold lookup in e) h,
        held_not 31 l x (unfold may_hold lookup in e) h,
        held_not 32 l x (unfold may_hold lookup in e) h,
      )

  pub kids_quiet : (k : Trees) → is 4 l ≡ false → is 20 l ≡ false → is 26 l ≡ false → is 29 l ≡ false → Standing l k → Each is_quiet k
  kids_quiet k a b d e s = each_map (λ x. may_hold l x.kind) is_quiet (child_quiet a b d e) k s.held
