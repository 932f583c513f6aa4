-- What a mode of search sees of records that are visited already: rule 6's search in the parts that the rules take apart, move and drop. Assumes nothing.
use Rattle.std.proofs.Math.Path.{◌≡◌, refl, ap, sym}
use Rattle.std.proofs.Common.{◌∙◌, arith}
use Rattle.std.specs.Prelude.{Bool, ◌&&◌, ◌||◌, ℕ, suc}
use Rattle.std.proofs.Math.Bool.{true, false, cond, or_assoc, or_comm, or-false, and-false}
use Rattle.std.proofs.Math.Dec.{eqb}
use borrow.Author.Tests.{eqb-true}
use Rattle.words.specs.Word.{bit1}
use Rattle.records.specs.Forest.{end, node, append_f, any_f, map_f, any_f_append}
use Rattle.records.specs.Label.{Label, Trees, is, bit, repay, ◌∶◌}
use Rattle.rewriting.specs.Parts.{tree, kids_of, change_kids, decorators, undecorate, parameters_of, indexed, of_parameters, bare_parameters, bare_method, is_constructor, first_constructor, bare_first}
use Rattle.rewriting.specs.Visit.{is_ref, to_alias}
use Rattle.inspect.specs.Row.{or_left, or_right}
use Rattle.alias_search.specs.Ors.{ors}
use Rattle.alias_search.specs.Mentions.{Mode, whole, gone, lead, until, each, elements, behind, within, searched, seek, seek_gone, seek_until, is_other, of_field, of_method}

abbrev pub word : ℕ → Label → Trees → Bool
word c l kids = is_ref c l

abbrev pub all : Label → Trees → Mode
all l kids = whole

-- is there a 9 or 18 of the symbol c in what the mode sees
unfoldable pub shows : ℕ → Mode → Trees → Bool
shows c x f = seek (word c) all x f

pub is_repay : (k : ℕ) (l : Label) (p : ℕ) → is k (repay l p) ≡ is k l
unfolding is repay
is_repay k l p = refl

module _ (c : ℕ) where
  -- no kind but 9 and 18 refers to a symbol
  pub ref_kind : (k : ℕ) (l : Label) → is k l ≡ true → eqb k 9 ≡ false → eqb k 18 ≡ false → is_ref c l ≡ false
  unfolding is_ref
  ref_kind k l h e g = rw (is_other k 9 l h e, is_other k 18 l h g)

  pub made_ref : (k p : ℕ) → eqb k 9 ≡ false → eqb k 18 ≡ false → is_ref c (k ∶ p) ≡ false
  unfolding is_ref is ◌∶◌
  made_ref k p e g = rw (e, g)

  pub ref_9 : (i : ℕ) → is_ref c (9 ∶ i) ≡ eqb i c
  unfolding is_ref is ◌∶◌
  ref_9 i = refl

  pub ref_18 : (i : ℕ) → is_ref c (18 ∶ i) ≡ eqb i c
  unfolding is_ref is ◌∶◌
  ref_18 i = refl

  pub end_any : any_f (is_ref c) end ≡ false
  unfolding any_f
  end_any = refl

  pub tree_any : (l : Label) (k : Trees) → any_f (is_ref c) (tree l k) ≡ (is_ref c l || any_f (is_ref c) k)
  unfolding tree any_f
  tree_any l k = or-false _

  -- a made record of another kind adds nothing
  pub made_any : (k p : ℕ) (f : Trees) → eqb k 9 ≡ false → eqb k 18 ≡ false → any_f (is_ref c) (tree (k ∶ p) f) ≡ any_f (is_ref c) f
  made_any k p f e g = tree_any (k ∶ p) f ∙ rw (made_ref k p e g)

  pub shows_node : (x : Mode) (l : Label) (k r : Trees) → shows c x (node l k r) ≡ ((searched x && is_ref c l) || shows c (within all x l k) k || shows c (behind x l) r)
  unfolding shows seek
  shows_node x l k r = refl

  pub shows_end : (x : Mode) → shows c x end ≡ false
  unfolding shows seek
  shows_end x = refl

  pub shows_whole : (f : Trees) → shows c whole f ≡ any_f (is_ref c) f
  unfolding shows seek searched within behind any_f
  shows_whole end = refl
  shows_whole (node l k r) = rw (shows_whole k, shows_whole r)

  pub shows_apart : (n : ℕ) (b : Mode) (f : Trees) → shows c (until n b) f ≡ (shows c (until n gone) f || shows c b (kids_of n f))
  unfolding shows
  shows_apart n b f = seek_until (word c) all n b f

  -- ---- decorators taken out and left behind

  pub undecorate_any : (g : Trees) → (any_f (is_ref c) (undecorate g) || any_f (is_ref c) (decorators g)) ≡ any_f (is_ref c) g
  unfolding undecorate decorators any_f
  undecorate_any end = refl
  undecorate_any (node l k r) = go (is 28 l) refl
    where
      go : (b : Bool) → is 28 l ≡ b → (any_f (is_ref c) (cond b (node (repay l 0) end r) (node l k r)) || any_f (is_ref c) (cond b k end)) ≡ (is_ref c l || any_f (is_ref c) k || any_f (is_ref c) r)
      go true h =
          let e : is_ref c l ≡ false = ref_kind 28 l h refl refl in
          let e' : is_ref c (repay l 0) ≡ false = ref_kind 28 (repay l 0) (is_repay 28 l 0 ∙ h) refl refl in
          rw (e, e') (or_comm (any_f (is_ref c) r) (any_f (is_ref c) k))
      go false h = or-false _

  indexed_any : (i : ℕ) (f : Trees) → any_f (is_ref c) (indexed i f) ≡ any_f (is_ref c) f
  unfolding indexed any_f tree is_ref is ◌∶◌
  indexed_any i end = refl
  indexed_any i (node l k r) = rw (indexed_any i r, or-false)

  parameters_any : (i : ℕ) (g : Trees) → (any_f (is_ref c) (bare_parameters g) || any_f (is_ref c) (of_parameters i g)) ≡ any_f (is_ref c) g
  unfolding bare_parameters of_parameters any_f
  parameters_any i end = refl
  parameters_any i (node l k r) =
      rw (any_f_append, indexed_any i (decorators k))
      (shuffle (is_ref c l) (any_f (is_ref c) (undecorate k)) (any_f (is_ref c) (bare_parameters r)) (any_f (is_ref c) (decorators k)) (any_f (is_ref c) (of_parameters (suc i) r))
      ∙ rw (undecorate_any k, parameters_any (suc i) r))
    where
      shuffle : (a u b d o : Bool) → (a || u || b || (d || o)) ≡ (a || (u || d) || (b || o))
      shuffle a u b d o = simp ors

  method_any : (i : ℕ) (g : Trees) → (any_f (is_ref c) (change_kids 36 bare_parameters g) || any_f (is_ref c) (of_parameters i (kids_of 36 g))) ≡ any_f (is_ref c) g
  unfolding change_kids kids_of any_f of_parameters
  method_any i end = refl
  method_any i (node l k r) = go (is 36 l) (method_any i r)
    where
      first : (a b r o : Bool) → (a || b || r || o) ≡ (a || (b || o) || r)
      first a b r o = simp ors

      go : (b : Bool) → (any_f (is_ref c) (change_kids 36 bare_parameters r) || any_f (is_ref c) (of_parameters i (kids_of 36 r))) ≡ any_f (is_ref c) r →
          (any_f (is_ref c) (cond b (node l (bare_parameters k) r) (node l k (change_kids 36 bare_parameters r))) || any_f (is_ref c) (of_parameters i (cond b k (kids_of 36 r))))
          ≡ (is_ref c l || any_f (is_ref c) k || any_f (is_ref c) r)
      go true h = first (is_ref c l) (any_f (is_ref c) (bare_parameters k)) (any_f (is_ref c) r) (any_f (is_ref c) (of_parameters i k)) ∙ rw (parameters_any i k)
      go false h = or_assoc (is_ref c l || any_f (is_ref c) k) (any_f (is_ref c) (change_kids 36 bare_parameters r)) (any_f (is_ref c) (of_parameters i (kids_of 36 r))) ∙ ap (is_ref c l || any_f (is_ref c) k ||◌) h

  bare_swap : (h : Trees → Trees) (g : Trees) → undecorate (change_kids 36 h g) ≡ change_kids 36 h (undecorate g)
  unfolding undecorate change_kids
  bare_swap h end = refl
  bare_swap h (node l k r) = go (is 28 l) refl
    where
      other : (b : Bool) → is 28 l ≡ false → undecorate (cond b (node l (h k) r) (node l k (change_kids 36 h r))) ≡ cond b (node l (h k) r) (node l k (change_kids 36 h r))
      other true e = rw e
      other false e = rw e

      go : (b : Bool) → is 28 l ≡ b → undecorate (change_kids 36 h (node l k r)) ≡ change_kids 36 h (cond b (node (repay l 0) end r) (node l k r))
      go true e =
          let o : is 36 l ≡ false = is_other 28 36 l e refl in
          let o' : is 36 (repay l 0) ≡ false = is_repay 36 l 0 ∙ o in
          rw (o, o', e)
      go false e = other (is 36 l) e

  kids_swap : (g : Trees) → kids_of 36 (undecorate g) ≡ kids_of 36 g
  unfolding undecorate kids_of
  kids_swap end = refl
  kids_swap (node l k r) = go (is 28 l) refl
    where
      go : (b : Bool) → is 28 l ≡ b → kids_of 36 (cond b (node (repay l 0) end r) (node l k r)) ≡ kids_of 36 (node l k r)
      go true e =
          let o : is 36 l ≡ false = is_other 28 36 l e refl in
          let o' : is 36 (repay l 0) ≡ false = is_repay 36 l 0 ∙ o in
          rw (o, o')
      go false e = refl

  -- a method's or constructor's children without decorators, and the decorators of its parameters
  pub bare_any : (g : Trees) → (any_f (is_ref c) (bare_method g) || any_f (is_ref c) (of_parameters 0 (parameters_of g))) ≡ any_f (is_ref c) (undecorate g)
  unfolding bare_method parameters_of
  bare_any g = rw (bare_swap, ← (kids_swap g)) (method_any 0 (undecorate g))

  -- with its own
  pub entries_any : (g : Trees) → (any_f (is_ref c) (bare_method g) || any_f (is_ref c) (append_f (decorators g) (of_parameters 0 (parameters_of g)))) ≡ any_f (is_ref c) g
  entries_any g =
      rw any_f_append
      (swap (any_f (is_ref c) (bare_method g)) (any_f (is_ref c) (decorators g)) (any_f (is_ref c) (of_parameters 0 (parameters_of g)))
      ∙ rw (bare_any g) (undecorate_any g))
    where
      swap : (a b d : Bool) → (a || (b || d)) ≡ (a || d || b)
      swap a b d = simp ors

  -- ---- the same by modes

  pub shows_field : (g : Trees) → shows c of_field g ≡ any_f (is_ref c) (undecorate g)
  unfolding shows seek searched within behind undecorate any_f
  shows_field end = refl
  shows_field (node l k r) = go (is 28 l) refl
    where
      go : (b : Bool) → is 28 l ≡ b → (is_ref c l || shows c (cond b gone whole) k || shows c (cond b whole whole) r) ≡ any_f (is_ref c) (cond b (node (repay l 0) end r) (node l k r))
      go true h =
          let e : is_ref c l ≡ false = ref_kind 28 l h refl refl in
          let e' : is_ref c (repay l 0) ≡ false = ref_kind 28 (repay l 0) (is_repay 28 l 0 ∙ h) refl refl in
          rw (e, e', seek_gone (word c) all k, shows_whole r)
      go false h = rw (shows_whole k, shows_whole r)

  pub shows_parameters : (g : Trees) → shows c (each of_field) g ≡ any_f (is_ref c) (bare_parameters g)
  unfolding shows seek searched within behind bare_parameters any_f
  shows_parameters end = refl
  shows_parameters (node l k r) = rw (shows_field k, shows_parameters r)

  shows_until : (g : Trees) → shows c (until 36 (each of_field)) g ≡ any_f (is_ref c) (change_kids 36 bare_parameters g)
  unfolding shows seek searched within behind change_kids any_f
  shows_until end = refl
  shows_until (node l k r) = go (is 36 l) (shows_until r)
    where
      go : (b : Bool) → shows c (until 36 (each of_field)) r ≡ any_f (is_ref c) (change_kids 36 bare_parameters r) →
          (is_ref c l || shows c (cond b (each of_field) whole) k || shows c (cond b whole (until 36 (each of_field))) r)
          ≡ any_f (is_ref c) (cond b (node l (bare_parameters k) r) (node l k (change_kids 36 bare_parameters r)))
      go true h = rw (shows_parameters k, shows_whole r)
      go false h = rw (shows_whole k, h)

  shows_swapped : (g : Trees) → shows c of_method g ≡ any_f (is_ref c) (change_kids 36 bare_parameters (undecorate g))
  unfolding shows seek searched within behind undecorate change_kids any_f
  shows_swapped end = refl
  shows_swapped (node l k r) = go (is 28 l) refl
    where
      go : (b : Bool) → is 28 l ≡ b → shows c of_method (node l k r) ≡ any_f (is_ref c) (change_kids 36 bare_parameters (cond b (node (repay l 0) end r) (node l k r)))
      go true h =
          let e : is_ref c l ≡ false = ref_kind 28 l h refl refl in
          let e' : is_ref c (repay l 0) ≡ false = ref_kind 28 (repay l 0) (is_repay 28 l 0 ∙ h) refl refl in
          let o : is 36 (repay l 0) ≡ false = is_repay 36 l 0 ∙ is_other 28 36 l h refl in
          rw (h, o, e, e', seek_gone (word c) all k, shows_until r)
      go false h = rw h (shows_until (node l k r))

  pub shows_method : (g : Trees) → shows c of_method g ≡ any_f (is_ref c) (bare_method g)
  unfolding bare_method
  shows_method g = rw bare_swap (shows_swapped g)

  -- ---- the elements of a class

  pub shows_each : (g : Trees) → shows c (each whole) g ≡ any_f (is_ref c) g
  unfolding shows seek searched within behind any_f
  shows_each end = refl
  shows_each (node l k r) = rw (shows_whole k, shows_each r)

  pub shows_bare : (g : Trees) → shows c (elements of_method) g ≡ any_f (is_ref c) (bare_first g)
  unfolding shows seek searched within behind bare_first any_f
  shows_bare end = refl
  shows_bare (node l k r) = go (is_constructor l) (shows_bare r)
    where
      go : (b : Bool) → shows c (elements of_method) r ≡ any_f (is_ref c) (bare_first r) →
          (is_ref c l || shows c (cond b of_method whole) k || shows c (cond b (each whole) (elements of_method)) r) ≡ any_f (is_ref c) (cond b (node l (bare_method k) r) (node l k (bare_first r)))
      go true h = rw (shows_method k, shows_each r)
      go false h = rw (shows_whole k, h)

  pub shows_moved : (g : Trees) → shows c (elements of_field) g ≡ (any_f (is_ref c) (bare_first g) || any_f (is_ref c) (first_constructor g))
  unfolding shows seek searched within behind bare_first first_constructor any_f
  shows_moved end = refl
  shows_moved (node l k r) = go (is_constructor l) (shows_moved r)
    where
      first : (a b p r : Bool) → (a || (b || p) || r) ≡ (a || b || r || p)
      first a b p r = simp ors

      go : (b : Bool) → shows c (elements of_field) r ≡ (any_f (is_ref c) (bare_first r) || any_f (is_ref c) (first_constructor r)) →
          (is_ref c l || shows c (cond b of_field whole) k || shows c (cond b (each whole) (elements of_field)) r)
          ≡ (any_f (is_ref c) (cond b (node l (bare_method k) r) (node l k (bare_first r))) || any_f (is_ref c) (cond b (of_parameters 0 (parameters_of k)) (first_constructor r)))
      go true h =
          rw (shows_field k, shows_each r, ← (bare_any k))
          (first (is_ref c l) (any_f (is_ref c) (bare_method k)) (any_f (is_ref c) (of_parameters 0 (parameters_of k))) (any_f (is_ref c) r))
      go false h = rw (shows_whole k, h) (sym (or_assoc (is_ref c l || any_f (is_ref c) k) (any_f (is_ref c) (bare_first r)) (any_f (is_ref c) (first_constructor r))))

  -- ---- other labels in their places

  -- nothing is found in what holds nothing
  pub shows_none : (x : Mode) (g : Trees) → any_f (is_ref c) g ≡ false → shows c x g ≡ false
  unfolding shows seek any_f
  shows_none x end e = refl
  shows_none x (node l k r) e =
      let first : (is_ref c l || any_f (is_ref c) k) ≡ false = or_left (is_ref c l || any_f (is_ref c) k) (any_f (is_ref c) r) e in
      let l' : is_ref c l ≡ false = or_left (is_ref c l) (any_f (is_ref c) k) first in
      let k' : any_f (is_ref c) k ≡ false = or_right (is_ref c l) (any_f (is_ref c) k) first in
      let r' : any_f (is_ref c) r ≡ false = or_right (is_ref c l || any_f (is_ref c) k) (any_f (is_ref c) r) e in
      rw (l', and-false (searched x), shows_none (within all x l k) k k', shows_none (behind x l) r r')

-- a label in the place of another: of the same kind, and alike to the search
pub record Alike (c : ℕ) (m l : Label) : Type 0 where
  pub refs : is_ref c m ≡ is_ref c l
  pub kinds : (k : ℕ) → is k m ≡ is k l
  pub constructors : is_constructor m ≡ is_constructor l

pub alike_same : (c : ℕ) (l : Label) → Alike c l l
alike_same c l = record { refs = refl; kinds = λ k. refl; constructors = refl }

module _ {c : ℕ} {m l : Label} (a : Alike c m l) where
  behind_alike : (x : Mode) → behind x m ≡ behind x l
  unfolding behind
  behind_alike whole = refl
  behind_alike gone = refl
  behind_alike (lead x y) = rw (a.kinds 28, behind_alike y)
  behind_alike (until n x) = rw (a.kinds n)
  behind_alike (each x) = refl
  behind_alike (elements x) = rw a.constructors

  within_alike : (x : Mode) (k k' : Trees) → within all x m k ≡ within all x l k'
  unfolding within
  within_alike whole k k' = refl
  within_alike gone k k' = refl
  within_alike (lead x y) k k' = rw (a.kinds 28, within_alike y k k')
  within_alike (until n x) k k' = rw (a.kinds n)
  within_alike (each x) k k' = refl
  within_alike (elements x) k k' = rw a.constructors

  pub shows_alike : (x : Mode) (k k' r : Trees) →
      shows c x (node m k r) ≡ ((searched x && is_ref c l) || shows c (within all x l k') k || shows c (behind x l) r)
  shows_alike x k k' r = shows_node c x m k r ∙ rw (a.refs, within_alike x k k', behind_alike x)

pub shows_map : (c : ℕ) (t : Label → Label) → ((l : Label) → Alike c (t l) l) → (x : Mode) (g : Trees) → shows c x (map_f t g) ≡ shows c x g
unfolding map_f
shows_map c t a x end = refl
shows_map c t a x (node l k r) =
    shows_alike (a l) x (map_f t k) k (map_f t r)
    ∙ rw (shows_map c t a (within all x l k) k, shows_map c t a (behind x l) r) (sym (shows_node c x l k r))

-- ---- rule 6's replacement of another symbol by an alias that isn't c either

pub and_left : (a b : Bool) → (a && b) ≡ true → a ≡ true
and_left true b e = refl
and_left false b e = e

and_right : (a b : Bool) → (a && b) ≡ true → b ≡ true
and_right true b e = e
and_right false b e = let z : ◌≡◌ {A = ℕ} 0 1 = cc in absurd (omega arith)

module _ (c d b : ℕ) where
  alias_kinds : (k : ℕ) (l : Label) → is k (to_alias d b l) ≡ is k l
  unfolding to_alias
  alias_kinds k l = go (is_ref d l)
    where
      go : (x : Bool) → is k (cond x (repay l b) l) ≡ is k l
      go true = is_repay k l b
      go false = refl

  ref_other : (l : Label) → is_ref d l ≡ true → eqb d c ≡ false → is_ref c l ≡ false
  unfolding is_ref
  ref_other l h e =
      let p : l.payload ≡ d = eqb-true l.payload d (and_right (is 9 l || is 18 l) _ h) in
      ap (λ (n : ℕ). (is 9 l || is 18 l) && eqb n c) p ∙ rw e (and-false (is 9 l || is 18 l))

  pub ref_repaid : (l : Label) → eqb b c ≡ false → is_ref c (repay l b) ≡ false
  unfolding is_ref repay
  ref_repaid l e = rw e (and-false (is 9 (repay l b) || is 18 (repay l b)))

  ref_not_30 : (l : Label) → is_ref d l ≡ true → is 30 l ≡ false
  unfolding is_ref
  ref_not_30 l h = go (is 9 l) refl (is 18 l) refl (and_left (is 9 l || is 18 l) _ h)
    where
      go : (x : Bool) → is 9 l ≡ x → (y : Bool) → is 18 l ≡ y → (x || y) ≡ true → is 30 l ≡ false
      go true p y q e = is_other 9 30 l p refl
      go false p true q e = is_other 18 30 l q refl
      go false p false q e = let z : ◌≡◌ {A = ℕ} 0 1 = cc in absurd (omega arith)

  alias_refs : eqb d c ≡ false → eqb b c ≡ false → (l : Label) → is_ref c (to_alias d b l) ≡ is_ref c l
  unfolding to_alias
  alias_refs e g l = go (is_ref d l) refl
    where
      go : (x : Bool) → is_ref d l ≡ x → is_ref c (cond x (repay l b) l) ≡ is_ref c l
      go true h = ref_repaid l g ∙ sym (ref_other l h e)
      go false h = refl

  alias_constructors : (l : Label) → is_constructor (to_alias d b l) ≡ is_constructor l
  unfolding to_alias is_constructor
  alias_constructors l = go (is_ref d l) refl
    where
      go : (x : Bool) → is_ref d l ≡ x → (is 30 (cond x (repay l b) l) && bit bit1 (cond x (repay l b) l)) ≡ (is 30 l && bit bit1 l)
      go true h = rw (is_repay 30 l b, ref_not_30 l h)
      go false h = refl

  pub alias_alike : eqb d c ≡ false → eqb b c ≡ false → (l : Label) → Alike c (to_alias d b l) l
  alias_alike e g l = record { refs = alias_refs e g l; kinds = λ k. alias_kinds k l; constructors = alias_constructors l }
