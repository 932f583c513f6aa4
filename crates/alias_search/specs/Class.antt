-- Live classes as visited: where a symbol that is no fresh one stands in the statement and in what it puts behind itself (rules 6 to 10).
-- Assumes nothing.
use Rattle.std.specs.Prelude.{◌≡◌, ◌&&◌, ◌||◌, cond}
use Rattle.std.proofs.Math.Path.{refl, ap, sym}
use Rattle.std.proofs.Common.{◌∙◌, arith}
use Rattle.std.proofs.Math.Bool.{Bool, true, false, or-true, or-false, or_assoc, or_comm}
use Rattle.std.specs.declared.option.Option.{Option}
use Rattle.std.specs.declared.option.Option.TheVariants.{None as none, Some as some}
use Prim.Native.Nat.{ℕ, zero, suc, ◌<◌}
use Rattle.std.proofs.Math.Dec.{eqb}
use borrow.Author.Tests.{eqb-true}
use Rattle.records.specs.Forest.{end, node, take_f, drop_f, append_f, count_f, any_f, map_f, any_f_append, take_drop}
use Rattle.records.specs.Label.{Label, Trees, is, repay, become, ◌∶◌}
use Rattle.rewriting.specs.Parts.{tree, is_empty, recount, kids_of, decorators, undecorate, elements_of, with_elements, id_of, has_private_in, has_static, first_constructor, bare_first}
use Rattle.rewriting.specs.Visit.{Symbols, is_ref, to_alias, renamed, named_symbols, symbols_of, aliased, assignment, array, block_alias, let_alias, alias_block, call_block, queued, export, first_payload, with_id, decorated_statement, decorated₁, decorated₂, name_class, extend_body, undecorated_if, live_class_if}
use Rattle.rewriting.specs.declared.State.{State}
use Rattle.inspect.specs.Row.{or_left, or_right}
use Rattle.alias_search.specs.Ors.{ors}
use Rattle.alias_search.specs.Mentions.{Mode, whole, gone, lead, until, elements, behind, within, searched, seek, seek_gone, is_other, is_symbol, of_field, of_method}
use Rattle.alias_search.specs.Shown.{shows, word, all, Alike, shows_node, shows_alike, shows_whole, shows_apart, shows_none, shows_map, shows_bare, shows_moved, alias_alike, ref_kind, ref_repaid, is_repay, made_any, end_any, tree_any, ref_9, ref_18}
use Rattle.alias_search.specs.Kept.{repay_alike}
use Rattle.alias_search.specs.Read.{empty_end}
use Rattle.alias_search.specs.Older.{Older, fresh_other}
use Rattle.alias_search.specs.Body.{has_body, HasId}

module _ (c : ℕ) where
  -- ---- the elements and the other children

  -- a class's children with other elements
  with_any : (new g : Trees) → (has_body g ≡ false → any_f (is_ref c) new ≡ false) → any_f (is_ref c) (with_elements new g) ≡ (shows c (until 29 gone) g || any_f (is_ref c) new)
  unfolding with_elements has_body any_f shows seek searched within behind
  with_any new end h = sym (h refl)
  with_any new (node l k r) h = go (is 29 l) refl h (λ n. with_any new r n)
    where
      first : (n r : Bool) → (n || r) ≡ (r || n)
      first n r = or_comm n r

      go : (b : Bool) → is 29 l ≡ b → ((b || has_body r) ≡ false → any_f (is_ref c) new ≡ false) →
          ((has_body r ≡ false → any_f (is_ref c) new ≡ false) → any_f (is_ref c) (with_elements new r) ≡ (shows c (until 29 gone) r || any_f (is_ref c) new)) →
          any_f (is_ref c) (cond b (node (recount l new) new r) (node l k (with_elements new r)))
          ≡ (is_ref c l || shows c (cond b gone whole) k || shows c (cond b whole (until 29 gone)) r || any_f (is_ref c) new)
      go true i h later =
          let e : is_ref c l ≡ false = ref_kind c 29 l i refl refl in
          let e' : is_ref c (recount l new) ≡ false = ref_kind c 29 (recount l new) (unfold recount in is_repay 29 l _ ∙ i) refl refl in
          rw (e, e', seek_gone (word c) all k, shows_whole c r) (or_comm (any_f (is_ref c) new) (any_f (is_ref c) r))
      go false i h later =
          rw (shows_whole c k, later h) (sym (or_assoc (is_ref c l || any_f (is_ref c) k) (shows c (until 29 gone) r) (any_f (is_ref c) new)))

  until_whole : (n : ℕ) (g : Trees) → shows c (until n whole) g ≡ any_f (is_ref c) g
  unfolding shows seek searched within behind any_f
  until_whole n end = refl
  until_whole n (node l k r) = go (is n l) (until_whole n r)
    where
      go : (b : Bool) → shows c (until n whole) r ≡ any_f (is_ref c) r →
          (is_ref c l || shows c (cond b whole whole) k || shows c (cond b whole (until n whole)) r) ≡ (is_ref c l || any_f (is_ref c) k || any_f (is_ref c) r)
      go true h = rw (shows_whole c k, shows_whole c r)
      go false h = rw (shows_whole c k, h)

  -- the elements apart
  pub apart_any : (g : Trees) → any_f (is_ref c) g ≡ (shows c (until 29 gone) g || any_f (is_ref c) (elements_of g))
  unfolding elements_of
  apart_any g = sym (until_whole 29 g) ∙ shows_apart c 29 whole g ∙ ap (shows c (until 29 gone) g ||◌) (shows_whole c (kids_of 29 g))

  -- a 28 that is searched whole makes no difference
  pub lead_until : (g : Trees) → shows c (lead whole (until 29 gone)) g ≡ shows c (until 29 gone) g
  unfolding shows seek searched within behind
  lead_until end = refl
  lead_until (node l k r) = go (is 28 l) refl
    where
      go : (b : Bool) → is 28 l ≡ b → shows c (lead whole (until 29 gone)) (node l k r) ≡ shows c (until 29 gone) (node l k r)
      go true i = rw (i, is_other 28 29 l i refl)
      go false i = rw i

  bodiless_end : (g : Trees) → has_body g ≡ false → elements_of g ≡ end
  unfolding has_body elements_of kids_of
  bodiless_end end h = refl
  bodiless_end (node l k r) h = rw (or_left (is 29 l) (has_body r) h) (bodiless_end r (or_right (is 29 l) (has_body r) h))

  -- elements added at the end (rule 9)
  extended_any : (more g : Trees) → (has_body g ≡ false → any_f (is_ref c) more ≡ false) →
      any_f (is_ref c) (with_elements (append_f (elements_of g) more) g) ≡ (any_f (is_ref c) g || any_f (is_ref c) more)
  extended_any more g h =
      with_any (append_f (elements_of g) more) g (λ n. rw (bodiless_end g n) (unfold append_f in h n))
      ∙ rw (any_f_append (is_ref c) (elements_of g) more, apart_any g) (sym (or_assoc (shows c (until 29 gone) g) (any_f (is_ref c) (elements_of g)) (any_f (is_ref c) more)))

  -- the class's own decorators taken out, and left behind
  lead_gone : (g : Trees) → shows c (until 29 gone) (undecorate g) ≡ shows c (lead gone (until 29 gone)) g
  unfolding undecorate shows seek searched within behind
  lead_gone end = refl
  lead_gone (node l k r) = go (is 28 l) refl
    where
      go : (b : Bool) → is 28 l ≡ b → shows c (until 29 gone) (cond b (node (repay l 0) end r) (node l k r)) ≡ shows c (lead gone (until 29 gone)) (node l k r)
      go true i =
          let e : is_ref c l ≡ false = ref_kind c 28 l i refl refl in
          let e' : is_ref c (repay l 0) ≡ false = ref_kind c 28 (repay l 0) (is_repay 28 l 0 ∙ i) refl refl in
          let o : is 29 (repay l 0) ≡ false = is_repay 29 l 0 ∙ is_other 28 29 l i refl in
          rw (i, o, e, e', seek_gone (word c) all k)
      go false i = rw i

  lead_whole : (g : Trees) → (shows c (lead gone (until 29 gone)) g || any_f (is_ref c) (decorators g)) ≡ shows c (lead whole (until 29 gone)) g
  unfolding decorators shows seek searched within behind any_f
  lead_whole end = refl
  lead_whole (node l k r) = go (is 28 l)
    where
      swap : (a b d : Bool) → (a || false || b || d) ≡ (a || d || b)
      swap a b d = simp ors

      go : (b : Bool) →
          (is_ref c l || shows c (cond b gone (cond (is 29 l) gone whole)) k || shows c (cond b (until 29 gone) (cond (is 29 l) whole (until 29 gone))) r || any_f (is_ref c) (cond b k end))
          ≡ (is_ref c l || shows c (cond b whole (cond (is 29 l) gone whole)) k || shows c (cond b (until 29 gone) (cond (is 29 l) whole (until 29 gone))) r)
      go true = rw (seek_gone (word c) all k, shows_whole c k) (swap (is_ref c l) (shows c (until 29 gone) r) (any_f (is_ref c) k))
      go false = or-false _

  -- the id word takes another symbol
  unfoldable pub Takes : Option ℕ → Trees → Type 0
  Takes none g = Unit {0}
  Takes (some i) g = HasId g

  with_id_shows : (o : Option ℕ) (g : Trees) (x : Mode) → Takes o g → shows c x (with_id o g) ≡ shows c x g
  unfolding Takes HasId with_id first_payload
  with_id_shows none g x h = refl
  with_id_shows (some i) end x h = absurd h
  with_id_shows (some i) (node l k end) x h = absurd h
  with_id_shows (some i) (node l k (node m j r)) x h =
      let a : Alike c (repay m i) m = repay_alike c m i (is_other 27 9 m h refl) (is_other 27 18 m h refl) (is_other 27 30 m h refl) in
      shows_node c x l k (node (repay m i) j r)
      ∙ ap (λ (b : Bool). (searched x && is_ref c l) || shows c (within all x l k) k || b) (shows_alike a (behind x l) j j r ∙ sym (shows_node c (behind x l) m j r))
      ∙ sym (shows_node c x l k (node m j r))

  -- ---- an undecorated class (rules 9 and 10)

  call_block_any : (b : Bool) (calls : Trees) → (any_f (is_ref c) (call_block b calls) || any_f (is_ref c) (queued b calls)) ≡ any_f (is_ref c) calls
  unfolding call_block queued
  call_block_any true calls = rw (made_any c 33 (count_f calls) calls refl refl) (unfold any_f in or-false _)
  call_block_any false calls = unfold any_f in refl

  -- what the 27 of a default symbol adds
  named_any : (d : ℕ) (g : Trees) → any_f (is_ref c) (append_f (take_f 1 g) (append_f (tree (27 ∶ d) end) (drop_f 1 g))) ≡ any_f (is_ref c) g
  named_any d g =
      rw (any_f_append (is_ref c) (take_f 1 g), any_f_append (is_ref c) (tree (27 ∶ d) end) (drop_f 1 g), made_any c 27 d end refl refl, end_any c)
      (sym (any_f_append (is_ref c) (take_f 1 g) (drop_f 1 g)) ∙ ap (any_f (is_ref c)) (take_drop 1 g))

  named_body : (d : ℕ) (g : Trees) → has_body (append_f (take_f 1 g) (append_f (tree (27 ∶ d) end) (drop_f 1 g))) ≡ has_body g
  unfolding has_body append_f take_f drop_f tree is ◌∶◌
  named_body d end = refl
  named_body d (node l k r) = refl

  extend_body_any : (id d : Option ℕ) (m : Label) (ck more : Trees) → is 26 m ≡ true → (has_body ck ≡ false → any_f (is_ref c) more ≡ false) →
      any_f (is_ref c) (extend_body more (name_class id d m ck)) ≡ (any_f (is_ref c) ck || any_f (is_ref c) more)
  unfolding name_class tree extend_body
  extend_body_any (some i) d m ck more e h = tree_any c m _ ∙ rw (ref_kind c 26 m e refl refl) (extended_any more ck h)
  extend_body_any none none m ck more e h = tree_any c m _ ∙ rw (ref_kind c 26 m e refl refl) (extended_any more ck h)
  extend_body_any none (some d) m ck more e h =
      let m' : Label = repay m (suc m.payload) in
      let g : Trees = append_f (take_f 1 ck) (append_f (tree (27 ∶ d) end) (drop_f 1 ck)) in
      tree_any c m' (with_elements (append_f (elements_of g) more) g)
      ∙ rw (ref_kind c 26 m' (is_repay 26 m _ ∙ e) refl refl) (extended_any more g (λ n. h (sym (named_body d ck) ∙ n)) ∙ rw (named_any d ck))

  no_block : (b : Bool) → any_f (is_ref c) (call_block b end) ≡ false
  unfolding call_block
  no_block true = made_any c 33 (count_f end) end refl refl ∙ end_any c
  no_block false = end_any c

  undecorated_any : (b : Bool) (rk : Trees) (d : Option ℕ) (l m : Label) (ck calls : Trees) → is_empty calls ≡ b → is_ref c l ≡ false → is 26 m ≡ true → (has_body ck ≡ false → calls ≡ end) →
      any_f (is_ref c) (undecorated_if b rk d l m ck calls) ≡ (any_f (is_ref c) ck || any_f (is_ref c) calls)
  unfolding undecorated_if
  undecorated_any true rk d l m ck calls z e f h =
      tree_any c l (tree m ck) ∙ rw (e, tree_any c m ck, ref_kind c 26 m f refl refl, empty_end calls z, end_any c) (sym (or-false (any_f (is_ref c) ck)))
  undecorated_any false rk d l m ck calls z e f h =
      let priv : Bool = has_private_in rk in
      let none : has_body ck ≡ false → any_f (is_ref c) (call_block priv calls) ≡ false = λ n. rw (h n) (no_block priv) in
      any_f_append (is_ref c) (tree l (extend_body (call_block priv calls) (name_class (id_of rk) d m ck))) (queued priv calls)
      ∙ rw (tree_any c l (extend_body (call_block priv calls) (name_class (id_of rk) d m ck)), e, extend_body_any (id_of rk) d m ck (call_block priv calls) f none)
      (or_assoc (any_f (is_ref c) ck) (any_f (is_ref c) (call_block priv calls)) (any_f (is_ref c) (queued priv calls)) ∙ ap (any_f (is_ref c) ck ||◌) (call_block_any priv calls))

  -- ---- a decorated class (rules 6 to 9)

  aliased_any : (a : Option ℕ) (e : Trees) → is_symbol c a ≡ false → any_f (is_ref c) (aliased a e) ≡ any_f (is_ref c) e
  unfolding aliased is_symbol
  aliased_any none e h = refl
  aliased_any (some b) e h = tree_any c (18 ∶ b) e ∙ rw (ref_18 c b, h)

  alias_block_any : (a : Option ℕ) (b : Bool) → is_symbol c a ≡ false → any_f (is_ref c) (alias_block (block_alias a b)) ≡ false
  unfolding alias_block block_alias is_symbol
  alias_block_any none true h = end_any c
  alias_block_any a false h = end_any c
  alias_block_any (some b) true h =
      made_any c 33 1 _ refl refl ∙ made_any c 2 0 _ refl refl ∙ tree_any c (18 ∶ b) (tree (15 ∶ 0) end) ∙ rw (ref_18 c b, h, made_any c 15 0 end refl refl) (end_any c)

  let_alias_any : (a : Option ℕ) (b : Bool) → is_symbol c a ≡ false → is_symbol c (let_alias a b) ≡ false
  unfolding let_alias is_symbol
  let_alias_any a true h = refl
  let_alias_any a false h = h

  assignment_any : (i : ℕ) (a : Option ℕ) (entries : Trees) → is_symbol c a ≡ false → any_f (is_ref c) (assignment i a entries) ≡ (eqb i c || any_f (is_ref c) entries)
  unfolding assignment array
  assignment_any i a entries h =
      made_any c 2 0 _ refl refl
      ∙ tree_any c (18 ∶ i) _
      ∙ rw (ref_18 c i, aliased_any a _ h, made_any c 22 2 (append_f (tree (16 ∶ count_f entries) entries) (tree (9 ∶ i) end)) refl refl, any_f_append (is_ref c) (tree (16 ∶ count_f entries) entries) (tree (9 ∶ i) end), made_any c 16 (count_f entries) entries refl refl, tree_any c (9 ∶ i) end, ref_9 c i, end_any c)
      (twice (eqb i c) (any_f (is_ref c) entries))
    where
      twice : (a b : Bool) → (a || (b || (a || false))) ≡ (a || b)
      twice a b = simp ors

  export_any : (p i : ℕ) → any_f (is_ref c) (export p i) ≡ false
  unfolding export
  export_any zero i = end_any c
  export_any (suc zero) i = made_any c 6 i end refl refl ∙ end_any c
  export_any (suc (suc p)) i = made_any c 7 i end refl refl ∙ end_any c

  undecorate_body : (g : Trees) → has_body (undecorate g) ≡ has_body g
  unfolding has_body undecorate
  undecorate_body end = refl
  undecorate_body (node l k r) = go (is 28 l)
    where
      go : (b : Bool) → has_body (cond b (node (repay l 0) end r) (node l k r)) ≡ (is 29 l || has_body r)
      go true = rw (is_repay 29 l 0)
      go false = refl

  with_id_body : (o : Option ℕ) (g : Trees) → has_body (with_id o g) ≡ has_body g
  unfolding has_body with_id first_payload
  with_id_body none g = refl
  with_id_body (some i) end = refl
  with_id_body (some i) (node l k end) = refl
  with_id_body (some i) (node l k (node m j r)) = rw (is_repay 29 m i)

  -- the class under its let or statement
  class_any : (m : Label) (o : Option ℕ) (ck body : Trees) → is 26 m ≡ true → Takes o ck → (has_body ck ≡ false → any_f (is_ref c) body ≡ false) →
      any_f (is_ref c) (tree m (with_elements body (undecorate (with_id o ck)))) ≡ (shows c (lead gone (until 29 gone)) ck || any_f (is_ref c) body)
  class_any m o ck body e t h =
      let same : has_body (undecorate (with_id o ck)) ≡ has_body ck = undecorate_body (with_id o ck) ∙ with_id_body o ck in
      tree_any c m (with_elements body (undecorate (with_id o ck)))
      ∙ rw (ref_kind c 26 m e refl refl, with_any body (undecorate (with_id o ck)) (λ n. h (sym same ∙ n)), lead_gone (with_id o ck), with_id_shows o ck (lead gone (until 29 gone)) t)

  statement_any : (b : Bool) (l : Label) (i : ℕ) (a : Option ℕ) (cls : Trees) → is_ref c l ≡ false → is_symbol c a ≡ false → any_f (is_ref c) (decorated_statement b l i a cls) ≡ any_f (is_ref c) cls
  unfolding decorated_statement
  statement_any true l i a cls e h = tree_any c l cls ∙ rw e
  statement_any false l i a cls e h =
      let five : is_ref c (become l 5 i) ≡ false = ref_kind c 5 (become l 5 i) (unfold is become in refl) refl refl in
      tree_any c (become l 5 i) _ ∙ rw (five, aliased_any a (tree (20 ∶ 0) cls) h) (made_any c 20 0 cls refl refl)

  module _ (static : Bool) (l m : Label) (ck calls els : Trees) (y : Symbols) (el : is_ref c l ≡ false) (em : is 26 m ≡ true) (ea : is_symbol c y.alias ≡ false)
      (t : Takes y.inner ck) (none : has_body ck ≡ false → (els ≡ end) × (calls ≡ end)) where
    -- its body: priv says whether the calls go into it
    body_of : Bool → Trees
    body_of priv = append_f (alias_block (block_alias y.alias static)) (append_f (bare_first els) (call_block priv calls))

    class_of : Bool → Trees
    class_of priv = tree m (with_elements (body_of priv) (undecorate (with_id y.inner ck)))

    body_any : (priv : Bool) → any_f (is_ref c) (body_of priv) ≡ (any_f (is_ref c) (bare_first els) || any_f (is_ref c) (call_block priv calls))
    unfolding body_of
    body_any priv =
        any_f_append (is_ref c) (alias_block (block_alias y.alias static)) (append_f (bare_first els) (call_block priv calls))
        ∙ rw (alias_block_any y.alias static ea) (any_f_append (is_ref c) (bare_first els) (call_block priv calls))

    body_none : (priv : Bool) → has_body ck ≡ false → any_f (is_ref c) (body_of priv) ≡ false
    body_none priv n =
        body_any priv ∙ rw ((none n).0, (none n).1, no_block priv) (unfold bare_first in rw (end_any c))

    class_of_any : (priv : Bool) → any_f (is_ref c) (class_of priv) ≡ (shows c (lead gone (until 29 gone)) ck || (any_f (is_ref c) (bare_first els) || any_f (is_ref c) (call_block priv calls)))
    unfolding class_of
    class_of_any priv = class_any m y.inner ck (body_of priv) em t (body_none priv) ∙ rw (body_any priv)

    -- rule 9: the assignment is dropped
    private_any : any_f (is_ref c) (append_f (decorated_statement true l y.outer (let_alias y.alias static) (class_of true))
        (queued true (append_f calls (append_f (assignment y.outer y.alias (append_f (decorators ck) (first_constructor els))) (export l.payload y.outer)))))
        ≡ (shows c (lead gone (until 29 gone)) ck || (any_f (is_ref c) (bare_first els) || any_f (is_ref c) calls))
    private_any =
        rw (any_f_append (is_ref c) (decorated_statement true l y.outer (let_alias y.alias static) (class_of true)), statement_any true l y.outer (let_alias y.alias static) (class_of true) el (let_alias_any y.alias static ea), class_of_any true)
        (unfold queued call_block in rw (made_any c 33 (count_f calls) calls refl refl, end_any c) (or-false _))

    public_any : any_f (is_ref c) (append_f (decorated_statement false l y.outer (let_alias y.alias static) (class_of false))
        (queued false (append_f calls (append_f (assignment y.outer y.alias (append_f (decorators ck) (first_constructor els))) (export l.payload y.outer)))))
        ≡ (shows c (lead whole (until 29 gone)) ck || (any_f (is_ref c) (bare_first els) || any_f (is_ref c) (first_constructor els) || any_f (is_ref c) calls) || eqb y.outer c)
    unfolding queued call_block
    public_any =
        let behind-it : any_f (is_ref c) (append_f calls (append_f (assignment y.outer y.alias (append_f (decorators ck) (first_constructor els))) (export l.payload y.outer)))
        ≡ (any_f (is_ref c) calls || (eqb y.outer c || (any_f (is_ref c) (decorators ck) || any_f (is_ref c) (first_constructor els)) || false)) =
        any_f_append (is_ref c) calls _
        ∙ rw (any_f_append (is_ref c) (assignment y.outer y.alias (append_f (decorators ck) (first_constructor els))), assignment_any y.outer y.alias (append_f (decorators ck) (first_constructor els)) ea, any_f_append (is_ref c) (decorators ck) (first_constructor els), export_any l.payload y.outer) in
        rw (any_f_append (is_ref c) (decorated_statement false l y.outer (let_alias y.alias static) (class_of false)), statement_any false l y.outer (let_alias y.alias static) (class_of false) el (let_alias_any y.alias static ea), class_of_any false, ← (lead_whole ck))
        (rw (end_any c, behind-it)
        (order (shows c (lead gone (until 29 gone)) ck) (any_f (is_ref c) (bare_first els)) (any_f (is_ref c) calls) (eqb y.outer c) (any_f (is_ref c) (decorators ck)) (any_f (is_ref c) (first_constructor els))))
      where
        order : (g b k o d f : Bool) → (g || (b || false) || (k || (o || (d || f) || false))) ≡ (g || d || (b || f || k) || o)
        order g b k o d f = simp ors

  -- ---- rule 6: the symbols of a decorated class, and C replaced

  -- nothing of a symbol is left where an alias replaced it
  replaced_one : (i b : ℕ) (l : Label) → eqb b i ≡ false → is_ref i (to_alias i b l) ≡ false
  unfolding to_alias
  replaced_one i b l e = go (is_ref i l) refl
    where
      go : (x : Bool) → is_ref i l ≡ x → is_ref i (cond x (repay l b) l) ≡ false
      go true h = ref_repaid i i b l e
      go false h = h

  replaced_none : (i b : ℕ) (g : Trees) → eqb b i ≡ false → any_f (is_ref i) (map_f (to_alias i b) g) ≡ false
  unfolding any_f map_f
  replaced_none i b end e = refl
  replaced_none i b (node l k r) e = rw (replaced_one i b l e, replaced_none i b k e, replaced_none i b r e)

  outer_is : (id d : Option ℕ) (n : ℕ) (els : Trees) → c < n → is_symbol c d ≡ false → eqb (symbols_of id d n els).outer c ≡ is_symbol c id
  unfolding symbols_of is_symbol
  outer_is (some i) d n els h e = go (any_f (is_ref i) els)
    where
      go : (b : Bool) → eqb (named_symbols b i n).outer c ≡ eqb i c
      go true = unfold named_symbols in refl
      go false = unfold named_symbols in refl
  outer_is none (some d) n els h e = e
  outer_is none none n els h e = fresh_other c n h

  alias_other : (id d : Option ℕ) (n : ℕ) (els : Trees) → c < n → is_symbol c (symbols_of id d n els).alias ≡ false
  unfolding symbols_of is_symbol
  alias_other (some i) d n els h = go (any_f (is_ref i) els)
    where
      go : (b : Bool) → is_symbol c (named_symbols b i n).alias ≡ false
      go true = unfold named_symbols is_symbol in fresh_other c (suc n) (omega arith)
      go false = unfold named_symbols is_symbol in refl
  alias_other none (some d) n els h = refl
  alias_other none none n els h = refl

  inner_takes : (id d : Option ℕ) (n : ℕ) (els ck : Trees) → ((i : ℕ) → id ≡ some i → HasId ck) → Takes (symbols_of id d n els).inner ck
  unfolding symbols_of Takes
  inner_takes (some i) d n els ck h = go (any_f (is_ref i) els)
    where
      go : (b : Bool) → Takes (named_symbols b i n).inner ck
      go true = unfold named_symbols Takes in h i refl
      go false = unfold named_symbols Takes in h i refl
  inner_takes none (some d) n els ck h = tt
  inner_takes none none n els ck h = tt

  renamed_same : (id d : Option ℕ) (n : ℕ) (els : Trees) → c < n → is_symbol c id ≡ false → (x : Mode) →
      shows c x (renamed (symbols_of id d n els).outer (symbols_of id d n els).alias els) ≡ shows c x els
  unfolding symbols_of is_symbol
  renamed_same (some i) d n els h e x = go (any_f (is_ref i) els)
    where
      go : (b : Bool) → shows c x (renamed (named_symbols b i n).outer (named_symbols b i n).alias els) ≡ shows c x els
      go true = unfold named_symbols renamed in shows_map c (to_alias i (suc n)) (alias_alike c i (suc n) e (fresh_other c (suc n) (omega arith))) x els
      go false = unfold named_symbols renamed in refl
  renamed_same none (some d) n els h e x = unfold renamed in refl
  renamed_same none none n els h e x = unfold renamed in refl

  renamed_none : (id d : Option ℕ) (n : ℕ) (els : Trees) → c < n → is_symbol c id ≡ true → any_f (is_ref c) (renamed (symbols_of id d n els).outer (symbols_of id d n els).alias els) ≡ false
  unfolding symbols_of is_symbol named_symbols renamed
  renamed_none (some i) d n els h e = go (any_f (is_ref i) els) refl
    where
      same : i ≡ c
      same = eqb-true i c e

      go : (b : Bool) → any_f (is_ref i) els ≡ b → any_f (is_ref c) (renamed (named_symbols b i n).outer (named_symbols b i n).alias els) ≡ false
      go true z =
          let f : eqb (suc n) i ≡ false = fresh_other i (suc n) (omega (arith, same)) in
          rw (← same) (replaced_none i (suc n) els f)
      go false z = rw (← same) z
  renamed_none none d n els h e = let z : ◌≡◌ {A = ℕ} 0 1 = cc in absurd (omega arith)

  renamed_end : (i : ℕ) (a : Option ℕ) → renamed i a end ≡ end
  unfolding renamed map_f
  renamed_end i none = refl
  renamed_end i (some b) = refl

  -- ---- a live class

  module _ (rk : Trees) (l m : Label) (ck calls : Trees) (s : State) (outside : Option ℕ) (el : is_ref c l ≡ false) (em : is 26 m ≡ true)
      (o : Older c s) (hid : (i : ℕ) → id_of rk ≡ some i → HasId ck) (none : has_body ck ≡ false → calls ≡ end) where
    y : Symbols
    y = symbols_of (id_of rk) s.default s.next (elements_of ck)

    els : Trees
    els = renamed y.outer y.alias (elements_of ck)

    no_elements : has_body ck ≡ false → (els ≡ end) × (calls ≡ end)
    unfolding els
    no_elements n = (ap (renamed y.outer y.alias) (bodiless_end ck n) ∙ renamed_end y.outer y.alias, none n)

    pub plain_any : any_f (is_ref c) (live_class_if false rk l m ck calls s outside).here ≡ (any_f (is_ref c) ck || any_f (is_ref c) calls)
    unfolding live_class_if
    plain_any = undecorated_any (is_empty calls) rk s.default l m ck calls refl el em none

    -- rule 9: no assignment
    private_class : has_private_in rk ≡ true →
        any_f (is_ref c) (live_class_if true rk l m ck calls s outside).here ≡ (shows c (lead gone (until 29 gone)) ck || (any_f (is_ref c) (bare_first els) || any_f (is_ref c) calls))
    unfolding live_class_if decorated₁ decorated₂ y els class_of body_of
    private_class p =
        rw p (private_any (has_static (elements_of rk)) l m ck calls els y el em (alias_other (id_of rk) s.default s.next (elements_of ck) o.low) (inner_takes (id_of rk) s.default s.next (elements_of ck) ck hid) no_elements)

    public_class : has_private_in rk ≡ false →
        any_f (is_ref c) (live_class_if true rk l m ck calls s outside).here
        ≡ (shows c (lead whole (until 29 gone)) ck || (any_f (is_ref c) (bare_first els) || any_f (is_ref c) (first_constructor els) || any_f (is_ref c) calls) || eqb y.outer c)
    unfolding live_class_if decorated₁ decorated₂ y els class_of body_of
    public_class p =
        rw p (public_any (has_static (elements_of rk)) l m ck calls els y el em (alias_other (id_of rk) s.default s.next (elements_of ck) o.low) (inner_takes (id_of rk) s.default s.next (elements_of ck) ck hid) no_elements)

    pub private_named : has_private_in rk ≡ true → is_symbol c (id_of rk) ≡ true →
        any_f (is_ref c) (live_class_if true rk l m ck calls s outside).here ≡ (shows c (lead gone (until 29 gone)) ck || any_f (is_ref c) calls)
    unfolding y els
    private_named p n =
        private_class p
        ∙ rw (← (shows_bare c els), shows_none c (elements of_method) els (renamed_none (id_of rk) s.default s.next (elements_of ck) o.low n))

    pub private_other : has_private_in rk ≡ true → is_symbol c (id_of rk) ≡ false →
        any_f (is_ref c) (live_class_if true rk l m ck calls s outside).here ≡ (shows c (lead gone (until 29 gone)) ck || (shows c (elements of_method) (elements_of ck) || any_f (is_ref c) calls))
    unfolding y els
    private_other p n = private_class p ∙ rw (← (shows_bare c els), renamed_same (id_of rk) s.default s.next (elements_of ck) o.low n (elements of_method))

    pub public_named : has_private_in rk ≡ false → is_symbol c (id_of rk) ≡ true → any_f (is_ref c) (live_class_if true rk l m ck calls s outside).here ≡ true
    unfolding y
    public_named p n = public_class p ∙ rw (outer_is (id_of rk) s.default s.next (elements_of ck) o.low o.other, n, or-true)

    pub public_other : has_private_in rk ≡ false → is_symbol c (id_of rk) ≡ false →
        any_f (is_ref c) (live_class_if true rk l m ck calls s outside).here ≡ (shows c (lead whole (until 29 gone)) ck || (shows c (elements of_field) (elements_of ck) || any_f (is_ref c) calls))
    unfolding y els
    public_other p n =
        public_class p
        ∙ rw (← (shows_moved c els), renamed_same (id_of rk) s.default s.next (elements_of ck) o.low n (elements of_field), outer_is (id_of rk) s.default s.next (elements_of ck) o.low o.other, n, or-false)
