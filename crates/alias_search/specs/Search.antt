-- Rule 6's search on records as read is the search in what they become, for a symbol that is no fresh one. Assumes nothing.
use Rattle.std.proofs.Math.Path.{◌≡◌, refl, ap, sym, subst}
use Rattle.std.proofs.Common.{◌∙◌}
use Rattle.std.specs.Prelude.{Bool, ◌&&◌, ◌||◌, cond, ℕ}
use Rattle.std.proofs.Math.Bool.{true, false, not, or-true, or-false, or_assoc, and-false, and-true, and-or_distrib_left}
use Rattle.std.specs.declared.option.Option.{Option}
use Rattle.std.specs.declared.option.Option.TheVariants.{Some as some}
use native.Mathlib.Omega.{arith}
use borrow.Author.Tests.{not-false}
use Rattle.words.specs.Table.{lookup}
use Rattle.words.specs.Word.{bit1}
use Rattle.records.specs.Forest.{end, node, append_f, count_f, any_f, append_f_end, any_f_append}
use Rattle.records.specs.Label.{Label, Trees, is, bit, repay, ◌∶◌}
use Rattle.rewriting.specs.Parts.{tree, is_empty, Role, module', statement, method, plain, field, role_of, decorators, kids_of, decorators_of, bare_method, bare_field, is_constructor, is_member, is_decorated_member, has_plain_key, elements_of, id_of, has_private_in, is_decorated, is_live, class_kids}
use Rattle.rewriting.specs.Visit.{Result, is_ref, called₁, called₂, member_if, member, own, class_if, live_class, live_class_if, dead_class, whole_module, since, work, inside, entering, visit, visit_one, visit_end}
use Rattle.rewriting.specs.declared.Around.{Around}
use Rattle.rewriting.specs.declared.State.{State}
use Rattle.inspect.specs.Row.{any_row}
use Rattle.alias_search.specs.Ors.{ors}
use Rattle.alias_search.specs.Mentions.{Mode, whole, gone, lead, until, each, elements, behind, within, searched, seek_gone, seek_lead, is_other, is_symbol, of_field, of_method, of_elements, of_class, names, mentions_word, mode_of, inner, mentions_by, mentions}
use Rattle.alias_search.specs.Shown.{and_left, shows, word, all, shows_end, shows_node, shows_whole, shows_each, shows_field, shows_method, undecorate_any, entries_any, ref_kind, is_repay, made_ref, tree_any, end_any}
use Rattle.alias_search.specs.Visited.{here_node, calls_node}
use Rattle.alias_search.specs.Older.{Older, one_older, visit_older, entering_older}
use Rattle.alias_search.specs.Roles.{role_at, keeps, role_kind, Sort, a_module, a_statement, a_method, a_field, kept_one, sort_of, member_not, not_constructor}
use Rattle.alias_search.specs.Kept.{one_over, shows_kept}
use Rattle.alias_search.specs.Formed.{Each, is_list, may_hold, OneClass, FirstSymbols, Standing, Formed, no_list, not_list, held_not, keeps_one, kept_kind, is_quiet, kids_kept, kids_quiet}
use Rattle.alias_search.specs.Fit.{Fit, FitOne, fit_whole, fit_gone, fit_field, fit_method, fit_class}
use Rattle.alias_search.specs.Quiet.{no_calls, one_calls}
use Rattle.alias_search.specs.Member.{here_any, calls_any, plain_undecorated, plain_bare, plain_visited}
use Rattle.alias_search.specs.Read.{mentions_node, mentions_end, mentions_gone, kept_within, other_word, bare_field_lem, bare_method_lem}
use Rattle.alias_search.specs.Body.{has_body, HasId, Located, locate, plain_one, id_second, id_visited, elements_formed, class_kept, class_parts_lem}
use Rattle.alias_search.specs.Class.{apart_any, lead_until, plain_any, private_named, private_other, public_named, public_other}

module _ (c : ℕ) where
  -- what stands there for a row, in any mode that fits it
  Here : Trees → Type 0
  Here f = (x : Mode) → Formed f → Fit x f → (around : Around) (s : State) → Older c s → shows c x (visit around f s).here ≡ mentions_by c x f

  -- ---- a record that keeps its children

  kept_step : (l : Label) (k r : Trees) → Here k → Here r → keeps (role_of l) ≡ true → is 4 l ≡ false → (x : Mode) → Formed (node l k r) → Fit x (node l k r) → (around : Around) (s : State) → Older c s →
      shows c x (visit around (node l k r) s).here ≡ mentions_by c x (node l k r)
  unfolding Here Formed Fit
  kept_step l k r hk hr e n x m f around s o =
      shows_kept c x around l k r s e
      ∙ rw (
        hk (within all x l k) m.1 f.1 (inside (role_of l) around k) (entering (role_of l) s) (entering_older c (role_of l) s o),
        hr (behind x l) m.2 f.2 around (visit_one around l k s).after (one_older c around l k s o),
        ← (other_word c l k n),
        ← (kept_within c x l k e),
      ) (sym (mentions_node c x l k r))

  -- ---- members: y is the mode of a member's children, a what they become

  record Bare (around : Around) (l : Label) (k : Trees) (y : Mode) (bare entries : Trees) (d : Label) (a : Result) : Type 0 where
    no_word : is_ref c l ≡ false
    no_descriptor : is_ref c d ≡ false
    older : Older c a.after
    silent : a.calls ≡ end
    key : has_plain_key k ≡ true → has_plain_key bare ≡ true
    split : (any_f (is_ref c) bare || any_f (is_ref c) entries) ≡ any_f (is_ref c) a.here
    stays : any_f (is_ref c) bare ≡ mentions_by c y k
    moved : any_f (is_ref c) a.here ≡ mentions_by c whole k
    undecorated : is_decorated_member l k ≡ false → mentions_by c y k ≡ mentions_by c whole k

  module _ {around : Around} {l : Label} {k : Trees} {y : Mode} {bare entries : Trees} {d : Label} {a : Result} (h : Bare around l k y bare entries d a) where
    -- as it stays
    member_here : (b : Bool) → any_f (is_ref c) (member_if b around l k bare entries d a).here ≡ mentions_by c y k
    member_here b = here_any c b around l k bare entries d a h.older ∙ rw h.no_word h.stays

    no_call : any_f (is_ref c) (member_if false around l k bare entries d a).calls ≡ false
    unfolding member_if
    no_call = rw h.silent (end_any c)

    -- with its call
    member_both : (b : Bool) → is_decorated_member l k ≡ b →
        (any_f (is_ref c) (member_if b around l k bare entries d a).here || any_f (is_ref c) (member_if b around l k bare entries d a).calls) ≡ (mentions_by c whole k || (is_symbol c around.id && b))
    member_both true e =
        rw (here_any c true around l k bare entries d a h.older, h.no_word, calls_any c around l k bare entries d a h.older h.no_descriptor h.silent h.key)
        (sym (or_assoc (any_f (is_ref c) bare) (any_f (is_ref c) entries) (is_symbol c around.id))
        ∙ rw (h.split, h.moved, and-true (is_symbol c around.id)))
    member_both false e = rw (member_here false, no_call, h.undecorated e, and-false (is_symbol c around.id))

    -- the call alone, where c is the class's id
    member_call_lem : (b : Bool) → is_symbol c around.id ≡ true → any_f (is_ref c) (member_if b around l k bare entries d a).calls ≡ b
    member_call_lem true n = calls_any c around l k bare entries d a h.older h.no_descriptor h.silent h.key ∙ rw (n, or-true)
    member_call_lem false n = no_call

  -- a member's row
  kids_around : (l : Label) (k : Trees) → is_member l ≡ true → Standing l k → Each keeps_one k × Each is_quiet k
  kids_around l k e s =
      let list_l : is_list l ≡ false = no_list l (member_not 1 l e refl refl refl) (member_not 3 l e refl refl refl) (member_not 33 l e refl refl refl) (member_not 39 l e refl refl refl) in
      let body_l : is 29 l ≡ false = member_not 29 l e refl refl refl in (
        kids_kept l k list_l body_l s,
        kids_quiet l k (member_not 4 l e refl refl refl) (member_not 20 l e refl refl refl) (member_not 26 l e refl refl refl) body_l s,
      )

  no_ref : (l : Label) → is 9 l ≡ false → is 18 l ≡ false → is_ref c l ≡ false
  unfolding is_ref
  no_ref l a b = rw (a, b)

  member_word : (l : Label) → is_member l ≡ true → is_ref c l ≡ false
  member_word l e = no_ref l (member_not 9 l e refl refl refl) (member_not 18 l e refl refl refl)

  no_entries : (l : Label) (k : Trees) → is_member l ≡ true → is_decorated_member l k ≡ false → is_empty (decorators_of (role_of l) k) ≡ true
  unfolding is_decorated_member
  no_entries l k e q = not-false (is_empty (decorators_of (role_of l) k)) (sym (rw e) ∙ q)

  method_bare : (around : Around) (l : Label) (k : Trees) (s : State) → Here k → role_of l ≡ method → is_member l ≡ true → Standing l k → Formed k → Older c s →
      Bare around l k of_method (bare_method (visit around k s).here) (decorators_of method (visit around k s).here) (13 ∶ 0) (visit around k s)
  unfolding Here
  method_bare around l k s hk e i m f o =
      let p = kids_around l k i m in
      let fit = fit_method k p.0 f in
      record {
        no_word = member_word l i;
        no_descriptor = made_ref c 13 0 refl refl;
        older = visit_older c around k s o;
        silent = no_calls around k s f p.1;
        key = λ q. plain_bare (visit around k s).here ∙ plain_visited around k s p.0 ∙ q;
        split = unfold decorators_of in entries_any c (visit around k s).here;
        stays = sym (shows_method c (visit around k s).here) ∙ hk of_method f fit around s o;
        moved = sym (shows_whole c (visit around k s).here) ∙ hk whole f (fit_whole k) around s o;
        undecorated = λ q. bare_method_lem c k fit (unfold decorators_of in rw e at (no_entries l k i q));
      }

  field_bare : (around : Around) (l d : Label) (k : Trees) (s : State) → Here k → role_of l ≡ field d → is_member l ≡ true → is_ref c d ≡ false → Standing l k → Formed k → Older c s →
      Bare around l k of_field (bare_field (visit around k s).here) (decorators (visit around k s).here) d (visit around k s)
  unfolding Here bare_field
  field_bare around l d k s hk e i g m f o =
      let p = kids_around l k i m in
      let fit = fit_field k p.0 f in
      record {
        no_word = member_word l i;
        no_descriptor = g;
        older = visit_older c around k s o;
        silent = no_calls around k s f p.1;
        key = λ q. plain_undecorated (visit around k s).here ∙ plain_visited around k s p.0 ∙ q;
        split = undecorate_any c (visit around k s).here;
        stays = sym (shows_field c (visit around k s).here) ∙ hk of_field f fit around s o;
        moved = sym (shows_whole c (visit around k s).here) ∙ hk whole f (fit_whole k) around s o;
        undecorated = λ q. bare_field_lem c k (unfold decorators_of in rw e at (no_entries l k i q));
      }

  -- ---- a record with work of its own is searched whole

  -- what stands there for one record
  One : Label → Trees → Type 0
  One l k = (around : Around) (s : State) → Older c s → any_f (is_ref c) (visit_one around l k s).here ≡ (mentions_word c l k || mentions_by c (inner c l k) k)

  whole_step : (l : Label) (k r : Trees) → One l k → Here r → Formed (node l k r) → (around : Around) (s : State) → Older c s →
      shows c whole (visit around (node l k r) s).here ≡ mentions_by c whole (node l k r)
  unfolding One Here Formed searched within behind
  whole_step l k r one hr m around s o =
      let t : State = (visit_one around l k s).after in
      shows_whole c (visit around (node l k r) s).here
      ∙ ap (any_f (is_ref c)) (here_node around l k r s)
      ∙ any_f_append (is_ref c) (visit_one around l k s).here (visit around r t).here
      ∙ rw (one around s o, ← (shows_whole c (visit around r t).here), hr whole m.2 (fit_whole r) around t (one_older c around l k s o))
      (sym (mentions_node c whole l k r))

  clash : {A : Type 0} {b : Bool} → b ≡ true → b ≡ false → A
  clash e f = let z : ◌≡◌ {A = ℕ} 0 1 = cc in absurd (omega arith)

  shows_gone : (f : Trees) → shows c gone f ≡ false
  unfolding shows
  shows_gone f = seek_gone (word c) all f

  own_step : (l : Label) (k r : Trees) → One l k → Here r → keeps_one l ≡ false → (x : Mode) → Formed (node l k r) → Fit x (node l k r) → (around : Around) (s : State) → Older c s →
      shows c x (visit around (node l k r) s).here ≡ mentions_by c x (node l k r)
  unfolding Fit FitOne
  own_step l k r one hr n whole m f around s o = whole_step l k r one hr m around s o
  own_step l k r one hr n gone m f around s o = shows_gone (visit around (node l k r) s).here ∙ sym (mentions_gone c (node l k r))
  own_step l k r one hr n (lead x y) m f around s o = clash f.0 n
  own_step l k r one hr n (until i x) m f around s o = clash f.0 n
  own_step l k r one hr n (each x) m f around s o = clash f.0 n
  own_step l k r one hr n (elements x) m f around s o = clash f.0 n

  -- members

  module _ (around : Around) (l : Label) (k : Trees) (s : State) where
    -- a method, and any other member, as visited
    method_of : Result
    method_of = member_if (around.live && is_decorated_member l k) around l k (bare_method (visit around k s).here) (decorators_of method (visit around k s).here) (13 ∶ 0) (visit around k s)

    field_of : Label → Result
    field_of d = member_if (around.live && is_decorated_member l k) around l k (bare_field (visit around k s).here) (decorators (visit around k s).here) d (visit around k s)

    visit_method : role_of l ≡ method → ((visit_one around l k s).here ≡ method_of.here) × ((visit_one around l k s).calls ≡ method_of.calls)
    unfolding visit_one work since method_of own member inside entering
    visit_method e = (rw e, rw e)

    visit_field : (d : Label) → role_of l ≡ field d → ((visit_one around l k s).here ≡ (field_of d).here) × ((visit_one around l k s).calls ≡ (field_of d).calls)
    unfolding visit_one work since field_of own member inside entering
    visit_field d e = (rw e, rw e)

  one_method : (l : Label) (k : Trees) → Here k → role_of l ≡ method → is_member l ≡ true → Standing l k → Formed k → One l k
  unfolding One method_of inner mode_of
  one_method l k hk e i m f around s o =
      ap (any_f (is_ref c)) (visit_method around l k s e).0
      ∙ member_here (method_bare around l k s hk e i m f o) (around.live && is_decorated_member l k)
      ∙ sym (rw (other_word c l k (member_not 4 l i refl refl refl), member_word l i, e))

  one_field : (l d : Label) (k : Trees) → Here k → role_of l ≡ field d → is_member l ≡ true → is 9 d ≡ false → is 18 d ≡ false → Standing l k → Formed k → One l k
  unfolding One field_of inner mode_of
  one_field l d k hk e i g h m f around s o =
      ap (any_f (is_ref c)) (visit_field around l k s d e).0
      ∙ member_here (field_bare around l d k s hk e i (no_ref d g h) m f o) (around.live && is_decorated_member l k)
      ∙ sym (rw (other_word c l k (member_not 4 l i refl refl refl), member_word l i, e))

  -- a module

  symbols_visited : (around : Around) (k : Trees) (s : State) → FirstSymbols k → FirstSymbols (visit around k s).here
  unfolding FirstSymbols
  symbols_visited around end s h = rw visit_end tt
  symbols_visited around (node l k r) s h =
      let o = one_over c around l k s (unfold keeps_one in kept_kind 40 l h (unfold role_at lookup keeps in refl)) in
      subst FirstSymbols (sym (here_node around l k r s ∙ ap (λ (f : Trees). append_f f (visit around r (visit_one around l k s).after).here) o.shape))
      (unfold append_f FirstSymbols in o.alike.kinds 40 ∙ h)

  module_any : (l : Label) (f : Trees) (n : ℕ) → is 1 l ≡ true → FirstSymbols f → any_f (is_ref c) (whole_module l f n) ≡ any_f (is_ref c) f
  unfolding whole_module FirstSymbols any_f
  module_any l end n i h = tree_any c l end ∙ rw (ref_kind c 1 l i refl refl)
  module_any l (node x k r) n i h =
      tree_any c (repay l _) _
      ∙ rw (ref_kind c 1 (repay l (count_f r)) (is_repay 1 l _ ∙ i) refl refl, ref_kind c 40 x h refl refl, ref_kind c 40 (repay x n) (is_repay 40 x n ∙ h) refl refl)

  visit_module : (around : Around) (l : Label) (k : Trees) (s : State) → role_of l ≡ module' → (visit_one around l k s).here ≡ whole_module l (visit around k s).here (visit around k s).after.next
  unfolding visit_one work since own inside entering
  visit_module around l k s e = rw e

  one_module : (l : Label) (k : Trees) → Here k → is 1 l ≡ true → role_of l ≡ module' → Standing l k → Formed k → One l k
  unfolding One Here inner mode_of
  one_module l k hk i e m f around s o =
      ap (any_f (is_ref c)) (visit_module around l k s e)
      ∙ module_any l (visit around k s).here (visit around k s).after.next i (symbols_visited around k s (m.symbols i))
      ∙ sym (shows_whole c (visit around k s).here)
      ∙ hk whole f (fit_whole k) around s o
      ∙ sym (rw (other_word c l k (is_other 1 4 l i refl), ref_kind c 1 l i refl refl, e))

  -- ---- the elements of a live class, with all that they queue

  -- a member as visited in a live class: its children as they stay, and its call
  record Queued (around : Around) (l : Label) (k : Trees) (s : State) : Type 0 where
    kids : Trees
    shape : (visit_one around l k s).here ≡ node l kids end
    no_word : is_ref c l ≡ false
    both : (any_f (is_ref c) kids || any_f (is_ref c) (visit_one around l k s).calls) ≡ (mentions_by c whole k || (is_symbol c around.id && is_decorated_member l k))
    call : is_symbol c around.id ≡ true → any_f (is_ref c) (visit_one around l k s).calls ≡ is_decorated_member l k

  member_shape : (b : Bool) (around : Around) (l : Label) (k bare entries : Trees) (d : Label) (a : Result) → (g : Trees) × ((member_if b around l k bare entries d a).here ≡ node l g end)
  unfolding member_if called₁ called₂ tree
  member_shape true around l k bare entries d a = (_, refl)
  member_shape false around l k bare entries d a = (_, refl)

  member_queued : (around : Around) (l : Label) (k : Trees) (s : State) (y : Mode) (bare entries : Trees) (d : Label) (a : Result) → Bare around l k y bare entries d a → around.live ≡ true →
      (visit_one around l k s).here ≡ (member_if (around.live && is_decorated_member l k) around l k bare entries d a).here →
      (visit_one around l k s).calls ≡ (member_if (around.live && is_decorated_member l k) around l k bare entries d a).calls →
      Queued around l k s
  member_queued around l k s y bare entries d a h e here calls =
      let shape = member_shape (is_decorated_member l k) around l k bare entries d a in
      let live : (around.live && is_decorated_member l k) ≡ is_decorated_member l k = rw e in
      let here' : (visit_one around l k s).here ≡ (member_if (is_decorated_member l k) around l k bare entries d a).here = here ∙ ap (λ (b : Bool). (member_if b around l k bare entries d a).here) live in
      let calls' : (visit_one around l k s).calls ≡ (member_if (is_decorated_member l k) around l k bare entries d a).calls = calls ∙ ap (λ (b : Bool). (member_if b around l k bare entries d a).calls) live in
      let inside-it : any_f (is_ref c) (member_if (is_decorated_member l k) around l k bare entries d a).here ≡ any_f (is_ref c) shape.0 = ap (any_f (is_ref c)) shape.1 ∙ tree_any' l shape.0 ∙ rw h.no_word in
      record {
        kids = shape.0;
        shape = here' ∙ shape.1;
        no_word = h.no_word;
        both = rw (← inside-it, calls') (member_both h (is_decorated_member l k) refl);
        call = λ n. ap (any_f (is_ref c)) calls' ∙ member_call_lem h (is_decorated_member l k) n;
      }
    where
      tree_any' : (l : Label) (g : Trees) → any_f (is_ref c) (node l g end) ≡ (is_ref c l || any_f (is_ref c) g)
      tree_any' l g = unfold tree in tree_any c l g

  -- the modes of a body's elements; n: is c the class's id
  BodyMode : Bool → Mode → Type 0
  BodyMode n whole = ⊥
  BodyMode n gone = n ≡ true
  BodyMode n (lead x y) = ⊥
  BodyMode n (until i x) = ⊥
  BodyMode n (each x) = x ≡ whole
  BodyMode n (elements y) = (f : Trees) → Each keeps_one f → Formed f → Fit y f

  behind_body : (n : Bool) (b : Mode) (l : Label) → BodyMode n b → BodyMode n (behind b l)
  unfolding BodyMode behind
  behind_body n gone l h = h
  behind_body n (each x) l h = h
  behind_body n (elements y) l h = go (is_constructor l)
    where
      go : (b : Bool) → BodyMode n (cond b (each whole) (elements y))
      go true = unfold BodyMode in refl
      go false = unfold BodyMode in h
  behind_body n whole l h = absurd h
  behind_body n (lead x y) l h = absurd h
  behind_body n (until i x) l h = absurd h

  within_body : (n : Bool) (b : Mode) (l : Label) (k : Trees) → BodyMode n b → (is_constructor l ≡ true → Each keeps_one k) → Formed k → Fit (within all b l k) k
  unfolding BodyMode within
  within_body n gone l k h e m = fit_gone k
  within_body n (each x) l k h e m = rw h (fit_whole k)
  within_body n (elements y) l k h e m = go (is_constructor l) refl
    where
      go : (b : Bool) → is_constructor l ≡ b → Fit (cond b y whole) k
      go true i = h k (e i) m
      go false i = fit_whole k
  within_body n whole l k h e m = absurd h
  within_body n (lead x y) l k h e m = absurd h
  within_body n (until i x) l k h e m = absurd h

  glue : (a v q m n : Bool) → (v || q) ≡ (m || n) → (a || v || q) ≡ (a || m || n)
  glue a v q m n e = or_assoc a v q ∙ ap (a ||◌) e ∙ sym (or_assoc a m n)

  Queue : Trees → Type 0
  Queue f = (b : Mode) (p : Label) → is 29 p ≡ true → Each (λ x. may_hold p x.kind) f → Formed f → (around : Around) → around.live ≡ true → BodyMode (is_symbol c around.id) b → (s : State) → Older c s →
      (shows c b (visit around f s).here || any_f (is_ref c) (visit around f s).calls) ≡ (mentions_by c b f || (is_symbol c around.id && any_row is_decorated_member f))

  -- an element that keeps its children
  queue_kept : (l : Label) (k r : Trees) → Here k → Queue r → keeps (role_of l) ≡ true → is_member l ≡ false → is 4 l ≡ false → is_quiet l ≡ true → Queue (node l k r)
  unfolding Here Queue Formed Each any_row
  queue_kept l k r hk hr e i n q b p j h m around live bm s o =
      let t : State = (visit_one around l k s).after in
      let w : Mode = within all b l k in
      let kids : shows c w (visit (inside (role_of l) around k) k (entering (role_of l) s)).here ≡ mentions_by c w k =
      hk w m.1 (within_body (is_symbol c around.id) b l k bm (λ x. constructor_kids l k x m.0) m.1) (inside (role_of l) around k) (entering (role_of l) s) (entering_older c (role_of l) s o) in
      let rest = hr (behind b l) p j h.1 m.2 around live (behind_body (is_symbol c around.id) b l bm) t (one_older c around l k s o) in
      let none : is_decorated_member l k ≡ false = unfold is_decorated_member in rw i in
      let calls : any_f (is_ref c) (visit around (node l k r) s).calls ≡ any_f (is_ref c) (visit around r t).calls =
      ap (any_f (is_ref c)) (calls_node around l k r s ∙ rw (one_calls around l k s m.0 q (λ around' t e. no_calls around' k t m.1 e)) (unfold append_f in refl)) in
      let here : shows c b (visit around (node l k r) s).here ≡ ((searched b && is_ref c l) || mentions_by c w k || shows c (behind b l) (visit around r t).here) =
      shows_kept c b around l k r s e ∙ rw kids in
      let read : mentions_by c b (node l k r) ≡ ((searched b && is_ref c l) || mentions_by c w k || mentions_by c (behind b l) r) =
      mentions_node c b l k r ∙ rw (kept_within c b l k e, other_word c l k n) in
      rw (here, calls, read, none)
      (glue ((searched b && is_ref c l) || mentions_by c w k) (shows c (behind b l) (visit around r t).here) (any_f (is_ref c) (visit around r t).calls) (mentions_by c (behind b l) r) (is_symbol c around.id && any_row is_decorated_member r) rest)
    where
      constructor_kids : (l : Label) (k : Trees) → is_constructor l ≡ true → Standing l k → Each keeps_one k
      constructor_kids l k x m =
          let j : is 30 l ≡ true = and_left (is 30 l) (bit bit1 l) (unfold is_constructor in x) in
          kids_kept l k (not_list 30 l j refl refl refl refl) (is_other 30 29 l j refl) m

  -- a member
  module _ (l : Label) (k r : Trees) (i : is_member l ≡ true) (around : Around) (s : State) (x : Queued around l k s) where
    abbrev t : State
    t = (visit_one around l k s).after

    member_calls : any_f (is_ref c) (visit around (node l k r) s).calls ≡ (any_f (is_ref c) (visit_one around l k s).calls || any_f (is_ref c) (visit around r t).calls)
    member_calls = ap (any_f (is_ref c)) (calls_node around l k r s) ∙ any_f_append (is_ref c) (visit_one around l k s).calls (visit around r t).calls

    -- in a mode that searches it whole
    member_seen : (b : Mode) → searched b ≡ true → within all b l x.kids ≡ whole → within (inner c) b l k ≡ whole → behind b l ≡ b →
        (shows c b (visit around r t).here || any_f (is_ref c) (visit around r t).calls) ≡ (mentions_by c b r || (is_symbol c around.id && any_row is_decorated_member r)) →
        (shows c b (visit around (node l k r) s).here || any_f (is_ref c) (visit around (node l k r) s).calls)
        ≡ (mentions_by c b (node l k r) || (is_symbol c around.id && any_row is_decorated_member (node l k r)))
    unfolding any_row append_f
    member_seen b sb wb ib bb rest =
        let row : (visit around (node l k r) s).here ≡ node l x.kids (visit around r t).here =
        here_node around l k r s ∙ ap (λ (f : Trees). append_f f (visit around r t).here) x.shape in
        let here : shows c b (visit around (node l k r) s).here ≡ (any_f (is_ref c) x.kids || shows c b (visit around r t).here) =
        ap (shows c b) row ∙ shows_node c b l x.kids (visit around r t).here ∙ rw (sb, x.no_word, wb, bb, shows_whole c x.kids) in
        let read : mentions_by c b (node l k r) ≡ (mentions_by c whole k || mentions_by c b r) =
        mentions_node c b l k r ∙ rw (sb, other_word c l k (member_not 4 l i refl refl refl), x.no_word, ib, bb) in
        rw (here, member_calls, read, and-or_distrib_left)
        (pairs (any_f (is_ref c) x.kids) (shows c b (visit around r t).here) (any_f (is_ref c) (visit_one around l k s).calls) (any_f (is_ref c) (visit around r t).calls)
        ∙ rw (x.both, rest)
        (pairs (mentions_by c whole k) (is_symbol c around.id && is_decorated_member l k) (mentions_by c b r) (is_symbol c around.id && any_row is_decorated_member r)))
      where
        pairs : (a b d e : Bool) → (a || b || (d || e)) ≡ (a || d || (b || e))
        pairs a b d e = simp ors

    -- where it isn't searched, c being the class's id
    member_unseen : is_symbol c around.id ≡ true →
        (shows c gone (visit around r t).here || any_f (is_ref c) (visit around r t).calls) ≡ (mentions_by c gone r || (is_symbol c around.id && any_row is_decorated_member r)) →
        (shows c gone (visit around (node l k r) s).here || any_f (is_ref c) (visit around (node l k r) s).calls)
        ≡ (mentions_by c gone (node l k r) || (is_symbol c around.id && any_row is_decorated_member (node l k r)))
    unfolding any_row
    member_unseen n rest =
        let later : any_f (is_ref c) (visit around r t).calls ≡ any_row is_decorated_member r = rw (shows_gone (visit around r t).here, mentions_gone c r, n) at rest in
        rw (shows_gone (visit around (node l k r) s).here, mentions_gone c (node l k r), member_calls, x.call n, later, n)

  queue_member : (l : Label) (k r : Trees) → Queue r → is_member l ≡ true → ((around : Around) (s : State) → around.live ≡ true → Older c s → Queued around l k s) → Queue (node l k r)
  unfolding Queue Formed Each BodyMode searched within behind
  queue_member l k r hr i hl gone p j h m around live bm s o =
      member_unseen l k r i around s (hl around s live o) bm (hr gone p j h.1 m.2 around live bm (visit_one around l k s).after (one_older c around l k s o))
  queue_member l k r hr i hl (each x) p j h m around live bm s o =
      member_seen l k r i around s (hl around s live o) (each x) refl bm bm refl (hr (each x) p j h.1 m.2 around live bm (visit_one around l k s).after (one_older c around l k s o))
  queue_member l k r hr i hl (elements y) p j h m around live bm s o =
      member_seen l k r i around s (hl around s live o) (elements y) refl (rw (not_constructor l i)) (rw (not_constructor l i)) (rw (not_constructor l i))
      (hr (elements y) p j h.1 m.2 around live bm (visit_one around l k s).after (one_older c around l k s o))
  queue_member l k r hr i hl whole p j h m around live bm s o = absurd bm
  queue_member l k r hr i hl (lead x y) p j h m around live bm s o = absurd bm
  queue_member l k r hr i hl (until n x) p j h m around live bm s o = absurd bm

  -- ---- a class statement

  -- one that isn't live
  one_dead : (l : Label) (k : Trees) → Here k → is 4 l ≡ true → role_of l ≡ statement → is_live k ≡ false → Formed k → One l k
  unfolding One Here inner mode_of mentions_word
  one_dead l k hk i e d f around s o =
      let t : State = entering statement s in
      let inner-around : Around = inside statement around k in
      ap (any_f (is_ref c)) (visit_dead around l k s e d)
      ∙ tree_any c l (visit inner-around k t).here
      ∙ rw (← (shows_whole c (visit inner-around k t).here), hk whole f (fit_whole k) inner-around t (entering_older c statement s o), e, d, ref_kind c 4 l i refl refl, and-false (is 4 l))
    where
      visit_dead : (around : Around) (l : Label) (k : Trees) (s : State) → role_of l ≡ statement → is_live k ≡ false → (visit_one around l k s).here ≡ tree l (visit (inside statement around k) k (entering statement s)).here
      visit_dead around l k s e d = unfold visit_one work since own in rw (e, d) (unfold class_if dead_class in refl)

  -- a live one: m is the word of its class, rk its children; what they become is ck, and they queue `calls`
  module _ (l m : Label) (rk ck calls : Trees) (s : State) (outside : Option ℕ) (el : is_ref c l ≡ false) (em : is 26 m ≡ true)
      (o : Older c s) (hid : (i : ℕ) → id_of rk ≡ some i → HasId ck) (none : has_body ck ≡ false → calls ≡ end)
      (outer : (d : Mode) → ((g : Trees) → Fit d g) → shows c (lead d (until 29 gone)) ck ≡ mentions_by c (lead d (until 29 gone)) rk)
      (queue : (b : Mode) → BodyMode (is_symbol c (id_of rk)) b →
      (shows c b (elements_of ck) || any_f (is_ref c) calls) ≡ (mentions_by c b (elements_of rk) || (is_symbol c (id_of rk) && any_row is_decorated_member (elements_of rk)))) where
    live_any : (decorated private named : Bool) → has_private_in rk ≡ private → is_symbol c (id_of rk) ≡ named →
        any_f (is_ref c) (live_class_if decorated rk l m ck calls s outside).here
        ≡ ((named && (any_row is_decorated_member (elements_of rk) || (decorated && not private)))
        || (mentions_by c (lead (cond (decorated && private) gone whole) (until 29 gone)) rk || mentions_by c (of_elements decorated private named) (elements_of rk)))
    unfolding of_elements BodyMode
    live_any false private named p n =
        plain_any c rk l m ck calls s outside el em o hid none
        ∙ rw (apart_any c ck, ← (lead_until c ck), outer whole fit_whole, ← (shows_each c (elements_of ck)))
        (or_assoc (mentions_by c (lead whole (until 29 gone)) rk) (shows c (each whole) (elements_of ck)) (any_f (is_ref c) calls)
        ∙ rw (queue (each whole) refl, n)
        (kept_all (mentions_by c (lead whole (until 29 gone)) rk) (mentions_by c (each whole) (elements_of rk)) named (any_row is_decorated_member (elements_of rk))))
      where
        kept_all : (o e n a : Bool) → (o || (e || (n && a))) ≡ ((n && (a || false)) || (o || e))
        kept_all o e n a = rw (or-false a) (simp ors)
    live_any true true true p n =
        let calls_are : any_f (is_ref c) calls ≡ any_row is_decorated_member (elements_of rk) =
        rw (shows_gone (elements_of ck), mentions_gone c (elements_of rk), n) at (queue gone n) in
        private_named c rk l m ck calls s outside el em o hid none p n
        ∙ rw (outer gone fit_gone, calls_are, mentions_gone c (elements_of rk))
        (lost (mentions_by c (lead gone (until 29 gone)) rk) (any_row is_decorated_member (elements_of rk)))
      where
        lost : (o a : Bool) → (o || a) ≡ (a || false || (o || false))
        lost o a = simp ors
    live_any true true false p n =
        private_other c rk l m ck calls s outside el em o hid none p n
        ∙ rw (outer gone fit_gone, queue (elements of_method) fit_method, n) (ap (mentions_by c (lead gone (until 29 gone)) rk ||◌) (or-false (mentions_by c (elements of_method) (elements_of rk))))
    live_any true false true p n =
        public_named c rk l m ck calls s outside el em o hid none p n ∙ sym (rw (or-true (any_row is_decorated_member (elements_of rk))))
    live_any true false false p n =
        public_other c rk l m ck calls s outside el em o hid none p n
        ∙ rw (outer whole fit_whole, queue (elements of_field) fit_field, n) (ap (mentions_by c (lead whole (until 29 gone)) rk ||◌) (or-false (mentions_by c (elements of_field) (elements_of rk))))

  -- the one child of a class statement
  module _ (m : Label) (rk : Trees) (em : is 26 m ≡ true) where
    m_plain : role_of m ≡ plain
    m_plain = role_kind 26 m em ∙ (unfold role_at lookup in refl)

    m_word : is_ref c m ≡ false
    m_word = ref_kind c 26 m em refl refl

    class_visit : (around : Around) (s : State) →
        ((visit around (node m rk end) s).here ≡ node m (visit around rk s).here end) × ((visit around (node m rk end) s).calls ≡ (visit around rk s).calls)
    unfolding append_f
    class_visit around s =
        let t : State = (visit_one around m rk s).after in
        let one = plain_one c around m rk s m_plain in (
          here_node around m rk end s ∙ ap (λ (f : Trees). append_f f (visit around end t).here) one.0 ∙ rw visit_end,
          calls_node around m rk end s ∙ rw (one.1, visit_end around t) (append_f_end (visit around rk s).calls),
        )

    class_shows : (x : Mode) (ck : Trees) → shows c (each x) (node m ck end) ≡ shows c x ck
    unfolding searched within behind
    class_shows x ck = shows_node c (each x) m ck end ∙ rw (m_word, shows_end c (each x), or-false)

    class_mentions : (x : Mode) → mentions_by c (each x) (node m rk end) ≡ mentions_by c x rk
    unfolding searched within behind
    class_mentions x = mentions_node c (each x) m rk end ∙ rw (other_word c m rk (is_other 26 4 m em refl), m_word, mentions_end c (each x), or-false)

  visit_live : (around : Around) (l : Label) (k : Trees) (s : State) → role_of l ≡ statement → is_live k ≡ true → (a : Result) → visit (inside statement around k) k (entering statement s) ≡ a →
      (visit_one around l k s).here ≡ (live_class (class_kids k) l a.here a.calls a.after s.default).here
  unfolding visit_one work since own
  visit_live around l k s e i a h = rw (e, i, h) (unfold class_if in refl)

  mentions_apart : (d b : Mode) (f : Trees) → mentions_by c (lead d (until 29 b)) f ≡ (mentions_by c (lead d (until 29 gone)) f || mentions_by c b (elements_of f))
  unfolding mentions_by elements_of
  mentions_apart d b f = seek_lead (mentions_word c) (inner c) 29 d b f refl

  module _ (l m : Label) (rk : Trees) (hk : Here (node m rk end)) (hq : Queue (elements_of rk)) (i : is 4 l ≡ true) (e : role_of l ≡ statement)
      (live : is_live (node m rk end) ≡ true) (em : is 26 m ≡ true) (sl : Standing l (node m rk end)) (sm : Standing m rk) (f : Formed rk) (fk : Formed (node m rk end)) where
    -- as read
    live_read : (mentions_word c l (node m rk end) || mentions_by c (inner c l (node m rk end)) (node m rk end))
        ≡ ((is_symbol c (id_of rk) && (any_row is_decorated_member (elements_of rk) || (is_decorated rk && not (has_private_in rk))))
        || (mentions_by c (lead (cond (is_decorated rk && has_private_in rk) gone whole) (until 29 gone)) rk || mentions_by c (of_elements (is_decorated rk) (has_private_in rk) (is_symbol c (id_of rk))) (elements_of rk)))
    unfolding mentions_word names class_kids
    live_read =
        let mode : inner c l (node m rk end) ≡ each (of_class c rk) = unfold inner mode_of class_kids in rw (e, live) in
        rw (ref_kind c 4 l i refl refl, i, live, mode, class_mentions m rk em (of_class c rk))
        (unfold of_class in ap ((is_symbol c (id_of rk) && (any_row is_decorated_member (elements_of rk) || (is_decorated rk && not (has_private_in rk)))) ||◌) (mentions_apart _ _ rk))

    one_live : One l (node m rk end)
    unfolding One Here Queue class_kids inside live_class
    one_live around s o =
        let k : Trees = node m rk end in
        let within-it : Around = inside statement around k in
        let t : State = entering statement s in
        let ot : Older c t = entering_older c statement s o in
        let a : Result = visit within-it k t in
        let here : a.here ≡ node m (visit within-it rk t).here end = (class_visit m rk em within-it t).0 in
        let calls : a.calls ≡ (visit within-it rk t).calls = (class_visit m rk em within-it t).1 in
        let loc : Located c within-it rk (visit within-it rk t).here (visit within-it rk t).calls =
        locate c within-it rk t ot f (class_kept m rk em sm) (class_parts_lem m rk em sm) (sm.body em) in
        let row = elements_formed rk f in
        let hid : (j : ℕ) → id_of rk ≡ some j → HasId (visit within-it rk t).here = λ j q. id_visited within-it rk t (class_kept m rk em sm) (id_second rk j q) in
        let outer : (d : Mode) → ((g : Trees) → Fit d g) → shows c (lead d (until 29 gone)) (visit within-it rk t).here ≡ mentions_by c (lead d (until 29 gone)) rk = λ d hd.
        sym (class_shows m rk em (lead d (until 29 gone)) (visit within-it rk t).here)
        ∙ ap (shows c (each (lead d (until 29 gone)))) (sym here)
        ∙ hk (each (lead d (until 29 gone))) fk (fit_class d hd k (sl.class i) fk) within-it t ot
        ∙ class_mentions m rk em (lead d (until 29 gone)) in
        let queue : (b : Mode) → BodyMode (is_symbol c (id_of rk)) b →
        (shows c b (elements_of (visit within-it rk t).here) || any_f (is_ref c) a.calls) ≡ (mentions_by c b (elements_of rk) || (is_symbol c (id_of rk) && any_row is_decorated_member (elements_of rk))) = λ b bm.
        rw (loc.elements, calls, loc.queue) (hq b row.0 row.1 row.2 row.3 within-it live bm loc.state loc.older) in
        ap (any_f (is_ref c)) (visit_live around l k s e live a refl ∙ ap (λ (g : Trees). (live_class rk l g a.calls a.after s.default).here) here)
        ∙ live_any l m rk (visit within-it rk t).here a.calls a.after s.default (ref_kind c 4 l i refl refl) em (visit_older c within-it k t ot) hid (λ n. calls ∙ loc.bodiless n) outer queue
        (is_decorated rk) (has_private_in rk) (is_symbol c (id_of rk)) refl refl
        ∙ sym live_read

  one_statement : (l : Label) (k : Trees) → Here k → Queue (elements_of (class_kids k)) → is 4 l ≡ true → role_of l ≡ statement → Standing l k → Formed k → One l k
  one_statement l k hk hq i e sl fk = go (is_live k) refl
    where
      live_one : (k : Trees) → Here k → Queue (elements_of (class_kids k)) → Standing l k → OneClass k → Formed k → is_live k ≡ true → One l k
      live_one end hk hq sl o fk live = absurd (unfold OneClass in o)
      live_one (node m rk end) hk hq sl o fk live = unfold OneClass Formed class_kids in one_live l m rk hk hq i e live o.0 sl fk.0 fk.1 fk
      live_one (node m rk (node x xk xr)) hk hq sl o fk live = absurd (never (unfold OneClass in o.1))
        where
          never : node x xk xr ≡ end → ⊥
          never z = let n : ◌≡◌ {A = ℕ} 0 1 = cc in omega arith

      go : (b : Bool) → is_live k ≡ b → One l k
      go true live = live_one k hk hq sl (sl.class i) fk live
      go false dead = one_dead l k hk i e dead fk

  -- ---- all records

  record Claims (f : Trees) : Type 0 where
    here : Here f
    queue : Queue f
    body : Queue (elements_of f)
    class : Queue (elements_of (class_kids f))

  module _ (l : Label) (k r : Trees) (hk : Claims k) (hr : Claims r) where
    unkept : (q : Role) → role_of l ≡ q → keeps q ≡ false → keeps_one l ≡ false
    unfolding keeps_one
    unkept q e n = rw e n

    here_step : Here (node l k r)
    unfolding Here Formed keeps
    here_step x m f around s o = go (sort_of l)
      where
        go : Sort l → shows c x (visit around (node l k r) s).here ≡ mentions_by c x (node l k r)
        go (a_module i e) = own_step l k r (one_module l k hk.here i e m.0 m.1) hr.here (unkept module' e refl) x m f around s o
        go (a_statement i e) = own_step l k r (one_statement l k hk.here hk.class i e m.0 m.1) hr.here (unkept statement e refl) x m f around s o
        go (a_method i e) = own_step l k r (one_method l k hk.here e i m.0 m.1) hr.here (unkept method e refl) x m f around s o
        go (a_field d a b i e) = own_step l k r (one_field l d k hk.here e i a b m.0 m.1) hr.here (unkept (field d) e refl) x m f around s o
        go (kept_one e i n) = kept_step l k r hk.here hr.here e n x m f around s o

    quiet_element : (p : Label) → is 29 p ≡ true → may_hold p l.kind ≡ true → is_member l ≡ false → is_quiet l ≡ true
    unfolding is_quiet
    quiet_element p j h i = rw (held_not 26 p l (no_class_lem p j) h, held_not 29 p l (no_body p j) h, i)
      where
        no_class_lem : (p : Label) → is 29 p ≡ true → may_hold p 26 ≡ false
        no_class_lem p j = unfold may_hold lookup in rw (is_other 29 4 p j refl, is_other 29 20 p j refl)

        no_body : (p : Label) → is 29 p ≡ true → may_hold p 29 ≡ false
        no_body p j = unfold may_hold lookup in is_other 29 26 p j refl

    queue_step : Queue (node l k r)
    unfolding Queue Formed Each method_of field_of
    queue_step b p j h m around live bm s o = go (sort_of l)
      where
        go : Sort l → (shows c b (visit around (node l k r) s).here || any_f (is_ref c) (visit around (node l k r) s).calls) ≡ (mentions_by c b (node l k r) || (is_symbol c around.id && any_row is_decorated_member (node l k r)))
        go (a_module i e) = clash i (held_not 1 p l (unfold may_hold lookup in refl) h.0)
        go (a_statement i e) = clash i (held_not 4 p l (unfold may_hold lookup in not_list 29 p j refl refl refl refl) h.0)
        go (a_method i e) =
            queue_member l k r hr.queue i (λ around s live o. member_queued around l k s of_method _ _ (13 ∶ 0) _ (method_bare around l k s hk.here e i m.0 m.1 o) live (visit_method around l k s e).0 (visit_method around l k s e).1) b p j h m around live bm s o
        go (a_field d x y i e) =
            queue_member l k r hr.queue i (λ around s live o. member_queued around l k s of_field _ _ d _ (field_bare around l d k s hk.here e i (no_ref d x y) m.0 m.1 o) live (visit_field around l k s d e).0 (visit_field around l k s d e).1) b p j h m around live bm s o
        go (kept_one e i n) = queue_kept l k r hk.here hr.queue e i n (quiet_element p j h.0 i) b p j h m around live bm s o

    body_step : Queue (elements_of (node l k r))
    unfolding elements_of kids_of
    body_step = go (is 29 l)
      where
        go : (b : Bool) → Queue (cond b k (kids_of 29 r))
        go true = hk.queue
        go false = hr.body

  here_end : Here end
  unfolding Here
  here_end x m f around s o = rw visit_end (shows_end c x ∙ sym (mentions_end c x))

  queue_end : Queue end
  unfolding Queue any_row
  queue_end b p j h m around live bm s o = rw (visit_end around s, shows_end c b, end_any c, mentions_end c b, and-false (is_symbol c around.id))

  claims : (f : Trees) → Claims f
  claims end = record { here = here_end; queue = queue_end; body = unfold elements_of kids_of in queue_end; class = unfold elements_of kids_of class_kids in queue_end }
  claims (node l k r) = step (claims k) (claims r)
    where
      step : Claims k → Claims r → Claims (node l k r)
      step hk hr = record { here = here_step l k r hk hr; queue = queue_step l k r hk hr; body = body_step l k r hk hr; class = unfold class_kids in hk.body }

  -- ---- the theorem

  pub mentions_visited : (f : Trees) → Formed f → (around : Around) (s : State) → Older c s → any_f (is_ref c) (visit around f s).here ≡ mentions c f
  unfolding mentions Here
  mentions_visited f m around s o = sym (shows_whole c (visit around f s).here) ∙ (claims f).here whole m (fit_whole f) around s o
