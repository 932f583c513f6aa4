-- Members: where a symbol that is no fresh one stands in a member as it stays, and in its call (rules 2, 3 and 5). Assumes nothing.
use Rattle.std.proofs.Math.Path.{◌≡◌, refl, ap, sym}
use Rattle.std.proofs.Common.{◌∙◌}
use Rattle.std.specs.Prelude.{Bool, ◌&&◌, ◌||◌, cond, ℕ, ◌<◌}
use Rattle.std.proofs.Math.Bool.{true, false, or-false}
use native.Mathlib.Omega.{arith}
use Rattle.std.proofs.Math.Dec.{eqb}
use Rattle.words.specs.Word.{bit0}
use Rattle.records.specs.Forest.{end, node, take_f, drop_f, append_f, count_f, any_f, any_f_append, take_drop, drop_f_add}
use Rattle.records.specs.Label.{Label, Trees, is, bit, repay, ◌∶◌}
use Rattle.rewriting.specs.Parts.{tree, change_kids, undecorate, bare_method, is_plain_key, first_is_plain, has_plain_key}
use Rattle.rewriting.specs.Visit.{Result, class_symbol, plain_name, name_if, name_of, prefix, array, member_call, with_key, called₁, called₂, member_if, is_ref, visit, visit_one, visit_end}
use Rattle.rewriting.specs.declared.Around.{Around}
use Rattle.rewriting.specs.declared.State.{State}
use Rattle.alias_search.specs.Mentions.{is_other, is_symbol}
use Rattle.alias_search.specs.Shown.{made_any, ref_9, tree_any}
use Rattle.alias_search.specs.Visited.{here_node}
use Rattle.alias_search.specs.Older.{Older, fresh_other, symbol_is, symbol_after}
use Rattle.alias_search.specs.Kept.{one_over}
use Rattle.alias_search.specs.Formed.{Each, keeps_one}

module _ (c : ℕ) where
  -- ---- rule 5: the key and the name

  key_any : (b : Bool) (f : Trees) (s : State) → c < s.next → any_f (is_ref c) (name_of b (take_f 1 f) s).key ≡ any_f (is_ref c) (take_f 1 f)
  unfolding name_of name_if take_f
  key_any b end s h = refl
  key_any true (node l k r) s h = unfold tree in refl
  key_any false (node l k r) s h = unfold tree any_f is_ref is ◌∶◌ in rw (fresh_other c s.next h, or-false)

  with_key_any : (key g : Trees) → any_f (is_ref c) key ≡ any_f (is_ref c) (take_f 1 (drop_f 1 g)) → any_f (is_ref c) (with_key key g) ≡ any_f (is_ref c) g
  unfolding with_key
  with_key_any key g e =
      let split : g ≡ append_f (take_f 1 g) (append_f (take_f 1 (drop_f 1 g)) (drop_f 2 g)) =
      sym (take_drop 1 g) ∙ ap (append_f (take_f 1 g)) (sym (take_drop 1 (drop_f 1 g)) ∙ ap (append_f (take_f 1 (drop_f 1 g))) (sym (drop_f_add 1 1 g))) in
      any_f_append (is_ref c) (take_f 1 g) (append_f key (drop_f 2 g))
      ∙ ap (any_f (is_ref c) (take_f 1 g) ||◌) (any_f_append (is_ref c) key (drop_f 2 g) ∙ rw e (sym (any_f_append (is_ref c) (take_f 1 (drop_f 1 g)) (drop_f 2 g))))
      ∙ sym (any_f_append (is_ref c) (take_f 1 g) (append_f (take_f 1 (drop_f 1 g)) (drop_f 2 g)))
      ∙ ap (any_f (is_ref c)) (sym split)

  not_plain : (k : ℕ) (l : Label) → is k l ≡ true → eqb k 34 ≡ false → eqb k 35 ≡ false → eqb k 10 ≡ false → eqb k 11 ≡ false → eqb k 12 ≡ false → eqb k 13 ≡ false → is_plain_key l ≡ true → ⊥
  unfolding is_plain_key
  not_plain k l h a b d e f g p =
      let z : (is 34 l || is 35 l || is 10 l || is 11 l || is 12 l || is 13 l) ≡ false =
      rw (is_other k 34 l h a, is_other k 35 l h b, is_other k 10 l h d, is_other k 11 l h e, is_other k 12 l h f, is_other k 13 l h g) in
      let o : ◌≡◌ {A = ℕ} 0 1 = cc in omega arith

  plain_ref : (l : Label) → is_plain_key l ≡ true → is_ref c l ≡ false
  unfolding is_ref
  plain_ref l p = go (is 9 l) refl (is 18 l) refl
    where
      go : (x : Bool) → is 9 l ≡ x → (y : Bool) → is 18 l ≡ y → ((x || y) && eqb l.payload c) ≡ false
      go true h y i = absurd (not_plain 9 l h refl refl refl refl refl refl p)
      go false h true i = absurd (not_plain 18 l i refl refl refl refl refl refl p)
      go false h false i = refl

  plain_name_lem : (l : Label) → is_plain_key l ≡ true → is_ref c (plain_name l) ≡ false
  unfolding plain_name
  plain_name_lem l p = go (is 34 l) (is 35 l)
    where
      same : is_ref c (l.kind ∶ l.payload) ≡ is_ref c l
      same = unfold is_ref is ◌∶◌ in refl

      go : (a b : Bool) → is_ref c (cond a (10 ∶ l.payload) (cond b (10 ∶ 0) (l.kind ∶ l.payload))) ≡ false
      go true b = unfold is_ref is ◌∶◌ in refl
      go false true = unfold is_ref is ◌∶◌ in refl
      go false false = same ∙ plain_ref l p

  name_any : (b : Bool) (f : Trees) (s : State) → c < s.next → (b ≡ true → first_is_plain f ≡ true) → any_f (is_ref c) (name_of b (take_f 1 f) s).name ≡ false
  unfolding name_of name_if take_f first_is_plain tree any_f
  name_any b end s h p = refl
  name_any true (node l k r) s h p = rw (plain_name_lem l (p refl))
  name_any false (node l k r) s h p = unfold is_ref is ◌∶◌ in rw (fresh_other c s.next h)

  -- ---- rule 3: the call

  nine : (i : ℕ) → any_f (is_ref c) (tree (9 ∶ i) end) ≡ eqb i c
  unfolding any_f
  nine i = tree_any c (9 ∶ i) end ∙ rw (ref_9 c i, or-false)

  prefix_any : (i : ℕ) (b : Bool) → any_f (is_ref c) (prefix i b) ≡ eqb i c
  unfolding prefix
  prefix_any i true = nine i
  prefix_any i false = made_any c 24 0 (tree (9 ∶ i) end) refl refl ∙ nine i

  call_any : (entries pre name : Trees) (d : Label) → is_ref c d ≡ false → any_f (is_ref c) name ≡ false →
      any_f (is_ref c) (member_call entries pre name d) ≡ (any_f (is_ref c) entries || any_f (is_ref c) pre)
  unfolding member_call array
  call_any entries pre name d e g =
      made_any c 2 0 _ refl refl ∙ made_any c 22 4 _ refl refl
      ∙ rw (any_f_append (is_ref c) (tree (16 ∶ count_f entries) entries), made_any c 16 (count_f entries) entries refl refl, any_f_append (is_ref c) pre, any_f_append (is_ref c) name, g, tree_any c d end, e)
      (unfold any_f in ap (any_f (is_ref c) entries ||◌) (or-false (any_f (is_ref c) pre)))

  -- ---- rule 2: the member as it stays, and what it queues

  pub here_any : (b : Bool) (around : Around) (l : Label) (k bare entries : Trees) (d : Label) (a : Result) → Older c a.after →
      any_f (is_ref c) (member_if b around l k bare entries d a).here ≡ (is_ref c l || any_f (is_ref c) bare)
  unfolding member_if called₁ called₂
  here_any true around l k bare entries d a o =
      let t = class_symbol around.id a.after.default a.after in
      let n = name_of (has_plain_key k) (take_f 1 (drop_f 1 bare)) t.after in
      tree_any c l (with_key n.key bare)
      ∙ ap (is_ref c l ||◌) (with_key_any n.key bare (key_any (has_plain_key k) (drop_f 1 bare) t.after (symbol_after c around.id a.after.default a.after o).low))
  here_any false around l k bare entries d a o = tree_any c l bare

  pub calls_any : (around : Around) (l : Label) (k bare entries : Trees) (d : Label) (a : Result) → Older c a.after → is_ref c d ≡ false → a.calls ≡ end →
      (has_plain_key k ≡ true → has_plain_key bare ≡ true) →
      any_f (is_ref c) (member_if true around l k bare entries d a).calls ≡ (any_f (is_ref c) entries || is_symbol c around.id)
  unfolding member_if called₁ called₂ append_f has_plain_key
  calls_any around l k bare entries d a o e q p =
      let t = class_symbol around.id a.after.default a.after in
      let low : c < t.after.next = (symbol_after c around.id a.after.default a.after o).low in
      let n = name_of (has_plain_key k) (take_f 1 (drop_f 1 bare)) t.after in
      rw q
      (call_any entries (prefix t.symbol (bit bit0 l)) n.name d e (name_any (has_plain_key k) (drop_f 1 bare) t.after low p)
      ∙ ap (any_f (is_ref c) entries ||◌) (prefix_any t.symbol (bit bit0 l) ∙ symbol_is c around.id a.after.default a.after o.low o.other))

-- ---- a key is plain where it was read plain

pub plain_undecorated : (g : Trees) → has_plain_key (undecorate g) ≡ has_plain_key g
unfolding has_plain_key undecorate drop_f
plain_undecorated end = refl
plain_undecorated (node l k r) = go (is 28 l)
  where
    go : (b : Bool) → first_is_plain (drop_f 1 (cond b (node (repay l 0) end r) (node l k r))) ≡ first_is_plain r
    go true = refl
    go false = refl

first_changed : (n : ℕ) (h : Trees → Trees) (g : Trees) → first_is_plain (change_kids n h g) ≡ first_is_plain g
unfolding first_is_plain change_kids
first_changed n h end = refl
first_changed n h (node l k r) = go (is n l)
  where
    go : (b : Bool) → first_is_plain (cond b (node l (h k) r) (node l k (change_kids n h r))) ≡ is_plain_key l
    go true = refl
    go false = refl

plain_changed : (n : ℕ) (h : Trees → Trees) (g : Trees) → has_plain_key (change_kids n h g) ≡ has_plain_key g
unfolding has_plain_key change_kids drop_f
plain_changed n h end = refl
plain_changed n h (node l k r) = go (is n l)
  where
    go : (b : Bool) → first_is_plain (drop_f 1 (cond b (node l (h k) r) (node l k (change_kids n h r)))) ≡ first_is_plain r
    go true = refl
    go false = first_changed n h r

pub plain_bare : (g : Trees) → has_plain_key (bare_method g) ≡ has_plain_key g
unfolding bare_method
plain_bare g = plain_undecorated (change_kids 36 _ g) ∙ plain_changed 36 _ g

first_visited : (around : Around) (f : Trees) (s : State) → Each keeps_one f → first_is_plain (visit around f s).here ≡ first_is_plain f
unfolding Each keeps_one
first_visited around end s e = rw visit_end
first_visited around (node l k r) s e =
    let o = one_over 0 around l k s e.0 in
    ap first_is_plain (here_node around l k r s ∙ ap (λ (f : Trees). append_f f (visit around r (visit_one around l k s).after).here) o.shape)
    ∙ (unfold append_f first_is_plain is_plain_key in rw (o.alike.kinds 34, o.alike.kinds 35, o.alike.kinds 10, o.alike.kinds 11, o.alike.kinds 12, o.alike.kinds 13))

pub plain_visited : (around : Around) (f : Trees) (s : State) → Each keeps_one f → has_plain_key (visit around f s).here ≡ has_plain_key f
unfolding Each keeps_one has_plain_key
plain_visited around end s e = rw visit_end
plain_visited around (node l k r) s e =
    let o = one_over 0 around l k s e.0 in
    ap (λ (f : Trees). first_is_plain (drop_f 1 f)) (here_node around l k r s ∙ ap (λ (f : Trees). append_f f (visit around r (visit_one around l k s).after).here) o.shape)
    ∙ (unfold append_f drop_f in first_visited around r (visit_one around l k s).after e.1)
