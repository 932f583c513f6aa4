-- One law for each step of the walkers that count. Assumes nothing.
use Rattle.std.specs.Prelude.{◌≡◌, Bool, true, ◌&&◌, List, ℕ, ◌+◌, ◌*◌, ◌<◌, ◌≤◌, length, get_or, is_some}
use Rattle.std.proofs.Math.Path.{refl, ap}
use Rattle.std.proofs.Common.{sym, ◌∙◌, true≢false, arith}
use Rattle.std.proofs.Math.Bool.{false}
use Rattle.std.specs.declared.option.Option.{Option}
use Rattle.std.specs.declared.option.Option.TheVariants.{None as none, Some as some}
use Rattle.std.proofs.Math.Numerals.{add-one}
use Rattle.records.specs.Forest.{end, take_f, size}
use Rattle.words.specs.Table.{lookup}
use Rattle.words.specs.Word.{children, child_table}
use Rattle.records.specs.Label.{Label, Trees, arity}
use Rattle.records.specs.Ends.{blank}
use Rattle.records.specs.declared.Note.{Note}
use Rattle.records.specs.Place.{records_at, label_at, arity_at, kids_at, end_of, end_none, end_past, end_add, end_one, end_low, end_high}
use Rattle.rewriting.specs.Parts.{tree, elements_of, id_of, is_decorated, is_decorated_member, has_plain_key, is_live, class_kids}
use Rattle.rewriting.specs.Visit.{Result, class_symbol, visit, visit_one}
use Rattle.rewriting.specs.declared.Around.{Around}
use Rattle.rewriting.specs.declared.State.{State}
use Rattle.rewriting.proofs.Facts.{Within, counter}
use Rattle.walk_laws.specs.Rows.{visit_at, fresh, row_none, row_past, after_add, one_after, kids_visit, plain_here}
use Rattle.walk_laws.specs.After.{key_after, member_after, mentioned, class_after, after_expression, after_dead, after_live}
use Rattle.walk_laws.specs.Roles.{role_4, role_20, plain_26}
use Rattle.walk_laws.specs.Kinds.{is_element_kind, after_rest, element_after, class_one, class_inside, class_kind, class_row_one, class_kids_lem}
use Rattle.counter.specs.Contract.{Below, elements_from, Ready, Counts}
use Rattle.counter.specs.declared.Counted.{Counted}

-- ---- bounds: the counter grows by at most 2 a word

module _ {ws : List ℕ} {at k : ℕ} {a : Around} {s : State} {r : Counted} (c : Counts ws at k a s r) where
  pub grown : Within (2 * size (take_f k (records_at ws at))) s.next r.state.next
  grown =
      let w : Within (2 * size (take_f k (records_at ws at))) s.next (visit a (take_f k (records_at ws at)) s).after.next = counter (take_f k (records_at ws at)) a s in
      let v : (visit_at ws at k a s).after.next ≡ (visit a (take_f k (records_at ws at)) s).after.next = unfold visit_at in refl in
      let e : (visit_at ws at k a s).after.next ≡ r.state.next = ap (λ (t : State). t.next) c.state in
      record { low = omega (arith, w.low, v, e); high = omega (arith, w.high, v, e) }

  pub counts_low : s.next ≤ r.state.next
  counts_low = grown.low

  pub counts_high : r.state.next + 2 * at ≤ s.next + 2 * r.at
  counts_high =
      let p : r.at ≡ at + size (take_f k (records_at ws at)) = c.place ∙ (unfold end_of in refl) in
      omega (arith, grown.high, p)

  pub counts_on : at ≤ r.at
  counts_on = omega (arith, c.place, end_low ws at k)

  pub counts_within : at ≤ length ws → r.at ≤ length ws
  counts_within h = omega (arith, c.place, end_high ws at k)

-- ---- what a walker may ask further on

pub below_more : (n m : ℕ) (o : Option ℕ) → n ≤ m → Below n o → Below m o
unfolding Below
below_more n m none h b = tt
below_more n m (some c) h b = omega arith

module _ {ws : List ℕ} {notes : List Note} {at n : ℕ} (f : Ready ws notes at n) where
  pub ready_on : (q m : ℕ) → q ≤ length ws → n ≤ m → m + 2 * at ≤ n + 2 * q → Ready ws notes q m
  ready_on q m h l g = record {
    few = f.few;
    inside = h;
    whole = f.whole;
    planned = f.planned;
    ids = λ i e. below_more n m (id_of (kids_at ws i)) l (f.ids i e);
    room = omega (arith, f.room, f.inside);
  }

  pub ready_next : at < length ws → Ready ws notes (at + 1) n
  ready_next h = ready_on (at + 1) n (omega arith) (omega arith) (omega arith)

  -- behind some records that were counted
  pub ready_behind : {k : ℕ} {a : Around} {d : Option ℕ} {r : Counted} → Counts ws at k a (record { next = n; default = d }) r → Ready ws notes r.at r.state.next
  ready_behind {r = r} c = ready_on r.at r.state.next (counts_within c f.inside) (counts_low c) (counts_high c)

-- ---- rows

end_state : (around : Around) (s : State) → (visit around end s).after ≡ s
unfolding visit
end_state around s = refl

module _ (ws : List ℕ) (at : ℕ) (a : Around) (s : State) where
  pub count_none : Counts ws at 0 a s (record { at = at; state = s })
  count_none = record { place = sym (end_none ws at); state = ap (λ (r : Result). r.after) (row_none ws a at s) ∙ end_state a s }

  pub count_past : (k : ℕ) → length ws ≤ at → Counts ws at k a s (record { at = at; state = s })
  count_past k h = record { place = sym (end_past ws at k h); state = ap (λ (r : Result). r.after) (row_past ws a at k s h) ∙ end_state a s }

  pub count_add : (j k q : ℕ) (t : State) {r : Counted} → Counts ws at j a s (record { at = q; state = t }) → Counts ws q k a t r → Counts ws at (j + k) a s r
  count_add j k q t {r} x y = record {
    place = y.place ∙ ap (λ (p : ℕ). end_of ws p k) x.place ∙ sym (end_add ws at j k);
    state =
        after_add ws a at j k s
        ∙ ap (λ (u : State). (visit_at ws (end_of ws at j) k a u).after) x.state
        ∙ ap (λ (p : ℕ). (visit_at ws p k a t).after) (sym x.place)
        ∙ y.state;
  }

  -- one record, by the state behind it
  pub count_one : {r : Counted} → at < length ws → r.at ≡ end_of ws (at + 1) (arity_at ws at) → (visit_one a (label_at ws at) (kids_at ws at) s).after ≡ r.state → Counts ws at 1 a s r
  count_one {r} h p e = record { place = p ∙ sym (end_one ws at h); state = one_after ws a at s h ∙ e }

-- ---- records

pub dead_and : (x y : Bool) → x ≡ false → (x && y) ≡ false
dead_and x y e = rw e

pub and_none : (x y : Bool) → y ≡ false → (x && y) ≡ false
and_none true y e = e
and_none false y e = refl

pub both_true : (x y : Bool) → x ≡ true → y ≡ true → (x && y) ≡ true
both_true x y e g = rw (e, g)

module _ {ws : List ℕ} {notes : List Note} {at n : ℕ} (f : Ready ws notes at n) (h : at < length ws) (a : Around) (d : Option ℕ) where
  abbrev s : State
  s = record { next = n; default = d }

  pub kids_state : {r : Counted} → Counts ws (at + 1) (arity_at ws at) a s r → (visit a (kids_at ws at) s).after ≡ r.state
  kids_state c = sym (ap (λ (x : Result). x.after) (kids_visit ws a at s)) ∙ c.state

  -- a record that does nothing of its own
  pub count_other : {r : Counted} → ((label_at ws at).kind ≡ 4 → ⊥) → ((label_at ws at).kind ≡ 20 → ⊥) → ((label_at ws at).kind ≡ 30 → ⊥) → ((label_at ws at).kind ≡ 31 → ⊥) →
      ((label_at ws at).kind ≡ 32 → ⊥) → Counts ws (at + 1) (arity_at ws at) a s r → Counts ws at 1 a s r
  count_other a4 a20 a30 a31 a32 c =
      count_one ws at a s h c.place (after_rest (label_at ws at) a (kids_at ws at) s a4 a20 a30 a31 a32 ∙ kids_state c)

  -- ---- a method, constructor, property or accessor

  element_state : {r : Counted} → is_element_kind (label_at ws at).kind ≡ true → Counts ws (at + 1) (arity_at ws at) a s r →
      (visit_one a (label_at ws at) (kids_at ws at) s).after ≡ member_after (a.live && is_decorated_member (label_at ws at) (kids_at ws at)) (has_plain_key (kids_at ws at)) a.id r.state
  element_state e c =
      element_after ws f.whole at h a s e ∙ ap (member_after (a.live && is_decorated_member (label_at ws at) (kids_at ws at)) (has_plain_key (kids_at ws at)) a.id) (kids_state c)

  member_no : (b p : Bool) (id : Option ℕ) (s : State) → b ≡ false → member_after b p id s ≡ s
  unfolding member_after
  member_no b p id s e = rw e

  member_yes : (b p : Bool) (id : Option ℕ) (s : State) → b ≡ true → member_after b p id s ≡ key_after p (class_symbol id s.default s).after
  unfolding member_after
  member_yes b p id s e = rw e

  pub count_dropped : {r : Counted} → is_element_kind (label_at ws at).kind ≡ true → a.live ≡ false → Counts ws (at + 1) (arity_at ws at) a s r → Counts ws at 1 a s r
  count_dropped {r} e l c = count_one ws at a s h c.place (element_state e c ∙ member_no _ _ _ _ (dead_and a.live (is_decorated_member (label_at ws at) (kids_at ws at)) l))

  pub count_plain : {r : Counted} → is_element_kind (label_at ws at).kind ≡ true → is_decorated_member (label_at ws at) (kids_at ws at) ≡ false →
      Counts ws (at + 1) (arity_at ws at) a s r → Counts ws at 1 a s r
  count_plain {r} e m c = count_one ws at a s h c.place (element_state e c ∙ member_no _ _ _ _ (and_none a.live (is_decorated_member (label_at ws at) (kids_at ws at)) m))

  pub count_member : {r : Counted} (t : State) → is_element_kind (label_at ws at).kind ≡ true → a.live ≡ true → is_decorated_member (label_at ws at) (kids_at ws at) ≡ true →
      Counts ws (at + 1) (arity_at ws at) a s r → key_after (has_plain_key (kids_at ws at)) (class_symbol a.id r.state.default r.state).after ≡ t →
      Counts ws at 1 a s (record { at = r.at; state = t })
  count_member {r} t k l b c e =
      count_one ws at a s h c.place (element_state k c ∙ member_yes _ _ _ _ (both_true a.live (is_decorated_member (label_at ws at) (kids_at ws at)) l b) ∙ e)

  -- ---- class expressions and class statements

  none_fresh : fresh n ≡ record { next = n; default = none }
  unfolding fresh
  none_fresh = refl

  pub arity_20 : (l : Label) (f : Trees) → l.kind ≡ 20 → arity l f ≡ 1
  unfolding arity children child_table lookup
  arity_20 l f e = rw e

  -- the class below, from no default symbol on
  pub below_visit : (b : Around) → kids_at ws at ≡ take_f 1 (records_at ws (at + 1)) → visit b (kids_at ws at) (fresh n) ≡ visit_at ws (at + 1) 1 b (fresh n)
  below_visit b k = unfold visit_at in ap (λ (g : Trees). visit b g (fresh n)) k

  pub below_kids : (b : Around) {r : Counted} → Counts ws (at + 1) 1 b (fresh n) r → kids_at ws at ≡ take_f 1 (records_at ws (at + 1)) → (visit b (kids_at ws at) (fresh n)).after ≡ r.state
  below_kids b c k = ap (λ (r : Result). r.after) (below_visit b k) ∙ c.state

  pub kids_one : arity_at ws at ≡ 1 → kids_at ws at ≡ take_f 1 (records_at ws (at + 1))
  unfolding kids_at
  kids_one e = ap (λ (j : ℕ). take_f j (records_at ws (at + 1))) e

  -- the state behind a class: its counter, the default symbol of the class around
  abbrev pub outside : State → State
  outside t = record { next = t.next; default = d }

  pub count_expression : {r : Counted} → (label_at ws at).kind ≡ 20 → Counts ws (at + 1) 1 (record { live = false; id = none }) (fresh n) r →
      Counts ws at 1 a s (record { at = r.at; state = outside r.state })
  count_expression {r} k c =
      let one : arity_at ws at ≡ 1 = unfold arity_at in arity_20 (label_at ws at) (records_at ws (at + 1)) k in
      count_one ws at a s h (c.place ∙ ap (end_of ws (at + 1)) (sym one))
      (after_expression a (label_at ws at) (kids_at ws at) s (role_20 (label_at ws at) k) ∙ ap outside (below_kids (record { live = false; id = none }) c (kids_one one)))

  module _ (kind : (label_at ws at).kind ≡ 4) where
    pub live_kids : is_live (kids_at ws at) ≡ is_live (take_f 1 (records_at ws (at + 1)))
    live_kids = ap is_live (class_row_one ws f.whole at h kind)

    pub id_kids : id_of (class_kids (kids_at ws at)) ≡ id_of (kids_at ws (at + 1))
    id_kids = ap id_of (class_kids_lem ws f.whole at h kind)

    place_of : {r : Counted} (b : Around) → Counts ws (at + 1) 1 b (fresh n) r → r.at ≡ end_of ws (at + 1) (arity_at ws at)
    place_of b c = c.place ∙ ap (end_of ws (at + 1)) (sym (class_one ws f.whole at h kind))

    -- the class around its children, by its id
    scope_kids : (x : Bool) (b : Around) → b.live ≡ x → b.id ≡ id_of (kids_at ws (at + 1)) → record { live = x; id = id_of (class_kids (kids_at ws at)) } ≡ b
    scope_kids x b l i = rw (l, i, id_kids)

    -- a class that is declare
    pub count_declared : (b : Around) {r : Counted} → b.live ≡ false → b.id ≡ id_of (kids_at ws (at + 1)) → is_live (take_f 1 (records_at ws (at + 1))) ≡ false →
        Counts ws (at + 1) 1 b (fresh n) r → Counts ws at 1 a s (record { at = r.at; state = outside r.state })
    count_declared b {r} l i v c =
        count_one ws at a s h (place_of b c)
        (after_dead a (label_at ws at) (kids_at ws at) s (role_4 (label_at ws at) kind) (live_kids ∙ v)
        ∙ ap (λ (y : Around). outside (visit y (kids_at ws at) (fresh n)).after) (scope_kids false b l i)
        ∙ ap outside (below_kids b c (class_row_one ws f.whole at h kind)))

    -- the table says what rule 6's search finds
    pub found : is_decorated (kids_at ws (at + 1)) ≡ true → is_live (take_f 1 (records_at ws (at + 1))) ≡ true →
        (get_or notes at blank).marked ≡ mentioned (id_of (kids_at ws (at + 1))) (elements_from ws at n)
    found e v = f.planned.right at n h kind v e (f.ids (at + 1) (class_kind ws f.whole at h kind))

    search : (x : Bool) → x ≡ is_decorated (kids_at ws (at + 1)) → is_live (take_f 1 (records_at ws (at + 1))) ≡ true → (t : State) →
        class_after x (id_of (kids_at ws (at + 1))) (get_or notes at blank).marked t ≡ class_after x (id_of (kids_at ws (at + 1))) (mentioned (id_of (kids_at ws (at + 1))) (elements_from ws at n)) t
    search true e v t = ap (λ (y : Bool). class_after true (id_of (kids_at ws (at + 1))) y t) (found (sym e) v)
    search false e v t = unfold class_after in refl

    -- the class visited, and its elements
    class_here : (sc : Around) → (visit_at ws (at + 1) 1 sc (fresh n)).here ≡ tree (label_at ws (at + 1)) (visit sc (kids_at ws (at + 1)) (fresh n)).here
    class_here sc = plain_here ws sc (at + 1) (fresh n) (class_inside ws f.whole at h kind) (plain_26 (label_at ws (at + 1)) (class_kind ws f.whole at h kind))

    pub class_at : (sc : Around) → (visit sc (kids_at ws at) (fresh n)).here ≡ tree (label_at ws (at + 1)) (visit sc (kids_at ws (at + 1)) (fresh n)).here
    class_at sc = ap (λ (g : Trees). (visit sc g (fresh n)).here) (class_row_one ws f.whole at h kind) ∙ (unfold visit_at in class_here sc)

    pub elements_at : elements_of (visit (record { live = true; id = id_of (class_kids (kids_at ws at)) }) (kids_at ws (at + 1)) (fresh n)).here ≡ elements_from ws at n
    elements_at =
        let sc : Around = record { live = true; id = id_of (class_kids (kids_at ws at)) } in
        sym (unfold elements_from in
        ap (λ (o : Option ℕ). elements_of (class_kids (visit_at ws (at + 1) 1 (record { live = true; id = o }) (fresh n)).here)) (sym id_kids)
        ∙ ap (λ (g : Trees). elements_of (class_kids g)) (class_here sc) ∙ (unfold class_kids tree in refl))

    -- a live class: m is the counter once it has its symbols
    pub count_live : (b : Around) {r : Counted} (m : ℕ) → b.live ≡ true → b.id ≡ id_of (kids_at ws (at + 1)) → is_live (take_f 1 (records_at ws (at + 1))) ≡ true →
        Counts ws (at + 1) 1 b (fresh n) r → m ≡ class_after (is_decorated (kids_at ws (at + 1))) b.id (get_or notes at blank).marked r.state →
        Counts ws at 1 a s (record { at = r.at; state = record { next = m; default = d } })
    count_live b {r} m l i v c e =
        let ck : Trees = kids_at ws (at + 1) in
        let kk : Trees = kids_at ws at in
        let sc : Around = record { live = true; id = id_of (class_kids kk) } in
        count_one ws at a s h (place_of b c)
        (after_live a (label_at ws at) kk s (role_4 (label_at ws at) kind) (live_kids ∙ v) (label_at ws (at + 1)) (visit sc ck (fresh n)).here (class_at sc)
        ∙ ap (λ (j : ℕ). record { next = j; default = d })
        (ap (λ (y : Around). class_after (is_decorated (class_kids kk)) (id_of (class_kids kk)) (mentioned (id_of (class_kids kk)) (elements_of (visit sc ck (fresh n)).here)) (visit y kk (fresh n)).after) (scope_kids true b l i)
        ∙ ap (class_after (is_decorated (class_kids kk)) (id_of (class_kids kk)) (mentioned (id_of (class_kids kk)) (elements_of (visit sc ck (fresh n)).here))) (below_kids b c (class_row_one ws f.whole at h kind))
        ∙ ap (λ (g : Trees). class_after (is_decorated (class_kids kk)) (id_of (class_kids kk)) (mentioned (id_of (class_kids kk)) g) r.state) elements_at
        ∙ ap (λ (g : Trees). class_after (is_decorated g) (id_of g) (mentioned (id_of g) (elements_from ws at n)) r.state) (class_kids_lem ws f.whole at h kind)
        ∙ sym (search (is_decorated ck) refl v r.state) ∙ ap (λ (o : Option ℕ). class_after (is_decorated ck) o (get_or notes at blank).marked r.state) (sym i) ∙ sym e))

-- ---- the symbols of a class and of a key, case by case

module _ (i : Option ℕ) (s : State) where
  pub taken_id : is_some i ≡ true → s ≡ (class_symbol i s.default s).after
  unfolding class_symbol
  taken_id h = go i h
    where
      go : (o : Option ℕ) → is_some o ≡ true → s ≡ (class_symbol o s.default s).after
      go none e = absurd (true≢false (sym e))
      go (some c) e = refl

  pub taken_default : is_some s.default ≡ true → s ≡ (class_symbol i s.default s).after
  unfolding class_symbol
  taken_default h = go i s.default h
    where
      go : (o d : Option ℕ) → is_some d ≡ true → s ≡ (class_symbol o d s).after
      go (some c) d e = refl
      go none none e = absurd (true≢false (sym e))
      go none (some c) e = refl

  pub taken_fresh : is_some i ≡ false → is_some s.default ≡ false → record { next = s.next + 1; default = some s.next } ≡ (class_symbol i s.default s).after
  unfolding class_symbol
  taken_fresh g h = go i s.default g h
    where
      go : (o d : Option ℕ) → is_some o ≡ false → is_some d ≡ false → record { next = s.next + 1; default = some s.next } ≡ (class_symbol o d s).after
      go (some c) d e f = absurd (true≢false e)
      go none (some c) e f = absurd (true≢false f)
      go none none e f = rw (add-one s.next)

module _ (s : State) where
  pub key_plain : (b : Bool) → b ≡ true → s ≡ key_after b s
  unfolding key_after
  key_plain b e = rw e

  pub key_fresh_lem : (b : Bool) → b ≡ false → record { next = s.next + 1; default = s.default } ≡ key_after b s
  unfolding key_after
  key_fresh_lem b e = rw (e, add-one s.next)
