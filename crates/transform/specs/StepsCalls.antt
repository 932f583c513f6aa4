-- Laws for the steps of the walkers that write calls and the entries of their arrays (rules 3 to 5). Assumes nothing.
use Rattle.std.specs.Prelude.{◌≡◌, Bool, true, false, ◌&&◌, List, [], ◌∷◌, ◌++◌}
use Rattle.records.specs.declared.Note.{Note}
use Rattle.std.proofs.Math.Path.{refl, ap, sym}
use Rattle.std.proofs.Common.{subst, ◌∙◌, true≢false, zero-add, arith}
use Rattle.std.specs.Option.{IsSomeAnd, option_or}
use Rattle.std.proofs.lemmas.Option.{none-some}
use Rattle.std.specs.declared.option.Option.{Option}
use Rattle.std.specs.declared.option.Option.TheVariants.{None as none, Some as some}
use Prim.Native.Nat.{ℕ, suc, ◌+◌, ◌-◌, ◌<◌, ◌≤◌, max}
use Rattle.std.proofs.Math.ListN.{length, length-append}
use borrow.Author.Tests.{ne_eqb}
use Rattle.records.specs.Forest.{end, node, append_f, count_f, size, append_f_assoc, count_f_append, size_append, count_size}
use Rattle.records.specs.Label.{Label, Trees, is}
use Rattle.records.specs.Place.{records_at, label_at, arity_at, kids_at, end_of, end_none, end_add, end_high}
use Rattle.output.specs.Overlay.{Wrote, wrote_none, wrote_then, wrote_front, length_overlay}
use Rattle.grammar.specs.Grammar.{module', element, expression}
use Rattle.grammar.specs.WellFormed.{Allowed, Fits}
use Rattle.rewriting.specs.Parts.{tree, decorators, indexed, of_parameters, is_member, is_decorated_member, has_plain_key, id_of}
use Rattle.rewriting.specs.Visit.{class_symbol, visit, visit_one}
use Rattle.rewriting.specs.declared.State.{State}
use Rattle.rewriting.specs.declared.Around.{Around}
use Rattle.class_stack.specs.declared.ClassStack.{ClassStack}
use Rattle.walk_laws.specs.Rows.{visit_at, here_add, calls_add, plain_here}
use Rattle.walk_laws.specs.Written.{written}
use Rattle.walk_laws.specs.Single.{Stays, expression_stays}
use Rattle.walk_laws.specs.Roles.{Sort, is_method, is_property, is_accessor, member_sort, is_kind, kind_is, plain_37, decorated_member}
use Rattle.walk_laws.specs.After.{key_after, member_after}
use Rattle.walk_laws.specs.Kinds.{is_element_kind, kids_count, element_after, class_kind}
use Rattle.walk_laws.specs.Elements.{Marked, Called, key_at, parameters_at, decorators_nth, parameters_nth, parameter_marked, method_called, member_keyed}
use Rattle.walk_laws.specs.Calls.{argument_words, call_words, entries, indexed_append, indexed_count, indexed_written, of_parameter, entries_field, entries_method, call_none, call_one, call_count}
use Rattle.walk_laws.specs.ClassPlan.{rk}
use Rattle.counter.specs.Contract.{Below, Ready, Counts}
use Rattle.counter.specs.Steps.{below_more}
use Rattle.counter.specs.declared.Counted.{Counted}
use Rattle.transform.specs.Nest.{nest_at, nest_add}
use Rattle.transform.specs.Contract.{word_below, words_of, here_at, calls_at, after_at, kids_here, Asks, Moved, Emitted, Queues}
use Rattle.transform.specs.Steps.{length_words, words_append, asks_place, asks_kids, here_none, calls_none, after_none, here_more, calls_more, after_more, end_more', calls_one, after_one, here_kids, state_low, counts_after, none_words, none_count}
use Rattle.transform.specs.Leaves.{wrote_as}
use Rattle.transform.specs.Plans.{counts_default}
use Rattle.transform.specs.declared.Walk.{Walk}

-- ---- slices

pub wrote_length : {o : List ℕ} {at : ℕ} {ws o' : List ℕ} {n : ℕ} → Wrote o at ws o' n → length o' ≡ length o
wrote_length {o} {at} {ws} w = ap length w.list ∙ length_overlay o at ws

-- ---- what a walker may ask further on

module _ {ws : List ℕ} {notes : List Note} {at k n : ℕ} {c : ClassStack} {pos len : ℕ} (f : Asks ws notes at k n c pos len) where
  -- of the first record
  asks_first : 1 ≤ k → Asks ws notes at 1 n c pos len
  asks_first h = record {
    ready = f.ready;
    noted = f.noted;
    deep =
        let e : 1 + (k - 1) ≡ k = omega arith in
        let x : nest_at ws at k ≡ max (nest_at ws at 1) (nest_at ws (end_of ws at 1) (k - 1)) = ap (nest_at ws at) (sym e) ∙ nest_add ws at 1 (k - 1) in
        omega (arith, f.deep, x);
    fit = f.fit;
  }

  -- of the record behind the first j
  pub asks_step : (a : Around) (s : State) (j q : ℕ) (s₁ : State) (p l : ℕ) → s.next ≡ n → j < k → q ≡ end_of ws at j → after_at ws at j a s ≡ s₁ → p + l < 67108864 → Asks ws notes q 1 s₁.next c p l
  asks_step a s j q s₁ p l z h x t g = asks_place f a s j 1 q s₁ p l z (omega arith) x t g

-- of the decorators of a record
pub asks_marked : {ws : List ℕ} {notes : List Note} {at n : ℕ} {c : ClassStack} {pos len : ℕ} → Asks ws notes at 1 n c pos len →
    (q l : ℕ) → at < length ws → Marked ws at → q + l < 67108864 → Asks ws notes (at + 2) (arity_at ws (at + 1)) n c q l
asks_marked {ws} {notes} {at} {n} {c} f q l h m g =
    let two : at + 1 + 1 ≡ at + 2 = omega arith in
    let x : Asks ws notes (at + 1) 1 n c q l = asks_first (asks_kids f q l refl h g) (omega (arith, m.count)) in
    subst (λ (p : ℕ). Asks ws notes p (arity_at ws (at + 1)) n c q l) two (asks_kids x q l refl m.place g)

-- ---- symbols are below the counter

pub below_state : (ws : List ℕ) (at k : ℕ) (a : Around) (s s₁ : State) → after_at ws at k a s ≡ s₁ → Below s.next s.default → Below s₁.next s₁.default
below_state ws at k a s s₁ t b =
    let d : Counts ws at k a s (record { at = end_of ws at k; state = s₁ }) = record { place = refl; state = unfold after_at in t } in
    counts_default d b

-- the id of a class statement's class
pub below_id : {ws : List ℕ} {notes : List Note} {at n : ℕ} → Ready ws notes at n → at < length ws → (label_at ws at).kind ≡ 4 → (i : Option ℕ) (m : ℕ) → i ≡ id_of (rk ws at) → n ≤ m → Below m i
below_id {ws} {at = at} {n = n} f h kind i m e l =
    let b : Below n (id_of (rk ws at)) = unfold rk in f.ids (at + 1) (class_kind ws f.whole at h kind) in
    below_more n m i l (subst (Below n) (sym e) b)

-- ---- rows: the first record, and the k behind it

module _ (ws : List ℕ) (at : ℕ) (a : Around) (s : State) (k : ℕ) where
  here_rest : here_at ws at (1 + k) a s ≡ append_f (here_at ws at 1 a s) (visit_at ws (end_of ws at 1) k a (after_at ws at 1 a s)).here
  unfolding here_at after_at
  here_rest = here_add ws a at 1 k s

  calls_rest : calls_at ws at (1 + k) a s ≡ append_f (calls_at ws at 1 a s) (visit_at ws (end_of ws at 1) k a (after_at ws at 1 a s)).calls
  unfolding calls_at after_at
  calls_rest = calls_add ws a at 1 k s

-- ---- rows of records of which something is written, each becoming one

-- g: what is written of what stands there
pub record Gives (g : Trees → Trees) (ws : List ℕ) (at k : ℕ) (a : Around) (s : State) (c : ClassStack) (o : List ℕ) (pos m : ℕ) (o' : List ℕ) (r : Walk) : Type 0 where
  pub moved : Moved (words_of c (g (here_at ws at k a s))) (end_of ws at k) (after_at ws at k a s) o pos o' r
  pub number : r.count ≡ m + count_f (g (here_at ws at k a s))
  pub each : count_f (here_at ws at k a s) ≡ k

-- g i: of the records from the i-th on
module _ (g : ℕ → Trees → Trees) (none : (i : ℕ) → g i end ≡ end) (more : (i : ℕ) (f h : Trees) → g i (append_f f h) ≡ append_f (g i f) (g (i + count_f f) h))
    (ws : List ℕ) (at : ℕ) (a : Around) (s : State) (c : ClassStack) where
  pub give_none : (o : List ℕ) (pos m : ℕ) → Gives (g 0) ws at 0 a s c o pos m o (record { at = at; pos = pos; state = s; count = m })
  give_none o pos m =
      let e : g 0 (here_at ws at 0 a s) ≡ end = ap (g 0) (here_none ws at a s) ∙ none 0 in
      record {
        moved = record { wrote = wrote_as (sym (none_words ws at a s c _ e)) (wrote_none o pos); place = sym (end_none ws at); state = after_none ws at a s };
        number = omega (arith, none_count ws at a s c _ e);
        each = none_count ws at a s c _ (here_none ws at a s);
      }

  module _ (j : ℕ) {o : List ℕ} {pos m : ℕ} {o₁ : List ℕ} {v : Walk} (x : Gives (g 0) ws at j a s c o pos m o₁ v) where
    given_more : (k : ℕ) → g 0 (here_at ws at (j + k) a s) ≡ append_f (g 0 (here_at ws at j a s)) (g j (here_at ws v.at k a v.state))
    given_more k =
        ap (g 0) (here_more ws at a s j k v.at v.state x.moved.place x.moved.state)
        ∙ more 0 (here_at ws at j a s) (here_at ws v.at k a v.state)
        ∙ ap (λ (i : ℕ). append_f (g 0 (here_at ws at j a s)) (g i (here_at ws v.at k a v.state))) (zero-add (count_f (here_at ws at j a s)) ∙ x.each)

    pub give_add : {o₂ : List ℕ} {r : Walk} → Gives (g j) ws v.at 1 a v.state c o₁ v.pos v.count o₂ r → Gives (g 0) ws at (j + 1) a s c o pos m o₂ r
    give_add y =
        let f : Trees = here_at ws at j a s in
        let f₁ : Trees = here_at ws v.at 1 a v.state in
        record {
          moved = record {
            wrote = wrote_as (sym (ap (words_of c) (given_more 1) ∙ words_append c (g 0 f) (g j f₁))) (wrote_then x.moved.wrote y.moved.wrote);
            place = y.moved.place ∙ sym (end_more' ws at a s j 1 v.at v.state x.moved.place x.moved.state);
            state = after_more ws at a s j 1 v.at v.state x.moved.place x.moved.state ∙ y.moved.state;
          };
          number = omega (arith, x.number, y.number, ap count_f (given_more 1), count_f_append (g 0 f) (g j f₁));
          each = omega (arith, x.each, y.each, ap count_f (here_more ws at a s j 1 v.at v.state x.moved.place x.moved.state), count_f_append f f₁);
        }

    -- the next record's words have room where the row's have
    pub give_fit : (k : ℕ) → j < k → v.pos + size (g j (here_at ws v.at 1 a v.state)) ≤ pos + size (g 0 (here_at ws at k a s))
    give_fit k h =
        let y : ℕ = k - j - 1 in
        let sum : j + (1 + y) ≡ k = omega arith in
        let f : Trees = here_at ws at j a s in
        let f₁ : Trees = here_at ws v.at 1 a v.state in
        let f₂ : Trees = (visit_at ws (end_of ws v.at 1) y a (after_at ws v.at 1 a v.state)).here in
        let row : g 0 (here_at ws at k a s) ≡ append_f (g 0 f) (g j (here_at ws v.at (1 + y) a v.state)) = ap (λ (n : ℕ). g 0 (here_at ws at n a s)) (sym sum) ∙ given_more (1 + y) in
        let rest : g j (here_at ws v.at (1 + y) a v.state) ≡ append_f (g j f₁) (g (j + count_f f₁) f₂) = ap (g j) (here_rest ws v.at a v.state y) ∙ more j f₁ f₂ in
        omega (
          arith,
          x.moved.wrote.end,
          length_words c (g 0 f),
          ap size row,
          size_append (g 0 f) (g j (here_at ws v.at (1 + y) a v.state)),
          ap size rest,
          size_append (g j f₁) (g (j + count_f f₁) f₂),
        )

    -- no more records were written than words
    pub give_few : m ≤ pos → v.count ≤ v.pos
    give_few h = omega (arith, x.number, x.moved.wrote.end, length_words c (g 0 (here_at ws at j a s)), count_size (g 0 (here_at ws at j a s)))

-- ---- decorators of parameters, indexed

pub indexed_none : (i : ℕ) → indexed i end ≡ end
unfolding indexed
indexed_none i = refl

pub parameters_none : (i : ℕ) → of_parameters i end ≡ end
unfolding of_parameters
parameters_none i = refl

pub parameters_append : (i : ℕ) (f g : Trees) → of_parameters i (append_f f g) ≡ append_f (of_parameters i f) (of_parameters (i + count_f f) g)
unfolding of_parameters append_f count_f
parameters_append i end g = let z : i ≡ i + 0 = omega arith in ap (λ (n : ℕ). of_parameters n g) z
parameters_append i (node l k r) g =
    let n : suc i + count_f r ≡ i + suc (count_f r) = omega arith in
    let d : Trees = indexed i (decorators k) in
    ap (append_f d) (parameters_append (suc i) r g ∙ ap (λ (m : ℕ). append_f (of_parameters (suc i) r) (of_parameters m g)) n)
    ∙ sym (append_f_assoc d (of_parameters (suc i) r) (of_parameters (i + suc (count_f r)) g))

one_tree : (l : Label) (f k : Trees) → f ≡ tree l k → count_f f ≡ 1
one_tree l f k e = ap count_f e ∙ (unfold tree count_f in refl)

module _ (ws : List ℕ) (whole : Fits (module' ∷ []) (records_at ws 0)) (c : ClassStack) where
  -- the j-th decorator of the record at `at`, at q
  module _ (at j q : ℕ) (m : Marked ws at) (h : j < arity_at ws (at + 1)) (p : q ≡ end_of ws (at + 2) j) where
    nth_place : q ≡ end_of ws (at + 1 + 1) j
    nth_place = let two : at + 2 ≡ at + 1 + 1 = omega arith in p ∙ ap (λ (n : ℕ). end_of ws n j) two

    nth : (q < length ws) × Allowed expression (label_at ws q)
    nth = subst (λ (n : ℕ). (n < length ws) × Allowed expression (label_at ws n)) (sym nth_place) (decorators_nth ws (at + 1) whole m.place j m.kind h)

    pub decorator_place : q < length ws
    decorator_place = nth.0

    module _ (i : ℕ) (a : Around) (s : State) where
      decorator_words : words_of c (indexed i (here_at ws q 1 a s)) ≡ word_below c 23 i ∷ words_of c (here_at ws q 1 a s)
      unfolding words_of here_at
      decorator_words = indexed_written (word_below c) ws a whole q decorator_place s i (at + 1) j m.kind m.place h nth_place

      pub decorator_size : size (indexed i (here_at ws q 1 a s)) ≡ suc (size (here_at ws q 1 a s))
      decorator_size =
          let n : length (word_below c 23 i ∷ words_of c (here_at ws q 1 a s)) ≡ suc (length (words_of c (here_at ws q 1 a s))) = refl in
          omega (arith, n, ap length decorator_words, length_words c (indexed i (here_at ws q 1 a s)), length_words c (here_at ws q 1 a s))

      decorator_one : count_f (here_at ws q 1 a s) ≡ 1
      unfolding here_at
      decorator_one =
          let o : Stays (label_at ws q) (visit_at ws q 1 a s).here = expression_stays ws q expression a s nth.0 refl nth.1 in
          one_tree (label_at ws q) _ o.below o.whole

      pub give_decorator : {o : List ℕ} {pos m : ℕ} {o₁ : List ℕ} {p₁ : ℕ} {o₂ : List ℕ} {r : Walk} → Wrote o pos (word_below c 23 i ∷ []) o₁ p₁ → Emitted ws q 1 a s c o₁ p₁ m o₂ r →
          Gives (indexed i) ws q 1 a s c o pos m o₂ r
      give_decorator w y = record {
        moved = record { wrote = wrote_as (sym decorator_words) (wrote_then w y.moved.wrote); place = y.moved.place; state = y.moved.state };
        number = omega (arith, y.number, indexed_count i (here_at ws q 1 a s));
        each = decorator_one;
      }

  -- the parameter at q
  module _ (q : ℕ) (h : q < length ws) (e : (label_at ws q).kind ≡ 37) (i : ℕ) (a : Around) (s : State) where
    pub parameter_given : of_parameters i (here_at ws q 1 a s) ≡ indexed i (here_at ws (q + 2) (arity_at ws (q + 1)) a s)
    unfolding here_at
    parameter_given = of_parameter (word_below c) ws a whole q h s i e

    parameter_one : count_f (here_at ws q 1 a s) ≡ 1
    unfolding here_at
    parameter_one = one_tree (label_at ws q) _ _ (plain_here ws a q s h (plain_37 (label_at ws q) e))

    pub give_parameter : {o : List ℕ} {pos m : ℕ} {o₁ : List ℕ} {r : Walk} →
        Moved (words_of c (indexed i (here_at ws (q + 2) (arity_at ws (q + 1)) a s))) (end_of ws q 1) (after_at ws q 1 a s) o pos o₁ r →
        r.count ≡ m + count_f (indexed i (here_at ws (q + 2) (arity_at ws (q + 1)) a s)) → Gives (of_parameters i) ws q 1 a s c o pos m o₁ r
    give_parameter {m = m} y n = record {
      moved = record { wrote = wrote_as (ap (words_of c) (sym parameter_given)) y.wrote; place = y.place; state = y.state };
      number = n ∙ ap (λ (f : Trees). m + count_f f) (sym parameter_given);
      each = parameter_one;
    }

-- ---- rows of elements that queue calls

module _ (ws : List ℕ) (at : ℕ) (a : Around) (s : State) (c : ClassStack) where
  pub queue_none : (o : List ℕ) (pos m : ℕ) → Queues ws at 0 a s c o pos m o (record { at = at; pos = pos; state = s; count = m })
  queue_none o pos m = record {
    moved = record { wrote = wrote_as (sym (none_words ws at a s c _ (calls_none ws at a s))) (wrote_none o pos); place = sym (end_none ws at); state = after_none ws at a s };
    number = omega (arith, none_count ws at a s c _ (calls_none ws at a s));
  }

  -- j elements, then k others
  module _ (j : ℕ) {o : List ℕ} {pos m : ℕ} {o₁ : List ℕ} {v : Walk} (x : Queues ws at j a s c o pos m o₁ v) where
    pub queue_add : (k : ℕ) {o₂ : List ℕ} {r : Walk} → Queues ws v.at k a v.state c o₁ v.pos v.count o₂ r → Queues ws at (j + k) a s c o pos m o₂ r
    queue_add k y =
        let f : Trees = calls_at ws at j a s in
        let f₁ : Trees = calls_at ws v.at k a v.state in
        let h : calls_at ws at (j + k) a s ≡ append_f f f₁ = calls_more ws at a s j k v.at v.state x.moved.place x.moved.state in
        record {
          moved = record {
            wrote = wrote_as (sym (ap (words_of c) h ∙ words_append c f f₁)) (wrote_then x.moved.wrote y.moved.wrote);
            place = y.moved.place ∙ sym (end_more' ws at a s j k v.at v.state x.moved.place x.moved.state);
            state = after_more ws at a s j k v.at v.state x.moved.place x.moved.state ∙ y.moved.state;
          };
          number = omega (arith, x.number, y.number, ap count_f h, count_f_append f f₁);
        }

    -- the next element's call has room where the row's have
    pub queue_fit : (k : ℕ) → j < k → v.pos + size (calls_at ws v.at 1 a v.state) ≤ pos + size (calls_at ws at k a s)
    queue_fit k h =
        let y : ℕ = k - j - 1 in
        let sum : j + (1 + y) ≡ k = omega arith in
        let f : Trees = calls_at ws at j a s in
        let f₁ : Trees = calls_at ws v.at 1 a v.state in
        let f₂ : Trees = (visit_at ws (end_of ws v.at 1) y a (after_at ws v.at 1 a v.state)).calls in
        let row : calls_at ws at k a s ≡ append_f f (calls_at ws v.at (1 + y) a v.state) =
        ap (λ (n : ℕ). calls_at ws at n a s) (sym sum) ∙ calls_more ws at a s j (1 + y) v.at v.state x.moved.place x.moved.state in
        omega (arith, x.moved.wrote.end, length_words c f, ap size row, size_append f (calls_at ws v.at (1 + y) a v.state), ap size (calls_rest ws v.at a v.state y), size_append f₁ f₂)

    -- no more calls were written than words
    pub queue_few : m ≤ pos → v.count ≤ v.pos
    queue_few h = omega (arith, x.number, x.moved.wrote.end, length_words c (calls_at ws at j a s), count_size (calls_at ws at j a s))

-- ---- a member and its call

-- the kind of a decorated member
pub decorated_kind : (l : Label) (k : Trees) → is_decorated_member l k ≡ true → is_element_kind l.kind ≡ true
decorated_kind l k d = go (member_sort l (decorated_member l k d))
  where
    of_kind_lem : (n : ℕ) → l.kind ≡ n → is_element_kind n ≡ true → is_element_kind l.kind ≡ true
    of_kind_lem n e t = ap is_element_kind e ∙ t

    go : Sort l → is_element_kind l.kind ≡ true
    go (is_method e r) = of_kind_lem 30 e (unfold is_element_kind in refl)
    go (is_property e r) = of_kind_lem 31 e (unfold is_element_kind in refl)
    go (is_accessor e r) = of_kind_lem 32 e (unfold is_element_kind in refl)

-- the state once a decorated member has its symbols
key_next : (b : Bool) (s : State) → b ≡ false → 1 ≤ (key_after b s).next
unfolding key_after
key_next true s e = absurd (true≢false e)
key_next false s e = omega arith

key_default : (b : Bool) (s : State) → (key_after b s).default ≡ s.default
unfolding key_after
key_default true s = refl
key_default false s = refl

-- rule 4: a class without id has its default symbol then
taken_none : (d : Option ℕ) (s : State) → s.default ≡ d → (class_symbol none d s).after.default ≡ none → ⊥
unfolding class_symbol
taken_none (some c) s e n = none-some c (sym n ∙ e)
taken_none none s e n = none-some s.next (sym n)

module _ (ws : List ℕ) (whole : Fits (module' ∷ []) (records_at ws 0)) (at : ℕ) (h : at < length ws) (a : Around) (s : State) (c : ClassStack) where
  -- an element that queues nothing
  pub queue_nothing : {r : Counted} (o : List ℕ) (pos m : ℕ) → Allowed element (label_at ws at) → is_decorated_member (label_at ws at) (kids_at ws at) ≡ false →
      Counts ws at 1 a s r → Queues ws at 1 a s c o pos m o (record { at = r.at; pos = pos; state = r.state; count = m })
  queue_nothing o pos m n d k =
      let e : calls_at ws at 1 a s ≡ end = calls_one ws at a s h ∙ call_none (word_below c) ws a whole at h s n d in
      record {
        moved = record { wrote = wrote_as (sym (none_words ws at a s c _ e)) (wrote_none o pos); place = k.place; state = counts_after ws at 1 a s k };
        number = omega (arith, none_count ws at a s c _ e);
      }

  -- a decorated member of a live class
  module _ (live : a.live ≡ true) (d : is_decorated_member (label_at ws at) (kids_at ws at) ≡ true) where
    es : Trees
    es = entries (word_below c) ws a at s

    -- its call, once the state behind it is known
    call_words_lem : {r : Counted} → Counts ws at 1 a s r → words_of c (calls_at ws at 1 a s) ≡
        word_below c 2 0 ∷ word_below c 22 4 ∷ word_below c 16 (count_f es) ∷ (words_of c es ++ argument_words (word_below c) ws a at r.state)
    unfolding words_of es call_words
    call_words_lem {r} k =
        let t : (visit_one a (label_at ws at) (kids_at ws at) s).after ≡ r.state =
        sym (after_one ws at a s h) ∙ counts_after ws at 1 a s k in
        ap (written (word_below c)) (calls_one ws at a s h)
        ∙ call_one (word_below c) ws a whole at h s live d
        ∙ ap (λ (u : State). word_below c 2 0 ∷ word_below c 22 4 ∷ word_below c 16 (count_f es) ∷ (written (word_below c) es ++ argument_words (word_below c) ws a at u)) t

    pub call_size : {r : Counted} → Counts ws at 1 a s r →
        size (calls_at ws at 1 a s) ≡ 3 + size (entries (word_below c) ws a at s) + length (argument_words (word_below c) ws a at r.state)
    call_size {r} k =
        let xs : List ℕ = argument_words (word_below c) ws a at r.state in
        let e : es ≡ entries (word_below c) ws a at s = unfold es in refl in
        let n : length (word_below c 2 0 ∷ word_below c 22 4 ∷ word_below c 16 (count_f es) ∷ (words_of c es ++ xs)) ≡ suc (suc (suc (length (words_of c es ++ xs)))) = refl in
        omega (arith, length_words c (calls_at ws at 1 a s), ap length (call_words_lem k), n, length-append (words_of c es) xs, length_words c es, ap size e)

    pub queue_call : {r : Counted} → Counts ws at 1 a s r →
        {o : List ℕ} {pos m : ℕ} {o₁ : List ℕ} {p₁ : ℕ} {o₂ : List ℕ} (p₂ : ℕ) {o₃ : List ℕ} (p₃ : ℕ) {o₄ : List ℕ} {p₄ : ℕ} {o₅ : List ℕ} {p₅ : ℕ} (i : ℕ) →
        Wrote o pos (word_below c 2 0 ∷ []) o₁ p₁ → Wrote o₁ p₁ (word_below c 22 4 ∷ []) o₂ p₂ → Wrote o₂ (p₂ + 1) (words_of c (entries (word_below c) ws a at s)) o₃ p₃ →
        i ≡ count_f (entries (word_below c) ws a at s) → Wrote o₃ p₂ (word_below c 16 i ∷ []) o₄ p₄ →
        Wrote o₄ p₃ (argument_words (word_below c) ws a at r.state) o₅ p₅ →
        Queues ws at 1 a s c o pos m o₅ (record { at = r.at; pos = p₅; state = r.state; count = m + 1 })
    queue_call {r} k {o} {pos} {m} p₂ p₃ {o₅ = o₅} {p₅ = p₅} i w₁ w₂ w₃ n w₄ w₅ =
        let xs : List ℕ = argument_words (word_below c) ws a at r.state in
        let e : es ≡ entries (word_below c) ws a at s = unfold es in refl in
        let g : entries (word_below c) ws a at s ≡ es = sym e in
        let w : Wrote o pos (word_below c 2 0 ∷ word_below c 22 4 ∷ word_below c 16 i ∷ (words_of c (entries (word_below c) ws a at s) ++ xs)) o₅ p₅ =
        wrote_then w₁ (wrote_then w₂ (wrote_then (wrote_front w₃ w₄) w₅)) in
        let v : word_below c 2 0 ∷ word_below c 22 4 ∷ word_below c 16 i ∷ (words_of c (entries (word_below c) ws a at s) ++ xs) ≡ words_of c (calls_at ws at 1 a s) =
        ap (λ (m : ℕ). word_below c 2 0 ∷ word_below c 22 4 ∷ word_below c 16 m ∷ (words_of c (entries (word_below c) ws a at s) ++ xs)) n
        ∙ ap (λ (f : Trees). word_below c 2 0 ∷ word_below c 22 4 ∷ word_below c 16 (count_f f) ∷ (words_of c f ++ xs)) g ∙ sym (call_words_lem k) in
        record {
          moved = record { wrote = wrote_as v w; place = k.place; state = counts_after ws at 1 a s k };
          number = ap (m +◌) (sym (ap count_f (calls_one ws at a s h) ∙ call_count (word_below c) ws a whole at h s live d));
        }

    -- ---- the symbols behind it

    member_yes : (t : State) → member_after true (has_plain_key (kids_at ws at)) a.id t ≡ key_after (has_plain_key (kids_at ws at)) (class_symbol a.id t.default t).after
    unfolding member_after
    member_yes t = refl

    member_state : {r : Counted} → Counts ws at 1 a s r →
        r.state ≡ key_after (has_plain_key (kids_at ws at)) (class_symbol a.id (visit a (kids_at ws at) s).after.default (visit a (kids_at ws at) s).after).after
    member_state k =
        let t : State = (visit a (kids_at ws at) s).after in
        sym (counts_after ws at 1 a s k) ∙ after_one ws at a s h
        ∙ element_after ws whole at h a s (decorated_kind (label_at ws at) (kids_at ws at) d)
        ∙ ap (λ (b : Bool). member_after b (has_plain_key (kids_at ws at)) a.id t) (ap (◌&& is_decorated_member (label_at ws at) (kids_at ws at)) live ∙ d)
        ∙ member_yes t

    -- the class has a symbol then, and the key one where it needs it
    pub call_symbols : {r : Counted} → Counts ws at 1 a s r → r.state.next ≤ 67108864 → Below s.next a.id → Below s.next s.default →
        IsSomeAnd (option_or a.id r.state.default) (λ i. i < 67108864) × (has_plain_key (kids_at ws at) ≡ false → 1 ≤ r.state.next)
    call_symbols {r} k n b e = (
      go a.id refl r.state.default refl,
      λ p. omega (arith, ap (λ (u : State). u.next) (member_state k), key_next (has_plain_key (kids_at ws at)) (class_symbol a.id t.default t).after p),
    )
      where
        t : State
        t = (visit a (kids_at ws at) s).after

        low : s.next ≤ r.state.next
        low = state_low ws at 1 a s r.state (counts_after ws at 1 a s k)

        named : a.id ≡ none → r.state.default ≡ none → ⊥
        named i j =
            let y : r.state.default ≡ (class_symbol none t.default t).after.default =
            ap (λ (u : State). u.default) (member_state k) ∙ key_default _ _ ∙ ap (λ (o : Option ℕ). (class_symbol o t.default t).after.default) i in
            taken_none t.default t refl (sym y ∙ j)

        below_some : (m i : ℕ) → Below m (some i) → i < m
        below_some m i x = unfold Below in x

        go : (i : Option ℕ) → a.id ≡ i → (d : Option ℕ) → r.state.default ≡ d → IsSomeAnd (option_or i d) (λ i. i < 67108864)
        go (some i) x d y = omega (arith, below_some s.next i (subst (Below s.next) x b), low, n)
        go none x (some d) y = omega (arith, below_some r.state.next d (subst (Below r.state.next) y (below_state ws at 1 a s r.state (counts_after ws at 1 a s k) e)), n)
        go none x none y = absurd (named x y)

  -- ---- the entries of its array

  module _ (d : is_decorated_member (label_at ws at) (kids_at ws at) ≡ true) where
    entries_member : is_member (label_at ws at) ≡ true
    entries_member = decorated_member (label_at ws at) (kids_at ws at) d

    pub entries_marked : Marked ws at
    entries_marked = (member_keyed ws at whole h entries_member).marked

    module _ (n : (label_at ws at).kind ≡ 30 → ⊥) where
      pub entries_own : entries (word_below c) ws a at s ≡ here_at ws (at + 2) (arity_at ws (at + 1)) a s
      unfolding here_at
      entries_own = entries_field (word_below c) ws a whole at h s entries_member (unfold is in ne_eqb _ _ n)

    module _ (e : (label_at ws at).kind ≡ 30) where
      entries_all : entries (word_below c) ws a at s ≡
          append_f (here_at ws (at + 2) (arity_at ws (at + 1)) a s) (of_parameters 0 (visit a (kids_at ws (end_of ws (at + 1) 2)) (after_at ws (at + 1) 2 a s)).here)
      unfolding here_at after_at
      entries_all = entries_method (word_below c) ws a whole at h s entries_member (is_kind (label_at ws at) 30 e)

      -- the walk stands at the parameters
      module _ {r : Counted} (k : Counts ws (at + 1) 2 a s r) where
        pub entries_both : entries (word_below c) ws a at s ≡
            append_f (here_at ws (at + 2) (arity_at ws (at + 1)) a s) (of_parameters 0 (kids_here ws r.at a r.state))
        entries_both =
            let f : Trees = here_at ws (at + 2) (arity_at ws (at + 1)) a s in
            let t : after_at ws (at + 1) 2 a s ≡ r.state = counts_after ws (at + 1) 2 a s k in
            let x : of_parameters 0 (visit a (kids_at ws r.at) r.state).here ≡ of_parameters 0 (kids_here ws r.at a r.state) =
            unfold kids_here in refl in
            entries_all
            ∙ ap (λ (u : State). append_f f (of_parameters 0 (visit a (kids_at ws (end_of ws (at + 1) 2)) u).here)) t
            ∙ ap (λ (q : ℕ). append_f f (of_parameters 0 (visit a (kids_at ws q) r.state).here)) (sym k.place)
            ∙ ap (append_f f) x

        called : Called ws at
        called = method_called ws at whole h e

        third : r.at ≡ parameters_at ws at
        unfolding parameters_at key_at
        third = k.place ∙ end_add ws (at + 1) 1 1

        pub parameters_place : r.at < length ws
        parameters_place = omega (arith, third, called.place)

        pub parameters_kind : (label_at ws r.at).kind ≡ 36
        parameters_kind = ap (λ (q : ℕ). (label_at ws q).kind) third ∙ called.kind

        pub asks_parameters : {notes : List Note} {pos len : ℕ} → Asks ws notes at 1 s.next c pos len → (q l : ℕ) → q + l < 67108864 → Asks ws notes r.at 1 r.state.next c q l
        asks_parameters f q l g =
            asks_step (asks_kids f q l refl h g) a s 2 r.at r.state q l refl (omega (arith, called.keyed.marked.count, called.keyed.count, called.count)) k.place (counts_after ws (at + 1) 2 a s k) g

    -- its own decorators are among them
    pub own_fit : size (here_at ws (at + 2) (arity_at ws (at + 1)) a s) ≤ size (entries (word_below c) ws a at s)
    own_fit = go (is 30 (label_at ws at)) refl
      where
        f : Trees
        f = here_at ws (at + 2) (arity_at ws (at + 1)) a s

        go : (b : Bool) → is 30 (label_at ws at) ≡ b → size (here_at ws (at + 2) (arity_at ws (at + 1)) a s) ≤ size (entries (word_below c) ws a at s)
        go true t =
            let e = kind_is (label_at ws at) 30 t in
            omega (arith, ap size (entries_all e), size_append f (of_parameters 0 (visit a (kids_at ws (end_of ws (at + 1) 2)) (after_at ws (at + 1) 2 a s)).here))
        go false t = omega (arith, ap size (entries_own (λ e. true≢false (sym (is_kind (label_at ws at) 30 e) ∙ t))))

    -- what is written: k decorators of its own, then those of the parameters
    module _ {k : ℕ} (z : k ≡ arity_at ws (at + 1)) {o : List ℕ} {pos m : ℕ} {o₁ : List ℕ} {r : Walk} (y : Emitted ws (at + 2) k a s c o pos m o₁ r) where
      own_emitted : Emitted ws (at + 2) (arity_at ws (at + 1)) a s c o pos m o₁ r
      own_emitted = subst (λ (n : ℕ). Emitted ws (at + 2) n a s c o pos m o₁ r) z y

      pub field_written : ((label_at ws at).kind ≡ 30 → ⊥) →
          Wrote o pos (words_of c (entries (word_below c) ws a at s)) o₁ r.pos × (r.count ≡ m + count_f (entries (word_below c) ws a at s))
      field_written n = (wrote_as (ap (words_of c) (sym (entries_own n))) own_emitted.moved.wrote, own_emitted.number ∙ ap (λ (f : Trees). m + count_f f) (sym (entries_own n)))

      module _ (e : (label_at ws at).kind ≡ 30) {q : Counted} (b : Counts ws (at + 1) 2 a s q) where
        pub method_fit : r.pos + size (of_parameters 0 (kids_here ws q.at a q.state)) ≡ pos + size (entries (word_below c) ws a at s)
        method_fit =
            let f : Trees = here_at ws (at + 2) (arity_at ws (at + 1)) a s in
            let g : Trees = of_parameters 0 (kids_here ws q.at a q.state) in
            omega (arith, own_emitted.moved.wrote.end, length_words c f, ap size (entries_both e b), size_append f g)

        pub method_written : {o₂ : List ℕ} {p i : ℕ} → Wrote o₁ r.pos (words_of c (of_parameters 0 (kids_here ws q.at a q.state))) o₂ p →
            i ≡ r.count + count_f (of_parameters 0 (kids_here ws q.at a q.state)) →
            Wrote o pos (words_of c (entries (word_below c) ws a at s)) o₂ p × (i ≡ m + count_f (entries (word_below c) ws a at s))
        method_written w n =
            let f : Trees = here_at ws (at + 2) (arity_at ws (at + 1)) a s in
            let g : Trees = of_parameters 0 (kids_here ws q.at a q.state) in (
              wrote_as (sym (ap (words_of c) (entries_both e b) ∙ words_append c f g)) (wrote_then own_emitted.moved.wrote w),
              omega (arith, own_emitted.number, n, ap count_f (entries_both e b), count_f_append f g),
            )

-- ---- the loops over decorators and parameters

-- a record has no more children than there are words
pub arity_few : (ws : List ℕ) (whole : Fits (module' ∷ []) (records_at ws 0)) (at : ℕ) → at < length ws → arity_at ws at ≤ length ws
arity_few ws whole at h =
    let e : end_of ws (at + 1) (arity_at ws at) ≡ at + 1 + size (kids_at ws at) = unfold end_of kids_at in refl in
    omega (arith, kids_count ws whole at h, count_size (kids_at ws at), e, end_high ws (at + 1) (arity_at ws at))

module _ {ws : List ℕ} {notes : List Note} {at n : ℕ} {c : ClassStack} {pos len : ℕ} (f : Asks ws notes at 1 n c pos len) (h : at < length ws) (a : Around) (s : State) (z : s.next ≡ n) (i : ℕ)
    {m : ℕ} {o o₁ : List ℕ} {v : Walk} where
  -- the next decorator of a parameter, under 23:j
  module _ (kind : (label_at ws at).kind ≡ 37) (j : ℕ) (g : i < arity_at ws (at + 1)) (l : len ≡ size (indexed j (here_at ws (at + 2) (arity_at ws (at + 1)) a s)))
      (y : Gives (indexed j) ws (at + 2) i a s c o pos m o₁ v) where
    parameter_is : Marked ws at
    parameter_is = parameter_marked ws at f.ready.whole h kind

    pub decorator_fit : v.pos + suc (size (here_at ws v.at 1 a v.state)) ≤ pos + len
    decorator_fit =
        omega (
          arith,
          l,
          give_fit (λ _. indexed j) (λ _. indexed_none j) (λ _. indexed_append j) ws (at + 2) a s c i y (arity_at ws (at + 1)) g,
          decorator_size ws f.ready.whole c at i v.at parameter_is g y.moved.place j a v.state,
        )

    pub decorator_asks : (p : ℕ) → p ≡ v.pos + 1 → Asks ws notes v.at 1 v.state.next c p (size (here_at ws v.at 1 a v.state)) × (v.at < length ws)
    decorator_asks p w = (
      asks_step (asks_marked f pos len h parameter_is f.fit) a s i v.at v.state p (size (here_at ws v.at 1 a v.state)) z g y.moved.place y.moved.state (omega (arith, w, decorator_fit, f.fit)),
      decorator_place ws f.ready.whole c at i v.at parameter_is g y.moved.place,
    )

  -- the next parameter
  module _ (kind : (label_at ws at).kind ≡ 36) (g : i < arity_at ws at) (l : len ≡ size (of_parameters 0 (kids_here ws at a s)))
      (y : Gives (of_parameters 0) ws (at + 1) i a s c o pos m o₁ v) where
    nth_parameter : (v.at < length ws) × ((label_at ws v.at).kind ≡ 37)
    nth_parameter = subst (λ (b : ℕ). (b < length ws) × ((label_at ws b).kind ≡ 37)) (sym y.moved.place) (parameters_nth ws at f.ready.whole h i kind g)

    pub parameter_fit : v.pos + size (of_parameters i (here_at ws v.at 1 a v.state)) ≤ pos + len
    parameter_fit = omega (arith, l, give_fit of_parameters parameters_none parameters_append ws (at + 1) a s c i y (arity_at ws at) g, ap (λ (b : Trees). size (of_parameters 0 b)) (here_kids ws at a s))

    pub parameter_asks : Asks ws notes v.at 1 v.state.next c v.pos (size (indexed i (here_at ws (v.at + 2) (arity_at ws (v.at + 1)) a v.state))) × (v.at < length ws) × ((label_at ws v.at).kind ≡ 37) × (i < 67108864)
    parameter_asks =
        let b : of_parameters i (here_at ws v.at 1 a v.state) ≡ indexed i (here_at ws (v.at + 2) (arity_at ws (v.at + 1)) a v.state) =
        parameter_given ws f.ready.whole c v.at nth_parameter.0 nth_parameter.1 i a v.state in (
          asks_step (asks_kids f pos len refl h f.fit) a s i v.at v.state v.pos _ z g y.moved.place y.moved.state (omega (arith, parameter_fit, ap size b, f.fit)),
          nth_parameter.0,
          nth_parameter.1,
          omega (arith, arity_few ws f.ready.whole at h, f.ready.few),
        )

-- all of them
module _ (ws : List ℕ) (at : ℕ) (a : Around) (s : State) (c : ClassStack) {i : ℕ} {o : List ℕ} {pos m : ℕ} {o₁ : List ℕ} {r : Walk} where
  pub parameters_done : i ≡ arity_at ws at → Gives (of_parameters 0) ws (at + 1) i a s c o pos m o₁ r →
      Wrote o pos (words_of c (of_parameters 0 (kids_here ws at a s))) o₁ r.pos × (r.count ≡ m + count_f (of_parameters 0 (kids_here ws at a s)))
  parameters_done e y =
      let x : here_at ws (at + 1) i a s ≡ kids_here ws at a s = ap (λ (n : ℕ). here_at ws (at + 1) n a s) e ∙ here_kids ws at a s in
      (wrote_as (ap (λ (f : Trees). words_of c (of_parameters 0 f)) x) y.moved.wrote, y.number ∙ ap (λ (f : Trees). m + count_f (of_parameters 0 f)) x)

  pub decorators_done : (j : ℕ) {b : Counted} → i ≡ arity_at ws (at + 1) → Gives (indexed j) ws (at + 2) i a s c o pos m o₁ r → Counts ws at 1 a s b →
      Moved (words_of c (indexed j (here_at ws (at + 2) (arity_at ws (at + 1)) a s))) (end_of ws at 1) (after_at ws at 1 a s) o pos o₁ (record { at = b.at; pos = r.pos; state = b.state; count = r.count }) ×
      (r.count ≡ m + count_f (indexed j (here_at ws (at + 2) (arity_at ws (at + 1)) a s)))
  decorators_done j e y k =
      let x : indexed j (here_at ws (at + 2) i a s) ≡ indexed j (here_at ws (at + 2) (arity_at ws (at + 1)) a s) = ap (λ (n : ℕ). indexed j (here_at ws (at + 2) n a s)) e in
      (record { wrote = wrote_as (ap (words_of c) x) y.moved.wrote; place = k.place; state = counts_after ws at 1 a s k }, y.number ∙ ap (λ (f : Trees). m + count_f f) x)

-- ---- a round of `calls`

-- the element at `at`, and what a walker of it asks
pub record Element (ws : List ℕ) (notes : List Note) (at : ℕ) (a : Around) (s : State) (c : ClassStack) (pos : ℕ) : Type 0 where
  pub inside : at < length ws
  pub allowed : Allowed element (label_at ws at)
  pub asks : Asks ws notes at 1 s.next c pos (size (calls_at ws at 1 a s))

-- the words of its call, if it is a decorated member; r: what stands behind it
pub record MemberCall (ws : List ℕ) (at : ℕ) (a : Around) (s : State) (c : ClassStack) (r : Counted) : Type 0 where
  pub decorated : is_decorated_member (label_at ws at) (kids_at ws at) ≡ true
  pub words : size (calls_at ws at 1 a s) ≡ 3 + size (entries (word_below c) ws a at s) + length (argument_words (word_below c) ws a at r.state)
