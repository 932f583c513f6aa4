-- Laws for the steps of the walkers of members and parameters (rules 2 to 5). Assumes nothing.
use Rattle.std.specs.Prelude.{◌≡◌, Bool, ◌&&◌, ◌||◌, ℕ, ◌+◌, ◌-◌, ◌<◌, ◌≤◌, eqb}
use Rattle.records.specs.declared.Note.{Note}
use Rattle.std.proofs.Math.Path.{refl, ap, subst}
use Rattle.std.proofs.Common.{sym, ◌∙◌, length-append}
use Rattle.std.proofs.Math.Bool.{true, false, not, cond}
use Rattle.std.proofs.lemmas.Bool.{false≢true}
use Rattle.std.specs.declared.option.Option.{Option}
use mathlib.Core.List.{List, [], ◌∷◌, ◌++◌}
use native.Mathlib.Omega.{arith}
use borrow.Author.Tests.{eqb-true, eq-eqb, ne_eqb}
use Rattle.std.proofs.Math.ListN.{length}
use Rattle.words.specs.Word.{bit1}
use Rattle.records.specs.Forest.{end, flat, append_f, size, size_append}
use Rattle.records.specs.Label.{Label, Trees, is, bit}
use Rattle.records.specs.Place.{records_at, label_at, arity_at, kids_at, end_of, end_none, end_one, end_low}
use Rattle.output.specs.Overlay.{Wrote, wrote_none, wrote_then}
use Rattle.grammar.specs.Grammar.{module'}
use Rattle.grammar.specs.WellFormed.{Fits}
use Rattle.rewriting.specs.Parts.{bare_parameters, is_member, is_decorated_member, has_plain_key}
use Rattle.rewriting.specs.Visit.{visit, visit_one}
use Rattle.rewriting.specs.declared.State.{State}
use Rattle.rewriting.specs.declared.Around.{Around}
use Rattle.class_stack.specs.declared.ClassStack.{ClassStack}
use Rattle.walk_laws.specs.Rows.{visit_at, here_add, plain_after}
use Rattle.walk_laws.specs.Written.{word_by, written}
use Rattle.walk_laws.specs.Roles.{is_kind, plain_36}
use Rattle.walk_laws.specs.After.{key_after, member_after}
use Rattle.walk_laws.specs.Kinds.{is_element_kind, element_after}
use Rattle.walk_laws.specs.Elements.{Marked, Keyed, Called, key_at, parameters_at, parameters_nth, parameter_marked, method_called, member_keyed, marked_end, parameter_after}
use Rattle.walk_laws.specs.Members.{parameters_words, method_words, bare_words, key_words, bare_append, parameter_written}
use Rattle.counter.specs.Contract.{Counts}
use Rattle.counter.specs.declared.Counted.{Counted}
use Rattle.transform.specs.Contract.{word_below, words_of, here_at, after_at, kids_here, Asks, Moved, Emitted, behind_words, member_words, takes_key}
use Rattle.transform.specs.Steps.{length_words, words_append, asks_place, asks_kids, here_none, after_none, here_more, after_more, end_more', after_one, here_kids, counts_after}
use Rattle.transform.specs.Leaves.{wrote_as}
use Rattle.transform.specs.declared.Walk.{Walk}

-- behind the first child of a record, which was counted
module _ {ws : List ℕ} {notes : List Note} {at : ℕ} {a : Around} {s : State} {c : ClassStack} {pos len : ℕ} (f : Asks ws notes at 1 s.next c pos len) (h : at < length ws) {d : Counted}
    (x : Counts ws (at + 1) 1 a s d) where
  asks_second : (i q l : ℕ) → 1 + i ≤ arity_at ws at → q + l < 67108864 → Asks ws notes d.at i d.state.next c q l
  asks_second i q l b g = asks_place (asks_kids f q l refl h g) a s 1 i d.at d.state q l refl b x.place (counts_after ws (at + 1) 1 a s x) g

-- what is said of its place, of the number n of the record's children and of the state in front of it
module _ (ws : List ℕ) (at : ℕ) (a : Around) (s : State) {d : Counted} (x : Counts ws (at + 1) 1 a s d) (n : ℕ) (e : n ≡ arity_at ws at) where
  second_state : (visit_at ws (at + 1) 1 a s).after ≡ d.state
  second_state = x.state

  second : {X : Type 0} (f : ℕ → ℕ → State → X) → f (end_of ws (at + 1) 1) (arity_at ws at) (visit_at ws (at + 1) 1 a s).after ≡ f d.at n d.state
  second f =
      ap (f (end_of ws (at + 1) 1) (arity_at ws at)) second_state
      ∙ ap (λ (q : ℕ). f q (arity_at ws at) d.state) (sym x.place)
      ∙ ap (λ (m : ℕ). f d.at m d.state) (sym e)

-- ---- rows of parameters without decorators

-- what the k parameters at `at` become without decorators was written
abbrev pub Bared : List ℕ → ℕ → ℕ → Around → State → ClassStack → List ℕ → ℕ → List ℕ → Walk → Type 0
Bared ws at k a s c o pos o' r = Moved (words_of c (bare_parameters (here_at ws at k a s))) (end_of ws at k) (after_at ws at k a s) o pos o' r

module _ (ws : List ℕ) (at : ℕ) (a : Around) (s : State) where
  bare_more : (j k q : ℕ) (s₁ : State) → q ≡ end_of ws at j → after_at ws at j a s ≡ s₁ →
      bare_parameters (here_at ws at (j + k) a s) ≡ append_f (bare_parameters (here_at ws at j a s)) (bare_parameters (here_at ws q k a s₁))
  bare_more j k q s₁ p t = ap bare_parameters (here_more ws at a s j k q s₁ p t) ∙ bare_append (here_at ws at j a s) (here_at ws q k a s₁)

  -- the first of a row isn't longer than all
  bare_first_lem : (k : ℕ) → size (bare_parameters (here_at ws at 1 a s)) ≤ size (bare_parameters (here_at ws at (1 + k) a s))
  unfolding here_at
  bare_first_lem k =
      let f : Trees = (visit_at ws at 1 a s).here in
      let g : Trees = (visit_at ws (end_of ws at 1) k a (visit_at ws at 1 a s).after).here in
      omega (arith, ap (λ (t : Trees). size (bare_parameters t)) (here_add ws a at 1 k s), ap size (bare_append f g), size_append (bare_parameters f) (bare_parameters g))

  module _ (c : ClassStack) where
    none_words : words_of c (bare_parameters end) ≡ []
    unfolding words_of written bare_parameters flat
    none_words = refl

    pub bared_none : (o : List ℕ) (pos n : ℕ) → Bared ws at 0 a s c o pos o (record { at = at; pos = pos; state = s; count = n })
    bared_none o pos n = record {
      wrote = wrote_as (sym (ap (λ (f : Trees). words_of c (bare_parameters f)) (here_none ws at a s) ∙ none_words)) (wrote_none o pos);
      place = sym (end_none ws at);
      state = after_none ws at a s;
    }

    -- j parameters, then k others
    pub bared_add : (j k : ℕ) {o : List ℕ} {pos : ℕ} {o₁ : List ℕ} {v : Walk} {o₂ : List ℕ} {r : Walk} →
        Bared ws at j a s c o pos o₁ v → Bared ws v.at k a v.state c o₁ v.pos o₂ r → Bared ws at (j + k) a s c o pos o₂ r
    bared_add j k {v = v} x y = record {
      wrote = wrote_as (sym (ap (words_of c) (bare_more j k v.at v.state x.place x.state) ∙ words_append c _ _)) (wrote_then x.wrote y.wrote);
      place = y.place ∙ sym (end_more' ws at a s j k v.at v.state x.place x.state);
      state = after_more ws at a s j k v.at v.state x.place x.state ∙ y.state;
    }

-- ---- parameters

module _ (ws : List ℕ) (at : ℕ) (a : Around) (s : State) (c : ClassStack) where
  parameters_words_lem : parameters_words (word_below c) ws a at s ≡ word_below c 36 (label_at ws at).payload ∷ words_of c (bare_parameters (here_at ws (at + 1) (arity_at ws at) a s))
  unfolding parameters_words words_of
  parameters_words_lem = ap (λ (f : Trees). word_below c 36 (label_at ws at).payload ∷ written (word_below c) (bare_parameters f)) (sym (unfold kids_here in here_kids ws at a s))

  parameters_length : length (parameters_words (word_below c) ws a at s) ≡ 1 + size (bare_parameters (here_at ws (at + 1) (arity_at ws at) a s))
  parameters_length = omega (arith, ap length parameters_words_lem, length_words c (bare_parameters (here_at ws (at + 1) (arity_at ws at) a s)))

  parameters_after : at < length ws → (label_at ws at).kind ≡ 36 → after_at ws at 1 a s ≡ after_at ws (at + 1) (arity_at ws at) a s
  unfolding after_at
  parameters_after h k = plain_after ws a at s h (plain_36 _ k)

  -- the walk stands behind i parameters
  module _ {notes : List Note} {pos : ℕ} (f : Asks ws notes at 1 s.next c pos (length (parameters_words (word_below c) ws a at s))) (h : at < length ws)
      (i p₀ : ℕ) {v : Walk} {o o₁ : List ℕ} (x : Bared ws (at + 1) i a s c o p₀ o₁ v) where
    pub asks_parameter : i < arity_at ws at → p₀ ≡ pos + 1 → Asks ws notes v.at 1 v.state.next c v.pos (size (bare_parameters (here_at ws v.at 1 a v.state)))
    asks_parameter b e =
        let k : i + (1 + (arity_at ws at - i - 1)) ≡ arity_at ws at = omega arith in
        let z : size (bare_parameters (here_at ws (at + 1) (i + (1 + (arity_at ws at - i - 1))) a s)) ≡
        size (bare_parameters (here_at ws (at + 1) i a s)) + size (bare_parameters (here_at ws v.at (1 + (arity_at ws at - i - 1)) a v.state)) =
        ap size (bare_more ws (at + 1) a s i (1 + (arity_at ws at - i - 1)) v.at v.state x.place x.state) ∙ size_append _ _ in
        let g : v.pos + size (bare_parameters (here_at ws v.at 1 a v.state)) < 67108864 =
        omega (arith, f.fit, parameters_length, e, x.wrote.end, length_words c (bare_parameters (here_at ws (at + 1) i a s)), z, ap (λ (m : ℕ). size (bare_parameters (here_at ws (at + 1) m a s))) k, bare_first_lem ws v.at a v.state (arity_at ws at - i - 1)) in
        asks_place (asks_kids f v.pos (size (bare_parameters (here_at ws v.at 1 a v.state))) refl h g) a s i 1 v.at v.state v.pos (size (bare_parameters (here_at ws v.at 1 a v.state))) refl (omega arith) x.place x.state g

    pub parameter_place : (label_at ws at).kind ≡ 36 → i < arity_at ws at → (v.at < length ws) × ((label_at ws v.at).kind ≡ 37)
    parameter_place e b = subst (λ (y : ℕ). (y < length ws) × ((label_at ws y).kind ≡ 37)) (sym x.place) (parameters_nth ws at f.ready.whole h i e b)

    -- behind all of them; w: the payload of the parameters
    pub moved_parameters : {o₀ : List ℕ} (w : ℕ) → (label_at ws at).kind ≡ 36 → i ≡ arity_at ws at → w ≡ (label_at ws at).payload → Wrote o₀ pos (word_below c 36 w ∷ []) o p₀ →
        Moved (parameters_words (word_below c) ws a at s) (end_of ws at 1) (after_at ws at 1 a s) o₀ pos o₁ v
    moved_parameters w k e g y = record {
      wrote = wrote_as
          (ap (λ (m : ℕ). word_below c 36 m ∷ words_of c (bare_parameters (here_at ws (at + 1) i a s))) g
          ∙ ap (λ (m : ℕ). word_below c 36 (label_at ws at).payload ∷ words_of c (bare_parameters (here_at ws (at + 1) m a s))) e
          ∙ sym parameters_words_lem)
          (wrote_then y x.wrote);
      place = x.place ∙ ap (end_of ws (at + 1)) e ∙ sym (end_one ws at h);
      state = parameters_after h k ∙ ap (λ (m : ℕ). after_at ws (at + 1) m a s) (sym e) ∙ x.state;
    }

-- ---- a parameter

-- d: the state behind its decorators
module _ (ws : List ℕ) (at : ℕ) (a : Around) (s : State) (c : ClassStack) (whole : Fits (module' ∷ []) (records_at ws 0)) (h : at < length ws) (k : (label_at ws at).kind ≡ 37) where
  parameter_first : Marked ws at
  parameter_first = parameter_marked ws at whole h k

  module _ {d : Counted} (x : Counts ws (at + 1) 1 a s d) (n : ℕ) (e : n ≡ arity_at ws at) where
    parameter_words : words_of c (bare_parameters (here_at ws at 1 a s)) ≡
        word_below c 37 (label_at ws at).payload ∷ word_below c 28 0 ∷ words_of c (here_at ws d.at (n - 1) a d.state)
    unfolding words_of here_at
    parameter_words =
        parameter_written (word_below c) ws a whole at h s k
        ∙ second ws at a s x n e λ (q m : ℕ) (t : State). word_below c 37 (label_at ws at).payload ∷ word_below c 28 0 ∷ written (word_below c) (visit_at ws q (m - 1) a t).here

    parameter_length : size (bare_parameters (here_at ws at 1 a s)) ≡ 2 + size (here_at ws d.at (n - 1) a d.state)
    parameter_length =
        omega (arith, ap length parameter_words, length_words c (bare_parameters (here_at ws at 1 a s)), length_words c (here_at ws d.at (n - 1) a d.state))

    module _ {notes : List Note} {pos : ℕ} (f : Asks ws notes at 1 s.next c pos (size (bare_parameters (here_at ws at 1 a s)))) where
      pub parameter_room : pos + 1 < 67108864
      parameter_room = omega (arith, f.fit, parameter_length)

      pub asks_value : {o o₁ o₂ : List ℕ} {p₁ p₂ : ℕ} {v w : ℕ} → Wrote o pos (v ∷ []) o₁ p₁ → Wrote o₁ p₁ (w ∷ []) o₂ p₂ →
          Asks ws notes d.at (n - 1) d.state.next c p₂ (size (here_at ws d.at (n - 1) a d.state))
      asks_value y z = asks_second f h x (n - 1) _ _ (omega (arith, e, parameter_first.count)) (omega (arith, f.fit, parameter_length, y.end, z.end))

    parameter_state : after_at ws at 1 a s ≡ after_at ws d.at (n - 1) a d.state
    unfolding after_at
    parameter_state =
        parameter_after ws a at s parameter_first h k ∙ second ws at a s x n e λ (q m : ℕ) (t : State). (visit_at ws q (m - 1) a t).after

    -- w: the payload of the parameter
    pub moved_parameter : {o o₁ o₂ o₃ : List ℕ} {pos p₁ p₂ m : ℕ} {r : Walk} (w : ℕ) → w ≡ (label_at ws at).payload → Wrote o pos (word_below c 37 w ∷ []) o₁ p₁ → Wrote o₁ p₁ (word_below c 28 0 ∷ []) o₂ p₂ →
        Emitted ws d.at (n - 1) a d.state c o₂ p₂ m o₃ r → Bared ws at 1 a s c o pos o₃ r
    moved_parameter w g y z r = record {
      wrote = wrote_as
          (ap (λ (m : ℕ). word_below c 37 m ∷ word_below c 28 0 ∷ words_of c (here_at ws d.at (n - 1) a d.state)) g ∙ sym parameter_words)
          (wrote_then y (wrote_then z r.moved.wrote));
      place = r.moved.place ∙ sym (marked_end ws at h parameter_first ∙ second ws at a s x n e λ (q m : ℕ) (t : State). end_of ws q (m - 1));
      state = parameter_state ∙ r.moved.state;
    }

-- a round of `parameters`: the parameter at `at`, and what the walker of it asks
pub record ParameterHere (ws : List ℕ) (notes : List Note) (at : ℕ) (a : Around) (s : State) (c : ClassStack) (pos : ℕ) : Type 0 where
  pub inside : at < length ws
  pub kind : (label_at ws at).kind ≡ 37
  pub marked : Marked ws at
  pub asks : Asks ws notes at 1 s.next c pos (size (bare_parameters (here_at ws at 1 a s)))

-- ---- elements by kind

or_rest : (x b y z : Bool) → x ≡ false → (x || y || z) ≡ true → ((x && not b) || y || z) ≡ true
or_rest true b y z n e = absurd (false≢true (sym n))
or_rest false b y z n e = e

element_member : (l : Label) → is_element_kind l.kind ≡ true → (l.kind ≡ 30 → ⊥) → is_member l ≡ true
unfolding is_element_kind is_member is
element_member l e n = or_rest (eqb l.kind 30) (bit bit1 l) (eqb l.kind 31) (eqb l.kind 32) (ne_eqb l.kind 30 n) e

pub element_keyed : (ws : List ℕ) (at : ℕ) → Fits (module' ∷ []) (records_at ws 0) → at < length ws → is_element_kind (label_at ws at).kind ≡ true → Keyed ws at
element_keyed ws at whole h e = go (eqb (label_at ws at).kind 30) refl
  where
    go : (b : Bool) → eqb (label_at ws at).kind 30 ≡ b → Keyed ws at
    go true x = (method_called ws at whole h (eqb-true _ 30 x)).keyed
    go false x = member_keyed ws at whole h (element_member (label_at ws at) e λ k. false≢true (sym x ∙ eq-eqb _ 30 k))

-- ---- from the key on

module _ (ws : List ℕ) (a : Around) (c : ClassStack) (n : ℕ) where
  -- the parameters at p and what stands behind them, of a method with n children; t: the state in front of them
  unfoldable behind_key : ℕ → State → List ℕ
  behind_key p t =
      parameters_words (word_below c) ws a p t ++ written (word_below c) (visit_at ws (end_of ws p 1) (n - 3) a (visit_at ws p 1 a t).after).here

  method_key : (q : ℕ) (s : State) → method_words (word_below c) ws a n q s ≡ words_of c (here_at ws q 1 a s) ++ behind_key (end_of ws q 1) (after_at ws q 1 a s)
  unfolding method_words behind_key words_of here_at after_at
  method_key q s = refl

  method_rest : (p : ℕ) (s : State) → behind_key p s ≡ parameters_words (word_below c) ws a p s ++ written (word_below c) (visit_at ws (end_of ws p 1) (n - 3) a (after_at ws p 1 a s)).here
  unfolding behind_key after_at
  method_rest p s = refl

  -- the walk stands at q with the state m, e behind the record at p
  module _ (p : ℕ) (s : State) (q : ℕ) (s₁ : State) (x : q ≡ end_of ws p 1) (t : after_at ws p 1 a s ≡ s₁) where
    key_on : behind_key (end_of ws p 1) (after_at ws p 1 a s) ≡ behind_key q s₁
    key_on = ap (behind_key (end_of ws p 1)) t ∙ ap (λ (y : ℕ). behind_key y s₁) (sym x)

    behind_on : written (word_below c) (visit_at ws (end_of ws p 1) (n - 3) a (after_at ws p 1 a s)).here ≡ words_of c (here_at ws q (n - 3) a s₁)
    unfolding words_of here_at
    behind_on =
        ap (λ (y : State). written (word_below c) (visit_at ws (end_of ws p 1) (n - 3) a y).here) (t)
        ∙ ap (λ (y : ℕ). written (word_below c) (visit_at ws y (n - 3) a s₁).here) (sym x)

-- d: the state behind the decorators
module _ (ws : List ℕ) (at : ℕ) (a : Around) (s : State) (c : ClassStack) {d : Counted} (x : Counts ws (at + 1) 1 a s d) (n : ℕ) (e : n ≡ arity_at ws at) where
  behind_words_lem : (b : Bool) → is 30 (label_at ws at) ≡ b → behind_words ws at a s c ≡
      cond b (method_words (word_below c) ws a n d.at d.state) (written (word_below c) (visit_at ws d.at (n - 1) a d.state).here)
  unfolding behind_words bare_words
  behind_words_lem b k =
      second ws at a s x n e (λ (q m : ℕ) (t : State). cond (is 30 (label_at ws at)) (method_words (word_below c) ws a m q t) (written (word_below c) (visit_at ws q (m - 1) a t).here))
      ∙ ap (λ (y : Bool). cond y (method_words (word_below c) ws a n d.at d.state) (written (word_below c) (visit_at ws d.at (n - 1) a d.state).here)) k

  -- a property or accessor
  field_words : ((label_at ws at).kind ≡ 30 → ⊥) → behind_words ws at a s c ≡ words_of c (here_at ws d.at (n - 1) a d.state)
  unfolding words_of here_at
  field_words k = behind_words_lem false (unfold is in ne_eqb _ 30 k)

  module _ {notes : List Note} {pos : ℕ} (f : Asks ws notes at 1 s.next c pos (length (behind_words ws at a s c))) (h : at < length ws) where
    pub asks_field : ((label_at ws at).kind ≡ 30 → ⊥) → 1 ≤ n → Asks ws notes d.at (n - 1) d.state.next c pos (size (here_at ws d.at (n - 1) a d.state))
    asks_field k g =
        let t : Trees = here_at ws d.at (n - 1) a d.state in
        asks_second f h x (n - 1) pos (size t) (omega arith) (omega (arith, f.fit, ap length (field_words k), length_words c t))

  pub wrote_field : {o : List ℕ} {pos m : ℕ} {o₁ : List ℕ} {r : Walk} → ((label_at ws at).kind ≡ 30 → ⊥) →
      Emitted ws d.at (n - 1) a d.state c o pos m o₁ r → Wrote o pos (behind_words ws at a s c) o₁ r.pos
  wrote_field k w = wrote_as (sym (field_words k)) w.moved.wrote

  module _ (k : (label_at ws at).kind ≡ 30) where
    method_words_lem : behind_words ws at a s c ≡ method_words (word_below c) ws a n d.at d.state
    method_words_lem = behind_words_lem true (is_kind (label_at ws at) 30 k)

    key_size : size (here_at ws d.at 1 a d.state) ≤ length (behind_words ws at a s c)
    key_size =
        omega (arith, ap length (method_words_lem ∙ method_key ws a c n d.at d.state), length-append (words_of c (here_at ws d.at 1 a d.state)) (behind_key ws a c n (end_of ws d.at 1) (after_at ws d.at 1 a d.state)), length_words c (here_at ws d.at 1 a d.state))

    -- behind the key, at p
    module _ (p : ℕ) (s₁ : State) (y : p ≡ end_of ws d.at 1) (t : after_at ws d.at 1 a d.state ≡ s₁) where
      called_words : behind_words ws at a s c ≡ words_of c (here_at ws d.at 1 a d.state) ++ behind_key ws a c n p s₁
      called_words =
          method_words_lem ∙ method_key ws a c n d.at d.state ∙ ap (λ (xs : List ℕ). words_of c (here_at ws d.at 1 a d.state) ++ xs) (key_on ws a c n d.at d.state p s₁ y t)

      parameters_size : length (words_of c (here_at ws d.at 1 a d.state)) + length (parameters_words (word_below c) ws a p s₁) ≤ length (behind_words ws at a s c)
      parameters_size =
          omega (
            arith,
            ap length called_words,
            length-append (words_of c (here_at ws d.at 1 a d.state)) (behind_key ws a c n p s₁),
            ap length (method_rest ws a c n p s₁),
            length-append (parameters_words (word_below c) ws a p s₁) (written (word_below c) (visit_at ws (end_of ws p 1) (n - 3) a (after_at ws p 1 a s₁)).here),
          )

      -- behind the parameters, at q
      module _ (q : ℕ) (s₂ : State) (z : q ≡ end_of ws p 1) (u : after_at ws p 1 a s₁ ≡ s₂) where
        method_whole : behind_words ws at a s c ≡
            words_of c (here_at ws d.at 1 a d.state) ++
            (parameters_words (word_below c) ws a p s₁ ++ words_of c (here_at ws q (n - 3) a s₂))
        method_whole =
            called_words
            ∙ ap (λ (xs : List ℕ). words_of c (here_at ws d.at 1 a d.state) ++ xs)
            (method_rest ws a c n p s₁ ∙ ap (λ (xs : List ℕ). parameters_words (word_below c) ws a p s₁ ++ xs) (behind_on ws a c n p s₁ q s₂ z u))

        method_size : length (words_of c (here_at ws d.at 1 a d.state)) + length (parameters_words (word_below c) ws a p s₁) +
            size (here_at ws q (n - 3) a s₂) ≡ length (behind_words ws at a s c)
        method_size =
            let f : Trees = here_at ws q (n - 3) a s₂ in
            let v : List ℕ = parameters_words (word_below c) ws a p s₁ in
            omega (arith, ap length method_whole, length-append (words_of c (here_at ws d.at 1 a d.state)) (v ++ words_of c f), length-append v (words_of c f), length_words c f)

    -- the steps of a method: key, parameters, what stands behind them
    module _ {notes : List Note} {pos : ℕ} (f : Asks ws notes at 1 s.next c pos (length (behind_words ws at a s c))) (h : at < length ws) where
      pub method_three : n ≡ 3 + (n - 3)
      method_three = let g : Called ws at = method_called ws at f.ready.whole h k in omega (arith, e, g.count, g.keyed.count, g.keyed.marked.count)

      pub asks_key : Asks ws notes d.at 1 d.state.next c pos (size (here_at ws d.at 1 a d.state))
      asks_key = asks_second f h x 1 pos _ (omega (arith, e, method_three)) (omega (arith, f.fit, key_size))

      module _ {m : ℕ} {o o₁ : List ℕ} {r : Walk} (y : Emitted ws d.at 1 a d.state c o pos m o₁ r) where
        -- of records behind the key
        asks_third : (i q l : ℕ) → 2 + i ≤ n → q + l < 67108864 → Asks ws notes r.at i r.state.next c q l
        asks_third i q l b g =
            asks_place (asks_second f h x (n - 1) q l (omega (arith, e)) g) a d.state 1 i r.at r.state q l refl (omega arith) y.moved.place y.moved.state g

        pub asks_called : Asks ws notes r.at 1 r.state.next c r.pos (length (parameters_words (word_below c) ws a r.at r.state))
        asks_called = asks_third 1 r.pos _ (omega (arith, method_three)) (omega (arith, f.fit, parameters_size r.at r.state y.moved.place y.moved.state, y.moved.wrote.end))

        pub called_place : (r.at < length ws) × ((label_at ws r.at).kind ≡ 36)
        unfolding key_at parameters_at
        called_place =
            let g : Called ws at = method_called ws at f.ready.whole h k in
            subst (λ (q : ℕ). (q < length ws) × ((label_at ws q).kind ≡ 36)) (sym (y.moved.place ∙ ap (λ (q : ℕ). end_of ws q 1) x.place)) (g.place, g.kind)

        pub called_on : d.at ≤ r.at
        called_on = omega (arith, y.moved.place, end_low ws d.at 1)

        module _ {o₂ : List ℕ} {v : Walk} (z : Moved (parameters_words (word_below c) ws a r.at r.state) (end_of ws r.at 1)
            (after_at ws r.at 1 a r.state) o₁ r.pos o₂ v) where
          pub asks_rest : Asks ws notes v.at (n - 3) v.state.next c v.pos (size (here_at ws v.at (n - 3) a v.state))
          asks_rest =
              let l : ℕ = size (here_at ws v.at (n - 3) a v.state) in
              let g : v.pos + l < 67108864 =
              omega (arith, f.fit, method_size r.at r.state y.moved.place y.moved.state v.at v.state z.place z.state, y.moved.wrote.end, z.wrote.end) in
              asks_place (asks_third (n - 2) v.pos l (omega (arith, method_three)) g) a r.state 1 (n - 3) v.at v.state v.pos l refl (omega (arith, method_three))
              z.place z.state g

          pub rest_on : d.at ≤ v.at
          rest_on = omega (arith, called_on, z.place, end_low ws r.at 1)

          pub wrote_method : {b : ℕ} {o₃ : List ℕ} {u : Walk} → Emitted ws v.at (n - 3) a v.state c o₂ v.pos b o₃ u → Wrote o pos (behind_words ws at a s c) o₃ u.pos
          wrote_method w =
              wrote_as (sym (method_whole r.at r.state y.moved.place y.moved.state v.at v.state z.place z.state))
              (wrote_then y.moved.wrote (wrote_then z.wrote w.moved.wrote))

-- ---- a member

key_taken : (x y p : Bool) (id : Option ℕ) (t : State) → (x && y && not p) ≡ true → 1 ≤ (member_after (x && y) p id t).next
unfolding member_after key_after
key_taken true true false id t e = omega arith
key_taken true true true id t e = absurd (false≢true e)
key_taken true false p id t e = absurd (false≢true e)
key_taken false y p id t e = absurd (false≢true e)

pub member_some : (ws : List ℕ) (at : ℕ) (a : Around) (s : State) (c : ClassStack) → 2 ≤ length (member_words ws at a s c)
unfolding member_words
member_some ws at a s c = omega arith

-- w: the state behind it
module _ {ws : List ℕ} {notes : List Note} {at : ℕ} {a : Around} {s : State} {c : ClassStack} {pos : ℕ} (f : Asks ws notes at 1 s.next c pos (length (member_words ws at a s c))) (h : at < length ws)
    (k : is_element_kind (label_at ws at).kind ≡ true) {w : Counted} (x : Counts ws at 1 a s w) where
  key_next : (visit_one a (label_at ws at) (kids_at ws at) s).after.next ≡ w.state.next
  key_next = ap (λ (t : State). t.next) (sym (after_one ws at a s h) ∙ counts_after ws at 1 a s x)

  pub key_least : takes_key ws at a ≡ true → 1 ≤ w.state.next
  unfolding takes_key
  key_least t =
      let g : (a.live && is_decorated_member (label_at ws at) (kids_at ws at) && not (has_plain_key (kids_at ws at))) ≡ true =
      t in
      omega (
        arith,
        key_next,
        ap (λ (t : State). t.next) (element_after ws f.ready.whole at h a s k),
        key_taken a.live (is_decorated_member (label_at ws at) (kids_at ws at)) (has_plain_key (kids_at ws at)) a.id (visit a (kids_at ws at) s).after g,
      )

  key_words_lem : key_words (word_below c) ws a at s ≡ cond (takes_key ws at a) (word_below c 18 (w.state.next - 1) ∷ []) []
  unfolding key_words takes_key
  key_words_lem =
      ap (λ (m : ℕ). cond (a.live && is_decorated_member (label_at ws at) (kids_at ws at) && not (has_plain_key (kids_at ws at))) (word_below c 18 (m - 1) ∷ []) []) key_next

  member_words_lem : member_words ws at a s c ≡ word_below c (label_at ws at).kind (label_at ws at).payload ∷ word_below c 28 0 ∷ (cond (takes_key ws at a) (word_below c 18 (w.state.next - 1) ∷ []) [] ++ behind_words ws at a s c)
  unfolding member_words word_by
  member_words_lem = ap (λ (xs : List ℕ). word_below c (label_at ws at).kind (label_at ws at).payload ∷ word_below c 28 0 ∷ (xs ++ behind_words ws at a s c)) key_words_lem

  pub member_length : length (member_words ws at a s c) ≡ 2 + length (cond (takes_key ws at a) (word_below c 18 (w.state.next - 1) ∷ []) []) + length (behind_words ws at a s c)
  member_length = omega (arith, ap length member_words_lem, length-append (cond (takes_key ws at a) (word_below c 18 (w.state.next - 1) ∷ []) []) (behind_words ws at a s c))

  pub moved_member : {o o₁ o₂ o₃ o₄ : List ℕ} {p₁ p₂ p₃ : ℕ} (p₄ m p n : ℕ) → m ≡ (label_at ws at).kind → p ≡ (label_at ws at).payload →
      Wrote o pos (word_below c m p ∷ []) o₁ p₁ → Wrote o₁ p₁ (word_below c 28 0 ∷ []) o₂ p₂ → Wrote o₂ p₂ (cond (takes_key ws at a) (word_below c 18 (w.state.next - 1) ∷ []) []) o₃ p₃ → Wrote o₃ p₃ (behind_words ws at a s c) o₄ p₄ →
      Moved (member_words ws at a s c) (end_of ws at 1) (after_at ws at 1 a s) o pos o₄ (record { at = w.at; pos = p₄; state = w.state; count = n })
  moved_member p₄ m p n e g w₁ w₂ w₃ w₄ = record {
    wrote = wrote_as
        (ap (λ (y : ℕ). word_below c y p ∷ word_below c 28 0 ∷ (cond (takes_key ws at a) (word_below c 18 (w.state.next - 1) ∷ []) [] ++ behind_words ws at a s c)) e
        ∙ ap (λ (y : ℕ). word_below c (label_at ws at).kind y ∷ word_below c 28 0 ∷ (cond (takes_key ws at a) (word_below c 18 (w.state.next - 1) ∷ []) [] ++ behind_words ws at a s c)) g
        ∙ sym member_words_lem)
        (wrote_then w₁ (wrote_then w₂ (wrote_then w₃ w₄)));
    place = x.place;
    state = counts_after ws at 1 a s x;
  }
