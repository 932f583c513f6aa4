-- Laws for the steps of the walkers that write classes: the words by a class's plan are the words by its place; the first constructor. Assumes nothing.
use Rattle.std.specs.Prelude.{◌≡◌, Bool, ◌||◌, not, cond, ◌&&◌, eqb, ltb, leb, length, is_some, take, drop, min}
use Rattle.std.proofs.Math.Path.{refl, ap, sym, subst}
use Rattle.std.proofs.Common.{◌∙◌, arith, ltb-true, length-append}
use Rattle.std.proofs.Math.Bool.{true, false}
use Rattle.std.specs.Int.{from_bool}
use Rattle.std.proofs.lemmas.Option.{cond_some}
use Rattle.std.specs.declared.option.Option.{Option}
use Rattle.std.specs.declared.option.Option.TheVariants.{None as none, Some as some}
use mathlib.Core.List.{List, [], ◌∷◌, ◌++◌, append_assoc, append-nil}
use Prim.Native.Nat.{ℕ, suc, ◌+◌, ◌-◌, ◌/◌, ◌%◌, ◌<◌, ◌≤◌}
use Rattle.std.proofs.Math.Dec.{eqb-suc-zero}
use Rattle.records.specs.declared.Note.{Note}
use Rattle.words.specs.Table.{lookup}
use Rattle.words.specs.Word.{bit0, bit1, bit2}
use Rattle.records.specs.Forest.{end, node, take_f, count_f, size, count_size}
use Rattle.records.specs.Label.{Trees}
use Rattle.records.specs.Place.{records_at, label_at, arity_at, kids_at, end_of, end_none, end_add, end_low}
use Rattle.output.specs.Part.{wrote_part, wrote_part_past}
use borrow.Author.Tests.{leb-true, leb-false}
use Rattle.output.specs.Overlay.{Wrote, wrote_none, wrote_then, wrote_front}
use Rattle.grammar.specs.Grammar.{module', row_of, table, row, holds}
use Rattle.grammar.proofs.Rows.{allowed_row}
use Rattle.grammar.specs.WellFormed.{Fits}
use Rattle.rewriting.specs.Parts.{is_empty, of_parameters, is_constructor, is_decorated_member, is_live, has_private_in, has_constructor, first_constructor, bare_first, is_decorated}
use Rattle.rewriting.specs.declared.State.{State}
use Rattle.rewriting.specs.declared.Around.{Around}
use Rattle.class_stack.specs.Renaming.{capacity}
use Rattle.class_stack.specs.declared.ClassStack.{ClassStack}
use Rattle.inspect.specs.Row.{any_row, before, before_place, before_all, before_others}
use Rattle.inspect.specs.Child.{kind_within}
use Rattle.inspect.specs.Class.{constructs, member_constructor}
use Rattle.walk_laws.specs.Rows.{visit_at, fresh}
use Rattle.walk_laws.specs.Written.{word_by, written, written_end, length_written}
use Rattle.walk_laws.specs.Slots.{Standing, standing_at}
use Rattle.walk_laws.specs.Kinds.{is_element_kind, class_one, class_inside, class_kind}
use Rattle.walk_laws.specs.Roles.{constructor_kind}
use Rattle.walk_laws.specs.Members.{bare_words, key_words}
use Rattle.walk_laws.specs.Elements.{Called, parameters_at, key_at, method_called}
use Rattle.walk_laws.specs.ClassPlaces.{class_arity}
use Rattle.walk_laws.specs.ClassPlan.{plan_of, under, optional, export_words, rk, scope, heritage_at, body_at, at_heritage, at_body, ds, els, queue, plan, front, block, queue_count, head_words, element_words, body_words, class_words, assignment_words, queue_words}
use Rattle.walk_laws.specs.ClassFacts.{decorators_are, body_in, body_kind, body_behind, body_after}
use Rattle.walk_laws.specs.Classes.{first_none, first_written, first_entries, class_written, class_count_lem}
use Rattle.counter.specs.Contract.{Below, Counts}
use Rattle.counter.specs.declared.Counted.{Counted}
use Rattle.transform.specs.Under.{written_same}
use Rattle.transform.specs.Nest.{nest_at, nest_part, nest_kids, nest_class}
use Rattle.transform.specs.Contract.{begun, word_below, words_of, here_at, calls_at, after_at, kids_here, Asks, Moved, Emitted, Queues, behind_words, member_words}
use Rattle.transform.specs.ClassWords.{scope_of, decorated, word_in, body_word, front_of, block_of, let_words, head_by, head_of, flags_of, name_words, front_words, assign_words, elements_by, block_by, body_by, first_by, assignment_by, Plans}
use Rattle.transform.specs.Plans.{counts_default}
use Rattle.transform.specs.Steps.{length_words, state_low, asks_place, asks_kids, asks_words, here_one, here_kids, after_none, after_more, end_more', counts_after}
use Rattle.transform.specs.StepsCalls.{below_id}
use Rattle.transform.specs.declared.ClassPlan.{ClassPlan}
use Rattle.transform.specs.declared.Walk.{Walk}

-- ---- a class by its plan and by its place

empty_count : (f : Trees) → is_empty f ≡ eqb (count_f f) 0
unfolding is_empty count_f
empty_count end = refl
empty_count (node l k r) = sym (eqb-suc-zero (count_f r))

module _ {ws : List ℕ} {at n : ℕ} {g : ClassPlan} (p : Plans ws at n g) (c : ClassStack) where
  pub scope_plan : scope_of g ≡ scope ws at
  unfolding scope
  scope_plan = ap (λ (o : Option ℕ). record { live = true; id = o }) p.id

  -- the state in front of the class
  pub start_plan : begun n ≡ fresh n
  unfolding fresh
  start_plan = refl

  some_if : (x : Bool) → is_some (cond x (some (plan ws at n).outer) none) ≡ x
  some_if true = refl
  some_if false = refl

  pub decorated_plan : decorated g ≡ is_decorated (rk ws at)
  decorated_plan = ap is_some p.symbols.outer ∙ some_if (is_decorated (rk ws at))

  -- its symbol
  pub outer_plan : (o : ℕ) → g.outer ≡ some o → o ≡ (plan ws at n).outer
  outer_plan o e = sym (cond_some (is_decorated (rk ws at)) (plan ws at n).outer o (sym p.symbols.outer ∙ e)).1

  alias_plan : is_decorated (rk ws at) ≡ false → (plan ws at n).alias ≡ none
  unfolding plan plan_of
  alias_plan e = rw e

  under_plan : (k q : ℕ) → body_word g c k q ≡ under (word_below c) (plan ws at n).outer (plan ws at n).alias k q
  unfolding body_word word_in
  under_plan k q = go (is_decorated (rk ws at)) refl
    where
      go : (x : Bool) → is_decorated (rk ws at) ≡ x → word_in (word_below c) g.outer g.alias k q ≡ under (word_below c) (plan ws at n).outer (plan ws at n).alias k q
      go true e = rw (p.symbols.outer, e, p.symbols.alias)
      go false e = rw (p.symbols.outer, e, alias_plan e) (unfold under in refl)

  -- what stands in front of the class
  pub head_plan : head_of g c (label_at ws at).payload ≡ head_words ws at n (word_below c)
  unfolding head_of head_by head_words let_words
  head_plan = go (is_decorated (rk ws at)) refl
    where
      go : (x : Bool) → is_decorated (rk ws at) ≡ x → head_by g c g.outer (label_at ws at).payload ≡ head_words ws at n (word_below c)
      go true e = rw (p.symbols.outer, e, p.symbols.alias, p.fixed, p.private)
      go false e = rw (p.symbols.outer, e)

  front_plan : front_of g ≡ front ws at n
  unfolding front_of front
  front_plan = rw (p.symbols.alias, p.fixed)

  block_plan : block_of g ≡ block ws at n
  block_plan = go g.private refl
    where
      go : (x : Bool) → g.private ≡ x → block_of g ≡ block ws at n
      go true e = unfold block_of block in rw (p.calls e, p.private, decorated_plan, empty_count (queue ws at n))
      go false e = unfold block_of block in rw (← p.private, e)

  -- the words of the block behind its elements, rest being those behind the static block's
  block_words_lem : (rest : List ℕ) → cond (block ws at n) (word_below c 33 g.calls ∷ rest) [] ≡ cond (block ws at n) (word_below c 33 (count_f (queue ws at n)) ∷ rest) []
  block_words_lem rest = go g.private refl
    where
      go : (x : Bool) → g.private ≡ x → cond (block ws at n) (word_below c 33 g.calls ∷ rest) [] ≡ cond (block ws at n) (word_below c 33 (count_f (queue ws at n)) ∷ rest) []
      go true e = rw (p.calls e)
      go false e = unfold block in rw (← p.private, e)

  -- its decorators
  pub ds_plan : here_at ws (at + 3) (arity_at ws (at + 2)) (scope_of g) (begun n) ≡ ds ws at n
  unfolding here_at ds
  ds_plan = cc (scope_plan, start_plan)

  -- its heritage; q, s: the place and the state in front of it
  module _ (q : ℕ) (s : State) (qe : q ≡ heritage_at ws at) (se : s ≡ at_heritage ws at n) where
    heritage_plan : here_at ws q (bit2 (label_at ws (at + 1)).payload) (scope_of g) s ≡ (visit_at ws (heritage_at ws at) (bit2 (label_at ws (at + 1)).payload) (scope ws at) (at_heritage ws at n)).here
    unfolding here_at
    heritage_plan = cc (scope_plan, se, qe)

    -- the class
    pub class_plan : name_words g c (label_at ws (at + 1)).payload ++ (words_of c (here_at ws q (bit2 (label_at ws (at + 1)).payload) (scope_of g) s) ++ body_words ws at n (word_below c)) ≡ class_words ws at n (word_below c)
    unfolding name_words flags_of class_words words_of
    class_plan = rw (heritage_plan, p.id, p.symbols.inner)

  -- its body at b; s: the state in front of it
  module _ (b : ℕ) (s : State) (be : b ≡ body_at ws at) (se : s ≡ at_body ws at n) where
    els_plan : kids_here ws b (scope_of g) s ≡ els ws at n
    els_plan = sym (here_kids ws b (scope_of g) s) ∙ (unfold here_at els in cc (scope_plan, se, be))

    pub calls_plan : calls_at ws (b + 1) (arity_at ws b) (scope_of g) s ≡ queue ws at n
    unfolding calls_at queue
    calls_plan = cc (scope_plan, se, be)

    pub count_plan : g.private ≡ true → g.calls ≡ count_f (calls_at ws (b + 1) (arity_at ws b) (scope_of g) s)
    count_plan t = p.calls t ∙ ap count_f (sym calls_plan)

    words_plan : (f : Trees) → written (body_word g c) f ≡ written (under (word_below c) (plan ws at n).outer (plan ws at n).alias) f
    words_plan f = written_same (body_word g c) (under (word_below c) (plan ws at n).outer (plan ws at n).alias) under_plan f

    pub body_plan : body_by g c ws b s ≡ body_words ws at n (word_below c)
    unfolding body_by block_by body_words element_words front_words words_of
    body_plan =
        rw (els_plan, words_plan (cond (decorated g) (bare_first (els ws at n)) (els ws at n)), calls_plan, front_plan, block_plan, block_words_lem _, p.symbols.alias, be, decorated_plan)

    -- its assignment
    pub assignment_plan : (o : ℕ) → g.outer ≡ some o → assignment_by g c o ws (ds ws at n) b s ≡ assignment_words ws at n (word_below c)
    unfolding assignment_by assign_words assignment_words first_by words_of
    assignment_plan o e =
        let x : List ℕ = optional (word_below c) 18 (plan ws at n).alias in
        rw (els_plan, words_plan (first_constructor (els ws at n)), outer_plan o e, p.symbols.alias, append_assoc x (word_below c 22 2 ∷ []))

    -- what stands behind the statement and its members' calls
    abbrev pub behind_calls : Option ℕ → List ℕ
    behind_calls none = []
    behind_calls (some o) = assignment_by g c o ws (ds ws at n) b s ++ export_words (word_below c) (label_at ws at).payload o

    pub queue_plan : (x : Option ℕ) → g.outer ≡ x → g.private ≡ false → words_of c (queue ws at n) ++ behind_calls x ≡ queue_words ws at n (word_below c)
    unfolding queue_words words_of
    queue_plan (some o) e z =
        let y : has_private_in (rk ws at) ≡ false = sym p.private ∙ z in
        let d : is_decorated (rk ws at) ≡ true = sym decorated_plan ∙ ap is_some e in
        rw (assignment_plan o e, outer_plan o e, y, d)
    queue_plan none e z =
        let y : has_private_in (rk ws at) ≡ false = sym p.private ∙ z in
        let d : is_decorated (rk ws at) ≡ false = sym decorated_plan ∙ ap is_some e in
        rw (y, d)

-- ---- further on in a row, by place

pub asks_first : {ws : List ℕ} {notes : List Note} {at k n : ℕ} {c : ClassStack} {pos len : ℕ} → Asks ws notes at k n c pos len → (a : Around) (s : State) (j p l : ℕ) → s.next ≡ n → j ≤ k →
    p + l < 67108864 → Asks ws notes at j n c p l
asks_first {ws} {notes} {at} {k} {n} {c} f a s j p l z h g =
    subst (λ (m : ℕ). Asks ws notes at j m c p l) z
    (asks_place f a s 0 j at s p l z (omega arith) (sym (end_none ws at)) (after_none ws at a s) g)

-- ---- the first constructor

constructors : (f : Trees) → has_constructor f ≡ any_row constructs f
unfolding has_constructor any_row constructs
constructors end = refl
constructors (node l k r) = ap (is_constructor l ||◌) (constructors r)

-- j elements of the body at b stand before it
pub record FirstAt (ws : List ℕ) (b j : ℕ) : Type 0 where
  pub most : j < arity_at ws b
  pub unmet : has_constructor (take_f j (records_at ws (b + 1))) ≡ false
  pub inside : end_of ws (b + 1) j < length ws
  pub there : is_constructor (label_at ws (end_of ws (b + 1) j)) ≡ true

module _ (ws : List ℕ) (b k j : ℕ) (ke : k ≡ arity_at ws b) (je : j ≡ before constructs k (records_at ws (b + 1))) where
  pub no_constructor : k ≤ j → has_constructor (kids_at ws b) ≡ false
  unfolding kids_at
  no_constructor h = rw (← ke) (constructors (take_f k (records_at ws (b + 1))) ∙ before_all constructs ws (b + 1) k j je h)

  pub first_at : j < k → FirstAt ws b j
  unfolding constructs
  first_at h =
      let g = before_place constructs ws (b + 1) k j je h in
      record { most = omega (arith, ke); unmet = constructors (take_f j (records_at ws (b + 1))) ∙ before_others constructs ws (b + 1) k j je; inside = g.0; there = g.1 }

-- a constructor has no key to assign
constructor_words : (ws : List ℕ) (at : ℕ) (g : ClassPlan) (s : State) (c : ClassStack) → is_constructor (label_at ws at) ≡ true →
    member_words ws at (scope_of g) s c ≡ word_by (word_below c) (label_at ws at) ∷ word_below c 28 0 ∷ behind_words ws at (scope_of g) s c
unfolding member_words key_words
constructor_words ws at g s c e =
    let d : is_decorated_member (label_at ws at) (kids_at ws at) ≡ false = member_constructor (label_at ws at) (kids_at ws at) (constructor_kind (label_at ws at) e) e in
    rw d

-- the words of the i elements of the body at b that stand behind the j-th; t: the state in front of that one
unfoldable words_from : List ℕ → ℕ → ℕ → ℕ → Around → ClassStack → State → List ℕ
words_from ws b j i a c t = written (word_below c) (visit_at ws (end_of ws (end_of ws (b + 1) j) 1) i a (visit_at ws (end_of ws (b + 1) j) 1 a t).after).here

-- ---- the elements of the body at b

module _ {ws : List ℕ} {notes : List Note} {b : ℕ} {c : ClassStack} {pos : ℕ} (g : ClassPlan) (s : State) (f : Asks ws notes b 1 s.next c pos (length (elements_by g c ws b s))) (h : b < length ws)
    (kind : (label_at ws b).kind ≡ 29) where
  -- none of them changes
  pub elements_plain : decorated g ≡ false → elements_by g c ws b s ≡ words_of c (kids_here ws b (scope_of g) s)
  unfolding elements_by
  elements_plain e = rw e

  elements_bare : decorated g ≡ true → elements_by g c ws b s ≡ words_of c (bare_first (kids_here ws b (scope_of g) s))
  unfolding elements_by
  elements_bare e = rw e

  pub elements_none : decorated g ≡ true → has_constructor (kids_at ws b) ≡ false → elements_by g c ws b s ≡ words_of c (kids_here ws b (scope_of g) s)
  unfolding kids_here
  elements_none e n = elements_bare e ∙ (ap (words_of c) (first_none ws f.ready.whole b h kind (scope_of g) s n).0)

  module _ (k : ℕ) (ke : k ≡ arity_at ws b) (x : elements_by g c ws b s ≡ words_of c (kids_here ws b (scope_of g) s)) where
    row_here : elements_by g c ws b s ≡ words_of c (here_at ws (b + 1) k (scope_of g) s)
    row_here = x ∙ ap (words_of c) (sym (here_kids ws b (scope_of g) s) ∙ ap (λ (i : ℕ). here_at ws (b + 1) i (scope_of g) s) (sym ke))

    pub elements_asks : Asks ws notes (b + 1) k s.next c pos (size (here_at ws (b + 1) k (scope_of g) s))
    elements_asks =
        subst (λ (i : ℕ). Asks ws notes (b + 1) i s.next c pos (size (here_at ws (b + 1) k (scope_of g) s))) (sym ke)
        (asks_kids f pos (size (here_at ws (b + 1) k (scope_of g) s)) refl h (omega (arith, f.fit, ap length row_here, length_words c (here_at ws (b + 1) k (scope_of g) s))))

    pub elements_wrote : {m : ℕ} {o o' : List ℕ} {r : Walk} → Emitted ws (b + 1) k (scope_of g) s c o pos m o' r → Wrote o pos (elements_by g c ws b s) o' r.pos
    elements_wrote {m} {o} {o'} {r} y = subst (λ (l : List ℕ). Wrote o pos l o' r.pos) (sym row_here) y.moved.wrote

  -- the j-th is the first constructor; the walk stands there at q, with the state m, e
  module _ (dec : decorated g ≡ true) (k j : ℕ) (ke : k ≡ arity_at ws b) (first : FirstAt ws b j) where
    row_asks : (p l : ℕ) → p + l < 67108864 → Asks ws notes (b + 1) k s.next c p l
    row_asks p l z = subst (λ (i : ℕ). Asks ws notes (b + 1) i s.next c p l) (sym ke) (asks_kids f p l refl h z)

    parts : elements_by g c ws b s ≡
        words_of c (here_at ws (b + 1) j (scope_of g) s) ++
        ((word_by (word_below c) (label_at ws (end_of ws (b + 1) j)) ∷ word_below c 28 0 ∷ bare_words (word_below c) ws (scope_of g) (end_of ws (b + 1) j) (after_at ws (b + 1) j (scope_of g) s)) ++
        words_from ws b j (k - j - 1) (scope_of g) c (after_at ws (b + 1) j (scope_of g) s))
    unfolding kids_here words_of words_from here_at after_at
    parts =
        elements_bare dec
        ∙ first_written ws f.ready.whole b h kind (scope_of g) s j first.most first.unmet first.there (word_below c)
        ∙ rw (← ke)

    module _ (q : ℕ) (s₁ : State) (qe : q ≡ end_of ws (b + 1) j) (t : after_at ws (b + 1) j (scope_of g) s ≡ s₁) where
      three : elements_by g c ws b s ≡ words_of c (here_at ws (b + 1) j (scope_of g) s) ++ (member_words ws q (scope_of g) s₁ c ++ words_from ws b j (k - j - 1) (scope_of g) c s₁)
      three =
          let w : member_words ws q (scope_of g) s₁ c ≡ word_by (word_below c) (label_at ws q) ∷ word_below c 28 0 ∷ bare_words (word_below c) ws (scope_of g) q s₁ =
          constructor_words ws q g s₁ c (ap (λ (i : ℕ). is_constructor (label_at ws i)) qe ∙ first.there) ∙ (unfold behind_words in refl) in
          parts ∙ rw (t, ← qe, w)

      -- what was to be written: the elements before it, itself without its parameters' decorators, those behind it
      lengths : length (elements_by g c ws b s) ≡
          size (here_at ws (b + 1) j (scope_of g) s) + (length (member_words ws q (scope_of g) s₁ c) + length (words_from ws b j (k - j - 1) (scope_of g) c s₁))
      lengths =
          let x : List ℕ = words_of c (here_at ws (b + 1) j (scope_of g) s) in
          let y : List ℕ = member_words ws q (scope_of g) s₁ c in
          let z : List ℕ = words_from ws b j (k - j - 1) (scope_of g) c s₁ in
          omega (arith, ap length three, length-append x (y ++ z), length-append y z, length_words c (here_at ws (b + 1) j (scope_of g) s))

      -- those behind it: the walk stands there at q₂, with the state m₂, e₂
      module _ (q₂ : ℕ) (s₂ : State) (qe₂ : q₂ ≡ end_of ws q 1) (t₂ : after_at ws q 1 (scope_of g) s₁ ≡ s₂) where
        from_here : words_from ws b j (k - j - 1) (scope_of g) c s₁ ≡ words_of c (here_at ws q₂ (k - j - 1) (scope_of g) s₂)
        unfolding words_from words_of here_at after_at
        from_here = cc (qe, qe₂, t₂)

        after_both : after_at ws (b + 1) (j + 1) (scope_of g) s ≡ s₂
        after_both = after_more ws (b + 1) (scope_of g) s j 1 q s₁ qe t ∙ t₂

        end_both : q₂ ≡ end_of ws (b + 1) (j + 1)
        end_both = qe₂ ∙ sym (end_more' ws (b + 1) (scope_of g) s j 1 q s₁ qe t)

    -- before it
    pub before_asks : Asks ws notes (b + 1) j s.next c pos (size (here_at ws (b + 1) j (scope_of g) s))
    before_asks =
        let x : List ℕ = words_of c (here_at ws (b + 1) j (scope_of g) s) in
        let y : List ℕ =
        (word_by (word_below c) (label_at ws (end_of ws (b + 1) j)) ∷ word_below c 28 0 ∷ bare_words (word_below c) ws (scope_of g) (end_of ws (b + 1) j) (after_at ws (b + 1) j (scope_of g) s)) ++
        words_from ws b j (k - j - 1) (scope_of g) c (after_at ws (b + 1) j (scope_of g) s) in
        asks_first (row_asks pos 0 (omega (arith, f.fit))) (scope_of g) s j pos (size (here_at ws (b + 1) j (scope_of g) s)) refl (omega (arith, ke, first.most))
        (omega (arith, f.fit, ap length parts, length-append x y, length_words c (here_at ws (b + 1) j (scope_of g) s)))

    module _ {m : ℕ} {o o₁ : List ℕ} {r : Walk} (y : Emitted ws (b + 1) j (scope_of g) s c o pos m o₁ r) where
      pub constructor_asks : Asks ws notes r.at 1 r.state.next c r.pos (length (member_words ws r.at (scope_of g) r.state c))
      constructor_asks =
          asks_place (row_asks pos 0 (omega (arith, f.fit))) (scope_of g) s j 1 r.at r.state r.pos _ refl (omega (arith, ke, first.most)) y.moved.place y.moved.state
          (omega (arith, f.fit, lengths r.at r.state y.moved.place y.moved.state, y.moved.wrote.end, length_words c (here_at ws (b + 1) j (scope_of g) s)))

      pub constructor_inside : (r.at < length ws) × (is_element_kind (label_at ws r.at).kind ≡ true)
      constructor_inside =
          let i : is_constructor (label_at ws r.at) ≡ true = ap (λ (i : ℕ). is_constructor (label_at ws i)) y.moved.place ∙ first.there in
          (omega (arith, y.moved.place, first.inside), ap is_element_kind (constructor_kind (label_at ws r.at) i) ∙ (unfold is_element_kind in refl))

      module _ {o₂ : List ℕ} {r₂ : Walk} (z : Moved (member_words ws r.at (scope_of g) r.state c) (end_of ws r.at 1)
          (after_at ws r.at 1 (scope_of g) r.state) o₁ r.pos o₂ r₂) where
        behind_words_lem : words_from ws b j (k - j - 1) (scope_of g) c r.state ≡ words_of c (here_at ws r₂.at (k - j - 1) (scope_of g) r₂.state)
        behind_words_lem = from_here r.at r.state y.moved.place y.moved.state r₂.at r₂.state z.place z.state

        pub behind_asks : Asks ws notes r₂.at (k - j - 1) r₂.state.next c r₂.pos (size (here_at ws r₂.at (k - j - 1) (scope_of g) r₂.state))
        behind_asks =
            let x : Trees = here_at ws r₂.at (k - j - 1) (scope_of g) r₂.state in
            asks_place (row_asks pos 0 (omega (arith, f.fit))) (scope_of g) s (j + 1) (k - j - 1) r₂.at r₂.state r₂.pos (size x) refl (omega (arith, ke, first.most))
            (end_both r.at r.state y.moved.place y.moved.state r₂.at r₂.state z.place z.state)
            (after_both r.at r.state y.moved.place y.moved.state r₂.at r₂.state z.place z.state)
            (omega (
              arith,
              f.fit,
              lengths r.at r.state y.moved.place y.moved.state,
              y.moved.wrote.end,
              z.wrote.end,
              length_words c (here_at ws (b + 1) j (scope_of g) s),
              ap length behind_words_lem,
              length_words c x,
            ))

        pub bare_wrote : {n : ℕ} {o₃ : List ℕ} {r₃ : Walk} → Emitted ws r₂.at (k - j - 1) (scope_of g) r₂.state c o₂ r₂.pos n o₃ r₃ →
            Wrote o pos (elements_by g c ws b s) o₃ r₃.pos
        bare_wrote {n} {o₃} {r₃} w =
            let x : List ℕ = words_of c (here_at ws (b + 1) j (scope_of g) s) in
            let v : List ℕ = member_words ws r.at (scope_of g) r.state c in
            let l : elements_by g c ws b s ≡ x ++ (v ++ words_of c (here_at ws r₂.at (k - j - 1) (scope_of g) r₂.state)) =
            three r.at r.state y.moved.place y.moved.state ∙ ap (λ (l : List ℕ). x ++ (v ++ l)) behind_words_lem in
            subst (λ (l : List ℕ). Wrote o pos l o₃ r₃.pos) (sym l) (wrote_then y.moved.wrote (wrote_then z.wrote w.moved.wrote))

-- ---- the decorators of the first constructor's parameters in the body at b

module _ {ws : List ℕ} {notes : List Note} {b : ℕ} {c : ClassStack} {pos : ℕ} (g : ClassPlan) (s : State) (f : Asks ws notes b 1 s.next c pos (size (first_by g c ws b s))) (h : b < length ws)
    (kind : (label_at ws b).kind ≡ 29) where
  pub entries_none : has_constructor (kids_at ws b) ≡ false → (o : List ℕ) (m : ℕ) → Wrote o pos (words_of c (first_by g c ws b s)) o pos × (m ≡ m + count_f (first_by g c ws b s))
  entries_none e o m =
      let n : first_by g c ws b s ≡ end = unfold first_by kids_here in (first_none ws f.ready.whole b h kind (scope_of g) s e).1 in
      let z : count_f (first_by g c ws b s) ≡ 0 = ap count_f n ∙ (unfold count_f in refl) in
      let w : words_of c (first_by g c ws b s) ≡ [] = ap (words_of c) n ∙ (unfold words_of in written_end (word_below c)) in
      (subst (λ (l : List ℕ). Wrote o pos l o pos) (sym w) (wrote_none o pos), omega (arith, z))

  -- it is the j-th element; r: the state in front of it
  module _ (j : ℕ) (first : FirstAt ws b j) {r : Counted} (y : Counts ws (b + 1) j (scope_of g) s r) where
    there : (r.at < length ws) × ((label_at ws r.at).kind ≡ 30)
    there = (omega (arith, y.place, first.inside), ap (λ (i : ℕ). (label_at ws i).kind) y.place ∙ constructor_kind _ first.there)

    pub entries_kids : (q l : ℕ) → q + l < 67108864 → Asks ws notes (r.at + 1) (arity_at ws r.at) r.state.next c q l
    entries_kids q l z =
        asks_kids (asks_place (asks_kids f q l refl h z) (scope_of g) s j 1 r.at r.state q l refl (omega (arith, first.most)) y.place (counts_after ws (b + 1) j (scope_of g) s y) z)
        q l refl there.0 z

    has_parameters : Called ws r.at
    has_parameters = method_called ws r.at f.ready.whole there.0 there.1

    -- r₂: the state in front of its 36
    module _ {r₂ : Counted} (z : Counts ws (r.at + 1) 2 (scope_of g) r.state r₂) where
      parameters_place : r₂.at ≡ parameters_at ws r.at
      unfolding parameters_at key_at
      parameters_place = z.place ∙ end_add ws (r.at + 1) 1 1

      pub entries_inside : (r₂.at < length ws) × ((label_at ws r₂.at).kind ≡ 36)
      entries_inside = (omega (arith, parameters_place, has_parameters.place), ap (λ (i : ℕ). (label_at ws i).kind) parameters_place ∙ has_parameters.kind)

      entries_are : first_by g c ws b s ≡ of_parameters 0 (kids_here ws r₂.at (scope_of g) r₂.state)
      unfolding first_by kids_here
      entries_are =
          first_entries ws f.ready.whole b h kind (scope_of g) s j first.most first.unmet first.there
          ∙ cc (y.place, y.state, z.place, z.state)

      pub entries_asks : Asks ws notes r₂.at 1 r₂.state.next c pos (size (of_parameters 0 (kids_here ws r₂.at (scope_of g) r₂.state)))
      entries_asks =
          let e : size (first_by g c ws b s) ≡ size (of_parameters 0 (kids_here ws r₂.at (scope_of g) r₂.state)) = ap size entries_are in
          let l : pos + size (of_parameters 0 (kids_here ws r₂.at (scope_of g) r₂.state)) < 67108864 = omega (arith, f.fit, e) in
          asks_place (entries_kids pos _ l) (scope_of g) r.state 2 1 r₂.at r₂.state pos _ refl
          (omega (arith, has_parameters.count)) z.place (counts_after ws (r.at + 1) 2 (scope_of g) r.state z) l

      pub entries_wrote : (m : ℕ) {o o' : List ℕ} {q i : ℕ} → Wrote o pos (words_of c (of_parameters 0 (kids_here ws r₂.at (scope_of g) r₂.state))) o' q →
          i ≡ m + count_f (of_parameters 0 (kids_here ws r₂.at (scope_of g) r₂.state)) →
          Wrote o pos (words_of c (first_by g c ws b s)) o' q × (i ≡ m + count_f (first_by g c ws b s))
      entries_wrote m {o} {o'} {q} w e = (subst (λ (t : Trees). Wrote o pos (words_of c t) o' q) (sym entries_are) w, omega (arith, e, ap count_f entries_are))

-- ---- the body at b

pub bit_le : (x : Bool) → from_bool x ≤ 1
bit_le true = omega arith
bit_le false = omega arith

module _ {ws : List ℕ} {notes : List Note} {b : ℕ} {c : ClassStack} {pos : ℕ} (g : ClassPlan) (s : State) (f : Asks ws notes b 1 s.next c pos (length (body_by g c ws b s)))
    (r : ClassStack) (re : (k p : ℕ) → body_word g c k p ≡ word_below r k p) where
  body_split : body_by g c ws b s ≡ word_below c 29 (arity_at ws b + (from_bool (front_of g) + from_bool (block_of g))) ∷ (front_words g c ++ (elements_by g r ws b s ++ block_by g c ws b s))
  unfolding body_by elements_by words_of
  body_split = rw (← (written_same (body_word g c) (word_below r) re (cond (decorated g) (bare_first (kids_here ws b (scope_of g) s)) (kids_here ws b (scope_of g) s))))

  pub body_room : pos + 1 + length (front_words g c) + length (elements_by g r ws b s) + length (block_by g c ws b s) < 67108864
  body_room =
      let x : List ℕ = front_words g c in
      let y : List ℕ = elements_by g r ws b s in
      let z : List ℕ = block_by g c ws b s in
      let e : length (body_by g c ws b s) ≡ suc (length (x ++ (y ++ z))) = ap length body_split in
      omega (arith, f.fit, e, length-append x (y ++ z), length-append y z)

  pub block_private : block_of g ≡ true → g.private ≡ true
  unfolding block_of
  block_private e = go g.private _ e
    where
      go : (x y : Bool) → (x && y) ≡ true → x ≡ true
      go true y e = refl
      go false y e = e

  pub block_room : block_of g ≡ true → length (block_by g c ws b s) ≡ 1 + size (calls_at ws (b + 1) (arity_at ws b) (scope_of g) s)
  block_room e = ap length block_is ∙ (let l = length_words c (calls_at ws (b + 1) (arity_at ws b) (scope_of g) s) in omega (arith, l))
    where
      block_is : block_by g c ws b s ≡ word_below c 33 g.calls ∷ words_of c (calls_at ws (b + 1) (arity_at ws b) (scope_of g) s)
      block_is = unfold block_by in rw e

  pub stack_asks : (q : ℕ) → r.depth ≤ c.depth + 1 → c.depth + 1 + nest_at ws b 1 ≤ capacity → q ≡ pos + 1 + length (front_words g c) → Asks ws notes b 1 s.next r q (length (elements_by g r ws b s))
  stack_asks q d n e = record { ready = f.ready; noted = f.noted; deep = omega arith; fit = omega (arith, body_room) }

  -- without and with a block behind the elements
  module _ {o o₁ o₂ o₃ : List ℕ} {m p₁ p₂ p₃ : ℕ} (me : m ≡ arity_at ws b + (from_bool (front_of g) + from_bool (block_of g)))
      (w₁ : Wrote o pos (word_below c 29 m ∷ []) o₁ p₁) (w₂ : Wrote o₁ p₁ (front_words g c) o₂ p₂) (w₃ : Wrote o₂ p₂ (elements_by g r ws b s) o₃ p₃) where
    first_three : Wrote o pos (word_below c 29 m ∷ (front_words g c ++ elements_by g r ws b s)) o₃ p₃
    first_three = wrote_then w₁ (wrote_then w₂ w₃)

    pub body_wrote : block_of g ≡ false → Wrote o pos (body_by g c ws b s) o₃ p₃
    body_wrote e =
        let n : block_by g c ws b s ≡ [] = unfold block_by in rw e in
        let l : body_by g c ws b s ≡ word_below c 29 m ∷ (front_words g c ++ elements_by g r ws b s) = body_split ∙ rw (me, n, append-nil (elements_by g r ws b s)) in
        subst (λ (l : List ℕ). Wrote o pos l o₃ p₃) (sym l) first_three

    pub block_wrote : {o₄ o₅ : List ℕ} {p₄ k b₀ : ℕ} {q : Walk} → block_of g ≡ true → k ≡ arity_at ws b → Wrote o₃ p₃ (word_below c 33 g.calls ∷ []) o₄ p₄ →
        Queues ws (b + 1) k (scope_of g) s c o₄ p₄ b₀ o₅ q → Wrote o pos (body_by g c ws b s) o₅ q.pos
    block_wrote {o₅ = o₅} {k = k} {q} e ke w₄ w₅ =
        let x : List ℕ = word_below c 33 g.calls ∷ words_of c (calls_at ws (b + 1) k (scope_of g) s) in
        let n : block_by g c ws b s ≡ x = unfold block_by in rw (e, ke) in
        let l : body_by g c ws b s ≡ word_below c 29 m ∷ (front_words g c ++ (elements_by g r ws b s ++ x)) = body_split ∙ rw (me, n) in
        subst (λ (l : List ℕ). Wrote o pos l o₅ q.pos) (sym l) (wrote_then w₁ (wrote_then w₂ (wrote_then w₃ (wrote_then w₄ w₅.moved.wrote))))

-- ---- the class of the statement at `at`

flags_rule : (x p : ℕ) → holds (row_of 26).rule x p ≡ true → p < 8
unfolding holds row_of table row lookup bit0 bit1
flags_rule x p e = go (ltb p 8) refl e
  where
    go : (b : Bool) → ltb p 8 ≡ b → cond b (cond (ltb x 2) (eqb (p % 2) 1) (eqb (p / 2 % 2) 0)) false ≡ true → p < 8
    go true t e = ltb-true p 8 t
    go false t e = let z : ◌≡◌ {A = ℕ} 0 1 = cc in absurd (omega arith)

-- its flags
flags_few : (ws : List ℕ) (whole : Fits (module' ∷ []) (records_at ws 0)) (at : ℕ) → at < length ws → (label_at ws at).kind ≡ 26 → (label_at ws at).payload < 8
flags_few ws whole at h kind =
    let t : Standing ws at = standing_at ws (module' ∷ []) whole at h in
    flags_rule t.slot.context (label_at ws at).payload (ap (λ (k : ℕ). holds (row_of k).rule t.slot.context (label_at ws at).payload) (sym kind) ∙ (allowed_row t.slot _ _ t.own.grammar).1)

module _ {ws : List ℕ} {notes : List Note} {at n : ℕ} {c : ClassStack} {pos len : ℕ} (f : Asks ws notes at 1 n c pos len) (h : at < length ws) (kind : (label_at ws at).kind ≡ 4) where
  -- its children
  pub inside_asks : (q l : ℕ) → q + l < 67108864 → Asks ws notes (at + 2) (arity_at ws (at + 1)) n c q l
  inside_asks q l z =
      let e : at + 1 + 1 ≡ at + 2 = omega arith in
      subst (λ (i : ℕ). Asks ws notes i (arity_at ws (at + 1)) n c q l) e
      (asks_kids (asks_kids f q l refl h z) q l (class_one ws f.ready.whole at h kind) (class_inside ws f.ready.whole at h kind) z)

  inside_deep : c.depth + 1 + nest_at ws (at + 2) (arity_at ws (at + 1)) ≤ capacity
  inside_deep =
      let e : at + 1 + 1 ≡ at + 2 = omega arith in
      omega (
        arith,
        f.deep,
        nest_class ws at h kind,
        ap (nest_at ws (at + 1)) (class_one ws f.ready.whole at h kind),
        nest_kids ws (at + 1) (class_inside ws f.ready.whole at h kind),
        ap (λ (i : ℕ). nest_at ws i (arity_at ws (at + 1))) e,
      )

  pub few_flags : (label_at ws (at + 1)).payload < 8
  few_flags = flags_few ws f.ready.whole (at + 1) (class_inside ws f.ready.whole at h kind) (class_kind ws f.ready.whole at h kind)

  parts_count : arity_at ws (at + 1) ≡ 1 + bit0 (label_at ws (at + 1)).payload + (bit2 (label_at ws (at + 1)).payload + 1)
  parts_count = class_arity ws (at + 1) (at + 2) (omega arith) (standing_at ws (module' ∷ []) f.ready.whole (at + 1) (class_inside ws f.ready.whole at h kind)) (class_kind ws f.ready.whole at h kind)

  pub class_parts_lem : 1 ≤ arity_at ws (at + 1)
  class_parts_lem = omega (arith, parts_count)

  module _ {g : ClassPlan} (p : Plans ws at n g) where
    -- behind its 28 and its id
    module _ {k : ℕ} {r : Counted} (ke : k ≡ 1 + bit0 (label_at ws (at + 1)).payload) (y : Counts ws (at + 2) k (scope_of g) (begun n) r) where
      heritage_place : r.at ≡ heritage_at ws at
      unfolding heritage_at
      heritage_place = y.place ∙ ap (end_of ws (at + 2)) ke

      heritage_after : after_at ws (at + 2) k (scope_of g) (begun n) ≡ r.state
      heritage_after = counts_after ws (at + 2) k (scope_of g) (begun n) y

      heritage_state_lem : r.state ≡ at_heritage ws at n
      unfolding at_heritage
      heritage_state_lem =
          let v : after_at ws (at + 2) k (scope_of g) (begun n) ≡ (visit_at ws (at + 2) k (scope_of g) (begun n)).after = unfold after_at in refl in
          sym heritage_after ∙ v ∙ cc (scope_plan p c, start_plan p c, ke)

      heritage_asks : (i q l : ℕ) → i ≡ bit2 (label_at ws (at + 1)).payload → q + l < 67108864 → Asks ws notes r.at i r.state.next c q l
      heritage_asks i q l ie z =
          asks_place (inside_asks q l z) (scope_of g) (begun n) k i r.at r.state q l refl (omega (arith, parts_count)) y.place heritage_after z

      -- behind its heritage
      module _ {i : ℕ} {o o₁ : List ℕ} {q m : ℕ} {r₁ : Walk} (ie : i ≡ bit2 (label_at ws (at + 1)).payload) (z : Emitted ws r.at i (scope_of g) r.state c o q m o₁ r₁) where
        behind_place : r₁.at ≡ body_at ws at
        unfolding body_at
        behind_place = z.moved.place ∙ cc (heritage_place, ie)

        behind_state : r₁.state ≡ at_body ws at n
        unfolding at_body
        behind_state =
            let v : after_at ws r.at i (scope_of g) r.state ≡ (visit_at ws r.at i (scope_of g) r.state).after = unfold after_at in refl in
            sym z.moved.state ∙ v ∙ cc (scope_plan p c, heritage_state_lem, heritage_place, ie)

    -- the body at b; s: the state in front of it
    module _ (b : ℕ) (s : State) (be : b ≡ body_at ws at) (se : s ≡ at_body ws at n) where
      body_state_lem : after_at ws (at + 2) (arity_at ws (at + 1) - 1) (scope_of g) (begun n) ≡ s
      body_state_lem =
          let v : after_at ws (at + 2) (arity_at ws (at + 1) - 1) (scope_of g) (begun n) ≡
          (visit_at ws (at + 2) (arity_at ws (at + 1) - 1) (scope_of g) (begun n)).after = unfold after_at in refl in
          v ∙ cc (scope_plan p c, start_plan p c, body_after ws f.ready.whole at h kind n, se)

      body_asks : (q l : ℕ) → q + l < 67108864 → Asks ws notes b 1 s.next c q l
      body_asks q l z =
          asks_place (inside_asks q l z) (scope_of g) (begun n) (arity_at ws (at + 1) - 1) 1 b s q l refl (omega (arith, parts_count))
          (be ∙ sym (body_behind ws f.ready.whole at h kind)) body_state_lem z

      pub body_inside : b < length ws
      body_inside = omega (arith, be, body_in ws f.ready.whole at h kind)

      pub body_is : (label_at ws b).kind ≡ 29
      body_is = ap (λ (i : ℕ). (label_at ws i).kind) be ∙ body_kind ws f.ready.whole at h kind

      pub body_later : at + 2 ≤ b
      body_later = omega (arith, be, body_behind ws f.ready.whole at h kind, end_low ws (at + 2) (arity_at ws (at + 1) - 1))

      pub body_deep : c.depth + 1 + nest_at ws b 1 ≤ capacity
      body_deep =
          omega (
            arith,
            inside_deep,
            parts_count,
            nest_part ws (at + 2) (arity_at ws (at + 1) - 1) 1 (arity_at ws (at + 1)) (omega (arith, parts_count)),
            ap (λ (i : ℕ). nest_at ws i 1) (be ∙ sym (body_behind ws f.ready.whole at h kind)),
          )

      -- the symbols of the class are below the counter
      pub body_id : Below s.next g.id
      body_id =
          below_id f.ready h kind g.id s.next p.id (state_low ws (at + 2) (arity_at ws (at + 1) - 1) (scope_of g) (begun n) s body_state_lem)

      pub body_default : Below s.next s.default
      body_default =
          let k : ℕ = arity_at ws (at + 1) - 1 in
          let y : Counts ws (at + 2) k (scope_of g) (begun n) (record { at = end_of ws (at + 2) k; state = s }) = record { place = refl; state = unfold after_at in body_state_lem } in
          counts_default y (unfold Below in tt)

-- the class as it stays: its words, its id and its heritage, its body; x: its flags
module _ {ws : List ℕ} {notes : List Note} {at n : ℕ} {c : ClassStack} {pos : ℕ} (f : Asks ws notes at 1 n c pos (length (class_words ws at n (word_below c)))) (h : at < length ws) (kind : (label_at ws at).kind ≡ 4)
    {g : ClassPlan} (p : Plans ws at n g) (x : ℕ) (xe : x ≡ (label_at ws (at + 1)).payload) where
  id_flag : 1 + x % 2 ≡ 1 + bit0 (label_at ws (at + 1)).payload
  unfolding bit0
  id_flag = rw xe

  heritage_flag : x / 4 % 2 ≡ bit2 (label_at ws (at + 1)).payload
  unfolding bit2
  heritage_flag = rw xe

  module _ {o o₁ : List ℕ} {p₁ : ℕ} (w₁ : Wrote o pos (name_words g c x) o₁ p₁) {r : Counted} (y : Counts ws (at + 2) (1 + x % 2) (scope_of g) (begun n) r) where
    parts_words : class_words ws at n (word_below c) ≡ name_words g c x ++ (words_of c (here_at ws r.at (x / 4 % 2) (scope_of g) r.state) ++ body_words ws at n (word_below c))
    parts_words =
        sym (class_plan p c r.at r.state (heritage_place f h kind p id_flag y) (heritage_state_lem f h kind p id_flag y))
        ∙ rw (heritage_flag, xe)

    parts_length : length (class_words ws at n (word_below c)) ≡
        length (name_words g c x) + (size (here_at ws r.at (x / 4 % 2) (scope_of g) r.state) + length (body_words ws at n (word_below c)))
    parts_length =
        let u : Trees = here_at ws r.at (x / 4 % 2) (scope_of g) r.state in
        omega (
          arith,
          ap length parts_words,
          length-append (name_words g c x) (words_of c u ++ body_words ws at n (word_below c)),
          length-append (words_of c u) (body_words ws at n (word_below c)),
          length_words c u,
        )

    pub class_heritage : Asks ws notes r.at (x / 4 % 2) r.state.next c p₁ (size (here_at ws r.at (x / 4 % 2) (scope_of g) r.state))
    class_heritage = heritage_asks f h kind p id_flag y (x / 4 % 2) p₁ _ heritage_flag (omega (arith, f.fit, w₁.end, parts_length))

    module _ {m : ℕ} {o₂ : List ℕ} {q : Walk} (z : Emitted ws r.at (x / 4 % 2) (scope_of g) r.state c o₁ p₁ m o₂ q) where
      pub class_place : q.at ≡ body_at ws at
      class_place = behind_place f h kind p id_flag y heritage_flag z

      pub class_state : q.state ≡ at_body ws at n
      class_state = behind_state f h kind p id_flag y heritage_flag z

      body_here : body_by g c ws q.at q.state ≡ body_words ws at n (word_below c)
      body_here = body_plan p c q.at q.state class_place class_state

      pub class_body_asks : Asks ws notes q.at 1 q.state.next c q.pos (length (body_by g c ws q.at q.state))
      class_body_asks =
          let u : Trees = here_at ws r.at (x / 4 % 2) (scope_of g) r.state in
          body_asks f h kind p q.at q.state class_place class_state q.pos _
          (omega (arith, f.fit, w₁.end, parts_length, z.moved.wrote.end, length_words c u, ap length body_here))

      pub class_wrote : {o₃ : List ℕ} {p₃ : ℕ} → Wrote o₂ q.pos (body_by g c ws q.at q.state) o₃ p₃ → Wrote o pos (class_words ws at n (word_below c)) o₃ p₃
      class_wrote {o₃} {p₃} w₃ =
          subst (λ (l : List ℕ). Wrote o pos l o₃ p₃) (sym parts_words)
          (wrote_then w₁ (wrote_then z.moved.wrote (subst (λ (l : List ℕ). Wrote o₂ q.pos l o₃ p₃) body_here w₃)))

-- ---- rule 7: the class assignment

module _ {ws : List ℕ} {notes : List Note} {at n : ℕ} {c : ClassStack} {pos : ℕ} {g : ClassPlan} {b : ℕ} (outer : ℕ) (s : State) (f : Asks ws notes at 1 n c pos (length (assignment_by g c outer ws (ds ws at n) b s))) (h : at < length ws)
    (kind : (label_at ws at).kind ≡ 4) (p : Plans ws at n g) (be : b ≡ body_at ws at) (se : s ≡ at_body ws at n) where
  decorators_in : at + 2 < length ws
  decorators_in = kind_within ws (at + 2) 27 (decorators_are ws f.ready.whole at h kind)

  assignment_is : assignment_by g c outer ws (ds ws at n) b s ≡
      assign_words c outer g.alias ++ (word_below c 16 (count_f (ds ws at n) + count_f (first_by g c ws b s)) ∷ (words_of c (ds ws at n) ++ (written (body_word g c) (first_by g c ws b s) ++ (word_below c 9 outer ∷ []))))
  unfolding assignment_by
  assignment_is = refl

  assignment_length : length (assignment_by g c outer ws (ds ws at n) b s) ≡ length (assign_words c outer g.alias) + (1 + (size (ds ws at n) + (size (first_by g c ws b s) + 1)))
  assignment_length =
      let x : List ℕ = words_of c (ds ws at n) in
      let y : List ℕ = written (body_word g c) (first_by g c ws b s) in
      let z : List ℕ = word_below c 9 outer ∷ [] in
      let m : ℕ = word_below c 16 (count_f (ds ws at n) + count_f (first_by g c ws b s)) in
      omega (
        arith,
        ap length assignment_is,
        length-append (assign_words c outer g.alias) (m ∷ (x ++ (y ++ z))),
        length-append x (y ++ z),
        length-append y z,
        length_words c (ds ws at n),
        length_written (body_word g c) (first_by g c ws b s),
      )

  -- the class's decorators
  module _ (k : ℕ) (ke : k ≡ arity_at ws (at + 2)) where
    ds_here : here_at ws (at + 3) k (scope_of g) (begun n) ≡ ds ws at n
    ds_here = ap (λ (i : ℕ). here_at ws (at + 3) i (scope_of g) (begun n)) ke ∙ ds_plan p c

    pub decorators_asks : (q : ℕ) → q ≡ pos + length (assign_words c outer g.alias) → Asks ws notes (at + 3) k n c (q + 1) (size (here_at ws (at + 3) k (scope_of g) (begun n)))
    decorators_asks q qe =
        let t : Trees = here_at ws (at + 3) k (scope_of g) (begun n) in
        let z : q + 1 + size t < 67108864 = omega (arith, f.fit, assignment_length, ap size ds_here) in
        let e : at + 2 + 1 ≡ at + 3 = omega arith in
        subst (λ (i : ℕ). Asks ws notes (at + 3) i n c (q + 1) (size t)) (sym ke)
        (subst (λ (i : ℕ). Asks ws notes i (arity_at ws (at + 2)) n c (q + 1) (size t)) e
        (asks_kids (asks_first (inside_asks f h kind (q + 1) (size t) z) (scope_of g) (begun n) 1 (q + 1) (size t) refl (class_parts_lem f h kind) z) (q + 1) (size t) refl decorators_in z))

    module _ {o o₁ o₂ : List ℕ} {p₁ : ℕ} {q : Walk} (w₁ : Wrote o pos (assign_words c outer g.alias) o₁ p₁) (w₂ : Emitted ws (at + 3) k (scope_of g) (begun n) c o₁ (p₁ + 1) 0 o₂ q)
        (r : ClassStack) (re : (k p : ℕ) → body_word g c k p ≡ word_below r k p) where
      first_same : first_by g r ws b s ≡ first_by g c ws b s
      unfolding first_by
      first_same = refl

      ds_size : size (here_at ws (at + 3) k (scope_of g) (begun n)) ≡ size (ds ws at n)
      ds_size = ap size ds_here

      entries_room : q.pos + (size (first_by g r ws b s) + 1) < 67108864
      entries_room =
          omega (arith, f.fit, assignment_length, w₁.end, w₂.moved.wrote.end, length_words c (here_at ws (at + 3) k (scope_of g) (begun n)), ds_size, ap size first_same)

      pub assignment_entries : r.depth ≤ c.depth + 1 → Asks ws notes b 1 s.next r q.pos (size (first_by g r ws b s))
      assignment_entries d = record {
        ready = (body_asks f h kind p b s be se 0 0 (omega arith)).ready;
        noted = (body_asks f h kind p b s be se 0 0 (omega arith)).noted;
        deep = omega (arith, body_deep f h kind p b s be se);
        fit = omega (arith, entries_room);
      }

      module _ {o₃ : List ℕ} {q₃ m₃ : ℕ} (w₃ : Wrote o₂ q.pos (words_of r (first_by g r ws b s)) o₃ q₃) (e₃ : m₃ ≡ q.count + count_f (first_by g r ws b s)) where
        pub entries_few : m₃ < 67108864
        entries_few =
            omega (
              arith,
              f.fit,
              assignment_length,
              e₃,
              w₂.number,
              ds_size,
              ap size first_same,
              count_size (here_at ws (at + 3) k (scope_of g) (begun n)),
              count_size (first_by g r ws b s),
            )

        pub entries_end : q₃ < 67108864
        entries_end = omega (arith, entries_room, w₃.end, length_words r (first_by g r ws b s))

        pub assignment_wrote : {o₄ o₅ : List ℕ} {q₄ q₅ : ℕ} → Wrote o₃ p₁ (word_below c 16 m₃ ∷ []) o₄ q₄ → Wrote o₄ q₃ (word_below c 9 outer ∷ []) o₅ q₅ →
            Wrote o pos (assignment_by g c outer ws (ds ws at n) b s) o₅ q₅
        assignment_wrote {o₅ = o₅} {q₅ = q₅} w₄ w₅ =
            let x : List ℕ = words_of c (here_at ws (at + 3) k (scope_of g) (begun n)) in
            let y : List ℕ = words_of r (first_by g r ws b s) in
            let z : List ℕ = word_below c 9 outer ∷ [] in
            let u : written (body_word g c) (first_by g c ws b s) ≡ y = unfold words_of in ap (written (body_word g c)) (sym first_same) ∙ written_same (body_word g c) (word_below r) re (first_by g r ws b s) in
            let v : x ≡ words_of c (ds ws at n) = ap (words_of c) ds_here in
            let i : m₃ ≡ count_f (ds ws at n) + count_f (first_by g c ws b s) = omega (arith, w₂.number, e₃, ap count_f ds_here, ap count_f first_same) in
            let l : assign_words c outer g.alias ++ ((word_below c 16 m₃ ∷ (x ++ y)) ++ z) ≡ assignment_by g c outer ws (ds ws at n) b s =
            ap (λ (l : List ℕ). assign_words c outer g.alias ++ (word_below c 16 m₃ ∷ l)) (append_assoc x y z) ∙ cc (i, v, u, assignment_is) in
            subst (λ (l : List ℕ). Wrote o pos l o₅ q₅) l (wrote_then w₁ (wrote_then (wrote_front (wrote_then w₂.moved.wrote w₃) w₄) w₅))

-- ---- rule 10: what stands behind the statement

module _ {ws : List ℕ} {notes : List Note} {at n : ℕ} {c : ClassStack} (f : Asks ws notes at 1 n c 0 (length (queue_words ws at n (word_below c)))) (h : at < length ws) (kind : (label_at ws at).kind ≡ 4)
    {g : ClassPlan} (p : Plans ws at n g) where
  -- nothing
  silent_queue : g.private ≡ true → (queue_words ws at n (word_below c) ≡ []) × (0 ≡ queue_count ws at n)
  unfolding queue_words queue_count
  silent_queue e = let y : has_private_in (rk ws at) ≡ true = sym p.private ∙ e in rw y (refl, refl)

  pub queue_silent : g.private ≡ true → (o : List ℕ) → Wrote o 0 (queue_words ws at n (word_below c)) o 0 × (0 ≡ queue_count ws at n)
  queue_silent e o =
      let w = silent_queue e in
      (subst (λ (l : List ℕ). Wrote o 0 l o 0) (sym w.0) (wrote_none o 0), w.1)

  -- r: the state in front of the body
  module _ {k : ℕ} {r : Counted} (ke : k ≡ arity_at ws (at + 1)) (y : Counts ws (at + 2) (k - 1) (scope_of g) (begun n) r) where
    pub queue_place : r.at ≡ body_at ws at
    queue_place = y.place ∙ ap (λ (i : ℕ). end_of ws (at + 2) (i - 1)) ke ∙ body_behind ws f.ready.whole at h kind

    pub queue_state : r.state ≡ at_body ws at n
    queue_state =
        let v : after_at ws (at + 2) (k - 1) (scope_of g) (begun n) ≡ (visit_at ws (at + 2) (k - 1) (scope_of g) (begun n)).after = unfold after_at in refl in
        sym (counts_after ws (at + 2) (k - 1) (scope_of g) (begun n) y) ∙ v ∙ cc (scope_plan p c, start_plan p c, ke, body_after ws f.ready.whole at h kind n)

  -- the body at b; s: the state in front of it; i: how many elements it has
  module _ (np : g.private ≡ false) (b : ℕ) (s : State) (be : b ≡ body_at ws at) (se : s ≡ at_body ws at n) (i : ℕ) (ie : i ≡ arity_at ws b) where
    calls_here : calls_at ws (b + 1) i (scope_of g) s ≡ queue ws at n
    calls_here = ap (λ (j : ℕ). calls_at ws (b + 1) j (scope_of g) s) ie ∙ calls_plan p c b s be se

    calls_size : size (calls_at ws (b + 1) i (scope_of g) s) ≡ length (words_of c (queue ws at n))
    calls_size = ap size calls_here ∙ sym (length_words c (queue ws at n))

    queue_words_lem : (x : Option ℕ) → g.outer ≡ x → queue_words ws at n (word_below c) ≡ words_of c (queue ws at n) ++ behind_calls p c b s be se x
    queue_words_lem x e = sym (queue_plan p c b s be se x e np)

    queue_number : (x : Bool) → decorated g ≡ x → queue_count ws at n ≡ count_f (queue ws at n) + cond x (1 + from_bool (not (eqb (label_at ws at).payload 0))) 0
    unfolding queue_count
    queue_number x e = let y : has_private_in (rk ws at) ≡ false = sym p.private ∙ np in let d : is_decorated (rk ws at) ≡ x = sym (decorated_plan p c) ∙ e in rw (y, d)

    calls_fit : size (calls_at ws (b + 1) i (scope_of g) s) < 67108864
    calls_fit = omega (arith, f.fit, calls_size, ap length (queue_words_lem g.outer refl), length-append (words_of c (queue ws at n)) (behind_calls p c b s be se g.outer))

    pub queue_calls : Asks ws notes (b + 1) i s.next c 0 (size (calls_at ws (b + 1) i (scope_of g) s))
    queue_calls =
        let t : ℕ = size (calls_at ws (b + 1) i (scope_of g) s) in
        let z : 0 + t < 67108864 = omega (arith, calls_fit) in
        subst (λ (j : ℕ). Asks ws notes (b + 1) j s.next c 0 t) (sym ie) (asks_kids (body_asks f h kind p b s be se 0 t z) 0 t refl (body_inside f h kind p b s be se) z)

    module _ {o o₁ : List ℕ} {q : Walk} (w₁ : Queues ws (b + 1) i (scope_of g) s c o 0 0 o₁ q) where
      calls_wrote : Wrote o 0 (words_of c (queue ws at n)) o₁ q.pos
      calls_wrote = subst (λ (t : Trees). Wrote o 0 (words_of c t) o₁ q.pos) calls_here w₁.moved.wrote

      calls_number : q.count ≡ count_f (queue ws at n)
      calls_number = omega (arith, w₁.number, ap count_f calls_here)

      pub queue_plain : g.outer ≡ none → Wrote o 0 (queue_words ws at n (word_below c)) o₁ q.pos × (q.count ≡ queue_count ws at n)
      queue_plain e =
          (subst (λ (l : List ℕ). Wrote o 0 l o₁ q.pos) (sym (queue_words_lem none e ∙ append-nil (words_of c (queue ws at n)))) calls_wrote, omega (arith, calls_number, queue_number false (ap is_some e)))

      module _ (outer : ℕ) (dec : g.outer ≡ some outer) where
        queue_length : length (queue_words ws at n (word_below c)) ≡
            length (words_of c (queue ws at n)) + (length (assignment_by g c outer ws (ds ws at n) b s) + length (export_words (word_below c) (label_at ws at).payload outer))
        queue_length =
            let x : List ℕ = assignment_by g c outer ws (ds ws at n) b s in
            let y : List ℕ = export_words (word_below c) (label_at ws at).payload outer in
            omega (arith, ap length (queue_words_lem (some outer) dec), length-append (words_of c (queue ws at n)) (x ++ y), length-append x y)

        pub queue_assignment : Asks ws notes at 1 n c q.pos (length (assignment_by g c outer ws (ds ws at n) b s))
        queue_assignment = asks_words f q.pos _ (omega (arith, f.fit, queue_length, calls_wrote.end))

        pub calls_few : q.count < 67108864
        calls_few = omega (arith, calls_fit, calls_number, ap size calls_here, count_size (queue ws at n))

        module _ {o₂ : List ℕ} {p₂ : ℕ} (w₂ : Wrote o₁ q.pos (assignment_by g c outer ws (ds ws at n) b s) o₂ p₂) where
          pub assignment_end : p₂ < 67108864
          assignment_end = omega (arith, f.fit, queue_length, calls_wrote.end, w₂.end)

          pub queue_wrote : {o₃ : List ℕ} {p₃ m : ℕ} (x : ℕ) → x ≡ (label_at ws at).payload → Wrote o₂ p₂ (export_words (word_below c) x outer) o₃ p₃ → m ≡ from_bool (not (eqb x 0)) →
              Wrote o 0 (queue_words ws at n (word_below c)) o₃ p₃ × (q.count + 1 + m ≡ queue_count ws at n)
          queue_wrote {o₃} {p₃} x xe w₃ me =
              let l : queue_words ws at n (word_below c) ≡ words_of c (queue ws at n) ++ (assignment_by g c outer ws (ds ws at n) b s ++ export_words (word_below c) x outer) = queue_words_lem (some outer) dec ∙ rw xe in (
                subst (λ (l : List ℕ). Wrote o 0 l o₃ p₃) (sym l) (wrote_then calls_wrote (wrote_then w₂ w₃)),
                omega (arith, calls_number, me, ap (λ (j : ℕ). from_bool (not (eqb j 0))) xe, queue_number true (ap is_some dec)),
              )

-- ---- what is lent of the output: its part from p on, or nothing where p is behind its end

pub wrote_behind : (o : List ℕ) (p l : ℕ) → l ≡ min p (length o) → {xs ys : List ℕ} {n : ℕ} → Wrote (take (length o - l) (drop l o)) 0 xs ys n →
    Wrote o p xs (take l o ++ (ys ++ drop (length o - l) (drop l o))) (p + n)
wrote_behind o p l e {xs} {ys} {n} w = go (leb p (length o)) refl
  where
    go : (b : Bool) → leb p (length o) ≡ b → Wrote o p xs (take l o ++ (ys ++ drop (length o - l) (drop l o))) (p + n)
    go true t =
        let z : l ≡ p = omega (arith, e, leb-true p (length o) t) in
        subst (λ (q : ℕ). Wrote o q xs (take l o ++ (ys ++ drop (length o - l) (drop l o))) (q + n)) z (wrote_part o l {ws = xs} w)
    go false t = wrote_part_past o l {ws = xs} p (omega (arith, e, leb-false p (length o) t)) (omega (arith, leb-false p (length o) t)) w

-- ---- the statement at `at`

module _ {ws : List ℕ} {notes : List Note} {at : ℕ} {c : ClassStack} {pos : ℕ} (a : Around) (s : State) (f : Asks ws notes at 1 s.next c pos (size (here_at ws at 1 a s))) (h : at < length ws)
    (kind : (label_at ws at).kind ≡ 4) (live : is_live (take_f 1 (records_at ws (at + 1))) ≡ true) {g : ClassPlan} (p : Plans ws at s.next g) where
  statement_words : words_of c (here_at ws at 1 a s) ≡ head_of g c (label_at ws at).payload ++ (class_words ws at s.next (word_below c) ++ queue_words ws at s.next (word_below c))
  unfolding words_of
  statement_words =
      ap (written (word_below c)) (here_one ws at a s h)
      ∙ class_written ws f.ready.whole at h kind live a s (word_below c)
      ∙ ap (◌++ (class_words ws at s.next (word_below c) ++ queue_words ws at s.next (word_below c))) (sym (head_plan p c))

  statement_count : count_f (here_at ws at 1 a s) ≡ 1 + queue_count ws at s.next
  statement_count =
      ap count_f (here_one ws at a s h) ∙ class_count_lem ws f.ready.whole at h kind live a s

  -- x: its payload
  module _ (x : ℕ) (xe : x ≡ (label_at ws at).payload) where
    statement_length : size (here_at ws at 1 a s) ≡ length (head_of g c x) + (length (class_words ws at s.next (word_below c)) + length (queue_words ws at s.next (word_below c)))
    statement_length =
        let u : List ℕ = class_words ws at s.next (word_below c) in
        let v : List ℕ = queue_words ws at s.next (word_below c) in
        omega (
          arith,
          ap length statement_words,
          ap (λ (i : ℕ). length (head_of g c i)) xe,
          length-append (head_of g c (label_at ws at).payload) (u ++ v),
          length-append u v,
          length_words c (here_at ws at 1 a s),
        )

    pub statement_class : (q : ℕ) → q ≡ pos + length (head_of g c x) → Asks ws notes at 1 s.next c q (length (class_words ws at s.next (word_below c)))
    statement_class q e = asks_words f q _ (omega (arith, f.fit, statement_length))

    pub statement_queue : Asks ws notes at 1 s.next c 0 (length (queue_words ws at s.next (word_below c)))
    statement_queue = asks_words f 0 _ (omega (arith, f.fit, statement_length))

    pub statement_end : (q r : ℕ) → q ≡ pos + length (head_of g c x) → r ≡ q + length (class_words ws at s.next (word_below c)) → r + length (queue_words ws at s.next (word_below c)) < 67108864
    statement_end q r e i = omega (arith, f.fit, statement_length)

    pub statement_few : queue_count ws at s.next < 67108864
    statement_few = omega (arith, statement_count, count_size (here_at ws at 1 a s), f.fit)

    pub statement_emitted : {r : Counted} {o o₁ o₂ o₃ : List ℕ} {p₁ p₂ p₃ m i : ℕ} → Counts ws at 1 a s r → Wrote o pos (head_of g c x) o₁ p₁ →
        Wrote o₁ p₁ (class_words ws at s.next (word_below c)) o₂ p₂ → Wrote o₂ p₂ (queue_words ws at s.next (word_below c)) o₃ p₃ → i ≡ queue_count ws at s.next →
        Emitted ws at 1 a s c o pos m o₃ (record { at = r.at; pos = p₃; state = r.state; count = m + 1 + i })
    statement_emitted {r} {o} {o₃ = o₃} {p₃ = p₃} y w₁ w₂ w₃ me =
        let l : words_of c (here_at ws at 1 a s) ≡ head_of g c x ++ (class_words ws at s.next (word_below c) ++ queue_words ws at s.next (word_below c)) = statement_words ∙ rw xe in
        record {
          moved = record {
            wrote = subst (λ (l : List ℕ). Wrote o pos l o₃ p₃) (sym l) (wrote_then w₁ (wrote_then w₂ w₃));
            place = y.place;
            state = counts_after ws at 1 a s y;
          };
          number = omega (arith, statement_count, me);
        }
