-- Laws for the steps of the walkers that write: what they may ask further on, rows of records, one record. Assumes nothing.
use Rattle.std.specs.Prelude.{◌≡◌, List, [], ◌++◌, ℕ, ◌+◌, ◌*◌, ◌<◌, ◌≤◌, length}
use Rattle.records.specs.declared.Note.{Note}
use Rattle.std.proofs.Math.Path.{refl, ap, sym}
use Rattle.std.proofs.Common.{subst, ◌∙◌, arith}
use Rattle.records.specs.Forest.{end, flat, take_f, append_f, count_f, size, count_f_append, size_append, count_size}
use Rattle.records.specs.Label.{Trees}
use Rattle.records.specs.Place.{records_at, label_at, arity_at, kids_at, end_of, end_none, end_past, end_add, end_low, end_high}
use Rattle.output.specs.Overlay.{Wrote, wrote_none, wrote_then}
use Rattle.rewriting.specs.Visit.{Result, visit, visit_one}
use Rattle.rewriting.specs.declared.State.{State}
use Rattle.rewriting.proofs.Facts.{counter}
use Rattle.rewriting.specs.declared.Around.{Around}
use Rattle.class_stack.specs.declared.ClassStack.{ClassStack}
use Rattle.walk_laws.specs.Rows.{visit_at, row_none, row_past, here_add, calls_add, after_add, one_here, one_calls, one_after, kids_visit}
use Rattle.walk_laws.specs.Written.{written, written_append, length_written}
use Rattle.counter.specs.Contract.{Counts, Annotated}
use Rattle.counter.specs.Steps.{ready_on}
use Rattle.counter.specs.Totals.{noted_on}
use Rattle.counter.specs.declared.Counted.{Counted}
use Rattle.transform.specs.Nest.{nest_at, nest_part, nest_kids}
use Rattle.transform.specs.Contract.{word_below, words_of, here_at, calls_at, after_at, Asks, Emitted, kids_here}
use Rattle.transform.specs.declared.Walk.{Walk}

-- ---- lengths

pub length_words : (c : ClassStack) (f : Trees) → length (words_of c f) ≡ size f
unfolding words_of
length_words c f = length_written (word_below c) f

pub words_append : (c : ClassStack) (f g : Trees) → words_of c (append_f f g) ≡ words_of c f ++ words_of c g
unfolding words_of
words_append c f g = written_append (word_below c) f g

-- ---- the state behind some records: the counter grows by at most 2 a word

module _ (ws : List ℕ) (at k : ℕ) (a : Around) (s s₁ : State) (t : after_at ws at k a s ≡ s₁) where
  after_next : (visit a (take_f k (records_at ws at)) s).after.next ≡ s₁.next
  after_next = ap (λ (x : State). x.next) (sym same ∙ t)
    where
      same : after_at ws at k a s ≡ (visit a (take_f k (records_at ws at)) s).after
      same = unfold after_at visit_at in refl

  pub state_low : s.next ≤ s₁.next
  state_low = omega (arith, (counter (take_f k (records_at ws at)) a s).low, after_next)

  pub state_high : s₁.next + 2 * at ≤ s.next + 2 * end_of ws at k
  state_high =
      let p : end_of ws at k ≡ at + size (take_f k (records_at ws at)) = unfold end_of in refl in
      omega (arith, (counter (take_f k (records_at ws at)) a s).high, after_next, p)

-- ---- what a walker may ask further on

module _ {ws : List ℕ} {notes : List Note} {at k n : ℕ} {c : ClassStack} {pos len : ℕ} (f : Asks ws notes at k n c pos len) where
  -- of the i records behind the first j
  pub asks_row : (a : Around) (s : State) (j i : ℕ) (s₁ : State) (q l : ℕ) → s.next ≡ n → j + i ≤ k → after_at ws at j a s ≡ s₁ → q + l < 67108864 → Asks ws notes (end_of ws at j) i s₁.next c q l
  asks_row a s j i s₁ q l z h t g = record {
    ready = ready_on f.ready (end_of ws at j) s₁.next (omega (arith, end_high ws at j, f.ready.inside)) (omega (arith, state_low ws at j a s s₁ t, z)) (omega (arith, state_high ws at j a s s₁ t, z));
    noted = noted_on ws notes at (end_of ws at j) (end_low ws at j) f.noted;
    deep = omega (arith, f.deep, nest_part ws at j i k h);
    fit = g;
  }

  -- the same at a place known by an equation
  pub asks_place : (a : Around) (s : State) (j i q : ℕ) (s₁ : State) (p l : ℕ) → s.next ≡ n → j + i ≤ k → q ≡ end_of ws at j → after_at ws at j a s ≡ s₁ → p + l < 67108864 →
      Asks ws notes q i s₁.next c p l
  asks_place a s j i q s₁ p l z h e t g = subst (λ (x : ℕ). Asks ws notes x i s₁.next c p l) (sym e) (asks_row a s j i s₁ p l z h t g)

  pub noted_next : Annotated ws notes (at + 1)
  noted_next = noted_on ws notes at (at + 1) (omega arith) f.noted

  -- of the children of the first record
  pub asks_kids : (q l : ℕ) → k ≡ 1 → at < length ws → q + l < 67108864 → Asks ws notes (at + 1) (arity_at ws at) n c q l
  asks_kids q l e h g = record {
    ready = ready_on f.ready (at + 1) n (omega arith) (omega arith) (omega arith);
    noted = noted_next;
    deep = omega (arith, f.deep, ap (nest_at ws at) e, nest_kids ws at h);
    fit = g;
  }

  -- the same with other words to write
  pub asks_words : (q l : ℕ) → q + l < 67108864 → Asks ws notes at k n c q l
  asks_words q l g = record { ready = f.ready; noted = f.noted; deep = f.deep; fit = g }

-- ---- rows

module _ (ws : List ℕ) (at : ℕ) (a : Around) (s : State) where
  pub here_none : here_at ws at 0 a s ≡ end
  unfolding here_at
  here_none = ap (λ (r : Result). r.here) (row_none ws a at s) ∙ (unfold visit in refl)

  pub calls_none : calls_at ws at 0 a s ≡ end
  unfolding calls_at
  calls_none = ap (λ (r : Result). r.calls) (row_none ws a at s) ∙ (unfold visit in refl)

  pub after_none : after_at ws at 0 a s ≡ s
  unfolding after_at
  after_none = ap (λ (r : Result). r.after) (row_none ws a at s) ∙ (unfold visit in refl)

  pub here_past : (k : ℕ) → length ws ≤ at → here_at ws at k a s ≡ end
  unfolding here_at
  here_past k h = ap (λ (r : Result). r.here) (row_past ws a at k s h) ∙ (unfold visit in refl)

  pub after_past : (k : ℕ) → length ws ≤ at → after_at ws at k a s ≡ s
  unfolding after_at
  after_past k h = ap (λ (r : Result). r.after) (row_past ws a at k s h) ∙ (unfold visit in refl)

  behind : (j : ℕ) (s₁ : State) → after_at ws at j a s ≡ s₁ → (visit_at ws at j a s).after ≡ s₁
  unfolding after_at
  behind j s₁ t = t

  -- j records, and then k others; the walk stands behind the first at q, in the state s₁
  module _ (j k q : ℕ) (s₁ : State) (p : q ≡ end_of ws at j) (t : after_at ws at j a s ≡ s₁) where
    pub here_more : here_at ws at (j + k) a s ≡ append_f (here_at ws at j a s) (here_at ws q k a s₁)
    unfolding here_at
    here_more =
        here_add ws a at j k s
        ∙ ap (λ (x : State). append_f (visit_at ws at j a s).here (visit_at ws (end_of ws at j) k a x).here) (behind j s₁ t)
        ∙ ap (λ (i : ℕ). append_f (visit_at ws at j a s).here (visit_at ws i k a s₁).here) (sym p)

    pub calls_more : calls_at ws at (j + k) a s ≡ append_f (calls_at ws at j a s) (calls_at ws q k a s₁)
    unfolding calls_at
    calls_more =
        calls_add ws a at j k s
        ∙ ap (λ (x : State). append_f (visit_at ws at j a s).calls (visit_at ws (end_of ws at j) k a x).calls) (behind j s₁ t)
        ∙ ap (λ (i : ℕ). append_f (visit_at ws at j a s).calls (visit_at ws i k a s₁).calls) (sym p)

    pub after_more : after_at ws at (j + k) a s ≡ after_at ws q k a s₁
    unfolding after_at
    after_more =
        after_add ws a at j k s
        ∙ ap (λ (x : State). (visit_at ws (end_of ws at j) k a x).after) (behind j s₁ t)
        ∙ ap (λ (i : ℕ). (visit_at ws i k a s₁).after) (sym p)

    pub end_more' : end_of ws at (j + k) ≡ end_of ws q k
    end_more' = end_add ws at j k ∙ ap (λ (i : ℕ). end_of ws i k) (sym p)

  -- ---- one record

  module _ (h : at < length ws) where
    pub here_one : here_at ws at 1 a s ≡ (visit_one a (label_at ws at) (kids_at ws at) s).here
    unfolding here_at
    here_one = one_here ws a at s h

    pub calls_one : calls_at ws at 1 a s ≡ (visit_one a (label_at ws at) (kids_at ws at) s).calls
    unfolding calls_at
    calls_one = one_calls ws a at s h

    pub after_one : after_at ws at 1 a s ≡ (visit_one a (label_at ws at) (kids_at ws at) s).after
    unfolding after_at
    after_one = one_after ws a at s h

  -- the children of the record, as a row
  pub here_kids : here_at ws (at + 1) (arity_at ws at) a s ≡ kids_here ws at a s
  unfolding here_at kids_here
  here_kids = ap (λ (r : Result). r.here) (kids_visit ws a at s)

  pub after_kids : after_at ws (at + 1) (arity_at ws at) a s ≡ (visit a (kids_at ws at) s).after
  unfolding after_at
  after_kids = ap (λ (r : Result). r.after) (kids_visit ws a at s)

-- the state that was counted
pub counts_after : (ws : List ℕ) (at k : ℕ) (a : Around) (s : State) {r : Counted} → Counts ws at k a s r → after_at ws at k a s ≡ r.state
unfolding after_at
counts_after ws at k a s c = c.state

-- ---- emitting rows

module _ (ws : List ℕ) (at : ℕ) (a : Around) (s : State) (c : ClassStack) where
  pub none_words : (f : Trees) → f ≡ end → words_of c f ≡ []
  none_words f e = ap (words_of c) e ∙ (unfold words_of written flat in refl)

  pub none_count : (f : Trees) → f ≡ end → count_f f ≡ 0
  none_count f e = ap count_f e ∙ (unfold count_f in refl)

  pub emit_none : (o : List ℕ) (pos m : ℕ) → Emitted ws at 0 a s c o pos m o (record { at = at; pos = pos; state = s; count = m })
  emit_none o pos m = record {
    moved = record {
      wrote = subst (λ (l : List ℕ). Wrote o pos l o pos) (sym (none_words _ (here_none ws at a s))) (wrote_none o pos);
      place = sym (end_none ws at);
      state = after_none ws at a s;
    };
    number = omega (arith, none_count _ (here_none ws at a s));
  }

  pub emit_past : (k : ℕ) (o : List ℕ) (pos m : ℕ) → length ws ≤ at → Emitted ws at k a s c o pos m o (record { at = at; pos = pos; state = s; count = m })
  emit_past k o pos m h = record {
    moved = record {
      wrote = subst (λ (l : List ℕ). Wrote o pos l o pos) (sym (none_words _ (here_past ws at a s k h))) (wrote_none o pos);
      place = sym (end_past ws at k h);
      state = after_past ws at a s k h;
    };
    number = omega (arith, none_count _ (here_past ws at a s k h));
  }

  -- j records, then k others
  pub emit_add : (j k : ℕ) {o : List ℕ} {pos m : ℕ} {o₁ : List ℕ} {v : Walk} {o₂ : List ℕ} {r : Walk} →
      Emitted ws at j a s c o pos m o₁ v → Emitted ws v.at k a v.state c o₁ v.pos v.count o₂ r → Emitted ws at (j + k) a s c o pos m o₂ r
  emit_add j k {o} {pos} {m} {o₁} {v} {o₂} {r} x y =
      let pl : v.at ≡ end_of ws at j = x.moved.place in
      let st : after_at ws at j a s ≡ v.state = x.moved.state in
      let h : here_at ws at (j + k) a s ≡ append_f (here_at ws at j a s) (here_at ws v.at k a v.state) = here_more ws at a s j k v.at v.state pl st in
      record {
        moved = record {
          wrote = subst (λ (l : List ℕ). Wrote o pos l o₂ r.pos) (sym (ap (words_of c) h ∙ words_append c (here_at ws at j a s) (here_at ws v.at k a v.state))) (wrote_then x.moved.wrote y.moved.wrote);
          place = y.moved.place ∙ sym (end_more' ws at a s j k v.at v.state pl st);
          state = after_more ws at a s j k v.at v.state pl st ∙ y.moved.state;
        };
        number = omega (arith, x.number, y.number, ap count_f h, count_f_append (here_at ws at j a s) (here_at ws v.at k a v.state));
      }

  -- no more records were written than words
  pub emit_few : {k : ℕ} {o : List ℕ} {pos m : ℕ} {o' : List ℕ} {r : Walk} → Emitted ws at k a s c o pos m o' r → m ≤ pos → r.count ≤ r.pos
  emit_few {k} y h = omega (arith, y.number, y.moved.wrote.end, length_words c (here_at ws at k a s), count_size (here_at ws at k a s))

  -- the words of a row of j and k records
  pub size_more : (j k q : ℕ) (s₁ : State) → q ≡ end_of ws at j → after_at ws at j a s ≡ s₁ →
      size (here_at ws at (j + k) a s) ≡ size (here_at ws at j a s) + size (here_at ws q k a s₁)
  size_more j k q s₁ p t = ap size (here_more ws at a s j k q s₁ p t) ∙ size_append (here_at ws at j a s) (here_at ws q k a s₁)
