-- Laws for the walker of a record whose word stays: it and the records in it follow one another in the words, so that one loop writes them. Assumes nothing.
use Rattle.std.specs.Prelude.{◌≡◌, refl, List, [], ◌∷◌, ◌++◌, ℕ, suc, ◌+◌, ◌-◌, ◌*◌, ◌<◌, ◌≤◌, length}
use Rattle.records.specs.declared.Note.{Note}
use Rattle.std.proofs.Math.Path.{ap, sym}
use Rattle.std.proofs.Common.{subst, ◌∙◌, append-nil, append_assoc, arith}
use Rattle.records.specs.Forest.{end, append_f, size}
use Rattle.records.specs.Label.{Trees}
use Rattle.records.specs.Place.{label_at, arity_at, end_of, end_one, end_none, end_past, end_add, end_low}
use Rattle.output.specs.Overlay.{Wrote, wrote_none, wrote_then}
use Rattle.rewriting.specs.Visit.{Result}
use Rattle.rewriting.specs.declared.State.{State}
use Rattle.rewriting.specs.declared.Around.{Around}
use Rattle.class_stack.specs.declared.ClassStack.{ClassStack}
use Rattle.walk_laws.specs.Rows.{visit_at, here_add, after_add}
use Rattle.counter.specs.Steps.{ready_on}
use Rattle.counter.specs.Totals.{noted_on}
use Rattle.transform.specs.Nest.{nest_at, nest_add, nest_kids}
use Rattle.transform.specs.Contract.{word_below, words_of, here_at, after_at, Asks, Moved, Emitted}
use Rattle.transform.specs.Steps.{length_words, words_append, asks_row, here_none, after_none, here_past, after_past, none_words, here_more, after_more, end_more', size_more}
use Rattle.transform.specs.Kept.{KeptAt}
use Rattle.transform.specs.StepsRecords.{words_tree, emit_tree, first_le}
use Rattle.transform.specs.declared.Walk.{Walk}

-- ---- the row that begins with such a record: its word, then the row of its children and the others

module _ (ws : List ℕ) (at : ℕ) (t : KeptAt ws at) (a : Around) (s : State) where
  end_kids : end_of ws at 1 ≡ end_of ws (at + 1) (arity_at ws at)
  end_kids = end_one ws at t.inside

  -- the visit of i records behind it
  others : ℕ → Result
  others i = visit_at ws (end_of ws at 1) i a (visit_at ws at 1 a s).after

  others_kids : (i : ℕ) → others i ≡ visit_at ws (end_of ws (at + 1) (arity_at ws at)) i a (visit_at ws (at + 1) (arity_at ws at) a s).after
  unfolding others
  others_kids i =
      ap (λ (q : ℕ). visit_at ws q i a (visit_at ws at 1 a s).after) end_kids
      ∙ ap (λ (x : State). visit_at ws (end_of ws (at + 1) (arity_at ws at)) i a x) (unfold after_at in t.after a s)

  here_front : (i : ℕ) → here_at ws at (1 + i) a s ≡ append_f (here_at ws at 1 a s) (others i).here
  unfolding here_at others
  here_front i = here_add ws a at 1 i s

  here_inside : (i : ℕ) → here_at ws (at + 1) (arity_at ws at + i) a s ≡ append_f (here_at ws (at + 1) (arity_at ws at) a s) (others i).here
  unfolding here_at
  here_inside i =
      here_add ws a (at + 1) (arity_at ws at) i s
      ∙ ap (λ (r : Result). append_f (visit_at ws (at + 1) (arity_at ws at) a s).here r.here) (sym (others_kids i))

  pub row_words : (c : ClassStack) (i : ℕ) → words_of c (here_at ws at (1 + i) a s) ≡ word_below c (label_at ws at).kind (label_at ws at).payload ∷ words_of c (here_at ws (at + 1) (arity_at ws at + i) a s)
  row_words c i =
      let x : ℕ = word_below c (label_at ws at).kind (label_at ws at).payload in
      let f : Trees = here_at ws (at + 1) (arity_at ws at) a s in
      ap (words_of c) (here_front i) ∙ words_append c (here_at ws at 1 a s) (others i).here
      ∙ ap (λ (y : List ℕ). y ++ words_of c (others i).here) (ap (words_of c) (t.here a s) ∙ words_tree c (label_at ws at) f)
      ∙ ap (x ∷◌) (sym (words_append c f (others i).here) ∙ ap (words_of c) (sym (here_inside i)))

  pub row_after : (i : ℕ) → after_at ws at (1 + i) a s ≡ after_at ws (at + 1) (arity_at ws at + i) a s
  unfolding after_at
  row_after i =
      let first : (visit_at ws at (1 + i) a s).after ≡ (others i).after = unfold others in after_add ws a at 1 i s in
      first ∙ ap (λ (r : Result). r.after) (others_kids i) ∙ sym (after_add ws a (at + 1) (arity_at ws at) i s)

  pub row_end : (i : ℕ) → end_of ws at (1 + i) ≡ end_of ws (at + 1) (arity_at ws at + i)
  row_end i = end_add ws at 1 i ∙ ap (λ (q : ℕ). end_of ws q i) end_kids ∙ sym (end_add ws (at + 1) (arity_at ws at) i)

  pub row_nest : (i : ℕ) → nest_at ws (at + 1) (arity_at ws at + i) ≤ nest_at ws at (1 + i)
  row_nest i =
      let e : nest_at ws (end_of ws (at + 1) (arity_at ws at)) i ≡ nest_at ws (end_of ws at 1) i = ap (λ (q : ℕ). nest_at ws q i) (sym end_kids) in
      omega (arith, nest_add ws (at + 1) (arity_at ws at) i, nest_add ws at 1 i, nest_kids ws at t.inside, e)

-- what the row inside asks, once the word is written
module _ {ws : List ℕ} {notes : List Note} {at : ℕ} {c : ClassStack} (a : Around) (s : State) (i : ℕ) where
  inside_asks : {pos : ℕ} → KeptAt ws at → Asks ws notes at (1 + i) s.next c pos (size (here_at ws at (1 + i) a s)) → (p : ℕ) → p ≡ pos + 1 →
      Asks ws notes (at + 1) (arity_at ws at + i) s.next c p (size (here_at ws (at + 1) (arity_at ws at + i) a s))
  inside_asks {pos} t f p e =
      let h : at < length ws = t.inside in
      let z : length (words_of c (here_at ws at (1 + i) a s)) ≡ suc (length (words_of c (here_at ws (at + 1) (arity_at ws at + i) a s))) = ap length (row_words ws at t a s c i) in
      record {
        ready = ready_on f.ready (at + 1) s.next (omega arith) (omega arith) (omega arith);
        noted = noted_on ws notes at (at + 1) (omega arith) f.noted;
        deep = omega (arith, f.deep, row_nest ws at t a s i);
        fit = omega (arith, f.fit, z, e, length_words c (here_at ws at (1 + i) a s), length_words c (here_at ws (at + 1) (arity_at ws at + i) a s));
      }

-- ---- the loop over the row of k records at `at`: some words are written, and the j records at q, from the state s₁ on, come to the others

pub record Keeping (ws : List ℕ) (notes : List Note) (at k : ℕ) (a : Around) (s : State) (c : ClassStack) (o : List ℕ) (pos q j : ℕ) (s₁ : State) (o' : List ℕ) (p : ℕ) : Type 0 where
  pub later : at ≤ q
  pub few : j ≤ 67108869 * (q + 1)
  pub done : List ℕ
  pub wrote : Wrote o pos done o' p
  pub words : words_of c (here_at ws at k a s) ≡ done ++ words_of c (here_at ws q j a s₁)
  pub after : after_at ws at k a s ≡ after_at ws q j a s₁
  pub place : end_of ws at k ≡ end_of ws q j
  pub asks : Asks ws notes q j s₁.next c p (size (here_at ws q j a s₁))

more_words : (l x y : List ℕ) {z : List ℕ} → z ≡ x ++ y → l ++ z ≡ (l ++ x) ++ y
more_words l x y e = ap (l ++◌) e ∙ sym (append_assoc l x y)

-- the children of the record at `at`, once its word is written
module _ {ws : List ℕ} {notes : List Note} {at : ℕ} {c : ClassStack} {pos : ℕ} (a : Around) (s : State) (t : KeptAt ws at) (f : Asks ws notes at 1 s.next c pos (size (here_at ws at 1 a s))) where
  pub keeping_start : {m p y : ℕ} {o o₁ : List ℕ} → Wrote o pos (y ∷ []) o₁ p → m ≡ arity_at ws at → m < 67108869 → Keeping ws notes (at + 1) m a s c o₁ p (at + 1) m s o₁ p
  keeping_start {m} {p} {y} {o} {o₁} w em l =
      let e : arity_at ws at + 0 ≡ m = omega (arith, em) in
      record {
        later = omega arith;
        few = omega arith;
        done = [];
        wrote = wrote_none o₁ p;
        words = refl;
        after = refl;
        place = refl;
        asks = subst (λ (j : ℕ). Asks ws notes (at + 1) j s.next c p (size (here_at ws (at + 1) j a s))) e (inside_asks a s 0 t f p w.end);
      }

module _ {ws : List ℕ} {notes : List Note} {at k : ℕ} {a : Around} {s : State} {c : ClassStack} {o : List ℕ} {pos q j : ℕ} {s₁ : State} {p : ℕ} {o' : List ℕ} (g : Keeping ws notes at k a s c o pos q j s₁ o' p) where
  -- what the next record asks
  pub keeping_asks : (j ≡ 0 → ⊥) → Asks ws notes q 1 s₁.next c p (size (here_at ws q 1 a s₁))
  keeping_asks z =
      let e : nest_at ws q j ≡ nest_at ws q (1 + (j - 1)) = ap (nest_at ws q) (omega arith) in
      record {
        ready = g.asks.ready;
        noted = g.asks.noted;
        deep = omega (arith, g.asks.deep, nest_add ws q 1 (j - 1), e);
        fit = omega (arith, g.asks.fit, first_le ws q j a s₁ (omega arith));
      }

  -- a record whose word stays: its children come next
  pub keeping_kept : {y x m i p' : ℕ} {o'' : List ℕ} → (j ≡ 0 → ⊥) → KeptAt ws q → y ≡ (label_at ws q).kind → x ≡ (label_at ws q).payload → Wrote o' p (word_below c y x ∷ []) o'' p' →
      m ≡ arity_at ws q → m < 67108869 → i ≡ j - 1 + m → Keeping ws notes at k a s c o pos (q + 1) i s₁ o'' p'
  keeping_kept {y} {x} {m} {i} {p'} {o''} z t ey ex w em l ei =
      let u : ℕ = word_below c (label_at ws q).kind (label_at ws q).payload in
      let v : Wrote o' p (u ∷ []) o'' p' = subst (λ (b : ℕ). Wrote o' p (b ∷ []) o'' p') (ap (λ (b : ℕ). word_below c b x) ey ∙ ap (word_below c (label_at ws q).kind) ex) w in
      let r : j ≡ 1 + (j - 1) = omega arith in
      let e : arity_at ws q + (j - 1) ≡ i = omega (arith, em, ei) in
      record {
        later = omega (arith, g.later);
        few = omega (arith, g.few);
        done = g.done ++ (u ∷ []);
        wrote = wrote_then g.wrote v;
        words = g.words ∙ more_words g.done (u ∷ []) (words_of c (here_at ws (q + 1) i a s₁))
            (ap (λ (b : ℕ). words_of c (here_at ws q b a s₁)) r ∙ row_words ws q t a s₁ c (j - 1) ∙ ap (λ (b : ℕ). u ∷ words_of c (here_at ws (q + 1) b a s₁)) e);
        after = g.after ∙ ap (λ (b : ℕ). after_at ws q b a s₁) r ∙ row_after ws q t a s₁ (j - 1) ∙ ap (λ (b : ℕ). after_at ws (q + 1) b a s₁) e;
        place = g.place ∙ ap (end_of ws q) r ∙ row_end ws q t a s₁ (j - 1) ∙ ap (end_of ws (q + 1)) e;
        asks = subst (λ (b : ℕ). Asks ws notes (q + 1) b s₁.next c p' (size (here_at ws (q + 1) b a s₁))) e
            (inside_asks a s₁ (j - 1) t (subst (λ (b : ℕ). Asks ws notes q b s₁.next c p (size (here_at ws q b a s₁))) r g.asks) p' v.end);
      }

  -- any other record, written as a whole
  pub keeping_one : {i m : ℕ} {o'' : List ℕ} (r : Walk) → (j ≡ 0 → ⊥) → Emitted ws q 1 a s₁ c o' p m o'' r → i ≡ j - 1 → Keeping ws notes at k a s c o pos r.at i r.state o'' r.pos
  keeping_one {i} {m} {o''} r z y ei =
      let e : j ≡ 1 + i = omega (arith, ei) in
      let pl : r.at ≡ end_of ws q 1 = y.moved.place in
      let st : after_at ws q 1 a s₁ ≡ r.state = y.moved.state in
      let w : words_of c (here_at ws q j a s₁) ≡ words_of c (here_at ws q 1 a s₁) ++ words_of c (here_at ws r.at i a r.state) =
      ap (λ (b : ℕ). words_of c (here_at ws q b a s₁)) e ∙ ap (words_of c) (here_more ws q a s₁ 1 i r.at r.state pl st)
      ∙ words_append c (here_at ws q 1 a s₁) (here_at ws r.at i a r.state) in
      let m : size (here_at ws q j a s₁) ≡ size (here_at ws q 1 a s₁) + size (here_at ws r.at i a r.state) =
      ap (λ (b : ℕ). size (here_at ws q b a s₁)) e ∙ size_more ws q a s₁ c 1 i r.at r.state pl st in
      let low : q ≤ r.at = omega (arith, pl, end_low ws q 1) in
      record {
        later = omega (arith, g.later);
        few = omega (arith, g.few);
        done = g.done ++ words_of c (here_at ws q 1 a s₁);
        wrote = wrote_then g.wrote y.moved.wrote;
        words = g.words ∙ more_words g.done (words_of c (here_at ws q 1 a s₁)) (words_of c (here_at ws r.at i a r.state)) w;
        after = g.after ∙ ap (λ (b : ℕ). after_at ws q b a s₁) e ∙ after_more ws q a s₁ 1 i r.at r.state pl st;
        place = g.place ∙ ap (end_of ws q) e ∙ end_more' ws q a s₁ 1 i r.at r.state pl st;
        asks = subst (λ (b : ℕ). Asks ws notes b i r.state.next c r.pos (size (here_at ws r.at i a r.state))) (sym pl)
            (asks_row g.asks a s₁ 1 i r.state r.pos (size (here_at ws r.at i a r.state)) refl (omega arith) st
            (omega (arith, g.asks.fit, m, y.moved.wrote.end, length_words c (here_at ws q 1 a s₁))));
      }

  -- no record is left
  abbrev Whole : ℕ → Type 0
  Whole n = Moved (words_of c (here_at ws at k a s)) (end_of ws at k) (after_at ws at k a s) o pos o' (record { at = q; pos = p; state = s₁; count = n })

  all : here_at ws q j a s₁ ≡ end → after_at ws q j a s₁ ≡ s₁ → end_of ws q j ≡ q → (n : ℕ) → Whole n
  all e f h n = record {
    wrote = subst (λ (l : List ℕ). Wrote o pos l o' p) (sym (g.words ∙ ap (g.done ++◌) (none_words ws q a s₁ c (here_at ws q j a s₁) e) ∙ append-nil g.done)) g.wrote;
    place = sym (g.place ∙ h);
    state = g.after ∙ f;
  }

  pub keeping_all : j ≡ 0 → (n : ℕ) → Whole n
  keeping_all z =
      all (ap (λ (b : ℕ). here_at ws q b a s₁) z ∙ here_none ws q a s₁) (ap (λ (b : ℕ). after_at ws q b a s₁) z ∙ after_none ws q a s₁) (ap (end_of ws q) z ∙ end_none ws q)

  pub keeping_past : length ws ≤ q → (n : ℕ) → Whole n
  keeping_past h = all (here_past ws q a s₁ j h) (after_past ws q a s₁ j h) (end_past ws q j h)

-- ---- the record: its word, then its children

module _ (ws : List ℕ) (at : ℕ) (a : Around) (s : State) (c : ClassStack) (t : KeptAt ws at) where
  pub emit_kept : (k x m : ℕ) {o : List ℕ} {pos b : ℕ} {o₁ : List ℕ} {q : ℕ} {o₂ : List ℕ} {r : Walk} → k ≡ (label_at ws at).kind → x ≡ (label_at ws at).payload → m ≡ arity_at ws at →
      Wrote o pos (word_below c k x ∷ []) o₁ q → Moved (words_of c (here_at ws (at + 1) m a s)) (end_of ws (at + 1) m) (after_at ws (at + 1) m a s) o₁ q o₂ r →
      Emitted ws at 1 a s c o pos b o₂ (record { at = r.at; pos = r.pos; state = r.state; count = b + 1 })
  emit_kept k x m {o} {pos} {b} {o₁} {q} {o₂} {r} ek ex em w y =
      let n : ℕ = arity_at ws at in
      let y' : Moved (words_of c (here_at ws (at + 1) n a s)) (end_of ws (at + 1) n) (after_at ws (at + 1) n a s) o₁ q o₂ r =
      subst (λ (i : ℕ). Moved (words_of c (here_at ws (at + 1) i a s)) (end_of ws (at + 1) i) (after_at ws (at + 1) i a s) o₁ q o₂ r) em y in
      let w' : Wrote o pos (word_below c (label_at ws at).kind (label_at ws at).payload ∷ []) o₁ q = subst (λ (i : ℕ). Wrote o pos (word_below c (label_at ws at).kind i ∷ []) o₁ q) ex (subst (λ (i : ℕ). Wrote o pos (word_below c i x ∷ []) o₁ q) ek w) in
      emit_tree ws at a s c t.inside (label_at ws at) (here_at ws (at + 1) n a s) r.state r.pos r.at (t.here a s) (wrote_then w' y'.wrote) (t.after a s ∙ y'.state) y'.place
