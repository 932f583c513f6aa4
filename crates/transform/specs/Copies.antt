-- A record in which nothing changes: its words are written as they were read, under the classes around. Assumes nothing.
use Rattle.std.specs.Prelude.{◌≡◌, true, List, [], ◌∷◌, ◌++◌, ℕ, ◌+◌, ◌-◌, ◌<◌, ◌≤◌, length}
use Rattle.records.specs.declared.Note.{Note}
use Rattle.std.proofs.Math.Path.{refl, ap, sym}
use Rattle.std.proofs.Common.{subst, ◌∙◌, append-nil, append_assoc, arith}
use Rattle.records.specs.Forest.{take_f, count_f, size}
use Rattle.records.specs.Place.{records_at, label_at, end_of, record_one, end_low, end_high}
use Rattle.output.specs.Overlay.{Wrote, wrote_none, wrote_then}
use Rattle.rewriting.specs.declared.Around.{Around}
use Rattle.rewriting.specs.declared.State.{State}
use Rattle.class_stack.specs.declared.ClassStack.{ClassStack}
use Rattle.walk_laws.specs.Written.{written}
use Rattle.walk_laws.specs.Still.{words_from, written_row, from_first, from_none, still_here, still_after}
use Rattle.counter.specs.Contract.{Noted}
use Rattle.transform.specs.Contract.{word_below, words_of, here_at, after_at, Asks, Emitted}

-- what the walker that copies asks: a place and an end behind it, and room for the words between them
pub record Copies (ws : List ℕ) (at e : ℕ) (c : ClassStack) (pos : ℕ) : Type 0 where
  pub some : at ≤ e
  pub inside : e ≤ length ws
  pub few : length ws ≤ 4096
  pub fit : pos + (e - at) < 67108864

-- ---- the loop: the words up to i are written

pub record Copying (ws : List ℕ) (at e : ℕ) (c : ClassStack) (o : List ℕ) (pos i : ℕ) (o' : List ℕ) (p : ℕ) : Type 0 where
  pub low : (at ≤ i) × (i ≤ e)
  pub done : List ℕ
  pub wrote : Wrote o pos done o' p
  pub end : p ≡ pos + (i - at)
  pub rest : words_from (word_below c) ws at (e - at) ≡ done ++ words_from (word_below c) ws i (e - i)

module _ {ws : List ℕ} {at e : ℕ} {c : ClassStack} {pos : ℕ} {o : List ℕ} where
  pub copying_start : {i : ℕ} → i ≡ at → at ≤ e → Copying ws at e c o pos i o pos
  copying_start {i} z h = subst (λ (j : ℕ). Copying ws at e c o pos j o pos) (sym z) (record { low = (omega arith, h); done = []; wrote = wrote_none o pos; end = omega arith; rest = refl })

  pub copying_next : {i j p q k m : ℕ} {o' o'' : List ℕ} → Copying ws at e c o pos i o' p → i < e → j ≡ i + 1 → k ≡ (label_at ws i).kind → m ≡ (label_at ws i).payload →
      Wrote o' p (word_below c k m ∷ []) o'' q → Copying ws at e c o pos j o'' q
  copying_next {i} {j} {p} {q} {k} {m} {o'} {o''} a h next ke me w =
      let x : ℕ = word_below c (label_at ws i).kind (label_at ws i).payload in
      let v : Wrote o' p (x ∷ []) o'' q = subst (λ (y : ℕ). Wrote o' p (y ∷ []) o'' q) (ap (λ (y : ℕ). word_below c y m) ke ∙ ap (word_below c (label_at ws i).kind) me) w in
      subst (λ (n : ℕ). Copying ws at e c o pos n o'' q) (sym next) (record {
        low = (omega (arith, a.low), omega arith);
        done = a.done ++ (x ∷ []);
        wrote = wrote_then a.wrote v;
        end = omega (arith, a.end, w.end, a.low);
        rest = a.rest ∙ ap (a.done ++◌) (from_first (word_below c) ws i e h) ∙ sym (append_assoc a.done (x ∷ []) (words_from (word_below c) ws (i + 1) (e - (i + 1))));
      })

  pub copying_all : {i p : ℕ} {o' : List ℕ} → Copying ws at e c o pos i o' p → e ≤ i → Wrote o pos (words_from (word_below c) ws at (e - at)) o' p
  copying_all {i} {p} {o'} a h =
      subst (λ (l : List ℕ). Wrote o pos l o' p) (sym (a.rest ∙ ap (a.done ++◌) (from_none (word_below c) ws i e h) ∙ append-nil a.done)) a.wrote

-- ---- a record

module _ {ws : List ℕ} {notes : List Note} {at : ℕ} {c : ClassStack} {pos : ℕ} (a : Around) (s : State) (f : Asks ws notes at 1 s.next c pos (size (here_at ws at 1 a s))) (h : at < length ws) (w : Note)
    (t : Noted ws at w) (b : w.still ≡ true) where
  here : here_at ws at 1 a s ≡ take_f 1 (records_at ws at)
  unfolding here_at
  here = still_here ws f.ready.whole at h (t.still b) a s

  words : words_of c (here_at ws at 1 a s) ≡ words_from (word_below c) ws at (w.end - at)
  unfolding words_of
  words = ap (written (word_below c)) here ∙ written_row (word_below c) ws at 1 ∙ ap (λ (e : ℕ). words_from (word_below c) ws at (e - at)) (sym t.place)

  pub copies : Copies ws at w.end c pos
  copies = record {
    some = omega (arith, t.place, end_low ws at 1);
    inside = omega (arith, t.place, end_high ws at 1, f.ready.inside);
    few = f.ready.few;
    fit = omega (arith, f.fit, ap size here, sized, t.place);
  }
    where
      sized : end_of ws at 1 ≡ at + size (take_f 1 (records_at ws at))
      sized = unfold end_of in refl

  -- once they are written the record is: it is one, and the state behind it is that in front
  pub copied_emits : {o o' : List ℕ} {p m : ℕ} → Wrote o pos (words_from (word_below c) ws at (w.end - at)) o' p →
      Emitted ws at 1 a s c o pos m o' (record { at = w.end; pos = p; state = s; count = m + 1 })
  copied_emits {o} {o'} {p} {m} g = record {
    moved = record {
      wrote = subst (λ (l : List ℕ). Wrote o pos l o' p) (sym words) g;
      place = t.place;
      state = after;
    };
    number = ap (m +◌) (sym (ap count_f here ∙ ap count_f (record_one ws at h) ∙ (unfold count_f in refl)));
  }
    where
      after : after_at ws at 1 a s ≡ s
      after = unfold after_at in still_after ws f.ready.whole at h (t.still b) a s
