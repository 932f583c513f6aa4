-- What the bytes of a text say, read on from a stage: the words of the lines that end in them, and the line that is reached. Assumes nothing.
use Rattle.std.specs.Prelude.{◌≡◌, refl, Bool, true, false, cond, List, [], ◌∷◌, ◌++◌, ℕ, ◌+◌, ◌<◌, ◌≤◌, min, ltb, eqb, length, take, get_or, set, ◌⊎◌}
use Rattle.std.proofs.Common.{sym, ap, inl, inr, ◌∙◌, append_assoc, append-nil, add-one, arith, length-append, take-suc, take_all}
use borrow.Author.Tests.{ltb-false, ltb-true, eq-eqb, ne_eqb}
use Rattle.words.specs.Word.{word_of}
use Rattle.output.specs.Overlay.{overlay, length_overlay, overlay_append, overlay_past}
use Rattle.line_reader.specs.declared.Stage.{Stage}
use Rattle.line_reader.specs.declared.Stage.TheVariants.{Start, Blank, Kind, Colon, Payload, End, Bad}
use Rattle.line_reader.specs.declared.Reading.{Reading}
use Rattle.line_reader.specs.Line.{stepped, within, at_end, is_bad, Fit, fit_stepped}

-- the word of a line that ends
unfoldable pub word_of_line : Stage → List ℕ
word_of_line Start = []
word_of_line Blank = []
word_of_line (Kind k) = []
word_of_line (Colon k) = []
word_of_line (Payload k p) = word_of k p ∷ []
word_of_line (End k p) = word_of k p ∷ []
word_of_line (Bad f) = []

-- the largest line number that is counted
unfoldable pub max_line : ℕ
max_line = 18446744073709551615

-- the number of the line to read after a line feed that led to this stage: a bad line isn't left
unfoldable pub next_line : Stage → ℕ → ℕ
next_line s n = cond (is_bad s) n (min (n + 1) max_line)

-- ---- bytes

unfoldable pub stage_after : Stage → List ℕ → Stage
stage_after s [] = s
stage_after s (b ∷ bs) = stage_after (stepped s b) bs

unfoldable pub words_by : Stage → ℕ → List ℕ
words_by s b = cond (eqb b 10) (word_of_line s) []

unfoldable pub words_after : Stage → List ℕ → List ℕ
words_after s [] = []
words_after s (b ∷ bs) = words_by s b ++ words_after (stepped s b) bs

unfoldable pub line_by : Stage → ℕ → ℕ → ℕ
line_by s n b = cond (eqb b 10) (next_line (stepped s b) n) n

unfoldable pub line_after : Stage → ℕ → List ℕ → ℕ
line_after s n [] = n
line_after s n (b ∷ bs) = line_after (stepped s b) (line_by s n b) bs

-- ---- what a reader does

-- the words ws stored from `at` on, as many as there is room for, and the place behind them
pub record Stored (o : List ℕ) (at : ℕ) (ws : List ℕ) (o' : List ℕ) (next : ℕ) : Type 0 where
  pub list : o' ≡ overlay o at ws
  pub end : next ≡ min (at + length ws) (length o)

-- from r on the bytes bs were read: the slice o became o', the reading r'
pub record Follows (bs : List ℕ) (o : List ℕ) (r : Reading) (o' : List ℕ) (r' : Reading) : Type 0 where
  pub stage : r'.stage ≡ stage_after r.stage bs
  pub line : r'.line ≡ line_after r.stage r.line bs
  pub words : Stored o r.stored (words_after r.stage bs) o' r'.stored

-- what a reading is at any time
pub record Ready (o : List ℕ) (r : Reading) : Type 0 where
  pub fit : Fit r.stage
  pub room : r.stored ≤ length o

-- ---- laws

pub stored_none : (o : List ℕ) (at : ℕ) → at ≤ length o → Stored o at [] o at
unfolding overlay
stored_none o at h = record { list = refl; end = omega arith }

-- one word, where there is room for it and where there is none
pub stored_one : (o : List ℕ) (at w : ℕ) → at < length o → Stored o at (w ∷ []) (set o at w) (at + 1)
unfolding overlay
stored_one o at w h = record { list = refl; end = omega arith }

pub stored_out : (o : List ℕ) (at w : ℕ) → at ≤ length o → length o ≤ at → Stored o at (w ∷ []) o at
stored_out o at w h g = record { list = sym (overlay_past o at (w ∷ []) g); end = omega arith }

-- a stage with kind and payload, and any other
module _ {s : Stage} {k p : ℕ} (e : (s ≡ Payload k p) ⊎ (s ≡ End k p)) where
  pub fit_of_word : Fit s → (k < 64) × (p < 67108864)
  unfolding Fit
  fit_of_word h = elim e [ inl q ↦ rw q at h | inr q ↦ rw q at h ]

  pub stored_word : {o : List ℕ} {at w : ℕ} {o' : List ℕ} {n : ℕ} → w ≡ word_of k p → Stored o at (w ∷ []) o' n → Stored o at (word_of_line s) o' n
  unfolding word_of_line
  stored_word f h = elim e [ inl q ↦ rw (q, ← f) h | inr q ↦ rw (q, ← f) h ]

pub stored_no_word : (o : List ℕ) (at : ℕ) (s : Stage) → at ≤ length o → ((k p : ℕ) → s ≡ Payload k p → ⊥) → ((k p : ℕ) → s ≡ End k p → ⊥) →
    Stored o at (word_of_line s) o at
unfolding word_of_line
stored_no_word o at Start h f g = stored_none o at h
stored_no_word o at Blank h f g = stored_none o at h
stored_no_word o at (Kind k) h f g = stored_none o at h
stored_no_word o at (Colon k) h f g = stored_none o at h
stored_no_word o at (Payload k p) h f g = absurd (f k p refl)
stored_no_word o at (End k p) h f g = absurd (g k p refl)
stored_no_word o at (Bad e) h f g = stored_none o at h

-- behind the end it doesn't matter where
overlay_capped : (o : List ℕ) (at : ℕ) (ws : List ℕ) (n : ℕ) → n ≡ length o → overlay o (min at n) ws ≡ overlay o at ws
overlay_capped o at ws n e = go (ltb n at) refl
  where
    go : (x : Bool) → ltb n at ≡ x → overlay o (min at n) ws ≡ overlay o at ws
    go true q =
        let h : n < at = ltb-true n at q in
        let a : length o ≤ min at n = omega arith in
        let b : length o ≤ at = omega arith in
        overlay_past o (min at n) ws a ∙ sym (overlay_past o at ws b)
    go false q =
        let h : at ≤ n = ltb-false n at q in
        let m : min at n ≡ at = omega arith in
        ap (λ (i : ℕ). overlay o i ws) m

pub stored_then : {o : List ℕ} {at : ℕ} {a o₁ : List ℕ} {n₁ : ℕ} {b o₂ : List ℕ} {n₂ : ℕ} →
    Stored o at a o₁ n₁ → Stored o₁ n₁ b o₂ n₂ → Stored o at (a ++ b) o₂ n₂
stored_then {o} {at} {a} {o₁} {n₁} {b} p q =
    let l : length o₁ ≡ length o = ap length p.list ∙ length_overlay o at a in
    record {
      list =
          q.list ∙ ap (λ (n : ℕ). overlay o₁ n b) (p.end ∙ ap (λ (n : ℕ). min (at + length a) n) (sym l)) ∙ overlay_capped o₁ (at + length a) b (length o₁) refl
          ∙ ap (λ (x : List ℕ). overlay x (at + length a) b) p.list
          ∙ sym (overlay_append o at a b);
      end = omega (arith, p.end, q.end, length-append a b);
    }

pub stage_append : (s : Stage) (a b : List ℕ) → stage_after s (a ++ b) ≡ stage_after (stage_after s a) b
unfolding stage_after
stage_append s [] b = refl
stage_append s (x ∷ a) b = stage_append (stepped s x) a b

pub line_append : (s : Stage) (n : ℕ) (a b : List ℕ) → line_after s n (a ++ b) ≡ line_after (stage_after s a) (line_after s n a) b
unfolding stage_after line_after
line_append s n [] b = refl
line_append s n (x ∷ a) b = line_append (stepped s x) (line_by s n x) a b

pub words_append : (s : Stage) (a b : List ℕ) → words_after s (a ++ b) ≡ words_after s a ++ words_after (stage_after s a) b
unfolding stage_after words_after
words_append s [] b = refl
words_append s (x ∷ a) b =
    ap (λ (l : List ℕ). words_by s x ++ l) (words_append (stepped s x) a b)
    ∙ sym (append_assoc (words_by s x) (words_after (stepped s x) a) (words_after (stage_after (stepped s x) a) b))

pub follows_none : (o : List ℕ) (r : Reading) → Ready o r → Follows [] o r o r
unfolding stage_after line_after words_after
follows_none o r h = record { stage = refl; line = refl; words = stored_none o r.stored h.room }

pub follows_then : {a o : List ℕ} {r : Reading} {o₁ : List ℕ} {r₁ : Reading} {b o₂ : List ℕ} {r₂ : Reading} →
    Follows a o r o₁ r₁ → Follows b o₁ r₁ o₂ r₂ → Follows (a ++ b) o r o₂ r₂
follows_then {a} {o} {r} {o₁} {r₁} {b} {o₂} {r₂} p q = record {
  stage = q.stage ∙ ap (λ (s : Stage). stage_after s b) p.stage ∙ sym (stage_append r.stage a b);
  line = q.line ∙ ap (λ (s : Stage). line_after s r₁.line b) p.stage ∙ ap (λ (n : ℕ). line_after (stage_after r.stage a) n b) p.line ∙ sym (line_append r.stage r.line a b);
  words = rw (words_append, ← p.stage) (stored_then p.words q.words);
}

pub fit_after : (s : Stage) (bs : List ℕ) → Fit s → Fit (stage_after s bs)
unfolding stage_after
fit_after s [] h = h
fit_after s (b ∷ bs) h = fit_after (stepped s b) bs (fit_stepped s b h)

-- it stays ready
pub ready_after : {bs o : List ℕ} {r : Reading} {o' : List ℕ} {r' : Reading} → Ready o r → Follows bs o r o' r' → Ready o' r'
ready_after {bs} {o} {r} {o'} {r'} h f = record {
  fit = rw f.stage (fit_after r.stage bs h.fit);
  room = omega (arith, f.words.end, ap length f.words.list ∙ length_overlay o r.stored (words_after r.stage bs));
}

-- one byte: a line feed, any other
module _ {o : List ℕ} (r : Reading) (b : ℕ) (s : Stage) where
  pub follows_feed : {o' : List ℕ} (n at : ℕ) → b ≡ 10 → Stored o r.stored (word_of_line r.stage) o' at → s ≡ at_end r.stage → n ≡ next_line s r.line →
      Follows (b ∷ []) o r o' (record { stage = s; line = n; stored = at })
  unfolding stage_after line_after words_after line_by words_by stepped
  follows_feed n at h w e l = record {
    stage = rw (eq-eqb b 10 h) e;
    line = rw (eq-eqb b 10 h, ← e) l;
    words = rw (append-nil, eq-eqb b 10 h) w;
  }

  pub follows_byte : (b ≡ 10 → ⊥) → r.stored ≤ length o → s ≡ within r.stage b → Follows (b ∷ []) o r o (record { stage = s; line = r.line; stored = r.stored })
  unfolding stage_after line_after words_after line_by words_by stepped
  follows_byte h g e = record {
    stage = rw (ne_eqb b 10 h) e;
    line = rw (ne_eqb b 10 h);
    words = rw (append-nil, ne_eqb b 10 h) (stored_none o r.stored g);
  }

-- the bytes up to i, one more, and all
pub follows_more : {o : List ℕ} {r : Reading} {o₁ : List ℕ} {r₁ : Reading} {o₂ : List ℕ} {r₂ : Reading} (bs : List ℕ) (i : ℕ) → i < length bs →
    Follows (take i bs) o r o₁ r₁ → Follows (get_or bs i 0 ∷ []) o₁ r₁ o₂ r₂ → Follows (take (i + 1) bs) o r o₂ r₂
follows_more bs i h p q = rw (add-one, take-suc bs i 0) (follows_then p q)

pub follows_all : {o : List ℕ} {r : Reading} {o₁ : List ℕ} {r₁ : Reading} (bs : List ℕ) (i : ℕ) → length bs ≤ i → Follows (take i bs) o r o₁ r₁ → Follows bs o r o₁ r₁
follows_all bs i h p = rw (take_all i bs h) at p

-- the start of a text is ready for any slice
pub ready_start : (o : List ℕ) (r : Reading) → (r.stage ≡ Start) × (r.line ≡ 1) × (r.stored ≡ 0) → Ready o r
unfolding Fit
ready_start o r h = record { fit = rw h.0 tt; room = omega (arith, h.2) }
