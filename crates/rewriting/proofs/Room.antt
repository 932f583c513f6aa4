-- What follows of the answers: what comes first, their cases, how much room is enough, one word of the report for each fresh symbol in any order. Assumes nothing.
use Rattle.std.specs.Prelude.{◌≡◌, Bool, true, false, cond, ◌&&◌, List, [], ◌∷◌, ℕ, suc, ◌+◌, ◌*◌, ◌<◌, ◌≤◌, length, ltb, leb}
use Rattle.std.proofs.Math.Path.{refl, ap}
use Rattle.std.proofs.Common.{sym, ◌∙◌, arith}
use Rattle.std.specs.declared.option.Option.TheVariants.{None as none}
use Rattle.std.proofs.Math.Dec.{eqb}
use borrow.Author.Tests.{eqb-true, eqb-false, eq-eqb, ne_eqb, ltb-true, ltb-false, lt-ltb, le-ltb, le-leb}
use Rattle.words.specs.Word.{kind_of, payload_of, kind_of_lem, payload_of_lem}
use Rattle.records.specs.Label.{Label, word_at, words, length_words}
use Rattle.grammar.specs.Scan.{refusal, symbols_of}
use Rattle.grammar.proofs.Accepted.{accepted}
use Rattle.rewriting.specs.Parts.{any_record, is_refused7}
use Rattle.rewriting.specs.Visit.{visit, outermost, module_of, visit_words, reported}
use Rattle.rewriting.specs.declared.State.{State}
use Rattle.rewriting.proofs.Fresh.{IsSort, Numbered, numbered_length, visit_fresh}
use Rattle.rewriting.proofs.Facts.{counter}
use Rattle.rewriting.proofs.Fitting.{words_size}
use Rattle.rewriting.specs.Answer.{Answer, accepted as accept, refused, turned_back, module_words, report_words, answer_of, lent_after, rewrite_answer, report_answer, count_if, Reordered}
use Rattle.rewriting.proofs.Length.{module_length}
use Rattle.rewriting.proofs.Report.{report_length}

-- ---- what comes first

-- "1 comes first. Then the first word at fault decides .. Then 7, then 8"
pub faults_first : (ws : List ℕ) → (refusal ws ≡ 0 → ⊥) → turned_back ws ≡ refusal ws
unfolding turned_back
faults_first ws n = rw (ne_eqb (refusal ws) 0 n)

pub seven_before_eight : (ws xs : List ℕ) (room : ℕ) → (turned_back ws ≡ 0 → ⊥) → answer_of ws xs room ≡ refused (turned_back ws)
unfolding answer_of
seven_before_eight ws xs room n = rw (ne_eqb (turned_back ws) 0 n)

-- "A refusal leaves output untouched"
pub untouched : (r : Answer) (xs o : List ℕ) → (r.code ≡ 0 → ⊥) → lent_after r xs o ≡ o
unfolding lent_after
untouched r xs o n = rw (ne_eqb r.code 0 n)

-- ---- an answer, by cases

-- turned back, too short, or written
pub by_case : (ws xs : List ℕ) (room : ℕ) (P : Answer → Type 0) → ((turned_back ws ≡ 0 → ⊥) → P (refused (turned_back ws))) → (turned_back ws ≡ 0 → room < length xs → P (refused 8)) →
    (turned_back ws ≡ 0 → length xs ≤ room → P (accept (length xs) (length (report_words ws)))) → P (answer_of ws xs room)
unfolding answer_of
by_case ws xs room P back short fit = go (eqb (turned_back ws) 0) refl (ltb room (length xs)) refl
  where
    go : (b : Bool) → eqb (turned_back ws) 0 ≡ b → (d : Bool) → ltb room (length xs) ≡ d →
        P (cond b (cond d (refused 8) (accept (length xs) (length (report_words ws)))) (refused (turned_back ws)))
    go true e true f = short (eqb-true (turned_back ws) 0 e) (ltb-true room (length xs) f)
    go true e false f = fit (eqb-true (turned_back ws) 0 e) (ltb-false room (length xs) f)
    go false e d f = back (eqb-false (turned_back ws) 0 e)

-- no more is written than is lent
pub written_le : (ws xs : List ℕ) (room : ℕ) → (answer_of ws xs room).written ≤ room
unfolding refused accept
written_le ws xs room = by_case ws xs room (λ a. a.written ≤ room) (λ n. omega arith) (λ t k. omega arith) (λ t k. k)

-- a refusal other than 8 doesn't depend on what is to be written or on the room
pub same_refusal : (ws xs ys : List ℕ) (m n c : ℕ) → (c ≡ 0 → ⊥) → (c ≡ 8 → ⊥) → (answer_of ws xs m).code ≡ c → (answer_of ws ys n).code ≡ c
unfolding refused accept
same_refusal ws xs ys m n c z e =
    by_case ws xs m (λ a. a.code ≡ c → (answer_of ws ys n).code ≡ c) (λ t h. ap (λ (a : Answer). a.code) (seven_before_eight ws ys n t) ∙ h)
    (λ t k h. absurd (e (sym h))) (λ t k h. absurd (z (sym h)))

-- what is accepted isn't turned back, and counts the module's fresh symbols
pub accepted_fresh : (ws xs : List ℕ) (m : ℕ) → (answer_of ws xs m).code ≡ 0 → (turned_back ws ≡ 0) × ((answer_of ws xs m).fresh ≡ length (report_words ws))
unfolding refused accept
accepted_fresh ws xs m =
    by_case ws xs m (λ a. a.code ≡ 0 → (turned_back ws ≡ 0) × (a.fresh ≡ length (report_words ws))) (λ t h. absurd (t h)) (λ t k h. absurd (omega (arith, h))) (λ t k h. (t, refl))

-- the answer with n words lent, by that of a call that had room enough: the same if what that wrote fits, else 8
pub room_cut : (ws xs : List ℕ) (m n : ℕ) → (turned_back ws ≡ 0 → length xs ≤ m) →
    ((answer_of ws xs m).written ≤ n → answer_of ws xs m ≡ answer_of ws xs n) × (n < (answer_of ws xs m).written → answer_of ws xs n ≡ refused 8)
unfolding refused accept
room_cut ws xs m n bound =
    by_case ws xs m (λ a. (a.written ≤ n → a ≡ answer_of ws xs n) × (n < a.written → answer_of ws xs n ≡ refused 8))
    (λ t. (λ h. sym (seven_before_eight ws xs n t), λ h. absurd (omega arith)))
    (λ t k. absurd (omega (arith, k, bound t)))
    (λ t k. (
      λ h. unfold answer_of in rw (eq-eqb (turned_back ws) 0 t, le-ltb n (length xs) h),
      λ h. unfold answer_of in rw (eq-eqb (turned_back ws) 0 t, lt-ltb n (length xs) h),
    ))

-- ---- room enough

-- accepted by refusals 1 to 7, so by 1 to 6
pub not_turned_back : (ws : List ℕ) → turned_back ws ≡ 0 → refusal ws ≡ 0
unfolding turned_back
not_turned_back ws e = go (eqb (refusal ws) 0) refl e
  where
    go : (b : Bool) → eqb (refusal ws) 0 ≡ b → cond b (cond (any_record is_refused7 (module_of ws)) 7 0) (refusal ws) ≡ 0 → refusal ws ≡ 0
    go true f e = eqb-true (refusal ws) 0 f
    go false f e = e

enough : (ws xs : List ℕ) (room : ℕ) → (refusal ws ≡ 0 → length xs ≤ room) → (answer_of ws xs room).code ≡ turned_back ws
unfolding refused accept
enough ws xs room h = by_case ws xs room (λ a. a.code ≡ turned_back ws) (λ n. refl) (λ t k. absurd (omega (arith, k, h (not_turned_back ws t)))) (λ t k. sym t)

-- three times the input's words are room enough for the rewriting, a third of them for the report
pub rewriting_room : (ws o : List ℕ) → 3 * length ws ≤ length o → (rewrite_answer ws o).code ≡ turned_back ws
unfolding rewrite_answer
rewriting_room ws o h = enough ws (module_words ws) (length o) (λ e. omega (arith, h, module_length ws e))

pub report_room : (ws o : List ℕ) → length ws ≤ 3 * length o → (report_answer ws o).code ≡ turned_back ws
unfolding report_answer
report_room ws o h = enough ws (report_words ws) (length o) (λ e. omega (arith, h, report_length ws e))

-- ---- the report

count_words : (p : ℕ → Bool) (l : Label) (ls : List Label) (b : Bool) → p (word_at l) ≡ b → count_if p (words (l ∷ ls)) ≡ cond b (suc (count_if p (words ls))) (count_if p (words ls))
unfolding words count_if
count_words p l ls b e = ap (λ (x : Bool). cond x (suc (count_if p (words ls))) (count_if p (words ls))) e

-- a word of the symbol s; a word of one of the four sorts
unfoldable pub is_of : ℕ → ℕ → Bool
is_of s w = eqb (payload_of w) s

unfoldable pub is_sorted : ℕ → Bool
is_sorted w = leb 1 (kind_of w) && leb (kind_of w) 4

module _ (l : Label) (n : ℕ) (e : l.payload ≡ n) (h : n < 67108864) where
  word_symbol : (s : ℕ) → is_of s (word_at l) ≡ eqb n s
  unfolding is_of word_at
  word_symbol s = ap (λ (p : ℕ). eqb p s) (payload_of_lem l.kind l.payload (omega (arith, e, h)) ∙ e)

  word_sort : IsSort l.kind → is_sorted (word_at l) ≡ true
  unfolding is_sorted word_at
  word_sort k = rw (kind_of_lem l.kind l.payload (omega (arith, e, h)), le-leb 1 l.kind k.low, le-leb l.kind 4 k.high)

-- a symbol below the first has none
numbered_none : (s n m : ℕ) (fs : List Label) → Numbered n fs m → m ≤ 67108864 → s < n → count_if (is_of s) (words fs) ≡ 0
numbered_none s n m [] h a b = unfold words count_if in refl
numbered_none s n m (l ∷ fs) h a b =
    let low : n < 67108864 = omega (arith, a, numbered_length (suc n) m fs h.2) in
    count_words (is_of s) l fs false (word_symbol l n h.0 low s ∙ ne_eqb n s (λ e. omega (arith, b, e))) ∙ numbered_none s (suc n) m fs h.2 a (omega (arith, b))

numbered_once : (s n m : ℕ) (fs : List Label) → Numbered n fs m → m ≤ 67108864 → n ≤ s → s < m → count_if (is_of s) (words fs) ≡ 1
numbered_once s n m [] h a b c = absurd (omega (arith, h, b, c))
numbered_once s n m (l ∷ fs) h a b c =
    either (eqb n s) refl (numbered_none s (suc n) m fs h.2 a) (numbered_once s (suc n) m fs h.2 a)
  where
    low : n < 67108864
    low = omega (arith, a, numbered_length (suc n) m fs h.2)

    either : (x : Bool) → eqb n s ≡ x → (s < suc n → count_if (is_of s) (words fs) ≡ 0) → (suc n ≤ s → s < m → count_if (is_of s) (words fs) ≡ 1) → count_if (is_of s) (words (l ∷ fs)) ≡ 1
    either true e none' once = count_words (is_of s) l fs true (word_symbol l n h.0 low s ∙ e) ∙ ap suc (none' (omega (arith, eqb-true n s e)))
    either false e none' once = count_words (is_of s) l fs false (word_symbol l n h.0 low s ∙ e) ∙ once (omega (arith, b, eqb-false n s e)) c

numbered_sorts : (n m : ℕ) (fs : List Label) → Numbered n fs m → m ≤ 67108864 → count_if is_sorted (words fs) ≡ length fs
numbered_sorts n m [] h a = unfold words count_if in refl
numbered_sorts n m (l ∷ fs) h a =
    let low : n < 67108864 = omega (arith, a, numbered_length (suc n) m fs h.2) in
    count_words is_sorted l fs true (word_sort l n h.0 low h.1) ∙ ap suc (numbered_sorts (suc n) m fs h.2 a)

count_all : (ws : List ℕ) → count_if (λ w. true) ws ≡ length ws
unfolding count_if
count_all [] = refl
count_all (w ∷ ws) = ap suc (count_all ws)

-- "in it each fresh symbol has exactly one word": in any order, and each word is of one of the four sorts
pub record OneEach (ws order : List ℕ) : Type 0 where
  pub as_many : length order ≡ length (report_words ws)
  pub sorted : count_if is_sorted order ≡ length order
  pub once : (s : ℕ) → symbols_of ws ≤ s → s < symbols_of ws + length (report_words ws) → count_if (is_of s) order ≡ 1

pub one_each : (ws order : List ℕ) → refusal ws ≡ 0 → Reordered order (report_words ws) → OneEach ws order
unfolding Reordered report_words reported visit_words
one_each ws order ok r =
    let t : State = record { next = symbols_of ws; default = none } in
    let fs : List Label = (visit outermost (module_of ws) t).fresh in
    let m : ℕ = (visit outermost (module_of ws) t).after.next in
    let numbered : Numbered (symbols_of ws) fs m = visit_fresh (module_of ws) outermost t in
    let count : symbols_of ws + length fs ≡ m = numbered_length (symbols_of ws) m fs numbered in
    let few : length ws ≤ 4096 = ((accepted ws).0 ok).sized.few in
    let symbols : symbols_of ws ≤ 1000000 = ((accepted ws).0 ok).count in
    let bound : m ≤ 67108864 = omega (arith, count, few, symbols, counter (module_of ws) outermost t, words_size ws) in
    let same : length order ≡ length (words fs) = sym (count_all order) ∙ r (λ w. true) ∙ count_all (words fs) in
    record {
      as_many = same;
      sorted = r is_sorted ∙ numbered_sorts (symbols_of ws) m fs numbered bound ∙ sym (same ∙ length_words fs);
      once = λ s a b. r (is_of s) ∙ numbered_once s (symbols_of ws) m fs numbered bound a (omega (arith, b, count, length_words fs));
    }
