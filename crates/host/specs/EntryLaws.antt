-- Laws of the entry's answers: the number loses nothing, a buffer of the proved length is enough, and the bytes stored are the answer's. Assumes nothing.
use Rattle.std.specs.Prelude.{◌≡◌, Bool, ℕ, ◌+◌, ◌*◌, ◌/◌, ◌%◌, ◌^◌, ◌<◌, ◌≤◌, ltb, drop}
use Rattle.std.proofs.Math.Path.{refl, sym, ap}
use Rattle.std.proofs.Common.{subst, ◌∙◌, mod-eq_of_lt, shr-shr, eqb-true, eq-eqb, ne_eqb, ltb-true, ltb-false, take-append-drop, length-take-le}
use Rattle.std.proofs.Math.Bool.{true, false, cond}
use mathlib.Core.List.{List, ◌++◌}
use native.Mathlib.Omega.{arith}
use Rattle.std.proofs.Math.Dec.{eqb}
use Rattle.std.proofs.lemmas.Bool.{eqb-false}
use Rattle.std.proofs.Math.ListN.{length, take}
use Rattle.std.proofs.Math.Seq.{take-append_seam}
use Rattle.output.specs.Overlay.{overlay}
use Rattle.grammar.specs.Scan.{refusal}
use Rattle.grammar.specs.declared.Refusal.{Refusal}
use Rattle.grammar.specs.Refusals.{number_of as refusal_number}
use Rattle.grammar.proofs.RefusalLaws.{number_some}
use Rattle.grammar.proofs.Refused.{refusal_le, refused_1}
use Rattle.grammar.proofs.Accepted.{accepted as well_formed}
use Rattle.rewriting.specs.Parts.{any_record, is_refused7}
use Rattle.rewriting.specs.Visit.{module_of}
use Rattle.rewriting.specs.Answer.{Answer, accepted, refused, turned_back, module_words, report_words, answer_of, lent_after, Reordered}
use Rattle.rewriting.proofs.Room.{faults_first, not_turned_back, seven_before_eight, untouched, by_case, written_le, room_cut}
use Rattle.rewriting.proofs.Length.{module_length}
use Rattle.rewriting.proofs.Report.{report_length}
use Rattle.rewriting.specs.DemandWords.{DemandWords}
use Rattle.rewriting.proofs.DemandAccepted.{demand_words}
use Rattle.rewriter.specs.Lends.{Lends}
use Rattle.rewriter.specs.Result.{take_written}
use Rattle.host.specs.Bytes.{words_of_bytes, bytes_of_words, Small}
use Rattle.host.specs.BytesLaws.{length_words, length_bytes, words_bytes}
use Rattle.host.specs.LendsBytes.{LendsBytes}
use Rattle.host.specs.Entry.{number_of, InFields, answer_in, answer_bytes, is_bad_length, rewrite_bytes, rewrite_bytes_lent, report_bytes, ReportBytesLent}

-- the number loses nothing
pub number_apart : (a : Answer) → InFields a → answer_in (number_of a) ≡ a
unfolding answer_in number_of
number_apart a f =
    let n = a.code + a.written * 2 ^ 8 + a.fresh * 2 ^ 36 in
    let low : n % 2 ^ 8 ≡ a.code = omega (arith, f.code) in
    let upper : n / 2 ^ 8 ≡ a.written + a.fresh * 2 ^ 28 = omega (arith, f.code) in
    let middle : (a.written + a.fresh * 2 ^ 28) % 2 ^ 28 ≡ a.written = omega (arith, f.written) in
    let top : (a.written + a.fresh * 2 ^ 28) / 2 ^ 28 ≡ a.fresh = omega (arith, f.written) in
    let high : n / 2 ^ 36 ≡ a.fresh = sym (shr-shr n 8 28) ∙ ap (λ (m : ℕ). m / 2 ^ 28) upper ∙ top in
    same (n % 2 ^ 8) (n / 2 ^ 8 % 2 ^ 28) (n / 2 ^ 36 % 2 ^ 28) low (ap (λ (m : ℕ). m % 2 ^ 28) upper ∙ middle) (ap (λ (m : ℕ). m % 2 ^ 28) high ∙ mod-eq_of_lt f.fresh)
  where
    same : (x y z : ℕ) → x ≡ a.code → y ≡ a.written → z ≡ a.fresh → record { code = x; written = y; fresh = z } ≡ a
    same x y z e g h = rw (e, g, h)

-- ---- how long the answers are: what the buffers are sized by

few : (ws : List ℕ) → turned_back ws ≡ 0 → length ws ≤ 4096
few ws e = ((well_formed ws).0 (not_turned_back ws e)).sized.few

pub module_bound : (ws : List ℕ) → turned_back ws ≡ 0 → length (module_words ws) ≤ 12288
module_bound ws e = omega (arith, module_length ws (not_turned_back ws e), few ws e)

pub report_bound : (ws : List ℕ) → turned_back ws ≡ 0 → length (report_words ws) ≤ 1365
report_bound ws e = omega (arith, report_length ws (not_turned_back ws e), few ws e)

turned_back_le : (ws : List ℕ) → turned_back ws ≤ 7
unfolding turned_back
turned_back_le ws = go (eqb (refusal ws) 0) (any_record is_refused7 (module_of ws))
  where
    go : (b d : Bool) → cond b (cond d 7 0) (refusal ws) ≤ 7
    go true true = omega arith
    go true false = omega arith
    go false d = omega (arith, refusal_le ws)

pub fields : (ws xs : List ℕ) (room : ℕ) → (turned_back ws ≡ 0 → length xs ≤ 12288) → InFields (answer_of ws xs room)
unfolding refused accepted
fields ws xs room bound =
    by_case ws xs room InFields (λ n. record { code = omega (arith, turned_back_le ws); written = omega arith; fresh = omega arith })
    (λ t k. record { code = omega arith; written = omega arith; fresh = omega arith })
    (λ t k. record { code = omega arith; written = omega (arith, bound t); fresh = omega (arith, report_bound ws t) })

-- ---- an answer for bytes

pub good_length : (n : ℕ) → is_bad_length n ≡ false → (n % 4 ≡ 0) × (n ≤ 16384)
unfolding is_bad_length
good_length n = go (eqb (n % 4) 0) refl
  where
    go : (b : Bool) → eqb (n % 4) 0 ≡ b → cond b (ltb 16384 n) true ≡ false → (n % 4 ≡ 0) × (n ≤ 16384)
    go true e h = (eqb-true (n % 4) 0 e, ltb-false 16384 n h)
    go false e h = let z : ◌≡◌ {A = Bool} true false = h in let w : ◌≡◌ {A = ℕ} 0 1 = cc in absurd (omega arith)

module _ (bs xs o : List ℕ) where
  answer_odd : (length bs % 4 ≡ 0 → ⊥) → answer_bytes bs xs o ≡ refused 1
  unfolding answer_bytes
  answer_odd n = rw (ne_eqb (length bs % 4) 0 n)

  answer_even : length bs % 4 ≡ 0 → answer_bytes bs xs o ≡ answer_of (words_of_bytes bs) xs (length o / 4)
  unfolding answer_bytes
  answer_even e = rw (eq-eqb (length bs % 4) 0 e)

  -- what validation refuses
  pub answer_refused : length bs % 4 ≡ 0 → (refusal (words_of_bytes bs) ≡ 0 → ⊥) → answer_bytes bs xs o ≡ refused (refusal (words_of_bytes bs))
  answer_refused e n =
      let ws : List ℕ = words_of_bytes bs in
      let first : turned_back ws ≡ refusal ws = faults_first ws n in
      answer_even e ∙ seven_before_eight ws xs (length o / 4) (λ z. n (sym first ∙ z)) ∙ ap refused first

  answer_many : length bs % 4 ≡ 0 → 16384 < length bs → answer_bytes bs xs o ≡ refused 1
  answer_many e h =
      let one : refusal (words_of_bytes bs) ≡ 1 = (refused_1 (words_of_bytes bs)).1 (λ z. omega (arith, z.few, length_words bs)) in
      answer_refused e (λ z. omega (arith, one, z)) ∙ ap refused one

  pub answer_bad : is_bad_length (length bs) ≡ true → answer_bytes bs xs o ≡ refused 1
  unfolding is_bad_length
  answer_bad = go (eqb (length bs % 4) 0) refl
    where
      go : (b : Bool) → eqb (length bs % 4) 0 ≡ b → cond b (ltb 16384 (length bs)) true ≡ true → answer_bytes bs xs o ≡ refused 1
      go true e h = answer_many (eqb-true (length bs % 4) 0 e) (ltb-true 16384 (length bs) h)
      go false e h = answer_odd (eqb-false (length bs % 4) 0 e)

-- for every input the three fit, so that the number can be taken apart again
pub bytes_fields : (bs xs o : List ℕ) → (turned_back (words_of_bytes bs) ≡ 0 → length xs ≤ 12288) → InFields (answer_bytes bs xs o)
unfolding answer_bytes
bytes_fields bs xs o bound = go (eqb (length bs % 4) 0)
  where
    go : (b : Bool) → InFields (cond b (answer_of (words_of_bytes bs) xs (length o / 4)) (refused 1))
    go true = fields (words_of_bytes bs) xs (length o / 4) bound
    go false = unfold refused in record { code = omega arith; written = omega arith; fresh = omega arith }

bytes_apart : (bs xs o : List ℕ) → (turned_back (words_of_bytes bs) ≡ 0 → length xs ≤ 12288) → answer_in (number_of (answer_bytes bs xs o)) ≡ answer_bytes bs xs o
bytes_apart bs xs o bound = number_apart (answer_bytes bs xs o) (bytes_fields bs xs o bound)

pub rewrite_apart : (bs o : List ℕ) → answer_in (number_of (rewrite_bytes bs o)) ≡ rewrite_bytes bs o
unfolding rewrite_bytes
rewrite_apart bs o = bytes_apart bs (module_words (words_of_bytes bs)) o (module_bound (words_of_bytes bs))

pub report_apart : (bs o : List ℕ) → answer_in (number_of (report_bytes bs o)) ≡ report_bytes bs o
unfolding report_bytes
report_apart bs o = bytes_apart bs (report_words (words_of_bytes bs)) o (λ t. omega (arith, report_bound (words_of_bytes bs) t))

-- ---- a refusal

pub refused_lent : (c : ℕ) (a : Answer) (ys o : List ℕ) → (c ≡ 0 → ⊥) → a ≡ refused c → o ≡ lent_after a ys o
unfolding refused
refused_lent c a ys o n e = sym (untouched a ys o (λ z. n (sym (ap (λ (r : Answer). r.code) e) ∙ z)))

-- a refusal leaves the bytes as they were
pub lends_refused : (Same : List ℕ → List ℕ → Type 0) (bs xs o : List ℕ) (c : ℕ) → Same xs xs → (c ≡ 0 → ⊥) → answer_bytes bs xs o ≡ refused c → LendsBytes Same bs xs o o
unfolding refused
lends_refused Same bs xs o c same n e =
    record { order = xs; same = same; lent = refused_lent c _ (bytes_of_words xs) o n e; again = λ z. absurd (n (sym (ap (λ (r : Answer). r.code) e) ∙ z)) }

-- what validation refuses
pub read_refused : (bs xs o : List ℕ) (r : Refusal) → length bs % 4 ≡ 0 → refusal_number r ≡ refusal (words_of_bytes bs) → answer_bytes bs xs o ≡ refused (refusal_number r)
read_refused bs xs o r even e = answer_refused bs xs o even (λ z. omega (arith, number_some r, e, z)) ∙ ap refused (sym e)

-- ---- the bytes stored. O are the words lent for the answer, ys those written over them

accepted_lent : (n f : ℕ) (ys o : List ℕ) → lent_after (accepted n f) ys o ≡ overlay o 0 ys
unfolding accepted lent_after
accepted_lent n f ys o = refl

module _ (ws xs ys O : List ℕ) (as_long : turned_back ws ≡ 0 → length ys ≡ length xs) (o O' : List ℕ) where
  abbrev Stored : Answer → Type 0
  Stored a = O' ≡ lent_after a ys O → overlay o 0 (bytes_of_words (take a.written O')) ≡ lent_after a (bytes_of_words ys) o

  stored_none : (c : ℕ) → (c ≡ 0 → ⊥) → Stored (refused c)
  unfolding refused lent_after bytes_of_words overlay
  stored_none c n h = rw (ne_eqb c 0 n)

  stored_all : (f : ℕ) → turned_back ws ≡ 0 → length xs ≤ length O → Stored (accepted (length xs) f)
  unfolding accepted
  stored_all f t k h =
      let i : length ys ≤ length O = omega (arith, as_long t) in
      let w : O' ≡ overlay O 0 ys = h ∙ accepted_lent (length xs) f ys O in
      let r : take (length xs) O' ≡ ys = rw (w, ← as_long t) (take_written O ys i) in
      ap (λ (l : List ℕ). overlay o 0 (bytes_of_words l)) r ∙ sym (accepted_lent (length xs) f (bytes_of_words ys) o)

  pub stored : (a : Answer) → a ≡ answer_of ws xs (length O) → Stored a
  stored a e =
      subst Stored (sym e)
      (by_case ws xs (length O) Stored (λ n. stored_none (turned_back ws) n) (λ t k. stored_none 8 (λ z. omega arith)) (stored_all (length (report_words ws))))

-- the words written, in the order in which they were
written_order : (ws xs zs z y : List ℕ) (a : Answer) → a ≡ answer_of ws xs (length z) → (turned_back ws ≡ 0 → length zs ≡ length xs) → y ≡ lent_after a zs z → a.code ≡ 0 → take a.written y ≡ zs
unfolding refused accepted
written_order ws xs zs z y a e as_long =
    subst P (sym e) (by_case ws xs (length z) P (λ n l c. absurd (n c)) (λ t k l c. absurd (omega arith)) fit)
  where
    P : Answer → Type 0
    P r = y ≡ lent_after r zs z → r.code ≡ 0 → take r.written y ≡ zs

    fit : turned_back ws ≡ 0 → length xs ≤ length z → P (accepted (length xs) (length (report_words ws)))
    fit t k l c =
        let i : length zs ≤ length z = omega (arith, as_long t) in
        let w : y ≡ overlay z 0 zs = l ∙ accepted_lent (length xs) (length (report_words ws)) zs z in
        rw (w, ← as_long t) (take_written z zs i)

-- what was stored, read as words again
read_back : (o xs : List ℕ) → Small xs → 4 * length xs ≤ length o → take (length xs) (words_of_bytes (overlay o 0 (bytes_of_words xs))) ≡ xs
read_back o xs small h =
    let bs : List ℕ = bytes_of_words xs in
    let whole : bs ++ drop (length bs) (overlay o 0 bs) ≡ overlay o 0 bs =
    ap (λ (l : List ℕ). l ++ drop (length bs) (overlay o 0 bs)) (sym (take_written o bs (omega (arith, length_bytes xs)))) ∙ take-append-drop (length bs) (overlay o 0 bs)
    in
    ap (λ (l : List ℕ). take (length xs) (words_of_bytes l)) (sym whole)
    ∙ ap (take (length xs)) (words_bytes xs (drop (length bs) (overlay o 0 bs)) small)
    ∙ take-append_seam xs (words_of_bytes (drop (length bs) (overlay o 0 bs)))

-- ---- a call on words, as the entry makes it

-- the buffer z was lent for the answer a, and came back as y. The answer is judged by the length of xs, and zs were written
pub record Called (bs xs zs z y : List ℕ) (a : Answer) : Type 0 where
  pub even : length bs % 4 ≡ 0
  pub bound : turned_back (words_of_bytes bs) ≡ 0 → length xs ≤ length z
  pub short : length z ≤ 12288
  pub as_long : turned_back (words_of_bytes bs) ≡ 0 → length zs ≡ length xs
  pub numbers : a ≡ answer_of (words_of_bytes bs) xs (length z)
  pub lent : y ≡ lent_after a zs z
  pub kept : length y ≡ length z

module _ {bs xs zs z y : List ℕ} {a : Answer} (c : Called bs xs zs z y a) where
  -- the words written lie within the buffer
  pub called_within : a.written ≤ length y
  called_within = omega (arith, c.kept, ap (λ (r : Answer). r.written) c.numbers, written_le (words_of_bytes bs) xs (length z))

  pub called_length : a.written ≡ length (take a.written y)
  called_length = sym (length-take-le a.written y called_within)

  -- the answer with n words lent
  cut : (n : ℕ) → (a.written ≤ n → a ≡ answer_of (words_of_bytes bs) xs n) × (n < a.written → answer_of (words_of_bytes bs) xs n ≡ refused 8)
  cut n =
      subst (λ (r : Answer). (r.written ≤ n → r ≡ answer_of (words_of_bytes bs) xs n) × (n < r.written → answer_of (words_of_bytes bs) xs n ≡ refused 8)) (sym c.numbers)
      (room_cut (words_of_bytes bs) xs (length z) n c.bound)

  -- the output is too short
  pub called_8 : (o : List ℕ) → length o / 4 < a.written → answer_bytes bs xs o ≡ refused 8
  called_8 o h = answer_even bs xs o c.even ∙ (cut (length o / 4)).1 h

  -- it is long enough
  module _ (o : List ℕ) (h : a.written ≤ length o / 4) where
    pub called_answer : a ≡ answer_bytes bs xs o
    called_answer = (cut (length o / 4)).0 h ∙ sym (answer_even bs xs o c.even)

    pub called_room : 4 * length (take a.written y) ≤ length o
    called_room = omega (arith, called_length, h)

    pub called_lent : {o' : List ℕ} → o' ≡ overlay o 0 (bytes_of_words (take a.written y)) → o' ≡ lent_after (answer_bytes bs xs o) (bytes_of_words zs) o
    called_lent e = e ∙ stored (words_of_bytes bs) xs zs z c.as_long o y a c.numbers c.lent ∙ ap (λ (r : Answer). lent_after r (bytes_of_words zs) o) called_answer

    -- the words stored are read there again
    pub called_again : {o' : List ℕ} → o' ≡ overlay o 0 (bytes_of_words (take a.written y)) → Small (take a.written y) → (answer_bytes bs xs o).code ≡ 0 → take (length zs) (words_of_bytes o') ≡ zs
    called_again {o'} e small none =
        let same : take a.written y ≡ zs = written_order (words_of_bytes bs) xs zs z y a c.numbers c.as_long c.lent (ap (λ (r : Answer). r.code) called_answer ∙ none) in
        ap (λ (l : List ℕ). take (length zs) (words_of_bytes l)) e
        ∙ ap (λ (l : List ℕ). take (length l) (words_of_bytes (overlay o 0 (bytes_of_words (take a.written y))))) (sym same)
        ∙ read_back o (take a.written y) small called_room ∙ same

-- ---- a job. v are the words read

module _
    (words : List ℕ → List ℕ) (Same : List ℕ → List ℕ → Type 0)
    (as_many : (ws ys : List ℕ) → refusal ws ≡ 0 → Same ys (words ws) → length ys ≡ length (words ws))
    (fits : (ws : List ℕ) → refusal ws ≡ 0 → length (words ws) ≤ 3 * length ws)
    (bs v z y : List ℕ) (read : v ≡ words_of_bytes bs) (l : Lends Same v (words v) z y) where
  pub job_order : Same l.order (words (words_of_bytes bs))
  job_order = subst (λ (ws : List ℕ). Same l.order (words ws)) read l.same

  pub job_called : (a : Answer) → length bs % 4 ≡ 0 → 3 * (length bs / 4) ≤ length z → length z ≤ 12288 → length y ≡ length z → a ≡ answer_of v (words v) (length z) → Called bs (words (words_of_bytes bs)) l.order z y a
  job_called a even long short kept numbers = record {
    even = even;
    bound = λ t. omega (arith, fits (words_of_bytes bs) (not_turned_back (words_of_bytes bs) t), length_words bs, long);
    short = short;
    as_long = λ t. as_many (words_of_bytes bs) l.order (not_turned_back (words_of_bytes bs) t) job_order;
    numbers = numbers ∙ ap (λ (ws : List ℕ). answer_of ws (words ws) (length z)) read;
    lent = l.lent ∙ ap (λ (r : Answer). lent_after r l.order z) (sym numbers);
    kept = kept;
  }

-- ---- the two calls

-- an accepted answer
answer_accepted : (bs xs o : List ℕ) → (answer_bytes bs xs o).code ≡ 0 → (turned_back (words_of_bytes bs) ≡ 0) × ((answer_bytes bs xs o).written ≡ length xs)
unfolding answer_bytes refused accepted
answer_accepted bs xs o = go (eqb (length bs % 4) 0)
  where
    P : Answer → Type 0
    P r = r.code ≡ 0 → (turned_back (words_of_bytes bs) ≡ 0) × (r.written ≡ length xs)

    go : (b : Bool) → P (cond b (answer_of (words_of_bytes bs) xs (length o / 4)) (refused 1))
    go true = by_case (words_of_bytes bs) xs (length o / 4) P (λ n c. absurd (n c)) (λ t k c. absurd (omega arith)) (λ t k c. (t, refl))
    go false = λ c. absurd (omega arith)

module _ {bs o o' : List ℕ} where
  pub rewriting_lent : LendsBytes (λ ys xs. ys ≡ xs) bs (module_words (words_of_bytes bs)) o o' → o' ≡ rewrite_bytes_lent bs o
  unfolding rewrite_bytes rewrite_bytes_lent
  rewriting_lent l = l.lent ∙ ap (λ (ys : List ℕ). lent_after (answer_bytes bs (module_words (words_of_bytes bs)) o) (bytes_of_words ys) o) l.same

  -- demand 3 of the words stored
  pub rewriting_demand : (n : ℕ) → n ≡ number_of (rewrite_bytes bs o) → LendsBytes (λ ys xs. ys ≡ xs) bs (module_words (words_of_bytes bs)) o o' →
      (answer_in n).code ≡ 0 → DemandWords (words_of_bytes bs) (take (answer_in n).written (words_of_bytes o'))
  unfolding rewrite_bytes
  rewriting_demand n e l none =
      let xs : List ℕ = module_words (words_of_bytes bs) in
      let p : answer_in n ≡ answer_bytes bs xs o = ap answer_in e ∙ rewrite_apart bs o in
      let c : (answer_bytes bs xs o).code ≡ 0 = ap (λ (r : Answer). r.code) (sym p) ∙ none in
      let t = answer_accepted bs xs o c in
      let k : (answer_in n).written ≡ length l.order = ap (λ (r : Answer). r.written) p ∙ t.1 ∙ ap length (sym l.same) in
      subst (DemandWords (words_of_bytes bs)) (sym (ap (λ (m : ℕ). take m (words_of_bytes o')) k ∙ l.again c ∙ l.same)) (demand_words (words_of_bytes bs) t.0)

  pub report_lent : LendsBytes Reordered bs (report_words (words_of_bytes bs)) o o' → ReportBytesLent bs o o'
  unfolding report_bytes
  report_lent l = record { order = l.order; same = l.same; lent = l.lent }
