-- What the walkers leave of a whole module, and the answers that follow. Assumes nothing.
use Rattle.std.proofs.Math.Path.{◌≡◌, refl, ap, sym}
use Rattle.std.proofs.Common.{subst, ◌∙◌, arith, length-set, take-suc-set, add-zero}
use Rattle.std.proofs.Math.Bool.{true, false}
use Rattle.std.specs.declared.option.Option.TheVariants.{None as none}
use mathlib.Core.List.{List, [], ◌∷◌, ◌++◌, map, append-nil, append_assoc}
use Prim.Native.Nat.{ℕ, zero, suc, ◌+◌, ◌-◌, ◌<◌, ◌≤◌}
use Rattle.std.proofs.Math.Dec.{eqb}
use borrow.Author.Tests.{eq-eqb, ne_eqb, lt-ltb, le-ltb}
use Rattle.std.specs.Prelude.{length, take, set, Result as Outcome, Ok, Err, IfOk}
use Rattle.std.proofs.lemmas.List.{length-map}
use Rattle.records.specs.Forest.{flat, size}
use Rattle.records.specs.Label.{Label, Trees, word_at, words, ◌∶◌, read_at}
use Rattle.records.specs.declared.Note.{Note}
use Rattle.records.specs.Place.{records_at, label_at}
use Rattle.grammar.specs.declared.Refusal.{Refusal}
use Rattle.grammar.specs.Refusals.{number_of}
use Rattle.grammar.proofs.RefusalLaws.{number_some}
use Rattle.output.specs.Overlay.{overlay, Wrote}
use Rattle.grammar.specs.Scan.{refusal, symbols_of}
use Rattle.grammar.specs.WellFormed.{tree_of}
use Rattle.rewriting.specs.Visit.{Result, visit, module_of, visit_words, outermost, rewritten, reported}
use Rattle.rewriting.specs.declared.State.{State}
use Rattle.rewriting.proofs.Fresh.{fresh_length}
use Rattle.rewriting.proofs.Length.{module_length}
use Rattle.rewriting.proofs.Room.{by_case}
use Rattle.rewriting.specs.Parts.{any_record, is_refused7}
use Rattle.rewriting.specs.Answer.{Answer, accepted, refused, turned_back, module_words, report_words, answer_of, lent_after, rewrite_answer, rewrite_lent}
use Rattle.rewriting.specs.DemandWords.{DemandWords}
use Rattle.rewriting.proofs.DemandAccepted.{demand_words}
use Rattle.class_stack.specs.Renaming.{Sub, capacity, entries}
use Rattle.class_stack.specs.Stack.{subs}
use Rattle.class_stack.specs.declared.ClassStack.{ClassStack}
use Rattle.walk_laws.specs.Rows.{visit_at}
use Rattle.walk_laws.specs.Written.{word_by, written}
use Rattle.counter.specs.Contract.{unlive, Planned, Annotated}
use Rattle.transform.specs.Under.{word_under, under_none}
use Rattle.transform.specs.Nest.{nest_at, nest, nest_height}
use Rattle.transform.specs.Contract.{begun, word_below, words_of, here_at, after_at, Asks, Emitted}
use Rattle.transform.specs.Steps.{length_words}
use Rattle.transform.specs.declared.Walk.{Walk}
use Rattle.rewriter.specs.declared.Written.{Written}
use Rattle.rewriter.specs.Numbers.{numbers_of}
use Rattle.rewriter.specs.Lends.{Lends}
use Rattle.rewriter.specs.Start.{well, records_tree, records_module, start_ready, whole_record}

-- the module's words were written from the start of o on; r says how many they are, and the next symbol
pub record Writes (ws o o' : List ℕ) (r : Walk) : Type 0 where
  pub wrote : Wrote o 0 (module_words ws) o' r.pos
  pub next : r.state.next ≡ symbols_of ws + length (report_words ws)

module _ (ws : List ℕ) (ok : refusal ws ≡ 0) where
  pub visit_start : visit_at ws 0 1 unlive (begun (symbols_of ws)) ≡ visit_words (symbols_of ws) ws
  unfolding visit_at visit_words outermost
  visit_start = ap (λ (f : Trees). visit unlive f (begun (symbols_of ws))) (whole_record ws ok)

  here_start : here_at ws 0 1 unlive (begun (symbols_of ws)) ≡ (visit_words (symbols_of ws) ws).here
  unfolding here_at
  here_start = ap (λ (r : Result). r.here) visit_start

  after_start : after_at ws 0 1 unlive (begun (symbols_of ws)) ≡ (visit_words (symbols_of ws) ws).after
  unfolding after_at
  after_start = ap (λ (r : Result). r.after) visit_start

  -- ---- an empty class stack

  no_entries : (xs ys : List ℕ) (n : ℕ) → entries xs ys n ≡ [] → n ≡ 0
  unfolding entries
  no_entries xs ys zero e = refl
  no_entries xs ys (suc n) e = let z : ◌≡◌ {A = ℕ} 1 0 = ap many e in absurd (omega arith)
    where
      many : List Sub → ℕ
      many [] = 0
      many (x ∷ l) = 1

  module _ (c : ClassStack) (empty : subs c ≡ []) where
    same_word : (l : Label) → word_by (word_below c) l ≡ word_at l
    unfolding word_by word_below
    same_word l = ap (λ (ss : List Sub). word_under ss l.kind l.payload) empty ∙ under_none l.kind l.payload ∙ (unfold word_at ◌∶◌ in refl)

    plain_list : (ls : List Label) → map (word_by (word_below c)) ls ≡ map word_at ls
    plain_list [] = refl
    plain_list (l ∷ ls) = rw (same_word l, plain_list ls)

    -- the words under no class are the rewriting's
    plain_words : words_of c (here_at ws 0 1 unlive (begun (symbols_of ws))) ≡ module_words ws
    unfolding words_of written module_words rewritten words
    plain_words = plain_list (flat (here_at ws 0 1 unlive (begun (symbols_of ws)))) ∙ ap (λ (f : Trees). map word_at (flat f)) here_start

    start_size : size (here_at ws 0 1 unlive (begun (symbols_of ws))) ≡ length (module_words ws)
    start_size = sym (length_words c (here_at ws 0 1 unlive (begun (symbols_of ws)))) ∙ ap length plain_words

    start_tree : nest_at ws 0 1 ≡ nest (tree_of ws)
    unfolding nest_at
    start_tree = ap nest (whole_record ws ok ∙ sym (records_module ws) ∙ records_tree ws)

    start_nest : nest_at ws 0 1 ≤ capacity
    start_nest = omega (arith, start_tree, nest_height (tree_of ws) (well ws ok).fits, (well ws ok).depth)

    pub start_asks : (notes : List Note) → Planned ws notes → Annotated ws notes 0 → Asks ws notes 0 1 (symbols_of ws) c 0 (size (here_at ws 0 1 unlive (begun (symbols_of ws))))
    start_asks notes p t = record {
      ready = start_ready ws ok notes p;
      noted = t;
      deep = omega (arith, start_nest, no_entries c.symbols c.aliases c.depth empty);
      fit = omega (arith, start_size, module_length ws ok, (well ws ok).sized.few);
    }

    -- the next symbol behind the module
    start_next : (visit_words (symbols_of ws) ws).after.next ≡ symbols_of ws + length (report_words ws)
    unfolding visit_words report_words reported words
    start_next = sym (fresh_length (module_of ws) outermost (record { next = symbols_of ws; default = none })) ∙ ap (λ (n : ℕ). symbols_of ws + n) (sym (rw length-map))

    pub start_writes : {o o' : List ℕ} {r : Walk} → Emitted ws 0 1 unlive (begun (symbols_of ws)) c o 0 0 o' r → Writes ws o o' r
    start_writes {o} {o'} {r} e = record {
      wrote = subst (λ (l : List ℕ). Wrote o 0 l o' r.pos) plain_words e.moved.wrote;
      next = sym (ap (λ (s : State). s.next) (sym after_start ∙ e.moved.state)) ∙ start_next;
    }

    -- the same when the counter's start is another name of S
    pub start_writes_at : (s : ℕ) → s ≡ symbols_of ws → {o o' : List ℕ} {r : Walk} → Emitted ws 0 1 unlive (begun s) c o 0 0 o' r → Writes ws o o' r
    start_writes_at s e {o} {o'} {r} h = start_writes (subst (λ (k : ℕ). Emitted ws 0 1 unlive (begun k) c o 0 0 o' r) e h)

-- ---- the answers of any job that writes xs

module _ (ws xs o : List ℕ) where
  pub answer_back : (r : Refusal) → number_of r ≡ turned_back ws → refused (number_of r) ≡ answer_of ws xs (length o)
  unfolding answer_of
  answer_back r e = let n : eqb (turned_back ws) 0 ≡ false = ne_eqb (turned_back ws) 0 (λ z. omega (arith, number_some r, e, z)) in rw n (ap refused e)

  pub answer_8 : turned_back ws ≡ 0 → length o < length xs → refused 8 ≡ answer_of ws xs (length o)
  unfolding answer_of
  answer_8 e h = rw (eq-eqb (turned_back ws) 0 e, lt-ltb (length o) (length xs) h)

  pub answer_0 : turned_back ws ≡ 0 → length xs ≤ length o → accepted (length xs) (length (report_words ws)) ≡ answer_of ws xs (length o)
  unfolding answer_of
  answer_0 e h = rw (eq-eqb (turned_back ws) 0 e, le-ltb (length o) (length xs) h)

  -- a refusal leaves the output as it was
  pub lends_back : (Same : List ℕ → List ℕ → Type 0) → Same xs xs → (r : Refusal) → refused (number_of r) ≡ answer_of ws xs (length o) → Lends Same ws xs o o
  unfolding lent_after refused
  lends_back Same same r e =
      let f : eqb (answer_of ws xs (length o)).code 0 ≡ false = ne_eqb (answer_of ws xs (length o)).code 0 (λ z. omega (arith, number_some r, ap (λ (x : Answer). x.code) e, z)) in
      record { order = xs; same = same; lent = rw f }

  pub lends_0 : (Same : List ℕ → List ℕ → Type 0) → Same xs xs → (n f : ℕ) → accepted n f ≡ answer_of ws xs (length o) → {o' : List ℕ} → o' ≡ overlay o 0 xs → Lends Same ws xs o o'
  unfolding lent_after accepted
  lends_0 Same same n f e {o'} w =
      let z : eqb (answer_of ws xs (length o)).code 0 ≡ true = eq-eqb (answer_of ws xs (length o)).code 0 (ap (λ (x : Answer). x.code) (sym e)) in
      record { order = xs; same = same; lent = w ∙ rw z }

-- what was written is found again
take_overlay : (o xs : List ℕ) (at : ℕ) → at + length xs ≤ length o → take (at + length xs) (overlay o at xs) ≡ take at o ++ xs
unfolding overlay
take_overlay o [] at h = rw add-zero (sym (append-nil (take at o)))
take_overlay o (x ∷ xs) at h =
    let i : at < length o = omega arith in
    let l : length (set o at x) ≡ length o = length-set o at x in
    let n : at + suc (length xs) ≡ suc at + length xs = omega arith in
    ap (λ (k : ℕ). take k (overlay (set o at x) (suc at) xs)) n ∙ take_overlay (set o at x) xs (suc at) (omega (arith, l))
    ∙ ap (λ (u : List ℕ). u ++ xs) (take-suc-set o at x i) ∙ append_assoc (take at o) (x ∷ []) xs

pub take_written : (o xs : List ℕ) → length xs ≤ length o → take (length xs) (overlay o 0 xs) ≡ xs
take_written o xs h =
    let z : 0 + length xs ≡ length xs = omega arith in
    ap (λ (k : ℕ). take k (overlay o 0 xs)) (sym z) ∙ take_overlay o xs 0 (omega arith)

-- an accepted rewriting: its numbers, and the output
pub written_whole : (ws o o' : List ℕ) (r : Walk) (p : ℕ) → turned_back ws ≡ 0 → Writes ws o o' r → p ≡ symbols_of ws → length (module_words ws) ≤ length o →
    (accepted r.pos (r.state.next - p) ≡ answer_of ws (module_words ws) (length o)) × (o' ≡ overlay o 0 (module_words ws))
written_whole ws o o' r p t w e h =
    let at : r.pos ≡ length (module_words ws) = omega (arith, w.wrote.end) in
    let more : r.state.next - p ≡ length (report_words ws) = omega (arith, w.next, e) in
    (ap (λ (k : ℕ). accepted k (r.state.next - p)) at ∙ ap (accepted (length (module_words ws))) more ∙ answer_0 ws (module_words ws) o t h, w.wrote.list)

-- demand 3 of the words that an accepted rewriting wrote
pub demand_written : (ws o o' : List ℕ) (n f : ℕ) → accepted n f ≡ rewrite_answer ws o → o' ≡ rewrite_lent ws o → DemandWords ws (take n o')
unfolding rewrite_answer rewrite_lent accepted refused lent_after
demand_written ws o o' n f e w = by_case ws (module_words ws) (length o) P (λ t. none (turned_back ws) (λ z. t z)) (λ t k. none 8 (λ z. omega arith)) some e (w ∙ ap (λ (a : Answer). lent_after a (module_words ws) o) (sym e))
  where
    P : Answer → Type 0
    P a = accepted n f ≡ a → o' ≡ lent_after (accepted n f) (module_words ws) o → DemandWords ws (take n o')

    none : (c : ℕ) → (c ≡ 0 → ⊥) → P (refused c)
    none c h g l = absurd (h (sym (ap (λ (a : Answer). a.code) g)))

    some : turned_back ws ≡ 0 → length (module_words ws) ≤ length o → P (accepted (length (module_words ws)) (length (report_words ws)))
    some t h g l =
        let k : n ≡ length (module_words ws) = ap (λ (a : Answer). a.written) g in
        subst (DemandWords ws) (sym (ap (take n) l ∙ ap (λ (i : ℕ). take i (overlay o 0 (module_words ws))) k ∙ take_written o (module_words ws) h)) (demand_words ws t)

pub demand_of : (ws o o' : List ℕ) (r : Outcome Written Refusal) → numbers_of r ≡ rewrite_answer ws o → o' ≡ rewrite_lent ws o → IfOk r (λ w. DemandWords ws (take w.words o'))
unfolding numbers_of
demand_of ws o o' (Ok w) e l = demand_written ws o o' w.words w.fresh e l
demand_of ws o o' (Err r) e l = tt

-- what the rewriting's job lends, in the only order that counts
pub job_lent : (ws o o' : List ℕ) → Lends (λ ys xs. ys ≡ xs) ws (module_words ws) o o' → o' ≡ rewrite_lent ws o
unfolding rewrite_answer rewrite_lent
job_lent ws o o' l = l.lent ∙ ap (λ (ys : List ℕ). lent_after (answer_of ws (module_words ws) (length o)) ys o) l.same

-- ---- refusals 1 to 7

module _ (ws : List ℕ) where
  pub back_fault : (r : Refusal) → number_of r ≡ refusal ws → number_of r ≡ turned_back ws
  unfolding turned_back
  back_fault r e = let f : eqb (refusal ws) 0 ≡ false = ne_eqb (refusal ws) 0 (λ z. omega (arith, number_some r, e, z)) in rw f e

  pub back_7 : (v : ℕ) → v ≡ refusal ws → v ≡ 0 → any_record is_refused7 (records_at ws 0) ≡ true → 7 ≡ turned_back ws
  unfolding turned_back
  back_7 v e z s = let f : eqb (refusal ws) 0 ≡ true = eq-eqb (refusal ws) 0 (sym e ∙ z) in let g : any_record is_refused7 (module_of ws) ≡ true = ap (any_record is_refused7) (sym (records_module ws)) ∙ s in rw (f, g)

  pub back_none : (v : ℕ) → v ≡ refusal ws → v ≡ 0 → any_record is_refused7 (records_at ws 0) ≡ false → 0 ≡ turned_back ws
  unfolding turned_back
  back_none v e z s = let f : eqb (refusal ws) 0 ≡ true = eq-eqb (refusal ws) 0 (sym e ∙ z) in let g : any_record is_refused7 (module_of ws) ≡ false = ap (any_record is_refused7) (sym (records_module ws)) ∙ s in rw (f, g)

  pub symbols_word : (label_at ws 1).payload ≡ symbols_of ws
  unfolding label_at read_at symbols_of
  symbols_word = refl
