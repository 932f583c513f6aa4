-- The rewritten module of an accepted one, read again: one full tree that obeys the grammar, every symbol below its 40. Of refusals 1 to 6, only
-- 1, 3 and 5 can turn it back. Assumes nothing.
use Rattle.std.specs.Prelude.{◌≡◌, Bool, true, false, cond, ℕ, zero, suc, ◌+◌, ◌<◌, ◌≤◌, length, replicate, get_or, eqb, ltb}
use Rattle.std.proofs.Math.Path.{refl, sym, ap, subst}
use Rattle.std.proofs.Common.{◌∙◌, eqb-true, ltb-true}
use Rattle.std.specs.declared.option.Option.TheVariants.{None as none}
use mathlib.Core.List.{List, [], ◌∷◌, ◌++◌, map, map-append, append_assoc, append-nil}
use native.Mathlib.Omega.{arith}
use Rattle.words.specs.Table.{lookup}
use Rattle.words.specs.Word.{kind_of, payload_of, word_of, kind_of_lem, payload_of_lem, payload_lt, children, child_table, bit0, bit1, bit2}
use Rattle.records.specs.Forest.{end, node, flat, size, count_f, take_f, drop_f, size_node, count_size}
use Rattle.records.specs.Prefix.{build, push, Full, build_flat}
use Rattle.records.specs.Label.{Label, Trees, ◌∶◌, read_at, read_from, word_at, words, words_append, length_words, arity}
use Rattle.grammar.specs.Limits.{max_words}
use Rattle.grammar.specs.Grammar.{Slot, Run, Row, row, no_row, table, row_of, holds, allowed, slots, slots_below, is_symbol, module'}
use Rattle.grammar.specs.Scan.{Place, place, top, places, below, below_at, fault_of, fault_at, judge, symbols_of, refusal}
use Rattle.grammar.specs.WellFormed.{tree_of, Allowed, Fits, Each, Known, WellFormed}
use Rattle.grammar.proofs.Rows.{All, all_rows, allowed_row}
use Rattle.grammar.proofs.Faults.{NotAllowed, fault_le, fault_not_one, fault_2, fault_4, fault_6}
use Rattle.grammar.proofs.Accepted.{accepted, fits_full}
use Rattle.rewriting.specs.Visit.{Result, visit, outermost, module_of, visit_words, rewritten, reported}
use Rattle.rewriting.specs.declared.State.{State}
use Rattle.rewriting.proofs.Facts.{counter}
use Rattle.rewriting.proofs.Fresh.{fresh_length}
use Rattle.rewriting.proofs.Fitting.{words_size}
use Rattle.rewriting.proofs.Length.{visit_length}
use Rattle.rewriting.specs.Answer.{turned_back, module_words, report_words}
use Rattle.rewriting.specs.Computed.{computed}
use Rattle.rewriting.proofs.Roles.{never}
use Rattle.rewriting.proofs.ClosedSlots.{◌⨾◌}
use Rattle.rewriting.proofs.ClosedSymbols.{each_take, each_drop, is_free, Good}
use Rattle.rewriting.proofs.Closed.{Module, module_closed}
use Rattle.rewriting.specs.DemandWords.{Same}

-- ---- every payload fits its 26 bits

-- rules that allow few payloads
only_zero : (p : ℕ) → eqb p 0 ≡ true → p < 8
only_zero p h = omega (arith, eqb-true p 0 h)

below_8 : (p : ℕ) (y : Bool) → cond (ltb p 8) y false ≡ true → p < 8
below_8 p y h = go (ltb p 8) refl h
  where
    go : (b : Bool) → ltb p 8 ≡ b → cond b y false ≡ true → p < 8
    go true e h = ltb-true p 8 e
    go false e h = absurd (never h)

statement_flags : (x p : ℕ) → cond (eqb x 1) (ltb p 3) (eqb p 0) ≡ true → p < 8
statement_flags x p h = go (eqb x 1) h
  where
    go : (b : Bool) → cond b (ltb p 3) (eqb p 0) ≡ true → p < 8
    go true h = omega (arith, ltb-true p 3 h)
    go false h = only_zero p h

-- a payload is below b if the number of children, symbols and free payloads are
unfoldable Bounded : ℕ → Row → Type 0
Bounded k r =
    (x p b : ℕ) → holds r.rule x p ≡ true → children k p < b → 8 ≤ b → (is_symbol k ≡ true → p < b) → (is_free k ≡ true → p < b) → p < b

bounded_all : All Bounded table
unfolding All Bounded table row holds children child_table is_symbol is_free lookup bit0 bit1 bit2
bounded_all =
    (λ x p b h c e s f. omega (arith, c)) ⨾ (λ x p b h c e s f. omega (arith, e, only_zero p h)) ⨾ (λ x p b h c e s f. omega (arith, c)) ⨾
    (λ x p b h c e s f. omega (arith, e, statement_flags x p h)) ⨾ (λ x p b h c e s f. s refl) ⨾ (λ x p b h c e s f. s refl) ⨾
    (λ x p b h c e s f. s refl) ⨾ (λ x p b h c e s f. f refl) ⨾ (λ x p b h c e s f. s refl) ⨾ (λ x p b h c e s f. f refl) ⨾
    (λ x p b h c e s f. f refl) ⨾ (λ x p b h c e s f. f refl) ⨾ (λ x p b h c e s f. omega (arith, e, only_zero p h)) ⨾
    (λ x p b h c e s f. omega (arith, e, only_zero p h)) ⨾ (λ x p b h c e s f. omega (arith, e, only_zero p h)) ⨾ (λ x p b h c e s f. omega (arith, c)) ⨾
    (λ x p b h c e s f. omega (arith, c)) ⨾ (λ x p b h c e s f. s refl) ⨾ (λ x p b h c e s f. f refl) ⨾
    (λ x p b h c e s f. omega (arith, e, only_zero p h)) ⨾ (λ x p b h c e s f. omega (arith, e, only_zero p h)) ⨾ (λ x p b h c e s f. omega (arith, c)) ⨾
    (λ x p b h c e s f. f refl) ⨾ (λ x p b h c e s f. omega (arith, e, only_zero p h)) ⨾ (λ x p b h c e s f. f refl) ⨾
    (λ x p b h c e s f. omega (arith, e, below_8 p _ h)) ⨾ (λ x p b h c e s f. s refl) ⨾ (λ x p b h c e s f. omega (arith, c)) ⨾
    (λ x p b h c e s f. omega (arith, c)) ⨾ (λ x p b h c e s f. omega (arith, e, below_8 p _ h)) ⨾
    (λ x p b h c e s f. omega (arith, e, ltb-true p 4 h)) ⨾ (λ x p b h c e s f. omega (arith, e, ltb-true p 2 h)) ⨾
    (λ x p b h c e s f. omega (arith, c)) ⨾ (λ x p b h c e s f. f refl) ⨾ (λ x p b h c e s f. f refl) ⨾ (λ x p b h c e s f. omega (arith, c)) ⨾
    (λ x p b h c e s f. omega (arith, e, ltb-true p 2 h)) ⨾ (λ x p b h c e s f. omega (arith, c)) ⨾ (λ x p b h c e s f. f refl) ⨾ tt

bounded : (k : ℕ) → Bounded k (row_of k)
bounded k = all_rows Bounded bounded_all k (unfold Bounded no_row row holds lookup in λ x p b h c e s f. absurd (never h))

unfoldable Fit26 : Label → Type 0
Fit26 l = l.payload < 67108864

payloads_fit : (n : ℕ) (f : Trees) (qs : List Slot) → Fits qs f → Each (Good n) f → n ≤ 67108864 → size f < 67108864 → Each Fit26 f
unfolding Fits Each Fit26 Full Bounded
payloads_fit n end qs h g a b = tt
payloads_fit n (node l k r) [] h g a b = absurd h
payloads_fit n (node l k r) (q ∷ qs) h g a b =
    let full : count_f k ≡ children l.kind l.payload = unfold arity in (fits_full (q ∷ qs) (node l k r) end h).0 in (
      bounded l.kind q.context l.payload 67108864 (allowed_row q l.kind l.payload h.0.grammar).1 (omega (arith, full, count_size k, size_node l k r, b)) (omega arith)
          (λ e. omega (arith, g.0.symbol e, a)) (λ e. omega (arith, g.0.payload e, a)),
      payloads_fit n k (slots_below q l.kind l.payload) h.1 g.1 a (omega (arith, size_node l k r, b)),
      payloads_fit n r qs h.2 g.2 a (omega (arith, size_node l k r, b)),
    )

-- ---- the same words, whatever their origin

unfoldable SameLabels : List Label → List Label → Type 0
SameLabels [] [] = Unit {0}
SameLabels [] (m ∷ ms) = ⊥
SameLabels (l ∷ ls) [] = ⊥
SameLabels (l ∷ ls) (m ∷ ms) = (l.kind ≡ m.kind) × (l.payload ≡ m.payload) × SameLabels ls ms

same_take : (n : ℕ) (f g : Trees) → Same f g → Same (take_f n f) (take_f n g)
unfolding Same take_f
same_take zero f g e = tt
same_take (suc n) end end e = tt
same_take (suc n) end (node m j s) e = absurd e
same_take (suc n) (node l k r) end e = absurd e
same_take (suc n) (node l k r) (node m j s) e = (e.0, e.1, e.2, same_take n r s e.3)

same_drop : (n : ℕ) (f g : Trees) → Same f g → Same (drop_f n f) (drop_f n g)
unfolding Same drop_f
same_drop zero f g e = e
same_drop (suc n) end end e = tt
same_drop (suc n) end (node m j s) e = absurd e
same_drop (suc n) (node l k r) end e = absurd e
same_drop (suc n) (node l k r) (node m j s) e = same_drop n r s e.3

same_build : (ls ms : List Label) → SameLabels ls ms → Same (build arity ls) (build arity ms)
unfolding SameLabels Same build push arity
same_build [] [] e = tt
same_build [] (m ∷ ms) e = absurd e
same_build (l ∷ ls) [] e = absurd e
same_build (l ∷ ls) (m ∷ ms) e =
    let f : Trees = build arity ls in
    let g : Trees = build arity ms in
    let n : children l.kind l.payload ≡ children m.kind m.payload = rw (e.0, e.1) in
    let rest : Same f g = same_build ls ms e.2 in (
      e.0,
      e.1,
      subst (λ (i : ℕ). Same (take_f (children l.kind l.payload) f) (take_f i g)) n (same_take (children l.kind l.payload) f g rest),
      subst (λ (i : ℕ). Same (drop_f (children l.kind l.payload) f) (drop_f i g)) n (same_drop (children l.kind l.payload) f g rest),
    )

same_allowed : (q : Slot) (l m : Label) → l.kind ≡ m.kind → l.payload ≡ m.payload → Allowed q m → Allowed q l
same_allowed q l m e f a = record { grammar = rw (e, f) a.grammar; bare = λ c x. f ∙ a.bare c x }

same_fits : (f g : Trees) (qs : List Slot) → Same f g → Fits qs g → Fits qs f
unfolding Same Fits
same_fits end end qs e h = h
same_fits end (node m j s) qs e h = absurd e
same_fits (node l k r) end qs e h = absurd e
same_fits (node l k r) (node m j s) [] e h = absurd h
same_fits (node l k r) (node m j s) (q ∷ qs) e h =
    (same_allowed q l m e.0 e.1 h.0, rw (e.0, e.1) (same_fits k j (slots_below q m.kind m.payload) e.2 h.1), same_fits r s qs e.3 h.2)

same_known : (n : ℕ) (f g : Trees) → Same f g → Each (Good n) g → Each (Known n) f
unfolding Same Each Known
same_known n end end e h = tt
same_known n end (node m j s) e h = absurd e
same_known n (node l k r) end e h = absurd e
same_known n (node l k r) (node m j s) e h = (λ t. rw e.1 (h.0.symbol (rw e.0 at t)), same_known n k j e.2 h.1, same_known n r s e.3 h.2)

-- words read again
unfoldable AllFit : List Label → Type 0
AllFit [] = Unit {0}
AllFit (l ∷ ls) = (l.payload < 67108864) × AllFit ls

all_append : (ls ms : List Label) → AllFit ls → AllFit ms → AllFit (ls ++ ms)
unfolding AllFit
all_append [] ms a b = b
all_append (l ∷ ls) ms a b = (a.0, all_append ls ms a.1 b)

all_flat : (f : Trees) → Each Fit26 f → AllFit (flat f)
unfolding Each Fit26 flat AllFit
all_flat end h = tt
all_flat (node l k r) h = (h.0, all_append (flat k) (flat r) (all_flat k h.1) (all_flat r h.2))

read_same : (i : ℕ) (ls : List Label) → AllFit ls → SameLabels (read_from i (words ls)) ls
unfolding AllFit SameLabels read_from words word_at read_at
read_same i [] h = tt
read_same i (l ∷ ls) h = (kind_of_lem l.kind l.payload h.0, payload_of_lem l.kind l.payload h.0, read_same (suc i) ls h.1)

again_same : (f : Trees) (qs : List Slot) → Fits qs f → Each Fit26 f → Same (tree_of (words (flat f))) f
unfolding tree_of
again_same f qs h g =
    subst (λ (t : Trees). Same (build arity (read_from 0 (words (flat f)))) t) (build_flat arity f (fits_full qs f end h)) (same_build (read_from 0 (words (flat f))) (flat f) (read_same 0 (flat f) (all_flat f g)))

-- ---- the scan of its words

-- none of 1, 2, 4 and 6
record Only (m : ℕ) : Type 0 where
  few : m ≤ 5
  not1 : m ≡ 1 → ⊥
  not2 : m ≡ 2 → ⊥
  not4 : m ≡ 4 → ⊥

only_if : (b : Bool) (m n : ℕ) → Only m → Only n → Only (cond b m n)
only_if true m n a b = a
only_if false m n a b = b

fault_only : (n : ℕ) (q : Slot) (d k p : ℕ) → allowed q k p ≡ true → (is_symbol k ≡ true → p < n) → (q.category ≡ 7 → q.context ≡ 1 → p ≡ 0) → Only (fault_of n (place q d) k p)
unfolding place NotAllowed
fault_only n q d k p a s b =
    let x : Place = place q d in
    let two : fault_of n x k p ≡ 2 → ⊥ = λ e. never (sym ((fault_2 n x k p).0 e) ∙ a) in
    let four : fault_of n x k p ≡ 4 → ⊥ = λ e. let u = (fault_4 n x k p).0 e in omega (arith, u.beyond, s u.symbol) in
    let six : fault_of n x k p ≡ 6 → ⊥ = λ e. let u = (fault_6 n x k p).0 e in u.some (b u.decorators u.constructor) in
    record { few = omega (arith, fault_le n x k p, six); not1 = fault_not_one n x k p; not2 = two; not4 = four }

unfoldable at_depth : ℕ → List Slot → List Place
at_depth d qs = map (λ q. place q d) qs

at_replicate : (d n : ℕ) (q : Slot) → at_depth d (replicate n q) ≡ replicate n (place q d)
unfolding at_depth
at_replicate d zero q = refl
at_replicate d (suc n) q = ap (place q d ∷◌) (at_replicate d n q)

at_slots : (d : ℕ) (rs : List Run) → places d rs ≡ at_depth d (slots rs)
unfolding places slots
at_slots d [] = unfold at_depth in refl
at_slots d (r ∷ rs) =
    ap (replicate r.count (place r.slot d) ++◌) (at_slots d rs) ∙ ap (◌++ at_depth d (slots rs)) (sym (at_replicate d r.count r.slot))
    ∙ (unfold at_depth in sym (map-append (λ q. place q d) (replicate r.count r.slot) (slots rs)))

at_below : (q : Slot) (d k p : ℕ) → below (place q d) k p ≡ at_depth (d + 1) (slots_below q k p)
unfolding below slots_below place
at_below q d k p = at_slots (d + 1) ((row_of k).below q.context p)

-- the first word, and those behind it
judge_first : (n : ℕ) (q : Slot) (d : ℕ) (l : Label) (st : List Place) (ws : List ℕ) → Allowed q l → Good n l → l.payload < 67108864 →
    Only (judge n (at_depth (d + 1) (slots_below q l.kind l.payload) ++ st) ws) → Only (judge n (place q d ∷ st) (word_at l ∷ ws))
unfolding judge fault_at below_at word_at
judge_first n q d l st ws a g p h =
    let k : kind_of (word_of l.kind l.payload) ≡ l.kind = kind_of_lem l.kind l.payload p in
    let y : payload_of (word_of l.kind l.payload) ≡ l.payload = payload_of_lem l.kind l.payload p in
    rw (k, y, at_below q d l.kind l.payload)
    (only_if (eqb (fault_of n (place q d) l.kind l.payload) 0) (judge n (at_depth (d + 1) (slots_below q l.kind l.payload) ++ st) ws)
    (fault_of n (place q d) l.kind l.payload) h (fault_only n q d l.kind l.payload a.grammar g.symbol a.bare))

judge_tree : (n : ℕ) (f : Trees) (qs : List Slot) (d : ℕ) (st : List Place) (ws : List ℕ) → Fits qs f → Each (Good n) f → Each Fit26 f → Only (judge n st ws) →
    Only (judge n (at_depth d qs ++ st) (words (flat f) ++ ws))
unfolding Fits Each Fit26 at_depth flat words
judge_tree n end [] d st ws h g p o = o
judge_tree n end (q ∷ qs) d st ws h g p o = absurd h
judge_tree n (node l k r) [] d st ws h g p o = absurd h
judge_tree n (node l k r) (q ∷ qs) d st ws h g p o =
    let rest : Only (judge n (at_depth d qs ++ st) (words (flat r) ++ ws)) = judge_tree n r qs d st ws h.2 g.2 p.2 o in
    let below' : Only (judge n (at_depth (d + 1) (slots_below q l.kind l.payload) ++ (at_depth d qs ++ st)) (words (flat k) ++ (words (flat r) ++ ws))) =
    judge_tree n k (slots_below q l.kind l.payload) (d + 1) (at_depth d qs ++ st) (words (flat r) ++ ws) h.1 g.1 p.1 rest in
    let split : words (flat k ++ flat r) ++ ws ≡ words (flat k) ++ (words (flat r) ++ ws) = ap (◌++ ws) (words_append (flat k) (flat r)) ∙ append_assoc (words (flat k)) (words (flat r)) ws in
    judge_first n q d l (at_depth d qs ++ st) (words (flat k ++ flat r) ++ ws) h.0 g.0 p.0
    (subst (λ (vs : List ℕ). Only (judge n (at_depth (d + 1) (slots_below q l.kind l.payload) ++ (at_depth d qs ++ st)) vs)) (sym split) below')

-- ---- an accepted module

each_build : (P : Label → Type 0) (n : ℕ) (a : Label) (f : Trees) → P a → Each P f → Each P (node a (take_f n f) (drop_f n f))
unfolding Each
each_build P n a f p h = (p, each_take P n f h, each_drop P n f h)

built_fit : (i : ℕ) (ws : List ℕ) → Each Fit26 (build arity (read_from i ws))
unfolding read_from build push
built_fit i [] = unfold Each in tt
built_fit i (w ∷ ws) = each_build Fit26 (arity (read_at i w) (build arity (read_from (suc i) ws))) (read_at i w) (build arity (read_from (suc i) ws)) (unfold Fit26 read_at in payload_lt w) (built_fit (suc i) ws)

both_good : (n : ℕ) (f : Trees) → Each (Known n) f → Each Fit26 f → Each (Good n) f
unfolding Each Known Fit26
both_good n end a b = tt
both_good n (node l k r) a b = (record { symbol = a.0; payload = λ e. omega (arith, b.0) }, both_good n k a.1 b.1, both_good n r a.2 b.2)

second_word : (l m : Label) (k r s : Trees) → payload_of (get_or (words (flat (node l (node m k r) s))) 1 0) ≡ payload_of (word_at m)
unfolding flat words
second_word l m k r s = refl

module _ (ws : List ℕ) (ok : refusal ws ≡ 0) where
  abbrev result : Result
  result = visit_words (symbols_of ws) ws

  abbrev start : State
  start = record { next = symbols_of ws; default = none }

  abbrev n : ℕ
  n = result.after.next

  formed : WellFormed ws (module_of ws)
  unfolding module_of tree_of
  formed = (accepted ws).0 ok

  few : length ws ≤ 4096
  few = formed.sized.few

  symbols_few : symbols_of ws ≤ 1000000
  symbols_few = formed.count

  good : Each (Good (symbols_of ws)) (module_of ws)
  good = both_good (symbols_of ws) (module_of ws) formed.known (unfold module_of in built_fit 0 ws)

  closed : Module n result.here
  unfolding visit_words
  closed = module_closed (module_of ws) (symbols_of ws) formed.fits (omega (arith, few, words_size ws)) (omega (arith, few, symbols_few, words_size ws)) good

  next_few : n < 67108864
  unfolding visit_words
  next_few = omega (arith, few, symbols_few, words_size ws, counter (module_of ws) outermost start)

  size_few : size result.here < 67108864
  unfolding visit_words
  size_few = omega (arith, few, words_size ws, visit_length (module_of ws) (module' ∷ []) outermost start formed.fits)

  fit : Each Fit26 result.here
  fit = payloads_fit n result.here (module' ∷ []) closed.fits closed.good (omega (arith, next_few)) size_few

  says_next : symbols_of (module_words ws) ≡ n
  unfolding module_words rewritten symbols_of word_at
  says_next =
      let m : Label = closed.symbols in
      let low : m.payload < 67108864 = omega (arith, next_few, closed.count) in
      ap (λ (h : Trees). payload_of (get_or (words (flat h)) 1 0)) closed.whole ∙ second_word closed.label m end closed.statements end
      ∙ payload_of_lem m.kind m.payload low ∙ closed.count

  -- rule 1: "output 40 holds S plus their count"
  pub symbols_count : symbols_of (module_words ws) ≡ symbols_of ws + length (report_words ws)
  unfolding report_words reported visit_words
  symbols_count = omega (arith, says_next, fresh_length (module_of ws) outermost start, length_words (visit outermost (module_of ws) start).fresh)

  pub again : Same (tree_of (module_words ws)) (visit_words (symbols_of ws) ws).here
  unfolding module_words rewritten
  again = again_same result.here (module' ∷ []) closed.fits fit

  -- it obeys the grammar again, and every symbol is below its 40
  pub obeys : Fits (module' ∷ []) (tree_of (module_words ws))
  obeys = same_fits (tree_of (module_words ws)) result.here (module' ∷ []) again closed.fits

  pub below_forty : Each (Known (symbols_of (module_words ws))) (tree_of (module_words ws))
  below_forty = subst (λ (m : ℕ). Each (Known m) (tree_of (module_words ws))) (sym says_next) (same_known n (tree_of (module_words ws)) result.here again closed.good)

  -- it is one full tree
  pub full : Full arity (tree_of (module_words ws)) end × (count_f (tree_of (module_words ws)) ≡ 1)
  full = (fits_full (module' ∷ []) (tree_of (module_words ws)) end obeys, one_tree (tree_of (module_words ws)) obeys)
    where
      one_tree : (t : Trees) → Fits (module' ∷ []) t → count_f t ≡ 1
      one_tree end h = unfold Fits in absurd h
      one_tree (node l k end) h = unfold count_f in refl
      one_tree (node l k (node m j r)) h = unfold Fits in absurd h.2

  scanned : Only (judge n (top ∷ []) (module_words ws))
  unfolding module_words rewritten top at_depth
  scanned =
      subst (λ (vs : List ℕ). Only (judge n (place module' 1 ∷ []) vs)) (append-nil (words (flat result.here)))
      (judge_tree n result.here (module' ∷ []) 1 [] [] closed.fits closed.good fit (unfold judge in record { few = omega arith; not1 = λ e. omega arith; not2 = λ e. omega arith; not4 = λ e. omega arith }))

-- what a module read again is answered: accepted, or turned back by 1, 3 or 5
pub data Again (r : ℕ) : Type 0 where
  taken : r ≡ 0 → Again r
  long : r ≡ 1 → Again r
  deep : r ≡ 3 → Again r
  many : r ≡ 5 → Again r

only_again : (m : ℕ) → Only m → Again m
only_again zero o = taken refl
only_again (suc zero) o = long refl
only_again (suc (suc zero)) o = absurd (o.not2 refl)
only_again (suc (suc (suc zero))) o = deep refl
only_again (suc (suc (suc (suc zero)))) o = absurd (o.not4 refl)
only_again (suc (suc (suc (suc (suc zero))))) o = many refl
only_again (suc (suc (suc (suc (suc (suc m)))))) o = absurd (omega (arith, o.few))

again_if : (a b : Bool) (m : ℕ) → Again m → Again (cond a 1 (cond b 1 m))
again_if true b m h = long refl
again_if false true m h = long refl
again_if false false m h = h

-- the rewritten module of an accepted one is turned back by 1, 3 or 5 alone
pub read_again : (ws : List ℕ) → refusal ws ≡ 0 → Again (refusal (module_words ws))
unfolding refusal
read_again ws ok =
    let r : Again (judge (symbols_of (module_words ws)) (top ∷ []) (module_words ws)) =
    only_again (judge (symbols_of (module_words ws)) (top ∷ []) (module_words ws)) (subst (λ (m : ℕ). Only (judge m (top ∷ []) (module_words ws))) (sym (says_next ws ok)) (scanned ws ok)) in
    again_if (eqb (length (module_words ws)) 0) (ltb max_words (length (module_words ws))) (judge (symbols_of (module_words ws)) (top ∷ []) (module_words ws)) r

-- 7 is another matter: rule 9 keeps the class statement and takes the first constructor's decorators, while a later constructor's stay.
-- `export default class { constructor(@(#n in a) x); constructor(@b y) }`
unfoldable pub two_constructors : List ℕ
two_constructors =
    words (
    1 ∶ 1 ∷ 40 ∶ 2 ∷ 4 ∶ 2 ∷ 26 ∶ 0 ∷ 28 ∶ 0 ∷ 29 ∶ 2 ∷ 30 ∶ 2 ∷ 28 ∶ 0 ∷ 34 ∶ 5 ∷ 36 ∶ 1 ∷ 37 ∶ 0 ∷ 28 ∶ 1 ∷ 19 ∶ 7 ∷ 9 ∶ 0 ∷
    30 ∶ 2 ∷ 28 ∶ 0 ∷ 34 ∶ 5 ∷ 36 ∶ 1 ∷ 37 ∶ 0 ∷ 28 ∶ 1 ∷ 9 ∶ 1 ∷ [])

pub seven_again : (turned_back two_constructors ≡ 0) × (turned_back (module_words two_constructors) ≡ 7)
unfolding two_constructors computed
seven_again = (refl, refl)
