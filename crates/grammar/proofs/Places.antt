-- The scan on trees: the places of a module's words, read off its tree, and the first word at fault. Assumes nothing.
use Rattle.std.specs.Prelude.{◌≡◌, refl, true, cond, List, [], ◌∷◌, ◌++◌, ◌↔◌, length, replicate, get_or, eqb}
use Rattle.std.proofs.Common.{sym, ap, ◌∙◌, append_assoc, le_of_suc-le-suc, not-suc-le-zero, arith, length-append, ne_eqb, le-ltb}
use Prim.Native.Nat.{ℕ, zero, suc, ◌+◌, ◌<◌, ◌≤◌, suc-le-suc}
use Rattle.std.proofs.lemmas.List.{length-replicate}
use Rattle.std.proofs.Math.Dec.{eqb-suc-zero}
use Rattle.words.specs.Word.{kind_of, payload_of, children}
use Rattle.records.specs.Forest.{end, node, take_f, drop_f}
use Rattle.records.specs.Prefix.{push, build}
use Rattle.records.specs.Label.{Label, Trees, read_at, read_from, arity}
use Rattle.records.specs.Place.{word_past}
use Rattle.grammar.specs.Limits.{max_words}
use Rattle.grammar.specs.Grammar.{Run, row_of, allowed}
use Rattle.grammar.specs.Scan.{Place, place, places, top, below, below_at, fault_at, judge, symbols_of, refusal}
use Rattle.grammar.specs.WellFormed.{tree_of, Sized}
use Rattle.grammar.proofs.Rows.{total, total_below}
use Rattle.grammar.proofs.Faults.{fault_0}

-- ---- one tree for each place

-- the places at which the records of a forest stand, in the order of the words
unfoldable pub spots : List Place → Trees → List Place
spots qs end = []
spots [] (node l kids rest) = []
spots (q ∷ qs) (node l kids rest) = q ∷ spots (below q l.kind l.payload) kids ++ spots qs rest

-- the places that have no record
unfoldable pub waiting : List Place → Trees → List Place
waiting qs end = qs
waiting [] (node l kids rest) = []
waiting (q ∷ qs) (node l kids rest) = waiting (below q l.kind l.payload) kids ++ waiting qs rest

-- both, those without a record last
unfoldable pub line : List Place → Trees → List Place
line qs t = spots qs t ++ waiting qs t

-- the places of a module's words
unfoldable pub places_of : List ℕ → List Place
places_of ws = line (top ∷ []) (tree_of ws)

-- the fault of each word at its place: a word that has no place, and a place that has no word, are 2
unfoldable pub faults : ℕ → List Place → List ℕ → List ℕ
faults s [] [] = []
faults s [] (w ∷ ws) = 2 ∷ faults s [] ws
faults s (q ∷ qs) [] = 2 ∷ faults s qs []
faults s (q ∷ qs) (w ∷ ws) = fault_at s q w ∷ faults s qs ws

unfoldable first : List ℕ → ℕ
first [] = 0
first (zero ∷ ns) = first ns
first (suc n ∷ ns) = suc n

-- ---- a record that is allowed has a child for each place below it

length_places : (d : ℕ) (rs : List Run) → length (places d rs) ≡ total rs
unfolding places total
length_places d [] = refl
length_places d (r ∷ rs) = length-append (replicate r.count (place r.slot d)) (places d rs) ∙ rw (length-replicate, length_places d rs)

pub places_below : (q : Place) (k p : ℕ) → allowed q.slot k p ≡ true → length (below q k p) ≡ children k p
unfolding below
places_below q k p a = length_places (q.depth + 1) ((row_of k).below q.slot.context p) ∙ total_below q.slot k p a

-- ---- the scan comes to the first fault

spots_split : (qs st : List Place) (t : Trees) → spots (qs ++ st) t ≡ spots qs (take_f (length qs) t) ++ spots st (drop_f (length qs) t)
unfolding spots take_f drop_f
spots_split [] st t = refl
spots_split (q ∷ qs) st end = refl
spots_split (q ∷ qs) st (node l k r) = ap (q ∷◌) (ap (spots (below q l.kind l.payload) k ++◌) (spots_split qs st r) ∙ sym (append_assoc (spots (below q l.kind l.payload) k) (spots qs (take_f (length qs) r)) (spots st (drop_f (length qs) r))))

waiting_split : (qs st : List Place) (t : Trees) → waiting (qs ++ st) t ≡ waiting qs (take_f (length qs) t) ++ waiting st (drop_f (length qs) t)
unfolding waiting take_f drop_f
waiting_split [] st t = refl
waiting_split (q ∷ qs) st end = refl
waiting_split (q ∷ qs) st (node l k r) = ap (waiting (below q l.kind l.payload) k ++◌) (waiting_split qs st r) ∙ sym (append_assoc (waiting (below q l.kind l.payload) k) (waiting qs (take_f (length qs) r)) (waiting st (drop_f (length qs) r)))

line_node : (q : Place) (st : List Place) (l : Label) (t : Trees) → length (below q l.kind l.payload) ≡ arity l t →
    line (q ∷ st) (node l (take_f (arity l t) t) (drop_f (arity l t) t)) ≡ q ∷ line (below q l.kind l.payload ++ st) t
unfolding line spots waiting
line_node q st l t e =
    let b : List Place = below q l.kind l.payload in
    ap (q ∷◌) (rw (spots_split b st t, waiting_split b st t, e))

-- one word of the scan
judge_word : (s : ℕ) (q : Place) (st : List Place) (w i : ℕ) (ws : List ℕ) (t : Trees) (n : ℕ) → fault_at s q w ≡ n →
    judge s (below_at q w ++ st) ws ≡ first (faults s (line (below_at q w ++ st) t) ws) →
    cond (eqb n 0) (judge s (below_at q w ++ st) ws) n ≡ first (faults s (line (q ∷ st) (node (read_at i w) (take_f (arity (read_at i w) t) t) (drop_f (arity (read_at i w) t) t))) (w ∷ ws))
unfolding faults first read_at arity below_at fault_at
judge_word s q st w i ws t zero e ih =
    let a : length (below q (kind_of w) (payload_of w)) ≡ children (kind_of w) (payload_of w) = places_below q (kind_of w) (payload_of w) ((fault_0 s q (kind_of w) (payload_of w)).0 e).grammar in
    rw (line_node q st (read_at i w) t a, e) ih
judge_word s q st w i ws t (suc n) e ih = unfold line spots waiting in rw (e, eqb-suc-zero n)

judge_first : (s i : ℕ) (st : List Place) (ws : List ℕ) → judge s st ws ≡ first (faults s (line st (build arity (read_from i ws))) ws)
unfolding judge faults first read_from build push line spots waiting
judge_first s i [] [] = refl
judge_first s i [] (w ∷ ws) = refl
judge_first s i (q ∷ st) [] = refl
judge_first s i (q ∷ st) (w ∷ ws) = judge_word s q st w i ws (build arity (read_from (suc i) ws)) (fault_at s q w) refl (judge_first s (suc i) (below_at q w ++ st) ws)

-- ---- by number of the word

-- the fault of the word at i of a module, or of a place that has no word
unfoldable pub fault_of_word : List ℕ → ℕ → ℕ
fault_of_word ws i = get_or (faults (symbols_of ws) (places_of ws) ws) i 0

-- the word at `at` has the fault n, and none before it has a fault
pub record FirstFault (ws : List ℕ) (n : ℕ) : Type 0 where
  pub at : ℕ
  pub before : (j : ℕ) → j < at → fault_of_word ws j ≡ 0
  pub here : fault_of_word ws at ≡ n

record FirstAt (ns : List ℕ) (n : ℕ) : Type 0 where
  at : ℕ
  before : (j : ℕ) → j < at → get_or ns j 0 ≡ 0
  here : get_or ns at 0 ≡ n

first_at : (ns : List ℕ) (n : ℕ) → first ns ≡ suc n → FirstAt ns (suc n)
unfolding first
first_at [] n e = absurd (omega arith)
first_at (zero ∷ ns) n e =
    let r = first_at ns n e in
    record { at = suc r.at; before = λ j h. later ns r.at r.before j h; here = r.here }
  where
    later : (ns : List ℕ) (i : ℕ) → ((j : ℕ) → j < i → get_or ns j 0 ≡ 0) → (j : ℕ) → j < suc i → get_or (0 ∷ ns) j 0 ≡ 0
    later ns i b zero h = refl
    later ns i b (suc j) h = b j (le_of_suc-le-suc h)
first_at (suc m ∷ ns) n e = record { at = 0; before = λ j h. absurd (not-suc-le-zero h); here = e }

at_first : (ns : List ℕ) (n i : ℕ) → ((j : ℕ) → j < i → get_or ns j 0 ≡ 0) → get_or ns i 0 ≡ suc n → first ns ≡ suc n
unfolding first
at_first [] n i b e = absurd (omega arith)
at_first (zero ∷ ns) n zero b e = absurd (omega arith)
at_first (zero ∷ ns) n (suc i) b e = at_first ns n i (λ j h. b (suc j) (suc-le-suc h)) e
at_first (suc m ∷ ns) n zero b e = e
at_first (suc m ∷ ns) n (suc i) b e = let z : suc m ≡ 0 = b 0 (omega arith) in absurd (omega arith)

all_zero : (ns : List ℕ) → first ns ≡ 0 → (i : ℕ) → get_or ns i 0 ≡ 0
unfolding first
all_zero [] e i = refl
all_zero (zero ∷ ns) e zero = refl
all_zero (zero ∷ ns) e (suc i) = all_zero ns e i
all_zero (suc m ∷ ns) e i = absurd (omega arith)

zero_all : (ns : List ℕ) → ((i : ℕ) → get_or ns i 0 ≡ 0) → first ns ≡ 0
unfolding first
zero_all [] h = refl
zero_all (zero ∷ ns) h = zero_all ns (λ i. h (suc i))
zero_all (suc m ∷ ns) h = let z : suc m ≡ 0 = h 0 in absurd (omega arith)

-- ---- the theorems

-- without a second word there are no symbols
pub symbols_none : (ws : List ℕ) → length ws < 2 → symbols_of ws ≡ 0
unfolding symbols_of payload_of
symbols_none ws h = rw (word_past ws 1 (omega arith))

-- the scan decides on a module that isn't empty or too long
pub refusal_scan : (ws : List ℕ) → Sized ws → refusal ws ≡ judge (symbols_of ws) (top ∷ []) ws
unfolding refusal
refusal_scan ws z = let n : length ws ≡ 0 → ⊥ = λ e. omega (arith, z.some) in rw (ne_eqb (length ws) 0 n, le-ltb max_words (length ws) z.few)

module _ (ws : List ℕ) (z : Sized ws) where
  refusal_first : refusal ws ≡ first (faults (symbols_of ws) (places_of ws) ws)
  unfolding places_of tree_of
  refusal_first = refusal_scan ws z ∙ judge_first (symbols_of ws) 0 (top ∷ []) ws

  -- a module is refused with n exactly when its first word at fault has the fault n
  pub refused_first : (n : ℕ) → 1 ≤ n → refusal ws ≡ n ↔ FirstFault ws n
  unfolding fault_of_word
  refused_first zero h = absurd (not-suc-le-zero h)
  refused_first (suc n) h = (
    λ e. let r = first_at (faults (symbols_of ws) (places_of ws) ws) n (sym refusal_first ∙ e) in record { at = r.at; before = r.before; here = r.here },
    λ r. refusal_first ∙ at_first (faults (symbols_of ws) (places_of ws) ws) n r.at r.before r.here,
  )

  -- it is not refused exactly when no word is at fault
  pub accepted_none : refusal ws ≡ 0 ↔ ((i : ℕ) → fault_of_word ws i ≡ 0)
  unfolding fault_of_word
  accepted_none = (
    λ e. all_zero (faults (symbols_of ws) (places_of ws) ws) (sym refusal_first ∙ e),
    λ h. refusal_first ∙ zero_all (faults (symbols_of ws) (places_of ws) ws) h,
  )
