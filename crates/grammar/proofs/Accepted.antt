-- A module is accepted exactly when it is well-formed: its words are one full tree, every record allowed where it stands, within the limits. Assumes nothing.
use Rattle.std.specs.Prelude.{◌≡◌, refl, cond, List, [], ◌∷◌, ◌++◌, ◌↔◌, length, eqb, ltb, T}
use Rattle.std.proofs.Math.Path.{sym, ap}
use Rattle.std.proofs.Common.{subst, ◌∙◌, append-nil, ltb→lt}
use Prim.Native.Nat.{ℕ, zero, suc, ◌+◌, ◌<◌, ◌≤◌}
use native.Mathlib.Omega.{arith}
use Rattle.std.proofs.Math.ListN.{replicate}
use Rattle.std.proofs.Math.Dec.{eqb-suc-zero}
use Rattle.words.specs.Table.{lookup}
use Rattle.words.specs.Word.{kind_of, payload_of, children}
use Rattle.records.specs.Forest.{end, node, flat, take_f, drop_f, append_f, count_f, height_f}
use Rattle.records.specs.Prefix.{push, build, Full, flat_build, build_flat}
use Rattle.records.specs.Label.{Label, Trees, read_at, read_from, arity}
use Rattle.grammar.specs.Limits.{max_depth, max_symbols}
use Rattle.grammar.specs.Grammar.{Slot, Run, row, table, row_of, Module, Symbols, module', symbols, own_statement, slots, slots_below}
use Rattle.grammar.specs.Scan.{Place, place, places, top, below, below_at, judge, fault_of, fault_at, symbols_of, refusal}
use Rattle.grammar.specs.WellFormed.{tree_of, Allowed, Fits, Each, Known, WellFormed}
use Rattle.grammar.proofs.Rows.{test_left, test_right, allowed_row, sole_kind, kind_sole, length_below, inner, inner_below}
use Rattle.grammar.proofs.Faults.{Faultless, fault_0}
use Rattle.grammar.proofs.Places.{places_below, refusal_scan}
use Rattle.grammar.proofs.Refused.{sized}

-- ---- the scan and the tree

-- a tree for each place, and no word at fault
unfoldable Passes : ℕ → List Place → Trees → Type 0
Passes s [] end = Unit {0}
Passes s [] (node l kids rest) = ⊥
Passes s (q ∷ qs) end = ⊥
Passes s (q ∷ qs) (node l kids rest) = (fault_of s q l.kind l.payload ≡ 0) × Passes s (below q l.kind l.payload) kids × Passes s qs rest

passes_split : (s : ℕ) (qs st : List Place) (t : Trees) → Passes s (qs ++ st) t → Passes s qs (take_f (length qs) t) × Passes s st (drop_f (length qs) t)
unfolding Passes take_f drop_f
passes_split s [] st t h = (tt, h)
passes_split s (q ∷ qs) st end h = absurd h
passes_split s (q ∷ qs) st (node l k r) h = let i = passes_split s qs st r h.2 in ((h.0, h.1, i.0), i.1)

passes_join : (s : ℕ) (qs st : List Place) (t : Trees) → Passes s qs (take_f (length qs) t) → Passes s st (drop_f (length qs) t) → Passes s (qs ++ st) t
unfolding Passes take_f drop_f
passes_join s [] st t a b = b
passes_join s (q ∷ qs) st end a b = absurd a
passes_join s (q ∷ qs) st (node l k r) a b = (a.0, a.1, passes_join s qs st r a.2 b)

never_zero : (n : ℕ) → suc n ≡ 0 → ⊥
never_zero n e = omega arith

-- one word
module _ (s : ℕ) (q : Place) (st : List Place) (w i : ℕ) (ws : List ℕ) (t : Trees) where
  word_count : fault_at s q w ≡ 0 → length (below_at q w) ≡ children (kind_of w) (payload_of w)
  unfolding fault_at below_at
  word_count e = places_below q (kind_of w) (payload_of w) ((fault_0 s q (kind_of w) (payload_of w)).0 e).grammar

  passes_word : (n : ℕ) → fault_at s q w ≡ n → (judge s (below_at q w ++ st) ws ≡ 0 → Passes s (below_at q w ++ st) t) → cond (eqb n 0) (judge s (below_at q w ++ st) ws) n ≡ 0
      → Passes s (q ∷ st) (node (read_at i w) (take_f (children (kind_of w) (payload_of w)) t) (drop_f (children (kind_of w) (payload_of w)) t))
  unfolding Passes read_at
  passes_word zero f ih z =
      let h = passes_split s (below_at q w) st t (ih z) in
      let g : Passes s (below_at q w) (take_f (children (kind_of w) (payload_of w)) t) × Passes s st (drop_f (children (kind_of w) (payload_of w)) t) = rw (word_count f) at h in
      (unfold fault_at in f, unfold below_at in g.0, g.1)
  passes_word (suc n) f ih z = absurd (never_zero n (rw (eqb-suc-zero n) at z))

  word_passes : (Passes s (below_at q w ++ st) t → judge s (below_at q w ++ st) ws ≡ 0)
      → Passes s (q ∷ st) (node (read_at i w) (take_f (children (kind_of w) (payload_of w)) t) (drop_f (children (kind_of w) (payload_of w)) t))
      → cond (eqb (fault_at s q w) 0) (judge s (below_at q w ++ st) ws) (fault_at s q w) ≡ 0
  unfolding Passes read_at fault_at below_at
  word_passes ih h =
      let f : fault_at s q w ≡ 0 = h.0 in
      let a : Passes s (below_at q w) (take_f (length (below_at q w)) t) = rw (word_count f) h.1 in
      let b : Passes s st (drop_f (length (below_at q w)) t) = rw (word_count f) h.2 in
      rw f (ih (passes_join s (below_at q w) st t a b))

judge_passes : (s i : ℕ) (st : List Place) (ws : List ℕ) → judge s st ws ≡ 0 → Passes s st (build arity (read_from i ws))
unfolding judge Passes read_from build push arity read_at
judge_passes s i [] [] e = tt
judge_passes s i [] (w ∷ ws) e = absurd (omega arith)
judge_passes s i (q ∷ st) [] e = absurd (omega arith)
judge_passes s i (q ∷ st) (w ∷ ws) e = passes_word s q st w i ws (build arity (read_from (suc i) ws)) (fault_at s q w) refl (judge_passes s (suc i) (below_at q w ++ st) ws) e

passes_judge : (s i : ℕ) (st : List Place) (ws : List ℕ) → Passes s st (build arity (read_from i ws)) → judge s st ws ≡ 0
unfolding judge Passes read_from build push arity read_at
passes_judge s i [] [] h = refl
passes_judge s i [] (w ∷ ws) h = absurd h
passes_judge s i (q ∷ st) [] h = absurd h
passes_judge s i (q ∷ st) (w ∷ ws) h = word_passes s q st w i ws (build arity (read_from (suc i) ws)) (passes_judge s (suc i) (below_at q w ++ st) ws) h

-- ---- slots and depth apart

unfoldable at_depth : ℕ → List Slot → List Place
at_depth d [] = []
at_depth d (q ∷ qs) = place q d ∷ at_depth d qs

at_depth_append : (d : ℕ) (a b : List Slot) → at_depth d (a ++ b) ≡ at_depth d a ++ at_depth d b
unfolding at_depth
at_depth_append d [] b = refl
at_depth_append d (q ∷ a) b = ap (place q d ∷◌) (at_depth_append d a b)

at_depth_replicate : (d n : ℕ) (q : Slot) → at_depth d (replicate n q) ≡ replicate n (place q d)
unfolding at_depth
at_depth_replicate d zero q = refl
at_depth_replicate d (suc n) q = ap (place q d ∷◌) (at_depth_replicate d n q)

places_slots : (d : ℕ) (rs : List Run) → places d rs ≡ at_depth d (slots rs)
unfolding places slots at_depth
places_slots d [] = refl
places_slots d (r ∷ rs) =
    ap (replicate r.count (place r.slot d) ++◌) (places_slots d rs)
    ∙ sym (at_depth_append d (replicate r.count r.slot) (slots rs) ∙ ap (◌++ at_depth d (slots rs)) (at_depth_replicate d r.count r.slot))

below_slots : (q : Slot) (d k p : ℕ) → below (place q d) k p ≡ at_depth (d + 1) (slots_below q k p)
unfolding below slots_below place
below_slots q d k p = places_slots (d + 1) ((row_of k).below q.context p)

-- ---- grammar, depth, symbols and S apart

-- a 40 within the limit
unfoldable Small : Label → Type 0
Small l = l.kind ≡ 40 → l.payload ≤ max_symbols

apart : (s d : ℕ) (qs : List Slot) (t : Trees) → d ≤ max_depth + 1 → Passes s (at_depth d qs) t → Fits qs t × (d + height_f t ≤ max_depth + 1) × Each (Known s) t × Each Small t
unfolding Passes at_depth Fits height_f Each
apart s d [] end h x = (tt, omega arith, tt, tt)
apart s d [] (node l k r) h x = absurd x
apart s d (q ∷ qs) end h x = absurd x
apart s d (q ∷ qs) (node l k r) h x =
    let f : Faultless s (place q d) l.kind l.payload = (fault_0 s (place q d) l.kind l.payload).0 x.0 in
    let m : d ≤ max_depth = unfold place in f.depth in
    let y : Passes s (at_depth (d + 1) (slots_below q l.kind l.payload)) k = rw (below_slots q d l.kind l.payload) at x.1 in
    let a = apart s (d + 1) (slots_below q l.kind l.payload) k (omega arith) y in
    let b = apart s d qs r h x.2 in
    let g : Allowed q l = unfold place in record { grammar = f.grammar; bare = f.bare } in
    ((g, a.0, b.0), omega (arith, a.1, b.1), (unfold Known in f.known, a.2, b.2), (unfold Small in f.count, a.3, b.3))

together : (s d : ℕ) (qs : List Slot) (t : Trees) → Fits qs t → d + height_f t ≤ max_depth + 1 → Each (Known s) t → Each Small t → Passes s (at_depth d qs) t
unfolding Passes at_depth Fits height_f Each
together s d [] end f h k m = tt
together s d [] (node l i r) f h k m = absurd f
together s d (q ∷ qs) end f h k m = absurd f
together s d (q ∷ qs) (node l i r) f h k m =
    let z : Faultless s (place q d) l.kind l.payload = unfold place Known Small in record { grammar = f.0.grammar; depth = omega arith; known = k.0; count = m.0; bare = f.0.bare } in (
      (fault_0 s (place q d) l.kind l.payload).1 z,
      rw (below_slots q d l.kind l.payload) (together s (d + 1) (slots_below q l.kind l.payload) i f.1 (omega arith) k.1 m.1),
      together s d qs r f.2 (omega arith) k.2 m.2,
    )

-- ---- the one 40 of a module

-- no slot of a module or a 40
unfoldable Inner : List Slot → Type 0
Inner [] = Unit {0}
Inner (q ∷ qs) = (2 < q.category) × Inner qs

inner_append : (a b : List Slot) → Inner a → Inner b → Inner (a ++ b)
unfolding Inner
inner_append [] b x y = y
inner_append (q ∷ a) b x y = (x.0, inner_append a b x.1 y)

inner_replicate : (n : ℕ) (q : Slot) → 2 < q.category → Inner (replicate n q)
unfolding Inner
inner_replicate zero q h = tt
inner_replicate (suc n) q h = (h, inner_replicate n q h)

inner_slots : (rs : List Run) → T (inner rs) → Inner (slots rs)
unfolding inner Inner slots
inner_slots [] t = tt
inner_slots (r ∷ rs) t =
    let c : 2 < r.slot.category = ltb→lt 2 r.slot.category (test_left (ltb 2 r.slot.category) (inner rs) t) in
    inner_append (replicate r.count r.slot) (slots rs) (inner_replicate r.count r.slot c) (inner_slots rs (test_right (ltb 2 r.slot.category) (inner rs) t))

inner_kids : (q : Slot) (l : Label) → Allowed q l → (q.category ≡ Module → ⊥) → Inner (slots_below q l.kind l.payload)
unfolding slots_below
inner_kids q l a n =
    inner_slots ((row_of l.kind).below q.context l.payload) (inner_below l.kind q.context l.payload (λ e. n (sym (allowed_row q l.kind l.payload a.grammar).0 ∙ e)))

not_forty : (q : Slot) (l : Label) → Allowed q l → (q.category ≡ Symbols → ⊥) → Small l
unfolding Small row_of lookup table row
not_forty q l a n e =
    let f : (row_of 40).category ≡ q.category = ap (λ (k : ℕ). (row_of k).category) (sym e) ∙ (allowed_row q l.kind l.payload a.grammar).0 in
    absurd (n (sym f))

inner_small : (qs : List Slot) (t : Trees) → Inner qs → Fits qs t → Each Small t
unfolding Inner Fits Each
inner_small [] end i f = tt
inner_small [] (node l k r) i f = absurd f
inner_small (q ∷ qs) end i f = absurd f
inner_small (q ∷ qs) (node l k r) i f = (
  not_forty q l f.0 (λ e. omega (arith, i.0)),
  inner_small (slots_below q l.kind l.payload) k (inner_kids q l f.0 (λ e. omega (arith, i.0))) f.1,
  inner_small qs r i.1 f.2,
)

-- the second word says S
second_word : (ws : List ℕ) (l m : Label) (ls : List Label) → l ∷ (m ∷ ls) ≡ read_from 0 ws → m.payload ≡ symbols_of ws
unfolding read_from read_at symbols_of
second_word [] l m ls e = let z : ◌≡◌ {A = ℕ} 0 1 = cc in absurd (omega arith)
second_word (w ∷ []) l m ls e = let f : m ∷ ls ≡ [] = cc in let z : ◌≡◌ {A = ℕ} 0 1 = cc in absurd (omega arith)
second_word (w ∷ v ∷ ws) l m ls e = let f : m ≡ read_at 1 v = cc in ap (λ (n : Label). n.payload) f

-- the children of a module: a 40, then statements of its own list
pub module_slots : (l : Label) → Allowed module' l → slots_below module' l.kind l.payload ≡ symbols ∷ replicate l.payload own_statement
unfolding slots_below slots row_of lookup table row sole_kind
module_slots l a =
    let e : l.kind ≡ 1 = kind_sole l.kind 1 (allowed_row module' l.kind l.payload a.grammar).0 tt in
    ap (λ (k : ℕ). slots ((row_of k).below 0 l.payload)) e ∙ ap (symbols ∷◌) (append-nil (replicate l.payload own_statement))

module _ (ws : List ℕ) where
  -- below the module: its first child is the one 40
  one_forty : (l : Label) (qs : List Slot) (k r : Trees) → l ∷ (flat k ++ flat r) ≡ read_from 0 ws → Inner qs → Fits (symbols ∷ qs) k → (symbols_of ws ≤ max_symbols) ↔ Each Small k
  unfolding Fits flat Each Small sole_kind lookup
  one_forty l qs end r e i f = absurd f
  one_forty l qs (node m k rest) r e i f =
      let s : m.payload ≡ symbols_of ws = second_word ws l m ((flat k ++ flat rest) ++ flat r) e in
      let forty : m.kind ≡ 40 = kind_sole m.kind 2 (allowed_row symbols m.kind m.payload f.0.grammar).0 tt in (
        λ h. (λ z. omega arith, inner_small (slots_below symbols m.kind m.payload) k (inner_kids symbols m f.0 (λ z. omega arith)) f.1, inner_small qs rest i f.2),
        λ g. let b = g.0 forty in omega arith,
      )

  module_small : (t : Trees) → flat t ≡ read_from 0 ws → Fits (module' ∷ []) t → (symbols_of ws ≤ max_symbols) ↔ Each Small t
  unfolding Fits flat Each
  module_small end e f = absurd f
  module_small (node l k end) e f =
      let g : Fits (symbols ∷ replicate l.payload own_statement) k = rw (module_slots l f.0) at f.1 in
      let i = one_forty l (replicate l.payload own_statement) k end e (inner_replicate l.payload own_statement (omega arith)) g in
      (λ h. (not_forty module' l f.0 (λ z. omega arith), i.0 h, tt), λ h. i.1 h.1)
  module_small (node l k (node m n r)) e f = absurd f.2

-- ---- a tree that obeys the grammar is full

pub fits_count : (qs : List Slot) (t : Trees) → Fits qs t → count_f t ≡ length qs
unfolding Fits count_f
fits_count [] end f = refl
fits_count [] (node l k r) f = absurd f
fits_count (q ∷ qs) end f = absurd f
fits_count (q ∷ qs) (node l k r) f = ap suc (fits_count qs r f.2)

pub fits_full : (qs : List Slot) (t st : Trees) → Fits qs t → Full arity t st
unfolding Fits Full arity
fits_full [] end st f = tt
fits_full [] (node l k r) st f = absurd f
fits_full (q ∷ qs) end st f = absurd f
fits_full (q ∷ qs) (node l k r) st f = (
  fits_count (slots_below q l.kind l.payload) k f.1 ∙ length_below q l.kind l.payload f.0.grammar,
  fits_full (slots_below q l.kind l.payload) k (append_f r st) f.1,
  fits_full qs r st f.2,
)

-- ---- the theorems

module _ (ws : List ℕ) where
  well_formed : refusal ws ≡ 0 → WellFormed ws (tree_of ws)
  unfolding tree_of top at_depth
  well_formed e =
      let z = sized ws 0 e (λ f. omega arith) in
      let a = apart (symbols_of ws) 1 (module' ∷ []) (tree_of ws) (omega arith) (judge_passes (symbols_of ws) 0 (top ∷ []) ws (sym (refusal_scan ws z) ∙ e)) in
      let w : flat (tree_of ws) ≡ read_from 0 ws = flat_build arity (read_from 0 ws) in
      record { sized = z; words = w; fits = a.0; depth = omega (arith, a.1); known = a.2; count = (module_small ws (tree_of ws) w a.0).1 a.3 }

  -- there is one such tree
  pub one_tree : (t : Trees) → WellFormed ws t → t ≡ tree_of ws
  unfolding tree_of
  one_tree t g = sym (build_flat arity t (fits_full (module' ∷ []) t end g.fits)) ∙ ap (build arity) g.words

  is_accepted : WellFormed ws (tree_of ws) → refusal ws ≡ 0
  unfolding tree_of top at_depth
  is_accepted g =
      let m = (module_small ws (tree_of ws) g.words g.fits).0 g.count in
      refusal_scan ws g.sized ∙ passes_judge (symbols_of ws) 0 (top ∷ []) ws (together (symbols_of ws) 1 (module' ∷ []) (tree_of ws) g.fits (omega (arith, g.depth)) g.known m)

  -- a module is accepted exactly when it is well_formed
  pub accepted : refusal ws ≡ 0 ↔ WellFormed ws (tree_of ws)
  accepted = (well_formed, is_accepted)

  pub accepted_full : refusal ws ≡ 0 → Full arity (tree_of ws) end × (count_f (tree_of ws) ≡ 1)
  accepted_full e = let g = well_formed e in (fits_full (module' ∷ []) (tree_of ws) end g.fits, fits_count (module' ∷ []) (tree_of ws) g.fits)

  -- any tree with these words that is well_formed will do
  pub tree_accepted : (t : Trees) → WellFormed ws t → refusal ws ≡ 0
  tree_accepted t g = is_accepted (subst (WellFormed ws) (one_tree t g) g)
