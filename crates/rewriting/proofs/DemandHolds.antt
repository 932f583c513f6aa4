-- Demand 3 holds of the rewriting of every accepted module. Assumes nothing.
use Rattle.std.specs.Prelude.{◌≡◌, refl, Bool, false, cond, List, [], ◌∷◌, ◌++◌, ℕ, zero, suc, ◌+◌, ◌≤◌, ◌<◌, eqb}
use Rattle.std.proofs.Common.{ap, sym, ◌∙◌, arith, eqb-true}
use Rattle.std.proofs.Math.Path.{subst}
use Rattle.std.proofs.Math.Bool.{true}
use Rattle.std.specs.declared.option.Option.TheVariants.{None as none}
use Rattle.std.proofs.lemmas.Bool.{eqb-false}
use Rattle.records.specs.Forest.{end, node, flat, drop_f}
use Rattle.records.specs.Prefix.{build, flat_build}
use Rattle.records.specs.Label.{Label, read, Trees, read_at, read_from, is, arity}
use Rattle.rewriting.specs.Visit.{visit, outermost, module_of, visit_words}
use Rattle.rewriting.specs.declared.State.{State}
use Rattle.rewriting.specs.Demand.{Has, first, below, behind, same, is_at, count_at, dropped, is_list, statements_of, Found, Demand}
use Rattle.rewriting.specs.DemandGrammar.{Accepted}
use Rattle.rewriting.proofs.DemandShapes.{Read, Shaped}
use Rattle.rewriting.proofs.DemandShaped.{shaped}
use Rattle.rewriting.proofs.DemandReport.{Distinct}
use Rattle.rewriting.proofs.DemandBehind.{listed}
use Rattle.rewriting.proofs.DemandCount.{dead_calls, high, low, cost}
use Rattle.rewriting.proofs.DemandReach.{has_count, has_some, unique, no_count}
use Rattle.rewriting.proofs.DemandGone.{gone}
use Rattle.rewriting.proofs.DemandEach.{each_has}
use Rattle.rewriting.proofs.DemandLists.{PlacedList, Placed, visit_placed, has_le, statements_le}

-- ---- what stands below a record of an accepted module

read_has : (l : Label) (k f : Trees) → Has l k f → Read f → Read k
read_has l k end x h = elim x [ ]
read_has l k (node a b r) first h = h.1
read_has l k (node a b r) (below x) h = read_has l k b x h.1
read_has l k (node a b r) (behind x) h = read_has l k r x h.2

shaped_has : (l : Label) (k f : Trees) → Has l k f → Shaped f → Shaped k
shaped_has l k end x h = elim x [ ]
shaped_has l k (node a b r) first h = h.1
shaped_has l k (node a b r) (below x) h = shaped_has l k b x h.1
shaped_has l k (node a b r) (behind x) h = shaped_has l k r x h.2

read_behind : (k : Trees) → Read k → Read (drop_f 1 k)
unfolding drop_f
read_behind end h = tt
read_behind (node l k r) h = h.2

shaped_behind : (k : Trees) → Shaped k → Shaped (drop_f 1 k)
unfolding drop_f
shaped_behind end h = tt
shaped_behind (node l k r) h = h.2

read_if : (b : Bool) (k : Trees) → Read k → Read (cond b (drop_f 1 k) k)
read_if true k h = read_behind k h
read_if false k h = h

shaped_if : (b : Bool) (k : Trees) → Shaped k → Shaped (cond b (drop_f 1 k) k)
shaped_if true k h = shaped_behind k h
shaped_if false k h = h

-- ---- the demand, of a forest whose words were read, each at a place of its own

module _ (f : Trees) (s : State) (rd : Read f) (each : Distinct f) (ok : Shaped f) where
  abbrev out : Trees
  out = (visit outermost f s).here

  abbrev F : List Label
  F = (visit outermost f s).fresh

  out_cost : (i : ℕ) → cost i (visit outermost f s) ≡ count_at i out
  unfolding cost
  out_cost i = omega (arith, no_count i (visit outermost f s).calls (dead_calls f outermost s (unfold outermost in refl)))

  once : (i : ℕ) → count_at i out ≡ cond (eqb (count_at i (dropped outermost f)) 0) (count_at i f) 0
  once i = go (eqb (count_at i (dropped outermost f)) 0) refl
    where
      some' : (n : ℕ) → (n ≡ 0 → ⊥) → 1 ≤ n
      some' zero h = absurd (h refl)
      some' (suc n) h = omega arith

      go : (b : Bool) → eqb (count_at i (dropped outermost f)) 0 ≡ b → count_at i out ≡ cond b (count_at i f) 0
      go true e = omega (arith, high i f outermost s, low i f outermost s ok, out_cost i, eqb-true (count_at i (dropped outermost f)) 0 e)
      go false e = sym (out_cost i) ∙ gone i f outermost s ok (each i) (some' (count_at i (dropped outermost f)) (eqb-false (count_at i (dropped outermost f)) 0 e))

  stays : (i : ℕ) → count_at i (dropped outermost f) ≡ 0 → count_at i out ≡ count_at i f
  stays i e = once i ∙ ap (λ (n : ℕ). cond (eqb n 0) (count_at i f) 0) e

  found : (l : Label) (k : Trees) (i : ℕ) → Has l k f → is_list l ≡ true → l.from ≡ read i → count_at i (dropped outermost f) ≡ 0 → Found f out F i l k
  found l k i h islist from e =
      let n : 1 ≤ count_at i out = omega (arith, stays i e, has_count i l k f h from) in
      let u = has_some i out n in
      let m : Label = u.0 in
      let j : Trees = u.1 in
      let g : Placed f F m j = each_has (Placed f F) out m j (visit_placed f outermost s rd each ok).0 u.2 in
      let p = g i u.3 in
      let q = unique i l p.0 k p.1 f h p.2 from p.3 (each i) in
      let x : PlacedList f F i l k m j = same_list l k m j p.0 p.1 q.0 q.1 islist p.4 in
      record {
        label = m;
        kids = j;
        there = u.2;
        origin = u.3;
        kind = x.0;
        statements = (visit x.1 (statements_of l k) x.2).here;
        through = x.3;
        listed = listed F (statements_of l k) x.1 x.2 (unfold statements_of in read_if (is 1 l) k (read_has l k f h rd))
            (λ y. omega (arith, each y, has_le y l k f h, statements_le y l k)) (unfold statements_of in shaped_if (is 1 l) k (shaped_has l k f h ok)) x.4;
      }
    where
      same_list : (l : Label) (k : Trees) (m : Label) (j : Trees) (l' : Label) (k' : Trees) → l' ≡ l → k' ≡ k → is_list l ≡ true → (is_list l' ≡ true → PlacedList f F i l' k' m j) → PlacedList f F i l k m j
      same_list l k m j l' k' a b t w =
          subst (λ (z : Trees). PlacedList f F i l z m j) b (subst (λ (z : Label). is_list z ≡ true → PlacedList f F i z k' m j) a w t)

  demand : Demand f out F
  demand = record { lists = found; once = once }

-- ---- the words of a module are read, each at a place of its own

count_in : ℕ → List Label → ℕ
count_in i [] = 0
count_in i (x ∷ xs) = is_at i x.from + count_in i xs

count_append : (i : ℕ) (xs ys : List Label) → count_in i (xs ++ ys) ≡ count_in i xs + count_in i ys
unfolding count_in
count_append i [] ys = omega arith
count_append i (x ∷ xs) ys = omega (arith, count_append i xs ys)

count_flat : (i : ℕ) (f : Trees) → count_at i f ≡ count_in i (flat f)
unfolding count_at count_in flat
count_flat i end = refl
count_flat i (node l k r) = omega (arith, count_flat i k, count_flat i r, count_append i (flat k) (flat r))

abbrev AllRead : List Label → Type 0
AllRead [] = Unit {0}
AllRead (x ∷ xs) = ((i : ℕ) × (x.from ≡ read i)) × AllRead xs

all_left : (xs ys : List Label) → AllRead (xs ++ ys) → AllRead xs
all_left [] ys h = tt
all_left (x ∷ xs) ys h = (h.0, all_left xs ys h.1)

all_right : (xs ys : List Label) → AllRead (xs ++ ys) → AllRead ys
all_right [] ys h = h
all_right (x ∷ xs) ys h = all_right xs ys h.1

read_flat : (f : Trees) → AllRead (flat f) → Read f
unfolding flat
read_flat end h = tt
read_flat (node l k r) h = (h.0, read_flat k (all_left (flat k) (flat r) h.1), read_flat r (all_right (flat k) (flat r) h.1))

all_read : (i : ℕ) (ws : List ℕ) → AllRead (read_from i ws)
unfolding read_from read_at
all_read i [] = tt
all_read i (w ∷ ws) = ((i, refl), all_read (suc i) ws)

at_if : (b : Bool) (i j : ℕ) → eqb i j ≡ b → i < j → cond b 1 0 ≤ 0
at_if true i j e h = let g : i ≡ j = eqb-true i j e in omega (arith, g)
at_if false i j e h = omega arith

read_before : (i j : ℕ) (ws : List ℕ) → i < j → count_in i (read_from j ws) ≡ 0
unfolding count_in read_from read_at is_at same
read_before i j [] h = refl
read_before i j (w ∷ ws) h = omega (arith, at_if (eqb i j) i j refl h, read_before i (suc j) ws (omega arith))

at_most : (b : Bool) (i j n : ℕ) → eqb i j ≡ b → (i < suc j → n ≡ 0) → n ≤ 1 → cond b 1 0 + n ≤ 1
at_most true i j n e h g = let z : n ≡ 0 = h (omega (arith, eqb-true i j e)) in omega arith
at_most false i j n e h g = omega arith

read_once : (i j : ℕ) (ws : List ℕ) → count_in i (read_from j ws) ≤ 1
unfolding count_in read_from read_at is_at same
read_once i j [] = omega arith
read_once i j (w ∷ ws) = at_most (eqb i j) i j (count_in i (read_from (suc j) ws)) refl (read_before i (suc j) ws) (read_once i (suc j) ws)

pub module_read : (ws : List ℕ) → Read (module_of ws)
unfolding module_of
module_read ws = read_flat (build arity (read_from 0 ws)) (rw (flat_build arity (read_from 0 ws)) (all_read 0 ws))

-- each place of a module is one record's
pub module_once : (ws : List ℕ) → Distinct (module_of ws)
unfolding module_of
module_once ws i = rw (count_flat i (build arity (read_from 0 ws)), flat_build arity (read_from 0 ws)) (read_once i 0 ws)

-- s: the module's number of symbols
pub demand_3 : (s : ℕ) (ws : List ℕ) → Accepted (module_of ws) → Demand (module_of ws) (visit_words s ws).here (visit_words s ws).fresh
unfolding visit_words
demand_3 s ws ok = demand (module_of ws) (record { next = s; default = none }) (module_read ws) (module_once ws) (shaped (module_of ws) (module_read ws) ok)
