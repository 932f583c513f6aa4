-- The rewriting keeps the grammar: every tree that the rules make of a tree that obeys it obeys it again. Assumes nothing.
use Rattle.std.specs.Prelude.{◌≡◌, Bool, cond, not}
use Rattle.std.proofs.Math.Path.{refl, ap, subst, subst₂}
use Rattle.std.proofs.Common.{sym, ◌∙◌}
use Rattle.std.proofs.Math.Bool.{true, false}
use Rattle.std.specs.declared.option.Option.{Option}
use Rattle.std.specs.declared.option.Option.TheVariants.{None as none}
use mathlib.Core.List.{List, [], ◌∷◌, append-nil}
use Prim.Native.Nat.{ℕ, ◌+◌, ◌*◌, ◌<◌, ◌≤◌}
use native.Mathlib.Omega.{arith}
use Rattle.std.proofs.Math.ListN.{replicate}
use Rattle.std.proofs.Math.Dec.{eqb}
use borrow.Author.Tests.{eqb-true, eqb-false}
use Rattle.words.specs.Table.{lookup}
use Rattle.words.specs.Word.{bit1}
use Rattle.records.specs.Forest.{end, node, size, append_f, count_f, size_node}
use Rattle.records.specs.Label.{Label, Trees, repay, bit}
use Rattle.grammar.specs.Grammar.{Slot, module' as moduleSlot, symbols as symbolsSlot, slot, any, row, table, row_of, slots_below, is_symbol}
use Rattle.grammar.specs.WellFormed.{Allowed, Fits, Each}
use Rattle.grammar.proofs.Rows.{sole_kind}
use Rattle.grammar.proofs.Accepted.{module_slots}
use Rattle.rewriting.specs.Parts.{Role, list, statement, expression, method, constructor, plain, role_of, tree, recount, is_live, class_kids}
use Rattle.rewriting.specs.Visit.{Result, live_class, dead_class, class_if, kept, whole_module, own, since, work, inside, entering, join, ◌then◌, visit, outermost}
use Rattle.rewriting.specs.declared.Around.{Around}
use Rattle.rewriting.specs.declared.State.{State}
use Rattle.rewriting.proofs.Roles.{Plain, role_case, is_plain, plain_role, statement_role_lem, module_role_lem}
use Rattle.rewriting.proofs.Fitting.{EachSlot, Above, slots_replicate, has_statements, deep_below, category_of}
use Rattle.rewriting.proofs.Kept.{keeps, Like, like, plain_statements}
use Rattle.rewriting.proofs.Facts.{counter}
use Rattle.rewriting.proofs.Spare.{sole}
use Rattle.rewriting.proofs.ClosedSlots.{EachFits, each_append, each_fits, fits_each, fits_append, one_fits, fits_one, free, tabled}
use Rattle.rewriting.proofs.ClosedMembers.{Calls, method_closed, property_closed, accessor_closed}
use Rattle.rewriting.proofs.ClosedClasses.{live_each, live_calls}
use Rattle.rewriting.proofs.ClosedSymbols.{is_free, is_held, Good, fitting, visit_good, good_other}

-- what is known of a visited forest: statements give statements of the same context; other records give one each, in the same slots
record Closes (f : Trees) (r : Result) : Type 0 where
  statements : (x : ℕ) → EachFits (slot 3 x) f → EachFits (slot 3 x) r.here × Calls r.calls
  others : (qs : List Slot) → Above 3 qs → Fits qs f → Fits qs r.here × Calls r.calls

-- ---- a record in its slot: k its children as read, a as visited

module _ (q : Slot) (around : Around) (l : Label) (k : Trees) (outside : Option ℕ) (a : Result) (allow : Allowed q l)
    (fits : Fits (slots_below q l.kind l.payload) k) (alike : Above 3 (slots_below q l.kind l.payload) → Like k a.here) (below : Closes k a) where
  Kept-closed : Role → Type 0
  Kept-closed r = Fits (q ∷ []) (own r around l k outside a).here × Calls (own r around l k outside a).calls

  -- children that are no statements
  deep_kids : has_statements l.kind ≡ false → Fits (slots_below q l.kind l.payload) a.here × Calls a.calls
  deep_kids e = below.others (slots_below q l.kind l.payload) (deep_below q l.kind l.payload e) fits

  kept_closed : has_statements l.kind ≡ false → Fits (q ∷ []) (tree l a.here) × Calls a.calls
  kept_closed e = let h = deep_kids e in (one_fits q l a.here allow h.0, h.1)

  -- children that are statements, counted again
  list_closed : (row_of l.kind).rule ≡ any → ((n : ℕ) → slots_below q l.kind n ≡ replicate n (slot 3 0)) → Kept-closed list
  unfolding Kept-closed own recount repay
  list_closed e s =
      let h = below.statements 0 (fits_each l.payload (slot 3 0) k (subst (λ (qs : List Slot). Fits qs k) (s l.payload) fits)) in
      let n : ℕ = count_f a.here in
      (one_fits q (repay l n) a.here (free q l n allow e) (subst (λ (qs : List Slot). Fits qs a.here) (sym (s n)) (each_fits (slot 3 0) a.here h.0)), h.1)

  expression_closed : has_statements l.kind ≡ false → Kept-closed expression
  unfolding Kept-closed own dead_class Calls EachFits
  expression_closed e = ((kept_closed e).0, λ x. tt)

  list_kind : (m : ℕ) → l.kind ≡ m → (row_of m).rule ≡ any → ((n : ℕ) → slots_below q m n ≡ replicate n (slot 3 0)) → Kept-closed list
  list_kind m e r s = list_closed (ap (λ (i : ℕ). (row_of i).rule) e ∙ r) (λ n. ap (λ (i : ℕ). slots_below q i n) e ∙ s n)

  no_statements : (n : ℕ) → l.kind ≡ n → has_statements n ≡ false → has_statements l.kind ≡ false
  no_statements n e z = ap has_statements e ∙ z

  -- any record but a module and a class statement
  other_closed : (l.kind ≡ 1 → ⊥) → (l.kind ≡ 4 → ⊥) → Kept-closed (role_of l)
  unfolding has_statements lookup Kept-closed
  other_closed not1 not4 =
      role_case Kept-closed l (λ e. absurd (not1 e)) (λ e. list_kind 3 e rule_3 below_3)
      (λ e. list_kind 33 e rule_33 below_33)
      (λ e. list_kind 39 e rule_39 below_39) (λ e. absurd (not4 e))
      (λ e. expression_closed (no_statements 20 e refl)) (λ e. method_or (bit bit1 l) e)
      (λ e. property_closed q around l k outside a allow (deep_kids (no_statements 31 e refl)).0 (kinds 31 e refl) (deep_kids (no_statements 31 e refl)).1 e)
      (λ e. accessor_closed q around l k outside a allow (deep_kids (no_statements 32 e refl)).0 (kinds 32 e refl) (deep_kids (no_statements 32 e refl)).1 e)
      others
    where
      others : Plain l → Kept-closed plain
      others n = unfold own kept in kept_closed (plain_statements l n)

      rule_3 : (row_of 3).rule ≡ any
      rule_3 = unfold tabled in refl

      below_3 : (n : ℕ) → slots_below q 3 n ≡ replicate n (slot 3 0)
      below_3 n = unfold tabled in append-nil (replicate n (slot 3 0))

      rule_33 : (row_of 33).rule ≡ any
      rule_33 = unfold tabled in refl

      below_33 : (n : ℕ) → slots_below q 33 n ≡ replicate n (slot 3 0)
      below_33 n = unfold tabled in append-nil (replicate n (slot 3 0))

      rule_39 : (row_of 39).rule ≡ any
      rule_39 = unfold tabled in refl

      below_39 : (n : ℕ) → slots_below q 39 n ≡ replicate n (slot 3 0)
      below_39 n = unfold tabled in append-nil (replicate n (slot 3 0))

      kinds : (n : ℕ) → l.kind ≡ n → has_statements n ≡ false → Like k a.here
      kinds n e z = alike (deep_below q l.kind l.payload (no_statements n e z))

      method_or : (b : Bool) → l.kind ≡ 30 → Kept-closed (cond b constructor method)
      method_or true e = unfold own kept in kept_closed (no_statements 30 e refl)
      method_or false e = method_closed q around l k outside a allow (deep_kids (no_statements 30 e refl)).0 (kinds 30 e refl) (deep_kids (no_statements 30 e refl)).1 e

-- ---- a class statement

-- the class's word is kept
class_here : (around : Around) (c : Label) (ck : Trees) (s : State) → c.kind ≡ 26 → (visit around (node c ck end) s).here ≡ node c (visit around ck s).here end
unfolding visit work since join ◌then◌ append_f is_plain lookup
class_here around c ck s e = rw (plain_role c 26 e tt) (unfold own kept inside entering tree in refl)

module _ (x : ℕ) (around inner : Around) (l c : Label) (ck : Trees) (outside : Option ℕ) (s : State) (k4 : l.kind ≡ 4) (allow : Allowed (slot 3 x) l)
    (fits : Fits (slot 5 l.payload ∷ []) (node c ck end)) (below : Closes (node c ck end) (visit inner (node c ck end) s))
    (alike : Like (node c ck end) (visit inner (node c ck end) s).here) where
  abbrev a : Result
  a = visit inner (node c ck end) s

  k26 : c.kind ≡ 26
  unfolding Fits sole_kind lookup
  k26 = sole (slot 5 l.payload) c 5 fits.0 refl tt

  visited : Fits (slot 5 l.payload ∷ []) a.here × Calls a.calls
  unfolding EachSlot
  visited = below.others (slot 5 l.payload ∷ []) (omega arith, tt) fits

  dead_closed : EachFits (slot 3 x) (tree l a.here)
  unfolding tabled
  dead_closed =
      let e : slots_below (slot 3 x) l.kind l.payload ≡ slot 5 l.payload ∷ [] = ap (λ (n : ℕ). slots_below (slot 3 x) n l.payload) k4 in
      fits_one (slot 3 x) (tree l a.here) (one_fits (slot 3 x) l a.here allow (subst (λ (qs : List Slot). Fits qs a.here) (sym e) visited.0))

  live_closed : bit bit1 c ≡ false → EachFits (slot 3 x) (live_class ck l a.here a.calls a.after outside).here
  unfolding Fits Like keeps is_plain lookup
  live_closed n =
      let ck' : Trees = (visit inner ck s).here in
      let e : (visit inner (node c ck end) s).here ≡ node c ck' end = class_here inner c ck s k26 in
      let kids : Fits (slot 5 l.payload ∷ []) (node c ck' end) = subst (λ (h : Trees). Fits (slot 5 l.payload ∷ []) h) e visited.0 in
      let same : Like (node c ck end) (node c ck' end) = subst (λ (h : Trees). Like (node c ck end) h) e alike in
      subst (λ (h : Trees). EachFits (slot 3 x) (live_class ck l h (visit inner (node c ck end) s).calls (visit inner (node c ck end) s).after outside).here) (sym e)
      (live_each x l c ck ck' (visit inner (node c ck end) s).calls k4 k26 allow fits.0 n fits.1 kids.1 (same.2 (ap keeps (plain_role c 26 k26 tt))) visited.1
      (visit inner (node c ck end) s).after outside)

  class_closed : EachFits (slot 3 x) (own statement around l (node c ck end) outside a).here × Calls (own statement around l (node c ck end) outside a).calls
  unfolding own is_live
  class_closed = either (bit bit1 c) refl
    where
      none_queued : (f : Trees) → f ≡ end → Calls f
      none_queued f e = unfold Calls EachFits in λ y. rw e tt

      either : (b : Bool) → bit bit1 c ≡ b →
          EachFits (slot 3 x) (class_if (not b) l (node c ck end) outside a).here × Calls (class_if (not b) l (node c ck end) outside a).calls
      either true n = unfold class_if dead_class in (dead_closed, none_queued end refl)
      either false n = unfold class_if class_kids in (live_closed n, none_queued _ (live_calls ck l a.here a.calls a.after outside))

statement_closed : (x : ℕ) (around inner : Around) (l : Label) (k : Trees) (outside : Option ℕ) (s : State) → l.kind ≡ 4 → Allowed (slot 3 x) l → Fits (slot 5 l.payload ∷ []) k →
    Closes k (visit inner k s) → Like k (visit inner k s).here →
    EachFits (slot 3 x) (own statement around l k outside (visit inner k s)).here × Calls (own statement around l k outside (visit inner k s)).calls
unfolding Fits
statement_closed x around inner l end outside s e allow fits below alike = absurd fits
statement_closed x around inner l (node c ck (node d dk r)) outside s e allow fits below alike = absurd fits.2
statement_closed x around inner l (node c ck end) outside s e allow fits below alike = class_closed x around inner l c ck outside s e allow fits below alike

-- ---- any forest

calls_append : (f g : Trees) → Calls f → Calls g → Calls (append_f f g)
unfolding Calls
calls_append f g a b = λ x. each_append (slot 3 x) f g (a x) (b x)

module _ (around : Around) (s : State) (l : Label) (k : Trees) (below : Closes k (visit (inside (role_of l) around k) k (entering (role_of l) s))) where
  abbrev kids : Result
  kids = visit (inside (role_of l) around k) k (entering (role_of l) s)

  abbrev own' : Result
  own' = own (role_of l) around l k s.default kids

  alike : (q : Slot) → Fits (slots_below q l.kind l.payload) k → Above 3 (slots_below q l.kind l.payload) → Like k kids.here
  alike q h d = like k (slots_below q l.kind l.payload) (inside (role_of l) around k) (entering (role_of l) s) d h

  one_other : (q : Slot) → (l.kind ≡ 1 → ⊥) → (l.kind ≡ 4 → ⊥) → Allowed q l → Fits (slots_below q l.kind l.payload) k → Fits (q ∷ []) own'.here × Calls own'.calls
  unfolding Kept-closed
  one_other q not1 not4 a h = other_closed q around l k s.default kids a h (alike q h) below not1 not4

  one_statement : (x : ℕ) → Allowed (slot 3 x) l → Fits (slots_below (slot 3 x) l.kind l.payload) k → EachFits (slot 3 x) own'.here × Calls own'.calls
  unfolding tabled has_statements
  one_statement x a h = go (eqb l.kind 4) refl
    where
      go : (b : Bool) → eqb l.kind 4 ≡ b → EachFits (slot 3 x) own'.here × Calls own'.calls
      go true e =
          let k4 : l.kind ≡ 4 = eqb-true l.kind 4 e in
          let below4 : slots_below (slot 3 x) l.kind l.payload ≡ slot 5 l.payload ∷ [] = ap (λ (n : ℕ). slots_below (slot 3 x) n l.payload) k4 in
          subst (λ (r : Role). EachFits (slot 3 x) (own r around l k s.default kids).here × Calls (own r around l k s.default kids).calls) (sym (statement_role_lem l k4))
          (statement_closed x around (inside (role_of l) around k) l k s.default (entering (role_of l) s) k4 a (subst (λ (qs : List Slot). Fits qs k) below4 h) below
          (alike (slot 3 x) h (deep_below (slot 3 x) l.kind l.payload (ap has_statements k4))))
      go false e =
          let z = one_other (slot 3 x) (λ f. absurd (omega (arith, category_of (slot 3 x) l 1 a f))) (eqb-false l.kind 4 e) a h in
          (fits_one (slot 3 x) own'.here z.0, z.1)

  -- r: what stands behind the record
  module _ (r : Trees) (behind : Closes r (visit around r own'.after)) where
    node_statements : (x : ℕ) → EachFits (slot 3 x) (node l k r) → EachFits (slot 3 x) (visit around (node l k r) s).here × Calls (visit around (node l k r) s).calls
    unfolding EachFits visit ◌then◌ join work since
    node_statements x h =
        let b = one_statement x h.0 h.1 in
        let c = behind.statements x h.2 in
        (each_append (slot 3 x) own'.here (visit around r own'.after).here b.0 c.0, calls_append own'.calls (visit around r own'.after).calls b.1 c.1)

    node_others : (qs : List Slot) → Above 3 qs → Fits qs (node l k r) → Fits qs (visit around (node l k r) s).here × Calls (visit around (node l k r) s).calls
    unfolding EachSlot Fits visit ◌then◌ join work since row_of lookup table row
    node_others [] d h = absurd h
    node_others (q ∷ qs) d h =
        let b = one_other q (λ e. absurd (omega (arith, d.0, category_of q l 1 h.0 e))) (λ e. absurd (omega (arith, d.0, category_of q l 4 h.0 e))) h.0 h.1 in
        let c = behind.others qs d.1 h.2 in
        (fits_append (q ∷ []) qs own'.here (visit around r own'.after).here b.0 c.0, calls_append own'.calls (visit around r own'.after).calls b.1 c.1)

none_others : (qs : List Slot) → Fits qs end → Fits qs end × Calls end
unfolding Fits Calls EachFits
none_others [] h = (tt, λ x. tt)
none_others (q ∷ qs) h = absurd h

closes : (f : Trees) (around : Around) (s : State) → Closes f (visit around f s)
closes end around s = unfold visit in record { statements = λ x h. unfold Calls EachFits in (tt, λ y. tt); others = λ qs d h. none_others qs h }
closes (node l k r) around s =
    let below : Closes k (visit (inside (role_of l) around k) k (entering (role_of l) s)) = closes k (inside (role_of l) around k) (entering (role_of l) s) in
    let behind = closes r around (own (role_of l) around l k s.default (visit (inside (role_of l) around k) k (entering (role_of l) s))).after in
    record { statements = λ x h. node_statements around s l k below r behind x h; others = λ qs d h. node_others around s l k below r behind qs d h }

-- ---- a module

-- a module as rewritten, with n symbols: its 40 says n
pub record Module (n : ℕ) (h : Trees) : Type 0 where
  pub label : Label
  pub symbols : Label
  pub statements : Trees
  pub whole : h ≡ node label (node symbols end statements) end
  pub kind : symbols.kind ≡ 40
  pub count : symbols.payload ≡ n
  pub fits : Fits (moduleSlot ∷ []) h
  pub good : Each (Good n) h

module _ (l m : Label) (r : Trees) (first : ℕ) (allow : Allowed moduleSlot l) (symbols' : Allowed symbolsSlot m) (each : EachFits (slot 3 1) r) (few : 3 * size r ≤ 67108864) (low : first + 2 * size r < 67108864)
    (good' : Each (Good first) r) where
  abbrev start : State
  start = record { next = first; default = none }

  k1 : l.kind ≡ 1
  unfolding sole_kind lookup
  k1 = sole moduleSlot l 1 allow refl tt

  k40 : m.kind ≡ 40
  unfolding sole_kind lookup
  k40 = sole symbolsSlot m 2 symbols' refl tt

  abbrev rest : Trees
  rest = (visit outermost r start).here

  abbrev next : ℕ
  next = (visit outermost r start).after.next

  rule1 : (row_of l.kind).rule ≡ any
  unfolding tabled
  rule1 = ap (λ (n : ℕ). (row_of n).rule) k1

  rule40 : (row_of m.kind).rule ≡ any
  unfolding tabled
  rule40 = ap (λ (n : ℕ). (row_of n).rule) k40

  slots1 : slots_below moduleSlot l.kind (count_f rest) ≡ symbolsSlot ∷ replicate (count_f rest) (slot 3 1)
  unfolding tabled
  slots1 = ap (λ (n : ℕ). slots_below moduleSlot n (count_f rest)) k1 ∙ ap (symbolsSlot ∷◌) (append-nil (replicate (count_f rest) (slot 3 1)))

  slots40 : slots_below symbolsSlot m.kind next ≡ []
  unfolding tabled
  slots40 = ap (λ (n : ℕ). slots_below symbolsSlot n next) k40

  whole_fits : Fits (moduleSlot ∷ []) (node (repay l (count_f rest)) (node (repay m next) end rest) end)
  unfolding Fits repay
  whole_fits =
      let kids : Fits (symbolsSlot ∷ replicate (count_f rest) (slot 3 1)) (node (repay m next) end rest) =
      (free symbolsSlot m next symbols' rule40, subst (λ (qs : List Slot). Fits qs end) (sym slots40) tt, each_fits (slot 3 1) rest ((closes r outermost start).statements 1 each).0) in
      (free moduleSlot l (count_f rest) allow rule1, subst (λ (qs : List Slot). Fits qs (node (repay m next) end rest)) (sym slots1) kids, tt)

  whole_good : Each (Good next) (node (repay l (count_f rest)) (node (repay m next) end rest) end)
  unfolding Each repay is_held is_symbol is_free lookup
  whole_good = (
    good_other next (repay l (count_f rest)) 1 k1 refl,
    (
      fitting next (repay m next) (rw k40) (omega (arith, low, counter r outermost start)),
      tt,
      visit_good first r (replicate (count_f r) (slot 3 1)) (slots_replicate (λ q. 2 < q.category) (count_f r) (slot 3 1) (omega arith)) (each_fits (slot 3 1) r each) few good',
    ),
    tt,
  )

  module_here : (visit outermost (node l (node m end r) end) start).here ≡ node (repay l (count_f rest)) (node (repay m next) end rest) end
  unfolding visit work since join ◌then◌ append_f is_plain lookup
  module_here = rw (module_role_lem l k1, plain_role m 40 k40 tt) (unfold own kept inside entering whole_module tree append_f in refl)

  module_after : (visit outermost (node l (node m end r) end) start).after ≡ (visit outermost r start).after
  unfolding visit work since join ◌then◌ is_plain lookup
  module_after = rw (module_role_lem l k1, plain_role m 40 k40 tt) (unfold own kept inside entering in refl)

  module_kids : Module (visit outermost (node l (node m end r) end) start).after.next (visit outermost (node l (node m end r) end) start).here
  unfolding repay
  module_kids = record {
    label = repay l (count_f rest);
    symbols = repay m next;
    statements = rest;
    whole = module_here;
    kind = k40;
    count = ap (λ (t : State). t.next) (sym module_after);
    fits = subst (λ (h : Trees). Fits (moduleSlot ∷ []) h) (sym module_here) whole_fits;
    good = subst₂ (λ (n : ℕ) (h : Trees). Each (Good n) h) (ap (λ (t : State). t.next) (sym module_after)) (sym module_here) whole_good;
  }

no_kids : (j : Trees) → Fits [] j → j ≡ end
unfolding Fits
no_kids end h = refl
no_kids (node l k r) h = absurd h

-- the start of a module with n symbols
unfoldable start' : ℕ → State
start' n = record { next = n; default = none }

module_shape : (l : Label) (k : Trees) (n : ℕ) → Allowed moduleSlot l → Fits (symbolsSlot ∷ replicate l.payload (slot 3 1)) k → 3 * size k ≤ 67108864 → n + 2 * size k < 67108864 → Each (Good n) k →
    Module (visit outermost (node l k end) (start' n)).after.next (visit outermost (node l k end) (start' n)).here
unfolding Fits Each start' sole_kind lookup tabled
module_shape l end n a h few low c = absurd h
module_shape l (node m j r) n a h few low c =
    let e : m.kind ≡ 40 = sole symbolsSlot m 2 h.0 refl tt in
    let z : j ≡ end = no_kids j (subst (λ (i : ℕ). Fits (slots_below symbolsSlot i m.payload) j) e h.1) in
    subst (λ (t : Trees). Module (visit outermost (node l (node m t r) end) (start' n)).after.next (visit outermost (node l (node m t r) end) (start' n)).here) (sym z)
    (module_kids l m r n a h.0 (fits_each l.payload (slot 3 1) r h.2) (omega (arith, few, size_node m j r)) (omega (arith, low, size_node m j r)) c.2)

-- a module that obeys the grammar is rewritten to one that does; its 40 says how many symbols there are then, and all are below that
pub module_closed : (f : Trees) (n : ℕ) → Fits (moduleSlot ∷ []) f → 3 * size f ≤ 67108864 → n + 2 * size f < 67108864 → Each (Good n) f →
    Module (visit outermost f (record { next = n; default = none })).after.next (visit outermost f (record { next = n; default = none })).here
unfolding Fits Each start'
module_closed end n h few low c = absurd h
module_closed (node l k (node m j r)) n h few low c = absurd h.2
module_closed (node l k end) n h few low c =
    module_shape l k n h.0 (subst (λ (qs : List Slot). Fits qs k) (module_slots l h.0) h.1) (omega (arith, few, size_node l k end)) (omega (arith, low, size_node l k end)) c.1
