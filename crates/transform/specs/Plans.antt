-- The plan of a class: what is found from the words, the table of notes and the state behind the class is the definition's. Assumes nothing.
use Rattle.std.proofs.Math.Path.{◌≡◌, refl, ap, sym, subst}
use Rattle.records.specs.Ends.{blank}
use Rattle.records.specs.declared.Note.{Note}
use Rattle.std.proofs.Common.{◌∙◌, add-one, true≢false}
use Rattle.std.proofs.Math.Bool.{Bool, true, false, cond}
use Rattle.std.specs.Prelude.{◌&&◌, List, [], ◌∷◌, length, get_or, replicate, is_some}
use Rattle.std.specs.Option.{option_or}
use Rattle.std.specs.declared.option.Option.{Option}
use Rattle.std.specs.declared.option.Option.TheVariants.{None as none, Some as some}
use Prim.Native.Nat.{ℕ, zero, suc, ◌+◌, ◌<◌, ◌≤◌}
use native.Mathlib.Omega.{arith}
use Rattle.records.specs.Forest.{end, node, take_f, drop_f, count_f, count_f_append, count_size, size_take_drop}
use Rattle.records.specs.Label.{Label, Trees, ◌∶◌}
use Rattle.records.specs.Place.{records_at, label_at, arity_at, kids_at, end_of, records_first, size_records, kids_past}
use Rattle.grammar.specs.Grammar.{element, module'}
use Rattle.grammar.specs.WellFormed.{Allowed, Fits}
use Rattle.rewriting.specs.Parts.{Role, module' as module_role, list, statement, expression, method, constructor, plain, field, role_of, decorators, decorators_of, bare_method, bare_field, is_decorated_member, has_plain_key, elements_of, id_of, has_private_in, has_static, is_decorated, is_live}
use Rattle.rewriting.specs.Visit.{Result, Taken, class_symbol, name_if, name_of, called₁, called₂, member_if, member, kept, dead_class, own, since, work, inside, entering, join, ◌then◌, visit, visit_one}
use Rattle.rewriting.specs.declared.Around.{Around}
use Rattle.rewriting.specs.declared.State.{State}
use Rattle.rewriting.proofs.Facts.{counter}
use Rattle.inspect.specs.Row.{Test, count_row, count_none}
use Rattle.inspect.specs.Class.{count_called}
use Rattle.walk_laws.specs.Rows.{visit_at, fresh, row_none}
use Rattle.walk_laws.specs.After.{mentioned}
use Rattle.walk_laws.specs.Slots.{RowFits, standing_at, row_first}
use Rattle.walk_laws.specs.Kinds.{class_kind}
use Rattle.walk_laws.specs.Default.{class_default}
use Rattle.walk_laws.specs.First.{elements_row}
use Rattle.walk_laws.specs.Calls.{symbol_of, call_none, call_count, calls_more}
use Rattle.walk_laws.specs.ClassPlan.{Plan, decorated_plan, plan_of, rk, scope, body_at, at_body, at_end, els, queue, plan}
use Rattle.walk_laws.specs.ClassFacts.{body_in, body_kind, own_elements, elements_visited}
use Rattle.counter.specs.Contract.{unlive, Below, elements_from, Planned, Ready, Counts, Annotated, class_count}
use Rattle.counter.specs.Steps.{below_more, counts_high, counts_within, count_live}
use Rattle.counter.specs.Totals.{note_at, ready_free, class_symbols}
use Rattle.counter.specs.declared.Counted.{Counted}
use Rattle.transform.specs.Contract.{begun}
use Rattle.transform.specs.ClassWords.{Small, SymbolsOf, PlanFrom, Plans}
use Rattle.transform.specs.declared.ClassPlan.{ClassPlan}

-- ---- rule 4: the default symbol is below the counter

symbol_below : (id d : Option ℕ) (s : State) → Below s.next s.default → Below (class_symbol id d s).after.next (class_symbol id d s).after.default
unfolding class_symbol
symbol_below (some c) d s b = b
symbol_below none (some d) s b = b
symbol_below none none s b = unfold Below in omega arith

name_below : (x : Bool) (key : Trees) (s : State) → Below s.next s.default → Below (name_of x key s).after.next (name_of x key s).after.default
unfolding name_of name_if
name_below x end s b = b
name_below true (node l k r) s b = b
name_below false (node l k r) s b = below_more s.next (suc s.next) s.default (omega arith) b

member_below : (x : Bool) (around : Around) (l : Label) (kids bare entries : Trees) (d : Label) (a : Result) → Below a.after.next a.after.default →
    Below (member_if x around l kids bare entries d a).after.next (member_if x around l kids bare entries d a).after.default
unfolding member_if called₁ called₂
member_below true around l kids bare entries d a b =
    let t : Taken = class_symbol around.id a.after.default a.after in
    name_below (has_plain_key kids) (take_f 1 (drop_f 1 bare)) t.after (symbol_below around.id a.after.default a.after b)
member_below false around l kids bare entries d a b = b

entering_below : (r : Role) (s : State) → Below s.next s.default → Below (entering r s).next (entering r s).default
unfolding entering
entering_below module_role s b = b
entering_below list s b = b
entering_below statement s b = unfold Below in tt
entering_below expression s b = unfold Below in tt
entering_below method s b = b
entering_below constructor s b = b
entering_below (field d) s b = b
entering_below plain s b = b

own_below : (r : Role) (around : Around) (l : Label) (kids : Trees) (s : State) (a : Result) → s.next ≤ (own r around l kids s.default a).after.next →
    Below s.next s.default → Below a.after.next a.after.default →
    Below (own r around l kids s.default a).after.next (own r around l kids s.default a).after.default
unfolding own kept dead_class member
own_below module_role around l kids s a h o b = b
own_below list around l kids s a h o b = b
own_below statement around l kids s a h o b =
    subst (Below (own statement around l kids s.default a).after.next) (sym (class_default (is_live kids) l kids s.default a)) (below_more s.next _ s.default h o)
own_below expression around l kids s a h o b = below_more s.next _ s.default h o
own_below method around l kids s a h o b =
    member_below (around.live && is_decorated_member l kids) around l kids (bare_method a.here) (decorators_of method a.here) (13 ∶ 0) a b
own_below constructor around l kids s a h o b = b
own_below (field d) around l kids s a h o b =
    member_below (around.live && is_decorated_member l kids) around l kids (bare_field a.here) (decorators a.here) d a b
own_below plain around l kids s a h o b = b

pub default_below : (f : Trees) (around : Around) (s : State) → Below s.next s.default → Below (visit around f s).after.next (visit around f s).after.default
unfolding visit ◌then◌ join work since
default_below end around s b = b
default_below (node l k r) around s b =
    let a : Result = visit (inside (role_of l) around k) k (entering (role_of l) s) in
    let o : Result = own (role_of l) around l k s.default a in
    let low : s.next ≤ o.after.next = (counter (node l k end) around s).low in
    let below : Below a.after.next a.after.default = default_below k (inside (role_of l) around k) (entering (role_of l) s) (entering_below (role_of l) s b) in
    default_below r around o.after (own_below (role_of l) around l k s a low b below)

-- a default symbol that was counted
pub counts_default : {ws : List ℕ} {at k : ℕ} {a : Around} {s : State} {r : Counted} → Counts ws at k a s r → Below s.next s.default → Below r.state.next r.state.default
counts_default {ws} {at} {k} {a} {s} c b =
    subst (λ (t : State). Below t.next t.default) c.state (unfold visit_at in default_below (take_f k (records_at ws at)) a s b)

below_small : (m : ℕ) (o : Option ℕ) → m ≤ 67108864 → Below m o → Small o
unfolding Below
below_small m none h b = tt
below_small m (some c) h b = omega arith

-- ---- a plan as it is found

or_small : (o d : Option ℕ) → Small o → Small d → Small (option_or o d)
or_small none d h g = g
or_small (some c) d h g = h

-- its symbols. s: the state behind its children; m: whether rule 6's search finds its symbol
module _ (s : State) (m : Bool) (room : s.next + 1 < 67108864) (few : Small s.default) {g : ClassPlan} (known : Small g.id) where
  -- of a class that isn't decorated
  pub found_undecorated : g.outer ≡ none → g.inner ≡ option_or g.id s.default → g.alias ≡ none → SymbolsOf false (plan_of false g.id s m) g
  unfolding plan_of
  found_undecorated o i a = record {
    outer = o;
    inner = i;
    alias = a;
    sizes = (known, subst Small (sym o) tt, subst Small (sym i) (or_small g.id s.default known few), subst Small (sym a) tt);
  }

  -- of a decorated class with an id
  pub found_named : (c : ℕ) → g.id ≡ some c → g.outer ≡ some c → g.inner ≡ some s.next → g.alias ≡ cond m (some (s.next + 1)) none → SymbolsOf true (plan_of true g.id s m) g
  found_named c e o i a =
      let p : plan_of true g.id s m ≡ record { outer = c; inner = some s.next; alias = cond m (some (suc s.next)) none } = unfold plan_of decorated_plan in rw e in
      record {
        outer = o ∙ ap (λ (q : Plan). some q.outer) (sym p);
        inner = i ∙ ap (λ (q : Plan). q.inner) (sym p);
        alias = a ∙ ap (λ (n : ℕ). cond m (some n) none) (add-one s.next) ∙ ap (λ (q : Plan). q.alias) (sym p);
        sizes = (known, subst Small (sym o) (subst Small e known), subst Small (sym i) (omega arith), subst Small (sym a) (alias_small m));
      }
    where
      alias_small : (b : Bool) → Small (cond b (some (s.next + 1)) none)
      alias_small true = room
      alias_small false = tt

  -- of one without
  pub found_nameless : g.id ≡ none → g.outer ≡ option_or s.default (some s.next) → g.inner ≡ none → g.alias ≡ none → SymbolsOf true (plan_of true g.id s m) g
  found_nameless e o i a =
      let p : plan_of true g.id s m ≡ record { outer = symbol_of s.default (some s.next); inner = none; alias = none } = unfold plan_of decorated_plan in rw e in
      record {
        outer = o ∙ symbol s.default ∙ ap (λ (q : Plan). some q.outer) (sym p);
        inner = i ∙ ap (λ (q : Plan). q.inner) (sym p);
        alias = a ∙ ap (λ (q : Plan). q.alias) (sym p);
        sizes = (known, subst Small (sym o) (or_small s.default (some s.next) few (omega arith)), subst Small (sym i) tt, subst Small (sym a) tt);
      }
    where
      symbol : (d : Option ℕ) → option_or d (some s.next) ≡ some (symbol_of d (some s.next))
      symbol none = unfold symbol_of in refl
      symbol (some d) = unfold symbol_of in refl

-- b: the place of its body; x: whether it is decorated
pub plan_from : {ws : List ℕ} {notes : List Note} {at : ℕ} {s : State} {g : ClassPlan} (b : ℕ) (x : Bool) → kids_at ws b ≡ elements_of (kids_at ws (at + 1)) →
    g.id ≡ id_of (kids_at ws (at + 1)) → x ≡ is_decorated (kids_at ws (at + 1)) → g.private ≡ has_private_in (kids_at ws (at + 1)) → g.fixed ≡ has_static (kids_at ws b) → (g.private ≡ true → g.calls ≡ count_called (kids_at ws b)) →
    SymbolsOf x (plan_of x g.id s (get_or notes at blank).marked) g → PlanFrom ws notes at s g
plan_from {ws} {notes} {at} {s} {g} b x e i d p y c f =
    let m : Bool = (get_or notes at blank).marked in
    record {
      id = i;
      private = p;
      fixed = y ∙ ap has_static e;
      calls = λ t. c t ∙ ap count_called e;
      symbols = subst (λ (z : Bool). SymbolsOf z (plan_of z (id_of (kids_at ws (at + 1))) s m) g) d (subst (λ (o : Option ℕ). SymbolsOf x (plan_of x o s m) g) i f);
    }

-- ---- the calls of a class are those of its decorated members

count_le : (p : Test) (f : Trees) → count_row p f ≤ count_f f
unfolding count_row count_f
count_le p end = omega arith
count_le p (node l k r) = let h : cond (p l k) 1 0 ≤ 1 = one_le (p l k) in omega (arith, count_le p r)
  where
    one_le : (x : Bool) → cond x 1 0 ≤ 1
    one_le true = omega arith
    one_le false = omega arith

pub called_few : (ws : List ℕ) (at k : ℕ) → count_called (take_f k (records_at ws at)) ≤ length ws
unfolding count_called
called_few ws at k =
    omega (arith, count_le is_decorated_member (take_f k (records_at ws at)), count_size (take_f k (records_at ws at)), size_take_drop k (records_at ws at), size_records ws at)

-- in a body without a mark, and past the end
pub called_unmarked : {ws : List ℕ} {notes : List Note} (b : ℕ) → Planned ws notes → b < length ws → (label_at ws b).kind ≡ 29 → (get_or notes b blank).marked ≡ false → 0 ≡ count_called (kids_at ws b)
unfolding count_called
called_unmarked {ws} {notes} b p h kind e = sym (count_none is_decorated_member (kids_at ws b) (sym (p.bodies b h kind) ∙ e))

pub called_past : (ws : List ℕ) (b : ℕ) → length ws ≤ b → 0 ≡ count_called (kids_at ws b)
unfolding count_called count_row
called_past ws b h = rw (kids_past ws b h)

module _ (ws : List ℕ) (whole : Fits (module' ∷ []) (records_at ws 0)) (around : Around) (live : around.live ≡ true) where
  any_word : ℕ → ℕ → ℕ
  any_word k p = 0

  called_one : (at : ℕ) (s : State) → at < length ws → Allowed element (label_at ws at) →
      cond (is_decorated_member (label_at ws at) (kids_at ws at)) 1 0 ≡ count_f (visit_one around (label_at ws at) (kids_at ws at) s).calls
  called_one at s h a = go (is_decorated_member (label_at ws at) (kids_at ws at)) refl
    where
      go : (x : Bool) → is_decorated_member (label_at ws at) (kids_at ws at) ≡ x → cond x 1 0 ≡ count_f (visit_one around (label_at ws at) (kids_at ws at) s).calls
      go true e = sym (call_count any_word ws around whole at h s live e)
      go false e = sym (ap count_f (call_none any_word ws around whole at h s a e) ∙ (unfold count_f in refl))

  called_row : (k at : ℕ) (s : State) → RowFits ws at k (replicate k element) → count_called (take_f k (records_at ws at)) ≡ count_f (visit_at ws at k around s).calls
  called_row zero at s f =
      let l : count_called (take_f 0 (records_at ws at)) ≡ 0 = unfold count_called take_f count_row in refl in
      l ∙ sym (ap (λ (r : Result). count_f r.calls) (row_none ws around at s) ∙ (unfold visit count_f in refl))
  called_row (suc k) at s f =
      let g = row_first ws at k element (replicate k element) f in
      let l : Label = label_at ws at in
      let t : State = (visit_one around l (kids_at ws at) s).after in
      let n : suc k ≡ 1 + k = omega arith in
      let read : count_called (take_f (suc k) (records_at ws at)) ≡ cond (is_decorated_member l (kids_at ws at)) 1 0 + count_called (take_f k (records_at ws (end_of ws at 1))) =
      ap count_called (records_first ws at k g.0) ∙ (unfold count_called count_row in refl) in
      let made : count_f (visit_at ws at (suc k) around s).calls ≡ count_f (visit_one around l (kids_at ws at) s).calls + count_f (visit_at ws (end_of ws at 1) k around t).calls =
      ap (λ (m : ℕ). count_f (visit_at ws at m around s).calls) n ∙ ap count_f (calls_more any_word ws around whole at g.0 s k) ∙ count_f_append _ _ in
      omega (arith, read, made, called_one at s g.0 g.1, called_row k (end_of ws at 1) t g.2)

-- the children of a body are elements
pub body_fits : (ws : List ℕ) (whole : Fits (module' ∷ []) (records_at ws 0)) (b k : ℕ) → b < length ws → (label_at ws b).kind ≡ 29 → k ≡ arity_at ws b → RowFits ws (b + 1) k (replicate k element)
body_fits ws whole b k h kind ke =
    subst (λ (n : ℕ). RowFits ws (b + 1) n (replicate n element)) (sym ke) (elements_row ws b (standing_at ws (module' ∷ []) whole b h) kind)

-- ---- the class statement at `at`

module _ (ws : List ℕ) (whole : Fits (module' ∷ []) (records_at ws 0)) (at : ℕ) (h : at < length ws) (kind : (label_at ws at).kind ≡ 4) (n : ℕ) where
  elements_fit : RowFits ws (body_at ws at + 1) (arity_at ws (body_at ws at)) (replicate (arity_at ws (body_at ws at)) element)
  elements_fit = body_fits ws whole (body_at ws at) (arity_at ws (body_at ws at)) (body_in ws whole at h kind) (body_kind ws whole at h kind) refl

  scope_live : (scope ws at).live ≡ true
  unfolding scope
  scope_live = refl

  pub calls_queued : count_called (elements_of (rk ws at)) ≡ count_f (queue ws at n)
  unfolding queue kids_at
  calls_queued =
      let b : ℕ = body_at ws at in
      ap count_called (own_elements ws whole at h kind) ∙ called_row ws whole (scope ws at) scope_live (arity_at ws b) (b + 1) (at_body ws at n) elements_fit

  elements_from_lem : elements_from ws at n ≡ els ws at n
  unfolding elements_from scope rk
  elements_from_lem = elements_visited ws whole at h kind n

plan_search : (x : Bool) (id : Option ℕ) (t : State) (m k : Bool) → (x ≡ true → m ≡ k) → plan_of x id t m ≡ plan_of x id t k
plan_search true id t m k e = ap (plan_of true id t) (e refl)
plan_search false id t m k e = unfold plan_of in refl

-- the class visited, by its id
class_visit : (ws : List ℕ) (at n : ℕ) (id : Option ℕ) → id ≡ id_of (kids_at ws (at + 1)) → (visit_at ws (at + 1) 1 (record { live = true; id = id }) (begun n)).after ≡ at_end ws at n
unfolding at_end fresh scope rk
class_visit ws at n id known = ap (λ (o : Option ℕ). (visit_at ws (at + 1) 1 (record { live = true; id = o }) (begun n)).after) known

module _ {ws : List ℕ} {notes : List Note} {at n : ℕ} (f : Ready ws notes at n) (h : at < length ws) (kind : (label_at ws at).kind ≡ 4) (live : is_live (take_f 1 (records_at ws (at + 1))) ≡ true)
    (id : Option ℕ) (known : id ≡ id_of (kids_at ws (at + 1))) {r : Counted} (c : Counts ws (at + 1) 1 (record { live = true; id = id }) (begun n) r) where
  -- the state behind the class's children
  end_state : at_end ws at n ≡ r.state
  end_state = sym (class_visit ws at n id known) ∙ c.state

  pub plan_next : r.state.next + 1 < 67108864
  plan_next = omega (arith, counts_high c, counts_within c (omega arith), f.room)

  pub plan_default : Small r.state.default
  plan_default = below_small r.state.next r.state.default (omega (arith, plan_next)) (counts_default c (unfold Below in tt))

  -- the table has rule 6's search
  search : is_decorated (rk ws at) ≡ true → (get_or notes at blank).marked ≡ mentioned (id_of (rk ws at)) (els ws at n)
  unfolding rk
  search e =
      f.planned.right at n h kind live e (f.ids (at + 1) (class_kind ws f.whole at h kind))
      ∙ ap (mentioned (id_of (kids_at ws (at + 1)))) (elements_from_lem ws f.whole at h kind n)

  planned : plan_of (is_decorated (rk ws at)) (id_of (rk ws at)) r.state (get_or notes at blank).marked ≡ plan ws at n
  unfolding plan
  planned =
      ap (λ (t : State). plan_of (is_decorated (rk ws at)) (id_of (rk ws at)) t (get_or notes at blank).marked) (sym end_state)
      ∙ plan_search (is_decorated (rk ws at)) (id_of (rk ws at)) (at_end ws at n) (get_or notes at blank).marked (mentioned (id_of (rk ws at)) (els ws at n)) search

  pub plans : {g : ClassPlan} → PlanFrom ws notes at r.state g → Plans ws at n g
  plans {g} p = record {
    id = unfold rk in p.id;
    private = unfold rk in p.private;
    fixed = unfold rk in p.fixed;
    calls = λ t. p.calls t ∙ (unfold rk in calls_queued ws f.whole at h kind n);
    symbols = subst (λ (q : Plan). SymbolsOf (is_decorated (rk ws at)) q g) planned (unfold rk in p.symbols);
  }

-- ---- a class with an id: neither its plan nor rule 6's symbols depend on its default symbol

plan_named : (x : Bool) (id : Option ℕ) (s t : State) (m : Bool) → is_some id ≡ true → s.next ≡ t.next → plan_of x id s m ≡ plan_of x id t m
unfolding plan_of decorated_plan symbol_of
plan_named x none s t m h e = absurd (true≢false (sym h))
plan_named true (some c) s t m h e = rw e
plan_named false (some c) s t m h e = refl

count_named : (x : Bool) (id : Option ℕ) (m a b : Bool) → is_some id ≡ true → class_count x id m a ≡ class_count x id m b
unfolding class_count
count_named x none m a b h = absurd (true≢false (sym h))
count_named true (some c) true a b h = refl
count_named true (some c) false a b h = refl
count_named false (some c) m a b h = refl

module _ {ws : List ℕ} {notes : List Note} {at n : ℕ} (f : Ready ws notes at n) (h : at < length ws) (kind : (label_at ws at).kind ≡ 4) (live : is_live (take_f 1 (records_at ws (at + 1))) ≡ true)
    (id : Option ℕ) (known : id ≡ id_of (kids_at ws (at + 1))) (named : is_some id ≡ true) where
  -- the class, counted
  visited : Counts ws (at + 1) 1 (record { live = true; id = id }) (begun n) (record { at = end_of ws (at + 1) 1; state = at_end ws at n })
  visited = record { place = refl; state = class_visit ws at n id known }

  pub named_room : (at_end ws at n).next + 1 < 67108864
  named_room = plan_next f h kind live id known visited

  -- the statement's symbols are its class's, then rule 6's
  pub named_symbols_lem : Annotated ws notes at →
      n + (get_or notes at blank).count ≡ (at_end ws at n).next + class_count (is_decorated (kids_at ws (at + 1))) id (get_or notes at blank).marked false
  unfolding fresh
  named_symbols_lem noted =
      let x : Bool = is_decorated (kids_at ws (at + 1)) in
      let m : Bool = (get_or notes at blank).marked in
      let counted = count_live f h unlive none kind (record { live = true; id = id }) _ refl known live visited (class_symbols x id m (at_end ws at n) _ refl) in
      let said = (note_at ws notes at noted h).count unlive (begun n) refl (ready_free f) in
      ap (λ (t : State). t.next) (sym said.state ∙ counted.state) ∙ ap ((at_end ws at n).next +◌) (count_named x id m (is_some (at_end ws at n).default) false named)

  -- the state behind its children, without the default symbol
  pub plans_named : {s : State} {g : ClassPlan} → s.next ≡ (at_end ws at n).next → PlanFrom ws notes at s g → Plans ws at n g
  plans_named {s} {g} e p =
      plans f h kind live id known visited record {
        id = p.id;
        private = p.private;
        fixed = p.fixed;
        calls = p.calls;
        symbols = subst (λ (q : Plan). SymbolsOf (is_decorated (kids_at ws (at + 1))) q g)
            (plan_named (is_decorated (kids_at ws (at + 1))) (id_of (kids_at ws (at + 1))) s (at_end ws at n) (get_or notes at blank).marked (ap is_some (sym known) ∙ named) e) p.symbols;
      }
