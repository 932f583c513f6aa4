-- Demand 3 of one module, and wrong rewritings of it that the statement rules out, whatever the report. Assumes nothing.
use Rattle.std.specs.Prelude.{◌≡◌, Bool, false, cond, List, [], ◌∷◌, ℕ, zero, suc, ◌≤◌, get_or}
use Rattle.std.proofs.Math.Path.{refl, ap, sym}
use Rattle.std.proofs.Common.{◌∙◌, subst, true≢false, arith, eq-eqb}
use Rattle.std.proofs.Math.Bool.{true, or-true}
use Rattle.std.specs.declared.option.Option.{Option}
use Rattle.std.specs.declared.option.Option.TheVariants.{None as none, Some as some}
use Rattle.std.proofs.Math.Dec.{eqb}
use Rattle.records.specs.Forest.{end, node, take_f, drop_f, append_f, count_f, any_f, append_f_end, append_f_assoc}
use Rattle.records.specs.Label.{Label, made, read, Trees, ◌∶◌, is, words}
use Rattle.grammar.specs.Scan.{symbols_of}
use Rattle.rewriting.specs.Parts.{tree, is_decorated_member, elements_of, is_decorated_class}
use Rattle.rewriting.specs.Visit.{Key, prefix, member_call, assignment, export, outermost, module_of, visit_words}
use Rattle.rewriting.specs.Demand.{Has, first, below, behind as further, same, taken, is_at, count_at, dropped_at, dropped, searched, both, reaching, through_all, constructors, is_list, statements_of, Calls, CallIf, Assigned, Listed, Behind, Found, Demand}
use Rattle.rewriting.specs.Answer.{turned_back, module_words}
use Rattle.rewriting.specs.Computed.{computed as answered}
use Rattle.rewriting.specs.DemandWords.{Same, DemandWords}
use Rattle.rewriting.proofs.DemandReach.{unique}
use Rattle.rewriting.proofs.DemandAccepted.{demand_words}
use Rattle.rewriting.proofs.DemandArrays.{entry, entries, array_in, arrays, of_members, arrays_hold}

-- unfolds all that the rewriting and the statement are made of
unfoldable pub computed : Unit {0}
unfolding answered same taken is_at count_at dropped_at dropped searched both reaching through_all constructors is_list statements_of entry entries array_in arrays of_members
computed = tt

-- `export @a class C { @b m() {} @c [k] }  class D { @d static q }`, with a, b, c, d, C, D, k as 0 to 6
unfoldable example : List ℕ
example = words (
    1 ∶ 2 ∷ 40 ∶ 7 ∷ 4 ∶ 1 ∷ 26 ∶ 1 ∷ 28 ∶ 1 ∷ 9 ∶ 0 ∷ 27 ∶ 4 ∷ 29 ∶ 2 ∷ 30 ∶ 4 ∷ 28 ∶ 1 ∷ 9 ∶ 1 ∷ 34 ∶ 5 ∷ 36 ∶ 0 ∷ 39 ∶ 0 ∷ 31 ∶ 0 ∷ 28 ∶ 1 ∷ 9 ∶ 2 ∷ 9 ∶ 6 ∷
    4 ∶ 0 ∷ 26 ∶ 1 ∷ 28 ∶ 0 ∷ 27 ∶ 5 ∷ 29 ∶ 1 ∷ 31 ∶ 1 ∷ 28 ∶ 1 ∷ 9 ∶ 3 ∷ 34 ∶ 8 ∷ [])

-- the word kind:payload, read at i
abbrev pub at : ℕ → ℕ → ℕ → Label
at i k p = record { kind = k; payload = p; from = read i }

abbrev pub leaf : Label → Trees
leaf l = node l end end

abbrev class_C : Trees
class_C =
    node (at 4 28 1) (leaf (at 5 9 0)) (node (at 6 27 4) end (node (at 7 29 2)
    (node (at 8 30 4) (node (at 9 28 1) (leaf (at 10 9 1)) (node (at 11 34 5) end (node (at 12 36 0) end (leaf (at 13 39 0)))))
    (node (at 14 31 0) (node (at 15 28 1) (leaf (at 16 9 2)) (leaf (at 17 9 6))) end)) end))

abbrev class_D : Trees → Trees
class_D decorators = node (at 20 28 0) end (node (at 21 27 5) end (node (at 22 29 1) (node (at 23 31 1) (append_f decorators (leaf (at 26 34 8))) end) end))

abbrev statements : Trees
statements = node (at 2 4 1) (node (at 3 26 1) class_C end) (node (at 18 4 0) (node (at 19 26 1) (class_D (node (at 24 28 1) (leaf (at 25 9 3)) end)) end) end)

abbrev read_module : Trees
read_module = node (at 0 1 2) (node (at 1 40 7) end statements) end

built : module_of example ≡ read_module
unfolding example computed
built = refl

-- ---- demand 3 holds of it

accepted : turned_back example ≡ 0
unfolding example computed
accepted = refl

holds : DemandWords example (module_words example)
holds = demand_words example accepted

-- ---- what it becomes, and other rewritings of it

-- the let of C, with `behind` behind it; the module then has n statements
abbrev became : ℕ → Trees → Trees
became n behind =
    node (at 0 1 n) (node (at 1 40 9) end (node (at 2 5 4) (tree (20 ∶ 0) (node (at 3 26 1) (node (at 4 28 0) end (node (at 6 27 8) end (node (at 7 29 2)
    (node (at 8 30 4) (node (at 9 28 0) end (node (at 11 34 5) end (node (at 12 36 0) end (leaf (at 13 39 0)))))
    (node (at 14 31 0) (node (at 15 28 0) end (node (18 ∶ 7) (leaf (at 17 9 6)) end)) end)) end))) end)) behind)) end

abbrev call_m : Trees
call_m = member_call (leaf (at 10 9 1)) (prefix 4 false) (leaf (10 ∶ 5)) (13 ∶ 0)

-- with the name 9:n
abbrev call_k : ℕ → Trees
call_k n = member_call (leaf (at 16 9 2)) (prefix 4 false) (leaf (9 ∶ n)) (14 ∶ 0)

abbrev assign_C : Trees
assign_C = assignment 4 none (leaf (at 5 9 0))

abbrev export_C : Trees
export_C = leaf (6 ∶ 4)

abbrev call_q : Trees
call_q = member_call (leaf (at 25 9 3)) (prefix 5 true) (leaf (10 ∶ 8)) (14 ∶ 0)

-- D with these children of q's 28, and what is behind it
abbrev D-and : ℕ → Trees → Trees → Trees
D-and n decorators behind = node (at 18 4 0) (node (at 19 26 1) (class_D (node (at 24 28 n) decorators end)) end) behind

abbrev and : Trees → Trees → Trees
and f g = append_f f g

right : (visit_words 7 example).here ≡ became 7 (and call_m (and (call_k 7) (and assign_C (and export_C (D-and 0 end call_q)))))
unfolding example computed
right = refl

-- the children of the first record
unfoldable pub first_kids : Trees → Trees
first_kids end = end
first_kids (node l k r) = k

unfoldable first_kind : Trees → ℕ
first_kind end = 0
first_kind (node l k r) = l.kind

unfoldable pub first_payload_of : Trees → ℕ
first_payload_of end = 0
first_payload_of (node l k r) = l.payload

-- ---- what is put in is made, so what stands before and behind D's statement is known

abbrev AllMade : Trees → Type 0
AllMade end = Unit {0}
AllMade (node l k r) = (l.from ≡ made) × AllMade r

made_append : (f g : Trees) → AllMade f → AllMade g → AllMade (append_f f g)
unfolding append_f
made_append end g h k = k
made_append (node l j r) g h k = (h.0, made_append r g h.1 k)

module _ (report : List Label) (c : ℕ) (alias : Option ℕ) (ok : Trees) where
  call_made : (b : Bool) (e : Label) (ek calls : Trees) → CallIf report c alias ok b e ek calls → AllMade calls
  call_made false e ek calls h = subst AllMade (sym h) tt
  call_made true e ek calls h = subst AllMade (sym h.2) (unfold member_call tree ◌∶◌ in (refl, tt))

  calls_made : (els calls : Trees) → Calls report c alias ok els calls → AllMade calls
  calls_made end calls h = subst AllMade (sym h) tt
  calls_made (node e ek els) calls h = subst AllMade (sym h.2) (made_append h.0 h.1 (call_made (is_decorated_member e ek) e ek h.0 h.3) (calls_made els h.1 h.4))

  assigned_made : (b : Bool) (ds ps put : Trees) → Assigned report c alias ok b ds ps put → AllMade put
  assigned_made false ds ps put h = subst AllMade (sym h) tt
  assigned_made true ds ps put h = subst AllMade (sym h.2) (unfold assignment tree ◌∶◌ in (refl, tt))

export_made : (b : Bool) (p c : ℕ) → AllMade (cond b (export p c) end)
unfolding export tree ◌∶◌
export_made false p c = tt
export_made true zero c = tt
export_made true (suc zero) c = (refl, tt)
export_made true (suc (suc p)) c = (refl, tt)

put_made : (report : List Label) (l : Label) (ck : Trees) (o : Label) (ok put : Trees) → Behind report l ck o ok put → AllMade put
put_made report l ck o ok put h =
    subst AllMade (sym h.whole) (made_append h.calls _ (calls_made report h.symbol _ ok (elements_of ck) h.calls h.called)
    (made_append h.assigned _ (assigned_made report h.symbol _ ok (is_decorated_class ck) _ _ h.assigned h.assign) (export_made (is 5 o) l.payload h.symbol)))

-- the records before the one read at i, and those behind it
unfoldable before : ℕ → Trees → Trees
before i end = end
before i (node l k r) = cond (same (read i) l.from) end (node l k (before i r))

unfoldable after : ℕ → Trees → Trees
after i end = end
after i (node l k r) = cond (same (read i) l.from) r (after i r)

before_append : (i : ℕ) (f : Trees) (o : Label) (k x : Trees) → AllMade f → same (read i) o.from ≡ true → before i (append_f f (node o k x)) ≡ f
unfolding before append_f same
before_append i end o k x h e = rw e
before_append i (node l j r) o k x h e =
    ap (λ (b : Bool). cond b end (node l j (before i (append_f r (node o k x))))) (ap (same (read i)) h.0) ∙ ap (node l j) (before_append i r o k x h.1 e)

after_append : (i : ℕ) (f : Trees) (o : Label) (k x : Trees) → AllMade f → same (read i) o.from ≡ true → after i (append_f f (node o k x)) ≡ x
unfolding after append_f same
after_append i end o k x h e = rw e
after_append i (node l j r) o k x h e = ap (λ (b : Bool). cond b (append_f r (node o k x)) (after i (append_f r (node o k x)))) (ap (same (read i)) h.0) ∙ after_append i r o k x h.1 e

-- ---- by the statement alone: what became of a module's own list

record Own (rs : List Label) (ss out : Trees) : Type 0 where
  label : Label
  kids : Trees
  there : Has label kids out
  from : label.from ≡ read 0
  kind : label.kind ≡ 1
  listed : Listed rs ss (drop_f 1 kids)

own_list : (l s : Label) (sk ss out : Trees) (rs : List Label) → Demand (node l (node s sk ss) end) out rs → l.kind ≡ 1 → l.from ≡ read 0 →
    count_at 0 (dropped outermost (node l (node s sk ss) end)) ≡ 0 → reaching rs 0 (node l (node s sk ss) end) ≡ [] → Own rs ss out
unfolding is_list is statements_of drop_f through_all
own_list l s sk ss out rs d one zero' stays reached =
    let f : Found (node l (node s sk ss) end) out rs 0 l (node s sk ss) = d.lists l (node s sk ss) 0 first (rw one) zero' stays in
    let first-gone : (k : Trees) → cond (eqb l.kind 1) (drop_f 1 k) k ≡ drop_f 1 k = λ k. rw one in
    let k : drop_f 1 f.kids ≡ f.statements = sym (first-gone f.kids) ∙ f.through ∙ ap (λ (x : List (ℕ × ℕ)). through_all x f.statements) reached in
    record {
      label = f.label;
      kids = f.kids;
      there = f.there;
      from = f.origin;
      kind = f.kind ∙ one;
      listed = rw k (subst (λ (g : Trees). Listed rs g f.statements) (first-gone (node s sk ss)) f.listed);
    }

-- of a rewriting whose module is (m, j)
pub module_listed : (l s : Label) (sk ss out : Trees) (rs : List Label) → Demand (node l (node s sk ss) end) out rs → l.kind ≡ 1 → l.from ≡ read 0 →
    count_at 0 (dropped outermost (node l (node s sk ss) end)) ≡ 0 → reaching rs 0 (node l (node s sk ss) end) ≡ [] →
    (m : Label) (j : Trees) → Has m j out → m.from ≡ read 0 → count_at 0 out ≤ 1 → Listed rs ss (drop_f 1 j)
module_listed l s sk ss out rs d one zero' stays reached m j there from once =
    let o : Own rs ss out = own_list l s sk ss out rs d one zero' stays reached in
    subst (λ (k : Trees). Listed rs ss (drop_f 1 k)) (sym (unique 0 o.label m o.kids j out o.there there o.from from once).1) o.listed

-- ---- what is behind C and behind D

abbrev l_C : Label
l_C = at 2 4 1

abbrev l_D : Label
l_D = at 18 4 0

abbrev read_D : Trees
read_D = class_D (node (at 24 28 1) (leaf (at 25 9 3)) end)

-- behind C, the statement of D, and behind that
record Parts (rs : List Label) (os : Trees) : Type 0 where
  o : Label
  ok : Trees
  put : Trees
  p : Label
  pk : Trees
  more : Trees
  whole : os ≡ node o ok (append_f put (node p pk more))
  from : (o.from ≡ read 2) × (p.from ≡ read 18)
  C : Behind rs l_C class_C o ok put
  D : Behind rs l_D read_D p pk more

parts : (rs : List Label) (os : Trees) → Listed rs statements os → Parts rs os
unfolding computed
parts rs os h = record {
  o = h.0;
  ok = h.1;
  put = h.2;
  p = h.7.0;
  pk = h.7.1;
  more = h.7.2;
  whole = h.4 ∙ ap (λ f. node h.0 h.1 (append_f h.2 f)) (h.7.4 ∙ ap (node h.7.0 h.7.1) (ap (append_f h.7.2) h.7.7 ∙ append_f_end h.7.2));
  from = (h.5, h.7.5);
  C = h.6.1;
  D = h.7.6.1;
}

-- the kind of the last record, d if there is none
unfoldable last_kind : ℕ → Trees → ℕ
last_kind d end = d
last_kind d (node l k r) = last_kind l.kind r

last_append : (d : ℕ) (f : Trees) (l : Label) (k : Trees) → last_kind d (append_f f (node l k end)) ≡ l.kind
unfolding last_kind append_f
last_append d end l k = refl
last_append d (node a b r) l k = last_append a.kind r l k

-- of a rewriting that is right but for what is behind the let
module _ (n : ℕ) (behind : Trees) (rs : List Label) (d : Demand read_module (became n behind) rs) (once : count_at 0 (became n behind) ≤ 1) where
  mine : Parts rs (node (at 2 5 4) (first_kids (drop_f 1 (first_kids (became n behind)))) behind)
  unfolding computed first_kids
  mine = parts rs _ (module_listed (at 0 1 2) (at 1 40 7) end statements (became n behind) rs d refl refl refl refl _ _ first refl once)

  split : behind ≡ append_f mine.put (node mine.p mine.pk mine.more)
  unfolding drop_f
  split = ap (drop_f 1) mine.whole

  is_D : same (read 18) mine.p.from ≡ true
  unfolding same
  is_D = ap (same (read 18)) mine.from.1

  put_is : before 18 behind ≡ mine.put
  put_is = ap (before 18) split ∙ before_append 18 mine.put mine.p mine.pk mine.more (put_made rs l_C class_C mine.o mine.ok mine.put mine.C) is_D

  more_is : after 18 behind ≡ mine.more
  more_is = ap (after 18) split ∙ after_append 18 mine.put mine.p mine.pk mine.more (put_made rs l_C class_C mine.o mine.ok mine.put mine.C) is_D

  -- behind C: the arrays hold what was read at 10, 16 and 5, and the export is the last
  must_C : arrays (before 18 behind) ≡ 10 ∷ 16 ∷ 5 ∷ []
  unfolding computed
  must_C = ap arrays put_is ∙ arrays_hold rs l_C class_C mine.o mine.ok mine.put mine.C

  must_export : last_kind 0 (before 18 behind) ≡ 6
  unfolding computed
  must_export =
      let b : Behind rs l_C class_C mine.o mine.ok mine.put = mine.C in
      let five : is 5 mine.o ≡ true = ap (λ (k : ℕ). eqb k 5) b.became in
      ap (last_kind 0) (put_is ∙ b.whole ∙ ap (λ (x : Bool). append_f b.calls (append_f b.assigned (cond x (export 1 b.symbol) end))) five ∙ sym (append_f_assoc b.calls b.assigned (leaf (6 ∶ b.symbol))))
      ∙ last_append 0 (append_f b.calls b.assigned) (6 ∶ b.symbol) end

  -- four statements: a call for each of the two members, the assignment and the export
  must_count : count_f (before 18 behind) ≡ 4
  unfolding computed
  must_count =
      let b : Behind rs l_C class_C mine.o mine.ok mine.put = mine.C in
      let five : is 5 mine.o ≡ true = ap (λ (k : ℕ). eqb k 5) b.became in
      let m = b.called in
      let k = m.4 in
      ap count_f (put_is ∙ b.whole) ∙ rw (m.2, m.3.2, k.2, k.3.2, k.4, b.assign.2, five)

  -- behind D: one array with what was read at 25
  must_D : arrays (after 18 behind) ≡ 25 ∷ []
  unfolding computed
  must_D = ap arrays more_is ∙ arrays_hold rs l_D read_D mine.p mine.pk mine.more mine.D

-- ---- the same records, wherever they come from

same_first : (l : Label) (k r f : Trees) → Same (node l k r) f → first_kind f ≡ l.kind
unfolding Same first_kind
same_first l k r end h = absurd h
same_first l k r (node m j s) h = sym h.0

same_behind : (l : Label) (k r f : Trees) → Same (node l k r) f → Same r (drop_f 1 f)
unfolding Same drop_f
same_behind l k r end h = absurd h
same_behind l k r (node m j s) h = h.3

has_kind : (n : ℕ) (f t : Trees) (m : Label) (j : Trees) → Same f t → Has m j t → m.kind ≡ n → any_f (is n) f ≡ true
unfolding Same any_f is
has_kind n end end m j h x e = elim x [ ]
has_kind n end (node a b s) m j h x e = absurd h
has_kind n (node l k r) end m j h x e = absurd h
has_kind n (node l k r) (node a b s) m j h first e = rw (eq-eqb l.kind n (h.0 ∙ e))
has_kind n (node l k r) (node a b s) m j h (below x) e = rw (has_kind n k b m j h.2 x e, or-true)
has_kind n (node l k r) (node a b s) m j h (further x) e = rw (has_kind n r s m j h.3 x e, or-true)

-- the only record of kind n is the first
same_kids : (n : ℕ) (l : Label) (k t : Trees) (m : Label) (j : Trees) → any_f (is n) k ≡ false → Same (node l k end) t → Has m j t → m.kind ≡ n → Same k j
unfolding Same
same_kids n l k end m j only h x e = absurd h
same_kids n l k (node a b s) m j only h first e = h.2
same_kids n l k (node a b s) m j only h (below x) e = absurd (true≢false (sym (has_kind n k b m j h.2 x e) ∙ only))
same_kids n l k (node a b end) m j only h (further x) e = elim x [ ]
same_kids n l k (node a b (node c d t)) m j only h (further x) e = absurd h.3

-- ---- wrong rewritings

-- the second call is missing
call_missing : (rs : List Label) → Demand read_module (became 6 (and call_m (and assign_C (and export_C (D-and 0 end call_q))))) rs → ⊥
unfolding computed before
call_missing rs d =
    let e : ◌≡◌ {A = ℕ} 5 16 = ap (λ (xs : List ℕ). get_or xs 1 0) (must_C 6 (and call_m (and assign_C (and export_C (D-and 0 end call_q)))) rs d (omega arith)) in
    omega (arith, e)

-- the two calls are swapped
calls_swapped : (rs : List Label) → Demand read_module (became 7 (and (call_k 7) (and call_m (and assign_C (and export_C (D-and 0 end call_q)))))) rs → ⊥
unfolding computed before
calls_swapped rs d =
    let e : ◌≡◌ {A = ℕ} 16 10 = ap (λ (xs : List ℕ). get_or xs 0 0) (must_C 7 (and (call_k 7) (and call_m (and assign_C (and export_C (D-and 0 end call_q))))) rs d (omega arith)) in
    omega (arith, e)

-- the export is before the assignment
export_first : (rs : List Label) → Demand read_module (became 7 (and call_m (and (call_k 7) (and export_C (and assign_C (D-and 0 end call_q)))))) rs → ⊥
unfolding computed before last_kind
export_first rs d =
    let e : ◌≡◌ {A = ℕ} 2 6 = must_export 7 (and call_m (and (call_k 7) (and export_C (and assign_C (D-and 0 end call_q))))) rs d (omega arith) in
    omega (arith, e)

-- the call for D's member is moved up, before D
call_moved : (rs : List Label) → Demand read_module (became 7 (and call_m (and (call_k 7) (and assign_C (and export_C (and call_q (D-and 0 end end))))))) rs → ⊥
unfolding computed before last_kind
call_moved rs d =
    let e : ◌≡◌ {A = ℕ} 2 6 = must_export 7 (and call_m (and (call_k 7) (and assign_C (and export_C (and call_q (D-and 0 end end)))))) rs d (omega arith) in
    omega (arith, e)

-- the decorators of both members are joined in one call
calls_joined : (rs : List Label) →
    Demand read_module (became 6 (and (member_call (node (at 10 9 1) end (leaf (at 16 9 2))) (prefix 4 false) (leaf (10 ∶ 5)) (13 ∶ 0)) (and assign_C (and export_C (D-and 0 end call_q))))) rs → ⊥
unfolding computed before
calls_joined rs d =
    let joined : Trees = member_call (node (at 10 9 1) end (leaf (at 16 9 2))) (prefix 4 false) (leaf (10 ∶ 5)) (13 ∶ 0) in
    let e : ◌≡◌ {A = ℕ} 3 4 = must_count 6 (and joined (and assign_C (and export_C (D-and 0 end call_q)))) rs d (omega arith) in
    omega (arith, e)

-- only the first class is rewritten
only_first : (rs : List Label) → Demand read_module (became 6 (and call_m (and (call_k 7) (and assign_C (and export_C (D-and 1 (leaf (at 25 9 3)) end)))))) rs → ⊥
unfolding computed after
only_first rs d =
    let e : ◌≡◌ {A = ℕ} 0 25 = ap (λ (xs : List ℕ). get_or xs 0 0) (must_D 6 (and call_m (and (call_k 7) (and assign_C (and export_C (D-and 1 (leaf (at 25 9 3)) end))))) rs d (omega arith)) in
    omega (arith, e)

-- the module is copied through, whatever origins its words are given
copied : (t : Trees) (rs : List Label) → Same read_module t → Demand read_module t rs → ⊥
unfolding computed first_kind
copied t rs h d =
    let o : Own rs statements t = own_list (at 0 1 2) (at 1 40 7) end statements t rs d refl refl refl refl in
    let p : Parts rs (drop_f 1 o.kids) = parts rs (drop_f 1 o.kids) o.listed in
    let b : Behind rs l_C class_C p.o p.ok p.put = p.C in
    let k : Same statements (drop_f 1 o.kids) = same_behind (at 1 40 7) end statements o.kids (same_kids 1 (at 0 1 2) _ t o.label o.kids refl h o.there o.kind) in
    let e : ◌≡◌ {A = ℕ} 4 5 = sym (same_first (at 2 4 1) _ _ _ k) ∙ ap first_kind p.whole ∙ b.became in
    omega (arith, e)

copied_words : DemandWords example example → ⊥
copied_words d =
    copied d.written (visit_words (symbols_of example) example).fresh (subst (λ f. Same f d.written) built d.same)
    (subst (λ f. Demand f d.written (visit_words (symbols_of example) example).fresh) built d.demand)

-- a dropped decorator is still there: `declare class C { @a p }`, a and C as 0 and 1
abbrev declared : Trees
declared =
    node (at 0 1 1) (node (at 1 40 2) end (node (at 2 4 0) (node (at 3 26 3) (node (at 4 28 0) end (node (at 5 27 1) end (node (at 6 29 1)
    (node (at 7 31 0) (node (at 8 28 1) (leaf (at 9 9 0)) (leaf (at 10 34 5))) end) end))) end) end)) end

dropped_kept : (rs : List Label) → Demand declared declared rs → ⊥
unfolding computed
dropped_kept rs d = let e : ◌≡◌ {A = ℕ} 1 0 = d.once 9 in omega (arith, e)

-- the call of a computed key names another symbol than the one that the report has for it
name_in : Trees → Trees
name_in f = take_f 1 (drop_f 2 (first_kids (first_kids (drop_f 1 f))))

second_name : (rs : List Label) (o : Label) (ok put : Trees) → Behind rs l_C class_C o ok put → taken Key (read 14) rs ≡ some 7 → name_in put ≡ leaf (9 ∶ 7)
unfolding computed name_in first_kids
second_name rs o ok put b e =
    let m = b.called in
    let k = m.4 in
    let name = k.3.4 in
    let same-symbol : name.0 ≡ 7 = cc (name.3, e) in
    rw (b.whole, m.2, m.3.2, k.2, k.3.2, name.4, same-symbol)

name_other : Demand read_module (became 7 (and call_m (and (call_k 8) (and assign_C (and export_C (D-and 0 end call_q)))))) (visit_words 7 example).fresh → ⊥
unfolding example computed before name_in first_kids first_payload_of
name_other d =
    let rs : List Label = (visit_words 7 example).fresh in
    let put : Trees = and call_m (and (call_k 8) (and assign_C (and export_C (D-and 0 end call_q)))) in
    let h : Parts rs _ = mine 7 put rs d (omega arith) in
    let e : ◌≡◌ {A = ℕ} 8 7 = ap first_payload_of (ap name_in (put_is 7 put rs d (omega arith)) ∙ second_name rs h.o h.ok h.put h.C refl) in
    omega (arith, e)
