-- What demand 3's statement says of the arrays, as one list: the places where their entries were read. Assumes nothing.
use Rattle.std.specs.Prelude.{◌≡◌, Bool, cond, not, ◌&&◌, ◌||◌, List, [], ◌∷◌, ◌++◌, ℕ, zero, suc}
use Rattle.std.proofs.Math.Path.{refl, ap, sym}
use Rattle.std.proofs.Common.{◌∙◌, true≢false, append-nil, append_assoc}
use Rattle.std.proofs.Math.Bool.{true, false}
use Rattle.std.proofs.lemmas.Bool.{false≢true}
use Rattle.std.specs.declared.option.Option.{Option}
use Rattle.std.specs.declared.option.Option.TheVariants.{None as none, Some as some}
use Rattle.records.specs.Forest.{end, node, append_f, map_f}
use Rattle.records.specs.Label.{Label, Origin, made, read, Trees, ◌∶◌, is}
use Rattle.rewriting.specs.Parts.{tree, is_empty, role_of, decorators, decorators_of, is_member, is_decorated_member, elements_of, first_constructor, is_decorated_class}
use Rattle.rewriting.specs.Visit.{array, member_call, to_alias, renamed, aliased, assignment, export}
use Rattle.rewriting.specs.Demand.{Below, AsVisited, CallIf, Calls, Assigned, Behind}
use Rattle.rewriting.proofs.DemandRenaming.{alias_from}

-- ---- the entries of an array: where each was read; under a 23, which is made, where its expression was

unfoldable pub entry : Origin → List ℕ → List ℕ
entry made below = below
entry (read i) below = i ∷ []

unfoldable pub entries : Trees → List ℕ
entries end = []
entries (node l k r) = entry l.from (entries k) ++ entries r

-- the array of a statement that was put in: down the first children
unfoldable pub array_in : Trees → List ℕ
array_in end = []
array_in (node l k r) = cond (is 16 l) (entries k) (array_in k)

-- the entries of all arrays of the statements, in order
unfoldable pub arrays : Trees → List ℕ
arrays end = []
arrays (node l k r) = array_in k ++ arrays r

-- the decorators of all members and their parameters, in word order
unfoldable pub of_members : Trees → Trees
of_members end = end
of_members (node e ek r) = append_f (cond (is_member e) (decorators_of (role_of e) ek) end) (of_members r)

two : {a b x y : List ℕ} → a ≡ b → x ≡ y → (a ++ x) ≡ (b ++ y)
two p q = cc

entries_append : (f g : Trees) → entries (append_f f g) ≡ entries f ++ entries g
unfolding entries append_f
entries_append end g = refl
entries_append (node l k r) g = ap (entry l.from (entries k) ++◌) (entries_append r g) ∙ sym (append_assoc (entry l.from (entries k)) (entries r) (entries g))

arrays_append : (f g : Trees) → arrays (append_f f g) ≡ arrays f ++ arrays g
unfolding arrays append_f
arrays_append end g = refl
arrays_append (node l k r) g = ap (array_in k ++◌) (arrays_append r g) ∙ sym (append_assoc (array_in k) (arrays r) (arrays g))

-- the visit leaves them
below_entry : (o : Origin) (A : Type 0) (k j : Trees) → Below o A k j → (A → entries j ≡ entries k) → entry o (entries j) ≡ entry o (entries k)
unfolding entry
below_entry made A k j v h = h v
below_entry (read i) A k j v h = refl

each_entries : (f g : Trees) → AsVisited f g → entries g ≡ entries f
unfolding entries
each_entries end end h = refl
each_entries end (node m j g) h = absurd h
each_entries (node l k f) end h = absurd h
each_entries (node l k f) (node m j g) h =
    two (ap (λ (x : Label). entry x.from (entries j)) h.0 ∙ below_entry l.from (AsVisited k j) k j h.1 (each_entries k j)) (each_entries f g h.2)

-- and so does the alias rule
alias_entries : (c b : ℕ) (f : Trees) → entries (map_f (to_alias c b) f) ≡ entries f
unfolding entries map_f
alias_entries c b end = refl
alias_entries c b (node l k r) =
    two (ap (λ (o : Origin). entry o (entries (map_f (to_alias c b) k))) (alias_from c b l) ∙ ap (entry l.from) (alias_entries c b k)) (alias_entries c b r)

renamed_entries : (c : ℕ) (alias : Option ℕ) (f : Trees) → entries (renamed c alias f) ≡ entries f
unfolding renamed
renamed_entries c none f = refl
renamed_entries c (some b) f = alias_entries c b f

call_array : (es pre name : Trees) (d : Label) → arrays (member_call es pre name d) ≡ entries es
unfolding arrays array_in member_call array tree append_f is ◌∶◌
call_array es pre name d = append-nil (entries es)

assignment_array : (c : ℕ) (alias : Option ℕ) (es : Trees) → arrays (assignment c alias es) ≡ entries es
unfolding arrays array_in assignment aliased array tree append_f is ◌∶◌
assignment_array c none es = append-nil (entries es)
assignment_array c (some b) es = append-nil (entries es)

export_array : (p c : ℕ) → arrays (export p c) ≡ []
unfolding arrays array_in export tree
export_array zero c = refl
export_array (suc zero) c = refl
export_array (suc (suc p)) c = refl

export_if : (b : Bool) (p c : ℕ) → arrays (cond b (export p c) end) ≡ []
export_if true p c = export_array p c
export_if false p c = unfold arrays in refl

-- ---- nothing, where nothing is decorated

empty_entries : (f : Trees) → is_empty f ≡ true → entries f ≡ []
unfolding is_empty entries
empty_entries end e = refl
empty_entries (node l k r) e = absurd (false≢true e)

none_called : (b x : Bool) (f : Trees) → is_empty f ≡ x → (b && not x) ≡ false → [] ≡ entries (cond b f end)
unfolding entries
none_called true true f e h = sym (empty_entries f e)
none_called true false f e h = absurd (true≢false h)
none_called false x f e h = refl

member_entries : (b : Bool) (f : Trees) → (b && not (is_empty f)) ≡ true → entries f ≡ entries (cond b f end)
member_entries true f x = refl
member_entries false f x = absurd (false≢true x)

none_assigned : (x y : Bool) (f g : Trees) → is_empty f ≡ x → is_empty g ≡ y → (not x || not y) ≡ false → [] ≡ (entries f ++ entries g)
none_assigned true true f g e h k = rw (empty_entries f e, empty_entries g h)
none_assigned true false f g e h k = absurd (true≢false k)
none_assigned false y f g e h k = absurd (true≢false k)

no_arrays : (f : Trees) → f ≡ end → arrays f ≡ []
unfolding arrays
no_arrays f e = ap arrays e

module _ (report : List Label) (c : ℕ) (alias : Option ℕ) (ok : Trees) where
  call_entries : (b : Bool) (e : Label) (ek calls : Trees) → is_decorated_member e ek ≡ b → CallIf report c alias ok b e ek calls → arrays calls ≡ entries (cond (is_member e) (decorators_of (role_of e) ek) end)
  unfolding is_decorated_member
  call_entries false e ek calls h g = no_arrays calls g ∙ none_called (is_member e) (is_empty (decorators_of (role_of e) ek)) (decorators_of (role_of e) ek) refl h
  call_entries true e ek calls h g =
      ap arrays g.2 ∙ call_array g.0 _ g.1 _ ∙ each_entries (decorators_of (role_of e) ek) g.0 g.3 ∙ member_entries (is_member e) (decorators_of (role_of e) ek) h

  calls_entries : (els calls : Trees) → Calls report c alias ok els calls → arrays calls ≡ entries (of_members els)
  unfolding of_members
  calls_entries end calls h = no_arrays calls h ∙ (unfold entries in refl)
  calls_entries (node e ek els) calls h =
      ap arrays h.2 ∙ arrays_append h.0 h.1 ∙ two (call_entries (is_decorated_member e ek) e ek h.0 refl h.3) (calls_entries els h.1 h.4)
      ∙ sym (entries_append (cond (is_member e) (decorators_of (role_of e) ek) end) (of_members els))

  assigned_entries : (b : Bool) (ds ps put : Trees) → (not (is_empty ds) || not (is_empty ps)) ≡ b → Assigned report c alias ok b ds ps put → arrays put ≡ entries ds ++ entries ps
  assigned_entries false ds ps put h g = no_arrays put g ∙ none_assigned (is_empty ds) (is_empty ps) ds ps refl refl h
  assigned_entries true ds ps put h g =
      ap arrays g.2 ∙ assignment_array c alias (append_f g.0 (renamed c alias g.1)) ∙ entries_append g.0 (renamed c alias g.1)
      ∙ two (each_entries ds g.0 g.3) (renamed_entries c alias g.1 ∙ each_entries ps g.1 g.4)

-- "Taken in order, the arrays hold the members' and their parameters' in word order, then the class's, then the first constructor's parameters'": of any
-- rewriting for which the statement holds. Each stands there once, and no other
pub arrays_hold : (report : List Label) (l : Label) (ck : Trees) (o : Label) (ok put : Trees) → Behind report l ck o ok put →
    arrays put ≡ entries (of_members (elements_of ck)) ++ (entries (decorators ck) ++ entries (first_constructor (elements_of ck)))
unfolding is_decorated_class
arrays_hold report l ck o ok put h =
    let x : Trees = cond (is 5 o) (export l.payload h.symbol) end in
    let a = calls_entries report h.symbol _ ok (elements_of ck) h.calls h.called in
    let b = assigned_entries report h.symbol _ ok (is_decorated_class ck) (decorators ck) (first_constructor (elements_of ck)) h.assigned refl h.assign in
    ap arrays h.whole ∙ arrays_append h.calls (append_f h.assigned x)
    ∙ two a (arrays_append h.assigned x ∙ ap (arrays h.assigned ++◌) (export_if (is 5 o) l.payload h.symbol) ∙ append-nil (arrays h.assigned) ∙ b)
