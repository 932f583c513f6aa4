-- Where each list of statements goes: it is visited, with the aliases that reach it. Assumes nothing.
use Rattle.std.specs.Prelude.{◌≡◌, Bool, cond, ◌&&◌, ℕ, ◌+◌, ◌≤◌}
use Rattle.std.proofs.Math.Path.{refl, ap, sym, subst}
use Rattle.std.proofs.Common.{◌∙◌, true≢false}
use Rattle.std.proofs.Math.Bool.{true, false, and-false}
use Rattle.std.specs.declared.option.Option.{Option}
use Rattle.std.specs.declared.option.Option.TheVariants.{None as none, Some as some}
use mathlib.Core.List.{List, [], ◌∷◌, ◌++◌, append-nil}
use native.Mathlib.Omega.{arith}
use Rattle.std.proofs.Math.Dec.{eqb}
use Rattle.records.specs.Forest.{end, node, drop_f, any_f, map_f, drop_f_map}
use Rattle.records.specs.Label.{Label, Origin, made, read, Trees, ◌∶◌, repay, is}
use Rattle.rewriting.specs.Parts.{tree, is_empty, recount, kids_of, Role, module', list, statement, expression, method, constructor, plain, field, role_of, decorators, undecorate, bare_method, bare_field, parameters_of, decorators_of, is_decorated_member, elements_of, with_elements, id_of, is_decorated, is_live, class_kids}
use Rattle.rewriting.specs.Visit.{Result, Alias, Symbols, kept, own, work, since, inside, entering, visit, visit_one, visit_end, member, is_ref, to_alias, renamed, named_symbols, symbols_of, first_payload, with_id, decorated₁, decorated₂, undecorated_if, live_class_if, live_class, dead_class, class_if, whole_module}
use Rattle.rewriting.specs.declared.Around.{Around}
use Rattle.rewriting.specs.declared.State.{State}
use Rattle.rewriting.specs.Demand.{Has, first, below, behind, is_at, count_at, taken, searched, both, reaching, through_all, is_list, statements_of}
use Rattle.rewriting.proofs.DemandShapes.{Read, NoList, NoLists, list_same, no_list, no_plain, list_role, module_role, module_role_lem, statement_role, statement_role_lem, descriptor_of, descriptor_made, role_26, is_other, ClassOnly, ModuleKids, Shape, Shaped}
use Rattle.rewriting.proofs.DemandVisits.{one_as, one_role_lem, visit_here, visit_calls, visit_first, Visited, one_visited, class_if_without_calls}
use Rattle.rewriting.proofs.DemandReport.{at_from, taken_right, Distinct, Agree, agree_one, agree_kids, agree_rest, once_kids, once_rest, visit_signed}
use Rattle.rewriting.proofs.DemandClasses.{Bodies, method_like, ClassVisited, class_visited, class_bodies}
use Rattle.rewriting.proofs.DemandRenaming.{alias_kind, alias_from, alias_constructor, alias_kids}
use Rattle.rewriting.proofs.DemandBehind.{symbols_alias, class_report}
use Rattle.rewriting.proofs.DemandCount.{count_take}
use Rattle.rewriting.proofs.DemandReach.{has_count, search_le, elements_parts, class_parts_lem}
use Rattle.rewriting.proofs.DemandEach.{Each, each_map, each_alias, Closed, Constructors, each_append, each_with, each_method, each_entries, each_field, each_decorators, each_kids, member_if_each, decorated_each, undecorated_each}

-- ---- the aliases that reach a place

own_zero : (b : Bool) (n : ℕ) (x : List (ℕ × ℕ)) → n ≡ 0 → cond (b && eqb n 1) x [] ≡ []
own_zero b n x e = rw (e, and-false b)

own_one : (b : Bool) (n : ℕ) (x : List (ℕ × ℕ)) → b ≡ true → n ≡ 1 → cond (b && eqb n 1) x [] ≡ x
own_one b n x e h = rw (e, h)

own_empty : (b : Bool) (x : List (ℕ × ℕ)) → x ≡ [] → cond b x [] ≡ []
own_empty true x e = e
own_empty false x e = refl

three : (a a' b b' c c' : List (ℕ × ℕ)) → a ≡ a' → b ≡ b' → c ≡ c' → (a ++ (b ++ c)) ≡ (a' ++ (b' ++ c'))
three a a' b b' c c' e h g = cc

-- what the class statement (l, k) adds
unfoldable own_at : List Label → ℕ → Label → Trees → List (ℕ × ℕ)
own_at F i l k = cond (is 4 l && eqb (count_at i (searched (elements_of (class_kids k)))) 1) (both (id_of (class_kids k)) (taken Alias l.from F)) []

reaching_node : (F : List Label) (i : ℕ) (l : Label) (k r : Trees) → reaching F i (node l k r) ≡ own_at F i l k ++ (reaching F i k ++ reaching F i r)
unfolding reaching own_at
reaching_node F i l k r = refl

own_outside : (F : List Label) (i : ℕ) (l : Label) (k : Trees) → count_at i k ≡ 0 → own_at F i l k ≡ []
unfolding own_at
own_outside F i l k e = own_zero (is 4 l) (count_at i (searched (elements_of (class_kids k)))) _ (omega (arith, search_le i k))

reaching_none : (F : List Label) (i : ℕ) (f : Trees) → count_at i f ≡ 0 → reaching F i f ≡ []
unfolding count_at
reaching_none F i end e = unfold reaching in refl
reaching_none F i (node l k r) e =
    reaching_node F i l k r ∙ three _ [] _ [] _ [] (own_outside F i l k (omega arith)) (reaching_none F i k (omega arith)) (reaching_none F i r (omega arith))

own_agree : (F G : List Label) (i : ℕ) (l : Label) (k : Trees) (j : ℕ) → l.from ≡ read j → taken Alias (read j) F ≡ taken Alias (read j) G → own_at F i l k ≡ own_at G i l k
unfolding own_at
own_agree F G i l k j e h = rw (e, h)

reaching_agree : (F G : List Label) (i : ℕ) (f : Trees) → Read f → Agree F f G → reaching F i f ≡ reaching G i f
unfolding count_at
reaching_agree F G i end h g = unfold reaching in refl
reaching_agree F G i (node l k r) h g =
    let j : ℕ = h.0.0 in
    reaching_node F i l k r
    ∙ three _ _ _ _ _ _ (own_agree F G i l k j h.0.1 (g Alias j (omega (arith, at_from j l h.0.1))))
    (reaching_agree F G i k h.1 (λ sort x n. g sort x (omega arith))) (reaching_agree F G i r h.2 (λ sort x n. g sort x (omega arith)))
    ∙ sym (reaching_node G i l k r)

-- ---- what is said of each record of a result: if a list of statements was read there, it is that list, visited, with the aliases that reach it

abbrev pub PlacedList : Trees → List Label → ℕ → Label → Trees → Label → Trees → Type 0
PlacedList f F i l k m j = (m.kind ≡ l.kind) × (around : Around) × (s : State) ×
    (statements_of l j ≡ through_all (reaching F i f) (visit around (statements_of l k) s).here) × Agree F (statements_of l k) (visit around (statements_of l k) s).fresh

abbrev pub Placed : Trees → List Label → Label → Trees → Type 0
Placed f F m j = (i : ℕ) → m.from ≡ read i → (l : Label) × (k : Trees) × Has l k f × (l.from ≡ read i) × (is_list l ≡ true → PlacedList f F i l k m j)

abbrev IsMade : Origin → Type 0
IsMade made = Unit {0}
IsMade (read i) = ⊥

placed_closed : (f : Trees) (F : List Label) → Closed (Placed f F)
unfolding repay
placed_closed f F = record {
  fresh = λ l k e i h. absurd (subst IsMade (sym e ∙ h) tt);
  other = λ l k g n m j e i h.
      let u = g i (sym e ∙ h) in
      (u.0, u.1, u.2, u.3, λ t. absurd (true≢false (sym t ∙ sym (list_same u.0 l (u.4 t).0) ∙ n)));
  repaid = λ l k g p i h. let u = g i h in (u.0, u.1, u.2, u.3, u.4);
}

-- ---- counting below a record

pub has_le : (i : ℕ) (l : Label) (k f : Trees) → Has l k f → count_at i k ≤ count_at i f
unfolding count_at
has_le i l k end h = elim h [ ]
has_le i l k (node a b r) first = omega arith
has_le i l k (node a b r) (below h) = omega (arith, has_le i l k b h)
has_le i l k (node a b r) (behind h) = omega (arith, has_le i l k r h)

statements_if : (i : ℕ) (b : Bool) (k : Trees) → count_at i (cond b (drop_f 1 k) k) ≤ count_at i k
statements_if i true k = omega (arith, count_take i 1 k)
statements_if i false k = omega arith

pub statements_le : (i : ℕ) (l : Label) (k : Trees) → count_at i (statements_of l k) ≤ count_at i k
unfolding statements_of
statements_le i l k = statements_if i (is 1 l) k

-- ---- renaming a list

statements_map_if : (c b : ℕ) (x : Bool) (k : Trees) → cond x (drop_f 1 (map_f (to_alias c b) k)) (map_f (to_alias c b) k) ≡ map_f (to_alias c b) (cond x (drop_f 1 k) k)
statements_map_if c b true k = drop_f_map (to_alias c b) 1 k
statements_map_if c b false k = refl

statements_map : (c b : ℕ) (l : Label) (k : Trees) → statements_of l (map_f (to_alias c b) k) ≡ map_f (to_alias c b) (statements_of l k)
unfolding statements_of
statements_map c b l k = statements_map_if c b (is 1 l) k

-- ---- from a record's children, and from what stands behind it, to both

module _ (l : Label) (k r : Trees) (F Fk Fr : List Label) (rd : Read (node l k r)) (once : Distinct (node l k r)) (agree-k : Agree F k Fk) (agree-r : Agree F r Fr) where
  parts : (i : ℕ) → is_at i l.from + count_at i k + count_at i r ≤ 1
  unfolding count_at
  parts i = once i

  reach_k : (i : ℕ) (own : List (ℕ × ℕ)) → 1 ≤ count_at i k → own_at F i l k ≡ own → reaching F i (node l k r) ≡ own ++ reaching Fk i k
  reach_k i own h e =
      reaching_node F i l k r
      ∙ three _ own _ (reaching Fk i k) _ [] e (reaching_agree F Fk i k rd.1 agree-k) (reaching_none F i r (omega (arith, parts i))) ∙ ap (own ++◌) (append-nil (reaching Fk i k))

  reach_r : (i : ℕ) → 1 ≤ count_at i r → reaching F i (node l k r) ≡ reaching Fr i r
  reach_r i h =
      reaching_node F i l k r
      ∙ three _ [] _ [] _ (reaching Fr i r) (own_outside F i l k (omega (arith, parts i))) (reaching_none F i k (omega (arith, parts i))) (reaching_agree F Fr i r rd.2 agree-r)

  reach_self : (i : ℕ) → l.from ≡ read i → reaching F i (node l k r) ≡ []
  reach_self i e =
      let n : count_at i k ≡ 0 = omega (arith, at_from i l e, parts i) in
      let o : count_at i r ≡ 0 = omega (arith, at_from i l e, parts i) in
      reaching_node F i l k r ∙ three _ [] _ [] _ [] (own_outside F i l k n) (reaching_none F i k n) (reaching_none F i r o)

  agrees_k : (m : Label) (j : Trees) (vs : List Label) → Has m j k → Agree Fk (statements_of m j) vs → Agree F (statements_of m j) vs
  agrees_k m j vs h g sort i n = agree-k sort i (omega (arith, has_le i m j k h, statements_le i m j)) ∙ g sort i n

  agrees_r : (m : Label) (j : Trees) (vs : List Label) → Has m j r → Agree Fr (statements_of m j) vs → Agree F (statements_of m j) vs
  agrees_r m j vs h g sort i n = agree-r sort i (omega (arith, has_le i m j r h, statements_le i m j)) ∙ g sort i n

  placed_k : (m : Label) (j : Trees) → ((i : ℕ) → m.from ≡ read i → own_at F i l k ≡ []) → Placed k Fk m j → Placed (node l k r) F m j
  placed_k m j none' g i h =
      let u = g i h in (
        u.0,
        u.1,
        below u.2,
        u.3,
        λ t.
            let v = u.4 t in (
              v.0,
              v.1,
              v.2,
              v.3 ∙ ap (λ (x : List (ℕ × ℕ)). through_all x (visit v.1 (statements_of u.0 u.1) v.2).here) (sym (reach_k i [] (has_count i u.0 u.1 k u.2 u.3) (none' i h))),
              agrees_k u.0 u.1 _ u.2 v.4,
            ),
      )

  placed_alias : (c b : ℕ) (m : Label) (j : Trees) → ((i : ℕ) → m.from ≡ read i → own_at F i l k ≡ (c, b) ∷ []) → Placed k Fk m j →
      Placed (node l k r) F (to_alias c b m) (map_f (to_alias c b) j)
  unfolding through_all
  placed_alias c b m j one g i h =
      let e : m.from ≡ read i = sym (alias_from c b m) ∙ h in
      let u = g i e in (
        u.0,
        u.1,
        below u.2,
        u.3,
        λ t.
            let v = u.4 t in
            let x : Trees = (visit v.1 (statements_of u.0 u.1) v.2).here in (
              alias_kind c b m ∙ v.0,
              v.1,
              v.2,
              statements_map c b u.0 j ∙ ap (map_f (to_alias c b)) v.3
                  ∙ ap (λ (y : List (ℕ × ℕ)). through_all y x) (sym (reach_k i ((c, b) ∷ []) (has_count i u.0 u.1 k u.2 u.3) (one i e))),
              agrees_k u.0 u.1 _ u.2 v.4,
            ),
      )

  placed_r : (m : Label) (j : Trees) → Placed r Fr m j → Placed (node l k r) F m j
  placed_r m j g i h =
      let u = g i h in (
        u.0,
        u.1,
        behind u.2,
        u.3,
        λ t.
            let v = u.4 t in (
              v.0,
              v.1,
              v.2,
              v.3 ∙ ap (λ (x : List (ℕ × ℕ)). through_all x (visit v.1 (statements_of u.0 u.1) v.2).here) (sym (reach_r i (has_count i u.0 u.1 r u.2 u.3))),
              agrees_r u.0 u.1 _ u.2 v.4,
            ),
      )

  placed_self : NoList l → (m : Label) (j : Trees) → m.from ≡ l.from → Placed (node l k r) F m j
  placed_self n m j e i h = (l, k, first, sym e ∙ h, λ t. absurd (true≢false (sym t ∙ n)))

  -- all records of a part, where the class that l may be renames nothing
  part : (f : Trees) → ((i : ℕ) → 1 ≤ count_at i f → own_at F i l k ≡ []) → Each (Placed k Fk) f → Each (Placed (node l k r) F) f
  part f h e = each_map (Placed k Fk) (Placed (node l k r) F) f (λ m j x. placed_k m j (λ i g. h i (has_count i m j f x g))) e

  -- all records of a body that it renames
  body_pairs : (f : Trees) (id alias : Option ℕ) → ((i : ℕ) → 1 ≤ count_at i f → own_at F i l k ≡ both id alias) → Each (Placed k Fk) f → Each (Placed (node l k r) F) (through_all (both id alias) f)
  unfolding through_all both
  body_pairs f none alias h e = part f h e
  body_pairs f (some c) none h e = part f h e
  body_pairs f (some c) (some b) h e =
      each_alias (Placed k Fk) (Placed (node l k r) F) c b f (λ m j x. placed_alias c b m j (λ i g. h i (has_count i m j f x g))) e

-- ---- the class of a decorated class statement, its elements left out: they are put in anew

with_if : (b : Bool) (body : Trees) (l : Label) (k r x y : Trees) → is 29 l ≡ b → with_elements body x ≡ with_elements body y → with_elements body (cond b (node (recount l end) end r) (node l k x)) ≡
    cond b (node (recount l body) body r) (node l k (with_elements body y))
unfolding with_elements recount repay is
with_if true body l k r x y h e = rw h
with_if false body l k r x y h e = rw h (ap (node l k) e)

with_with : (body f : Trees) → with_elements body (with_elements end f) ≡ with_elements body f
with_with body end = unfold with_elements in refl
with_with body (node l k r) = unfolded (with_if (is 29 l) body l k r (with_elements end r) r refl (with_with body r))
  where
    unfolded : with_elements body (cond (is 29 l) (node (recount l end) end r) (node l k (with_elements end r))) ≡ cond (is 29 l) (node (recount l body) body r) (node l k (with_elements body r)) →
        with_elements body (with_elements end (node l k r)) ≡ with_elements body (node l k r)
    unfolded h = unfold with_elements in h

payload_if : (b : Bool) (p : ℕ) (body : Trees) (l : Label) (k r : Trees) → is 29 l ≡ b →
    with_elements body (first_payload p (cond b (node (recount l end) end r) (node l k (with_elements end r)))) ≡ with_elements body (node (repay l p) k r)
unfolding with_elements first_payload recount repay is
payload_if true p body l k r h = rw h
payload_if false p body l k r h = rw h (ap (node (repay l p) k) (with_with body r))

-- what an id put in makes of the children behind the first
unfoldable tail : Option ℕ → Trees → Trees
tail none r = r
tail (some p) r = first_payload p r

id_node : (o : Option ℕ) (l : Label) (k r : Trees) → with_id o (node l k r) ≡ node l k (tail o r)
unfolding with_id tail
id_node none l k r = refl
id_node (some p) l k r = refl

with_tail : (o : Option ℕ) (body r : Trees) → with_elements body (tail o (with_elements end r)) ≡ with_elements body (tail o r)
unfolding tail
with_tail none body r = with_with body r
with_tail (some p) body end = unfold with_elements first_payload in refl
with_tail (some p) body (node l k r) = unfold with_elements first_payload in payload_if (is 29 l) p body l k r refl

-- the first child, a 28 or not, and then not the body
bare_if : (b : Bool) (body : Trees) (l : Label) (k x y : Trees) → is 28 l ≡ b → is 29 l ≡ false → with_elements body x ≡ with_elements body y →
    with_elements body (cond b (node (repay l 0) end x) (node l k x)) ≡ with_elements body (cond b (node (repay l 0) end y) (node l k y))
unfolding with_elements repay is
bare_if true body l k x y h n e = rw n (ap (node (repay l 0) end) e)
bare_if false body l k x y h n e = rw n (ap (node l k) e)

class_if_lem : (b : Bool) (o : Option ℕ) (body : Trees) (l : Label) (k r : Trees) → is 29 l ≡ b →
    with_elements body (undecorate (with_id o (cond b (node (recount l end) end r) (node l k (with_elements end r))))) ≡ with_elements body (undecorate (with_id o (node l k r)))
class_if_lem true o body l k r h =
    rw (id_node o (recount l end) end r, id_node o l k r) (first_body (is_other 29 28 l refl h) (tail o r))
  where
    first_body : is 28 l ≡ false → (x : Trees) → with_elements body (undecorate (node (recount l end) end x)) ≡ with_elements body (undecorate (node l k x))
    first_body n x = unfold undecorate with_elements recount repay is in both_29 n h x
      where
        both_29 : eqb l.kind 28 ≡ false → eqb l.kind 29 ≡ true → (x : Trees) →
            with_elements body (cond (eqb l.kind 28) (node (repay (recount l end) 0) end x) (node (recount l end) end x)) ≡ with_elements body (cond (eqb l.kind 28) (node (repay l 0) end x) (node l k x))
        both_29 n h x = unfold with_elements recount repay is in rw (n, h)
class_if_lem false o body l k r h =
    rw (id_node o l k (with_elements end r), id_node o l k r) (behind_body (with_tail o body r))
  where
    behind_body : with_elements body (tail o (with_elements end r)) ≡ with_elements body (tail o r) →
        with_elements body (undecorate (node l k (tail o (with_elements end r)))) ≡ with_elements body (undecorate (node l k (tail o r)))
    behind_body e = unfold undecorate in bare_if (is 28 l) body l k (tail o (with_elements end r)) (tail o r) refl h e

with_class : (o : Option ℕ) (body f : Trees) → with_elements body (undecorate (with_id o (with_elements end f))) ≡ with_elements body (undecorate (with_id o f))
with_class o body end = unfold with_elements in refl
with_class o body (node l k r) = unfold with_elements in class_if_lem (is 29 l) o body l k r refl

with_decorators_if : (b : Bool) (l : Label) (k r x : Trees) → is 29 l ≡ b → decorators (cond b (node (recount l end) end r) (node l k x)) ≡ decorators (node l k r)
unfolding decorators recount repay is
with_decorators_if true l k r x h = rw (is_other 29 28 l refl h)
with_decorators_if false l k r x h = refl

with_decorators : (f : Trees) → decorators (with_elements end f) ≡ decorators f
unfolding with_elements
with_decorators end = refl
with_decorators (node l k r) = with_decorators_if (is 29 l) l k r (with_elements end r) refl

decorated_same : (rk : Trees) (l c : Label) (ck calls : Trees) (s : Symbols) (els : Trees) (outside : Option ℕ) →
    (decorated₂ rk l c (with_elements end ck) calls s els outside).here ≡ (decorated₂ rk l c ck calls s els outside).here
unfolding decorated₂
decorated_same rk l c ck calls s els outside = rw (with_class s.inner _ ck, with_decorators ck)

-- ---- constructors, renamed

lists_map : (c b : ℕ) (f : Trees) → NoLists f → NoLists (map_f (to_alias c b) f)
unfolding map_f
lists_map c b end h = tt
lists_map c b (node l k r) h = (list_same l (to_alias c b l) (alias_kind c b l) ∙ h.0, lists_map c b r h.1)

constructors_map : (c b : ℕ) (f : Trees) → Constructors f → Constructors (map_f (to_alias c b) f)
unfolding map_f parameters_of
constructors_map c b end h = tt
constructors_map c b (node l k r) h =
    (λ e. rw (alias_kids c b 36 k) (lists_map c b (kids_of 36 k) (h.0 (sym (alias_constructor c b l) ∙ e))), constructors_map c b r h.1)

constructors_renamed : (c : ℕ) (alias : Option ℕ) (f : Trees) → Constructors f → Constructors (renamed c alias f)
unfolding renamed
constructors_renamed c none f h = h
constructors_renamed c (some b) f h = constructors_map c b f h

bodies_constructors : (f g : Trees) → Bodies f g → Constructors g
bodies_constructors end end h = tt
bodies_constructors end (node m j g) h = absurd h
bodies_constructors (node e k f) end h = absurd h
bodies_constructors (node e k f) (node m j g) h = (λ c. (h.1 (sym h.0 ∙ c)).3, bodies_constructors f g h.2)

named_through : (b : Bool) (c n : ℕ) (f : Trees) → renamed (named_symbols b c n).outer (named_symbols b c n).alias f ≡ through_all (both (some c) (named_symbols b c n).alias) f
unfolding named_symbols renamed through_all both
named_through true c n f = refl
named_through false c n f = refl

symbols_through : (id d : Option ℕ) (n : ℕ) (els f : Trees) →
    renamed (symbols_of id d n els).outer (symbols_of id d n els).alias f ≡ through_all (both id (symbols_of id d n els).alias) f
unfolding symbols_of
symbols_through (some c) d n els f = named_through (any_f (is_ref c) els) c n f
symbols_through none (some d) n els f = unfold renamed through_all both in refl
symbols_through none none n els f = unfold renamed through_all both in refl

both_none : (id : Option ℕ) → both id none ≡ []
unfolding both
both_none none = refl
both_none (some c) = refl

-- ---- class statements

module _ (l c : Label) (ck r : Trees) (F Fk Fr : List Label) (rd : Read (node l (node c ck end) r)) (once : Distinct (node l (node c ck end) r))
    (agree-k : Agree F (node c ck end) Fk) (agree-r : Agree F r Fr) (role : role_of l ≡ statement) (shape : ClassOnly (node c ck end)) (shaped : Shaped (node c ck end))
    (s : State) (outside : Option ℕ) where
  abbrev k : Trees
  k = node c ck end

  abbrev around : Around
  around = record { live = is_live (node c ck end); id = id_of ck }

  abbrev a : Result
  a = visit (record { live = is_live (node c ck end); id = id_of ck }) (node c ck end) s

  abbrev Q : Label → Trees → Type 0
  Q = Placed (node l (node c ck end) r) F

  no_l : NoList l
  no_l = no_list l statement role (unfold list_role in refl)

  four : is 4 l ≡ true
  four = statement_role_lem l ∙ ap statement_role role ∙ (unfold statement_role in refl)

  mine : (m : Label) (j : Trees) → m.from ≡ l.from → Q m j
  mine m j e = placed_self l k r F Fk Fr rd once agree-k agree-r no_l m j e

  -- nothing renamed
  own_none : taken Alias l.from F ≡ none → (i : ℕ) → own_at F i l k ≡ []
  unfolding own_at
  own_none e i = own_empty (is 4 l && eqb (count_at i (searched (elements_of (class_kids k)))) 1) _ (ap (both (id_of (class_kids k))) e ∙ both_none (id_of (class_kids k)))

  module _ (v : ClassVisited around c ck a) (here : Each (Placed k Fk) a.here) (calls : Each (Placed k Fk) a.calls) where
    kids_placed : Each (Placed k Fk) v.kids
    kids_placed = (subst (λ f. Each (Placed k Fk) f) v.shape here).1

    -- the record of the class itself is no list
    class_mine : (m : Label) (j : Trees) → m.from ≡ c.from → Q m j
    class_mine m j e i h = (c, ck, below first, sym e ∙ h, λ t. absurd (true≢false (sym t ∙ no_plain c (role_26 c shape.0))))

    undecorated_placed : (b : Bool) (d : Option ℕ) → taken Alias l.from F ≡ none → Each Q (undecorated_if b ck d l c v.kids a.calls)
    undecorated_placed b d e =
        undecorated_each Q (placed_closed (node l k r) F) l mine c class_mine v.kids a.calls
        (part l k r F Fk Fr rd once agree-k agree-r v.kids (λ i h. own_none e i) kids_placed)
        (part l k r F Fk Fr rd once agree-k agree-r a.calls (λ i h. own_none e i) calls) b ck d

    elements_count : (i : ℕ) → (count_at i (elements_of v.kids) ≤ count_at i (searched (elements_of ck))) × (count_at i a.calls + count_at i (searched (elements_of ck)) ≤ count_at i (elements_of ck))
    elements_count i =
        let p = elements_parts i (elements_of ck) around v.state v.element_roles v.shaped in
        omega (arith, p.0, p.1, ap (count_at i) v.elements, ap (count_at i) v.calls)

    class_count_lem : (i : ℕ) → count_at i (with_elements end v.kids) + count_at i (elements_of ck) ≤ count_at i ck
    class_count_lem i = omega (arith, class_parts_lem i ck around v.start shape.1, ap (λ f. count_at i (with_elements end f)) v.kids_visited)

    ck_once : (i : ℕ) → count_at i ck ≤ 1
    ck_once i = let z : count_at i (node l (node c ck end) r) ≤ 1 = once i in unfold count_at in omega arith

    outside_body : (i : ℕ) → count_at i (searched (elements_of ck)) ≡ 0 → own_at F i l k ≡ []
    unfolding own_at class_kids
    outside_body i e = own_zero (is 4 l) (count_at i (searched (elements_of ck))) _ e

    inside_body : (i : ℕ) (alias : Option ℕ) → taken Alias l.from F ≡ alias → count_at i (searched (elements_of ck)) ≡ 1 → own_at F i l k ≡ both (id_of ck) alias
    unfolding own_at class_kids
    inside_body i alias g e = own_one (is 4 l) (count_at i (searched (elements_of ck))) _ four e ∙ ap (both (id_of ck)) g

    searched_ck : (i : ℕ) → count_at i (searched (elements_of ck)) ≤ count_at i (elements_of ck)
    searched_ck i = omega (arith, (elements_count i).1)

    decorated_placed : taken Alias l.from F ≡ (symbols_of (id_of ck) a.after.default a.after.next (elements_of v.kids)).alias →
        Each Q (decorated₁ ck l c v.kids a.calls (symbols_of (id_of ck) a.after.default a.after.next (elements_of v.kids)) outside).here
    unfolding decorated₁
    decorated_placed e =
        let els : Trees = elements_of v.kids in
        let y : Symbols = symbols_of (id_of ck) a.after.default a.after.next els in
        let kids0 : Trees = with_elements end v.kids in
        let C : Closed (Placed k Fk) = placed_closed k Fk in
        let e0 : Each (Placed k Fk) kids0 = each_with (Placed k Fk) C end v.kids tt kids_placed in
        let q0 : Each Q kids0 = part l k r F Fk Fr rd once agree-k agree-r kids0 (λ i h. outside_body i (omega (arith, h, class_count_lem i, searched_ck i, ck_once i))) e0 in
        let qc : Each Q a.calls = part l k r F Fk Fr rd once agree-k agree-r a.calls (λ i h. outside_body i (omega (arith, h, (elements_count i).1, class_count_lem i, ck_once i))) calls in
        let ee : Each (Placed k Fk) els = unfold elements_of in each_kids (Placed k Fk) C 29 v.kids kids_placed in
        let qe : Each Q (through_all (both (id_of ck) y.alias) els) =
        body_pairs l k r F Fk Fr rd once agree-k agree-r els (id_of ck) y.alias (λ i h. inside_body i y.alias e (omega (arith, h, (elements_count i).0, searched_ck i, class_count_lem i, ck_once i))) ee in
        let qr : Each Q (renamed y.outer y.alias els) = subst (λ f. Each Q f) (sym (symbols_through (id_of ck) a.after.default a.after.next els els)) qe in
        subst (λ f. Each Q f) (decorated_same ck l c v.kids a.calls y (renamed y.outer y.alias els) outside)
        (decorated_each Q (placed_closed (node l k r) F) l mine c class_mine kids0 a.calls q0 qc ck y (renamed y.outer y.alias els) outside
        (constructors_renamed y.outer y.alias els (bodies_constructors (elements_of ck) els (class_bodies around c ck a v))) qr)

    live_if_placed : (b : Bool) → ((sort : ℕ) → taken sort l.from F ≡ taken sort made (a.fresh ++ (live_class_if b ck l c v.kids a.calls a.after outside).fresh)) → taken Alias made a.fresh ≡ none →
        Each Q (live_class_if b ck l c v.kids a.calls a.after outside).here
    unfolding live_class_if
    live_if_placed true known none' =
        let els : Trees = elements_of v.kids in
        let y : Symbols = symbols_of (id_of ck) a.after.default a.after.next els in
        let e : taken Alias l.from F ≡ taken Alias made (a.fresh ++ y.fresh) = unfold decorated₁ decorated₂ in known Alias in
        decorated_placed (e ∙ taken_right Alias made a.fresh y.fresh none' ∙ symbols_alias a.after.next els (id_of ck) a.after.default)
    live_if_placed false known none' =
        undecorated_placed (is_empty a.calls) a.after.default (known Alias ∙ ap (taken Alias made) (append-nil a.fresh) ∙ none')

  not_taken : taken Alias made a.fresh ≡ none
  not_taken = visit_signed Alias (node c ck end) around s rd.1 refl

  class_if_placed : (b : Bool) → is_live k ≡ b → Each (Placed k Fk) a.here → Each (Placed k Fk) a.calls →
      ((sort : ℕ) → taken sort l.from F ≡ taken sort made (a.fresh ++ (class_if b l k outside a).fresh)) → Each Q (class_if b l k outside a).here
  unfolding class_if dead_class live_class class_kids tree
  class_if_placed false live here calls known =
      (mine l a.here refl, part l k r F Fk Fr rd once agree-k agree-r a.here (λ j h. own_none (known Alias ∙ ap (taken Alias made) (append-nil a.fresh) ∙ not_taken) j) here, tt)
  class_if_placed true live here calls known =
      let v : ClassVisited around c ck a = class_visited around c ck s shape.0 shape.1 shaped.1 in
      let same = ap (λ (f : Trees). live_class ck l f a.calls a.after outside) v.shape in
      subst (λ (x : Result). Each Q x.here) (sym same)
      (live_if_placed v here calls (is_decorated ck) (λ sort. known sort ∙ ap (λ (x : Result). taken sort made (a.fresh ++ x.fresh)) same) not_taken)

-- ---- lists

statements_list : (l : Label) (k : Trees) → is 1 l ≡ false → statements_of l k ≡ k
unfolding statements_of
statements_list l k e = rw e

statements_module : (l : Label) (k : Trees) → is 1 l ≡ true → statements_of l k ≡ drop_f 1 k
unfolding statements_of
statements_module l k e = rw e

-- the list y, visited from x, with the aliases ρ
abbrev From : List Label → List (ℕ × ℕ) → Trees → Trees → Type 0
From F ρ y x = (around : Around) × (s : State) × (y ≡ through_all ρ (visit around x s).here) × Agree F x (visit around x s).fresh

from_none : (F : List Label) (ρ : List (ℕ × ℕ)) (around : Around) (x y : Trees) (s : State) → ρ ≡ [] → y ≡ (visit around x s).here → Agree F x (visit around x s).fresh → From F ρ y x
unfolding through_all
from_none F ρ around x y s e h g = (around, s, h ∙ ap (λ (z : List (ℕ × ℕ)). through_all z (visit around x s).here) (sym e), g)

-- ---- one record

module _ (around : Around) (l : Label) (k r : Trees) (s : State) (F Fr : List Label) (rd : Read (node l k r)) (once : Distinct (node l k r)) (agree-r : Agree F r Fr) where
  no_own : (x : Role) → role_of l ≡ x → statement_role x ≡ false → (i : ℕ) → own_at F i l k ≡ []
  unfolding own_at
  no_own x e h i = rw (statement_role_lem l ∙ ap statement_role e ∙ h)

  -- a record that is no class statement: all below it stays as it is
  under : (x : Role) → role_of l ≡ x → statement_role x ≡ false → (Fk : List Label) → Agree F k Fk → (f : Trees) → Each (Placed k Fk) f → Each (Placed (node l k r) F) f
  under x e h Fk agree f g = part l k r F Fk Fr rd once agree agree-r f (λ i n. no_own x e h i) g

  self : (x : Role) → role_of l ≡ x → list_role x ≡ false → (Fk : List Label) → Agree F k Fk → (m : Label) (j : Trees) → m.from ≡ l.from → Placed (node l k r) F m j
  self x e h Fk agree m j g = placed_self l k r F Fk Fr rd once agree agree-r (no_list l x e h) m j g

  list_placed : role_of l ≡ list → Agree F k (visit around k s).fresh → Placed (node l k r) F (recount l (visit around k s).here) (visit around k s).here
  unfolding recount repay
  list_placed e agree i h =
      let one : is 1 l ≡ false = module_role_lem l ∙ ap module_role e ∙ (unfold module_role in refl) in
      let here : Trees = (visit around k s).here in
      let x : From F (reaching F i (node l k r)) (statements_of l here) (statements_of l k) =
      rw (statements_list l here one, statements_list l k one)
      (from_none F _ around k here s (reach_self l k r F (visit around k s).fresh Fr rd once agree agree-r i h) refl agree) in
      (l, k, first, h, λ t. (refl, x.0, x.1, x.2, x.3))

  -- the module: its first child is no statement
  module_root : role_of l ≡ module' → Agree F k (visit around k s).fresh → (n : ℕ) (h sk : Trees) (x : Label) (R r0 : Trees) (t0 : State) (p : ℕ) → k ≡ node x sk r0 → R ≡ (visit around r0 t0).here →
      Agree F r0 (visit around r0 t0).fresh → Placed (node l k r) F (repay l p) (node (repay x n) h R)
  unfolding repay drop_f
  module_root e agree n h sk x R r0 t0 p shape same known i from =
      let one : is 1 l ≡ true = module_role_lem l ∙ ap module_role e ∙ (unfold module_role in refl) in
      let j : Trees = node (repay x n) h R in
      let st : statements_of l k ≡ r0 = statements_module l k one ∙ ap (drop_f 1) shape in
      let sj : statements_of l j ≡ R = statements_module l j one in
      let u : From F (reaching F i (node l k r)) (statements_of l j) (statements_of l k) =
      rw (sj, st) (from_none F _ around r0 R t0 (reach_self l k r F (visit around k s).fresh Fr rd once agree agree-r i from) same known) in
      (l, k, first, from, λ t. (refl, u.0, u.1, u.2, u.3))

module_each : (around : Around) (l : Label) (k r : Trees) (s : State) (F Fr : List Label) (rd : Read (node l k r)) (once : Distinct (node l k r)) → Agree F r Fr → Distinct k →
    role_of l ≡ module' → ModuleKids k → Agree F k (visit around k s).fresh → (n : ℕ) → Each (Placed (node l k r) F) (visit around k s).here → Each (Placed (node l k r) F) (whole_module l (visit around k s).here n)
module_each around l end r s F Fr rd once agree-r once-k e h agree n g = absurd h
module_each around l (node x sk r0) r s F Fr rd once agree-r once-k e h agree n g =
    let k : Trees = node x sk r0 in
    let v : Visited x sk (visit_one around x sk s).here = one_visited around x sk s h in
    let t0 : State = (visit_one around x sk s).after in
    let R : Trees = (visit around r0 t0).here in
    let X : Trees = (visit v.0 sk v.1).here in
    let shape : (visit around k s).here ≡ node x X R = visit_first around x sk r0 s X v.2 in
    let g' : Each (Placed (node l k r) F) (node x X R) = subst (λ f. Each (Placed (node l k r) F) f) shape g in
    subst (λ f. Each (Placed (node l k r) F) (whole_module l f n)) (sym shape)
    (done X R g' (λ p. module_root around l k r s F Fr rd once agree-r e agree n X sk x R r0 t0 p refl refl (agree_rest F around x sk r0 s once-k agree)))
  where
    done : (X R : Trees) → Each (Placed (node l (node x sk r0) r) F) (node x X R) → ((p : ℕ) → Placed (node l (node x sk r0) r) F (repay l p) (node (repay x n) X R)) →
        Each (Placed (node l (node x sk r0) r) F) (whole_module l (node x X R) n)
    done X R g q = unfold whole_module tree in (q _, ((placed_closed (node l (node x sk r0) r) F).repaid x X g.0 n, g.1, g.2), tt)

-- ---- the roles

abbrev pub BothPlaced : Trees → List Label → Result → Type 0
BothPlaced f F x = Each (Placed f F) x.here × Each (Placed f F) x.calls

statement_placed : (around : Around) (l : Label) (k r : Trees) (s : State) (F Fr : List Label) → Read (node l k r) → Distinct (node l k r) → Shaped k → Agree F r Fr →
    role_of l ≡ statement → ClassOnly k → Agree F k (visit (inside statement around k) k (entering statement s)).fresh →
    ((sort : ℕ) → taken sort l.from F ≡ taken sort made ((visit (inside statement around k) k (entering statement s)).fresh ++ (class_if (is_live k) l k s.default (visit (inside statement around k) k (entering statement s))).fresh)) →
    BothPlaced k (visit (inside statement around k) k (entering statement s)).fresh (visit (inside statement around k) k (entering statement s)) →
    Each (Placed (node l k r) F) (one_as statement around l k s).here
unfolding one_as work since own inside entering class_kids
statement_placed around l end r s F Fr rd once ok agree-r e h agree known g = absurd h
statement_placed around l (node c ck end) r s F Fr rd once ok agree-r e h agree known g =
    class_if_placed l c ck r F _ Fr rd once agree agree-r e h ok (record { next = s.next; default = none }) s.default (is_live (node c ck end)) refl g.0 g.1 known
statement_placed around l (node c ck (node x y z)) r s F Fr rd once ok agree-r e h agree known g = absurd h

statement_calls : (around : Around) (l : Label) (k : Trees) (s : State) (P : Label → Trees → Type 0) → Each P (one_as statement around l k s).calls
unfolding one_as work since own
statement_calls around l k s P = subst (λ f. Each P f) (sym (class_if_without_calls (is_live k) l k s.default (visit (inside statement around k) k (entering statement s))).calls) tt

module _ (around : Around) (l : Label) (k r : Trees) (s : State) (F Fr : List Label) (rd : Read (node l k r)) (once : Distinct (node l k r)) (once-k : Distinct k) (ok : Shaped k)
    (agree-r : Agree F r Fr) (i : ℕ) (from : l.from ≡ read i) (none' : count_at i k ≡ 0) where
  descriptor : (d : Label) → role_of l ≡ field d → d.from ≡ made
  unfolding descriptor_of
  descriptor d e = ap (λ x. (descriptor_of x).from) (sym e) ∙ descriptor_made l

  one_placed : (x : Role) → role_of l ≡ x → Shape x k → Agree F k (visit (inside x around k) k (entering x s)).fresh →
      ((sort : ℕ) → taken sort (read i) F ≡ taken sort (read i) (one_as x around l k s).fresh) →
      BothPlaced k (visit (inside x around k) k (entering x s)).fresh (visit (inside x around k) k (entering x s)) → BothPlaced (node l k r) F (one_as x around l k s)
  one_placed module' e h agree known g = unfold one_as work since own inside entering in
      let a : Result = visit around k s in
      let U = under around l k r s F Fr rd once agree-r module' e (unfold statement_role in refl) a.fresh agree in
      (module_each around l k r s F Fr rd once agree-r once-k e h agree a.after.next (U a.here g.0), U a.calls g.1)
  one_placed list e h agree known g = unfold one_as work since own inside entering tree in
      let a : Result = visit around k s in
      let U = under around l k r s F Fr rd once agree-r list e (unfold statement_role in refl) a.fresh agree in
      ((list_placed around l k r s F Fr rd once agree-r e agree, U a.here g.0, tt), U a.calls g.1)
  one_placed statement e h agree known g =
      (statement_placed around l k r s F Fr rd once ok agree-r e h.0 agree (class_report F l k s i from around none' known) g, statement_calls around l k s (Placed (node l k r) F))
  one_placed expression e h agree known g =
      let a : Result = visit (inside expression around k) k (entering expression s) in
      let U = under around l k r s F Fr rd once agree-r expression e (unfold statement_role in refl) a.fresh agree in
      let S = self around l k r s F Fr rd once agree-r expression e (unfold list_role in refl) a.fresh agree in
      unfold one_as work since own dead_class tree in ((S l a.here refl, U a.here g.0, tt), tt)
  one_placed method e h agree known g = unfold one_as work since own member inside entering in
      let a : Result = visit around k s in
      let U = under around l k r s F Fr rd once agree-r method e (unfold statement_role in refl) a.fresh agree in
      let S = self around l k r s F Fr rd once agree-r method e (unfold list_role in refl) a.fresh agree in
      let C : Closed (Placed (node l k r) F) = placed_closed (node l k r) F in
      let here : Each (Placed (node l k r) F) a.here = U a.here g.0 in
      member_if_each (Placed (node l k r) F) C l S k (bare_method a.here) (decorators_of method a.here) (13 ∶ 0) (unfold ◌∶◌ in refl) a
      (each_method (Placed (node l k r) F) C a.here (method_like k around s h.0) here) (each_entries (Placed (node l k r) F) C a.here here) (U a.calls g.1)
      (around.live && is_decorated_member l k) around
  one_placed constructor e h agree known g = unfold one_as work since own kept inside entering tree in
      let a : Result = visit around k s in
      let U = under around l k r s F Fr rd once agree-r constructor e (unfold statement_role in refl) a.fresh agree in
      let S = self around l k r s F Fr rd once agree-r constructor e (unfold list_role in refl) a.fresh agree in
      ((S l a.here refl, U a.here g.0, tt), U a.calls g.1)
  one_placed plain e h agree known g = unfold one_as work since own kept inside entering tree in
      let a : Result = visit around k s in
      let U = under around l k r s F Fr rd once agree-r plain e (unfold statement_role in refl) a.fresh agree in
      let S = self around l k r s F Fr rd once agree-r plain e (unfold list_role in refl) a.fresh agree in
      ((S l a.here refl, U a.here g.0, tt), U a.calls g.1)
  one_placed (field d) e h agree known g = unfold one_as work since own member inside entering in
      let a : Result = visit around k s in
      let U = under around l k r s F Fr rd once agree-r (field d) e (unfold statement_role in refl) a.fresh agree in
      let S = self around l k r s F Fr rd once agree-r (field d) e (unfold list_role in refl) a.fresh agree in
      let C : Closed (Placed (node l k r) F) = placed_closed (node l k r) F in
      let here : Each (Placed (node l k r) F) a.here = U a.here g.0 in
      member_if_each (Placed (node l k r) F) C l S k (bare_field a.here) (decorators a.here) d (descriptor d e) a
      (each_field (Placed (node l k r) F) C a.here here) (each_decorators (Placed (node l k r) F) C a.here here) (U a.calls g.1)
      (around.live && is_decorated_member l k) around

-- ---- the visit

refl_agree : (f : Trees) (around : Around) (s : State) → Agree (visit around f s).fresh f (visit around f s).fresh
refl_agree f around s sort i n = refl

pub visit_placed : (f : Trees) (around : Around) (s : State) → Read f → Distinct f → Shaped f → BothPlaced f (visit around f s).fresh (visit around f s)
visit_placed end around s rd once ok = rw visit_end (tt, tt)
visit_placed (node l k r) around s rd once ok =
    let x : Role = role_of l in
    let a : Result = visit (inside x around k) k (entering x s) in
    let o : Result = visit_one around l k s in
    let b : Result = visit around r o.after in
    let F : List Label = (visit around (node l k r) s).fresh in
    let i : ℕ = rd.0.0 in
    let from : l.from ≡ read i = rd.0.1 in
    let A : Agree F (node l k r) F = refl_agree (node l k r) around s in
    let once-k : Distinct k = once_kids F around l k r s once A in
    let agree-k : Agree F k a.fresh = agree_kids F around l k r s once A in
    let agree-r : Agree F r b.fresh = agree_rest F around l k r s once A in
    let gk : BothPlaced k a.fresh a = visit_placed k (inside x around k) (entering x s) rd.1 once-k ok.1 in
    let gr : BothPlaced r b.fresh b = visit_placed r around o.after rd.2 (once_rest F around l k r s once A) ok.2 in
    let known : (sort : ℕ) → taken sort (read i) F ≡ taken sort (read i) (one_as x around l k s).fresh = λ sort.
    agree_one F around l k r s once A sort i from ∙ ap (λ (y : Result). taken sort (read i) y.fresh) (one_role_lem around l k s) in
    let g : BothPlaced (node l k r) F o = rw one_role_lem (one_placed around l k r s F b.fresh rd once once-k ok.1 agree-r i from (none' i from (once i)) x refl ok.0 agree-k known gk) in
    let C : Closed (Placed (node l k r) F) = placed_closed (node l k r) F in
    let lift : (f : Trees) → Each (Placed r b.fresh) f → Each (Placed (node l k r) F) f = λ f e.
    each_map (Placed r b.fresh) (Placed (node l k r) F) f (λ m j y. placed_r l k r F a.fresh b.fresh rd once agree-k agree-r m j) e in (
      subst (λ f. Each (Placed (node l k r) F) f) (sym (visit_here around l k r s)) (each_append (Placed (node l k r) F) C o.here b.here g.0 (lift b.here gr.0)),
      subst (λ f. Each (Placed (node l k r) F) f) (sym (visit_calls around l k r s)) (each_append (Placed (node l k r) F) C o.calls b.calls g.1 (lift b.calls gr.1)),
    )
  where
    none' : (i : ℕ) → l.from ≡ read i → count_at i (node l k r) ≤ 1 → count_at i k ≡ 0
    none' i from h = unfold count_at in omega (arith, at_from i l from)
