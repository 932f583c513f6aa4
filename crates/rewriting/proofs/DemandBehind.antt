-- What is put in behind each statement of a list that is visited, in any state. Assumes nothing.
use Rattle.std.specs.Prelude.{◌≡◌, cond, ◌&&◌, ◌||◌, List, [], ◌∷◌, ◌++◌}
use Rattle.std.proofs.Math.Path.{refl, ap, sym, subst}
use Rattle.std.proofs.Common.{◌∙◌, true≢false, append-nil}
use Rattle.std.proofs.Math.Bool.{Bool, true, false, not}
use Rattle.std.proofs.lemmas.Bool.{false≢true}
use Rattle.std.specs.declared.option.Option.{Option}
use Rattle.std.specs.declared.option.Option.TheVariants.{None as none, Some as some}
use Prim.Native.Nat.{ℕ, ◌≤◌}
use native.Mathlib.Omega.{arith}
use Rattle.records.specs.Forest.{end, node, take_f, drop_f, append_f, any_f, append_f_end}
use Rattle.records.specs.Label.{Label, Origin, made, read, Trees, ◌∶◌, repay, become, is}
use Rattle.rewriting.specs.Parts.{tree, is_empty, recount, kids_of, Role, module', list, statement, expression, method, constructor, plain, field, role_of, decorators, undecorate, of_parameters, parameters_of, decorators_of, bare_method, bare_field, is_constructor, is_member, is_decorated_member, elements_of, with_elements, id_of, has_private_in, has_static, constructor_decorated, first_constructor, bare_first, is_decorated, is_decorated_class, is_live, class_kids}
use Rattle.rewriting.specs.Visit.{Result, Default, Alias, kept, is_ref, renamed, Symbols, named_symbols, symbols_of, aliased, assignment, block_alias, let_alias, alias_block, call_block, queued, export, first_payload, with_id, decorated_statement, decorated₁, decorated₂, name_class, extend_body, undecorated_if, live_class_if, live_class, dead_class, class_if, whole_module, own, member, signed_by, work, since, inside, entering, visit, visit_one, visit_end}
use Rattle.rewriting.specs.declared.Around.{Around}
use Rattle.rewriting.specs.declared.State.{State}
use Rattle.rewriting.specs.Demand.{Has, first, below, behind, same, count_at, taken, AsVisited, Calls, Stay, constructors, Names, Behind, ClassGives, Gives, Listed}
use Rattle.rewriting.proofs.DemandShapes.{Read, member_role_lem, statement_role, statement_role_lem, statement_kind, ClassOnly, Settled, Shape, Shaped}
use Rattle.rewriting.proofs.DemandShaped.{empty_end}
use Rattle.rewriting.proofs.DemandVisits.{one_as, one_role_lem, visit_here}
use Rattle.rewriting.proofs.DemandReport.{at_from, taken_empty, taken_right, taken_none, signed_own, Distinct, Agree, agree_one, agree_kids, agree_rest, once_kids, once_rest, report_none, visit_signed, After, default_visit, nameless_calls, class_if_other}
use Rattle.rewriting.proofs.DemandCalls.{Chosen, MembersStand, elements_calls}
use Rattle.rewriting.proofs.DemandClasses.{Bodies, first_each, member≢, has_body, elements_le, read_elements, member_if_here, ClassVisited, class_visited, class_bodies}
use Rattle.rewriting.proofs.DemandRenaming.{renamed_first, labelled, renamed_node, labelled_constructor, labelled_ref, constructor_ref, member_ref}

-- ---- a forest whose records stand in another

abbrev Wider : Trees → Trees → Type 0
Wider f g = (l : Label) (k : Trees) → Has l k f → Has l k g

has_left : (f g : Trees) → Wider f (append_f f g)
unfolding append_f
has_left end g l k h = elim h [ ]
has_left (node a b r) g l k first = first
has_left (node a b r) g l k (below h) = below h
has_left (node a b r) g l k (behind h) = behind (has_left r g l k h)

has_right : (f g : Trees) → Wider g (append_f f g)
unfolding append_f
has_right end g l k h = h
has_right (node a b r) g l k h = behind (has_right r g l k h)

-- ---- elements that stay

module _ (F : List Label) (c : ℕ) (alias : Option ℕ) where
  -- members and constructors
  members_all : (f ok : Trees) → Wider (renamed c alias f) ok → MembersStand F c alias ok f
  members_all end ok w = tt
  members_all (node e k r) ok w =
      let x : Wider (node (labelled c alias e) (renamed c alias k) (renamed c alias r)) ok = subst (λ f. Wider f ok) (renamed_node c alias e k r) w in (
        λ m. x e (renamed c alias k) (subst (λ n. Has e (renamed c alias k) (node n (renamed c alias k) (renamed c alias r))) (sym (labelled_ref c alias e (member_ref c e m))) first),
        members_all r ok (λ l j h. x l j (behind h)),
      )

  stands_first : (e : Label) (j r ok : Trees) → is_ref c e ≡ false → Wider (node (labelled c alias e) j r) ok → Has e j ok
  stands_first e j r ok n w = w e j (subst (λ m. Has e j (node m j r)) (sym (labelled_ref c alias e n)) first)

  member_no : (e : Label) → is_constructor e ≡ true → is_member e ≡ true → ⊥
  member_no e h m = member≢ e (role_of e) refl (sym (member_role_lem e) ∙ m) h

  -- later constructors
  stay_if : (b : Bool) (e : Label) (ek j f ok : Trees) → is_constructor e ≡ b → (b ≡ true → AsVisited (of_parameters 0 (parameters_of ek)) (of_parameters 0 (parameters_of j))) →
      (b ≡ true → Has e (renamed c alias j) ok) → Stay F c alias ok f → Stay F c alias ok (cond b (node e ek f) f)
  stay_if true e ek j f ok h v w s = ((j, w refl, v refl), s)
  stay_if false e ek j f ok h v w s = s

  stay_all : (f g : Trees) → Bodies f g → (ok : Trees) → Wider (renamed c alias g) ok → Stay F c alias ok (constructors f)
  unfolding constructors
  stay_all end end h ok w = tt
  stay_all end (node m j g) h ok w = absurd h
  stay_all (node e k f) end h ok w = absurd h
  stay_all (node e k f) (node m j g) h ok w =
      let x : Wider (node (labelled c alias m) (renamed c alias j) (renamed c alias g)) ok = subst (λ f. Wider f ok) (renamed_node c alias m j g) w in
      stay_if (is_constructor e) e k j (constructors f) ok refl (λ y. (h.1 y).1)
      (λ y. stands_first e (renamed c alias j) (renamed c alias g) ok (constructor_ref c e y) (subst (λ n. Wider (node (labelled c alias n) (renamed c alias j) (renamed c alias g)) ok) (h.1 y).0 x))
      (stay_all f g h.2 ok (λ l i y. x l i (behind y)))

  later_if : (b : Bool) (e : Label) (ek f : Trees) (m : Label) (j j' g g' ok : Trees) → Wider (cond b (node m j g) (node m j' g')) ok →
      (Wider g ok → Stay F c alias ok f) → (Wider g' ok → Stay F c alias ok (drop_f 1 f)) → Stay F c alias ok (drop_f 1 (cond b (node e ek f) f))
  unfolding drop_f
  later_if true e ek f m j j' g g' ok w s t = s (λ l i y. w l i (behind y))
  later_if false e ek f m j j' g g' ok w s t = t (λ l i y. w l i (behind y))

  stay_later : (f g : Trees) → Bodies f g → (ok : Trees) → Wider (bare_first (renamed c alias g)) ok → Stay F c alias ok (drop_f 1 (constructors f))
  unfolding constructors bare_first
  stay_later end end h ok w = unfold drop_f in tt
  stay_later end (node m j g) h ok w = absurd h
  stay_later (node e k f) end h ok w = absurd h
  stay_later (node e k f) (node m j g) h ok w =
      later_if (is_constructor e) e k (constructors f) (labelled c alias m) _ _ _ _ ok
      (subst (λ b. Wider (cond b (node (labelled c alias m) (bare_method (renamed c alias j)) (renamed c alias g)) (node (labelled c alias m) (renamed c alias j) (bare_first (renamed c alias g)))) ok)
      (labelled_constructor c alias m ∙ h.0) (subst (λ f. Wider (bare_first f) ok) (renamed_node c alias m j g) w))
      (stay_all f g h.2 ok) (stay_later f g h.2 ok)

  -- members, where the first constructor is another element
  bare_step : (b : Bool) (e : Label) (k r j g : Trees) (ok : Trees) → is_constructor e ≡ b →
      Wider (cond b (node (labelled c alias e) j (renamed c alias r)) (node (labelled c alias e) (renamed c alias k) g)) ok →
      (Wider (renamed c alias r) ok → MembersStand F c alias ok r) → (Wider g ok → MembersStand F c alias ok r) → MembersStand F c alias ok (node e k r)
  bare_step true e k r j g ok h w p q = (λ m. absurd (member_no e h m), p (λ l i x. w l i (behind x)))
  bare_step false e k r j g ok h w p q = (λ m. stands_first e (renamed c alias k) g ok (member_ref c e m) w, q (λ l i x. w l i (behind x)))

  members_bare : (f ok : Trees) → Wider (bare_first (renamed c alias f)) ok → MembersStand F c alias ok f
  unfolding bare_first
  members_bare end ok w = tt
  members_bare (node e k r) ok w =
      bare_step (is_constructor e) e k r _ _ ok refl
      (subst (λ b. Wider (cond b (node (labelled c alias e) (bare_method (renamed c alias k)) (renamed c alias r)) (node (labelled c alias e) (renamed c alias k) (bare_first (renamed c alias r)))) ok)
      (labelled_constructor c alias e) (subst (λ f. Wider (bare_first f) ok) (renamed_node c alias e k r) w))
      (members_all r ok) (members_bare r ok)

-- all of them, of which the first is one
stay_drop : (F : List Label) (c : ℕ) (alias : Option ℕ) (ok f : Trees) → Stay F c alias ok f → Stay F c alias ok (drop_f 1 f)
unfolding drop_f
stay_drop F c alias ok end h = tt
stay_drop F c alias ok (node e k r) h = h.1

-- ---- where the body goes

with_if : (b : Bool) (l m : Label) (k new r x : Trees) → (b ≡ false → Wider new x) → Wider new (cond b (node m new r) (node l k x))
with_if true l m k new r x h a j y = below y
with_if false l m k new r x h a j y = behind (h refl a j y)

or_behind : (a b : Bool) → (a || b) ≡ true → a ≡ false → b ≡ true
or_behind true b h e = absurd (true≢false e)
or_behind false b h e = h

has_with : (new f : Trees) → has_body f ≡ true → Wider new (with_elements new f)
unfolding with_elements has_body
has_with new end h l k x = absurd (false≢true h)
has_with new (node a b r) h l k x = with_if (is 29 a) a (recount a new) b new r (with_elements new r) (λ e. has_with new r (or_behind (is 29 a) (has_body r) h e)) l k x

has_elements_if : (b : Bool) (l : Label) (k r x : Trees) → Wider x r → Wider (cond b k x) (node l k r)
has_elements_if true l k r x w a j h = below h
has_elements_if false l k r x w a j h = behind (w a j h)

has_elements : (f : Trees) → Wider (elements_of f) f
unfolding elements_of kids_of
has_elements end l k h = h
has_elements (node a b r) l k h = has_elements_if (is 29 a) a b r (kids_of 29 r) (has_elements r) l k h

body_if : (b : Bool) (l m : Label) (k j r : Trees) → m.kind ≡ l.kind → has_body (cond b (node m j r) (node l k r)) ≡ has_body (node l k r)
unfolding has_body is
body_if true l m k j r e = rw e
body_if false l m k j r e = refl

pub body_undecorate : (f : Trees) → has_body (undecorate f) ≡ has_body f
unfolding undecorate
body_undecorate end = refl
body_undecorate (node l k r) = body_if (is 28 l) l (repay l 0) k end r (unfold repay in refl)

pub body_id : (o : Option ℕ) (f : Trees) → has_body (with_id o f) ≡ has_body f
unfolding with_id first_payload has_body is repay
body_id none f = refl
body_id (some p) end = refl
body_id (some p) (node l k end) = refl
body_id (some p) (node l k (node m j r)) = refl

has_let : (alias : Option ℕ) (c : Label) (f : Trees) → Wider f (aliased alias (tree (20 ∶ 0) (tree c f)))
unfolding aliased tree
has_let none c f l k h = below (below h)
has_let (some b) c f l k h = below (below (below h))

-- a class that takes its default symbol as id
abbrev pub with_default : ℕ → Trees → Trees
with_default d ck = append_f (take_f 1 ck) (append_f (node (27 ∶ d) end end) (drop_f 1 ck))

default_elements : (d : ℕ) (ck : Trees) → elements_of (with_default d ck) ≡ elements_of ck
unfolding elements_of kids_of take_f drop_f append_f is ◌∶◌
default_elements d end = refl
default_elements d (node l k r) = refl

pub default_body : (d : ℕ) (ck : Trees) → has_body (with_default d ck) ≡ has_body ck
unfolding has_body take_f drop_f append_f is ◌∶◌
default_body d end = refl
default_body d (node l k r) = refl

named_elements : (id d : Option ℕ) (c : Label) (ck more : Trees) → has_body ck ≡ true → Wider (elements_of ck) (extend_body more (name_class id d c ck))
unfolding name_class extend_body tree
named_elements (some i) d c ck more h l k x = below (has_with (append_f (elements_of ck) more) ck h l k (has_left (elements_of ck) more l k x))
named_elements none none c ck more h l k x = below (has_with (append_f (elements_of ck) more) ck h l k (has_left (elements_of ck) more l k x))
named_elements none (some d) c ck more h l k x =
    below (has_with (append_f (elements_of (with_default d ck)) more) (with_default d ck) (default_body d ck ∙ h) l k
    (has_left (elements_of (with_default d ck)) more l k (subst (λ f. Has l k f) (sym (default_elements d ck)) x)))

-- ---- decorated, by rule 6 and by the demand

or_grows : (a b c : Bool) → (b ≡ true → c ≡ true) → (a || b) ≡ true → (a || c) ≡ true
or_grows true b c h e = refl
or_grows false b c h e = h e

both_ways : (x y : Bool) → (x ≡ true → y ≡ true) → (y ≡ true → x ≡ true) → x ≡ y
both_ways true true f g = refl
both_ways true false f g = sym (f refl)
both_ways false true f g = g refl
both_ways false false f g = refl

first_if : (b : Bool) (p q : Trees) (z : Bool) → (not (is_empty q) ≡ true → z ≡ true) → not (is_empty (cond b p q)) ≡ true → ((b && not (is_empty p)) || z) ≡ true
first_if true p q z h e = rw e
first_if false p q z h e = h e

pub first_decorated : (f : Trees) → not (is_empty (first_constructor f)) ≡ true → constructor_decorated f ≡ true
unfolding first_constructor constructor_decorated is_empty
first_decorated end e = absurd (false≢true e)
first_decorated (node l k r) e = first_if (is_constructor l) (of_parameters 0 (parameters_of k)) (first_constructor r) (constructor_decorated r) (first_decorated r) e

decorated_class : (ck : Trees) → (is_decorated ck ≡ true → is_decorated_class ck ≡ true) → is_decorated ck ≡ is_decorated_class ck
unfolding is_decorated is_decorated_class
decorated_class ck h = both_ways _ _ h (or_grows (not (is_empty (decorators ck))) _ _ (first_decorated (elements_of ck)))

-- ---- the symbols of a class

named_outer : (b : Bool) (c n : ℕ) → (named_symbols b c n).outer ≡ c
unfolding named_symbols
named_outer true c n = refl
named_outer false c n = refl

named_alias : (b : Bool) (c n : ℕ) → taken Alias made (named_symbols b c n).fresh ≡ (named_symbols b c n).alias
unfolding named_symbols taken is same ◌∶◌
named_alias true c n = refl
named_alias false c n = refl

module _ (n : ℕ) (els : Trees) where
  symbols_chosen : (id d : Option ℕ) → Chosen id d (symbols_of id d n els).outer
  unfolding symbols_of
  symbols_chosen (some i) d = named_outer (any_f (is_ref i) els) i n
  symbols_chosen none (some d) = refl
  symbols_chosen none none = tt

  pub symbols_alias : (id d : Option ℕ) → taken Alias made (symbols_of id d n els).fresh ≡ (symbols_of id d n els).alias
  unfolding symbols_of
  symbols_alias (some c) d = named_alias (any_f (is_ref c) els) c n
  symbols_alias none (some d) = taken_empty Alias made
  symbols_alias none none = unfold taken is same ◌∶◌ in refl

  -- xs: what was reported for the class before
  symbols_named : (id d : Option ℕ) (xs : List Label) (put : Trees) → taken Default made xs ≡ d →
      Names id (taken Default made (xs ++ (symbols_of id d n els).fresh)) (symbols_of id d n els).outer put
  unfolding symbols_of
  symbols_named (some c) d xs put e = named_outer (any_f (is_ref c) els) c n
  symbols_named none (some d) xs put e = rw (append-nil, e) refl
  symbols_named none none xs put e =
      let x : taken Default made ((Default ∶ n) ∷ []) ≡ some n = unfold taken is same ◌∶◌ in refl in
      rw (taken_right Default made xs ((Default ∶ n) ∷ []) e, x) refl

some_symbol : Option ℕ → Option ℕ → ℕ
some_symbol (some i) d = i
some_symbol none (some d) = d
some_symbol none none = 0

some_chosen : (id d : Option ℕ) → Chosen id d (some_symbol id d)
unfolding some_symbol
some_chosen (some i) d = refl
some_chosen none (some d) = refl
some_chosen none none = tt

some_named : (id d : Option ℕ) (put : Trees) → (id ≡ none → d ≡ none → put ≡ end) → Names id d (some_symbol id d) put
unfolding some_symbol
some_named (some i) d put h = refl
some_named none (some d) put h = refl
some_named none none put h = h refl refl

-- ---- what is behind a class that is live and has no private-in test

module _ (F : List Label) (l c : Label) (ck : Trees) (kind : l.kind ≡ 4) (around : Around) (a : Result) (v : ClassVisited around c ck a) (live : around.live ≡ true)
    (id : around.id ≡ id_of ck) (seven : is_decorated ck ≡ true → is_decorated_class ck ≡ true) (rd : Read (node c ck end)) (once : Distinct (node c ck end))
    (agree : Agree F (node c ck end) a.fresh) where
  is_5 : is 5 l ≡ false
  unfolding is
  is_5 = rw kind

  once_elements : Distinct (elements_of ck)
  once_elements i = let z : count_at i (node c ck end) ≤ 1 = once i in omega (arith, elements_le i ck, unfolded i z)
    where
      unfolded : (i : ℕ) → count_at i (node c ck end) ≤ 1 → count_at i ck ≤ 1
      unfolded i h = unfold count_at in omega arith

  class_calls : (x : ℕ) (alias : Option ℕ) (ok : Trees) → MembersStand F x alias ok (elements_of v.kids) → Chosen around.id a.after.default x → Calls F x alias ok (elements_of ck) a.calls
  class_calls x alias ok stand h =
      rw v.calls (elements_calls F x alias ok (elements_of ck) around live v.element_roles v.shaped (read_elements ck rd.1) once_elements v.state (v.agree F once agree)
      (subst (λ f. MembersStand F x alias ok f) v.elements stand) (subst (λ (o : Option ℕ). Chosen around.id o x) v.default h)).0

  -- undecorated: the calls alone
  undecorated_behind : is_decorated ck ≡ false → taken Alias l.from F ≡ none → taken Default l.from F ≡ a.after.default →
      (around.id ≡ none → a.after.default ≡ none → a.calls ≡ end) → (ok : Trees) → Wider (elements_of v.kids) ok → Behind F l ck l ok a.calls
  unfolding append_f
  undecorated_behind e no-alias default no_members ok w =
      let x : ℕ = some_symbol around.id a.after.default in
      let d : is_decorated_class ck ≡ false = sym (decorated_class ck seven) ∙ e in
      let plain : Wider (renamed x none (elements_of v.kids)) ok = unfold renamed in w in
      record {
        symbol = x;
        calls = a.calls;
        assigned = end;
        whole = rw is_5 (sym (append_f_end a.calls));
        named = rw (← id, default) (some_named around.id a.after.default a.calls no_members);
        called = rw no-alias (class_calls x none ok (members_all F x none (elements_of v.kids) ok plain) (some_chosen around.id a.after.default));
        assign = rw d refl;
        became = rw d kind;
        bound = λ t. absurd (true≢false (sym t ∙ is_5));
        later = rw no-alias (stay_drop F x none ok (constructors (elements_of ck)) (stay_all F x none (elements_of ck) (elements_of v.kids) (class_bodies around c ck a v) ok plain));
      }

  -- decorated: the assignment and the export too
  decorated_behind : (s : Symbols) → Chosen around.id a.after.default s.outer → is_decorated ck ≡ true → taken Alias l.from F ≡ s.alias →
      (o : Label) → is 5 o ≡ true → o.kind ≡ 5 → o.payload ≡ s.outer → (ok : Trees) → Wider (bare_first (renamed s.outer s.alias (elements_of v.kids))) ok →
      ((put : Trees) → Names (id_of ck) (taken Default l.from F) s.outer put) →
      Behind F l ck o ok (append_f a.calls (append_f (assignment s.outer s.alias (append_f (decorators v.kids) (first_constructor (renamed s.outer s.alias (elements_of v.kids))))) (export l.payload s.outer)))
  decorated_behind s h e alias o five kind5 pay ok w named =
      let d : is_decorated_class ck ≡ true = sym (decorated_class ck seven) ∙ e in
      let els : Trees = elements_of v.kids in
      let B = class_bodies around c ck a v in
      record {
        symbol = s.outer;
        calls = a.calls;
        assigned = assignment s.outer s.alias (append_f (decorators v.kids) (first_constructor (renamed s.outer s.alias els)));
        whole = rw five;
        named = named _;
        called = rw alias (class_calls s.outer s.alias ok (members_bare F s.outer s.alias els ok w) h);
        assign = rw (d, alias) (
          decorators v.kids,
          first_constructor els,
          ap (λ f. assignment s.outer s.alias (append_f (decorators v.kids) f)) (renamed_first s.outer s.alias els),
          v.each,
          first_each (elements_of ck) els B,
        );
        became = rw d kind5;
        bound = λ t. pay;
        later = rw alias (stay_later F s.outer s.alias (elements_of ck) els B ok w);
      }

-- ---- what a statement gives

abbrev OneGives : Bool → List Label → Label → Trees → Trees → Type 0
OneGives b F l k f = (o : Label) × (ok : Trees) × (put : Trees) × (f ≡ node o ok put) × (o.from ≡ l.from) × Gives b F l k o ok put

-- the same of a class that is live, with the answer to whether it has a private-in test
abbrev LiveGives : Bool → List Label → Label → Trees → Trees → Type 0
LiveGives priv F l ck f = (o : Label) × (ok : Trees) × (put : Trees) × (f ≡ node o ok put) × (o.from ≡ l.from) × ((is 4 o || is 5 o) ≡ true) × ClassGives (not priv) F l ck o ok put

module _ (F : List Label) (l c : Label) (ck : Trees) (kind : l.kind ≡ 4) (around : Around) (a : Result) (v : ClassVisited around c ck a) (live : around.live ≡ true)
    (id : around.id ≡ id_of ck) (seven : is_decorated ck ≡ true → is_decorated_class ck ≡ true) (rd : Read (node c ck end)) (once : Distinct (node c ck end))
    (agree : Agree F (node c ck end) a.fresh) where
  four : (is 4 l || is 5 l) ≡ true
  unfolding is
  four = rw kind

  module _ (e : is_decorated ck ≡ false) (no-alias : taken Alias l.from F ≡ none) (default : taken Default l.from F ≡ a.after.default)
      (no_members : around.id ≡ none → a.after.default ≡ none → a.calls ≡ end) where
    behind' : (ok : Trees) → Wider (elements_of v.kids) ok → Behind F l ck l ok a.calls
    behind' = undecorated_behind F l c ck kind around a v live id seven rd once agree e no-alias default no_members

    without_calls : (priv : Bool) → is_empty a.calls ≡ true → ClassGives (not priv) F l ck l (node c v.kids end) end
    without_calls true h = refl
    without_calls false h = subst (λ p. Behind F l ck l (node c v.kids end) p) (empty_end a.calls h) (behind' (node c v.kids end) (λ m j x. below (has_elements v.kids m j x)))

    with_calls : (priv : Bool) (ok : Trees) → Wider (elements_of v.kids) ok → ClassGives (not priv) F l ck l ok (queued priv a.calls)
    unfolding queued
    with_calls true ok w = refl
    with_calls false ok w = behind' ok w

    undecorated_gives : (b : Bool) (d : Option ℕ) → is_empty a.calls ≡ b → LiveGives (has_private_in ck) F l ck (undecorated_if b ck d l c v.kids a.calls)
    unfolding undecorated_if append_f tree
    undecorated_gives true d h = (l, _, _, refl, refl, four, without_calls (has_private_in ck) h)
    undecorated_gives false d h =
        (l, _, _, refl, refl, four, with_calls (has_private_in ck) _ (named_elements (id_of ck) d c v.kids (call_block (has_private_in ck) a.calls) v.body))

  -- a let, or a class statement if the class has a private-in test
  decorated_as : (priv : Bool) (x : ℕ) (alias : Option ℕ) (cls q : Trees) → (Behind F l ck (become l 5 x) (aliased alias (tree (20 ∶ 0) cls)) q) →
      LiveGives priv F l ck (append_f (decorated_statement priv l x alias cls) (queued priv q))
  unfolding decorated_statement queued append_f tree
  decorated_as true x alias cls q b = (l, _, end, refl, refl, four, refl)
  decorated_as false x alias cls q b = (become l 5 x, _, _, refl, unfold become in refl, unfold become is in refl, b)

  decorated_gives : (s : Symbols) (outside : Option ℕ) → Chosen around.id a.after.default s.outer → is_decorated ck ≡ true → taken Alias l.from F ≡ s.alias →
      ((put : Trees) → Names (id_of ck) (taken Default l.from F) s.outer put) → LiveGives (has_private_in ck) F l ck (decorated₁ ck l c v.kids a.calls s outside).here
  unfolding decorated₁ decorated₂
  decorated_gives s outside h e alias named =
      let els : Trees = renamed s.outer s.alias (elements_of v.kids) in
      let static : Bool = has_static (elements_of ck) in
      let block : Trees = alias_block (block_alias s.alias static) in
      let rest : Trees = append_f (bare_first els) (call_block (has_private_in ck) a.calls) in
      let kids : Trees = undecorate (with_id s.inner v.kids) in
      let body : has_body kids ≡ true = body_undecorate (with_id s.inner v.kids) ∙ body_id s.inner v.kids ∙ v.body in
      let wide : Wider (bare_first els) (aliased (let_alias s.alias static) (tree (20 ∶ 0) (tree c (with_elements (append_f block rest) kids)))) = λ m k y.
      has_let (let_alias s.alias static) c _ m k (has_with (append_f block rest) kids body m k (has_right block rest m k (has_left (bare_first els) (call_block (has_private_in ck) a.calls) m k y))) in
      decorated_as (has_private_in ck) s.outer (let_alias s.alias static) _ _
      (decorated_behind F l c ck kind around a v live id seven rd once agree s h e alias (become l 5 s.outer) (unfold become is in refl) (unfold become in refl) (unfold become in refl) _ wide named)

  -- known: what the report says of the class, by what was not signed in its children's report and its own
  live_gives : (b : Bool) (outside : Option ℕ) → is_decorated ck ≡ b → taken Alias made a.fresh ≡ none → taken Default made a.fresh ≡ a.after.default →
      ((sort : ℕ) → taken sort l.from F ≡ taken sort made (a.fresh ++ (live_class_if b ck l c v.kids a.calls a.after outside).fresh)) →
      (around.id ≡ none → a.after.default ≡ none → a.calls ≡ end) → LiveGives (has_private_in ck) F l ck (live_class_if b ck l c v.kids a.calls a.after outside).here
  unfolding live_class_if decorated₁ decorated₂
  live_gives true outside e no-alias default known no_members =
      let els : Trees = elements_of v.kids in
      let s : Symbols = symbols_of (id_of ck) a.after.default a.after.next els in
      let fresh : (sort : ℕ) → taken sort l.from F ≡ taken sort made (a.fresh ++ s.fresh) = known in
      decorated_gives s outside (rw id (symbols_chosen a.after.next els (id_of ck) a.after.default)) e
      (fresh Alias ∙ taken_right Alias made a.fresh s.fresh no-alias ∙ symbols_alias a.after.next els (id_of ck) a.after.default)
      (λ put. rw (fresh Default) (symbols_named a.after.next els (id_of ck) a.after.default a.fresh put default))
  live_gives false outside e no-alias default known no_members =
      undecorated_gives e (known Alias ∙ ap (taken Alias made) (append-nil a.fresh) ∙ no-alias) (known Default ∙ ap (taken Default made) (append-nil a.fresh) ∙ default) no_members
      (is_empty a.calls) a.after.default refl

-- ---- class statements

-- what the report says of a class statement, read at i
module _ (F : List Label) (l : Label) (k : Trees) (s : State) (i : ℕ) (from : l.from ≡ read i) (around : Around) where
  pub class_report : count_at i k ≡ 0 → ((sort : ℕ) → taken sort (read i) F ≡ taken sort (read i) (one_as statement around l k s).fresh) → (sort : ℕ) →
      taken sort l.from F ≡ taken sort made ((visit (inside statement around k) k (entering statement s)).fresh ++
      (class_if (is_live k) l k s.default (visit (inside statement around k) k (entering statement s))).fresh)
  unfolding one_as work since own signed_by
  class_report n h sort =
      let a : Result = visit (inside statement around k) k (entering statement s) in
      ap (λ (x : Origin). taken sort x F) from ∙ h sort
      ∙ signed_own sort i l _ from (taken_none sort (read i) a.fresh _ (report_none sort i k (inside statement around k) (entering statement s) n) (class_if_other sort i (is_live k) l k s.default a))

module _ (F : List Label) (l c : Label) (ck : Trees) (kind : l.kind ≡ 4) (s : State) (shape : ClassOnly (node c ck end)) (seven : Settled (node c ck end)) (shaped : Shaped (node c ck end))
    (rd : Read (node c ck end)) (once : Distinct (node c ck end)) (default : s.default ≡ none) (outside : Option ℕ) where
  abbrev around : Around
  around = record { live = is_live (node c ck end); id = id_of ck }

  abbrev a : Result
  a = visit (record { live = is_live (node c ck end); id = id_of ck }) (node c ck end) s

  class_if_gives : (b : Bool) → is_live (node c ck end) ≡ b → Agree F (node c ck end) a.fresh →
      ((sort : ℕ) → taken sort l.from F ≡ taken sort made (a.fresh ++ (class_if b l (node c ck end) outside a).fresh)) →
      OneGives true F l (node c ck end) (class_if b l (node c ck end) outside a).here
  unfolding class_if dead_class live_class class_kids tree
  class_if_gives false e agree known =
      (l, a.here, end, refl, refl, (unfold is in rw kind, subst (λ (x : Bool). ClassGives (x && not (has_private_in ck)) F l ck l a.here end) (sym e) refl))
  class_if_gives true e agree known =
      let v : ClassVisited around c ck a = class_visited around c ck s shape.0 shape.1 shaped.1 in
      let same = ap (λ (f : Trees). live_class ck l f a.calls a.after outside) v.shape in
      let d : taken Default made a.fresh ≡ a.after.default = subst (λ (x : Option ℕ). After x a.fresh a.after.default) default (default_visit (node c ck end) around s rd) in
      let u = live_gives F l c ck kind around a v e refl (seven e) rd once agree (is_decorated ck) outside refl (visit_signed Alias (node c ck end) around s rd refl) d
      (λ sort. known sort ∙ ap (λ (x : Result). taken sort made (a.fresh ++ x.fresh)) same) (λ n h. nameless_calls (node c ck end) around s rd n h) in
      (u.0, u.1, u.2, ap (λ (x : Result). x.here) same ∙ u.3, u.4, (u.5, subst (λ (x : Bool). ClassGives (x && not (has_private_in ck)) F l ck u.0 u.1 u.2) (sym e) u.6))

statement_gives : (F : List Label) (around : Around) (l : Label) (k : Trees) (s : State) (i : ℕ) → l.from ≡ read i → l.kind ≡ 4 → ClassOnly k → Settled k → Shaped k → Read k → Distinct k →
    count_at i k ≡ 0 → Agree F k (visit (inside statement around k) k (entering statement s)).fresh →
    ((sort : ℕ) → taken sort (read i) F ≡ taken sort (read i) (one_as statement around l k s).fresh) → OneGives true F l k (one_as statement around l k s).here
statement_gives F around l end s i from kind h seven shaped rd once n agree known = absurd h
statement_gives F around l (node c ck end) s i from kind h seven shaped rd once n agree known =
    given (λ sort. class_report F l (node c ck end) s i from around n known sort) agree
  where
    given : ((sort : ℕ) → taken sort l.from F ≡ taken sort made ((visit (inside statement around (node c ck end)) (node c ck end) (entering statement s)).fresh ++
        (class_if (is_live (node c ck end)) l (node c ck end) s.default (visit (inside statement around (node c ck end)) (node c ck end) (entering statement s))).fresh)) →
        Agree F (node c ck end) (visit (inside statement around (node c ck end)) (node c ck end) (entering statement s)).fresh → OneGives true F l (node c ck end) (one_as statement around l (node c ck end) s).here
    given known agree = unfold one_as work since own inside entering class_kids in
        class_if_gives F l c ck kind (record { next = s.next; default = none }) h seven shaped rd once refl s.default (is_live (node c ck end)) refl agree known
statement_gives F around l (node c ck (node x y z)) s i from kind h seven shaped rd once n agree known = absurd h

-- ---- any statement

module_gives : (F : List Label) (l : Label) (f k : Trees) (n : ℕ) → OneGives false F l k (whole_module l f n)
unfolding whole_module repay tree
module_gives F l end k n = (l, _, end, refl, refl, (refl, refl))
module_gives F l (node s sk r) k n = (_, _, end, refl, refl, (refl, refl))

one_gives : (F : List Label) (r : Role) (around : Around) (l : Label) (k : Trees) (s : State) (i : ℕ) → l.from ≡ read i → role_of l ≡ r → Shape r k → Shaped k → Read k → Distinct k → count_at i k ≡ 0 →
    Agree F k (visit (inside r around k) k (entering r s)).fresh → ((sort : ℕ) → taken sort (read i) F ≡ taken sort (read i) (one_as r around l k s).fresh) →
    OneGives (statement_role r) F l k (one_as r around l k s).here
one_gives F module' around l k s i f e h a rd once n agree known = unfold one_as work since own inside entering statement_role in module_gives F l (visit around k s).here k _
one_gives F list around l k s i f e h a rd once n agree known = unfold one_as work since own recount repay tree statement_role in (_, _, end, refl, refl, (refl, refl))
one_gives F statement around l k s i f e h a rd once n agree known = unfold statement_role in statement_gives F around l k s i f (statement_kind l e) h.0 h.1 a rd once n agree known
one_gives F expression around l k s i f e h a rd once n agree known = unfold one_as work since own dead_class tree statement_role in (_, _, end, refl, refl, (refl, refl))
one_gives F method around l k s i f e h a rd once n agree known =
    let b : Result = visit around k s in
    let m = member_if_here (around.live && is_decorated_member l k) around l k (bare_method b.here) (decorators_of method b.here) (13 ∶ 0) b in
    unfold one_as work since own member inside entering statement_role in (l, m.0, end, m.1, refl, (refl, refl))
one_gives F constructor around l k s i f e h a rd once n agree known = unfold one_as work since own kept tree statement_role in (_, _, end, refl, refl, (refl, refl))
one_gives F plain around l k s i f e h a rd once n agree known = unfold one_as work since own kept tree statement_role in (_, _, end, refl, refl, (refl, refl))
one_gives F (field d) around l k s i f e h a rd once n agree known =
    let b : Result = visit around k s in
    let m = member_if_here (around.live && is_decorated_member l k) around l k (bare_field b.here) (decorators b.here) d b in
    unfold one_as work since own member inside entering statement_role in (l, m.0, end, m.1, refl, (refl, refl))

-- a list of statements that is visited, in any state
pub listed : (F : List Label) (ss : Trees) (around : Around) (s : State) → Read ss → Distinct ss → Shaped ss → Agree F ss (visit around ss s).fresh → Listed F ss (visit around ss s).here
unfolding append_f
listed F end around s rd once h agree = ap (λ (x : Result). x.here) (visit_end around s)
listed F (node l k ss) around s rd once h agree =
    let i : ℕ = rd.0.0 in
    let from : l.from ≡ read i = rd.0.1 in
    let o : Result = visit_one around l k s in
    let u : OneGives (statement_role (role_of l)) F l k o.here =
    rw one_role_lem (one_gives F (role_of l) around l k s i from refl h.0 h.1 rd.1 (once_kids F around l k ss s once agree) (none' i from (once i)) (agree_kids F around l k ss s once agree)
    (λ sort. agree_one F around l k ss s once agree sort i from ∙ ap (λ (x : Result). taken sort (read i) x.fresh) (one_role_lem around l k s))) in (
      u.0,
      u.1,
      u.2,
      (visit around ss o.after).here,
      visit_here around l k ss s ∙ ap (λ f. append_f f (visit around ss o.after).here) u.3,
      u.4,
      subst (λ (b : Bool). Gives b F l k u.0 u.1 u.2) (sym (statement_role_lem l)) u.5,
      listed F ss around o.after rd.2 (once_rest F around l k ss s once agree) h.2 (agree_rest F around l k ss s once agree),
    )
  where
    none' : (i : ℕ) → l.from ≡ read i → count_at i (node l k ss) ≤ 1 → count_at i k ≡ 0
    none' i from h = unfold count_at in omega (arith, at_from i l from)
