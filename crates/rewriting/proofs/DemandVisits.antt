-- The visit of decorators, parameters, and of all that stands beside the members of a class. Assumes nothing.
use Rattle.std.specs.Prelude.{◌≡◌, refl, Bool, true, false, ℕ, suc}
use Rattle.std.proofs.Common.{ap, sym, ◌∙◌, subst}
use Rattle.std.proofs.lemmas.Bool.{false≢true}
use Rattle.std.specs.declared.option.Option.{Option}
use Rattle.records.specs.Forest.{end, node, append_f}
use Rattle.records.specs.Label.{Label, Origin, Trees, ◌∶◌, is}
use Rattle.rewriting.specs.Parts.{tree, kids_of, Role, module', list, statement, expression, method, constructor, plain, field, role_of, decorators, indexed, of_parameters, parameters_of, decorators_of, is_live, class_kids}
use Rattle.rewriting.specs.Visit.{Result, kept, own, work, since, inside, entering, join, ◌then◌, visit, visit_one, visit_end, visit_node, dead_class, class_if, live_class, live_class_if, decorated₁, decorated₂}
use Rattle.rewriting.specs.declared.Around.{Around}
use Rattle.rewriting.specs.declared.State.{State}
use Rattle.rewriting.specs.Demand.{Below, AsVisited}
use Rattle.rewriting.proofs.DemandShapes.{WasRead, role_28, role_36, role_37, one_role, NoMembersAs, NoMembers, Exprs, Head, Params, MethodKids, FieldKids}

-- ---- one record, by its role

unfoldable pub one_as : Role → Around → Label → Trees → State → Result
one_as r around l k s = work r around l k s.default (visit (inside r around k) k (entering r s))

pub one_role_lem : (around : Around) (l : Label) (k : Trees) (s : State) → visit_one around l k s ≡ one_as (role_of l) around l k s
unfolding visit_one one_as
one_role_lem around l k s = refl

pub visit_here : (around : Around) (l : Label) (k r : Trees) (s : State) →
    (visit around (node l k r) s).here ≡ append_f (visit_one around l k s).here (visit around r (visit_one around l k s).after).here
unfolding ◌then◌ join
visit_here around l k r s = ap (λ (x : Result). x.here) (visit_node around l k r s)

pub visit_calls : (around : Around) (l : Label) (k r : Trees) (s : State) →
    (visit around (node l k r) s).calls ≡ append_f (visit_one around l k s).calls (visit around r (visit_one around l k s).after).calls
unfolding ◌then◌ join
visit_calls around l k r s = ap (λ (x : Result). x.calls) (visit_node around l k r s)

pub visit_after : (around : Around) (l : Label) (k r : Trees) (s : State) →
    (visit around (node l k r) s).after ≡ (visit around r (visit_one around l k s).after).after
unfolding ◌then◌ join
visit_after around l k r s = ap (λ (x : Result). x.after) (visit_node around l k r s)

abbrev pub Visited : Label → Trees → Trees → Type 0
Visited l k f = (around : Around) × (s : State) × (f ≡ node l (visit around k s).here end)

one_as_lem : (r : Role) (around : Around) (l : Label) (k : Trees) (s : State) → one_role r ≡ true → Visited l k (one_as r around l k s).here
unfolding one_as one_role work since own kept dead_class inside entering tree
one_as_lem module' around l k s e = absurd (false≢true e)
one_as_lem list around l k s e = absurd (false≢true e)
one_as_lem statement around l k s e = absurd (false≢true e)
one_as_lem expression around l k s e = (_, _, refl)
one_as_lem method around l k s e = absurd (false≢true e)
one_as_lem constructor around l k s e = absurd (false≢true e)
one_as_lem plain around l k s e = (_, _, refl)
one_as_lem (field d) around l k s e = absurd (false≢true e)

pub one_visited : (around : Around) (l : Label) (k : Trees) (s : State) → one_role (role_of l) ≡ true → Visited l k (visit_one around l k s).here
one_visited around l k s e = rw one_role_lem (one_as_lem (role_of l) around l k s e)

-- a plain record: its children are visited where it stands
module _ (around : Around) (l : Label) (k : Trees) (s : State) (e : role_of l ≡ plain) where
  pub plain_here : (visit_one around l k s).here ≡ node l (visit around k s).here end
  unfolding visit_one work since own kept inside entering tree
  plain_here = rw e

  pub plain_calls : (visit_one around l k s).calls ≡ (visit around k s).calls
  unfolding visit_one work since own kept inside entering
  plain_calls = rw e

  pub plain_after : (visit_one around l k s).after ≡ (visit around k s).after
  unfolding visit_one work since own kept inside entering
  plain_after = rw e

-- ---- a list of expressions

pub visit_first : (around : Around) (l : Label) (k r : Trees) (s : State) (x : Trees) → (visit_one around l k s).here ≡ node l x end →
    (visit around (node l k r) s).here ≡ node l x (visit around r (visit_one around l k s).after).here
unfolding append_f
visit_first around l k r s x e = visit_here around l k r s ∙ ap (λ f. append_f f (visit around r (visit_one around l k s).after).here) e

below_read : (l : Label) (A : Type 0) (k j : Trees) → WasRead l → (x : Around) × (t : State) × (j ≡ (visit x k t).here) → Below l.from A k j
below_read l A k j w v = subst (λ (o : Origin). Below o A k j) (sym w.1) v

-- one record as it is visited
pub one_each : (l : Label) (k j : Trees) → WasRead l → (x : Around) × (t : State) × (j ≡ (visit x k t).here) → AsVisited (node l k end) (node l j end)
one_each l k j w v = (refl, below_read l (AsVisited k j) k j w v, tt)

visit_each : (f : Trees) (around : Around) (s : State) → Exprs f → AsVisited f (visit around f s).here
visit_each end around s h = rw visit_end tt
visit_each (node l k r) around s h =
    let v : Visited l k (visit_one around l k s).here = one_visited around l k s h.0 in
    let j : Trees = (visit v.0 k v.1).here in
    rw (visit_first around l k r s _ v.2) (refl, below_read l (AsVisited k j) k j h.1 (v.0, v.1, refl), visit_each r around (visit_one around l k s).after h.2)

pub each_append : (f g h j : Trees) → AsVisited f g → AsVisited h j → AsVisited (append_f f h) (append_f g j)
unfolding append_f
each_append end end h j p q = q
each_append end (node m i g) h j p q = absurd p
each_append (node l k f) end h j p q = absurd p
each_append (node l k f) (node m i g) h j p q = (p.0, p.1, each_append f g h j p.2 q)

pub each_end : (f g : Trees) → f ≡ end → AsVisited f g → g ≡ end
each_end f g e v = go g (subst (λ x. AsVisited x g) e v)
  where
    go : (g : Trees) → AsVisited end g → g ≡ end
    go end h = refl
    go (node m j g) h = absurd h

-- under a 23 each
indexed_each : (f : Trees) (i : ℕ) (around : Around) (s : State) → Exprs f → AsVisited (indexed i f) (indexed i (visit around f s).here)
unfolding indexed tree ◌∶◌
indexed_each end i around s h = rw visit_end tt
indexed_each (node l k r) i around s h =
    let v : Visited l k (visit_one around l k s).here = one_visited around l k s h.0 in
    rw (visit_first around l k r s _ v.2) (refl, one_each l k (visit v.0 k v.1).here h.1 (v.0, v.1, refl), indexed_each r i around (visit_one around l k s).after h.2)

-- ---- children that begin with a 28

decorators_visit : (around : Around) (d : Label) (ds r : Trees) (s : State) → d.kind ≡ 28 →
    decorators (visit around (node d ds r) s).here ≡ (visit around ds s).here
unfolding decorators is
decorators_visit around d ds r s e = rw (visit_first around d ds r s _ (plain_here around d ds s (role_28 d e)), e)

decorators_read : (d : Label) (ds r : Trees) → d.kind ≡ 28 → decorators (node d ds r) ≡ ds
unfolding decorators is
decorators_read d ds r e = rw e

pub head_each : (k : Trees) (around : Around) (s : State) → Head k → AsVisited (decorators k) (decorators (visit around k s).here)
head_each end around s h = absurd h
head_each (node d ds r) around s h = rw (decorators_visit around d ds r s h.0, decorators_read d ds r h.0) (visit_each ds around s h.1)

head_indexed : (k : Trees) (i : ℕ) (around : Around) (s : State) → Head k → AsVisited (indexed i (decorators k)) (indexed i (decorators (visit around k s).here))
head_indexed end i around s h = absurd h
head_indexed (node d ds r) i around s h = rw (decorators_visit around d ds r s h.0, decorators_read d ds r h.0) (indexed_each ds i around s h.1)

params_each : (f : Trees) (i : ℕ) (around : Around) (s : State) → Params f → AsVisited (of_parameters i f) (of_parameters i (visit around f s).here)
unfolding of_parameters
params_each end i around s h = rw visit_end tt
params_each (node p pk r) i around s h =
    rw (visit_first around p pk r s _ (plain_here around p pk s (role_37 p h.0)))
    (each_append (indexed i (decorators pk)) (indexed i (decorators (visit around pk s).here)) (of_parameters (suc i) r) _
    (head_indexed pk i around s h.1) (params_each r (suc i) around (visit_one around p pk s).after h.2))

-- ---- the children of a method

-- its parameters are the children of the third
pub parameters_read : (d : Label) (xs : Trees) (key : Label) (ys : Trees) (ps : Label) (zs code : Trees) → d.kind ≡ 28 → is 36 key ≡ false → ps.kind ≡ 36 →
    parameters_of (node d xs (node key ys (node ps zs code))) ≡ zs
unfolding parameters_of kids_of is
parameters_read d xs key ys ps zs code e h g = rw (e, h, g)

pub record MethodVisited (around : Around) (d : Label) (ds : Trees) (key : Label) (kk : Trees) (ps : Label) (pk rest f : Trees) : Type 0 where
  pub xs : Trees
  pub key_kids : Trees
  pub state : State
  pub code : Trees
  pub shape : f ≡ node d xs (node key key_kids (node ps (visit around pk state).here code))
  pub key_visited : (around : Around) × (s : State) × (key_kids ≡ (visit around kk s).here)
  pub code_visited : (s : State) × (code ≡ (visit around rest s).here)

pub method_visited : (around : Around) (d : Label) (ds : Trees) (key : Label) (kk : Trees) (ps : Label) (pk code : Trees) (s : State) →
    MethodKids (node d ds (node key kk (node ps pk code))) →
    MethodVisited around d ds key kk ps pk code (visit around (node d ds (node key kk (node ps pk code))) s).here
method_visited around d ds key kk ps pk code s h =
    let s1 : State = (visit_one around d ds s).after in
    let v : Visited key kk (visit_one around key kk s1).here = one_visited around key kk s1 h.2 in
    let s2 : State = (visit_one around key kk s1).after in
    record {
      xs = (visit around ds s).here;
      key_kids = (visit v.0 kk v.1).here;
      state = s2;
      code = (visit around code (visit_one around ps pk s2).after).here;
      shape = visit_first around d ds (node key kk (node ps pk code)) s _ (plain_here around d ds s (role_28 d h.0))
          ∙ ap (node d (visit around ds s).here) (visit_first around key kk (node ps pk code) s1 _ v.2
          ∙ ap (node key (visit v.0 kk v.1).here) (visit_first around ps pk code s2 _ (plain_here around ps pk s2 (role_36 ps h.4))));
      key_visited = (v.0, v.1, refl);
      code_visited = ((visit_one around ps pk s2).after, refl);
    }

-- its parameters' decorators
pub parameters_each : (k : Trees) (around : Around) (s : State) → MethodKids k →
    AsVisited (of_parameters 0 (parameters_of k)) (of_parameters 0 (parameters_of (visit around k s).here))
parameters_each end around s h = absurd h
parameters_each (node d ds end) around s h = absurd h
parameters_each (node d ds (node key kk end)) around s h = absurd h
parameters_each (node d ds (node key kk (node ps pk code))) around s h =
    let m = method_visited around d ds key kk ps pk code s h in
    rw (
      m.shape,
      parameters_read d m.xs key m.key_kids ps (visit around pk m.state).here m.code h.0 h.3 h.4,
      parameters_read d ds key kk ps pk code h.0 h.3 h.4,
    )
    (params_each pk 0 around m.state h.5)

pub method_head : (k : Trees) → MethodKids k → Head k
method_head end h = absurd h
method_head (node d ds end) h = absurd h
method_head (node d ds (node key kk end)) h = absurd h
method_head (node d ds (node key kk (node ps pk code))) h = (h.0, h.1)

pub field_head : (k : Trees) → FieldKids k → Head k
field_head end h = absurd h
field_head (node d ds end) h = absurd h
field_head (node d ds (node key kk r)) h = (h.0, h.1)

-- the entries of its array
pub method_each : (k : Trees) (around : Around) (s : State) → MethodKids k →
    AsVisited (decorators_of method k) (decorators_of method (visit around k s).here)
unfolding decorators_of
method_each k around s h = each_append _ _ _ _ (head_each k around s (method_head k h)) (parameters_each k around s h)

pub field_each : (k : Trees) (around : Around) (s : State) → FieldKids k → AsVisited (decorators k) (decorators (visit around k s).here)
field_each k around s h = head_each k around s (field_head k h)

-- ---- no calls, and the default symbol as it was, where no member stands

pub record NoCalls (r : Result) (d : Option ℕ) : Type 0 where
  pub calls : r.calls ≡ end
  pub default : r.after.default ≡ d

live_if_without_calls : (b : Bool) (rk : Trees) (l c : Label) (ck calls : Trees) (s : State) (outside : Option ℕ) → NoCalls (live_class_if b rk l c ck calls s outside) outside
unfolding live_class_if decorated₁ decorated₂
live_if_without_calls true rk l c ck calls s outside = record { calls = refl; default = refl }
live_if_without_calls false rk l c ck calls s outside = record { calls = refl; default = refl }

live_without_calls : (rk : Trees) (l : Label) (cls calls : Trees) (s : State) (outside : Option ℕ) → NoCalls (live_class rk l cls calls s outside) outside
unfolding live_class
live_without_calls rk l end calls s outside = record { calls = refl; default = refl }
live_without_calls rk l (node c ck r) calls s outside = live_if_without_calls _ rk l c _ _ s outside

pub class_if_without_calls : (b : Bool) (l : Label) (k : Trees) (outside : Option ℕ) (a : Result) → NoCalls (class_if b l k outside a) outside
unfolding class_if dead_class
class_if_without_calls true l k outside a = live_without_calls (class_kids k) l a.here a.calls a.after outside
class_if_without_calls false l k outside a = record { calls = refl; default = refl }

as_without_calls : (r : Role) (around : Around) (l : Label) (k : Trees) (s : State) (Q : Type 0) → NoMembersAs r Q →
    ((around : Around) (s : State) → Q → NoCalls (visit around k s) s.default) → NoCalls (one_as r around l k s) s.default
unfolding one_as work own kept dead_class inside entering since
as_without_calls module' around l k s Q q h = record { calls = (h around s q).calls; default = (h around s q).default }
as_without_calls list around l k s Q q h = record { calls = (h around s q).calls; default = (h around s q).default }
as_without_calls statement around l k s Q q h =
    let a : Result = visit (inside statement around k) k (entering statement s) in
    let c = class_if_without_calls (is_live k) l k s.default a in
    record { calls = c.calls; default = c.default }
as_without_calls expression around l k s Q q h = record { calls = refl; default = refl }
as_without_calls method around l k s Q q h = absurd q
as_without_calls constructor around l k s Q q h = record { calls = (h around s q).calls; default = (h around s q).default }
as_without_calls plain around l k s Q q h = record { calls = (h around s q).calls; default = (h around s q).default }
as_without_calls (field d) around l k s Q q h = absurd q

pub append_ends : (f g : Trees) → f ≡ end → g ≡ end → append_f f g ≡ end
unfolding append_f
append_ends f g e h = rw (e, h)

pub no_members_visit : (f : Trees) (around : Around) (s : State) → NoMembers f → NoCalls (visit around f s) s.default
no_members_visit end around s h = rw visit_end (record { calls = refl; default = refl })
no_members_visit (node l k r) around s h =
    let a : NoCalls (visit_one around l k s) s.default = rw one_role_lem (as_without_calls (role_of l) around l k s (NoMembers k) h.0 (λ x t q. no_members_visit k x t q)) in
    let b = no_members_visit r around (visit_one around l k s).after h.1 in
    record {
      calls = visit_calls around l k r s ∙ append_ends (visit_one around l k s).calls (visit around r (visit_one around l k s).after).calls a.calls b.calls;
      default = ap (λ (t : State). t.default) (visit_after around l k r s) ∙ b.default ∙ a.default;
    }
