-- Records that stand in no class's body queue nothing for the class around. Assumes nothing.
use Rattle.std.specs.Prelude.{◌≡◌, Bool, true, false, ◌&&◌, not, ℕ, eqb}
use Rattle.std.proofs.Math.Path.{refl}
use Rattle.std.proofs.Common.{ap, ◌∙◌, arith}
use Rattle.std.specs.declared.option.Option.{Option}
use Rattle.words.specs.Table.{lookup}
use Rattle.records.specs.Forest.{end, node, append_f}
use Rattle.records.specs.Label.{Label, Trees, is}
use Rattle.rewriting.specs.Parts.{Role, module', list, statement, expression, method, constructor, plain, field, role_of, is_member, is_decorated, is_live, class_kids}
use Rattle.rewriting.specs.Visit.{Result, own, kept, dead_class, class_if, live_class, live_class_if, decorated₁, decorated₂, since, work, inside, entering, visit, visit_one, visit_end}
use Rattle.rewriting.specs.declared.Around.{Around}
use Rattle.rewriting.specs.declared.State.{State}
use Rattle.alias_search.specs.Mentions.{is_other}
use Rattle.alias_search.specs.Visited.{calls_node}
use Rattle.alias_search.specs.Roles.{role_at, tag, keeps, not_kind, Sort, a_module, a_statement, a_method, a_field, kept_one, sort_of}
use Rattle.alias_search.specs.Formed.{Each, Standing, Formed, is_quiet, kids_quiet}

-- a class statement
live_calls : (b : Bool) (rk : Trees) (l m : Label) (ck calls : Trees) (s : State) (outside : Option ℕ) → (live_class_if b rk l m ck calls s outside).calls ≡ end
unfolding live_class_if decorated₁ decorated₂
live_calls true rk l m ck calls s outside = refl
live_calls false rk l m ck calls s outside = refl

class_calls : (b : Bool) (l : Label) (k : Trees) (outside : Option ℕ) (a : Result) → (class_if b l k outside a).calls ≡ end
unfolding class_if dead_class
class_calls true l k outside a = go a.here
  where
    go : (f : Trees) → (live_class (class_kids k) l f a.calls a.after outside).calls ≡ end
    go end = unfold live_class in refl
    go (node m ck r) = unfold live_class in live_calls (is_decorated (class_kids k)) (class_kids k) l m ck a.calls a.after outside
class_calls false l k outside a = refl

-- a record that keeps its children
own_calls : (r : Role) → keeps r ≡ true → (around : Around) (l : Label) (k : Trees) (outside : Option ℕ) (a : Result) → (eqb 3 (tag r) ≡ false → a.calls ≡ end) →
    (own r around l k outside a).calls ≡ end
unfolding own keeps tag kept dead_class
own_calls list e around l k outside a h = h refl
own_calls expression e around l k outside a h = refl
own_calls constructor e around l k outside a h = h refl
own_calls plain e around l k outside a h = h refl
own_calls module' e around l k outside a h = let z : ◌≡◌ {A = ℕ} 0 1 = cc in absurd (omega arith)
own_calls statement e around l k outside a h = let z : ◌≡◌ {A = ℕ} 0 1 = cc in absurd (omega arith)
own_calls method e around l k outside a h = let z : ◌≡◌ {A = ℕ} 0 1 = cc in absurd (omega arith)
own_calls (field d) e around l k outside a h = let z : ◌≡◌ {A = ℕ} 0 1 = cc in absurd (omega arith)

quiet_parts : (l : Label) → is_quiet l ≡ true → (is 26 l ≡ false) × (is 29 l ≡ false) × (is_member l ≡ false)
unfolding is_quiet
quiet_parts l e = go (is 26 l) (is 29 l) (is_member l) e
  where
    go : (a b c : Bool) → (not a && not b && not c) ≡ true → (a ≡ false) × (b ≡ false) × (c ≡ false)
    go false false false e = (refl, refl, refl)
    go false false true e = let z : ◌≡◌ {A = ℕ} 0 1 = cc in absurd (omega arith)
    go false true c e = let z : ◌≡◌ {A = ℕ} 0 1 = cc in absurd (omega arith)
    go true b c e = let z : ◌≡◌ {A = ℕ} 0 1 = cc in absurd (omega arith)

module _ (around : Around) (l : Label) (k : Trees) (s : State) (m : Standing l k) (q : is_quiet l ≡ true)
    (later : (around' : Around) (t : State) → Each is_quiet k → (visit around' k t).calls ≡ end) where
  no_member_lem : is_member l ≡ true → ⊥
  no_member_lem e = let d : is_member l ≡ false = (quiet_parts l q).2 in let z : ◌≡◌ {A = ℕ} 0 1 = cc in omega arith

  quiet_kids : is 4 l ≡ false → is 20 l ≡ false → (visit (inside (role_of l) around k) k (entering (role_of l) s)).calls ≡ end
  quiet_kids a b = later _ _ (kids_quiet l k a b (quiet_parts l q).0 (quiet_parts l q).1 m)

  pub one_calls : (visit_one around l k s).calls ≡ end
  unfolding visit_one work since role_at lookup tag own
  one_calls = go (sort_of l)
    where
      a : Result
      a = visit (inside (role_of l) around k) k (entering (role_of l) s)

      go : Sort l → (own (role_of l) around l k s.default a).calls ≡ end
      go (a_module h e) = ap (λ (r : Role). (own r around l k s.default a).calls) e ∙ quiet_kids (is_other 1 4 l h refl) (is_other 1 20 l h refl)
      go (a_statement h e) = ap (λ (r : Role). (own r around l k s.default a).calls) e ∙ class_calls (is_live k) l k s.default a
      go (a_method h e) = absurd (no_member_lem h)
      go (a_field d _ _ h e) = absurd (no_member_lem h)
      go (kept_one e _ h) = own_calls (role_of l) e around l k s.default a (λ g. quiet_kids h (not_kind 20 l (role_of l) refl g))

pub no_calls : (around : Around) (f : Trees) (s : State) → Formed f → Each is_quiet f → (visit around f s).calls ≡ end
unfolding Formed Each append_f
no_calls around end s m q = rw visit_end
no_calls around (node l k r) s m q =
    calls_node around l k r s
    ∙ rw (one_calls around l k s m.0 q.0 (λ around' t e. no_calls around' k t m.1 e), no_calls around r (visit_one around l k s).after m.2 q.1)
