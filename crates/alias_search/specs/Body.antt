-- The children of a class: its elements are visited as a row of their own, and all that the class queues comes from them. Assumes nothing.
use Rattle.std.proofs.Math.Path.{◌≡◌, refl, ap}
use Rattle.std.proofs.Common.{sym, subst, ◌∙◌, arith}
use Rattle.std.specs.Prelude.{Bool, ◌&&◌, ◌||◌, not, cond, ℕ}
use Rattle.std.proofs.Math.Bool.{true, false}
use Rattle.std.specs.declared.option.Option.TheVariants.{None as none, Some as some}
use Rattle.words.specs.Table.{lookup}
use Rattle.records.specs.Forest.{end, node, append_f, append_f_end}
use Rattle.records.specs.Label.{Label, Trees, is, ◌∶◌}
use Rattle.rewriting.specs.Parts.{tree, plain, role_of, kids_of, is_member, elements_of, symbol_if, id_of}
use Rattle.rewriting.specs.Visit.{own, kept, since, work, inside, entering, visit, visit_one, visit_end}
use Rattle.rewriting.specs.declared.Around.{Around}
use Rattle.rewriting.specs.declared.State.{State}
use Rattle.alias_search.specs.Mentions.{is_other}
use Rattle.alias_search.specs.Visited.{here_node, calls_node}
use Rattle.alias_search.specs.Older.{Older, one_older}
use Rattle.alias_search.specs.Roles.{role_at, role_kind}
use Rattle.alias_search.specs.Kept.{one_over}
use Rattle.alias_search.specs.Formed.{Each, OneBody, Standing, Formed, may_hold, held_not, each_map, keeps_one, is_quiet, kids_kept, not_list}
use Rattle.alias_search.specs.Quiet.{no_calls, one_calls}

unfoldable pub has_body : Trees → Bool
has_body end = false
has_body (node l k r) = is 29 l || has_body r

-- a child of a class other than its body queues nothing
unfoldable pub is_part : Label → Bool
is_part x = not (is 26 x) && not (is_member x)

part_quiet : (x : Label) → is_part x ≡ true → is 29 x ≡ false → is_quiet x ≡ true
unfolding is_part is_quiet
part_quiet x p e = rw e (go (is 26 x) (is_member x) p)
  where
    go : (a b : Bool) → (not a && not b) ≡ true → (not a && true && not b) ≡ true
    go true b e = e
    go false b e = e

parts_quiet : (f : Trees) → Each is_part f → Each (λ x. not (is 29 x)) f → Each is_quiet f
unfolding Each
parts_quiet end p e = tt
parts_quiet (node l k r) p e = (part_quiet l p.0 (other (is 29 l) e.0), parts_quiet r p.1 e.1)
  where
    other : (b : Bool) → not b ≡ true → b ≡ false
    other true e = sym e
    other false e = refl

-- ck and calls are what the class's children rk become, and t is the state in which its elements are visited
pub record Located (c : ℕ) (around : Around) (rk ck calls : Trees) : Type 0 where
  pub state : State
  pub older : Older c state
  pub elements : elements_of ck ≡ (visit around (elements_of rk) state).here
  pub queue : calls ≡ (visit around (elements_of rk) state).calls
  pub bodiless : has_body ck ≡ false → calls ≡ end

module _ (c : ℕ) (around : Around) where
  -- a record without work of its own
  pub plain_one : (l : Label) (k : Trees) (s : State) → role_of l ≡ plain → ((visit_one around l k s).here ≡ node l (visit around k s).here end) × ((visit_one around l k s).calls ≡ (visit around k s).calls)
  unfolding visit_one work since
  plain_one l k s e = (rw e (unfold own kept inside entering tree in refl), rw e (unfold own kept inside entering in refl))

  first_body : (l : Label) (k r : Trees) (s : State) → is 29 l ≡ true → Older c s → Formed r → Each is_quiet r →
      Located c around (node l k r) (visit around (node l k r) s).here (visit around (node l k r) s).calls
  unfolding elements_of kids_of has_body append_f
  first_body l k r s i o m q =
      let p : role_of l ≡ plain = role_kind 29 l i ∙ (unfold role_at lookup in refl) in
      let t : State = (visit_one around l k s).after in
      let here : (visit around (node l k r) s).here ≡ node l (visit around k s).here (visit around r t).here =
      here_node around l k r s ∙ ap (λ (f : Trees). append_f f (visit around r t).here) (plain_one l k s p).0 in
      let calls : (visit around (node l k r) s).calls ≡ (visit around k s).calls =
      calls_node around l k r s ∙ rw ((plain_one l k s p).1, no_calls around r t m q) (append_f_end (visit around k s).calls) in
      record {
        state = s;
        older = o;
        elements = ap (kids_of 29) here ∙ rw i;
        queue = calls ∙ rw i;
        bodiless = λ e. never (ap has_body here ∙ rw i) e;
      }
    where
      never : {A : Type 0} {b : Bool} → b ≡ true → b ≡ false → A
      never x y = let z : ◌≡◌ {A = ℕ} 0 1 = cc in absurd (omega arith)

  next_part : (l : Label) (k r : Trees) (s : State) → is 29 l ≡ false → keeps_one l ≡ true → (visit_one around l k s).calls ≡ end →
      Located c around r (visit around r (visit_one around l k s).after).here (visit around r (visit_one around l k s).after).calls →
      Located c around (node l k r) (visit around (node l k r) s).here (visit around (node l k r) s).calls
  unfolding elements_of kids_of has_body append_f keeps_one
  next_part l k r s i e q a =
      let t : State = (visit_one around l k s).after in
      let o = one_over c around l k s e in
      let here : (visit around (node l k r) s).here ≡ node o.label (visit (inside (role_of l) around k) k (entering (role_of l) s)).here (visit around r t).here =
      here_node around l k r s ∙ ap (λ (f : Trees). append_f f (visit around r t).here) o.shape in
      let calls : (visit around (node l k r) s).calls ≡ (visit around r t).calls = calls_node around l k r s ∙ rw q in
      let j : is 29 o.label ≡ false = o.alike.kinds 29 ∙ i in
      record {
        state = a.state;
        older = a.older;
        elements = ap (kids_of 29) here ∙ rw (j, i) a.elements;
        queue = calls ∙ rw i a.queue;
        bodiless = λ h. calls ∙ a.bodiless (sym (ap has_body here ∙ rw j) ∙ h);
      }

  pub locate : (f : Trees) (s : State) → Older c s → Formed f → Each keeps_one f → Each is_part f → OneBody f → Located c around f (visit around f s).here (visit around f s).calls
  unfolding Formed Each OneBody
  locate end s o m e p b = record { state = s; older = o; elements = rw visit_end (unfold elements_of kids_of in rw visit_end); queue = unfold elements_of kids_of in refl; bodiless = λ h. rw visit_end }
  locate (node l k r) s o m e p b = go (is 29 l) refl (locate r (visit_one around l k s).after (one_older c around l k s o) m.2 e.1 p.1 b.1)
    where
      go : (x : Bool) → is 29 l ≡ x → Located c around r (visit around r (visit_one around l k s).after).here (visit around r (visit_one around l k s).after).calls →
          Located c around (node l k r) (visit around (node l k r) s).here (visit around (node l k r) s).calls
      go true i later = first_body l k r s i o m.2 (parts_quiet r p.1 (b.0 i))
      go false i later = next_part l k r s i e.0 (one_calls around l k s m.0 (part_quiet l p.0 i) (λ around' t q. no_calls around' k t m.1 q)) later

-- ---- the id

-- the second child is a 27
unfoldable pub HasId : Trees → Type 0
HasId end = ⊥
HasId (node l k end) = ⊥
HasId (node l k (node m j r)) = is 27 m ≡ true

pub id_second : (f : Trees) (i : ℕ) → id_of f ≡ some i → HasId f
unfolding id_of symbol_if HasId
id_second end i e = let z : ◌≡◌ {A = ℕ} 0 1 = cc in absurd (omega arith)
id_second (node l k end) i e = let z : ◌≡◌ {A = ℕ} 0 1 = cc in absurd (omega arith)
id_second (node l k (node m j r)) i e = go (is 27 m) e
  where
    go : (b : Bool) → cond b (some m.payload) none ≡ some i → b ≡ true
    go true e = refl
    go false e = let z : ◌≡◌ {A = ℕ} 0 1 = cc in absurd (omega arith)

pub id_visited : (around : Around) (f : Trees) (s : State) → Each keeps_one f → HasId f → HasId (visit around f s).here
unfolding Each HasId keeps_one append_f
id_visited around end s e h = absurd h
id_visited around (node l k end) s e h = absurd h
id_visited around (node l k (node m j r)) s e h =
    let t : State = (visit_one around l k s).after in
    let o = one_over 0 around l k s e.0 in
    let u = one_over 0 around m j t e.1.0 in
    let i : is 27 u.label ≡ true = u.alike.kinds 27 ∙ h in
    let vk : Trees = (visit (inside (role_of l) around k) k (entering (role_of l) s)).here in
    let vj : Trees = (visit (inside (role_of m) around j) j (entering (role_of m) t)).here in
    let rest : (visit around (node m j r) t).here ≡ node u.label vj (visit around r (visit_one around m j t).after).here =
    here_node around m j r t ∙ ap (λ (f : Trees). append_f f (visit around r (visit_one around m j t).after).here) u.shape in
    let shape : (visit around (node l k (node m j r)) s).here ≡ node o.label vk (node u.label vj (visit around r (visit_one around m j t).after).here) =
    here_node around l k (node m j r) s ∙ ap (λ (f : Trees). append_f f (visit around (node m j r) t).here) o.shape ∙ ap (node o.label vk) rest in
    subst HasId (sym shape) i

-- ---- what holds of the elements

pub elements_formed : (f : Trees) → Formed f → (p : Label) × (is 29 p ≡ true) × Each (λ x. may_hold p x.kind) (elements_of f) × Formed (elements_of f)
unfolding Formed elements_of kids_of Each
elements_formed end m = (29 ∶ 0, (unfold is ◌∶◌ in refl), tt, tt)
elements_formed (node l k r) m = go (is 29 l) refl (elements_formed r m.2)
  where
    go : (b : Bool) → is 29 l ≡ b → ((p : Label) × (is 29 p ≡ true) × Each (λ x. may_hold p x.kind) (elements_of r) × Formed (elements_of r)) →
        (p : Label) × (is 29 p ≡ true) × Each (λ x. may_hold p x.kind) (cond b k (elements_of r)) × Formed (cond b k (elements_of r))
    go true i later = (l, i, m.0.held, m.1)
    go false i later = later

-- the children of a class
module _ (m : Label) (rk : Trees) (i : is 26 m ≡ true) (s : Standing m rk) where
  pub class_kept : Each keeps_one rk
  class_kept = kids_kept m rk (not_list 26 m i refl refl refl refl) (is_other 26 29 m i refl) s

  no_class_lem : may_hold m 26 ≡ false
  unfolding may_hold lookup
  no_class_lem = rw (is_other 26 4 m i refl, is_other 26 20 m i refl)

  no_member_lem : (may_hold m 30 ≡ false) × (may_hold m 31 ≡ false) × (may_hold m 32 ≡ false)
  unfolding may_hold lookup
  no_member_lem = (is_other 26 29 m i refl, is_other 26 29 m i refl, is_other 26 29 m i refl)

  class_part : (x : Label) → may_hold m x.kind ≡ true → is_part x ≡ true
  unfolding is_part is_member
  class_part x h = rw (held_not 26 m x no_class_lem h, held_not 30 m x no_member_lem.0 h, held_not 31 m x no_member_lem.1 h, held_not 32 m x no_member_lem.2 h)

  pub class_parts_lem : Each is_part rk
  class_parts_lem = each_map (λ x. may_hold m x.kind) is_part class_part rk s.held
