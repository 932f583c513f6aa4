-- A class statement that stays one: its class is declare, or neither it nor a member of it is decorated. Assumes nothing.
use Rattle.std.specs.Prelude.{◌≡◌, refl, Bool, true, false, ◌||◌, not, List, [], ◌∷◌, ℕ, ◌+◌, ◌<◌, length, get_or}
use Rattle.records.specs.Ends.{blank}
use Rattle.records.specs.declared.Note.{Note}
use Rattle.std.proofs.Math.Path.{ap}
use Rattle.std.proofs.Common.{sym, ◌∙◌, arith}
use Rattle.std.specs.declared.option.Option.{Option}
use Rattle.records.specs.Forest.{end, node, take_f, count_f}
use Rattle.records.specs.Label.{Label, Trees}
use Rattle.records.specs.Place.{records_at, label_at, kids_at}
use Rattle.grammar.specs.Grammar.{module'}
use Rattle.grammar.specs.WellFormed.{Fits}
use Rattle.rewriting.specs.Parts.{tree, role_of, statement, is_empty, is_decorated, is_decorated_member, is_live, elements_of, id_of, class_kids}
use Rattle.rewriting.specs.Visit.{Result, visit, visit_one, work, since, own, inside, entering, dead_class, class_if, live_class_if, undecorated_if}
use Rattle.rewriting.specs.declared.Around.{Around}
use Rattle.rewriting.specs.declared.State.{State}
use Rattle.inspect.specs.Row.{any_row, count_none, or_left, or_right, not_true}
use Rattle.inspect.specs.Class.{count_called}
use Rattle.walk_laws.specs.Rows.{visit_at, fresh}
use Rattle.walk_laws.specs.After.{class_after, after_dead, after_live}
use Rattle.walk_laws.specs.Roles.{role_4}
use Rattle.walk_laws.specs.Kinds.{class_inside, class_kind, class_row_one, class_kids_lem}
use Rattle.walk_laws.specs.ClassPlan.{rk, scope, at_end, queue}
use Rattle.walk_laws.specs.ClassFacts.{ClassFacts, parts, class_label, class_facts, statement_here}
use Rattle.counter.specs.Contract.{Planned}
use Rattle.transform.specs.Plans.{calls_queued}

-- of a class, by its children
unfoldable pub is_plain : Trees → Bool
is_plain k = not (is_decorated k || any_row is_decorated_member (elements_of k))

pub plain_not : (k : Trees) → is_decorated k ≡ true → is_plain k ≡ false
unfolding is_plain
plain_not k e = rw e

pub plain_is : (k : Trees) (b : Bool) → is_decorated k ≡ false → b ≡ any_row is_decorated_member (elements_of k) → is_plain k ≡ not b
unfolding is_plain
plain_is k b e g = rw (e, sym g)

-- ---- by the notes

module _ (ws : List ℕ) (whole : Fits (module' ∷ []) (records_at ws 0)) (at : ℕ) (h : at < length ws) (kind : (label_at ws at).kind ≡ 4) where
  pub class_mark : {notes : List Note} → Planned ws notes → (get_or notes (at + 1) blank).marked ≡ is_decorated (kids_at ws (at + 1))
  class_mark p = p.classes (at + 1) (class_inside ws whole at h kind) (class_kind ws whole at h kind)

-- ---- what it becomes

-- it is not live
dead_here : (around : Around) (l : Label) (k : Trees) (s : State) → role_of l ≡ statement → is_live k ≡ false →
    (visit_one around l k s).here ≡ tree l (visit (record { live = false; id = id_of (class_kids k) }) k (fresh s.next)).here
unfolding visit_one work since
dead_here around l k s e d = rw e (unfold own inside entering fresh in rw d (unfold class_if dead_class in refl))

-- it is live, without decorators and without calls
quiet_here : (b : Bool) (r : Trees) (l c : Label) (ck calls : Trees) (t : State) (o : Option ℕ) → b ≡ false → is_empty calls ≡ true →
    (live_class_if b r l c ck calls t o).here ≡ tree l (tree c ck)
quiet_here b r l c ck calls t o e q = rw e (unfold live_class_if in rw q (unfold undecorated_if in refl))

quiet_after : (b : Bool) (id : Option ℕ) (m : Bool) (t : State) → b ≡ false → class_after b id m t ≡ t.next
quiet_after b id m t e = rw e (unfold class_after in refl)

none_empty : (f : Trees) → count_f f ≡ 0 → is_empty f ≡ true
unfolding count_f is_empty
none_empty end e = refl
none_empty (node l k r) e = absurd (omega arith)

module _ (ws : List ℕ) (whole : Fits (module' ∷ []) (records_at ws 0)) (at : ℕ) (h : at < length ws) (kind : (label_at ws at).kind ≡ 4) (around : Around) (s : State) where
  abbrev pub kids : Trees
  kids = kids_at ws at

  abbrev pub below : Bool → Result
  below x = visit (record { live = x; id = id_of (class_kids kids) }) kids (fresh s.next)

  live_kids : (x : Bool) → is_live (take_f 1 (records_at ws (at + 1))) ≡ x → is_live kids ≡ x
  live_kids x e = ap is_live (class_row_one ws whole at h kind) ∙ e

  module _ (live : is_live (take_f 1 (records_at ws (at + 1))) ≡ true) (plain : is_plain (kids_at ws (at + 1)) ≡ true) where
    neither : (is_decorated (kids_at ws (at + 1)) || any_row is_decorated_member (elements_of (kids_at ws (at + 1)))) ≡ false
    unfolding is_plain
    neither = not_true _ plain

    bare : is_decorated (kids_at ws (at + 1)) ≡ false
    bare = or_left (is_decorated (kids_at ws (at + 1))) (any_row is_decorated_member (elements_of (kids_at ws (at + 1)))) neither

    silent : is_empty (queue ws at s.next) ≡ true
    unfolding rk count_called
    silent =
        let f : Trees = elements_of (kids_at ws (at + 1)) in
        none_empty (queue ws at s.next) (sym (calls_queued ws whole at h kind s.next) ∙ count_none is_decorated_member f (or_right (is_decorated (kids_at ws (at + 1))) (any_row is_decorated_member f) neither))

    class_visit : visit_at ws (at + 1) 1 (scope ws at) (fresh s.next) ≡ below true
    unfolding visit_at scope rk
    class_visit =
        ap (λ (f : Trees). visit (record { live = true; id = id_of (kids_at ws (at + 1)) }) f (fresh s.next)) (sym (class_row_one ws whole at h kind))
        ∙ ap (λ (r : Trees). visit (record { live = true; id = id_of r }) kids (fresh s.next)) (sym (class_kids_lem ws whole at h kind))

    facts : ClassFacts ws at s.next
    facts = class_facts ws whole at h kind s.next

    live_here : (visit_one around (label_at ws at) kids s).here ≡ tree (label_at ws at) (below true).here
    live_here =
        statement_here ws whole at h kind live around s
        ∙ quiet_here (is_decorated (rk ws at)) (rk ws at) (label_at ws at) (class_label ws at s.next) (parts ws at s.next) (queue ws at s.next) (at_end ws at s.next) s.default (unfold rk in bare) silent
        ∙ ap (tree (label_at ws at)) (sym facts.here ∙ ap (λ (r : Result). r.here) class_visit)

    live_after : (visit_one around (label_at ws at) kids s).after ≡ record { next = (below true).after.next; default = s.default }
    live_after =
        after_live around (label_at ws at) kids s (role_4 (label_at ws at) kind) (live_kids true live) (class_label ws at s.next) (parts ws at s.next)
        (ap (λ (r : Result). r.here) (sym class_visit) ∙ facts.here)
        ∙ ap (λ (n : ℕ). record { next = n; default = s.default }) (quiet_after (is_decorated (class_kids kids)) _ _ (below true).after (ap is_decorated (class_kids_lem ws whole at h kind) ∙ bare))

  -- either way it is a tree over its class, with the default symbol of the class around
  pub class_here : (x : Bool) → is_live (take_f 1 (records_at ws (at + 1))) ≡ x → (x ≡ true → is_plain (kids_at ws (at + 1)) ≡ true) →
      (visit_one around (label_at ws at) kids s).here ≡ tree (label_at ws at) (below x).here
  class_here true e p = live_here e (p refl)
  class_here false e p = dead_here around (label_at ws at) kids s (role_4 (label_at ws at) kind) (live_kids false e)

  pub class_after_lem : (x : Bool) → is_live (take_f 1 (records_at ws (at + 1))) ≡ x → (x ≡ true → is_plain (kids_at ws (at + 1)) ≡ true) →
      (visit_one around (label_at ws at) kids s).after ≡ record { next = (below x).after.next; default = s.default }
  class_after_lem true e p = live_after e (p refl)
  class_after_lem false e p = after_dead around (label_at ws at) kids s (role_4 (label_at ws at) kind) (live_kids false e)
