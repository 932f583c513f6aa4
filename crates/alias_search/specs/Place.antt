-- The search in the body of the class at a place of formed words. Assumes nothing.
use Rattle.std.specs.Prelude.{◌≡◌, List, ℕ, zero, suc, ◌+◌, ◌<◌, ◌≤◌}
use Rattle.std.proofs.Common.{ap, sym, ◌∙◌, add-one}
use Rattle.std.proofs.Math.Path.{subst}
use native.Mathlib.Omega.{arith}
use Rattle.std.proofs.Math.ListN.{length}
use Rattle.records.specs.Forest.{end, node, drop_f, append_f, any_f, take_drop}
use Rattle.records.specs.Label.{Trees}
use Rattle.records.specs.Place.{records_at, label_at, arity_at, kids_at, records_node, records_past}
use Rattle.rewriting.specs.Parts.{elements_of}
use Rattle.rewriting.specs.Visit.{is_ref, visit}
use Rattle.rewriting.specs.declared.Around.{Around}
use Rattle.rewriting.specs.declared.State.{State}
use Rattle.inspect.specs.Child.{kind_within}
use Rattle.inspect.specs.Row.{by_end}
use Rattle.alias_search.specs.Mentions.{mentions}
use Rattle.alias_search.specs.Older.{Older}
use Rattle.alias_search.specs.Formed.{Standing, Formed}
use Rattle.alias_search.specs.Body.{Located, locate, elements_formed, class_kept, class_parts_lem}
use Rattle.alias_search.specs.Search.{mentions_visited}
use Rattle.alias_search.specs.Walk.{is_yes}

formed_append : (f g : Trees) → Formed f → Formed g → Formed (append_f f g)
unfolding Formed append_f
formed_append end g a b = b
formed_append (node l k r) g a b = (a.0, a.1, formed_append r g a.2 b)

formed_next : (ws : List ℕ) (i : ℕ) → Formed (records_at ws i) → Formed (records_at ws (i + 1))
unfolding Formed
formed_next ws i h = by_end ws i
    (λ n.
    let f : Formed (node (label_at ws i) (kids_at ws i) (drop_f (arity_at ws i) (records_at ws (i + 1)))) = subst Formed (records_node ws i n) h in
    let e : append_f (kids_at ws i) (drop_f (arity_at ws i) (records_at ws (i + 1))) ≡ records_at ws (i + 1) = unfold kids_at in take_drop (arity_at ws i) (records_at ws (i + 1)) in
    subst Formed e (formed_append _ _ f.1 f.2))
    (λ n. let past : length ws ≤ i + 1 = omega arith in subst Formed (sym (records_past ws (i + 1) past)) tt)

-- what is formed from the first place on is so from any
pub formed_at : (ws : List ℕ) (i : ℕ) → Formed (records_at ws 0) → Formed (records_at ws i)
formed_at ws zero h = h
formed_at ws (suc i) h = subst (λ (n : ℕ). Formed (records_at ws n)) (add-one i) (formed_next ws i (formed_at ws i h))

pub standing_at : (ws : List ℕ) (i : ℕ) → i < length ws → Formed (records_at ws 0) → Standing (label_at ws i) (kids_at ws i) × Formed (kids_at ws i)
unfolding Formed
standing_at ws i n h =
    let f : Formed (node (label_at ws i) (kids_at ws i) (drop_f (arity_at ws i) (records_at ws (i + 1)))) = subst Formed (records_node ws i n) (formed_at ws i h) in
    (f.0, f.1)

-- rule 6: "if any 9 or 18 in the rewritten body has symbol C"
pub body_visited : (c : ℕ) (ws : List ℕ) (at : ℕ) → Formed (records_at ws 0) → (label_at ws at).kind ≡ 26 → (around : Around) (s : State) → Older c s →
    any_f (is_ref c) (elements_of (visit around (kids_at ws at) s).here) ≡ mentions c (elements_of (kids_at ws at))
body_visited c ws at h e around s o =
    let rk : Trees = kids_at ws at in
    let m = standing_at ws at (kind_within ws at 25 e) h in
    let i = is_yes c (label_at ws at) rk 26 e in
    let loc : Located c around rk (visit around rk s).here (visit around rk s).calls =
    locate c around rk s o m.1 (class_kept (label_at ws at) rk i m.0) (class_parts_lem (label_at ws at) rk i m.0) (m.0.body i) in
    ap (any_f (is_ref c)) loc.elements ∙ mentions_visited c (elements_of rk) (elements_formed rk m.1).3 around loc.state loc.older
