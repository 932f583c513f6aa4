-- The children of a class by place, as read and as visited. Assumes nothing.
use Rattle.std.specs.Prelude.{◌≡◌, T, length}
use Rattle.std.proofs.Math.Path.{refl, ap, subst}
use Rattle.std.proofs.Common.{sym, ◌∙◌, zero-add, suc-add, arith, length-append}
use Rattle.std.specs.declared.option.Option.{Option}
use Rattle.std.specs.declared.option.Option.TheVariants.{None as none, Some as some}
use mathlib.Core.List.{List, [], ◌∷◌, ◌++◌, append-nil}
use Prim.Native.Nat.{ℕ, zero, suc, ◌+◌, ◌-◌, ◌<◌}
use Rattle.std.proofs.Math.ListN.{replicate}
use Rattle.std.proofs.lemmas.List.{length-replicate}
use Rattle.words.specs.Table.{lookup}
use Rattle.words.specs.Word.{bit0, bit2, children, child_table}
use Rattle.records.specs.Forest.{end, node, take_f, drop_f, append_f, take_f_add, take_f_end}
use Rattle.records.specs.Label.{Label, Trees, arity}
use Rattle.records.specs.Place.{records_at, label_at, arity_at, kids_at, end_of, end_none, end_low, end_add, end_one, end_drop, record_one}
use Rattle.grammar.specs.Grammar.{Slot, slot, Expression, Decorators, module', expression, id, body, row, table, row_of, slots, slots_below}
use Rattle.grammar.specs.WellFormed.{Allowed, Fits}
use Rattle.grammar.proofs.Children.{allowed_sole}
use Rattle.grammar.proofs.Rows.{sole_kind}
use Rattle.rewriting.specs.Parts.{tree, decorators, elements_of}
use Rattle.rewriting.specs.Visit.{Result, visit}
use Rattle.rewriting.specs.declared.Around.{Around}
use Rattle.rewriting.specs.declared.State.{State}
use Rattle.walk_laws.specs.Rows.{visit_at, here_add, calls_add, kids_visit, plain_here, plain_calls}
use Rattle.walk_laws.specs.Slots.{Standing, standing_at, RowFits, kind_row, row_first}
use Rattle.walk_laws.specs.Single.{Stays, expression_stays}
use Rattle.walk_laws.specs.Roles.{plain_27, plain_28, plain_29}
use Rattle.walk_laws.specs.Elements.{Marked, decorators_kind, other_kind}
use Rattle.walk_laws.specs.Quiet.{quiet, Quiet, quiet_replicate, row_quiet}
use Rattle.walk_laws.specs.ClassParts.{id_tree, class_parts, Without, IsId, class_elements, class_decorators}

-- ---- rows

fits_split : (qs rs : List Slot) (k : ℕ) (f : Trees) → Fits (qs ++ rs) (take_f (length qs + k) f) → Fits qs (take_f (length qs) f) × Fits rs (take_f k (drop_f (length qs) f))
unfolding Fits take_f drop_f
fits_split [] rs k f h = (tt, subst (λ (n : ℕ). Fits rs (take_f n f)) (zero-add k) h)
fits_split (q ∷ qs) rs k end h = absurd (subst (Fits (q ∷ (qs ++ rs))) (take_f_end (suc (length qs) + k)) h)
fits_split (q ∷ qs) rs k (node l j r) h =
    let g : Fits (q ∷ (qs ++ rs)) (node l j (take_f (length qs + k) r)) = subst (λ (n : ℕ). Fits (q ∷ (qs ++ rs)) (take_f n (node l j r))) (suc-add (length qs) k) h in
    let s = fits_split qs rs k r g.2 in
    ((g.0, g.1, s.0), s.1)

module _ (ws : List ℕ) where
  pub row_split : (at m k : ℕ) (qs rs : List Slot) → length qs ≡ m → RowFits ws at (m + k) (qs ++ rs) → RowFits ws at m qs × RowFits ws (end_of ws at m) k rs
  unfolding RowFits
  row_split at m k qs rs e f =
      let s = fits_split qs rs k (records_at ws at) (subst (λ (n : ℕ). Fits (qs ++ rs) (take_f (n + k) (records_at ws at))) (sym e) f) in (
        subst (λ (n : ℕ). Fits qs (take_f n (records_at ws at))) e s.0,
        subst (λ (g : Trees). Fits rs (take_f k g)) (ap (λ (n : ℕ). drop_f n (records_at ws at)) e ∙ end_drop ws at m) s.1,
      )

  read_add : (at j k : ℕ) → take_f (j + k) (records_at ws at) ≡ append_f (take_f j (records_at ws at)) (take_f k (records_at ws (end_of ws at j)))
  read_add at j k = take_f_add j k (records_at ws at) ∙ ap (λ (g : Trees). append_f (take_f j (records_at ws at)) (take_f k g)) (end_drop ws at j)

pub replicate_quiet : (n : ℕ) (q : Slot) → T (quiet q.category) → Quiet (replicate n q)
unfolding Quiet
replicate_quiet n q t = subst Quiet (append-nil (replicate n q)) (quiet_replicate n q [] t tt)

-- ---- the id: at most one 27

-- the label of the first of k records
unfoldable pub first_of : ℕ → Label → Option Label
first_of zero l = none
first_of (suc k) l = some l

id_kind : (l : Label) → Allowed id l → l.kind ≡ 27
unfolding sole_kind lookup
id_kind l a = allowed_sole id l a tt

none_27 : (ws : List ℕ) (at : ℕ) → (label_at ws at).kind ≡ 27 → arity_at ws at ≡ 0
unfolding arity_at arity
none_27 ws at e = ap (λ (k : ℕ). children k (label_at ws at).payload) e ∙ (unfold children child_table lookup in refl)

leaf_27 : (ws : List ℕ) (at : ℕ) → (label_at ws at).kind ≡ 27 → kids_at ws at ≡ end
unfolding kids_at
leaf_27 ws at e = ap (λ (n : ℕ). take_f n (records_at ws (at + 1))) (none_27 ws at e) ∙ (unfold take_f in refl)

module _ (ws : List ℕ) (at : ℕ) where
  ids_are : (k : ℕ) → k < 2 → RowFits ws at k (replicate k id) → IsId (first_of k (label_at ws at))
  unfolding IsId first_of
  ids_are zero h f = tt
  ids_are (suc zero) h f = id_kind (label_at ws at) (row_first ws at 0 id [] f).1
  ids_are (suc (suc k)) h f = absurd (omega arith)

  ids_read : (k : ℕ) → k < 2 → RowFits ws at k (replicate k id) → take_f k (records_at ws at) ≡ id_tree (first_of k (label_at ws at))
  unfolding id_tree first_of take_f tree
  ids_read zero h f = refl
  ids_read (suc zero) h f =
      let g = row_first ws at 0 id [] f in
      record_one ws at g.0 ∙ ap (λ (x : Trees). node (label_at ws at) x end) (leaf_27 ws at (id_kind (label_at ws at) g.1))
  ids_read (suc (suc k)) h f = absurd (omega arith)

  ids_here : (k : ℕ) → k < 2 → RowFits ws at k (replicate k id) → (around : Around) (s : State) → (visit_at ws at k around s).here ≡ id_tree (first_of k (label_at ws at))
  unfolding id_tree first_of
  ids_here zero h f around s = unfold visit_at take_f visit in refl
  ids_here (suc zero) h f around s =
      let g = row_first ws at 0 id [] f in
      let k : (label_at ws at).kind ≡ 27 = id_kind (label_at ws at) g.1 in
      plain_here ws around at s g.0 (plain_27 (label_at ws at) k)
      ∙ ap (λ (x : Trees). tree (label_at ws at) (visit around x s).here) (leaf_27 ws at k)
      ∙ (unfold visit in refl)
  ids_here (suc (suc k)) h f around s = absurd (omega arith)

  -- where it ends
  ids_end : (k : ℕ) → k < 2 → RowFits ws at k (replicate k id) → end_of ws at k ≡ at + k
  ids_end zero h f = end_none ws at ∙ omega arith
  ids_end (suc zero) h f =
      let g = row_first ws at 0 id [] f in
      end_one ws at g.0 ∙ ap (end_of ws (at + 1)) (none_27 ws at (id_kind (label_at ws at) g.1)) ∙ end_none ws (at + 1)
  ids_end (suc (suc k)) h f = absurd (omega arith)

-- ---- the heritage: at most one expression

-- it is of no kind that is no expression
module _ (ws : List ℕ) (at n : ℕ) (out : (row_of n).category ≡ Expression → ⊥) where
  heritage_read : (k : ℕ) → k < 2 → RowFits ws at k (replicate k expression) → Without n (take_f k (records_at ws at))
  unfolding take_f Without
  heritage_read zero h f = tt
  heritage_read (suc zero) h f =
      let g = row_first ws at 0 expression [] f in
      subst (Without n) (sym (record_one ws at g.0)) (other_kind expression (label_at ws at) n g.1 out, tt)
  heritage_read (suc (suc k)) h f = absurd (omega arith)

  heritage_here : (k : ℕ) → k < 2 → RowFits ws at k (replicate k expression) → (around : Around) (s : State) → Without n (visit_at ws at k around s).here
  unfolding Without tree
  heritage_here zero h f around s = unfold visit_at take_f visit in tt
  heritage_here (suc zero) h f around s =
      let g = row_first ws at 0 expression [] f in
      let t : Stays (label_at ws at) (visit_at ws at 1 around s).here = expression_stays ws at expression around s g.0 refl g.1 in
      subst (Without n) (sym t.whole) (other_kind expression (label_at ws at) n g.1 out, tt)
  heritage_here (suc (suc k)) h f around s = absurd (omega arith)

pub no_29 : (row_of 29).category ≡ Expression → ⊥
unfolding row_of lookup table row
no_29 e = omega arith

-- ---- the children of the class at c, from the place f on

pub below_26 : (q : Slot) (p : ℕ) → slots_below q 26 p ≡ (slot Decorators 0 ∷ replicate (bit0 p) id) ++ (replicate (bit2 p) expression ++ (body ∷ []))
unfolding slots_below row_of lookup table row slots
below_26 q p = refl

-- decorators and id, heritage, body
record ClassRow (ws : List ℕ) (c f : ℕ) : Type 0 where
  count : arity_at ws c ≡ 1 + bit0 (label_at ws c).payload + (bit2 (label_at ws c).payload + 1)
  head : RowFits ws f (1 + bit0 (label_at ws c).payload) (slot Decorators 0 ∷ replicate (bit0 (label_at ws c).payload) id)
  heritage : RowFits ws (end_of ws f (1 + bit0 (label_at ws c).payload)) (bit2 (label_at ws c).payload) (replicate (bit2 (label_at ws c).payload) expression)
  last : RowFits ws (end_of ws (end_of ws f (1 + bit0 (label_at ws c).payload)) (bit2 (label_at ws c).payload)) 1 (body ∷ [])

class_row : (ws : List ℕ) (c f : ℕ) → c + 1 ≡ f → Standing ws c → (label_at ws c).kind ≡ 26 → ClassRow ws c f
class_row ws c f fe t e =
    let p : ℕ = (label_at ws c).payload in
    let qs : List Slot = slot Decorators 0 ∷ replicate (bit0 p) id in
    let rs : List Slot = replicate (bit2 p) expression ++ (body ∷ []) in
    let w = kind_row ws c 26 t (qs ++ rs) e (below_26 t.slot p) in
    let lq : length qs ≡ 1 + bit0 p = omega (arith, length-replicate (bit0 p) id) in
    let lr : length rs ≡ bit2 p + 1 = omega (arith, length-append (replicate (bit2 p) expression) (body ∷ []), length-replicate (bit2 p) expression) in
    let n : length (qs ++ rs) ≡ 1 + bit0 p + (bit2 p + 1) = length-append qs rs ∙ cc (lq, lr) in
    let r : RowFits ws f (1 + bit0 p + (bit2 p + 1)) (qs ++ rs) =
    subst (λ (m : ℕ). RowFits ws m (1 + bit0 p + (bit2 p + 1)) (qs ++ rs)) fe (subst (λ (m : ℕ). RowFits ws (c + 1) m (qs ++ rs)) n w.1) in
    let s = row_split ws f (1 + bit0 p) (bit2 p + 1) qs rs lq r in
    let u = row_split ws (end_of ws f (1 + bit0 p)) (bit2 p) 1 (replicate (bit2 p) expression) (body ∷ []) (length-replicate (bit2 p) expression) s.1 in
    record { count = w.0 ∙ n; head = s.0; heritage = u.0; last = u.1 }

body_kind : (l : Label) → Allowed body l → l.kind ≡ 29
unfolding sole_kind lookup
body_kind l a = allowed_sole body l a tt

bit0_lt : (p : ℕ) → bit0 p < 2
unfolding bit0
bit0_lt p = omega arith

bit2_lt : (p : ℕ) → bit2 p < 2
unfolding bit2
bit2_lt p = omega arith

parts_join : (d : Label) (ds : Trees) (i : Option Label) (h : Trees) (b : Label) (els : Trees) →
    append_f (append_f (node d ds end) (id_tree i)) (append_f h (node b els end)) ≡ class_parts d ds i h b els
unfolding class_parts append_f tree
parts_join d ds i h b els = refl

-- the places of its heritage, if any, and of its body
unfoldable pub heritage_of : List ℕ → ℕ → ℕ → ℕ
heritage_of ws c f = end_of ws f (1 + bit0 (label_at ws c).payload)

unfoldable pub body_of : List ℕ → ℕ → ℕ → ℕ
body_of ws c f = end_of ws (heritage_of ws c f) (bit2 (label_at ws c).payload)

-- the label of its id
unfoldable pub id_at : List ℕ → ℕ → ℕ → Option Label
id_at ws c f = first_of (bit0 (label_at ws c).payload) (label_at ws (end_of ws f 1))

module _ (ws : List ℕ) (c f : ℕ) (fe : c + 1 ≡ f) (t : Standing ws c) (kind : (label_at ws c).kind ≡ 26) where
  first : (f < length ws) × ((label_at ws f).kind ≡ 28) × RowFits ws (end_of ws f 1) (bit0 (label_at ws c).payload) (replicate (bit0 (label_at ws c).payload) id)
  first =
      let g = row_first ws f (bit0 (label_at ws c).payload) (slot Decorators 0) (replicate (bit0 (label_at ws c).payload) id)
      (subst (λ (n : ℕ). RowFits ws f n (slot Decorators 0 ∷ replicate (bit0 (label_at ws c).payload) id)) (omega arith) (class_row ws c f fe t kind).head) in
      (g.0, decorators_kind 0 (label_at ws f) g.1, g.2)

  pub class_arity : arity_at ws c ≡ 1 + bit0 (label_at ws c).payload + (bit2 (label_at ws c).payload + 1)
  class_arity = (class_row ws c f fe t kind).count

  pub first_place : f < length ws
  first_place = first.0

  pub first_kind_lem : (label_at ws f).kind ≡ 28
  first_kind_lem = first.1

  last : (body_of ws c f < length ws) × ((label_at ws (body_of ws c f)).kind ≡ 29)
  unfolding body_of heritage_of
  last = let g = row_first ws (body_of ws c f) 0 body [] (class_row ws c f fe t kind).last in (g.0, body_kind (label_at ws (body_of ws c f)) g.1)

  pub body_place : body_of ws c f < length ws
  body_place = last.0

  pub body_is : (label_at ws (body_of ws c f)).kind ≡ 29
  body_is = last.1

  pub id_is : IsId (id_at ws c f)
  unfolding id_at
  id_is = ids_are ws (end_of ws f 1) (bit0 (label_at ws c).payload) (bit0_lt (label_at ws c).payload) first.2

  heritage_fits : RowFits ws (heritage_of ws c f) (bit2 (label_at ws c).payload) (replicate (bit2 (label_at ws c).payload) expression)
  unfolding heritage_of
  heritage_fits = (class_row ws c f fe t kind).heritage

  module _ (n : ℕ) (out : (row_of n).category ≡ Expression → ⊥) where
    pub without_read : Without n (take_f (bit2 (label_at ws c).payload) (records_at ws (heritage_of ws c f)))
    without_read = heritage_read ws (heritage_of ws c f) n out (bit2 (label_at ws c).payload) (bit2_lt (label_at ws c).payload) heritage_fits

    pub without_here : (around : Around) (s : State) → Without n (visit_at ws (heritage_of ws c f) (bit2 (label_at ws c).payload) around s).here
    without_here = heritage_here ws (heritage_of ws c f) n out (bit2 (label_at ws c).payload) (bit2_lt (label_at ws c).payload) heritage_fits

  -- as read
  pub read_parts : kids_at ws c ≡
      class_parts (label_at ws f) (kids_at ws f) (id_at ws c f) (take_f (bit2 (label_at ws c).payload) (records_at ws (heritage_of ws c f))) (label_at ws (body_of ws c f)) (kids_at ws (body_of ws c f))
  read_parts =
      let p : ℕ = (label_at ws c).payload in
      let whole : kids_at ws c ≡ take_f (1 + bit0 p + (bit2 p + 1)) (records_at ws f) =
      unfold kids_at in cc (class_arity, fe) in
      let named : take_f (bit0 p) (records_at ws (end_of ws f 1)) ≡ id_tree (id_at ws c f) = unfold id_at in ids_read ws (end_of ws f 1) (bit0 p) (bit0_lt p) first.2 in
      let two : take_f (1 + bit0 p) (records_at ws f) ≡ append_f (node (label_at ws f) (kids_at ws f) end) (id_tree (id_at ws c f)) =
      read_add ws f 1 (bit0 p) ∙ cc (record_one ws f first_place, named) in
      let others : take_f (bit2 p + 1) (records_at ws (heritage_of ws c f)) ≡ append_f (take_f (bit2 p) (records_at ws (heritage_of ws c f))) (node (label_at ws (body_of ws c f)) (kids_at ws (body_of ws c f)) end) =
      read_add ws (heritage_of ws c f) (bit2 p) 1 ∙ (unfold body_of in ap (append_f (take_f (bit2 p) (records_at ws (heritage_of ws c f)))) (record_one ws (body_of ws c f) body_place)) in
      let all : take_f (1 + bit0 p + (bit2 p + 1)) (records_at ws f) ≡ append_f (take_f (1 + bit0 p) (records_at ws f)) (take_f (bit2 p + 1) (records_at ws (heritage_of ws c f))) =
      unfold heritage_of in read_add ws f (1 + bit0 p) (bit2 p + 1) in
      whole ∙ all ∙ cc (two, others) ∙ parts_join (label_at ws f) (kids_at ws f) (id_at ws c f) _ (label_at ws (body_of ws c f)) (kids_at ws (body_of ws c f))

  pub read_decorators : decorators (kids_at ws c) ≡ kids_at ws f
  read_decorators = ap decorators read_parts ∙ class_decorators _ _ (id_at ws c f) _ _ _ first_kind_lem body_is id_is (without_read 29 no_29)

  pub read_elements : elements_of (kids_at ws c) ≡ kids_at ws (body_of ws c f)
  read_elements = ap elements_of read_parts ∙ class_elements _ _ (id_at ws c f) _ _ _ first_kind_lem body_is id_is (without_read 29 no_29)

  -- the id is one word
  heritage_place : heritage_of ws c f ≡ end_of ws f 1 + bit0 (label_at ws c).payload
  unfolding heritage_of
  heritage_place = end_add ws f 1 (bit0 (label_at ws c).payload) ∙ ids_end ws (end_of ws f 1) (bit0 (label_at ws c).payload) (bit0_lt (label_at ws c).payload) first.2

  heritage_in : heritage_of ws c f < length ws
  unfolding body_of
  heritage_in = omega (arith, body_place, end_low ws (heritage_of ws c f) (bit2 (label_at ws c).payload))

  -- the body is the last child
  pub body_last : end_of ws f (arity_at ws c - 1) ≡ body_of ws c f
  unfolding body_of heritage_of
  body_last =
      let n : arity_at ws c - 1 ≡ 1 + bit0 (label_at ws c).payload + bit2 (label_at ws c).payload = omega (arith, class_arity) in
      ap (end_of ws f) n ∙ end_add ws f (1 + bit0 (label_at ws c).payload) (bit2 (label_at ws c).payload)

  -- as visited
  module _ (around : Around) (s : State) where
    -- the states in front of its heritage and in front of its body
    unfoldable pub heritage_state : State
    heritage_state = (visit_at ws f (1 + bit0 (label_at ws c).payload) around s).after

    unfoldable pub body_state : State
    body_state = (visit_at ws (heritage_of ws c f) (bit2 (label_at ws c).payload) around heritage_state).after

    row_whole : visit around (kids_at ws c) s ≡ visit_at ws f (1 + bit0 (label_at ws c).payload + (bit2 (label_at ws c).payload + 1)) around s
    row_whole =
        sym (kids_visit ws around c s)
        ∙ ap (λ (n : ℕ). visit_at ws (c + 1) n around s) class_arity
        ∙ ap (λ (n : ℕ). visit_at ws n (1 + bit0 (label_at ws c).payload + (bit2 (label_at ws c).payload + 1)) around s) fe

    pub here_parts : (visit around (kids_at ws c) s).here ≡
        class_parts (label_at ws f) (visit around (kids_at ws f) s).here (id_at ws c f) (visit_at ws (heritage_of ws c f) (bit2 (label_at ws c).payload) around heritage_state).here
        (label_at ws (body_of ws c f)) (visit around (kids_at ws (body_of ws c f)) body_state).here
    unfolding heritage_state body_state heritage_of body_of tree
    here_parts =
        let p : ℕ = (label_at ws c).payload in
        let h : ℕ = heritage_of ws c f in
        let b : ℕ = body_of ws c f in
        let named : (visit_at ws (end_of ws f 1) (bit0 p) around (visit_at ws f 1 around s).after).here ≡ id_tree (id_at ws c f) =
        unfold id_at in ids_here ws (end_of ws f 1) (bit0 p) (bit0_lt p) first.2 around (visit_at ws f 1 around s).after in
        let marked : (visit_at ws f 1 around s).here ≡ node (label_at ws f) (visit around (kids_at ws f) s).here end = plain_here ws around f s first_place (plain_28 (label_at ws f) first_kind_lem) in
        let two : (visit_at ws f (1 + bit0 p) around s).here ≡ append_f (node (label_at ws f) (visit around (kids_at ws f) s).here end) (id_tree (id_at ws c f)) =
        here_add ws around f 1 (bit0 p) s ∙ cc (named, marked) in
        let others : (visit_at ws h (bit2 p + 1) around heritage_state).here ≡ append_f (visit_at ws h (bit2 p) around heritage_state).here (node (label_at ws b) (visit around (kids_at ws b) body_state).here end) =
        here_add ws around h (bit2 p) 1 heritage_state ∙ ap (append_f (visit_at ws h (bit2 p) around heritage_state).here) (plain_here ws around b body_state body_place (plain_29 (label_at ws b) body_is)) in
        ap (λ (r : Result). r.here) row_whole
        ∙ here_add ws around f (1 + bit0 p) (bit2 p + 1) s
        ∙ cc (two, others)
        ∙ parts_join (label_at ws f) (visit around (kids_at ws f) s).here (id_at ws c f) (visit_at ws h (bit2 p) around heritage_state).here (label_at ws b) (visit around (kids_at ws b) body_state).here

    -- only its elements queue calls
    pub calls_parts : (visit around (kids_at ws c) s).calls ≡ (visit around (kids_at ws (body_of ws c f)) body_state).calls
    unfolding heritage_state body_state heritage_of body_of append_f quiet lookup Quiet
    calls_parts =
        let p : ℕ = (label_at ws c).payload in
        let h : ℕ = heritage_of ws c f in
        let b : ℕ = body_of ws c f in
        let two : (visit_at ws f (1 + bit0 p) around s).calls ≡ end =
        row_quiet ws f (1 + bit0 p) (slot Decorators 0 ∷ replicate (bit0 p) id) around s (class_row ws c f fe t kind).head (tt, replicate_quiet (bit0 p) id tt) in
        let inherited : (visit_at ws h (bit2 p) around heritage_state).calls ≡ end =
        row_quiet ws h (bit2 p) (replicate (bit2 p) expression) around heritage_state heritage_fits (replicate_quiet (bit2 p) expression tt) in
        ap (λ (r : Result). r.calls) row_whole
        ∙ calls_add ws around f (1 + bit0 p) (bit2 p + 1) s
        ∙ ap (λ (g : Trees). append_f g (visit_at ws h (bit2 p + 1) around heritage_state).calls) two
        ∙ calls_add ws around h (bit2 p) 1 heritage_state
        ∙ ap (λ (g : Trees). append_f g (visit_at ws b 1 around body_state).calls) inherited
        ∙ plain_calls ws around b body_state body_place (plain_29 (label_at ws b) body_is)

-- ---- any class of an accepted module

module _ (ws : List ℕ) (whole : Fits (module' ∷ []) (records_at ws 0)) (at : ℕ) (h : at < length ws) (kind : (label_at ws at).kind ≡ 26) where
  stands : Standing ws at
  stands = standing_at ws (module' ∷ []) whole at h

  -- its 28 stands right behind it
  pub class_marked : Marked ws at
  class_marked = record { place = first_place ws at (at + 1) refl stands kind; kind = first_kind_lem ws at (at + 1) refl stands kind; count = omega (arith, class_arity ws at (at + 1) refl stands kind) }

  -- its heritage stands behind the 28 and the one word of an id: what `inspect::class_body` asks for
  pub class_heritage : (end_of ws (at + 1) (1 + bit0 (label_at ws at).payload) ≡ end_of ws (at + 1) 1 + bit0 (label_at ws at).payload) ×
      (end_of ws (at + 1) (1 + bit0 (label_at ws at).payload) < length ws)
  class_heritage = unfold heritage_of in (heritage_place ws at (at + 1) refl stands kind, heritage_in ws at (at + 1) refl stands kind)

  -- its body is its last child
  pub class_body : (end_of ws (at + 1) (arity_at ws at - 1) < length ws) × ((label_at ws (end_of ws (at + 1) (arity_at ws at - 1))).kind ≡ 29) ×
      (kids_at ws (end_of ws (at + 1) (arity_at ws at - 1)) ≡ elements_of (kids_at ws at))
  class_body =
      rw (body_last ws at (at + 1) refl stands kind)
      (body_place ws at (at + 1) refl stands kind, body_is ws at (at + 1) refl stands kind, sym (read_elements ws at (at + 1) refl stands kind))
