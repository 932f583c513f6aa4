-- What a live class statement becomes, in the order in which it is written (rules 6 to 10). Assumes nothing.
use Rattle.std.specs.Prelude.{◌≡◌, ◌&&◌, not, eqb, length, is_some}
use Rattle.std.proofs.Math.Path.{refl, ap, sym}
use Rattle.std.proofs.Common.{◌∙◌, arith}
use Rattle.std.proofs.Math.Bool.{Bool, true, false, cond, and-true, and-false}
use Rattle.std.specs.Int.{from_bool}
use Rattle.std.specs.Option.{option_or}
use Rattle.std.specs.declared.option.Option.{Option}
use Rattle.std.specs.declared.option.Option.TheVariants.{None as none, Some as some}
use mathlib.Core.List.{List, [], ◌∷◌, ◌++◌, append_assoc, append-nil}
use Prim.Native.Nat.{ℕ, ◌+◌, ◌-◌, ◌<◌}
use Rattle.std.proofs.Math.Nat.{add-zero}
use Rattle.records.specs.Forest.{end, take_f, append_f, count_f, count_f_append, append_f_end}
use Rattle.records.specs.Label.{Label, Trees, repay}
use Rattle.records.specs.Place.{records_at, label_at, arity_at, kids_at, end_of}
use Rattle.grammar.specs.Grammar.{module'}
use Rattle.grammar.specs.WellFormed.{Fits}
use Rattle.rewriting.specs.Parts.{tree, decorators, undecorate, with_elements, is_empty, of_parameters, is_constructor, elements_of, id_of, has_private_in, has_static, has_constructor, first_constructor, bare_first, bare_method, is_decorated, is_live}
use Rattle.rewriting.specs.Visit.{renamed, assignment, let_alias, call_block, queued, export, with_id, decorated_statement, name_class, extend_body, undecorated_if, live_class_if, visit, visit_one}
use Rattle.rewriting.specs.declared.Around.{Around}
use Rattle.rewriting.specs.declared.State.{State}
use Rattle.walk_laws.specs.Rows.{visit_at}
use Rattle.walk_laws.specs.After.{mentioned}
use Rattle.walk_laws.specs.Written.{word_by, written, written_end, written_append, written_tree}
use Rattle.walk_laws.specs.ClassParts.{id_symbol, class_parts, IsId, class_decorators, give_id, name_id, give_is, name_is}
use Rattle.walk_laws.specs.Slots.{Standing, standing_at}
use Rattle.walk_laws.specs.Roles.{constructor_kind}
use Rattle.walk_laws.specs.Elements.{Called, method_called, called_parameters}
use Rattle.walk_laws.specs.First.{nth, at_nth, nth_kids, behind_nth, none_bare, none_first, nth_place, first_bare, first_parameters}
use Rattle.walk_laws.specs.Members.{bare_words, constructor_written}
use Rattle.walk_laws.specs.ClassPlan.{Plan, decorated_plan, plan_of, under, optional, export_words, rk, body_at, at_end, ds, els, queue, plan, front, block, queue_count, head_words, element_words, body_words, class_words, assignment_words, queue_words}
use Rattle.walk_laws.specs.Planned.{head_written, assignment_written, export_written, block_written, queued_written, kind_word, parts_words, block_count, queued_count, export_count, statement_count, elements_by, body_count, body_written, entries_count, entries_written, give_plan, flags_plan, name_plan, give_parts, name_parts, bare_parts, extend_parts, decorated_here, by_plan}
use Rattle.walk_laws.specs.ClassFacts.{class_label, decorators_label, body_label, id_label, heritage, parts, is_empty_lem, ClassFacts, class_facts, statement_here}

-- ---- the words of its class, by their parts

module _ (ws : List ℕ) (at n : ℕ) (f : ClassFacts ws at n) (word : ℕ → ℕ → ℕ) where
  class_words_lem : (c : Label) (i : Option Label) (b : Label) (new : Trees) → c.kind ≡ 26 → IsId i → b.kind ≡ 29 →
      c.payload ≡ (class_label ws at n).payload + from_bool (not (is_some (id_of (rk ws at))) && is_some (plan ws at n).inner) → id_symbol i ≡ (plan ws at n).inner →
      word 29 b.payload ∷ written word new ≡ body_words ws at n word →
      written word (tree c (class_parts (repay (decorators_label ws at n) 0) end i (heritage ws at n) b new)) ≡ class_words ws at n word
  unfolding class_words
  class_words_lem c i b new ck ik bk flags symbol body = parts_words word c (decorators_label ws at n) i (heritage ws at n) b new ck f.dk ik bk ∙ rw (flags, symbol, ← body)

-- ---- a decorated class

module _ (ws : List ℕ) (at n : ℕ) (f : ClassFacts ws at n) (e : is_decorated (rk ws at) ≡ true) where
  planned : plan ws at n ≡ decorated_plan (id_of (rk ws at)) (at_end ws at n) (mentioned (id_of (rk ws at)) (els ws at n))
  unfolding plan plan_of
  planned = rw e

  inner_planned : (plan ws at n).inner ≡ (decorated_plan (id_symbol (id_label ws at n)) (at_end ws at n) (mentioned (id_of (rk ws at)) (els ws at n))).inner
  inner_planned = cc (planned, f.ids)

  block_planned : block ws at n ≡ has_private_in (rk ws at)
  unfolding block
  block_planned = rw e (and-true (has_private_in (rk ws at)))

  -- its elements, and its class with any elements
  abbrev elements : Trees
  elements = elements_by (has_private_in (rk ws at)) (has_static (elements_of (rk ws at))) (plan ws at n).outer (plan ws at n).alias (els ws at n) (queue ws at n)

  decorated_parts : (new : Trees) → with_elements new (undecorate (with_id (plan ws at n).inner (parts ws at n))) ≡
      class_parts (repay (decorators_label ws at n) 0) end (give_id (plan ws at n).inner (id_label ws at n)) (heritage ws at n) (repay (body_label ws at n) (count_f new)) new
  decorated_parts new =
      let m : Bool = mentioned (id_of (rk ws at)) (els ws at n) in
      let i : Option Label = id_label ws at n in
      let x : Option ℕ = (decorated_plan (id_symbol i) (at_end ws at n) m).inner in
      ap (λ (y : Option ℕ). with_elements new (undecorate (with_id y (parts ws at n)))) inner_planned
      ∙ ap (λ (g : Trees). with_elements new (undecorate g)) (give_parts (class_label ws at n) (decorators_label ws at n) (ds ws at n) i (heritage ws at n) (body_label ws at n) (els ws at n) f.dk f.bk f.ik f.hk (at_end ws at n) m)
      ∙ bare_parts (class_label ws at n) (decorators_label ws at n) (ds ws at n) (give_id x i) (heritage ws at n) (body_label ws at n) (els ws at n) f.dk f.bk (give_is x i f.ik) f.hk new
      ∙ ap (λ (y : Option ℕ). class_parts (repay (decorators_label ws at n) 0) end (give_id y i) (heritage ws at n) (repay (body_label ws at n) (count_f new)) new) (sym inner_planned)

  module _ (word : ℕ → ℕ → ℕ) where
    decorated_body : word 29 (count_f elements) ∷ written word elements ≡ body_words ws at n word
    unfolding body_words element_words front
    decorated_body =
        rw (e, block_planned) (cc (
          body_count (has_private_in (rk ws at)) (has_static (elements_of (rk ws at))) (plan ws at n).outer (plan ws at n).alias (els ws at n) (queue ws at n),
          body_written (has_private_in (rk ws at)) (has_static (elements_of (rk ws at))) (plan ws at n).outer (plan ws at n).alias (els ws at n) (queue ws at n) word,
          f.count,
        ))

    decorated_class : written word (tree (class_label ws at n) (with_elements elements (undecorate (with_id (plan ws at n).inner (parts ws at n))))) ≡ class_words ws at n word
    decorated_class =
        let m : Bool = mentioned (id_of (rk ws at)) (els ws at n) in
        let i : Option Label = id_label ws at n in
        let c : Label = class_label ws at n in
        let flags : from_bool (not (is_some (id_of (rk ws at))) && is_some (plan ws at n).inner) ≡ 0 =
        ap (λ (g : Plan). from_bool (not (is_some (id_of (rk ws at))) && is_some g.inner)) planned ∙ flags_plan (id_of (rk ws at)) (at_end ws at n) m in
        let same : c.payload ≡ c.payload + from_bool (not (is_some (id_of (rk ws at))) && is_some (plan ws at n).inner) = omega (arith, flags) in
        let symbol : id_symbol (give_id (plan ws at n).inner i) ≡ (plan ws at n).inner = cc (give_plan i (at_end ws at n) m, inner_planned) in
        ap (λ (g : Trees). written word (tree c g)) (decorated_parts elements)
        ∙ class_words_lem ws at n f word c (give_id (plan ws at n).inner i) (repay (body_label ws at n) (count_f elements)) elements f.ck (give_is (plan ws at n).inner i f.ik) (unfold repay in f.bk) same symbol
        (unfold repay in decorated_body)

    -- rules 8 and 9
    decorated_head : (cls : Trees) → (label_at ws at).kind ≡ 4 →
        written word (decorated_statement (has_private_in (rk ws at)) (label_at ws at) (plan ws at n).outer (let_alias (plan ws at n).alias (has_static (elements_of (rk ws at)))) cls) ≡
        head_words ws at n word ++ written word cls
    unfolding head_words
    decorated_head cls k = head_written word (has_private_in (rk ws at)) (has_static (elements_of (rk ws at))) (label_at ws at) (plan ws at n).outer (plan ws at n).alias cls k ∙ rw e

    -- rules 7 and 10
    decorated_assignment : written word (assignment (plan ws at n).outer (plan ws at n).alias (append_f (ds ws at n) (first_constructor (renamed (plan ws at n).outer (plan ws at n).alias (els ws at n))))) ≡ assignment_words ws at n word
    unfolding assignment_words
    decorated_assignment =
        let o : ℕ = (plan ws at n).outer in
        let a : Option ℕ = (plan ws at n).alias in
        let w : List ℕ = written (under word o a) (first_constructor (els ws at n)) in
        assignment_written word o a _
        ∙ ap (λ (k : ℕ). word 2 0 ∷ word 18 o ∷ (optional word 18 a ++ (word 22 2 ∷ word 16 k ∷ (written word (append_f (ds ws at n) (first_constructor (renamed o a (els ws at n)))) ++ (word 9 o ∷ [])))))
        (entries_count o a (els ws at n) (ds ws at n))
        ∙ ap (λ (xs : List ℕ). word 2 0 ∷ word 18 o ∷ (optional word 18 a ++ (word 22 2 ∷ word 16 (count_f (ds ws at n) + count_f (first_constructor (els ws at n))) ∷ xs))) (
        ap (◌++ (word 9 o ∷ [])) (entries_written o a (els ws at n) (ds ws at n) word)
        ∙ append_assoc (written word (ds ws at n)) w (word 9 o ∷ []))

    decorated_queue : written word (queued (has_private_in (rk ws at)) (append_f (queue ws at n) (
        append_f (assignment (plan ws at n).outer (plan ws at n).alias (append_f (decorators (parts ws at n)) (first_constructor (renamed (plan ws at n).outer (plan ws at n).alias (els ws at n)))))
        (export (label_at ws at).payload (plan ws at n).outer)))) ≡ queue_words ws at n word
    unfolding queue_words
    decorated_queue =
        let o : ℕ = (plan ws at n).outer in
        let a : Option ℕ = (plan ws at n).alias in
        let own : decorators (parts ws at n) ≡ ds ws at n = class_decorators (decorators_label ws at n) (ds ws at n) (id_label ws at n) (heritage ws at n) (body_label ws at n) (els ws at n) f.dk f.bk f.ik f.hk in
        let x : Trees = assignment o a (append_f (decorators (parts ws at n)) (first_constructor (renamed o a (els ws at n)))) in
        let y : Trees = export (label_at ws at).payload o in
        let assigned : written word x ≡ assignment_words ws at n word = ap (λ (g : Trees). written word (assignment o a (append_f g (first_constructor (renamed o a (els ws at n)))))) own ∙ decorated_assignment in
        let all : written word (append_f (queue ws at n) (append_f x y)) ≡ written word (queue ws at n) ++ (assignment_words ws at n word ++ export_words word (label_at ws at).payload o) =
        cc (written_append word (queue ws at n) (append_f x y), written_append word x y, assigned, export_written word (label_at ws at).payload o) in
        rw e (queued_written word (has_private_in (rk ws at)) (append_f (queue ws at n) (append_f x y)) ∙ ap (cond (has_private_in (rk ws at)) []) all)

  decorated_here_lem : (o : Option ℕ) → (live_class_if true (rk ws at) (label_at ws at) (class_label ws at n) (parts ws at n) (queue ws at n) (at_end ws at n) o).here ≡
      decorated_here (rk ws at) (label_at ws at) (class_label ws at n) (parts ws at n) (queue ws at n) (plan ws at n).outer (plan ws at n).inner (plan ws at n).alias (els ws at n)
  decorated_here_lem o =
      by_plan (rk ws at) (label_at ws at) (class_label ws at n) (decorators_label ws at n) (ds ws at n) (id_label ws at n) (heritage ws at n) (body_label ws at n) (els ws at n) (queue ws at n) (at_end ws at n) o
      f.dk f.bk f.ik f.hk f.ids
      ∙ ap (λ (g : Plan). decorated_here (rk ws at) (label_at ws at) (class_label ws at n) (parts ws at n) (queue ws at n) g.outer g.inner g.alias (els ws at n)) (sym planned)

  decorated_written : (word : ℕ → ℕ → ℕ) (o : Option ℕ) → (label_at ws at).kind ≡ 4 →
      written word (live_class_if true (rk ws at) (label_at ws at) (class_label ws at n) (parts ws at n) (queue ws at n) (at_end ws at n) o).here ≡
      head_words ws at n word ++ (class_words ws at n word ++ queue_words ws at n word)
  unfolding decorated_here
  decorated_written word o k =
      ap (written word) (decorated_here_lem o)
      ∙ written_append word _ _
      ∙ cc (decorated_head word (tree (class_label ws at n) (with_elements elements (undecorate (with_id (plan ws at n).inner (parts ws at n))))) k, decorated_class word, decorated_queue word)
      ∙ append_assoc (head_words ws at n word) (class_words ws at n word) (queue_words ws at n word)

  decorated_count : (o : Option ℕ) → count_f (live_class_if true (rk ws at) (label_at ws at) (class_label ws at n) (parts ws at n) (queue ws at n) (at_end ws at n) o).here ≡ 1 + queue_count ws at n
  unfolding decorated_here queue_count
  decorated_count o =
      let p : Bool = has_private_in (rk ws at) in
      let x : Trees = assignment (plan ws at n).outer (plan ws at n).alias (append_f (decorators (parts ws at n)) (first_constructor (renamed (plan ws at n).outer (plan ws at n).alias (els ws at n)))) in
      let y : Trees = export (label_at ws at).payload (plan ws at n).outer in
      let one-assignment : count_f x ≡ 1 = unfold assignment tree count_f in refl in
      let all : count_f (append_f (queue ws at n) (append_f x y)) ≡ count_f (queue ws at n) + (1 + from_bool (not (eqb (label_at ws at).payload 0))) =
      omega (arith, count_f_append (queue ws at n) (append_f x y), count_f_append x y, export_count (label_at ws at).payload (plan ws at n).outer) in
      ap count_f (decorated_here_lem o)
      ∙ count_f_append _ _
      ∙ rw e (cc (statement_count p (label_at ws at) (plan ws at n).outer (let_alias (plan ws at n).alias (has_static (elements_of (rk ws at)))) (tree (class_label ws at n) (with_elements elements (undecorate (with_id (plan ws at n).inner (parts ws at n))))), queued_count p (append_f (queue ws at n) (append_f x y)), all))

-- ---- a class that isn't decorated

or_none : (x : Option ℕ) → option_or x none ≡ x
or_none none = refl
or_none (some c) = refl

-- a class that keeps its id, or has none
same_flags : (x : Option ℕ) → from_bool (not (is_some x) && is_some x) ≡ 0
same_flags none = refl
same_flags (some c) = refl

module _ (ws : List ℕ) (at n : ℕ) (f : ClassFacts ws at n) (e : is_decorated (rk ws at) ≡ false) where
  named_plan : ((plan ws at n).inner ≡ option_or (id_symbol (id_label ws at n)) (at_end ws at n).default) × ((plan ws at n).alias ≡ none)
  unfolding plan plan_of
  named_plan = rw e (ap (λ (x : Option ℕ). option_or x (at_end ws at n).default) f.ids, refl)

  -- its 28 is empty as read
  bare_class : (i : Option Label) (b : Label) (new : Trees) →
      class_parts (decorators_label ws at n) (ds ws at n) i (heritage ws at n) b new ≡ class_parts (repay (decorators_label ws at n) 0) end i (heritage ws at n) b new
  bare_class i b new =
      let z : repay (decorators_label ws at n) 0 ≡ decorators_label ws at n = unfold repay in rw (← (f.bare e).0) in
      cc (z, (f.bare e).1)

  front_none : front ws at n ≡ false
  unfolding front
  front_none = rw named_plan.1

  -- its elements, with a block behind them if x
  module _ (word : ℕ → ℕ → ℕ) where
    undecorated_body : (x : Bool) → block ws at n ≡ x →
        word 29 (count_f (append_f (els ws at n) (call_block x (queue ws at n)))) ∷ written word (append_f (els ws at n) (call_block x (queue ws at n))) ≡ body_words ws at n word
    unfolding body_words element_words
    undecorated_body x b =
        let a : (plan ws at n).alias ≡ none = named_plan.1 in
        let w : List ℕ = written word (els ws at n) ++ cond x (word 33 (count_f (queue ws at n)) ∷ written word (queue ws at n)) [] in
        let count : count_f (append_f (els ws at n) (call_block x (queue ws at n))) ≡ arity_at ws (body_at ws at) + (from_bool false + from_bool x) =
        omega (arith, count_f_append (els ws at n) (call_block x (queue ws at n)), f.count, block_count x (queue ws at n)) in
        let body : written word (append_f (els ws at n) (call_block x (queue ws at n))) ≡ w = written_append word (els ws at n) (call_block x (queue ws at n)) ∙ cc (block_written word x (queue ws at n)) in
        let same : written (under word (plan ws at n).outer none) (els ws at n) ≡ written word (els ws at n) = unfold under in refl in
        rw (e, front_none, b, a, same) (cc (count, body))

    undecorated_head : (label_at ws at).kind ≡ 4 → (cls : Trees) → written word (tree (label_at ws at) cls) ≡ head_words ws at n word ++ written word cls
    unfolding head_words tree
    undecorated_head k cls = written_tree word (label_at ws at) cls ∙ rw e (ap (◌∷ written word cls) (kind_word word 4 (label_at ws at) k))

    undecorated_queue : written word (queued (has_private_in (rk ws at)) (queue ws at n)) ≡ queue_words ws at n word
    unfolding queue_words
    undecorated_queue = rw (e, append-nil (written word (queue ws at n))) (queued_written word (has_private_in (rk ws at)) (queue ws at n))

    -- it queues nothing
    module _ (q : is_empty (queue ws at n) ≡ true) where
      silent_block : block ws at n ≡ false
      unfolding block
      silent_block = rw (e, q) (and-false (has_private_in (rk ws at)))

      silent_plan : (plan ws at n).inner ≡ id_symbol (id_label ws at n)
      silent_plan = named_plan.0 ∙ ap (option_or (id_symbol (id_label ws at n))) (f.default q) ∙ or_none (id_symbol (id_label ws at n))

      silent_class : written word (tree (class_label ws at n) (parts ws at n)) ≡ class_words ws at n word
      silent_class =
          let i : Option Label = id_label ws at n in
          let flags : (class_label ws at n).payload ≡ (class_label ws at n).payload + from_bool (not (is_some (id_of (rk ws at))) && is_some (plan ws at n).inner) =
          omega (arith, same_flags (id_symbol i), ap (λ (x : Option ℕ). from_bool (not (is_some x) && is_some (plan ws at n).inner)) f.ids, ap (λ (x : Option ℕ). from_bool (not (is_some (id_symbol i)) && is_some x)) silent_plan) in
          let none-behind : append_f (els ws at n) (call_block false (queue ws at n)) ≡ els ws at n = unfold call_block in append_f_end (els ws at n) in
          let body : word 29 (body_label ws at n).payload ∷ written word (els ws at n) ≡ body_words ws at n word = cc (undecorated_body false silent_block, none-behind, f.payload, f.count) in
          ap (λ (g : Trees). written word (tree (class_label ws at n) g)) (bare_class i (body_label ws at n) (els ws at n))
          ∙ class_words_lem ws at n f word (class_label ws at n) i (body_label ws at n) (els ws at n) f.ck f.ik f.bk flags (sym silent_plan) body

    -- it queues calls
    module _ (q : is_empty (queue ws at n) ≡ false) where
      calling_block : block ws at n ≡ has_private_in (rk ws at)
      unfolding block
      calling_block = rw (e, q) (and-true (has_private_in (rk ws at)))

      -- the class with its id and its block
      calling_class : written word (extend_body (call_block (has_private_in (rk ws at)) (queue ws at n)) (name_class (id_of (rk ws at)) (at_end ws at n).default (class_label ws at n) (parts ws at n))) ≡ class_words ws at n word
      unfolding repay
      calling_class =
          let c : Label = class_label ws at n in
          let i : Option Label = id_label ws at n in
          let x : Option ℕ = (at_end ws at n).default in
          let flags : ℕ = from_bool (not (is_some (id_symbol i)) && is_some (option_or (id_symbol i) x)) in
          let more : Trees = call_block (has_private_in (rk ws at)) (queue ws at n) in
          let new : Trees = append_f (els ws at n) more in
          let d : Label = decorators_label ws at n in
          let b : Label = body_label ws at n in
          let same : c.payload + flags ≡ c.payload + from_bool (not (is_some (id_of (rk ws at))) && is_some (plan ws at n).inner) = cc (f.ids, named_plan.0) in
          ap (λ (y : Option ℕ). written word (extend_body more (name_class y x c (parts ws at n)))) f.ids
          ∙ ap (λ (g : Trees). written word (extend_body more g)) (name_parts c d (ds ws at n) i (heritage ws at n) b (els ws at n) f.dk f.bk f.ik f.hk x)
          ∙ ap (written word) (extend_parts (repay c (c.payload + flags)) d (ds ws at n) (name_id x i) (heritage ws at n) b (els ws at n) f.dk f.bk (name_is x i f.ik) f.hk more)
          ∙ ap (λ (g : Trees). written word (tree (repay c (c.payload + flags)) g)) (bare_class (name_id x i) (repay b (count_f new)) new)
          ∙ class_words_lem ws at n f word (repay c (c.payload + flags)) (name_id x i) (repay b (count_f new)) new f.ck (name_is x i f.ik) f.bk
          same (name_plan x i ∙ sym named_plan.0) (undecorated_body (has_private_in (rk ws at)) calling_block)

  module _ (o : Option ℕ) where
    undecorated_written : (word : ℕ → ℕ → ℕ) → (label_at ws at).kind ≡ 4 →
        written word (live_class_if false (rk ws at) (label_at ws at) (class_label ws at n) (parts ws at n) (queue ws at n) (at_end ws at n) o).here ≡
        head_words ws at n word ++ (class_words ws at n word ++ queue_words ws at n word)
    unfolding live_class_if undecorated_if
    undecorated_written word k = go (is_empty (queue ws at n)) refl
      where
        go : (x : Bool) → is_empty (queue ws at n) ≡ x →
            written word (undecorated_if x (rk ws at) (at_end ws at n).default (label_at ws at) (class_label ws at n) (parts ws at n) (queue ws at n)) ≡
            head_words ws at n word ++ (class_words ws at n word ++ queue_words ws at n word)
        go true q =
            let none : queue_words ws at n word ≡ [] = sym (undecorated_queue word) ∙ ap (λ (g : Trees). written word (queued (has_private_in (rk ws at)) g)) (is_empty_lem (queue ws at n) q) ∙ none_queued (has_private_in (rk ws at)) in
            undecorated_head word k _ ∙ cc (silent_class word q, none, append-nil (class_words ws at n word))
          where
            none_queued : (private : Bool) → written word (queued private end) ≡ []
            none_queued true = unfold queued in written_end word
            none_queued false = unfold queued in written_end word
        go false q =
            written_append word _ (queued (has_private_in (rk ws at)) (queue ws at n))
            ∙ cc (undecorated_head word k _, calling_class word q, undecorated_queue word)
            ∙ append_assoc (head_words ws at n word) (class_words ws at n word) (queue_words ws at n word)

    undecorated_count : count_f (live_class_if false (rk ws at) (label_at ws at) (class_label ws at n) (parts ws at n) (queue ws at n) (at_end ws at n) o).here ≡ 1 + queue_count ws at n
    unfolding live_class_if undecorated_if
    undecorated_count = go (is_empty (queue ws at n)) refl
      where
        many : queue_count ws at n ≡ cond (has_private_in (rk ws at)) 0 (count_f (queue ws at n))
        many = unfold queue_count in rw (e, add-zero (count_f (queue ws at n)))

        none_queued : (private : Bool) → cond private 0 (count_f {A = Label} end) ≡ 0
        none_queued true = refl
        none_queued false = unfold count_f in refl

        go : (x : Bool) → is_empty (queue ws at n) ≡ x →
            count_f (undecorated_if x (rk ws at) (at_end ws at n).default (label_at ws at) (class_label ws at n) (parts ws at n) (queue ws at n)) ≡ 1 + queue_count ws at n
        go true q =
            let none : queue_count ws at n ≡ 0 = many ∙ ap (λ (g : Trees). cond (has_private_in (rk ws at)) 0 (count_f g)) (is_empty_lem (queue ws at n) q) ∙ none_queued (has_private_in (rk ws at)) in
            rw none (unfold tree count_f in refl)
        go false q = count_f_append _ (queued (has_private_in (rk ws at)) (queue ws at n)) ∙ cc (many, queued_count (has_private_in (rk ws at)) (queue ws at n), one_tree (label_at ws at) (extend_body (call_block (has_private_in (rk ws at)) (queue ws at n)) (name_class (id_of (rk ws at)) (at_end ws at n).default (class_label ws at n) (parts ws at n))))
          where
            one_tree : (l : Label) (k : Trees) → count_f (tree l k) ≡ 1
            one_tree l k = unfold tree count_f in refl

-- ---- the laws

module _ (ws : List ℕ) (whole : Fits (module' ∷ []) (records_at ws 0)) (at : ℕ) (h : at < length ws) (kind : (label_at ws at).kind ≡ 4)
    (live : is_live (take_f 1 (records_at ws (at + 1))) ≡ true) (around : Around) (s : State) where
  pub class_written : (word : ℕ → ℕ → ℕ) → written word (visit_one around (label_at ws at) (kids_at ws at) s).here ≡
      head_words ws at s.next word ++ (class_words ws at s.next word ++ queue_words ws at s.next word)
  class_written word = ap (written word) (statement_here ws whole at h kind live around s) ∙ go (is_decorated (rk ws at)) refl
    where
      f : ClassFacts ws at s.next
      f = class_facts ws whole at h kind s.next

      go : (x : Bool) → is_decorated (rk ws at) ≡ x →
          written word (live_class_if x (rk ws at) (label_at ws at) (class_label ws at s.next) (parts ws at s.next) (queue ws at s.next) (at_end ws at s.next) s.default).here ≡
          head_words ws at s.next word ++ (class_words ws at s.next word ++ queue_words ws at s.next word)
      go true e = decorated_written ws at s.next f e word s.default kind
      go false e = undecorated_written ws at s.next f e s.default word kind

  pub class_count_lem : count_f (visit_one around (label_at ws at) (kids_at ws at) s).here ≡ 1 + queue_count ws at s.next
  class_count_lem = ap count_f (statement_here ws whole at h kind live around s) ∙ go (is_decorated (rk ws at)) refl
    where
      f : ClassFacts ws at s.next
      f = class_facts ws whole at h kind s.next

      go : (x : Bool) → is_decorated (rk ws at) ≡ x →
          count_f (live_class_if x (rk ws at) (label_at ws at) (class_label ws at s.next) (parts ws at s.next) (queue ws at s.next) (at_end ws at s.next) s.default).here ≡ 1 + queue_count ws at s.next
      go true e = decorated_count ws at s.next f e s.default
      go false e = undecorated_count ws at s.next f e s.default

-- the first constructor among the k elements at e, the j-th, with none before it
module _ (ws : List ℕ) (whole : Fits (module' ∷ []) (records_at ws 0)) (b : ℕ) (h : b < length ws) (kind : (label_at ws b).kind ≡ 29) (around : Around) (s : State) where
  pub first_none : has_constructor (kids_at ws b) ≡ false →
      (bare_first (visit around (kids_at ws b) s).here ≡ (visit around (kids_at ws b) s).here) × (first_constructor (visit around (kids_at ws b) s).here ≡ end)
  first_none e = let t : Standing ws b = standing_at ws (module' ∷ []) whole b h in (none_bare ws b t kind around s e, none_first ws b t kind around s e)

  module _ (j : ℕ) (j< : j < arity_at ws b) (before : has_constructor (take_f j (records_at ws (b + 1))) ≡ false) (there : is_constructor (label_at ws (end_of ws (b + 1) j)) ≡ true) where
    pub first_written : (word : ℕ → ℕ → ℕ) → let p = end_of ws (b + 1) j in let sj = (visit_at ws (b + 1) j around s).after in
        written word (bare_first (visit around (kids_at ws b) s).here) ≡
        written word (visit_at ws (b + 1) j around s).here ++
        ((word_by word (label_at ws p) ∷ word 28 0 ∷ bare_words word ws around p sj) ++
        written word (visit_at ws (end_of ws p 1) (arity_at ws b - j - 1) around (visit_at ws p 1 around sj).after).here)
    first_written word =
        let p : ℕ = nth ws b j in
        let t : Standing ws b = standing_at ws (module' ∷ []) whole b h in
        ap (written word) (first_bare ws b t kind around s j j< before there)
        ∙ written_append word (visit_at ws (b + 1) j around s).here _
        ∙ ap (written word (visit_at ws (b + 1) j around s).here ++◌) (
        written_append word (tree (label_at ws p) (bare_method (nth_kids ws b j around s))) (behind_nth ws b j around s)
        ∙ ap (◌++ written word (behind_nth ws b j around s)) (constructor_written word ws around whole p (nth_place ws b t kind around s j j< before there) (at_nth ws b j around s) there))

    pub first_entries : let p = end_of ws (b + 1) j in let sj = (visit_at ws (b + 1) j around s).after in
        first_constructor (visit around (kids_at ws b) s).here ≡
        of_parameters 0 (visit around (kids_at ws (end_of ws (p + 1) 2)) (visit_at ws (p + 1) 2 around sj).after).here
    first_entries =
        let p : ℕ = nth ws b j in
        let t : Standing ws b = standing_at ws (module' ∷ []) whole b h in
        let c : Called ws p = method_called ws p whole (nth_place ws b t kind around s j j< before there) (constructor_kind (label_at ws p) there) in
        first_parameters ws b t kind around s j j< before there ∙ ap (of_parameters 0) (called_parameters ws around p (at_nth ws b j around s) c)
