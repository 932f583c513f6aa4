-- The symbols of a live class, the states and the places of its parts, and the words that its statement becomes by them. Assumes nothing.
use Rattle.std.specs.Prelude.{Bool, true, false, ◌&&◌, ◌||◌, not, cond, List, [], ◌∷◌, ◌++◌, ℕ, zero, suc, ◌+◌, eqb, is_some}
use Rattle.std.specs.Int.{from_bool}
use Rattle.std.specs.Option.{option_or}
use Rattle.std.specs.declared.option.Option.{Option}
use Rattle.std.specs.declared.option.Option.TheVariants.{None as none, Some as some}
use Rattle.words.specs.Word.{bit0, bit2}
use Rattle.records.specs.Forest.{count_f}
use Rattle.records.specs.Label.{Trees}
use Rattle.records.specs.Place.{label_at, arity_at, kids_at, end_of}
use Rattle.rewriting.specs.Parts.{is_empty, elements_of, id_of, has_private_in, has_static, first_constructor, bare_first, is_decorated}
use Rattle.rewriting.specs.declared.Around.{Around}
use Rattle.rewriting.specs.declared.State.{State}
use Rattle.walk_laws.specs.Rows.{visit_at, fresh}
use Rattle.walk_laws.specs.After.{mentioned}
use Rattle.walk_laws.specs.Written.{written}
use Rattle.walk_laws.specs.Calls.{symbol_of}

-- ---- the symbols of a live class

pub record Plan : Type 0 where
  -- its symbol in calls, let, assignment and export
  pub outer : ℕ
  -- the symbol of its id word, if it is to have one
  pub inner : Option ℕ
  pub alias : Option ℕ

-- of a decorated class. t: the state behind its children; m: whether rule 6's search finds its symbol
unfoldable pub decorated_plan : Option ℕ → State → Bool → Plan
decorated_plan (some c) t m = record { outer = c; inner = some t.next; alias = cond m (some (suc t.next)) none }
decorated_plan none t m = record { outer = symbol_of t.default (some t.next); inner = none; alias = none }

unfoldable pub plan_of : Bool → Option ℕ → State → Bool → Plan
plan_of true id t m = decorated_plan id t m
plan_of false id t m = record { outer = symbol_of id t.default; inner = option_or id t.default; alias = none }

-- ---- words by a plan

module _ (word : ℕ → ℕ → ℕ) where
  -- a word in the body of a class with the symbol c and this alias (rule 6)
  unfoldable pub under : ℕ → Option ℕ → ℕ → ℕ → ℕ
  under c none k p = word k p
  under c (some b) k p = word k (cond ((eqb k 9 || eqb k 18) && eqb p c) b p)

  unfoldable pub optional : ℕ → Option ℕ → List ℕ
  optional k none = []
  optional k (some p) = word k p ∷ []

  -- rule 8's block
  unfoldable pub block_words : Option ℕ → List ℕ
  block_words none = []
  block_words (some b) = word 33 1 ∷ word 2 0 ∷ word 18 b ∷ word 15 0 ∷ []

  -- rule 10
  unfoldable pub export_words : ℕ → ℕ → List ℕ
  export_words zero c = []
  export_words (suc zero) c = word 6 c ∷ []
  export_words (suc (suc p)) c = word 7 c ∷ []

-- ---- the class statement at `at`; n: the counter in front of it

module _ (ws : List ℕ) (at : ℕ) where
  unfoldable pub rk : Trees
  rk = kids_at ws (at + 1)

  unfoldable pub scope : Around
  scope = record { live = true; id = id_of rk }

  -- the place of its heritage, if any, and of its body
  unfoldable pub heritage_at : ℕ
  heritage_at = end_of ws (at + 2) (1 + bit0 (label_at ws (at + 1)).payload)

  unfoldable pub body_at : ℕ
  body_at = end_of ws heritage_at (bit2 (label_at ws (at + 1)).payload)

  module _ (n : ℕ) where
    -- the states in front of its heritage, in front of its body, and behind its children
    unfoldable pub at_heritage : State
    at_heritage = (visit_at ws (at + 2) (1 + bit0 (label_at ws (at + 1)).payload) scope (fresh n)).after

    unfoldable pub at_body : State
    at_body = (visit_at ws heritage_at (bit2 (label_at ws (at + 1)).payload) scope at_heritage).after

    unfoldable pub at_end : State
    at_end = (visit_at ws (at + 1) 1 scope (fresh n)).after

    -- its decorators, elements and calls, visited
    unfoldable pub ds : Trees
    ds = (visit_at ws (at + 3) (arity_at ws (at + 2)) scope (fresh n)).here

    unfoldable pub els : Trees
    els = (visit_at ws (body_at + 1) (arity_at ws body_at) scope at_body).here

    unfoldable pub queue : Trees
    queue = (visit_at ws (body_at + 1) (arity_at ws body_at) scope at_body).calls

    unfoldable pub plan : Plan
    plan = plan_of (is_decorated rk) (id_of rk) at_end (mentioned (id_of rk) els)

    -- is there a block in front of the elements, and one behind them
    unfoldable pub front : Bool
    front = is_some plan.alias && has_static (elements_of rk)

    unfoldable pub block : Bool
    block = has_private_in rk && (is_decorated rk || not (is_empty queue))

    -- the number of statements put in behind it
    unfoldable pub queue_count : ℕ
    queue_count = cond (has_private_in rk) 0 (count_f queue + cond (is_decorated rk) (1 + from_bool (not (eqb (label_at ws at).payload 0))) 0)

    module _ (word : ℕ → ℕ → ℕ) where
      -- in front of the class
      unfoldable pub head_words : List ℕ
      head_words =
          cond (is_decorated rk && not (has_private_in rk))
          (word 5 plan.outer ∷ (cond (has_static (elements_of rk)) [] (optional word 18 plan.alias) ++ (word 20 0 ∷ [])))
          (word 4 (label_at ws at).payload ∷ [])

      unfoldable pub element_words : List ℕ
      element_words = written (under word plan.outer plan.alias) (cond (is_decorated rk) (bare_first els) els)

      unfoldable pub body_words : List ℕ
      body_words =
          word 29 (arity_at ws body_at + (from_bool front + from_bool block)) ∷
          (cond front (block_words word plan.alias) [] ++ (element_words ++ cond block (word 33 (count_f queue) ∷ written word queue) []))

      unfoldable pub class_words : List ℕ
      class_words =
          word 26 ((label_at ws (at + 1)).payload + from_bool (not (is_some (id_of rk)) && is_some plan.inner)) ∷ word 28 0 ∷
          (optional word 27 plan.inner ++ (written word (visit_at ws heritage_at (bit2 (label_at ws (at + 1)).payload) scope at_heritage).here ++ body_words))

      -- rule 7
      unfoldable pub assignment_words : List ℕ
      assignment_words =
          word 2 0 ∷ word 18 plan.outer ∷
          (optional word 18 plan.alias ++
          (word 22 2 ∷ word 16 (count_f ds + count_f (first_constructor els)) ∷
          (written word ds ++ (written (under word plan.outer plan.alias) (first_constructor els) ++ (word 9 plan.outer ∷ [])))))

      -- behind the statement
      unfoldable pub queue_words : List ℕ
      queue_words =
          cond (has_private_in rk) []
          (written word queue ++ cond (is_decorated rk) (assignment_words ++ export_words word (label_at ws at).payload plan.outer) [])
