-- The words of a class statement by the plan of its class, as the walkers write them. Definitions only.
use Rattle.std.specs.Prelude.{◌≡◌, Bool, true, ◌&&◌, ◌||◌, not, cond, List, [], ◌∷◌, ◌++◌, ℕ, ◌+◌, ◌<◌, eqb, get_or, is_some, IfSome}
use Rattle.records.specs.Ends.{blank}
use Rattle.records.specs.declared.Note.{Note}
use Rattle.std.specs.Int.{from_bool}
use Rattle.std.specs.declared.option.Option.{Option}
use Rattle.std.specs.declared.option.Option.TheVariants.{None as none, Some as some}
use Rattle.records.specs.Forest.{count_f}
use Rattle.records.specs.Label.{Trees}
use Rattle.records.specs.Place.{arity_at, kids_at}
use Rattle.rewriting.specs.Parts.{elements_of, id_of, has_private_in, has_static, first_constructor, bare_first, is_decorated}
use Rattle.rewriting.specs.declared.Around.{Around}
use Rattle.rewriting.specs.declared.State.{State}
use Rattle.class_stack.specs.declared.ClassStack.{ClassStack}
use Rattle.inspect.specs.Class.{count_called}
use Rattle.walk_laws.specs.Written.{written}
use Rattle.walk_laws.specs.ClassPlan.{Plan, plan_of, under, optional, block_words, rk, plan, queue}
use Rattle.transform.specs.Contract.{word_below, words_of, calls_at, kids_here}
use Rattle.transform.specs.declared.ClassPlan.{ClassPlan}

-- a symbol, if there is one, is a payload
abbrev pub Small : Option ℕ → Type 0
Small o = IfSome o (λ p. p < 67108864)

-- the class of a plan
abbrev pub scope_of : ClassPlan → Around
scope_of g = record { live = true; id = g.id }

-- is the class decorated
abbrev pub decorated : ClassPlan → Bool
decorated g = is_some g.outer

-- a word in the body of a class
unfoldable pub word_in : (ℕ → ℕ → ℕ) → Option ℕ → Option ℕ → ℕ → ℕ → ℕ
word_in word none alias k p = word k p
word_in word (some o) alias k p = under word o alias k p

unfoldable pub body_word : ClassPlan → ClassStack → ℕ → ℕ → ℕ
body_word g c k p = word_in (word_below c) g.outer g.alias k p

unfoldable pub front_of : ClassPlan → Bool
front_of g = is_some g.alias && g.fixed

unfoldable pub block_of : ClassPlan → Bool
block_of g = g.private && (decorated g || not (eqb g.calls 0))

-- rule 7: "2, 18:C, (18:alias,) 22:2"
unfoldable pub assign_words : ClassStack → ℕ → Option ℕ → List ℕ
assign_words c outer alias = word_below c 2 0 ∷ word_below c 18 outer ∷ (optional (word_below c) 18 alias ++ (word_below c 22 2 ∷ []))

-- p: the flags of the class
unfoldable pub flags_of : ClassPlan → ℕ → ℕ
flags_of g p = p + from_bool (not (is_some g.id) && is_some g.inner)

module _ (g : ClassPlan) (c : ClassStack) where
  -- rule 8: "5:C, (18:alias,) 20"
  unfoldable pub let_words : ℕ → List ℕ
  let_words outer = word_below c 5 outer ∷ (cond g.fixed [] (optional (word_below c) 18 g.alias) ++ (word_below c 20 0 ∷ []))

  -- p: the payload of the statement
  unfoldable pub head_by : Option ℕ → ℕ → List ℕ
  head_by none p = word_below c 4 p ∷ []
  head_by (some o) p = cond (not g.private) (let_words o) (word_below c 4 p ∷ [])

  unfoldable pub head_of : ℕ → List ℕ
  head_of p = head_by g.outer p

  unfoldable pub name_words : ℕ → List ℕ
  name_words p = word_below c 26 (flags_of g p) ∷ word_below c 28 0 ∷ optional (word_below c) 27 g.inner

  unfoldable pub front_words : List ℕ
  front_words = cond (front_of g) (block_words (word_below c) g.alias) []

  -- the elements of the body at b, under the stack of the body; s: the state in front of them
  unfoldable pub elements_by : List ℕ → ℕ → State → List ℕ
  elements_by ws b s = words_of c (cond (decorated g) (bare_first (kids_here ws b (scope_of g) s)) (kids_here ws b (scope_of g) s))

  -- the block behind them
  unfoldable pub block_by : List ℕ → ℕ → State → List ℕ
  block_by ws b s = cond (block_of g) (word_below c 33 g.calls ∷ words_of c (calls_at ws (b + 1) (arity_at ws b) (scope_of g) s)) []

  unfoldable pub body_by : List ℕ → ℕ → State → List ℕ
  body_by ws b s =
      word_below c 29 (arity_at ws b + (from_bool (front_of g) + from_bool (block_of g))) ∷
      (front_words ++ (written (body_word g c) (cond (decorated g) (bare_first (kids_here ws b (scope_of g) s)) (kids_here ws b (scope_of g) s)) ++ block_by ws b s))

  -- the decorators of the first constructor's parameters in the body at b
  unfoldable pub first_by : List ℕ → ℕ → State → Trees
  first_by ws b s = first_constructor (kids_here ws b (scope_of g) s)

  -- rule 7. ds: the class's decorators
  unfoldable pub assignment_by : ℕ → List ℕ → Trees → ℕ → State → List ℕ
  assignment_by outer ws ds b s =
      assign_words c outer g.alias ++ (word_below c 16 (count_f ds + count_f (first_by ws b s)) ∷
      (words_of c ds ++ (written (body_word g c) (first_by ws b s) ++ (word_below c 9 outer ∷ []))))

-- the symbols of a plan are those of p; x: whether the class is decorated
pub record SymbolsOf (x : Bool) (p : Plan) (g : ClassPlan) : Type 0 where
  pub outer : g.outer ≡ cond x (some p.outer) none
  pub inner : g.inner ≡ p.inner
  pub alias : g.alias ≡ p.alias
  pub sizes : Small g.id × Small g.outer × Small g.inner × Small g.alias

-- what a plan says of the class of the statement at `at`, s being the state behind the class's children
pub record PlanFrom (ws : List ℕ) (notes : List Note) (at : ℕ) (s : State) (g : ClassPlan) : Type 0 where
  pub id : g.id ≡ id_of (kids_at ws (at + 1))
  pub private : g.private ≡ has_private_in (kids_at ws (at + 1))
  pub fixed : g.fixed ≡ has_static (elements_of (kids_at ws (at + 1)))
  pub calls : g.private ≡ true → g.calls ≡ count_called (elements_of (kids_at ws (at + 1)))
  pub symbols : SymbolsOf (is_decorated (kids_at ws (at + 1))) (plan_of (is_decorated (kids_at ws (at + 1))) (id_of (kids_at ws (at + 1))) s (get_or notes at blank).marked) g

-- the same against the definition; n: the counter in front of the statement
pub record Plans (ws : List ℕ) (at n : ℕ) (g : ClassPlan) : Type 0 where
  pub id : g.id ≡ id_of (rk ws at)
  pub private : g.private ≡ has_private_in (rk ws at)
  pub fixed : g.fixed ≡ has_static (elements_of (rk ws at))
  pub calls : g.private ≡ true → g.calls ≡ count_f (queue ws at n)
  pub symbols : SymbolsOf (is_decorated (rk ws at)) (plan ws at n) g
