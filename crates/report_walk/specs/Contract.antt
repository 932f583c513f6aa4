-- The contracts of the walkers that write the symbol report: what they ask, and what they leave. Definitions only.
use Rattle.std.specs.Prelude.{◌≡◌, Bool, true, false, List, [], ◌∷◌, ℕ, ◌+◌, ◌-◌, ◌*◌, ◌<◌, length}
use Rattle.records.specs.declared.Note.{Note}
use Rattle.std.specs.declared.option.Option.{Option}
use Rattle.std.specs.declared.option.Option.TheVariants.{None as none, Some as some}
use Rattle.records.specs.Label.{Label, ◌∶◌, words}
use Rattle.output.specs.Overlay.{Wrote}
use Rattle.rewriting.specs.Visit.{Default, Key, Inner, Alias, class_symbol, named_symbols}
use Rattle.rewriting.specs.declared.Around.{Around}
use Rattle.rewriting.specs.declared.State.{State}
use Rattle.walk_laws.specs.Rows.{visit_at}
use Rattle.walk_laws.specs.Kinds.{is_element_kind}
use Rattle.counter.specs.Contract.{Ready, Counts}
use Rattle.report_walk.specs.declared.Sort.{Sort}
use Rattle.report_walk.specs.declared.Sort.TheVariants.{Default as default_sort, Key as key_sort, Inner as inner_sort, Alias as alias_sort}
use Rattle.report_walk.specs.declared.Role.{Role}
use Rattle.report_walk.specs.declared.Role.TheVariants.{Statement, Expression, Element, Other}
use Rattle.report_walk.specs.declared.Walk.{Walk}

-- ---- what the two enums stand for

abbrev pub number : Sort → ℕ
number default_sort = Default
number key_sort = Key
number inner_sort = Inner
number alias_sort = Alias

-- a record of the kind k has this role
abbrev pub HasRole : Role → ℕ → Type 0
HasRole Statement k = k ≡ 4
HasRole Expression k = k ≡ 20
HasRole Element k = is_element_kind k ≡ true
HasRole Other k = (k ≡ 4 → ⊥) × (k ≡ 20 → ⊥) × (k ≡ 30 → ⊥) × (k ≡ 31 → ⊥) × (k ≡ 32 → ⊥)

-- ---- the symbols that a record takes itself, n or s being the state before

-- rule 5: a member's key; b: whether it gives a name as it stands
unfoldable pub key_fresh : Bool → ℕ → List Label
key_fresh true n = []
key_fresh false n = (Key ∶ n) ∷ []

-- rule 6: a decorated class; m: whether the search finds its symbol
unfoldable pub decorated_fresh : Option ℕ → Bool → State → List Label
decorated_fresh (some c) m s = (named_symbols m c s.next).fresh
decorated_fresh none m s = (class_symbol none s.default s).fresh

unfoldable pub decorated_state : Option ℕ → Bool → State → State
decorated_state (some c) m s = record { next = (named_symbols m c s.next).next; default = s.default }
decorated_state none m s = (class_symbol none s.default s).after

-- rule 6: a live class; b: whether it is decorated
unfoldable pub class_fresh : Bool → Option ℕ → Bool → State → List Label
class_fresh true id m s = decorated_fresh id m s
class_fresh false id m s = []

unfoldable pub class_state : Bool → Option ℕ → Bool → State → State
class_state true id m s = decorated_state id m s
class_state false id m s = s

-- the state once a symbol is taken that is no default symbol
abbrev pub more : State → State
more s = record { next = s.next + 1; default = s.default }

-- what is left where the symbols xs are taken: their words in the slice, and the state s behind them. w and o before, r and o' after
pub record Takes (xs : List Label) (s : State) (w : Walk) (o : List ℕ) (r : Walk) (o' : List ℕ) : Type 0 where
  pub place : r.at ≡ w.at
  pub state : r.state ≡ s
  pub wrote : Wrote o w.pos (words xs) o' r.pos

-- ---- the walkers

-- the report's words for the k records at `at`, in order of need
unfoldable pub report_at : List ℕ → ℕ → ℕ → Around → State → List ℕ
report_at ws at k around s = words (visit_at ws at k around s).fresh

-- what a walker asks: what the counter asks, and two places for each word left to read
pub record Asks (ws : List ℕ) (notes : List Note) (w : Walk) : Type 0 where
  pub ready : Ready ws notes w.at w.state.next
  pub places : w.pos + 2 * (length ws - w.at) < 67108864

-- what it leaves for the next k records: the counter's answer, and their words in the slice. w and o before, r and o' after
pub record Reports (ws : List ℕ) (k : ℕ) (a : Around) (w : Walk) (o : List ℕ) (r : Walk) (o' : List ℕ) : Type 0 where
  pub counts : Counts ws w.at k a w.state (record { at = r.at; state = r.state })
  pub wrote : Wrote o w.pos (report_at ws w.at k a w.state) o' r.pos
