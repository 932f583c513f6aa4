-- The contracts of the walkers that count fresh symbols: what they ask of the words, and what they answer. Definitions only.
use Rattle.std.specs.Prelude.{◌≡◌, Bool, true, false, ◌||◌, List, [], ◌∷◌, ℕ, ◌+◌, ◌-◌, ◌*◌, ◌<◌, ◌≤◌, eqb, length, get_or, is_some}
use Rattle.std.specs.declared.option.Option.{Option}
use Rattle.std.specs.declared.option.Option.TheVariants.{None as none, Some as some}
use Rattle.records.specs.Forest.{take_f}
use Rattle.records.specs.Label.{Trees}
use Rattle.records.specs.Ends.{Ends, blank}
use Rattle.records.specs.declared.Note.{Note}
use Rattle.records.specs.Place.{records_at, label_at, kids_at, end_of}
use Rattle.grammar.specs.Grammar.{module'}
use Rattle.grammar.specs.WellFormed.{Fits}
use Rattle.rewriting.specs.Parts.{any_record, elements_of, id_of, is_decorated, is_decorated_member, is_live, class_kids}
use Rattle.rewriting.specs.declared.Around.{Around}
use Rattle.rewriting.specs.declared.State.{State}
use Rattle.inspect.specs.Row.{any_row}
use Rattle.walk_laws.specs.Rows.{visit_at, fresh}
use Rattle.walk_laws.specs.After.{mentioned}
use Rattle.walk_laws.specs.Still.{changes}
use Rattle.counter.specs.declared.Counted.{Counted}
use Rattle.counter.specs.declared.Total.{Total}

-- no class around is live
abbrev pub unlive : Around
unlive = record { live = false; id = none }

-- the state behind records that take c symbols, none of them for the default symbol
abbrev pub taking : ℕ → State → State
taking c s = record { next = s.next + c; default = s.default }

-- a symbol, if there is one, is below n
unfoldable pub Below : ℕ → Option ℕ → Type 0
Below n none = Unit {0}
Below n (some c) = c < n

-- the visited elements of the class of the statement at `at`; n: the counter in front of it
unfoldable pub elements_from : List ℕ → ℕ → ℕ → Trees
elements_from ws at n = elements_of (class_kids (visit_at ws (at + 1) 1 (record { live = true; id = id_of (kids_at ws (at + 1)) }) (fresh n)).here)

-- the notes say where records end. The mark of a class statement says that its class takes an alias, exactly when rule 6's search finds its symbol, whatever
-- the counter in front of it; that of a class, whether it is decorated (rule 6); that of a body, whether a member in it is decorated; that of the module's 40, at
-- place 1, whether there may be a private-in test (rule 9); that of any other record, whether it is a decorated member (rule 3)
pub record Planned (ws : List ℕ) (notes : List Note) : Type 0 where
  pub ends : Ends ws notes 0
  pub right : (at n : ℕ) → at < length ws → (label_at ws at).kind ≡ 4 → is_live (take_f 1 (records_at ws (at + 1))) ≡ true → is_decorated (kids_at ws (at + 1)) ≡ true →
      Below n (id_of (kids_at ws (at + 1))) → (get_or notes at blank).marked ≡ mentioned (id_of (kids_at ws (at + 1))) (elements_from ws at n)
  pub classes : (at : ℕ) → at < length ws → (label_at ws at).kind ≡ 26 → (get_or notes at blank).marked ≡ is_decorated (kids_at ws at)
  pub bodies : (at : ℕ) → at < length ws → (label_at ws at).kind ≡ 29 → (get_or notes at blank).marked ≡ any_row is_decorated_member (kids_at ws at)
  pub members : (at : ℕ) → at < length ws → ((label_at ws at).kind ≡ 4 → ⊥) → ((label_at ws at).kind ≡ 26 → ⊥) → ((label_at ws at).kind ≡ 29 → ⊥) → ((label_at ws at).kind ≡ 40 → ⊥) →
      (get_or notes at blank).marked ≡ is_decorated_member (label_at ws at) (kids_at ws at)
  pub tests : (get_or notes 1 blank).marked ≡ false → (at : ℕ) → at < length ws → (label_at ws at).kind ≡ 19 → ⊥

-- a class and its body: what they take depends on the class around, and is not in their notes
unfoldable pub is_walked : ℕ → Bool
is_walked k = eqb k 26 || eqb k 29

-- what a walker at the place `at` with the counter n asks: an accepted module, and room for the symbols to come
pub record Ready (ws : List ℕ) (notes : List Note) (at n : ℕ) : Type 0 where
  pub few : length ws ≤ 4096
  pub inside : at ≤ length ws
  pub whole : Fits (module' ∷ []) (records_at ws 0)
  pub planned : Planned ws notes
  pub ids : (i : ℕ) → (label_at ws i).kind ≡ 26 → Below n (id_of (kids_at ws i))
  pub room : n + 2 * (length ws - at) < 67108864

-- what it answers for the k records at `at`, from the state s on
pub record Counts (ws : List ℕ) (at k : ℕ) (a : Around) (s : State) (r : Counted) : Type 0 where
  pub place : r.at ≡ end_of ws at k
  pub state : (visit_at ws at k a s).after ≡ r.state

-- ---- counts that hold for every state in front

-- a counter n in front of `at` that no id has reached, with room for the symbols to come
pub record Free (ws : List ℕ) (at n : ℕ) : Type 0 where
  pub ids : (i : ℕ) → (label_at ws i).kind ≡ 26 → Below n (id_of (kids_at ws i))
  pub room : n + 2 * (length ws - at) < 67108864

-- the note w of the record at i says where it ends, how many fresh symbols it takes where no class around is live, and perhaps that nothing in it changes
pub record Noted (ws : List ℕ) (i : ℕ) (w : Note) : Type 0 where
  pub place : w.end ≡ end_of ws i 1
  pub still : w.still ≡ true → any_record changes (take_f 1 (records_at ws i)) ≡ false
  pub count : (a : Around) (s : State) → a.live ≡ false → Free ws i s.next → Counts ws i 1 a s (record { at = w.end; state = taking w.count s })

-- so do the notes of all places from `at` on
unfoldable pub Annotated : List ℕ → List Note → ℕ → Type 0
Annotated ws notes at = (i : ℕ) → at ≤ i → i < length ws → Noted ws i (get_or notes i blank)

-- what a walker asks that counts for every state in front
pub record Walks (ws : List ℕ) (notes : List Note) (at : ℕ) : Type 0 where
  pub known : ℕ
  pub ready : Ready ws notes at known
  pub noted : Annotated ws notes at

-- the symbol with the number o behind the counter n, if there is one, is a symbol
unfoldable pub Near : Option ℕ → ℕ → Type 0
Near none n = Unit {0}
Near (some o) n = n + o < 67108864

-- the default symbol behind records that take the symbol n + o for it, or none
unfoldable pub default_from : Option ℕ → ℕ → Option ℕ → Option ℕ
default_from none n d = d
default_from (some o) n d = some (n + o)

-- from any state in front, in a class like a, the k records at `at` end at q and take c symbols, the one with the number o for the default symbol
abbrev pub FromAny : List ℕ → ℕ → ℕ → Around → Bool → ℕ → ℕ → Option ℕ → Type 0
FromAny ws at k a has q c o =
    (b : Around) (s : State) → Free ws at s.next → b.live ≡ a.live → (a.live ≡ true → (b ≡ a) × (is_some s.default ≡ has)) →
    Counts ws at k b s (record { at = q; state = record { next = s.next + c; default = default_from o s.next s.default } })

-- what it answers for the k records at `at` in the class a; has: whether that has its default symbol in front of them
pub record Totals (ws : List ℕ) (at k : ℕ) (a : Around) (has : Bool) (r : Total) : Type 0 where
  pub place : r.at ≡ end_of ws at k
  pub low : Below r.count r.default
  pub dead : a.live ≡ false → r.default ≡ none
  pub few : r.count + 2 * at ≤ 2 * r.at
  pub after : FromAny ws at k a has r.at r.count r.default

-- rule 5: how many symbols a key takes
unfoldable pub key_count : Bool → ℕ
key_count true = 0
key_count false = 1

-- rule 6: how many symbols a live class takes, by its decorators, its id, whether it takes an alias and whether it has its default symbol
unfoldable pub class_count : Bool → Option ℕ → Bool → Bool → ℕ
class_count false id m has = 0
class_count true (some c) true has = 2
class_count true (some c) false has = 1
class_count true none m true = 0
class_count true none m false = 1
