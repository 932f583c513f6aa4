-- The contracts of the walkers that write: what they ask of the words and the class stack, and what they leave. Definitions only.
use Rattle.std.specs.Prelude.{◌≡◌, Bool, ◌&&◌, not, List, ◌∷◌, ◌++◌, ℕ, ◌+◌, ◌<◌, ◌≤◌}
use Rattle.records.specs.declared.Note.{Note}
use Rattle.std.specs.declared.option.Option.TheVariants.{None as none}
use Rattle.records.specs.Forest.{count_f}
use Rattle.records.specs.Label.{Trees}
use Rattle.records.specs.Place.{label_at, kids_at, end_of}
use Rattle.output.specs.Overlay.{Wrote}
use Rattle.rewriting.specs.Parts.{is_decorated_member, has_plain_key}
use Rattle.rewriting.specs.Visit.{visit}
use Rattle.rewriting.specs.declared.State.{State}
use Rattle.rewriting.specs.declared.Around.{Around}
use Rattle.class_stack.specs.Renaming.{capacity}
use Rattle.class_stack.specs.Stack.{subs}
use Rattle.class_stack.specs.declared.ClassStack.{ClassStack}
use Rattle.walk_laws.specs.Rows.{visit_at}
use Rattle.walk_laws.specs.Written.{word_by, written}
use Rattle.walk_laws.specs.Members.{bare_words, key_words}
use Rattle.counter.specs.Contract.{Ready, Annotated}
use Rattle.transform.specs.Under.{word_under}
use Rattle.transform.specs.Nest.{nest_at}
use Rattle.transform.specs.declared.Walk.{Walk}

-- the word of a kind and payload, and the words of records, under the classes of a stack
unfoldable pub word_below : ClassStack → ℕ → ℕ → ℕ
word_below c k p = word_under (subs c) k p

unfoldable pub words_of : ClassStack → Trees → List ℕ
words_of c f = written (word_below c) f

-- the state in front of a class; n: the counter there
abbrev pub begun : ℕ → State
begun n = record { next = n; default = none }

-- the visit of the k records at `at`, in the class and from the state of the walker
unfoldable pub here_at : List ℕ → ℕ → ℕ → Around → State → Trees
here_at ws at k a s = (visit_at ws at k a s).here

unfoldable pub calls_at : List ℕ → ℕ → ℕ → Around → State → Trees
calls_at ws at k a s = (visit_at ws at k a s).calls

unfoldable pub after_at : List ℕ → ℕ → ℕ → Around → State → State
after_at ws at k a s = (visit_at ws at k a s).after

-- what a walker of the k records at `at` asks, which is to write `len` words at `pos`
pub record Asks (ws : List ℕ) (notes : List Note) (at k n : ℕ) (c : ClassStack) (pos len : ℕ) : Type 0 where
  pub ready : Ready ws notes at n
  pub noted : Annotated ws notes at
  pub deep : c.depth + nest_at ws at k ≤ capacity
  pub fit : pos + len < 67108864

-- words were written, and the walk stands at a place and in a state
pub record Moved (words : List ℕ) (at : ℕ) (after : State) (o : List ℕ) (pos : ℕ) (o' : List ℕ) (r : Walk) : Type 0 where
  pub wrote : Wrote o pos words o' r.pos
  pub place : r.at ≡ at
  pub state : after ≡ r.state

-- what the k records at `at` became was written, and counted from m on
pub record Emitted (ws : List ℕ) (at k : ℕ) (a : Around) (s : State) (c : ClassStack) (o : List ℕ) (pos m : ℕ) (o' : List ℕ) (r : Walk) : Type 0 where
  pub moved : Moved (words_of c (here_at ws at k a s)) (end_of ws at k) (after_at ws at k a s) o pos o' r
  pub number : r.count ≡ m + count_f (here_at ws at k a s)

-- what they queue
pub record Queues (ws : List ℕ) (at k : ℕ) (a : Around) (s : State) (c : ClassStack) (o : List ℕ) (pos m : ℕ) (o' : List ℕ) (r : Walk) : Type 0 where
  pub moved : Moved (words_of c (calls_at ws at k a s)) (end_of ws at k) (after_at ws at k a s) o pos o' r
  pub number : r.count ≡ m + count_f (calls_at ws at k a s)

-- ---- the words of an element without its decorators

unfoldable pub behind_words : List ℕ → ℕ → Around → State → ClassStack → List ℕ
behind_words ws at a s c = bare_words (word_below c) ws a at s

unfoldable pub member_words : List ℕ → ℕ → Around → State → ClassStack → List ℕ
member_words ws at a s c =
    word_by (word_below c) (label_at ws at) ∷ word_below c 28 0 ∷ (key_words (word_below c) ws a at s ++ behind_words ws at a s c)

-- does the member at `at` take a symbol for its key
unfoldable pub takes_key : List ℕ → ℕ → Around → Bool
takes_key ws at a = a.live && is_decorated_member (label_at ws at) (kids_at ws at) && not (has_plain_key (kids_at ws at))

-- the visit of all children of the record at `at`
unfoldable pub kids_here : List ℕ → ℕ → Around → State → Trees
kids_here ws at a s = (visit a (kids_at ws at) s).here
