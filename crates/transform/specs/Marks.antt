-- What the notes say of an element where its grammar is known: whether it is a decorated member, and that its total is in its note. Assumes nothing.
use Rattle.std.specs.Prelude.{◌≡◌, refl, false, List, ℕ, ◌<◌, eqb, length, get_or}
use Rattle.records.specs.Ends.{blank}
use Rattle.records.specs.declared.Note.{Note}
use Rattle.std.proofs.lemmas.Bool.{eqb-false}
use Rattle.records.specs.Place.{label_at, kids_at}
use Rattle.grammar.specs.Grammar.{element}
use Rattle.grammar.specs.WellFormed.{Allowed}
use Rattle.rewriting.specs.Parts.{is_decorated_member}
use Rattle.walk_laws.specs.First.{element_never}
use Rattle.counter.specs.Contract.{is_walked, Planned}

module _ {ws : List ℕ} {notes : List Note} (at : ℕ) (e : Allowed element (label_at ws at)) where
  pub allowed_mark : Planned ws notes → at < length ws → (get_or notes at blank).marked ≡ is_decorated_member (label_at ws at) (kids_at ws at)
  allowed_mark p h =
      p.members at h (never 4 refl refl refl refl) (never 26 refl refl refl refl) (never 29 refl refl refl refl) (never 40 refl refl refl refl)
    where
      never : (k : ℕ) → eqb 30 k ≡ false → eqb 31 k ≡ false → eqb 32 k ≡ false → eqb 33 k ≡ false → (label_at ws at).kind ≡ k → ⊥
      never k a b c d = eqb-false _ k (element_never (λ (j : ℕ). eqb j k) (label_at ws at) a b c d e)

pub allowed_single : (ws : List ℕ) (at : ℕ) → Allowed element (label_at ws at) → is_walked (label_at ws at).kind ≡ false
unfolding is_walked
allowed_single ws at e = element_never is_walked (label_at ws at) refl refl refl refl e
