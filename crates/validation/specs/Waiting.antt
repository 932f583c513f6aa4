-- The places that wait for records, as runs. Definitions only.
use Rattle.std.specs.Prelude.{◌≡◌, List, [], ◌∷◌, ◌++◌, ℕ, zero, suc, ◌+◌, ◌-◌, ◌*◌, ◌≤◌, length, replicate, get_or}
use Rattle.grammar.specs.Limits.{max_depth}
use Rattle.grammar.specs.Slots.{slot_of}
use Rattle.grammar.specs.Scan.{Place, place}
use Rattle.grammar.specs.declared.Slot.TheVariants.{Module}
use Rattle.validation.specs.declared.Run.{Run}

-- the places of a run
unfoldable pub places_in : Run → List Place
places_in r = replicate r.count (place (slot_of r.slot) (max_depth + 1 - r.left))

-- those of runs, the first one's first
unfoldable pub waiting : List Run → List Place
waiting [] = []
waiting (r ∷ rs) = places_in r ++ waiting rs

-- the first n runs of an array, the last one first
unfoldable pub stacked : ℕ → List Run → List Run
stacked zero rs = []
stacked (suc n) rs = get_or rs n (record { slot = Module; left = 0; count = 0 }) ∷ stacked n rs

-- none of the runs is empty, and each leaves room for its levels, four runs to each
unfoldable pub Roomy : List Run → Type 0
Roomy [] = Unit {0}
Roomy (r ∷ rs) = (r.count ≡ 0 → ⊥) × (length rs + 4 * r.left ≤ 256) × Roomy rs
