-- What a reader gives: the places of its records. So a chain over a reader answers what is asked of the records.
use denote.Param.Members.{Mut}
use mathlib.Core.Bool.{Bool, true, false}
use mathlib.Core.List.{List}
use mathlib.Core.Path.{◌≡◌, refl, ap, sym, subst, ◌∙◌}
use Prim.Native.Nat.{ℕ}
use Rattle.std.specs.Fn.{Called, CalledAt}
use denote.Ref.{Bor}
use Rattle.std.specs.Iterator.{YieldsThen}
use Rattle.std.specs.List.{FoldsTo}
use Rattle.std.specs.Option.{MatchOption, option_map, unwrap_or}
use Rattle.std.specs.declared.option.Option.{Option}
use Rattle.std.specs.declared.option.Option.TheVariants.{None, Some}
use Rattle.std.proofs.lemmas.Iterator.{YieldsList}
use Rattle.std.proofs.lemmas.Iterator.Consumers.{YieldsList-from_shown}
use Rattle.std.proofs.lemmas.Iterator.Search.{any_from_yields_List, find_from_yields_List, position_from_yields_List}
use Rattle.records.specs.Label.{Trees}
use Rattle.records.specs.Places.{places}
use lib.ListN.{length}
use Rattle.inspect.specs.Chain.{here, before_places, any_places, Search, searched}
use Rattle.inspect.specs.Reads.{Reads, Next, left}
use Rattle.inspect.specs.Row.{Test, any_row, before}
use Rattle.inspect.specs.declared.reading.Reader.{Reader}

module _ {ws : List ℕ} {f : Trees} (r : Reader) (e : Reads r ws f) where
  pub reads : YieldsList Next (λ q. q) r (places ws r.at r.left)
  reads =
      let all : YieldsList Next (λ q. q) r (left r) = YieldsList-from_shown Next (λ q. q) left (λ s t h. ap length h.gives.0) (λ s q t h. h.gives) r in
      subst (λ (w : List ℕ). YieldsList Next (λ q. q) r (places w r.at r.left)) e.words all

  pub any_read : (p : Test) (u : Reader) {F : Type 0} {g : Mut F (ℕ × Unit {0}) Bool} (h : F) (b : Bool) →
      (xs : List ℕ) × (o : Option ℕ) × (j : F) × YieldsThen Next r xs o u × FoldsTo (λ p x q. Called g p (x, tt) false q) h xs j × MatchOption o (b ≡ false) (λ x. (b ≡ true) × ((h : F) × Called g j (x, tt) true h)) →
      ((x : ℕ) (b : Bool) (q : F) → Called g h (x, tt) b q → (q ≡ h) × (b ≡ here p ws x)) → b ≡ any_row p f
  any_read p u h b ran test = any_from_yields_List {s = r} (here p ws) u h b ran reads test ∙ any_places p ws r.at r.left ∙ ap (any_row p) e.row

  pub find_read : (p : Test) (u : Reader) {F : Type 0} {g : Mut F (Bor ℕ × Unit {0}) Bool} (h : F) (o : Option ℕ) →
      (xs : List ℕ) × (j : F) × YieldsThen Next r xs o u × FoldsTo (λ p x q. CalledAt g p x false q) h xs j × MatchOption o (Unit {0}) (λ x. (h : F) × CalledAt g j x true h) →
      ((x : ℕ) (b : Bool) (q : F) → CalledAt g h x b q → (q ≡ h) × (b ≡ here p ws x)) → Search p ws r.at r.left o
  find_read p u h o ran test = subst (Search p ws r.at r.left) (sym (sym (same o) ∙ find_from_yields_List {s = r} (here p ws) u h o ran reads test)) (searched p ws r.at r.left)
    where
      same : (o : Option ℕ) → option_map (λ (q : ℕ). q) o ≡ o
      same None = refl
      same (Some q) = refl

  pub position_read : (p : Test) (u : Reader) {F : Type 0} {g : Mut F (ℕ × Unit {0}) Bool} (h : F) (o : Option ℕ) →
      (xs : List ℕ) × (x : Option ℕ) × (j : F) × YieldsThen Next r xs x u × FoldsTo (λ p x q. Called g p (x, tt) false q) h xs j × MatchOption x (o ≡ None) (λ x. (o ≡ Some (length xs)) × ((h : F) × Called g j (x, tt) true h)) →
      ((x : ℕ) (b : Bool) (q : F) → Called g h (x, tt) b q → (q ≡ h) × (b ≡ here p ws x)) → unwrap_or o r.left ≡ before p r.left f
  position_read p u h o ran test = ap (λ (o : Option ℕ). unwrap_or o r.left) (position_from_yields_List {s = r} (here p ws) u h o ran reads test) ∙ before_places p ws r.at r.left ∙ ap (before p r.left) e.row
