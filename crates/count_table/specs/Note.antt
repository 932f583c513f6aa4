-- The note of a record from those of the records behind it, and the loop that fills them in from the last place to the first. Assumes nothing.
use Rattle.std.specs.Prelude.{◌≡◌, Bool, ◌&&◌, List, ℕ, ◌+◌, ◌-◌, ◌<◌, ◌≤◌, length, get_or, set, is_some}
use Rattle.std.proofs.Math.Path.{refl, ap, sym}
use Rattle.std.proofs.Common.{subst, ◌∙◌, true≢false, add-zero, arith, length-set, get_or-set_same, get_or-set_other}
use Rattle.std.proofs.Math.Bool.{true, false, or-false}
use Rattle.std.specs.declared.option.Option.{Option}
use Rattle.std.specs.declared.option.Option.TheVariants.{None as none}
use Rattle.std.proofs.Math.Dec.{eqb}
use borrow.Author.Tests.{eqb-true, eqb-false, eq-eqb, ne_eqb}
use Rattle.records.specs.Forest.{take_f}
use Rattle.words.specs.Table.{lookup}
use Rattle.words.specs.Word.{children, child_table}
use Rattle.records.specs.Label.{is, arity}
use Rattle.records.specs.Ends.{blank, ends_set}
use Rattle.records.specs.declared.Note.{Note}
use Rattle.records.specs.Place.{records_at, label_at, arity_at, kids_at, end_of, end_one, end_high}
use Rattle.rewriting.specs.Parts.{any_record, id_of, is_decorated, is_decorated_member, is_live}
use Rattle.inspect.specs.Inside.{none_records}
use Rattle.inspect.specs.Class.{member_apart}
use Rattle.walk_laws.specs.Still.{changes, still_after}
use Rattle.walk_laws.specs.After.{class_after}
use Rattle.walk_laws.specs.Rows.{fresh}
use Rattle.walk_laws.specs.Kinds.{is_element_kind, class_one}
use Rattle.counter.specs.Contract.{taking, unlive, Planned, Ready, Counts, Free, Noted, Annotated, Walks, default_from, Totals, class_count}
use Rattle.counter.specs.Steps.{ready_next, count_other, count_dropped, count_expression, count_declared, count_live}
use Rattle.counter.specs.Totals.{counts_same, from_none, follows, free_ready, free_next, class_symbols, kinds_apart, element_mark}
use Rattle.rewriting.specs.declared.Around.{Around}
use Rattle.rewriting.specs.declared.State.{State}
use Rattle.counter.specs.declared.Total.{Total}

-- what the note of a place is found from
pub record Behind (ws : List ℕ) (notes : List Note) (at s : ℕ) : Type 0 where
  pub ready : Ready ws notes at s
  pub inside : at < length ws
  pub noted : Annotated ws notes (at + 1)

unfoldable pub is_live_class : List ℕ → ℕ → Bool
is_live_class ws at = is 4 (label_at ws at) && is_live (take_f 1 (records_at ws (at + 1)))

-- no record from the place i up to `next` may change
unfoldable pub Clear : List ℕ → ℕ → ℕ → Type 0
Clear ws i next = (j : ℕ) → i ≤ j → j < next → changes (label_at ws j) (kids_at ws j) ≡ false

-- where the record at `at` ends, and how many symbols it takes where no class around is live
pub record Leads (ws : List ℕ) (at : ℕ) (t : Total) : Type 0 where
  pub place : t.at ≡ end_of ws at 1
  pub few : (t.at ≤ 4096) × (t.count ≤ 8194)
  pub count : (b : Around) (s : State) → b.live ≡ false → Free ws at s.next → Counts ws at 1 b s (record { at = t.at; state = taking t.count s })

-- ---- a class statement whose class is live

pub live_kind : (ws : List ℕ) (at : ℕ) → is_live_class ws at ≡ true → ((label_at ws at).kind ≡ 4) × (is_live (take_f 1 (records_at ws (at + 1))) ≡ true)
unfolding is_live_class is
live_kind ws at e = go (eqb (label_at ws at).kind 4) refl (is_live (take_f 1 (records_at ws (at + 1)))) refl e
  where
    go : (x : Bool) → eqb (label_at ws at).kind 4 ≡ x → (y : Bool) → is_live (take_f 1 (records_at ws (at + 1))) ≡ y → (x && y) ≡ true →
        ((label_at ws at).kind ≡ 4) × (is_live (take_f 1 (records_at ws (at + 1))) ≡ true)
    go true f y g h = (eqb-true _ 4 f, g ∙ h)
    go false f y g h = absurd (true≢false (sym h))

pub not_class : (ws : List ℕ) (at : ℕ) → ((label_at ws at).kind ≡ 4 → ⊥) → is_live_class ws at ≡ false
unfolding is_live_class is
not_class ws at n = rw (ne_eqb (label_at ws at).kind 4 n)

pub class_live : (ws : List ℕ) (at : ℕ) → (label_at ws at).kind ≡ 4 → is_live_class ws at ≡ is_live (take_f 1 (records_at ws (at + 1)))
unfolding is_live_class is
class_live ws at e = rw (eq-eqb (label_at ws at).kind 4 e)

expression_one : (ws : List ℕ) (at : ℕ) → (label_at ws at).kind ≡ 20 → arity_at ws at ≡ 1
unfolding arity_at arity children child_table lookup
expression_one ws at e = rw e

no_element : {k : ℕ} (j : ℕ) → is_element_kind k ≡ false → is_element_kind j ≡ true → k ≡ j → ⊥
no_element j e n g = true≢false (sym n ∙ sym (ap is_element_kind g) ∙ e)

module _ {ws : List ℕ} {notes : List Note} {at s : ℕ} (w : Behind ws notes at s) where
  pub behind_walks : Walks ws notes (at + 1)
  behind_walks = record { known = s; ready = ready_next w.ready w.inside; noted = w.noted }

  ends : {k : ℕ} {a : Around} {has : Bool} {t : Total} → Totals ws (at + 1) k a has t → (t.at ≤ 4096) × (t.count ≤ 8192)
  ends {k} t = (omega (arith, t.place, end_high ws (at + 1) k, w.inside, w.ready.few), omega (arith, t.few, t.place, end_high ws (at + 1) k, w.inside, w.ready.few))

  pub live_leads : {i : Option ℕ} {r : ℕ} {t : Total} → is_live_class ws at ≡ true → i ≡ id_of (kids_at ws (at + 1)) → Totals ws (at + 1) 1 (record { live = true; id = i }) false t →
      r ≡ class_count (is_decorated (kids_at ws (at + 1))) i (get_or notes at blank).marked (is_some t.default) → r ≤ 2 → Leads ws at (record { at = t.at; count = t.count + r; default = none })
  live_leads {i} {r} {t} live id h e l =
      let kind : (label_at ws at).kind ≡ 4 = (live_kind ws at live).0 in
      let one : arity_at ws at ≡ 1 = class_one ws w.ready.whole at w.inside kind in
      record {
        place = h.place ∙ ap (end_of ws (at + 1)) (sym one) ∙ sym (end_one ws at w.inside);
        few = ((ends h).0, omega (arith, (ends h).1));
        count = λ b s dead f.
            count_live (free_ready w.ready f) w.inside b s.default kind (record { live = true; id = i }) (s.next + (t.count + r)) refl id (live_kind ws at live).1 (inner s f) (symbols s);
      }
    where
      behind : State → State
      behind s = record { next = s.next + t.count; default = default_from t.default s.next none }

      inner : (s : State) → Free ws at s.next → Counts ws (at + 1) 1 (record { live = true; id = i }) (fresh s.next) (record { at = t.at; state = behind s })
      inner s f = unfold fresh in h.after (record { live = true; id = i }) (fresh s.next) (free_next f w.inside) refl λ v. (refl, refl)

      has : (s : State) → is_some (behind s).default ≡ is_some t.default
      has s = follows t.default s.next none ∙ or-false (is_some t.default)

      symbols : (s : State) → s.next + (t.count + r) ≡ class_after (is_decorated (kids_at ws (at + 1))) i (get_or notes at blank).marked (behind s)
      symbols s =
          let sum : s.next + (t.count + r) ≡ s.next + t.count + r = omega arith in
          sum ∙ class_symbols (is_decorated (kids_at ws (at + 1))) i (get_or notes at blank).marked (behind s) r
          (e ∙ ap (class_count (is_decorated (kids_at ws (at + 1))) i (get_or notes at blank).marked) (sym (has s)))

  -- ---- any other record

  never : {P : Type 0} → false ≡ true → P
  never e = absurd (true≢false (sym e))

  module _ (dead : is_live_class ws at ≡ false) {t : Total} (h : Totals ws (at + 1) (arity_at ws at) unlive false t) where
    -- its children, in any class that isn't live
    kids : (b : Around) (s : State) → b.live ≡ false → Free ws at s.next → Counts ws (at + 1) (arity_at ws at) b s (record { at = t.at; state = taking t.count s })
    kids b s l f = counts_same (h.after b s (free_next f w.inside) l never) refl refl (sym (from_none t.default s.next s.default (h.dead refl)))

    one_kid : (b : Around) (s : State) → b.live ≡ false → Free ws at s.next → arity_at ws at ≡ 1 → Counts ws (at + 1) 1 b s (record { at = t.at; state = taking t.count s })
    one_kid b s l f e = subst (λ (j : ℕ). Counts ws (at + 1) j b s (record { at = t.at; state = taking t.count s })) e (kids b s l f)

    -- from no default symbol on
    fresh_kid : (b : Around) (s : State) → b.live ≡ false → Free ws at s.next → arity_at ws at ≡ 1 → Counts ws (at + 1) 1 b (fresh s.next) (record { at = t.at; state = taking t.count (fresh s.next) })
    unfolding fresh
    fresh_kid b s l f e = one_kid b (fresh s.next) l f e

    by_kind : (x y z : Bool) → eqb (label_at ws at).kind 4 ≡ x → eqb (label_at ws at).kind 20 ≡ y → is_element_kind (label_at ws at).kind ≡ z →
        (b : Around) (s : State) → b.live ≡ false → Free ws at s.next → Counts ws at 1 b s (record { at = t.at; state = taking t.count s })
    unfolding fresh
    by_kind true y z e g k b s l f =
        let kind : (label_at ws at).kind ≡ 4 = eqb-true _ 4 e in
        count_declared (free_ready w.ready f) w.inside b s.default kind (record { live = false; id = id_of (kids_at ws (at + 1)) }) refl refl (sym (class_live ws at kind) ∙ dead)
        (fresh_kid _ s refl f (class_one ws w.ready.whole at w.inside kind))
    by_kind false true z e g k b s l f =
        let kind : (label_at ws at).kind ≡ 20 = eqb-true _ 20 g in
        count_expression (free_ready w.ready f) w.inside b s.default kind (fresh_kid _ s refl f (expression_one ws at kind))
    by_kind false false true e g k b s l f = count_dropped (free_ready w.ready f) w.inside b s.default k l (kids b s l f)
    by_kind false false false e g k b s l f =
        count_other (free_ready w.ready f) w.inside b s.default (eqb-false _ 4 e) (eqb-false _ 20 g) (no_element 30 k (unfold is_element_kind in refl)) (no_element 31 k (unfold is_element_kind in refl))
        (no_element 32 k (unfold is_element_kind in refl)) (kids b s l f)

    pub dead_leads : Leads ws at t
    dead_leads = record {
      place = h.place ∙ sym (end_one ws at w.inside);
      few = ((ends h).0, omega (arith, (ends h).1));
      count = by_kind (eqb (label_at ws at).kind 4) (eqb (label_at ws at).kind 20) (is_element_kind (label_at ws at).kind) refl refl refl;
    }

-- ---- the note

clear_of : (ws : List ℕ) (i next : ℕ) → Clear ws i next → (j : ℕ) → i ≤ j → j < next → changes (label_at ws j) (kids_at ws j) ≡ false
unfolding Clear
clear_of ws i next z j l h = z j l h

-- a record in which nothing changes
pub still_noted : {ws : List ℕ} {notes : List Note} {at s : ℕ} (next : ℕ) (v : Note) → Behind ws notes at s → Clear ws at next → v.end ≡ end_of ws at 1 → v.end ≤ next → v.count ≡ 0 → Noted ws at v
still_noted {ws} {notes} {at} {s} next v b z place h c = record {
  place = place;
  still = λ y. still;
  count = λ d t l f. record {
    place = place;
    state = still_after ws b.ready.whole at b.inside still d t ∙ ap (λ (m : ℕ). record { next = m; default = t.default }) (sym (ap (t.next +◌) c ∙ add-zero t.next));
  };
}
  where
    still : any_record changes (take_f 1 (records_at ws at)) ≡ false
    still = none_records changes ws at 1 λ j l m. clear_of ws at next z j l (omega (arith, m, place, h))

-- ---- the loop from the last place to the first

-- the notes from the place i on, in a table of m entries
pub record Filled (ws : List ℕ) (notes : List Note) (m i next : ℕ) : Type 0 where
  pub clear : Clear ws i next
  pub low : i ≤ length ws
  pub long : length notes ≡ m
  pub planned : Planned ws notes
  pub noted : Annotated ws notes i

noted_of : {ws : List ℕ} {notes : List Note} {m i next : ℕ} → Filled ws notes m i next → (j : ℕ) → i ≤ j → j < length ws → Noted ws j (get_or notes j blank)
unfolding Annotated
noted_of d j l h = d.noted j l h

pub filled_start : {ws : List ℕ} {notes : List Note} → Planned ws notes → Filled ws notes (length notes) (length ws) (length ws)
filled_start {ws} p = record { clear = unfold Clear in λ j l h. absurd (omega (arith, l, h)); low = omega arith; long = refl; planned = p; noted = unfold Annotated in λ i l h. absurd (omega (arith, l, h)) }

-- one place back
pub down : {ws : List ℕ} {notes : List Note} {m i next : ℕ} → Filled ws notes m i next → 0 < i → Filled ws notes m (i - 1 + 1) next
down {ws} {notes} {m} {i} {next} d h = let e : i ≡ i - 1 + 1 = omega (arith, h) in subst (λ (j : ℕ). Filled ws notes m j next) e d

pub filled_behind : {ws : List ℕ} {notes₀ notes : List Note} {m i next s : ℕ} → Ready ws notes₀ 0 s → Filled ws notes m (i + 1) next → Behind ws notes i s
filled_behind {ws} {notes₀} {notes} {m} {i} {next} {s} f d = record {
  ready = record { few = f.few; inside = omega (arith, d.low); whole = f.whole; planned = d.planned; ids = f.ids; room = omega (arith, f.room) };
  inside = omega (arith, d.low);
  noted = d.noted;
}

pub filled_next : {ws : List ℕ} {notes : List Note} {m i next : ℕ} (v : Note) (k : ℕ) → Filled ws notes m (i + 1) next → Clear ws i k → Noted ws i v → v.marked ≡ (get_or notes i blank).marked → Filled ws (set notes i v) m i k
filled_next {ws} {notes} {m} {i} v k d z t e = record {
  clear = z;
  low = omega (arith, d.low);
  long = length-set notes i v ∙ d.long;
  planned = record {
    ends = ends_set v d.planned.ends λ l. t.place;
    right = λ at n h kind live dec z. same at (eqb at i) refl ∙ d.planned.right at n h kind live dec z;
    classes = λ at h kind. same at (eqb at i) refl ∙ d.planned.classes at h kind;
    bodies = λ at h kind. same at (eqb at i) refl ∙ d.planned.bodies at h kind;
    members = λ at h a b e f. same at (eqb at i) refl ∙ d.planned.members at h a b e f;
    tests = λ m. d.planned.tests (sym (same 1 (eqb 1 i) refl) ∙ m);
  };
  noted = unfold Annotated in λ j l h. other j l h (eqb j i) refl;
}
  where
    in_table : i < length notes
    in_table = omega (arith, d.low, d.planned.ends.long)

    same : (at : ℕ) (x : Bool) → eqb at i ≡ x → (get_or (set notes i v) at blank).marked ≡ (get_or notes at blank).marked
    same at true g =
        let p : at ≡ i = eqb-true at i g in
        rw (p, get_or-set_same notes i v blank in_table) e
    same at false g = rw (get_or-set_other notes i at v blank (eqb-false at i g))

    other : (j : ℕ) → i ≤ j → j < length ws → (x : Bool) → eqb j i ≡ x → Noted ws j (get_or (set notes i v) j blank)
    other j l h true g =
        let p : j ≡ i = eqb-true j i g in
        subst (λ (y : ℕ). Noted ws y (get_or (set notes i v) y blank)) (sym p) (subst (Noted ws i) (sym (get_or-set_same notes i v blank in_table)) t)
    other j l h false g =
        let z : j ≡ i → ⊥ = eqb-false j i g in
        subst (Noted ws j) (sym (get_or-set_other notes i j v blank z)) (noted_of d j (omega arith) h)

-- ---- the records that may change

module _ (ws : List ℕ) (i next : ℕ) where
  pub clear_here : Clear ws i i
  unfolding Clear
  clear_here j l h = absurd (omega (arith, l, h))

  pub clear_next : Clear ws (i + 1) next → changes (label_at ws i) (kids_at ws i) ≡ false → Clear ws i next
  unfolding Clear
  clear_next c e j l h = go (eqb j i) refl
    where
      go : (b : Bool) → eqb j i ≡ b → changes (label_at ws j) (kids_at ws j) ≡ false
      go true g = ap (λ (k : ℕ). changes (label_at ws k) (kids_at ws k)) (eqb-true j i g) ∙ e
      go false g = let z : j ≡ i → ⊥ = eqb-false j i g in c j (omega (arith, l, z)) h

-- a record without a mark that is no module stays as it is
module _ {ws : List ℕ} {notes : List Note} (p : Planned ws notes) (i : ℕ) (h : i < length ws) (m : (get_or notes i blank).marked ≡ false) where
  no_class_lem : (is 26 (label_at ws i) && is_decorated (kids_at ws i)) ≡ false
  unfolding is
  no_class_lem = go (eqb (label_at ws i).kind 26) refl
    where
      go : (b : Bool) → eqb (label_at ws i).kind 26 ≡ b → (b && is_decorated (kids_at ws i)) ≡ false
      go true e = sym (p.classes i h (eqb-true _ 26 e)) ∙ m
      go false e = refl

  no_member_lem : is_decorated_member (label_at ws i) (kids_at ws i) ≡ false
  unfolding is_element_kind
  no_member_lem = go (is_element_kind (label_at ws i).kind) refl
    where
      go : (b : Bool) → is_element_kind (label_at ws i).kind ≡ b → is_decorated_member (label_at ws i) (kids_at ws i) ≡ false
      go true e = sym (element_mark i p h e) ∙ m
      go false e = member_apart (label_at ws i) (kids_at ws i) (no_kind 30 refl) (no_kind 31 refl) (no_kind 32 refl)
        where
          no_kind : (k : ℕ) → is_element_kind k ≡ true → (label_at ws i).kind ≡ k → ⊥
          no_kind k t g = kinds_apart is_element_kind k (label_at ws i).kind t e (sym g)

  pub unmarked : ((label_at ws i).kind ≡ 1 → ⊥) → changes (label_at ws i) (kids_at ws i) ≡ false
  unfolding changes is
  unmarked n = rw (ne_eqb (label_at ws i).kind 1 n, no_class_lem, no_member_lem)
