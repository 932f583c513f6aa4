-- Counts that hold for every state in front: one law for each step of the walkers that total, and the notes that they read. Assumes nothing.
use Rattle.std.specs.Prelude.{◌≡◌, Bool, ◌||◌, ◌&&◌, List, ℕ, suc, ◌+◌, ◌*◌, ◌<◌, ◌≤◌, eqb, length, get_or, is_some}
use Rattle.std.proofs.Math.Path.{refl, ap, sym}
use Rattle.std.proofs.Common.{subst, ◌∙◌, true≢false, add-one, add-zero, arith}
use Rattle.std.proofs.Math.Bool.{true, false}
use Rattle.std.specs.declared.option.Option.{Option}
use Rattle.std.specs.declared.option.Option.TheVariants.{None as none, Some as some}
use borrow.Author.Tests.{eqb-false, eq-eqb, ne_eqb}
use Rattle.words.specs.Kinds.{named, number_other}
use Rattle.words.specs.declared.kinds.Kind.{Kind}
use Rattle.words.specs.declared.kinds.Kind.TheVariants.{Class, Body, Method, Property, AbstractAccessor}
use Rattle.records.specs.Forest.{end, node}
use Rattle.records.specs.Label.{Trees}
use Rattle.records.specs.Ends.{blank}
use Rattle.records.specs.declared.Note.{Note}
use Rattle.records.specs.Place.{label_at, arity_at, kids_at, end_of, end_one, end_add, end_low, end_high}
use Rattle.rewriting.specs.Parts.{elements_of, id_of, is_decorated_member, has_plain_key}
use Rattle.rewriting.specs.Visit.{Result, class_symbol, visit}
use Rattle.rewriting.specs.declared.Around.{Around}
use Rattle.rewriting.specs.declared.State.{State}
use Rattle.inspect.specs.Row.{any_row, or_left, or_right}
use Rattle.walk_laws.specs.Rows.{one_after, kids_visit}
use Rattle.walk_laws.specs.After.{key_after, member_after, class_after, decorated_after, alias_after, default_after}
use Rattle.walk_laws.specs.Kinds.{is_element_kind, element_after}
use Rattle.walk_laws.specs.Quiet.{has_class}
use Rattle.walk_laws.specs.Still.{still_after}
use Rattle.walk_laws.specs.Around.{kids_same, after_same}
use Rattle.walk_laws.specs.Undecorated.{Undecorated, undecorated_same}
use Rattle.counter.specs.Contract.{is_walked, unlive, taking, Below, Planned, Ready, Counts, Free, Noted, Annotated, Walks, default_from, Near, FromAny, Totals, key_count, class_count}
use Rattle.counter.specs.Steps.{counts_low, counts_high, counts_within, below_more, ready_on, count_none, count_past, count_add, count_other, count_plain, count_member, taken_id, taken_default, taken_fresh}
use Rattle.counter.specs.declared.Counted.{Counted}
use Rattle.counter.specs.declared.Total.{Total}

-- ---- the same answer by its parts

pub state_same : (s t : State) → s.next ≡ t.next → s.default ≡ t.default → s ≡ t
state_same s t e g = ap (λ (n : ℕ). record { next = n; default = s.default }) e ∙ ap (λ (d : Option ℕ). record { next = t.next; default = d }) g

pub counts_same : {ws : List ℕ} {at k : ℕ} {a : Around} {s : State} {r t : Counted} → Counts ws at k a s r → t.at ≡ r.at → t.state.next ≡ r.state.next → t.state.default ≡ r.state.default →
    Counts ws at k a s t
counts_same {r = r} {t = t} c p e g = record { place = p ∙ c.place; state = c.state ∙ state_same r.state t.state (sym e) (sym g) }

pub total_same : {ws : List ℕ} {at k : ℕ} {a : Around} {has : Bool} {q c : ℕ} {o : Option ℕ} (r : Total) → Totals ws at k a has (record { at = q; count = c; default = o }) →
    r.at ≡ q → r.count ≡ c → r.default ≡ o → Totals ws at k a has r
total_same {ws} {at} {k} {a} {has} {q} {c} {o} r t p e g =
    subst (λ (v : Option ℕ). Totals ws at k a has (record { at = r.at; count = r.count; default = v })) (sym g)
    (subst (λ (v : ℕ). Totals ws at k a has (record { at = r.at; count = v; default = o })) (sym e)
    (subst (λ (v : ℕ). Totals ws at k a has (record { at = v; count = c; default = o })) (sym p) t))

-- two kinds of which a test says different things are different
pub kinds_apart : (f : ℕ → Bool) (k j : ℕ) → f k ≡ true → f j ≡ false → k ≡ j → ⊥
kinds_apart f k j t n e = true≢false (sym t ∙ ap f e ∙ n)

-- a class, a body, or a word that is neither by its answer
pub walked_class : (n : ℕ) → n ≡ 26 → is_walked n ≡ true
unfolding is_walked
walked_class n e = rw e

pub walked_body : (n : ℕ) → n ≡ 29 → is_walked n ≡ true
unfolding is_walked
walked_body n e = rw e

pub walked_other : {o : Option Kind} (n : ℕ) → o ≡ named n → (o ≡ some Class → ⊥) → (o ≡ some Body → ⊥) → is_walked n ≡ false
unfolding is_walked
walked_other n e a b = rw (ne_eqb n 26 (number_other Class e a), ne_eqb n 29 (number_other Body e b))

-- the kinds of elements that may be members
pub element_kind : (k : ℕ) → 30 ≤ k → k < 33 → is_element_kind k ≡ true
unfolding is_element_kind
element_kind k l h = go (eqb k 30) (eqb k 31) refl refl
  where
    go : (x y : Bool) → eqb k 30 ≡ x → eqb k 31 ≡ y → is_element_kind k ≡ true
    go true y e f = unfold is_element_kind in rw e
    go false true e f = unfold is_element_kind in rw (e, f)
    go false false e f = unfold is_element_kind in rw (e, f, eq-eqb k 32 (omega (arith, eqb-false k 30 e, eqb-false k 31 f)))

-- an element is neither a class nor a body
pub element_single : (k : ℕ) → is_element_kind k ≡ true → is_walked k ≡ false
unfolding is_walked
element_single k e = rw (ne_eqb k 26 (kinds_apart is_element_kind k 26 e (unfold is_element_kind in refl)), ne_eqb k 29 (kinds_apart is_element_kind k 29 e (unfold is_element_kind in refl)))

-- ---- default symbols

pub from_none : (o : Option ℕ) (n : ℕ) (d : Option ℕ) → o ≡ none → default_from o n d ≡ d
unfolding default_from
from_none o n d e = rw e

-- whether there is one behind records that take the symbol n + o for it, or none
pub follows : (o : Option ℕ) (n : ℕ) (d : Option ℕ) → is_some (default_from o n d) ≡ (is_some o || is_some d)
unfolding default_from
follows none n d = refl
follows (some o) n d = refl

-- the symbol of two rows, one behind the other
joined : (x y : Option ℕ) (c n : ℕ) (e : Option ℕ) → default_from (default_from y c x) n e ≡ default_from y (n + c) (default_from x n e)
unfolding default_from
joined x none c n e = refl
joined x (some y) c n e = let s : n + (c + y) ≡ n + c + y = omega arith in ap some s

joined_low : (m k : ℕ) (x y : Option ℕ) → Below m x → Below k y → Below (m + k) (default_from y m x)
unfolding Below default_from
joined_low m k none none s t = tt
joined_low m k (some x) none s t = omega arith
joined_low m k x (some y) s t = omega arith

-- a symbol that is near enough
pub near_below : (c n : ℕ) (o : Option ℕ) → n + c ≤ 67108864 → Below c o → Near o n
unfolding Below Near
near_below c n none h b = tt
near_below c n (some o) h b = omega arith

-- ---- rows without decorated members

none_decorated : (f : Trees) → any_row is_decorated_member f ≡ false → Undecorated f
unfolding any_row Undecorated
none_decorated end e = tt
none_decorated (node l k r) e = (or_left (is_decorated_member l k) (any_row is_decorated_member r) e, none_decorated r (or_right (is_decorated_member l k) (any_row is_decorated_member r) e))

-- ---- counters in front

module _ {ws : List ℕ} {notes : List Note} {at m : ℕ} (f : Ready ws notes at m) where
  pub ready_free : Free ws at m
  ready_free = record { ids = f.ids; room = f.room }

  pub free_ready : {n : ℕ} → Free ws at n → Ready ws notes at n
  free_ready g = record { few = f.few; inside = f.inside; whole = f.whole; planned = f.planned; ids = g.ids; room = g.room }

free_on : {ws : List ℕ} {at n : ℕ} → at ≤ length ws → Free ws at n → (q m : ℕ) → q ≤ length ws → n ≤ m → m + 2 * at ≤ n + 2 * q → Free ws q m
free_on {ws} {at} {n} i f q m h l g = record { ids = λ i e. below_more n m (id_of (kids_at ws i)) l (f.ids i e); room = omega (arith, f.room) }

pub free_next : {ws : List ℕ} {at n : ℕ} → Free ws at n → at < length ws → Free ws (at + 1) n
free_next f h = record { ids = f.ids; room = omega (arith, f.room) }

-- behind records that were counted
free_behind : {ws : List ℕ} {at k : ℕ} {a : Around} {s : State} {r : Counted} → at ≤ length ws → Free ws at s.next → Counts ws at k a s r → Free ws r.at r.state.next
free_behind {r = r} i f c = free_on i f r.at r.state.next (counts_within c i) (counts_low c) (counts_high c)

-- a place further on
pub noted_on : (ws : List ℕ) (notes : List Note) (at q : ℕ) → at ≤ q → Annotated ws notes at → Annotated ws notes q
unfolding Annotated
noted_on ws notes at q h f i l g = f i (omega arith) g

pub note_at : (ws : List ℕ) (notes : List Note) (at : ℕ) → Annotated ws notes at → at < length ws → Noted ws at (get_or notes at blank)
unfolding Annotated
note_at ws notes at f h = f at (omega arith) h

-- ---- kinds

no_class_lem : (k : ℕ) → is_element_kind k ≡ true → has_class k ≡ false
unfolding has_class
no_class_lem k e = rw (ne_eqb k 4 (kinds_apart is_element_kind k 4 e (unfold is_element_kind in refl)), ne_eqb k 20 (kinds_apart is_element_kind k 20 e (unfold is_element_kind in refl)))

dropped : (x y p : Bool) (id : Option ℕ) (s : State) → x ≡ false → member_after (x && y) p id s ≡ s
unfolding member_after
dropped x y p id s e = rw e

keyed : (b : Bool) (s : State) → key_after b s ≡ record { next = s.next + key_count b; default = s.default }
unfolding key_after key_count
keyed true s = rw (add-zero s.next)
keyed false s = rw (add-one s.next)

sum : (n c k : ℕ) → n + c + k ≡ n + (c + k)
sum n c k = omega arith

sum_one : (n c k : ℕ) → n + c + 1 + k ≡ n + (c + (1 + k))
sum_one n c k = omega arith

-- ---- rows

module _ {ws : List ℕ} {notes : List Note} {at : ℕ} (w : Walks ws notes at) where
  -- a default symbol that is one, or isn't, as asked
  pick : Bool → Option ℕ
  pick true = some 0
  pick false = none

  pick_has : (b : Bool) → is_some (pick b) ≡ b
  unfolding pick
  pick_has true = refl
  pick_has false = refl

  -- at most two symbols a word
  pub few_of : {k : ℕ} {a : Around} (has : Bool) (q c : ℕ) (o : Option ℕ) →
      FromAny ws at k a has q c o → c + 2 * at ≤ 2 * q
  few_of {k} {a} has q c o f =
      let g = f a (record { next = w.known; default = pick has }) (ready_free w.ready) refl (λ e. (refl, pick_has has)) in
      omega (arith, counts_high g)

  pub total_none : (a : Around) (has : Bool) → Totals ws at 0 a has (record { at = at; count = 0; default = none })
  unfolding Below default_from
  total_none a has = record {
    place = (count_none ws at a (record { next = 0; default = none })).place;
    low = tt;
    dead = λ e. refl;
    few = omega arith;
    after = λ b s f l e. counts_same (count_none ws at b s) refl (omega arith) refl;
  }

  pub total_past : (k : ℕ) (a : Around) (has : Bool) → length ws ≤ at → Totals ws at k a has (record { at = at; count = 0; default = none })
  unfolding Below default_from
  total_past k a has h = record {
    place = (count_past ws at a (record { next = 0; default = none }) k h).place;
    low = tt;
    dead = λ e. refl;
    few = omega arith;
    after = λ b s f l e. counts_same (count_past ws at b s k h) refl (omega arith) refl;
  }

  module _ {j k : ℕ} {a : Around} {has : Bool} {x y : Total} (u : Totals ws at j a has x) (t : Totals ws x.at k a (is_some x.default || has) y) where
    inside : x.at ≤ length ws
    inside = omega (arith, u.place, end_high ws at j, w.ready.inside)

    pub near_total : Near y.default x.count
    near_total = near_below y.count x.count y.default (omega (arith, u.few, t.few, t.place, end_high ws x.at k, inside, w.ready.few)) t.low

    pub total_add : Totals ws at (j + k) a has (record { at = y.at; count = x.count + y.count; default = default_from y.default x.count x.default })
    total_add = record {
      place = t.place ∙ ap (λ (p : ℕ). end_of ws p k) u.place ∙ sym (end_add ws at j k);
      low = joined_low x.count y.count x.default y.default u.low t.low;
      dead = λ e. ap (λ (o : Option ℕ). default_from o x.count x.default) (t.dead e) ∙ (unfold default_from in u.dead e);
      few = omega (arith, u.few, t.few);
      after = λ b s f l g.
          counts_same
          (count_add ws at b s j k x.at (record { next = s.next + x.count; default = default_from x.default s.next s.default }) (u.after b s f l g)
          (t.after b (record { next = s.next + x.count; default = default_from x.default s.next s.default }) (free_behind w.ready.inside f (u.after b s f l g)) l
          λ v. ((g v).0, follows x.default s.next s.default ∙ ap (is_some x.default ||◌) (g v).1)))
          refl (omega arith) (joined x.default y.default x.count s.next s.default);
    }

-- ---- records

module _ {ws : List ℕ} {notes : List Note} {at : ℕ} (w : Walks ws notes at) (h : at < length ws) (a : Around) (has : Bool) where
  -- a record that does nothing of its own
  pub total_other : {r : Total} → ((label_at ws at).kind ≡ 4 → ⊥) → ((label_at ws at).kind ≡ 20 → ⊥) → ((label_at ws at).kind ≡ 30 → ⊥) → ((label_at ws at).kind ≡ 31 → ⊥) →
      ((label_at ws at).kind ≡ 32 → ⊥) → Totals ws (at + 1) (arity_at ws at) a has r → Totals ws at 1 a has r
  total_other {r} a4 a20 a30 a31 a32 t =
      let all : FromAny ws at 1 a has r.at r.count r.default = λ b s f l e.
      count_other (free_ready w.ready f) h b s.default a4 a20 a30 a31 a32 (t.after b s (free_next f h) l e) in
      record {
        place = t.place ∙ sym (end_one ws at h);
        low = t.low;
        dead = t.dead;
        few = few_of w {k = 1} {a = a} has r.at r.count r.default all;
        after = all;
      }

-- the mark of an element says whether it is a decorated member
pub element_mark : {ws : List ℕ} {notes : List Note} (at : ℕ) → Planned ws notes → at < length ws → is_element_kind (label_at ws at).kind ≡ true →
    (get_or notes at blank).marked ≡ is_decorated_member (label_at ws at) (kids_at ws at)
unfolding is_element_kind
element_mark {ws} at p h kind = p.members at h (apart 4 refl) (apart 26 refl) (apart 29 refl) (apart 40 refl)
  where
    apart : (k : ℕ) → is_element_kind k ≡ false → (label_at ws at).kind ≡ k → ⊥
    apart k e = kinds_apart is_element_kind (label_at ws at).kind k kind e

module _ {ws : List ℕ} {notes : List Note} {at : ℕ} (w : Walks ws notes at) (h : at < length ws) (a : Around) (has : Bool) (x : Note) (t : Noted ws at x) where
  total_by : ((b : Around) (s : State) → Free ws at s.next → b.live ≡ a.live → Counts ws at 1 b s (record { at = x.end; state = taking x.count s })) →
      Totals ws at 1 a has (record { at = x.end; count = x.count; default = none })
  unfolding Below default_from
  total_by f =
      let all : FromAny ws at 1 a has x.end x.count none = λ b s g l e. f b s g l in
      record {
        place = t.place;
        low = tt;
        dead = λ e. refl;
        few = few_of w {k = 1} {a = a} has x.end x.count none all;
        after = all;
      }

  -- where the class around isn't live, the note says all
  pub total_dead : a.live ≡ false → Totals ws at 1 a has (record { at = x.end; count = x.count; default = none })
  total_dead e = total_by λ b s f l. t.count b s (l ∙ e) f

  -- where nothing in it changes, it takes no symbol in any class
  pub total_still : x.still ≡ true → Totals ws at 1 a has (record { at = x.end; count = 0; default = none })
  unfolding Below default_from
  total_still e =
      let all : FromAny ws at 1 a has x.end 0 none = λ b s f l v.
      counts_same (kept b s) refl (add-zero s.next) refl in
      record {
        place = t.place;
        low = tt;
        dead = λ v. refl;
        few = few_of w {k = 1} {a = a} has x.end 0 none all;
        after = all;
      }
    where
      kept : (b : Around) (s : State) → Counts ws at 1 b s (record { at = x.end; state = s })
      kept b s = record { place = t.place; state = still_after ws w.ready.whole at h (t.still e) b s }

  -- a record that is no class, no body and no element
  pub total_quiet : ((label_at ws at).kind ≡ 26 → ⊥) → ((label_at ws at).kind ≡ 29 → ⊥) → ((label_at ws at).kind ≡ 30 → ⊥) → ((label_at ws at).kind ≡ 31 → ⊥) →
      ((label_at ws at).kind ≡ 32 → ⊥) → Totals ws at 1 a has (record { at = x.end; count = x.count; default = none })
  total_quiet a26 a29 a30 a31 a32 = total_by λ b s f l.
      record { place = t.place; state = after_same ws w.ready.whole at h b unlive s a26 a29 a30 a31 a32 ∙ (t.count unlive s refl f).state }

  pub total_other_kind : {o : Option Kind} → o ≡ named (label_at ws at).kind → is_walked (label_at ws at).kind ≡ false → (o ≡ some Method → ⊥) → (o ≡ some Property → ⊥) → (o ≡ some AbstractAccessor → ⊥) →
      Totals ws at 1 a has (record { at = x.end; count = x.count; default = none })
  total_other_kind n e a b d =
      total_quiet (λ g. kinds_apart is_walked 26 _ (unfold is_walked in refl) e (sym g)) (λ g. kinds_apart is_walked 29 _ (unfold is_walked in refl) e (sym g))
      (number_other Method n a) (number_other Property n b) (number_other AbstractAccessor n d)

  -- a class without decorated members
  pub total_undecorated : (label_at ws at).kind ≡ 26 → any_row is_decorated_member (elements_of (kids_at ws at)) ≡ false → Totals ws at 1 a has (record { at = x.end; count = x.count; default = none })
  total_undecorated k e = total_by λ b s f l.
      record { place = t.place; state = undecorated_same ws w.ready.whole at h b unlive s k (none_decorated _ e) ∙ (t.count unlive s refl f).state }

  -- ---- an element of a live class

  module _ (kind : is_element_kind (label_at ws at).kind ≡ true) where
    kids_counts : (b : Around) (s : State) → Free ws at s.next → Counts ws (at + 1) (arity_at ws at) b s (record { at = x.end; state = taking x.count s })
    kids_counts b s f = record {
      place = t.place ∙ end_one ws at h;
      state =
          ap (λ (r : Result). r.after) (kids_visit ws b at s)
          ∙ ap (λ (r : Result). r.after) element_same
          ∙ sym (element_after ws w.ready.whole at h unlive s kind ∙ dropped unlive.live (is_decorated_member (label_at ws at) (kids_at ws at)) (has_plain_key (kids_at ws at)) unlive.id (visit unlive (kids_at ws at) s).after refl)
          ∙ sym (one_after ws unlive at s h)
          ∙ (t.count unlive s refl f).state;
    }
      where
        element_same : visit b (kids_at ws at) s ≡ visit unlive (kids_at ws at) s
        element_same =
            kids_same ws w.ready.whole at h b unlive s (kinds_apart is_element_kind _ 26 kind (unfold is_element_kind in refl)) (kinds_apart is_element_kind _ 29 kind (unfold is_element_kind in refl)) (no_class_lem _ kind)

    -- one that isn't decorated
    pub total_plain : is_decorated_member (label_at ws at) (kids_at ws at) ≡ false → Totals ws at 1 a has (record { at = x.end; count = x.count; default = none })
    total_plain e = total_by λ b s f l. count_plain (free_ready w.ready f) h b s.default kind e (kids_counts b s f)

    module _ (live : a.live ≡ true) (dec : is_decorated_member (label_at ws at) (kids_at ws at) ≡ true) where
      abbrev c : ℕ
      c = x.count

      abbrev key : ℕ
      key = key_count (has_plain_key (kids_at ws at))

      -- a decorated one: m the symbols that it takes, o the one for the default symbol
      member : (m : ℕ) (o : Option ℕ) → Below (c + m) o →
          ((s : State) → is_some s.default ≡ has →
          key_after (has_plain_key (kids_at ws at)) (class_symbol a.id s.default (taking c s)).after ≡ record { next = s.next + (c + m); default = default_from o s.next s.default }) →
          Totals ws at 1 a has (record { at = x.end; count = c + m; default = o })
      member m o low f =
          let all : FromAny ws at 1 a has x.end (c + m) o = λ b s g l e.
          count_member (free_ready w.ready g) h b s.default (record { next = s.next + (c + m); default = default_from o s.next s.default }) kind (l ∙ live) dec (kids_counts b s g)
          (ap (λ (y : Around). key_after (has_plain_key (kids_at ws at)) (class_symbol y.id s.default (taking c s)).after) (e live).0 ∙ f s (e live).1) in
          record {
            place = t.place;
            low = low;
            dead = λ e. absurd (true≢false (sym live ∙ e));
            few = few_of w {k = 1} {a = a} has x.end (c + m) o all;
            after = all;
          }

      key_after_lem : (s : State) → key_after (has_plain_key (kids_at ws at)) s ≡ taking key s
      key_after_lem s = keyed (has_plain_key (kids_at ws at)) s

      -- the class has an id
      pub total_named : is_some a.id ≡ true → Totals ws at 1 a has (record { at = x.end; count = c + key; default = none })
      unfolding Below default_from
      total_named i = member key none tt λ s g.
          ap (key_after (has_plain_key (kids_at ws at))) (sym (taken_id a.id (taking c s) i)) ∙ key_after_lem (taking c s) ∙ cc (sum s.next c key)

      -- it has its default symbol
      pub total_defaulted : has ≡ true → Totals ws at 1 a has (record { at = x.end; count = c + key; default = none })
      unfolding Below default_from
      total_defaulted y = member key none tt λ s g.
          ap (key_after (has_plain_key (kids_at ws at))) (sym (taken_default a.id (taking c s) (g ∙ y))) ∙ key_after_lem (taking c s) ∙ cc (sum s.next c key)

      -- it takes it here
      pub total_taken : is_some a.id ≡ false → has ≡ false → Totals ws at 1 a has (record { at = x.end; count = c + (1 + key); default = some c })
      unfolding Below default_from
      total_taken i y = member (1 + key) (some c) (omega arith) λ s g.
          ap (key_after (has_plain_key (kids_at ws at))) (sym (taken_fresh a.id (taking c s) i (g ∙ y))) ∙ key_after_lem (record { next = s.next + c + 1; default = some (s.next + c) }) ∙ cc (sum_one s.next c key)

  -- a record without a mark that is neither a class nor a body
  pub total_unmarked : is_walked (label_at ws at).kind ≡ false → (get_or notes at blank).marked ≡ false → Totals ws at 1 a has (record { at = x.end; count = x.count; default = none })
  total_unmarked e m = go (is_element_kind (label_at ws at).kind) refl
    where
      go : (b : Bool) → is_element_kind (label_at ws at).kind ≡ b → Totals ws at 1 a has (record { at = x.end; count = x.count; default = none })
      go true k = total_plain k (sym (element_mark at w.ready.planned h k) ∙ m)
      go false k =
          total_quiet (λ g. kinds_apart is_walked 26 _ (unfold is_walked in refl) e (sym g)) (λ g. kinds_apart is_walked 29 _ (unfold is_walked in refl) e (sym g))
          (λ g. kinds_apart is_element_kind 30 _ (unfold is_element_kind in refl) k (sym g)) (λ g. kinds_apart is_element_kind 31 _ (unfold is_element_kind in refl) k (sym g))
          (λ g. kinds_apart is_element_kind 32 _ (unfold is_element_kind in refl) k (sym g))

-- ---- rule 6: a live class

class_after_lem : (x : Bool) (o : Option ℕ) (m : Bool) (s : State) → class_after x o m s ≡ s.next + class_count x o m (is_some s.default)
unfolding class_after class_count decorated_after alias_after default_after
class_after_lem false o m s = sym (add-zero s.next)
class_after_lem true (some i) true s = let e : suc (suc s.next) ≡ s.next + 2 = omega arith in e
class_after_lem true (some i) false s = sym (add-one s.next)
class_after_lem true none m s = go s.default
  where
    go : (d : Option ℕ) → default_after d s.next ≡ s.next + class_count true none m (is_some d)
    go none = sym (add-one s.next)
    go (some d) = sym (add-zero s.next)

pub class_symbols : (x : Bool) (o : Option ℕ) (m : Bool) (s : State) (r : ℕ) → r ≡ class_count x o m (is_some s.default) → s.next + r ≡ class_after x o m s
class_symbols x o m s r h = ap (s.next +◌) h ∙ sym (class_after_lem x o m s)

-- ---- the numbers of rules 5 and 6, case by case

pub key_none : (b : Bool) → b ≡ true → 0 ≡ key_count b
unfolding key_count
key_none b e = rw e

pub key_one : (b : Bool) → b ≡ false → 1 ≡ key_count b
unfolding key_count
key_one b e = rw e

pub class_none : (x : Bool) (o : Option ℕ) (m h : Bool) → x ≡ false → 0 ≡ class_count x o m h
unfolding class_count
class_none x o m h e = rw e

pub class_alias : (x : Bool) (o : Option ℕ) (m h : Bool) → x ≡ true → is_some o ≡ true → m ≡ true → 2 ≡ class_count x o m h
unfolding class_count
class_alias x none m h e i t = absurd (true≢false (sym i))
class_alias x (some c) m h e i t = rw (e, t)

pub class_inner : (x : Bool) (o : Option ℕ) (m h : Bool) → x ≡ true → is_some o ≡ true → m ≡ false → 1 ≡ class_count x o m h
unfolding class_count
class_inner x none m h e i t = absurd (true≢false (sym i))
class_inner x (some c) m h e i t = rw (e, t)

pub class_kept : (x : Bool) (o : Option ℕ) (m h : Bool) → x ≡ true → is_some o ≡ false → h ≡ true → 0 ≡ class_count x o m h
unfolding class_count
class_kept x none m h e i t = rw (e, t)
class_kept x (some c) m h e i t = absurd (true≢false i)

pub class_default : (x : Bool) (o : Option ℕ) (m h : Bool) → x ≡ true → is_some o ≡ false → h ≡ false → 1 ≡ class_count x o m h
unfolding class_count
class_default x none m h e i t = rw (e, t)
class_default x (some c) m h e i t = absurd (true≢false i)

-- ---- walkers

module _ {ws : List ℕ} {notes : List Note} {at : ℕ} (w : Walks ws notes at) where
  pub walks_on : (q : ℕ) → at ≤ q → q ≤ length ws → Walks ws notes q
  walks_on q l h = record { known = w.known; ready = further; noted = noted_on ws notes at q l w.noted }
    where
      further : Ready ws notes q w.known
      further = ready_on w.ready q w.known h (omega arith) (omega arith)

  pub walks_next : at < length ws → Walks ws notes (at + 1)
  walks_next h = walks_on (at + 1) (omega arith) (omega arith)

  -- behind some records
  pub totals_on : {k : ℕ} {a : Around} {has : Bool} {r : Total} → Totals ws at k a has r → (at ≤ r.at) × (r.at ≤ length ws)
  totals_on {k} t = (omega (arith, t.place, end_low ws at k), omega (arith, t.place, end_high ws at k, w.ready.inside))

  pub totals_few : {k : ℕ} {a : Around} {has : Bool} {r : Total} → Totals ws at k a has r → r.count ≤ 8192
  totals_few t = omega (arith, t.few, (totals_on t).1, w.ready.few)

-- ---- from one state on

module _ {ws : List ℕ} {notes : List Note} {at k : ℕ} {a : Around} {t : Total} (s : State) (f : Ready ws notes at s.next) (h : Totals ws at k a (is_some s.default) t) where
  pub totals_counts : {r : Counted} → r.at ≡ t.at → r.state.next ≡ s.next + t.count → r.state.default ≡ default_from t.default s.next s.default → Counts ws at k a s r
  totals_counts p e g = counts_same (h.after a s (ready_free f) refl λ v. (refl, refl)) p e g

  pub totals_room : s.next + t.count < 67108864
  totals_room = omega (arith, h.few, h.place, end_high ws at k, f.inside, f.room)

  pub totals_near : Near t.default s.next
  totals_near = near_below t.count s.next t.default (omega (arith, totals_room)) h.low
