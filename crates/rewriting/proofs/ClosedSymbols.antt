-- Every symbol of a rewritten forest is below the counter, and every payload that the grammar leaves free fits its 26 bits. Assumes nothing.
use Rattle.std.specs.Prelude.{◌≡◌, cond, ◌&&◌, ◌||◌, List, [], ◌∷◌}
use Rattle.std.proofs.Math.Path.{refl}
use Rattle.std.proofs.Common.{sym, ap, subst, ◌∙◌, eqb-true}
use Rattle.std.proofs.Math.Bool.{Bool, true, false}
use Rattle.std.specs.declared.option.Option.{Option}
use Rattle.std.specs.declared.option.Option.TheVariants.{None as none, Some as some}
use Prim.Native.Nat.{ℕ, zero, suc, ◌+◌, ◌*◌, ◌<◌, ◌≤◌, max}
use native.Mathlib.Omega.{arith}
use Rattle.words.specs.Table.{lookup}
use Rattle.words.specs.Word.{bit0, bit1}
use Rattle.records.specs.Forest.{end, node, size, append_f, count_f, take_f, drop_f, map_f, any_f, size_node, count_size}
use Rattle.records.specs.Label.{Label, Trees, ◌∶◌, repay, become, is, bit}
use Rattle.grammar.specs.Grammar.{Slot, slot, row, table, row_of, slots, slots_below, is_symbol}
use Rattle.grammar.specs.WellFormed.{Fits, Each}
use Rattle.grammar.proofs.Rows.{sole_kind}
use Rattle.rewriting.specs.Parts.{Role, module', list, statement, expression, method, constructor, plain, field, role_of, tree, recount, kids_of, change_kids, decorators, undecorate, parameters_of, indexed, of_parameters, bare_parameters, decorators_of, bare_method, bare_field, is_constructor, is_decorated_member, has_plain_key, elements_of, with_elements, symbol_if, id_of, has_private_in, has_static, first_constructor, bare_first, is_decorated, is_empty, is_live, class_kids}
use Rattle.rewriting.specs.Visit.{Result, Taken, Named, class_symbol, plain_name, name_if, name_of, prefix, array, member_call, with_key, called₁, called₂, member_if, member, is_ref, to_alias, renamed, Symbols, symbols_of, named_symbols, aliased, assignment, block_alias, let_alias, alias_block, call_block, queued, export, first_payload, with_id, decorated_statement, decorated₁, decorated₂, name_class, extend_body, undecorated_if, live_class_if, live_class, dead_class, class_if, kept, own, since, work, inside, entering, join, ◌then◌, visit, outermost}
use Rattle.rewriting.specs.declared.Around.{Around}
use Rattle.rewriting.specs.declared.State.{State}
use Rattle.rewriting.proofs.Roles.{never, role_case, is_plain, plain_role}
use Rattle.rewriting.proofs.Facts.{entering_next}
use Rattle.rewriting.proofs.Fitting.{EachSlot, Above, inner_below, category_of}
use Rattle.rewriting.proofs.Spare.{sole}
use Rattle.rewriting.proofs.Length.{renamed_size, visit_length}

-- ---- a property of every label

module _ (P : Label → Type 0) where
  one : (l : Label) (k : Trees) → P l → Each P k → Each P (tree l k)
  unfolding Each tree
  one l k p h = (p, h, tt)

  each_append : (f g : Trees) → Each P f → Each P g → Each P (append_f f g)
  unfolding Each append_f
  each_append end g a b = b
  each_append (node l k r) g a b = (a.0, a.1, each_append r g a.2 b)

  pub each_take : (n : ℕ) (f : Trees) → Each P f → Each P (take_f n f)
  unfolding Each take_f
  each_take zero f h = tt
  each_take (suc n) end h = tt
  each_take (suc n) (node l k r) h = (h.0, h.1, each_take n r h.2)

  pub each_drop : (n : ℕ) (f : Trees) → Each P f → Each P (drop_f n f)
  unfolding Each drop_f
  each_drop zero f h = h
  each_drop (suc n) end h = tt
  each_drop (suc n) (node l k r) h = each_drop n r h.2

  each_if : (b : Bool) (f g : Trees) → Each P f → Each P g → Each P (cond b f g)
  each_if true f g a b = a
  each_if false f g a b = b

  each_kids : (n : ℕ) (f : Trees) → Each P f → Each P (kids_of n f)
  unfolding Each kids_of
  each_kids n end h = tt
  each_kids n (node l k r) h = each_if (is n l) k (kids_of n r) h.1 (each_kids n r h.2)

  each_decorators : (f : Trees) → Each P f → Each P (decorators f)
  unfolding Each decorators
  each_decorators end h = tt
  each_decorators (node l k r) h = each_if (is 28 l) k end h.1 tt

  each_change : (n : ℕ) (g : Trees → Trees) → ((f : Trees) → Each P f → Each P (g f)) → (f : Trees) → Each P f → Each P (change_kids n g f)
  unfolding Each change_kids
  each_change n g e end h = tt
  each_change n g e (node l k r) h =
      each_if (is n l) (node l (g k) r) (node l k (change_kids n g r)) (h.0, e k h.1, h.2) (h.0, h.1, each_change n g e r h.2)

each_weaken : (P Q : Label → Type 0) → ((l : Label) → P l → Q l) → (f : Trees) → Each P f → Each Q f
unfolding Each
each_weaken P Q e end h = tt
each_weaken P Q e (node l k r) h = (e l h.0, each_weaken P Q e k h.1, each_weaken P Q e r h.2)

kids_size : (n : ℕ) (f : Trees) → size (kids_of n f) ≤ size f
unfolding kids_of
kids_size n end = omega arith
kids_size n (node l k r) = either (is n l) (kids_size n r)
  where
    either : (b : Bool) → size (kids_of n r) ≤ size r → size (cond b k (kids_of n r)) ≤ size (node l k r)
    either true h = omega (arith, size_node l k r)
    either false h = omega (arith, h, size_node l k r)

-- ---- words whose payload is in bounds

-- the kinds whose payload the grammar leaves free and that is no symbol: atoms, names, numbers, indices, forms, S
unfoldable pub is_free : ℕ → Bool
is_free k =
    lookup k ((8, true) ∷ (10, true) ∷ (11, true) ∷ (12, true) ∷ (19, true) ∷ (23, true) ∷ (25, true) ∷ (34, true) ∷ (35, true) ∷ (40, true) ∷ []) false

unfoldable pub is_held : ℕ → Bool
is_held k = is_symbol k || is_free k

-- a symbol is below n, a free payload fits its 26 bits if n does
pub record Good (n : ℕ) (l : Label) : Type 0 where
  pub symbol : is_symbol l.kind ≡ true → l.payload < n
  pub payload : is_free l.kind ≡ true → l.payload < max n 67108864

below : (n : ℕ) (l : Label) → l.payload < n → Good n l
below n l h = record { symbol = λ t. h; payload = λ t. omega (arith, h) }

neither : (a b : Bool) → (a || b) ≡ false → (a ≡ false) × (b ≡ false)
neither true b e = absurd (never (sym e))
neither false true e = absurd (never (sym e))
neither false false e = (refl, refl)

other : (n : ℕ) (l : Label) → is_held l.kind ≡ false → Good n l
unfolding is_held
other n l e =
    let z = neither (is_symbol l.kind) (is_free l.kind) e in
    record { symbol = λ t. absurd (never (sym z.0 ∙ t)); payload = λ t. absurd (never (sym z.1 ∙ t)) }

-- a free payload
pub fitting : (n : ℕ) (l : Label) → is_symbol l.kind ≡ false → l.payload < 67108864 → Good n l
fitting n l e h = record { symbol = λ t. absurd (never (sym e ∙ t)); payload = λ t. omega (arith, h) }

good_up : (n m : ℕ) → n ≤ m → (l : Label) → Good n l → Good m l
good_up n m h l p = record { symbol = λ e. omega (arith, h, p.symbol e); payload = λ e. omega (arith, h, p.payload e) }

good_le : (n m : ℕ) → n ≤ m → (f : Trees) → Each (Good n) f → Each (Good m) f
good_le n m h = each_weaken (Good n) (Good m) (good_up n m h)

-- a symbol that may be there
unfoldable Below : ℕ → Option ℕ → Type 0
Below n none = Unit {0}
Below n (some d) = d < n

below_le : (n m : ℕ) (d : Option ℕ) → n ≤ m → Below n d → Below m d
unfolding Below
below_le n m none h p = tt
below_le n m (some d) h p = omega (arith, h, p)

module _ (n : ℕ) where
  abbrev K : Trees → Type 0
  K f = Each (Good n) f

  none_known : K end
  unfolding Each
  none_known = tt

  made : (k p : ℕ) (f : Trees) → is_held k ≡ false → K f → K (tree (k ∶ p) f)
  made k p f e h = one (Good n) (k ∶ p) f (other n (k ∶ p) (unfold ◌∶◌ in e)) h

  made_below : (k p : ℕ) (f : Trees) → p < n → K f → K (tree (k ∶ p) f)
  made_below k p f e h = one (Good n) (k ∶ p) f (below n (k ∶ p) (unfold ◌∶◌ in e)) h

  -- a word of another payload
  known_repay : (l : Label) (p : ℕ) → is_held l.kind ≡ false → Good n (repay l p)
  known_repay l p e = other n (repay l p) (unfold repay in e)

  undecorate_known : (f : Trees) → K f → K (undecorate f)
  unfolding Each undecorate
  undecorate_known end h = tt
  undecorate_known (node l k r) h = go (is 28 l) refl h
    where
      go : (b : Bool) → is 28 l ≡ b → K (node l k r) → K (cond b (node (repay l 0) end r) (node l k r))
      go true e h = unfold Each is in (known_repay l 0 (unfold is_held is_symbol is_free lookup in rw (eqb-true l.kind 28 e)), tt, h.2)
      go false e h = h

  bare_known : (f : Trees) → K f → K (bare_parameters f)
  unfolding Each bare_parameters
  bare_known end h = tt
  bare_known (node l k r) h = (h.0, undecorate_known k h.1, bare_known r h.2)

  method_known : (f : Trees) → K f → K (bare_method f)
  unfolding bare_method
  method_known f h = undecorate_known (change_kids 36 bare_parameters f) (each_change (Good n) 36 bare_parameters bare_known f h)

  indexed_known : (i : ℕ) (f : Trees) → i < 67108864 → K f → K (indexed i f)
  unfolding Each indexed tree
  indexed_known i end e h = tt
  indexed_known i (node l k r) e h = (fitting n (23 ∶ i) (unfold ◌∶◌ is_symbol lookup in refl) (unfold ◌∶◌ in e), (h.0, h.1, tt), indexed_known i r e h.2)

  of_parameters_known : (i : ℕ) (f : Trees) → i + count_f f ≤ 67108864 → K f → K (of_parameters i f)
  unfolding Each of_parameters count_f
  of_parameters_known i end e h = tt
  of_parameters_known i (node l k r) e h =
      each_append (Good n) (indexed i (decorators k)) (of_parameters (suc i) r) (indexed_known i (decorators k) (omega (arith, e)) (each_decorators (Good n) k h.1))
      (of_parameters_known (suc i) r (omega (arith, e)) h.2)

  parameters_known : (f : Trees) → size f ≤ 67108864 → K f → K (of_parameters 0 (parameters_of f))
  unfolding parameters_of
  parameters_known f e h = of_parameters_known 0 (kids_of 36 f) (omega (arith, e, kids_size 36 f, count_size (kids_of 36 f))) (each_kids (Good n) 36 f h)

  entries_known : (f : Trees) → size f ≤ 67108864 → K f → K (decorators_of method f)
  unfolding decorators_of
  entries_known f e h = each_append (Good n) (decorators f) (of_parameters 0 (parameters_of f)) (each_decorators (Good n) f h) (parameters_known f e h)

  -- ---- calls

  array_known : (entries : Trees) → K entries → K (array entries)
  unfolding array is_held is_symbol is_free lookup
  array_known entries h = made 16 (count_f entries) entries refl h

  prefix_known : (c : ℕ) (b : Bool) → c < n → K (prefix c b)
  unfolding prefix is_held is_symbol is_free lookup
  prefix_known c true h = made_below 9 c end h none_known
  prefix_known c false h = made 24 0 (tree (9 ∶ c) end) refl (made_below 9 c end h none_known)

  call_known : (entries pre name : Trees) (d : Label) → K entries → K pre → K name → is_held d.kind ≡ false → K (member_call entries pre name d)
  unfolding member_call is_held is_symbol is_free lookup
  call_known entries pre name d a b c e =
      let last : Trees = tree d end in
      made 2 0 (tree (22 ∶ 4) (append_f (array entries) (append_f pre (append_f name last)))) refl
      (made 22 4 (append_f (array entries) (append_f pre (append_f name last))) refl
      (each_append (Good n) (array entries) (append_f pre (append_f name last)) (array_known entries a)
      (each_append (Good n) pre (append_f name last) b (each_append (Good n) name last c (one (Good n) d end (other n d e) none_known)))))

  key_known : (key f : Trees) → K key → K f → K (with_key key f)
  unfolding with_key
  key_known key f a h =
      each_append (Good n) (take_f 1 f) (append_f key (drop_f 2 f)) (each_take (Good n) 1 f h) (each_append (Good n) key (drop_f 2 f) a (each_drop (Good n) 2 f h))

  plain_known : (l : Label) → Good n l → Good n (plain_name l)
  unfolding plain_name ◌∶◌ is is_symbol is_free lookup
  plain_known l h = go (is 34 l) (is 35 l) refl
    where
      go : (a b : Bool) → is 34 l ≡ a → Good n (cond a (10 ∶ l.payload) (cond b (10 ∶ 0) (l.kind ∶ l.payload)))
      go true b e = record { symbol = λ t. absurd (never t); payload = λ t. h.payload (rw (eqb-true l.kind 34 e)) }
      go false true e = record { symbol = λ t. absurd (never t); payload = λ t. omega arith }
      go false false e = record { symbol = h.symbol; payload = h.payload }

-- ---- members: n the counter before

-- what a result holds, and the default symbol, is below its counter
record Sound (n : ℕ) (r : Result) : Type 0 where
  low : n ≤ r.after.next
  here : K r.after.next r.here
  calls : K r.after.next r.calls
  default : Below r.after.next r.after.default

record SoundName (n : ℕ) (y : Named) : Type 0 where
  low : n ≤ y.after.next
  key : K y.after.next y.key
  name : K y.after.next y.name
  default : Below y.after.next y.after.default

name_if_sound : (b : Bool) (l : Label) (k : Trees) (s : State) → Good s.next l → K s.next k → Below s.next s.default → SoundName s.next (name_if b l k s)
unfolding name_if
name_if_sound true l k s a h d = record {
  low = omega arith;
  key = one (Good s.next) l k a h;
  name = one (Good s.next) (plain_name l) end (plain_known s.next l a) (none_known s.next);
  default = d;
}
name_if_sound false l k s a h d =
    let n : ℕ = suc s.next in
    let less : s.next ≤ n = omega arith in
    record {
      low = less;
      key = made_below n 18 s.next (tree l k) (omega arith) (one (Good n) l k (good_up s.next n less l a) (good_le s.next n less k h));
      name = made_below n 9 s.next end (omega arith) (none_known n);
      default = below_le s.next n s.default less d;
    }

name_sound : (b : Bool) (key : Trees) (s : State) → K s.next key → Below s.next s.default → SoundName s.next (name_of b key s)
unfolding name_of Each
name_sound b end s h d = record { low = omega arith; key = tt; name = tt; default = d }
name_sound b (node l k r) s h d = name_if_sound b l k s h.0 h.1 d

record SoundSymbol (n : ℕ) (t : Taken) : Type 0 where
  low : n ≤ t.after.next
  symbol : t.symbol < t.after.next
  default : Below t.after.next t.after.default

symbol_sound : (id d : Option ℕ) (s : State) → Below s.next id → Below s.next d → s.default ≡ d → SoundSymbol s.next (class_symbol id d s)
unfolding class_symbol
symbol_sound (some c) d s a b e = record { low = omega arith; symbol = unfold Below in a; default = rw e b }
symbol_sound none (some d) s a b e = record { low = omega arith; symbol = unfold Below in b; default = rw e b }
symbol_sound none none s a b e = record { low = omega arith; symbol = omega arith; default = unfold Below in omega arith }

member_sound : (b : Bool) (around : Around) (l : Label) (kids bare entries : Trees) (d : Label) (a : Result) → Good a.after.next l → K a.after.next bare → K a.after.next entries →
    is_held d.kind ≡ false → Below a.after.next around.id → K a.after.next a.calls → Below a.after.next a.after.default →
    Sound a.after.next (member_if b around l kids bare entries d a)
unfolding member_if called₁ called₂
member_sound true around l kids bare entries d a known h g e id calls default =
    let t : Taken = class_symbol around.id a.after.default a.after in
    let ts : SoundSymbol a.after.next t = symbol_sound around.id a.after.default a.after id default refl in
    let y : Named = name_of (has_plain_key kids) (take_f 1 (drop_f 1 bare)) t.after in
    let bare' : K t.after.next bare = good_le a.after.next t.after.next ts.low bare h in
    let ys : SoundName t.after.next y =
    name_sound (has_plain_key kids) (take_f 1 (drop_f 1 bare)) t.after (each_take (Good t.after.next) 1 (drop_f 1 bare) (each_drop (Good t.after.next) 1 bare bare')) ts.default in
    let m : ℕ = y.after.next in
    let less : a.after.next ≤ m = omega (arith, ts.low, ys.low) in
    let symbol : t.symbol < m = omega (arith, ts.symbol, ys.low) in
    record {
      low = less;
      here = one (Good m) l (with_key y.key bare) (good_up a.after.next m less l known) (key_known m y.key bare ys.key (good_le a.after.next m less bare h));
      calls = each_append (Good m) a.calls (member_call entries (prefix t.symbol (bit bit0 l)) y.name d) (good_le a.after.next m less a.calls calls)
          (call_known m entries (prefix t.symbol (bit bit0 l)) y.name d (good_le a.after.next m less entries g) (prefix_known m t.symbol (bit bit0 l) symbol) ys.name e);
      default = ys.default;
    }
member_sound false around l kids bare entries d a known h g e id calls default = record {
  low = omega arith;
  here = one (Good a.after.next) l bare known h;
  calls = calls;
  default = default;
}

-- ---- classes: n the counter behind

module _ (n : ℕ) where
  alias_label : (c b : ℕ) (l : Label) → b < n → Good n l → Good n (to_alias c b l)
  unfolding to_alias
  alias_label c b l h k = either (is_ref c l)
    where
      either : (x : Bool) → Good n (cond x (repay l b) l)
      either true = below n (repay l b) (unfold repay in h)
      either false = k

  alias_known : (c b : ℕ) (f : Trees) → b < n → K n f → K n (map_f (to_alias c b) f)
  unfolding Each map_f
  alias_known c b end h k = tt
  alias_known c b (node l i r) h k = (alias_label c b l h k.0, alias_known c b i h k.1, alias_known c b r h k.2)

  renamed_known : (c : ℕ) (alias : Option ℕ) (f : Trees) → Below n alias → K n f → K n (renamed c alias f)
  unfolding renamed Below
  renamed_known c none f h k = k
  renamed_known c (some b) f h k = alias_known c b f h k

  with_elements_known : (new f : Trees) → K n new → K n f → K n (with_elements new f)
  unfolding Each with_elements
  with_elements_known new end a h = tt
  with_elements_known new (node l k r) a h = go (is 29 l) refl h (with_elements_known new r a h.2)
    where
      go : (b : Bool) → is 29 l ≡ b → K n (node l k r) → K n (with_elements new r) → K n (cond b (node (recount l new) new r) (node l k (with_elements new r)))
      go true e h g = unfold Each recount is in (known_repay n l (count_f new) (unfold is_held is_symbol is_free lookup in rw (eqb-true l.kind 29 e)), a, h.2)
      go false e h g = unfold Each in (h.0, h.1, g)

  bare_first_known : (f : Trees) → K n f → K n (bare_first f)
  unfolding Each bare_first
  bare_first_known end h = tt
  bare_first_known (node l k r) h =
      each_if (Good n) (is_constructor l) (node l (bare_method k) r) (node l k (bare_first r)) (h.0, method_known n k h.1, h.2) (h.0, h.1, bare_first_known r h.2)

  first_known : (f : Trees) → size f ≤ 67108864 → K n f → K n (first_constructor f)
  unfolding Each first_constructor
  first_known end e h = tt
  first_known (node l k r) e h =
      each_if (Good n) (is_constructor l) (of_parameters 0 (parameters_of k)) (first_constructor r) (parameters_known n k (omega (arith, e, size_node l k r)) h.1)
      (first_known r (omega (arith, e, size_node l k r)) h.2)

  first_payload_known : (i : ℕ) (f : Trees) → i < n → K n f → K n (first_payload i f)
  unfolding Each first_payload
  first_payload_known i end e h = tt
  first_payload_known i (node l k r) e h = (below n (repay l i) (unfold repay in e), h.1, h.2)

  id_known : (i : Option ℕ) (f : Trees) → Below n i → K n f → K n (with_id i f)
  unfolding Each with_id Below
  id_known none f e h = h
  id_known (some i) end e h = tt
  id_known (some i) (node l k r) e h = (h.0, h.1, first_payload_known i r e h.2)

  aliased_known : (alias : Option ℕ) (e : Trees) → Below n alias → K n e → K n (aliased alias e)
  unfolding aliased Below
  aliased_known none e b h = h
  aliased_known (some a) e b h = made_below n 18 a e b h

  block_alias_below : (alias : Option ℕ) (b : Bool) → Below n alias → Below n (block_alias alias b)
  unfolding block_alias Below
  block_alias_below alias true h = h
  block_alias_below alias false h = tt

  let_alias_below : (alias : Option ℕ) (b : Bool) → Below n alias → Below n (let_alias alias b)
  unfolding let_alias Below
  let_alias_below alias true h = tt
  let_alias_below alias false h = h

  alias_block_known : (alias : Option ℕ) → Below n alias → K n (alias_block alias)
  unfolding alias_block Below is_held is_symbol is_free lookup
  alias_block_known none h = none_known n
  alias_block_known (some b) h =
      made n 33 1 (tree (2 ∶ 0) (tree (18 ∶ b) (tree (15 ∶ 0) end))) refl (made n 2 0 (tree (18 ∶ b) (tree (15 ∶ 0) end)) refl (made_below n 18 b (tree (15 ∶ 0) end) h (made n 15 0 end refl (none_known n))))

  call_block_known : (priv : Bool) (calls : Trees) → K n calls → K n (call_block priv calls)
  unfolding call_block is_held is_symbol is_free lookup
  call_block_known true calls h = made n 33 (count_f calls) calls refl h
  call_block_known false calls h = none_known n

  queued_known : (priv : Bool) (f : Trees) → K n f → K n (queued priv f)
  unfolding queued
  queued_known true f h = none_known n
  queued_known false f h = h

  assignment_known : (c : ℕ) (alias : Option ℕ) (entries : Trees) → c < n → Below n alias → K n entries → K n (assignment c alias entries)
  unfolding assignment is_held is_symbol is_free lookup
  assignment_known c alias entries e b h =
      let args : Trees = append_f (array entries) (tree (9 ∶ c) end) in
      let value : Trees = aliased alias (tree (22 ∶ 2) args) in
      made n 2 0 (tree (18 ∶ c) value) refl (made_below n 18 c value e (aliased_known alias (tree (22 ∶ 2) args) b
      (made n 22 2 args refl (each_append (Good n) (array entries) (tree (9 ∶ c) end) (array_known n entries h) (made_below n 9 c end e (none_known n))))))

  export_known : (p c : ℕ) → c < n → K n (export p c)
  unfolding export
  export_known zero c e = none_known n
  export_known (suc zero) c e = made_below n 6 c end e (none_known n)
  export_known (suc (suc p)) c e = made_below n 7 c end e (none_known n)

  statement_known : (priv : Bool) (l : Label) (c : ℕ) (alias : Option ℕ) (cls : Trees) → Good n l → c < n → Below n alias → K n cls → K n (decorated_statement priv l c alias cls)
  unfolding decorated_statement is_held is_symbol is_free lookup
  statement_known true l c alias cls a e b h = one (Good n) l cls a h
  statement_known false l c alias cls a e b h =
      one (Good n) (become l 5 c) (aliased alias (tree (20 ∶ 0) cls)) (below n (become l 5 c) (unfold become in e)) (aliased_known alias (tree (20 ∶ 0) cls) b (made n 20 0 cls refl h))

  decorated_known : (rk : Trees) (l c : Label) (ck calls : Trees) (s : Symbols) (els : Trees) (outside : Option ℕ) → Good n l → Good n c → K n ck → K n calls → size els ≤ 67108864 → K n els →
      s.outer < n → Below n s.inner → Below n s.alias → K n (decorated₂ rk l c ck calls s els outside).here
  unfolding decorated₂
  decorated_known rk l c ck calls s els outside kl kc h q few e o i b =
      let priv : Bool = has_private_in rk in
      let static : Bool = has_static (elements_of rk) in
      let block : Trees = alias_block (block_alias s.alias static) in
      let body : Trees = append_f block (append_f (bare_first els) (call_block priv calls)) in
      let new : Trees = with_elements body (undecorate (with_id s.inner ck)) in
      let entries : Trees = append_f (decorators ck) (first_constructor els) in
      let stmt : Trees = decorated_statement priv l s.outer (let_alias s.alias static) (tree c new) in
      let assign : Trees = assignment s.outer s.alias entries in
      let out : Trees = export l.payload s.outer in
      let body' : K n body =
      each_append (Good n) block (append_f (bare_first els) (call_block priv calls)) (alias_block_known (block_alias s.alias static) (block_alias_below s.alias static b))
      (each_append (Good n) (bare_first els) (call_block priv calls) (bare_first_known els e) (call_block_known priv calls q)) in
      let new' : K n new = with_elements_known body (undecorate (with_id s.inner ck)) body' (undecorate_known n (with_id s.inner ck) (id_known s.inner ck i h)) in
      let entries' : K n entries = each_append (Good n) (decorators ck) (first_constructor els) (each_decorators (Good n) ck h) (first_known els few e) in
      each_append (Good n) stmt (queued priv (append_f calls (append_f assign out)))
      (statement_known priv l s.outer (let_alias s.alias static) (tree c new) kl o (let_alias_below s.alias static b) (one (Good n) c new kc new'))
      (queued_known priv (append_f calls (append_f assign out)) (each_append (Good n) calls (append_f assign out) q
      (each_append (Good n) assign out (assignment_known s.outer s.alias entries o b entries') (export_known l.payload s.outer o))))

  -- an undecorated class
  name_class_known : (id d : Option ℕ) (c : Label) (ck : Trees) → is_held c.kind ≡ false → Below n d → K n ck → K n (name_class id d c ck)
  unfolding name_class Below
  name_class_known (some i) d c ck e b h = one (Good n) c ck (other n c e) h
  name_class_known none none c ck e b h = one (Good n) c ck (other n c e) h
  name_class_known none (some d) c ck e b h =
      one (Good n) (repay c (suc c.payload)) (append_f (take_f 1 ck) (append_f (tree (27 ∶ d) end) (drop_f 1 ck))) (known_repay n c (suc c.payload) e)
      (each_append (Good n) (take_f 1 ck) (append_f (tree (27 ∶ d) end) (drop_f 1 ck)) (each_take (Good n) 1 ck h)
      (each_append (Good n) (tree (27 ∶ d) end) (drop_f 1 ck) (made_below n 27 d end b (none_known n)) (each_drop (Good n) 1 ck h)))

  extend_known : (more f : Trees) → K n more → K n f → K n (extend_body more f)
  unfolding Each extend_body elements_of
  extend_known more end a h = tt
  extend_known more (node c ck r) a h =
      (h.0, with_elements_known (append_f (kids_of 29 ck) more) ck (each_append (Good n) (kids_of 29 ck) more (each_kids (Good n) 29 ck h.1) a) h.1, h.2)

  undecorated_known : (b : Bool) (rk : Trees) (d : Option ℕ) (l c : Label) (ck calls : Trees) → Good n l → is_held c.kind ≡ false → Below n d → K n ck → K n calls →
      K n (undecorated_if b rk d l c ck calls)
  unfolding undecorated_if
  undecorated_known true rk d l c ck calls kl e b h q = one (Good n) l (tree c ck) kl (one (Good n) c ck (other n c e) h)
  undecorated_known false rk d l c ck calls kl e b h q =
      let priv : Bool = has_private_in rk in
      let cls : Trees = extend_body (call_block priv calls) (name_class (id_of rk) d c ck) in
      each_append (Good n) (tree l cls) (queued priv calls)
      (one (Good n) l cls kl (extend_known (call_block priv calls) (name_class (id_of rk) d c ck) (call_block_known priv calls q) (name_class_known (id_of rk) d c ck e b h)))
      (queued_known priv calls q)

record SoundSymbols (n : ℕ) (s : Symbols) : Type 0 where
  low : n ≤ s.next
  outer : s.outer < s.next
  inner : Below s.next s.inner
  alias : Below s.next s.alias

named_sound : (b : Bool) (c n : ℕ) → c < n → SoundSymbols n (named_symbols b c n)
unfolding named_symbols Below
named_sound true c n h = record { low = omega arith; outer = omega arith; inner = omega arith; alias = omega arith }
named_sound false c n h = record { low = omega arith; outer = omega arith; inner = omega arith; alias = tt }

symbols_sound : (id d : Option ℕ) (n : ℕ) (els : Trees) → Below n id → Below n d → SoundSymbols n (symbols_of id d n els)
unfolding symbols_of Below
symbols_sound (some c) d n els a b = named_sound (any_f (is_ref c) els) c n a
symbols_sound none (some d) n els a b = record { low = omega arith; outer = b; inner = tt; alias = tt }
symbols_sound none none n els a b = record { low = omega arith; outer = omega arith; inner = tt; alias = tt }

live_if_sound : (b : Bool) (rk : Trees) (l c : Label) (ck calls : Trees) (s : State) (outside : Option ℕ) → Good s.next l → is_held c.kind ≡ false → Below s.next (id_of rk) →
    Below s.next s.default → Below s.next outside → size ck ≤ 67108864 → K s.next ck → K s.next calls → Sound s.next (live_class_if b rk l c ck calls s outside)
unfolding live_class_if decorated₁
live_if_sound true rk l c ck calls s outside kl e id d o few h q =
    let y : Symbols = symbols_of (id_of rk) s.default s.next (elements_of ck) in
    let z : SoundSymbols s.next y = symbols_sound (id_of rk) s.default s.next (elements_of ck) id d in
    let m : ℕ = y.next in
    let ck' : K m ck = good_le s.next m z.low ck h in
    let els : K m (renamed y.outer y.alias (elements_of ck)) = renamed_known m y.outer y.alias (elements_of ck) z.alias (unfold elements_of in each_kids (Good m) 29 ck ck') in
    let few' : size (renamed y.outer y.alias (elements_of ck)) ≤ 67108864 = unfold elements_of in omega (arith, few, renamed_size y.outer y.alias (kids_of 29 ck), kids_size 29 ck) in
    unfold decorated₂ in
    record {
      low = z.low;
      here = decorated_known m rk l c ck calls y (renamed y.outer y.alias (elements_of ck)) outside (good_up s.next m z.low l kl) (other m c e) ck'
          (good_le s.next m z.low calls q) few' els z.outer z.inner z.alias;
      calls = none_known m;
      default = below_le s.next m outside z.low o;
    }
live_if_sound false rk l c ck calls s outside kl e id d o few h q = record {
  low = omega arith;
  here = undecorated_known s.next (is_empty calls) rk s.default l c ck calls kl e d h q;
  calls = none_known s.next;
  default = o;
}

-- ---- any forest

-- the child of a class statement is a class
unfoldable ClassFirst : Trees → Type 0
ClassFirst end = Unit {0}
ClassFirst (node c ck r) = c.kind ≡ 26

symbol_if_below : (n : ℕ) (f : Trees) → K n f → Below n (symbol_if f)
unfolding Each symbol_if
symbol_if_below n end h = unfold Below in tt
symbol_if_below n (node l k r) h = go (is 27 l) refl h.0
  where
    go : (b : Bool) → is 27 l ≡ b → Good n l → Below n (cond b (some l.payload) none)
    go true e h = unfold Below is in h.symbol (unfold is_symbol lookup in rw (eqb-true l.kind 27 e))
    go false e h = unfold Below in tt

id_below : (n : ℕ) (f : Trees) → K n f → Below n (id_of f)
unfolding Each id_of
id_below n end h = unfold Below in tt
id_below n (node l k r) h = symbol_if_below n r h.2

class_id_below : (n : ℕ) (f : Trees) → K n f → Below n (id_of (class_kids f))
unfolding Each class_kids
class_id_below n end h = unfold id_of Below in tt
class_id_below n (node l k r) h = id_below n k h.1

inside_below : (r : Role) (n : ℕ) (around : Around) (k : Trees) → Below n around.id → K n k → Below n (inside r around k).id
unfolding inside
inside_below module' n around k h g = h
inside_below list n around k h g = h
inside_below statement n around k h g = class_id_below n k g
inside_below expression n around k h g = unfold Below in tt
inside_below method n around k h g = h
inside_below constructor n around k h g = h
inside_below (field d) n around k h g = h
inside_below plain n around k h g = h

entering_below : (r : Role) (n : ℕ) (s : State) → Below n s.default → Below n (entering r s).default
unfolding entering
entering_below module' n s h = h
entering_below list n s h = h
entering_below statement n s h = unfold Below in tt
entering_below expression n s h = unfold Below in tt
entering_below method n s h = h
entering_below constructor n s h = h
entering_below (field d) n s h = h
entering_below plain n s h = h

class_first : (around : Around) (k : Trees) (s : State) → ClassFirst k → ClassFirst (visit around k s).here
unfolding ClassFirst visit work since join ◌then◌ is_plain lookup
class_first around end s h = tt
class_first around (node c ck r) s h = rw (plain_role c 26 h tt) (unfold own kept tree append_f ClassFirst in h)

live_sound : (rk : Trees) (l : Label) (h calls : Trees) (s : State) (outside : Option ℕ) → Good s.next l → ClassFirst h → Below s.next (id_of rk) →
    Below s.next s.default → Below s.next outside → size h ≤ 67108864 → K s.next h → K s.next calls → Sound s.next (live_class rk l h calls s outside)
unfolding ClassFirst Each live_class
live_sound rk l end calls s outside kl c id d o few k q = record { low = omega arith; here = one (Good s.next) l end kl tt; calls = tt; default = o }
live_sound rk l (node c ck r) calls s outside kl e id d o few k q =
    live_if_sound (is_decorated rk) rk l c ck calls s outside kl (unfold is_held is_symbol is_free lookup in rw e) id d o (omega (arith, few, size_node c ck r)) k.1 q

-- the record's own work, the children's results being a
module _ (n : ℕ) (around : Around) (l : Label) (k : Trees) (outside : Option ℕ) (a : Result) (kl : Good n l) (id : Below n around.id) (o : Below n outside)
    (read : K n k) (few : size a.here ≤ 67108864) (sound : Sound n a) where
  up : (r : Result) → Sound a.after.next r → Sound n r
  up r h = record { low = omega (arith, sound.low, h.low); here = h.here; calls = h.calls; default = h.default }

  kept_sound : (p : Label) → Good a.after.next p → Sound n (record { here = tree p a.here; calls = a.calls; fresh = []; after = a.after })
  kept_sound p h = record { low = sound.low; here = one (Good a.after.next) p a.here h sound.here; calls = sound.calls; default = sound.default }

  label_up : Good a.after.next l
  label_up = good_up n a.after.next sound.low l kl

  dead_sound : Sound n (dead_class l a outside)
  unfolding dead_class
  dead_sound = record {
    low = sound.low;
    here = one (Good a.after.next) l a.here label_up sound.here;
    calls = none_known a.after.next;
    default = below_le n a.after.next outside sound.low o;
  }

  statement_sound : ClassFirst a.here → Sound n (own statement around l k outside a)
  unfolding own
  statement_sound c = either (is_live k)
    where
      either : (b : Bool) → Sound n (class_if b l k outside a)
      either true = unfold class_if in
          up (live_class (class_kids k) l a.here a.calls a.after outside)
          (live_sound (class_kids k) l a.here a.calls a.after outside label_up c (below_le n a.after.next (id_of (class_kids k)) sound.low (class_id_below n k read))
          sound.default (below_le n a.after.next outside sound.low o) few sound.here sound.calls)
      either false = unfold class_if in dead_sound

  list_sound : is_held l.kind ≡ false → Sound n (own list around l k outside a)
  unfolding own recount
  list_sound e = kept_sound (repay l (count_f a.here)) (known_repay a.after.next l (count_f a.here) e)

  id_up : Below a.after.next around.id
  id_up = below_le n a.after.next around.id sound.low id

  own_sound : (l.kind ≡ 1 → ⊥) → (l.kind ≡ 4 → ClassFirst a.here) → Sound n (own (role_of l) around l k outside a)
  unfolding is_held is_symbol is_free lookup
  own_sound not1 class =
      role_case (λ r. Sound n (own r around l k outside a)) l (λ e. absurd (not1 e)) (λ e. list_sound (ap is_held e)) (λ e. list_sound (ap is_held e)) (λ e. list_sound (ap is_held e))
      (λ e. statement_sound (class e)) (λ e. unfold own in dead_sound) (λ e. method_or (bit bit1 l)) (λ e. field_sound (14 ∶ 0) (unfold ◌∶◌ in refl)) (λ e. field_sound (13 ∶ 0) (unfold ◌∶◌ in refl))
      (λ e. unfold own kept in kept_sound l label_up)
    where
      field_sound : (d : Label) → is_held d.kind ≡ false → Sound n (own (field d) around l k outside a)
      field_sound d e = unfold own member bare_field in
          up _ (member_sound (around.live && is_decorated_member l k) around l k (undecorate a.here) (decorators a.here) d a label_up (undecorate_known a.after.next a.here sound.here)
          (each_decorators (Good a.after.next) a.here sound.here) e id_up sound.calls sound.default)

      method_or : (b : Bool) → Sound n (own (cond b constructor method) around l k outside a)
      method_or true = unfold own kept in kept_sound l label_up
      method_or false = unfold own member in
          up _ (member_sound (around.live && is_decorated_member l k) around l k (bare_method a.here) (decorators_of method a.here) (13 ∶ 0) a label_up (method_known a.after.next a.here sound.here)
          (entries_known a.after.next a.here few sound.here) (unfold ◌∶◌ in refl) id_up sound.calls sound.default)

class_kids_lem : (q : Slot) (f : Trees) → q.category ≡ 5 → Fits (q ∷ []) f → ClassFirst f
unfolding Fits ClassFirst sole_kind lookup
class_kids_lem q end e h = absurd h
class_kids_lem q (node c ck r) e h = sole q c 5 h.0 e tt

statement_kids : (q : Slot) (l : Label) (k : Trees) → Fits (slots_below q l.kind l.payload) k → l.kind ≡ 4 → ClassFirst k
unfolding slots_below slots row_of lookup table row
statement_kids q l k h e = class_kids_lem (slot 5 l.payload) k refl (subst (λ (m : ℕ). Fits (slots ((row_of m).below q.context l.payload)) k) e h)

visit_sound : (f : Trees) (qs : List Slot) (around : Around) (s : State) → Above 2 qs → Fits qs f → 3 * size f ≤ 67108864 → K s.next f →
    Below s.next around.id → Below s.next s.default → Sound s.next (visit around f s)
unfolding EachSlot Fits visit ◌then◌ join work since Each row_of lookup table row
visit_sound end qs around s u g few h id d = record { low = omega arith; here = tt; calls = tt; default = d }
visit_sound (node l k r) [] around s u g few h id d = absurd g
visit_sound (node l k r) (q ∷ qs) around s u g few h id d =
    let e : (entering (role_of l) s).next ≡ s.next = entering_next (role_of l) s in
    let a : Result = visit (inside (role_of l) around k) k (entering (role_of l) s) in
    let b : Result = own (role_of l) around l k s.default a in
    let c : Result = visit around r b.after in
    let rs : List Slot = slots_below q l.kind l.payload in
    let not1 : l.kind ≡ 1 → ⊥ = λ z. omega (arith, u.0, category_of q l 1 g.0 z) in
    let below' : Sound (entering (role_of l) s).next a =
    visit_sound k rs (inside (role_of l) around k) (entering (role_of l) s) (inner_below q l.kind l.payload not1) g.1 (omega (arith, few, size_node l k r)) (rw e h.1)
    (rw e (inside_below (role_of l) s.next around k id h.1)) (rw e (entering_below (role_of l) s.next s d)) in
    let bs : Sound s.next b =
    own_sound s.next around l k s.default a h.0 id d h.1 (omega (arith, few, size_node l k r, visit_length k rs (inside (role_of l) around k) (entering (role_of l) s) g.1))
    (subst (λ (n : ℕ). Sound n a) e below') not1 (λ z. class_first (inside (role_of l) around k) k (entering (role_of l) s) (statement_kids q l k g.1 z)) in
    let cs : Sound b.after.next c =
    visit_sound r qs around b.after u.1 g.2 (omega (arith, few, size_node l k r)) (good_le s.next b.after.next bs.low r h.2)
    (below_le s.next b.after.next around.id bs.low id) bs.default in
    let n : ℕ = c.after.next in
    record {
      low = omega (arith, bs.low, cs.low);
      here = each_append (Good n) b.here c.here (good_le b.after.next n cs.low b.here bs.here) cs.here;
      calls = each_append (Good n) b.calls c.calls (good_le b.after.next n cs.low b.calls bs.calls) cs.calls;
      default = cs.default;
    }

-- outside of classes
pub visit_good : (n : ℕ) (f : Trees) (qs : List Slot) → Above 2 qs → Fits qs f → 3 * size f ≤ 67108864 → Each (Good n) f →
    Each (Good (visit outermost f (record { next = n; default = none })).after.next) (visit outermost f (record { next = n; default = none })).here
visit_good n f qs u g few h = (visit_sound f qs outermost (record { next = n; default = none }) u g few h (unfold outermost Below in tt) (unfold Below in tt)).here

-- a word that holds no symbol, and whose payload isn't free
pub good_other : (n : ℕ) (l : Label) (k : ℕ) → l.kind ≡ k → is_held k ≡ false → Good n l
good_other n l k e z = other n l (ap is_held e ∙ z)
