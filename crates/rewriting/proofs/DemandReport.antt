-- The report of fresh symbols, by the records that took them. Assumes nothing.
use Rattle.std.specs.Prelude.{◌≡◌, Bool, cond, ◌&&◌, ℕ, ◌+◌, ◌≤◌}
use Rattle.std.proofs.Math.Path.{refl, ap, sym}
use Rattle.std.proofs.Common.{◌∙◌, arith, eq-eqb}
use Rattle.std.proofs.Math.Bool.{true, false, and-false}
use Rattle.std.specs.declared.option.Option.{Option}
use Rattle.std.specs.declared.option.Option.TheVariants.{None as none, Some as some}
use mathlib.Core.List.{List, [], ◌∷◌, ◌++◌, append-nil, map}
use Rattle.std.proofs.Math.Dec.{eqb}
use Rattle.records.specs.Forest.{end, node, take_f, drop_f, any_f}
use Rattle.records.specs.Label.{Label, Origin, made, read, Trees, ◌∶◌, is}
use Rattle.rewriting.specs.Parts.{Role, module', list, statement, expression, method, constructor, plain, field, role_of, has_plain_key, is_decorated_member, id_of, is_live, class_kids}
use Rattle.rewriting.specs.Visit.{Result, Taken, Default, Inner, Alias, sign, signed, kept, class_symbol, name_if, name_of, called₁, called₂, member, member_if, named_symbols, symbols_of, is_ref, decorated₁, decorated₂, live_class_if, live_class, dead_class, class_if, own, signed_by, work, since, inside, entering, join, ◌then◌, visit, visit_one, visit_node, visit_end}
use Rattle.rewriting.specs.declared.Around.{Around}
use Rattle.rewriting.specs.declared.State.{State}
use Rattle.rewriting.specs.Demand.{same, is_at, count_at, taken}
use Rattle.rewriting.proofs.DemandShapes.{Read}
use Rattle.rewriting.proofs.DemandVisits.{one_as, one_role_lem, visit_calls, visit_after, class_if_without_calls, append_ends}

-- ---- origins

same_self : (o : Origin) → same o o ≡ true
unfolding same
same_self made = refl
same_self (read i) = eq-eqb i i refl

pub at_from : (i : ℕ) (l : Label) → l.from ≡ read i → is_at i l.from ≡ 1
unfolding is_at
at_from i l e = rw (e, same_self (read i))

-- another record's
other : (i : ℕ) (o : Origin) → is_at i o ≡ 0 → same (read i) o ≡ false
unfolding is_at
other i o e = go (same (read i) o) e
  where
    go : (b : Bool) → ◌≡◌ {A = ℕ} (cond b 1 0) 0 → b ≡ false
    go true e = absurd (let z : ⊥ = omega arith in z)
    go false e = refl

-- ---- lists

some≢none : (v : ℕ) → some v ≡ none → ⊥
some≢none v e = let z : ◌≡◌ {A = ℕ} 0 1 = cc in omega arith

right_if : (b : Bool) (v : ℕ) (x y z : Option ℕ) → (x ≡ none → y ≡ z) → cond b (some v) x ≡ none → cond b (some v) y ≡ z
right_if true v x y z h e = absurd (some≢none v e)
right_if false v x y z h e = h e

module _ (sort : ℕ) (o : Origin) where
  pub taken_empty : taken sort o [] ≡ none
  unfolding taken
  taken_empty = refl

  taken_left : (xs ys : List Label) → taken sort o ys ≡ none → taken sort o (xs ++ ys) ≡ taken sort o xs
  unfolding taken
  taken_left [] ys e = e
  taken_left (x ∷ xs) ys e = ap (cond (is sort x && same o x.from) (some x.payload)) (taken_left xs ys e)

  pub taken_right : (xs ys : List Label) → taken sort o xs ≡ none → taken sort o (xs ++ ys) ≡ taken sort o ys
  unfolding taken
  taken_right [] ys e = refl
  taken_right (x ∷ xs) ys e = right_if (is sort x && same o x.from) x.payload (taken sort o xs) _ _ (taken_right xs ys) e

  pub taken_none : (xs ys : List Label) → taken sort o xs ≡ none → taken sort o ys ≡ none → taken sort o (xs ++ ys) ≡ none
  taken_none xs ys e h = taken_right xs ys e ∙ h

-- ---- signing: a word that isn't signed gets the origin of the record that signs, any other stays

first_as : ℕ → Origin → Label → Option ℕ → Option ℕ
first_as sort o x t = cond (is sort x && same o x.from) (some x.payload) t

module _ (sort i : ℕ) (o : Origin) (e : is_at i o ≡ 0) where
  sign_other : (k p : ℕ) (y : Origin) (t u : Option ℕ) → t ≡ u →
      first_as sort (read i) (sign o (record { kind = k; payload = p; from = y })) t ≡ first_as sort (read i) (record { kind = k; payload = p; from = y }) u
  unfolding first_as sign is same
  sign_other k p made t u h = rw (other i o e, and-false (eqb k sort)) h
  sign_other k p (read j) t u h = rw h

-- by another record
signed_other : (sort i : ℕ) (l : Label) (xs : List Label) → is_at i l.from ≡ 0 → taken sort (read i) (signed l xs) ≡ taken sort (read i) xs
unfolding taken signed first_as
signed_other sort i l [] e = refl
signed_other sort i l (x ∷ xs) e = sign_other sort i l.from e x.kind x.payload x.from _ _ (signed_other sort i l xs e)

-- by the record that was read at i
module _ (sort i : ℕ) where
  sign_own : (k p : ℕ) (y : Origin) (t u v : Option ℕ) → (t ≡ none → v ≡ u) → first_as sort (read i) (record { kind = k; payload = p; from = y }) t ≡ none →
      first_as sort (read i) (sign (read i) (record { kind = k; payload = p; from = y })) v ≡ first_as sort made (record { kind = k; payload = p; from = y }) u
  unfolding first_as sign is same
  sign_own k p made t u v h e = rw (eq-eqb i i refl, h (rw and-false at e))
  sign_own k p (read j) t u v h e = rw and-false (right_if (eqb k sort && eqb i j) p t v u h e)

  sign_all : (k p : ℕ) (y : Origin) (t : Option ℕ) → first_as sort made (sign (read i) (record { kind = k; payload = p; from = y })) t ≡ t
  unfolding first_as sign is same
  sign_all k p made t = rw and-false
  sign_all k p (read j) t = rw and-false

signed_as : (sort i : ℕ) (xs : List Label) → taken sort (read i) xs ≡ none → taken sort (read i) (map (sign (read i)) xs) ≡ taken sort made xs
unfolding taken first_as
signed_as sort i [] e = refl
signed_as sort i (x ∷ xs) e = sign_own sort i x.kind x.payload x.from (taken sort (read i) xs) _ _ (signed_as sort i xs) e

pub signed_own : (sort i : ℕ) (l : Label) (xs : List Label) → l.from ≡ read i → taken sort (read i) xs ≡ none → taken sort (read i) (signed l xs) ≡ taken sort made xs
unfolding signed
signed_own sort i l xs from e = rw from (signed_as sort i xs e)

-- nothing is left to sign
all_signed : (sort i : ℕ) (xs : List Label) → taken sort made (map (sign (read i)) xs) ≡ none
unfolding taken first_as
all_signed sort i [] = refl
all_signed sort i (x ∷ xs) = sign_all sort i x.kind x.payload x.from _ ∙ all_signed sort i xs

signed_all : (sort i : ℕ) (l : Label) (xs : List Label) → l.from ≡ read i → taken sort made (signed l xs) ≡ none
unfolding signed
signed_all sort i l xs from = rw from (all_signed sort i xs)

-- ---- each place is counted once

abbrev pub Distinct : Trees → Type 0
Distinct f = (i : ℕ) → count_at i f ≤ 1

-- ---- what a record takes itself

symbol_other : (sort i : ℕ) (id d : Option ℕ) (s : State) → taken sort (read i) (class_symbol id d s).fresh ≡ none
unfolding class_symbol taken is same ◌∶◌
symbol_other sort i (some c) d s = refl
symbol_other sort i none (some d) s = refl
symbol_other sort i none none s = rw and-false

name_if_other : (sort i : ℕ) (b : Bool) (l : Label) (k : Trees) (s : State) → taken sort (read i) (name_if b l k s).fresh ≡ none
unfolding name_if taken is same ◌∶◌
name_if_other sort i true l k s = refl
name_if_other sort i false l k s = rw and-false

name_other : (sort i : ℕ) (b : Bool) (f : Trees) (s : State) → taken sort (read i) (name_of b f s).fresh ≡ none
unfolding name_of taken
name_other sort i b end s = refl
name_other sort i b (node l k r) s = name_if_other sort i b l k s

named_other : (sort i : ℕ) (b : Bool) (c n : ℕ) → taken sort (read i) (named_symbols b c n).fresh ≡ none
unfolding named_symbols taken is same ◌∶◌
named_other sort i true c n = rw (and-false (eqb Inner sort), and-false (eqb Alias sort))
named_other sort i false c n = rw and-false

symbols_other : (sort i : ℕ) (id d : Option ℕ) (n : ℕ) (els : Trees) → taken sort (read i) (symbols_of id d n els).fresh ≡ none
unfolding symbols_of taken is same ◌∶◌
symbols_other sort i (some c) d n els = named_other sort i (any_f (is_ref c) els) c n
symbols_other sort i none (some d) n els = refl
symbols_other sort i none none n els = rw and-false

live_if_other : (sort i : ℕ) (b : Bool) (rk : Trees) (l c : Label) (ck calls : Trees) (s : State) (outside : Option ℕ) → taken sort (read i) (live_class_if b rk l c ck calls s outside).fresh ≡ none
unfolding live_class_if decorated₁ decorated₂
live_if_other sort i true rk l c ck calls s outside = symbols_other sort i (id_of rk) _ _ _
live_if_other sort i false rk l c ck calls s outside = taken_empty sort (read i)

live_other : (sort i : ℕ) (rk : Trees) (l : Label) (cls calls : Trees) (s : State) (outside : Option ℕ) → taken sort (read i) (live_class rk l cls calls s outside).fresh ≡ none
unfolding live_class
live_other sort i rk l end calls s outside = taken_empty sort (read i)
live_other sort i rk l (node c ck r) calls s outside = live_if_other sort i _ rk l c _ _ s outside

pub class_if_other : (sort i : ℕ) (b : Bool) (l : Label) (k : Trees) (outside : Option ℕ) (a : Result) → taken sort (read i) (class_if b l k outside a).fresh ≡ none
unfolding class_if dead_class
class_if_other sort i true l k outside a = live_other sort i (class_kids k) l a.here a.calls a.after outside
class_if_other sort i false l k outside a = taken_empty sort (read i)

-- a member's, by its own place i or another
module _ (sort i : ℕ) (around : Around) (l : Label) (kids bare entries : Trees) (d : Label) (a : Result) where
  member_if_other : (b : Bool) → is_at i l.from ≡ 0 → taken sort (read i) (member_if b around l kids bare entries d a).fresh ≡ none
  unfolding member_if called₁ called₂
  member_if_other true e =
      let t : Taken = class_symbol around.id a.after.default a.after in
      taken_none sort (read i) t.fresh _ (symbol_other sort i around.id a.after.default a.after)
      (signed_other sort i l _ e ∙ name_other sort i (has_plain_key kids) (take_f 1 (drop_f 1 bare)) t.after)
  member_if_other false e = taken_empty sort (read i)

  pub member_if_own : l.from ≡ read i → taken sort (read i) (member_if true around l kids bare entries d a).fresh ≡
      taken sort made (name_of (has_plain_key kids) (take_f 1 (drop_f 1 bare)) (class_symbol around.id a.after.default a.after).after).fresh
  unfolding member_if called₁ called₂
  member_if_own from =
      let t : Taken = class_symbol around.id a.after.default a.after in
      taken_right sort (read i) t.fresh _ (symbol_other sort i around.id a.after.default a.after)
      ∙ signed_own sort i l _ from (name_other sort i (has_plain_key kids) (take_f 1 (drop_f 1 bare)) t.after)

own_other : (sort i : ℕ) (l : Label) → is_at i l.from ≡ 0 → (r : Role) (around : Around) (k : Trees) (outside : Option ℕ) (a : Result) →
    taken sort (read i) (own r around l k outside a).fresh ≡ none
unfolding own kept dead_class member
own_other sort i l e module' around k outside a = taken_empty sort (read i)
own_other sort i l e list around k outside a = taken_empty sort (read i)
own_other sort i l e statement around k outside a = class_if_other sort i (is_live k) l k outside a
own_other sort i l e expression around k outside a = taken_empty sort (read i)
own_other sort i l e method around k outside a = member_if_other sort i around l k _ _ (13 ∶ 0) a _ e
own_other sort i l e constructor around k outside a = taken_empty sort (read i)
own_other sort i l e plain around k outside a = taken_empty sort (read i)
own_other sort i l e (field d) around k outside a = member_if_other sort i around l k _ _ d a _ e

by_other : (sort i : ℕ) (r : Role) (l : Label) (xs : List Label) → is_at i l.from ≡ 0 → taken sort (read i) (signed_by r l xs) ≡ taken sort (read i) xs
unfolding signed_by
by_other sort i module' l xs e = refl
by_other sort i list l xs e = refl
by_other sort i statement l xs e = signed_other sort i l xs e
by_other sort i expression l xs e = refl
by_other sort i method l xs e = refl
by_other sort i constructor l xs e = refl
by_other sort i plain l xs e = refl
by_other sort i (field d) l xs e = refl

-- ---- the report of a visit

one_report : (around : Around) (l : Label) (k : Trees) (s : State) → (visit_one around l k s).fresh ≡
    signed_by (role_of l) l ((visit (inside (role_of l) around k) k (entering (role_of l) s)).fresh ++ (own (role_of l) around l k s.default (visit (inside (role_of l) around k) k (entering (role_of l) s))).fresh)
unfolding visit_one work since
one_report around l k s = refl

visit_report : (around : Around) (l : Label) (k r : Trees) (s : State) →
    (visit around (node l k r) s).fresh ≡ (visit_one around l k s).fresh ++ (visit around r (visit_one around l k s).after).fresh
unfolding ◌then◌ join
visit_report around l k r s = ap (λ (x : Result). x.fresh) (visit_node around l k r s)

-- of a record that isn't i's: what its children took
one_other : (sort i : ℕ) (around : Around) (l : Label) (k : Trees) (s : State) → is_at i l.from ≡ 0 →
    taken sort (read i) (visit_one around l k s).fresh ≡ taken sort (read i) (visit (inside (role_of l) around k) k (entering (role_of l) s)).fresh
one_other sort i around l k s e =
    let a : Result = visit (inside (role_of l) around k) k (entering (role_of l) s) in
    ap (taken sort (read i)) (one_report around l k s) ∙ by_other sort i (role_of l) l _ e ∙ taken_left sort (read i) a.fresh _ (own_other sort i l e (role_of l) around k s.default a)

-- nothing for a place that wasn't visited
pub report_none : (sort i : ℕ) (f : Trees) (around : Around) (s : State) → count_at i f ≡ 0 → taken sort (read i) (visit around f s).fresh ≡ none
unfolding count_at
report_none sort i end around s e = ap (λ (x : Result). taken sort (read i) x.fresh) (visit_end around s) ∙ taken_empty sort (read i)
report_none sort i (node l k r) around s e =
    ap (taken sort (read i)) (visit_report around l k r s)
    ∙ taken_none sort (read i) _ _ (one_other sort i around l k s (omega arith) ∙ report_none sort i k (inside (role_of l) around k) (entering (role_of l) s) (omega arith))
    (report_none sort i r around (visit_one around l k s).after (omega arith))

-- two reports agree on what the records of f took
abbrev pub Agree : List Label → Trees → List Label → Type 0
Agree F f G = (sort i : ℕ) → 1 ≤ count_at i f → taken sort (read i) F ≡ taken sort (read i) G

-- a report that agrees on a record and what stands behind it does so on the record, its children and what stands behind
module _ (F : List Label) (around : Around) (l : Label) (k r : Trees) (s : State) (once : Distinct (node l k r)) (agree : Agree F (node l k r) (visit around (node l k r) s).fresh) where
  parts : (j : ℕ) → is_at j l.from + count_at j k + count_at j r ≤ 1
  unfolding count_at
  parts j = once j

  more : (j : ℕ) → 1 ≤ is_at j l.from + count_at j k + count_at j r → 1 ≤ count_at j (node l k r)
  unfolding count_at
  more j h = h

  whole : (sort j : ℕ) → 1 ≤ is_at j l.from + count_at j k + count_at j r →
      taken sort (read j) F ≡ taken sort (read j) ((visit_one around l k s).fresh ++ (visit around r (visit_one around l k s).after).fresh)
  whole sort j h = agree sort j (more j h) ∙ ap (taken sort (read j)) (visit_report around l k r s)

  pub agree_one : (sort i : ℕ) → l.from ≡ read i → taken sort (read i) F ≡ taken sort (read i) (visit_one around l k s).fresh
  agree_one sort i e =
      whole sort i (omega (arith, at_from i l e)) ∙ taken_left sort (read i) _ _ (report_none sort i r around (visit_one around l k s).after (omega (arith, at_from i l e, parts i)))

  pub agree_kids : Agree F k (visit (inside (role_of l) around k) k (entering (role_of l) s)).fresh
  agree_kids sort j n =
      whole sort j (omega arith) ∙ taken_left sort (read j) _ _ (report_none sort j r around (visit_one around l k s).after (omega (arith, parts j)))
      ∙ one_other sort j around l k s (omega (arith, parts j))

  pub agree_rest : Agree F r (visit around r (visit_one around l k s).after).fresh
  agree_rest sort j n =
      whole sort j (omega arith) ∙ taken_right sort (read j) (visit_one around l k s).fresh _
      (one_other sort j around l k s (omega (arith, parts j)) ∙ report_none sort j k (inside (role_of l) around k) (entering (role_of l) s) (omega (arith, parts j)))

  pub once_kids : Distinct k
  once_kids j = omega (arith, parts j)

  pub once_rest : Distinct r
  once_rest j = omega (arith, parts j)

-- ---- what is not signed yet: the default symbol of the class around

-- a member's own words but for a default symbol are signed
module _ (sort : ℕ) (around : Around) (l : Label) (kids bare entries : Trees) (d : Label) (a : Result) (i : ℕ) (from : l.from ≡ read i) where
  symbol_made : (id d : Option ℕ) (s : State) → eqb Default sort ≡ false → taken sort made (class_symbol id d s).fresh ≡ none
  unfolding class_symbol taken is same ◌∶◌
  symbol_made (some c) d s e = refl
  symbol_made none (some d) s e = refl
  symbol_made none none s e = rw e

  member_if_made : (b : Bool) → (b && eqb Default sort) ≡ false → taken sort made (member_if b around l kids bare entries d a).fresh ≡ none
  unfolding member_if called₁ called₂
  member_if_made true e =
      taken_none sort made _ _ (symbol_made around.id a.after.default a.after e) (signed_all sort i l _ from)
  member_if_made false e = taken_empty sort made

and_three : (a b c : Bool) → (a && c) ≡ false → (a && b && c) ≡ false
and_three true b c e = rw (e, and-false)
and_three false b c e = e

module _ (sort : ℕ) (l : Label) (i : ℕ) (from : l.from ≡ read i) where
  as_made : (r : Role) (around : Around) (k : Trees) (s : State) → (around.live && eqb Default sort) ≡ false →
      ((around : Around) (s : State) → (around.live && eqb Default sort) ≡ false → taken sort made (visit around k s).fresh ≡ none) →
      taken sort made (work r around l k s.default (visit (inside r around k) k (entering r s))).fresh ≡ none
  unfolding work since own signed_by kept dead_class member inside entering
  as_made module' around k s e h = taken_none sort made _ _ (h around s e) (taken_empty sort made)
  as_made list around k s e h = taken_none sort made _ _ (h around s e) (taken_empty sort made)
  as_made statement around k s e h = signed_all sort i l _ from
  as_made expression around k s e h = taken_none sort made _ _ (h _ _ refl) (taken_empty sort made)
  as_made method around k s e h =
      taken_none sort made _ _ (h around s e) (member_if_made sort around l k _ _ (13 ∶ 0) (visit around k s) i from (around.live && is_decorated_member l k) (and_three around.live (is_decorated_member l k) (eqb Default sort) e))
  as_made constructor around k s e h = taken_none sort made _ _ (h around s e) (taken_empty sort made)
  as_made plain around k s e h = taken_none sort made _ _ (h around s e) (taken_empty sort made)
  as_made (field d) around k s e h =
      taken_none sort made _ _ (h around s e) (member_if_made sort around l k _ _ d (visit around k s) i from (around.live && is_decorated_member l k) (and_three around.live (is_decorated_member l k) (eqb Default sort) e))

visit_made : (sort : ℕ) (f : Trees) (around : Around) (s : State) → Read f → (around.live && eqb Default sort) ≡ false → taken sort made (visit around f s).fresh ≡ none
visit_made sort end around s rd e = ap (λ (x : Result). taken sort made x.fresh) (visit_end around s) ∙ taken_empty sort made
visit_made sort (node l k r) around s rd e =
    ap (taken sort made) (visit_report around l k r s)
    ∙ taken_none sort made _ _ (one (as_made sort l rd.0.0 rd.0.1 (role_of l) around k s e (λ x t g. visit_made sort k x t rd.1 g)))
    (visit_made sort r around (visit_one around l k s).after rd.2 e)
  where
    one : taken sort made (work (role_of l) around l k s.default (visit (inside (role_of l) around k) k (entering (role_of l) s))).fresh ≡ none → taken sort made (visit_one around l k s).fresh ≡ none
    one h = unfold visit_one in h

-- none of another sort
pub visit_signed : (sort : ℕ) (f : Trees) (around : Around) (s : State) → Read f → eqb Default sort ≡ false → taken sort made (visit around f s).fresh ≡ none
visit_signed sort f around s rd e = visit_made sort f around s rd (rw (e, and-false))

-- from the default symbol d to d': the one that was taken meanwhile
abbrev pub After : Option ℕ → List Label → Option ℕ → Type 0
After none xs d' = taken Default made xs ≡ d'
After (some x) xs d' = (taken Default made xs ≡ none) × (d' ≡ some x)

after_same : (d : Option ℕ) (xs : List Label) (d' : Option ℕ) → taken Default made xs ≡ none → d' ≡ d → After d xs d'
after_same none xs d' e h = e ∙ sym h
after_same (some x) xs d' e h = (e, h)

after_append : (d e g : Option ℕ) (xs ys : List Label) → After d xs e → After e ys g → After d (xs ++ ys) g
after_append none none g xs ys p q = taken_right Default made xs ys p ∙ q
after_append none (some y) g xs ys p q = taken_left Default made xs ys q.0 ∙ p ∙ sym q.1
after_append (some x) none g xs ys p q = absurd (some≢none x (sym p.1))
after_append (some x) (some y) g xs ys p q = (taken_none Default made xs ys p.0 q.0, q.1 ∙ p.1)

symbol_after : (id : Option ℕ) (s : State) → After s.default (class_symbol id s.default s).fresh (class_symbol id s.default s).after.default
symbol_after id s = go id s.default refl
  where
    go : (id d : Option ℕ) → s.default ≡ d → After d (class_symbol id d s).fresh (class_symbol id d s).after.default
    go (some c) none e = unfold class_symbol taken in sym e
    go (some c) (some d) e = unfold class_symbol taken in (refl, e)
    go none (some d) e = unfold class_symbol taken in (refl, e)
    go none none e = unfold class_symbol taken is same ◌∶◌ in refl

name_if_default : (b : Bool) (l : Label) (k : Trees) (s : State) → (name_if b l k s).after.default ≡ s.default
unfolding name_if
name_if_default true l k s = refl
name_if_default false l k s = refl

pub name_default : (b : Bool) (f : Trees) (s : State) → (name_of b f s).after.default ≡ s.default
unfolding name_of
name_default b end s = refl
name_default b (node l k r) s = name_if_default b l k s

module _ (around : Around) (l : Label) (kids bare entries : Trees) (d : Label) (a : Result) (i : ℕ) (from : l.from ≡ read i) where
  member_if_after : (b : Bool) → After a.after.default (member_if b around l kids bare entries d a).fresh (member_if b around l kids bare entries d a).after.default
  unfolding member_if called₁ called₂
  member_if_after true =
      let t : Taken = class_symbol around.id a.after.default a.after in
      after_append a.after.default t.after.default _ t.fresh _ (symbol_after around.id a.after)
      (after_same t.after.default _ _ (signed_all Default i l _ from) (name_default (has_plain_key kids) (take_f 1 (drop_f 1 bare)) t.after))
  member_if_after false = after_same a.after.default [] a.after.default (taken_empty Default made) refl

module _ (l : Label) (k : Trees) (i : ℕ) (from : l.from ≡ read i) (rd : Read k) where
  as_after : (r : Role) (around : Around) (s : State) → ((around : Around) (s : State) → After s.default (visit around k s).fresh (visit around k s).after.default) →
      After s.default (one_as r around l k s).fresh (one_as r around l k s).after.default
  unfolding one_as work since own signed_by kept dead_class member inside entering
  as_after module' around s h = rw append-nil (h around s)
  as_after list around s h = rw append-nil (h around s)
  as_after statement around s h = after_same s.default _ _ (signed_all Default i l _ from) (class_if_without_calls (is_live k) l k s.default _).default
  as_after expression around s h = after_same s.default _ _ (taken_none Default made _ _ (visit_made Default k _ _ rd refl) (taken_empty Default made)) refl
  as_after method around s h =
      after_append s.default (visit around k s).after.default _ (visit around k s).fresh _ (h around s)
      (member_if_after around l k _ _ (13 ∶ 0) (visit around k s) i from (around.live && is_decorated_member l k))
  as_after constructor around s h = rw append-nil (h around s)
  as_after plain around s h = rw append-nil (h around s)
  as_after (field d) around s h =
      after_append s.default (visit around k s).after.default _ (visit around k s).fresh _ (h around s)
      (member_if_after around l k _ _ d (visit around k s) i from (around.live && is_decorated_member l k))

pub default_visit : (f : Trees) (around : Around) (s : State) → Read f → After s.default (visit around f s).fresh (visit around f s).after.default
default_visit end around s rd = rw visit_end (after_same s.default [] s.default (taken_empty Default made) refl)
default_visit (node l k r) around s rd =
    let o : Result = visit_one around l k s in
    rw (visit_report around l k r s, visit_after around l k r s)
    (after_append s.default o.after.default _ o.fresh _
    (rw one_role_lem (as_after l k rd.0.0 rd.0.1 rd.1 (role_of l) around s (λ x t. default_visit k x t rd.1)))
    (default_visit r around o.after rd.2))

-- ---- a nameless class whose default symbol isn't taken has no calls

default_back : (d : Option ℕ) (xs : List Label) (d' : Option ℕ) → After d xs d' → d' ≡ none → d ≡ none
default_back none xs d' h e = refl
default_back (some x) xs d' h e = absurd (some≢none x (sym h.1 ∙ e))

symbol_some : (d : Option ℕ) (s : State) → s.default ≡ d → (class_symbol none d s).after.default ≡ none → ⊥
unfolding class_symbol
symbol_some (some d) s h e = some≢none d (sym h ∙ e)
symbol_some none s h e = some≢none s.next e

module _ (around : Around) (nameless : around.id ≡ none) (l : Label) (kids bare entries : Trees) (d : Label) (a : Result) where
  member_if_untaken : (b : Bool) → (member_if b around l kids bare entries d a).after.default ≡ none → ((member_if b around l kids bare entries d a).calls ≡ a.calls) × (a.after.default ≡ none)
  unfolding member_if called₁ called₂
  member_if_untaken true e =
      let t : Taken = class_symbol around.id a.after.default a.after in
      absurd (symbol_some a.after.default a.after refl
      (ap (λ (x : Option ℕ). (class_symbol x a.after.default a.after).after.default) (sym nameless) ∙ sym (name_default (has_plain_key kids) (take_f 1 (drop_f 1 bare)) t.after) ∙ e))
  member_if_untaken false e = (refl, e)

module _ (l : Label) (k : Trees) where
  as_untaken : (r : Role) (around : Around) (s : State) → around.id ≡ none → (one_as r around l k s).after.default ≡ none →
      ((around : Around) (s : State) → around.id ≡ none → (visit around k s).after.default ≡ none → (visit around k s).calls ≡ end) → (one_as r around l k s).calls ≡ end
  unfolding one_as work since own kept dead_class member inside entering
  as_untaken module' around s n e h = h around s n e
  as_untaken list around s n e h = h around s n e
  as_untaken statement around s n e h = (class_if_without_calls (is_live k) l k s.default _).calls
  as_untaken expression around s n e h = refl
  as_untaken method around s n e h = let x = member_if_untaken around n l k _ _ (13 ∶ 0) (visit around k s) (around.live && is_decorated_member l k) e in x.0 ∙ h around s n x.1
  as_untaken constructor around s n e h = h around s n e
  as_untaken plain around s n e h = h around s n e
  as_untaken (field d) around s n e h = let x = member_if_untaken around n l k _ _ d (visit around k s) (around.live && is_decorated_member l k) e in x.0 ∙ h around s n x.1

pub nameless_calls : (f : Trees) (around : Around) (s : State) → Read f → around.id ≡ none → (visit around f s).after.default ≡ none → (visit around f s).calls ≡ end
nameless_calls end around s rd n e = ap (λ (x : Result). x.calls) (visit_end around s)
nameless_calls (node l k r) around s rd n e =
    let o : Result = visit_one around l k s in
    let g : (visit around r o.after).after.default ≡ none = ap (λ (x : State). x.default) (sym (visit_after around l k r s)) ∙ e in
    visit_calls around l k r s
    ∙ append_ends o.calls _ (ap (λ (x : Result). x.calls) (one_role_lem around l k s)
    ∙ as_untaken l k (role_of l) around s n (ap (λ (x : Result). x.after.default) (sym (one_role_lem around l k s)) ∙ default_back o.after.default _ _ (default_visit r around o.after rd.2) g)
    (λ x t m y. nameless_calls k x t rd.1 m y))
    (nameless_calls r around o.after rd.2 n g)
