-- Rule 1: the fresh symbols are numbered on from the first without a gap, in order of need, each with one sort. Assumes nothing.
use Rattle.std.specs.Prelude.{◌≡◌, refl, Bool, true, false, ◌&&◌, List, [], ◌∷◌, ◌++◌, ℕ, suc, ◌+◌, ◌≤◌, length}
use Rattle.std.proofs.Common.{sym, ◌∙◌, subst, add-zero, arith}
use Rattle.std.specs.declared.option.Option.{Option}
use Rattle.std.specs.declared.option.Option.TheVariants.{None as none, Some as some}
use Rattle.records.specs.Forest.{end, node, take_f, drop_f, any_f}
use Rattle.records.specs.Label.{Label, Origin, made, read, Trees, ◌∶◌}
use Rattle.rewriting.specs.Parts.{Role, module', list, statement, expression, method, constructor, plain, field, role_of, decorators, decorators_of, bare_method, bare_field, is_decorated_member, has_plain_key, elements_of, id_of, is_decorated, is_live, class_kids}
use Rattle.rewriting.specs.Visit.{Result, Taken, Named, sign, signed, class_symbol, name_if, name_of, called₁, called₂, member_if, member, is_ref, named_symbols, symbols_of, decorated₁, decorated₂, live_class_if, live_class, dead_class, class_if, kept, own, signed_by, since, work, inside, entering, join, ◌then◌, visit}
use Rattle.rewriting.specs.declared.Around.{Around}
use Rattle.rewriting.specs.declared.State.{State}
use Rattle.rewriting.proofs.Facts.{entering_next}

-- one of the four sorts
pub record IsSort (k : ℕ) : Type 0 where
  pub low : 1 ≤ k
  pub high : k ≤ 4

-- the symbols of fs are n, n + 1 and on, each with a sort, and m is the next
abbrev pub Numbered : ℕ → List Label → ℕ → Type 0
Numbered n [] m = n ≡ m
Numbered n (l ∷ fs) m = (l.payload ≡ n) × IsSort l.kind × Numbered (suc n) fs m

numbered_append : (n m k : ℕ) (fs gs : List Label) → Numbered n fs m → Numbered m gs k → Numbered n (fs ++ gs) k
numbered_append n m k [] gs e h = rw e h
numbered_append n m k (l ∷ fs) gs h g = (h.0, h.1, numbered_append (suc n) m k fs gs h.2 g)

one : (k n : ℕ) → IsSort k → Numbered n (k ∶ n ∷ []) (suc n)
unfolding ◌∶◌
one k n h = (refl, h, refl)

-- to say which record took them changes neither symbol nor sort
sign_same : (o : Origin) (k p : ℕ) (from' : Origin) →
    ((sign o (record { kind = k; payload = p; from = from' })).payload ≡ p) × ((sign o (record { kind = k; payload = p; from = from' })).kind ≡ k)
unfolding sign
sign_same o k p made = (refl, refl)
sign_same o k p (read i) = (refl, refl)

signed_numbered : (l : Label) (n m : ℕ) (fs : List Label) → Numbered n fs m → Numbered n (signed l fs) m
unfolding signed
signed_numbered l n m [] h = h
signed_numbered l n m (x ∷ fs) h =
    let same = sign_same l.from x.kind x.payload x.from in
    (same.0 ∙ h.0, subst IsSort (sym same.1) h.1, signed_numbered l (suc n) m fs h.2)

symbol_fresh : (id d : Option ℕ) (s : State) → Numbered s.next (class_symbol id d s).fresh (class_symbol id d s).after.next
unfolding class_symbol
symbol_fresh (some c) d s = refl
symbol_fresh none (some d) s = refl
symbol_fresh none none s = one 1 s.next (omega arith)

name_if_fresh : (b : Bool) (l : Label) (kids : Trees) (s : State) → Numbered s.next (name_if b l kids s).fresh (name_if b l kids s).after.next
unfolding name_if
name_if_fresh true l kids s = refl
name_if_fresh false l kids s = one 2 s.next (omega arith)

name_fresh : (b : Bool) (key : Trees) (s : State) → Numbered s.next (name_of b key s).fresh (name_of b key s).after.next
unfolding name_of
name_fresh b end s = refl
name_fresh b (node l kids rest) s = name_if_fresh b l kids s

member_if_fresh : (b : Bool) (around : Around) (l : Label) (kids bare entries : Trees) (d : Label) (a : Result) →
    Numbered a.after.next (member_if b around l kids bare entries d a).fresh (member_if b around l kids bare entries d a).after.next
unfolding member_if called₁ called₂
member_if_fresh true around l kids bare entries d a =
    let t : Taken = class_symbol around.id a.after.default a.after in
    let n : Named = name_of (has_plain_key kids) (take_f 1 (drop_f 1 bare)) t.after in
    numbered_append a.after.next t.after.next n.after.next t.fresh (signed l n.fresh)
    (symbol_fresh around.id a.after.default a.after)
    (signed_numbered l t.after.next n.after.next n.fresh (name_fresh (has_plain_key kids) (take_f 1 (drop_f 1 bare)) t.after))
member_if_fresh false around l kids bare entries d a = refl

named_fresh : (b : Bool) (c n : ℕ) → Numbered n (named_symbols b c n).fresh (named_symbols b c n).next
unfolding named_symbols
named_fresh true c n = numbered_append n (suc n) (suc (suc n)) (3 ∶ n ∷ []) (4 ∶ suc n ∷ []) (one 3 n (omega arith)) (one 4 (suc n) (omega arith))
named_fresh false c n = one 3 n (omega arith)

symbols_fresh : (id d : Option ℕ) (n : ℕ) (els : Trees) → Numbered n (symbols_of id d n els).fresh (symbols_of id d n els).next
unfolding symbols_of
symbols_fresh (some c) d n els = named_fresh (any_f (is_ref c) els) c n
symbols_fresh none (some d) n els = refl
symbols_fresh none none n els = one 1 n (omega arith)

live_if_fresh : (b : Bool) (rk : Trees) (l c : Label) (ck calls : Trees) (s : State) (outside : Option ℕ) →
    Numbered s.next (live_class_if b rk l c ck calls s outside).fresh (live_class_if b rk l c ck calls s outside).after.next
unfolding live_class_if decorated₁ decorated₂
live_if_fresh true rk l c ck calls s outside = symbols_fresh (id_of rk) s.default s.next (elements_of ck)
live_if_fresh false rk l c ck calls s outside = refl

live_fresh : (rk : Trees) (l : Label) (cls calls : Trees) (s : State) (outside : Option ℕ) →
    Numbered s.next (live_class rk l cls calls s outside).fresh (live_class rk l cls calls s outside).after.next
unfolding live_class
live_fresh rk l end calls s outside = refl
live_fresh rk l (node c ck rest) calls s outside = live_if_fresh (is_decorated rk) rk l c ck calls s outside

class_if_fresh : (b : Bool) (l : Label) (kids : Trees) (outside : Option ℕ) (a : Result) →
    Numbered a.after.next (class_if b l kids outside a).fresh (class_if b l kids outside a).after.next
unfolding class_if dead_class
class_if_fresh true l kids outside a = live_fresh (class_kids kids) l a.here a.calls a.after outside
class_if_fresh false l kids outside a = refl

own_fresh : (r : Role) (around : Around) (l : Label) (kids : Trees) (outside : Option ℕ) (a : Result) →
    Numbered a.after.next (own r around l kids outside a).fresh (own r around l kids outside a).after.next
unfolding own kept dead_class member
own_fresh module' around l kids outside a = refl
own_fresh list around l kids outside a = refl
own_fresh statement around l kids outside a = class_if_fresh (is_live kids) l kids outside a
own_fresh expression around l kids outside a = refl
own_fresh method around l kids outside a =
    member_if_fresh (around.live && is_decorated_member l kids) around l kids (bare_method a.here) (decorators_of method a.here) (13 ∶ 0) a
own_fresh constructor around l kids outside a = refl
own_fresh (field d) around l kids outside a =
    member_if_fresh (around.live && is_decorated_member l kids) around l kids (bare_field a.here) (decorators a.here) d a
own_fresh plain around l kids outside a = refl

signed_by_numbered : (r : Role) (l : Label) (n m : ℕ) (fs : List Label) → Numbered n fs m → Numbered n (signed_by r l fs) m
unfolding signed_by
signed_by_numbered module' l n m fs h = h
signed_by_numbered list l n m fs h = h
signed_by_numbered statement l n m fs h = signed_numbered l n m fs h
signed_by_numbered expression l n m fs h = h
signed_by_numbered method l n m fs h = h
signed_by_numbered constructor l n m fs h = h
signed_by_numbered (field d) l n m fs h = h
signed_by_numbered plain l n m fs h = h

-- the fresh symbols of a visit are numbered on from the counter
pub visit_fresh : (f : Trees) (around : Around) (s : State) → Numbered s.next (visit around f s).fresh (visit around f s).after.next
unfolding visit ◌then◌ join work since
visit_fresh end around s = refl
visit_fresh (node l kids rest) around s =
    let a : Result = visit (inside (role_of l) around kids) kids (entering (role_of l) s) in
    let b : Result = own (role_of l) around l kids s.default a in
    let c : Result = visit around rest b.after in
    let h : Numbered s.next a.fresh a.after.next =
    subst (λ (n : ℕ). Numbered n a.fresh a.after.next) (entering_next (role_of l) s) (visit_fresh kids (inside (role_of l) around kids) (entering (role_of l) s)) in
    let both : Numbered s.next (a.fresh ++ b.fresh) b.after.next =
    numbered_append s.next a.after.next b.after.next a.fresh b.fresh h (own_fresh (role_of l) around l kids s.default a) in
    numbered_append s.next b.after.next c.after.next (signed_by (role_of l) l (a.fresh ++ b.fresh)) c.fresh
    (signed_by_numbered (role_of l) l s.next b.after.next (a.fresh ++ b.fresh) both)
    (visit_fresh rest around b.after)

-- ---- their number

pub numbered_length : (n m : ℕ) (fs : List Label) → Numbered n fs m → n + length fs ≡ m
numbered_length n m [] h = add-zero n ∙ h
numbered_length n m (l ∷ fs) h = omega (arith, numbered_length (suc n) m fs h.2)

-- the counter grows by the number of fresh symbols
pub fresh_length : (f : Trees) (around : Around) (s : State) → s.next + length (visit around f s).fresh ≡ (visit around f s).after.next
fresh_length f around s = numbered_length s.next (visit around f s).after.next (visit around f s).fresh (visit_fresh f around s)
