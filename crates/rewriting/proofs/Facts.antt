-- Facts about the visit: two forests one after the other, and the counter of fresh symbols. Assumes nothing.
use Rattle.std.specs.Prelude.{◌≡◌, Bool, true, false, ◌&&◌, ℕ, ◌+◌, ◌*◌, ◌≤◌}
use Rattle.std.proofs.Math.Path.{refl}
use Rattle.std.proofs.Common.{ap, sym, ◌∙◌, append_assoc}
use Rattle.std.specs.declared.option.Option.{Option}
use Rattle.std.specs.declared.option.Option.TheVariants.{None as none, Some as some}
use native.Mathlib.Omega.{arith}
use Rattle.records.specs.Forest.{end, node, flat, size, take_f, drop_f, append_f, any_f, append_f_assoc, size_node}
use Rattle.records.specs.Label.{Label, Trees, ◌∶◌}
use Rattle.rewriting.specs.Parts.{Role, module', list, statement, expression, method, constructor, plain, field, role_of, decorators, decorators_of, bare_method, bare_field, is_decorated_member, has_plain_key, elements_of, id_of, is_decorated, is_live, class_kids}
use Rattle.rewriting.specs.Visit.{Result, Taken, class_symbol, name_if, name_of, called₁, called₂, member_if, member, is_ref, named_symbols, symbols_of, decorated₁, decorated₂, live_class_if, live_class, dead_class, class_if, kept, own, since, work, inside, entering, join, ◌then◌, visit, visit_one, visit_node}
use Rattle.rewriting.specs.declared.Around.{Around}
use Rattle.rewriting.specs.declared.State.{State}

-- ---- the visit of two forests is that of one after the other

join_assoc : (a b c : Result) → join (join a b) c ≡ join a (join b c)
unfolding join
join_assoc a b c = λ i. record {
  here = append_f_assoc a.here b.here c.here i;
  calls = append_f_assoc a.calls b.calls c.calls i;
  fresh = append_assoc a.fresh b.fresh c.fresh i;
  after = c.after;
}

then_assoc : (a : Result) (k m : State → Result) → ((a then k) then m) ≡ (a then λ t. k t then m)
unfolding ◌then◌ join
then_assoc a k m = join_assoc a (k a.after) (m (k a.after).after)

then_cong : (b : Result) (k m : State → Result) → k b.after ≡ m b.after → (b then k) ≡ (b then m)
unfolding ◌then◌
then_cong b k m e = ap (join b) e

pub visit_append : (around : Around) (f g : Trees) (s : State) → visit around (append_f f g) s ≡ (visit around f s then λ t. visit around g t)
unfolding append_f
visit_append around end g s = unfold visit ◌then◌ join append_f in refl
visit_append around (node l kids rest) g s =
    visit_node around l kids (append_f rest g) s
    ∙ then_cong (visit_one around l kids s) (λ t. visit around (append_f rest g) t) (λ t. visit around rest t then λ u. visit around g u) (visit_append around rest g _)
    ∙ sym (then_assoc (visit_one around l kids s) (λ t. visit around rest t) (λ t. visit around g t))
    ∙ ap (λ r. r then λ t. visit around g t) (sym (visit_node around l kids rest s))

-- ---- the counter: it never falls, and grows by at most 2 with each word

-- m is n, or at most k more
pub record Within (k n m : ℕ) : Type 0 where
  pub low : n ≤ m
  pub high : m ≤ n + k

symbol_next : (id d : Option ℕ) (s : State) → Within 1 s.next (class_symbol id d s).after.next
unfolding class_symbol
symbol_next (some c) d s = omega arith
symbol_next none (some d) s = omega arith
symbol_next none none s = omega arith

name_if_next : (b : Bool) (l : Label) (kids : Trees) (s : State) → Within 1 s.next (name_if b l kids s).after.next
unfolding name_if
name_if_next true l kids s = omega arith
name_if_next false l kids s = omega arith

pub name_next : (b : Bool) (key : Trees) (s : State) → Within 1 s.next (name_of b key s).after.next
unfolding name_of
name_next b end s = omega arith
name_next b (node l kids rest) s = name_if_next b l kids s

member_if_next : (b : Bool) (around : Around) (l : Label) (kids bare entries : Trees) (d : Label) (a : Result) →
    Within 2 a.after.next (member_if b around l kids bare entries d a).after.next
unfolding member_if called₁ called₂
member_if_next true around l kids bare entries d a =
    let t : Taken = class_symbol around.id a.after.default a.after in
    omega (arith, symbol_next around.id a.after.default a.after, name_next (has_plain_key kids) (take_f 1 (drop_f 1 bare)) t.after)
member_if_next false around l kids bare entries d a = omega arith

pub named_next : (b : Bool) (c n : ℕ) → Within 2 n (named_symbols b c n).next
unfolding named_symbols
named_next true c n = omega arith
named_next false c n = omega arith

symbols_next : (id d : Option ℕ) (n : ℕ) (els : Trees) → Within 2 n (symbols_of id d n els).next
unfolding symbols_of
symbols_next (some c) d n els = named_next (any_f (is_ref c) els) c n
symbols_next none (some d) n els = omega arith
symbols_next none none n els = omega arith

live_if_next : (b : Bool) (rk : Trees) (l c : Label) (ck calls : Trees) (s : State) (outside : Option ℕ) →
    Within 2 s.next (live_class_if b rk l c ck calls s outside).after.next
unfolding live_class_if decorated₁ decorated₂
live_if_next true rk l c ck calls s outside = symbols_next (id_of rk) s.default s.next (elements_of ck)
live_if_next false rk l c ck calls s outside = omega arith

live_next : (rk : Trees) (l : Label) (cls calls : Trees) (s : State) (outside : Option ℕ) →
    Within 2 s.next (live_class rk l cls calls s outside).after.next
unfolding live_class
live_next rk l end calls s outside = omega arith
live_next rk l (node c ck rest) calls s outside = live_if_next (is_decorated rk) rk l c ck calls s outside

class_if_next : (b : Bool) (l : Label) (kids : Trees) (outside : Option ℕ) (a : Result) →
    Within 2 a.after.next (class_if b l kids outside a).after.next
unfolding class_if dead_class
class_if_next true l kids outside a = live_next (class_kids kids) l a.here a.calls a.after outside
class_if_next false l kids outside a = omega arith

own_next : (r : Role) (around : Around) (l : Label) (kids : Trees) (outside : Option ℕ) (a : Result) →
    Within 2 a.after.next (own r around l kids outside a).after.next
unfolding own kept dead_class member
own_next module' around l kids outside a = omega arith
own_next list around l kids outside a = omega arith
own_next statement around l kids outside a = class_if_next (is_live kids) l kids outside a
own_next expression around l kids outside a = omega arith
own_next method around l kids outside a =
    member_if_next (around.live && is_decorated_member l kids) around l kids (bare_method a.here) (decorators_of method a.here) (13 ∶ 0) a
own_next constructor around l kids outside a = omega arith
own_next (field d) around l kids outside a =
    member_if_next (around.live && is_decorated_member l kids) around l kids (bare_field a.here) (decorators a.here) d a
own_next plain around l kids outside a = omega arith

-- a class has the counter of what is around it
pub entering_next : (r : Role) (s : State) → (entering r s).next ≡ s.next
unfolding entering
entering_next module' s = refl
entering_next list s = refl
entering_next statement s = refl
entering_next expression s = refl
entering_next method s = refl
entering_next constructor s = refl
entering_next (field d) s = refl
entering_next plain s = refl

pub counter : (f : Trees) (around : Around) (s : State) → Within (2 * size f) s.next (visit around f s).after.next
unfolding visit ◌then◌ join work since
counter end around s = unfold size flat in omega arith
counter (node l kids rest) around s =
    let a : Result = visit (inside (role_of l) around kids) kids (entering (role_of l) s) in
    let b : Result = own (role_of l) around l kids s.default a in
    omega (
      arith,
      entering_next (role_of l) s,
      counter kids (inside (role_of l) around kids) (entering (role_of l) s),
      own_next (role_of l) around l kids s.default a,
      counter rest around b.after,
      size_node l kids rest,
    )
