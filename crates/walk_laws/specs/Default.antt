-- Rule 4: a class takes its default symbol with its first call, so that records that queue nothing leave it as it was. Assumes nothing.
use Rattle.std.specs.Prelude.{◌≡◌, Bool, true, false, ◌&&◌, ℕ}
use Rattle.std.proofs.Math.Path.{refl}
use Rattle.std.proofs.Common.{sym, ◌∙◌, arith}
use Rattle.std.specs.declared.option.Option.{Option}
use Rattle.records.specs.Forest.{end, node, append_f}
use Rattle.records.specs.Label.{Label, Trees, ◌∶◌}
use Rattle.rewriting.specs.Parts.{tree, is_empty, Role, module', list, statement, expression, method, constructor, plain, field, role_of, decorators, decorators_of, bare_method, bare_field, is_decorated_member, is_decorated, is_live, class_kids}
use Rattle.rewriting.specs.Visit.{Result, member_call, called₁, called₂, member_if, member, kept, dead_class, decorated₁, decorated₂, live_class_if, live_class, class_if, own, since, work, inside, entering, join, ◌then◌, visit}
use Rattle.rewriting.specs.declared.Around.{Around}
use Rattle.rewriting.specs.declared.State.{State}

pub empty_append : (f g : Trees) → is_empty (append_f f g) ≡ (is_empty f && is_empty g)
unfolding is_empty append_f
empty_append end g = refl
empty_append (node l k r) g = refl

and_left : (a b : Bool) → (a && b) ≡ true → a ≡ true
and_left true b e = refl
and_left false b e = e

and_right : (a b : Bool) → (a && b) ≡ true → b ≡ true
and_right true b e = e
and_right false b e = let z : ◌≡◌ {A = ℕ} 0 1 = cc in absurd (omega arith)

left_empty : (f g : Trees) → is_empty (append_f f g) ≡ true → is_empty f ≡ true
left_empty f g e = and_left (is_empty f) (is_empty g) (sym (empty_append f g) ∙ e)

right_empty : (f g : Trees) → is_empty (append_f f g) ≡ true → is_empty g ≡ true
right_empty f g e = and_right (is_empty f) (is_empty g) (sym (empty_append f g) ∙ e)

-- ---- by role

call_some : (entries pre name : Trees) (d : Label) → is_empty (member_call entries pre name d) ≡ true → ⊥
unfolding member_call tree is_empty
call_some entries pre name d e = let z : ◌≡◌ {A = ℕ} 0 1 = cc in omega arith

member_if_default : (b : Bool) (around : Around) (l : Label) (kids bare entries : Trees) (d : Label) (a : Result) (o : Option ℕ) →
    is_empty (member_if b around l kids bare entries d a).calls ≡ true → (is_empty a.calls ≡ true → a.after.default ≡ o) →
    (member_if b around l kids bare entries d a).after.default ≡ o
unfolding member_if called₁ called₂
member_if_default true around l kids bare entries d a o e h =
    absurd (call_some _ _ _ d (right_empty a.calls (member_call _ _ _ d) e))
member_if_default false around l kids bare entries d a o e h = h e

live_default : (b : Bool) (rk : Trees) (l c : Label) (ck calls : Trees) (s : State) (outside : Option ℕ) → (live_class_if b rk l c ck calls s outside).after.default ≡ outside
unfolding live_class_if decorated₁ decorated₂
live_default true rk l c ck calls s outside = refl
live_default false rk l c ck calls s outside = refl

pub class_default : (b : Bool) (l : Label) (kids : Trees) (outside : Option ℕ) (a : Result) → (class_if b l kids outside a).after.default ≡ outside
unfolding class_if dead_class
class_default false l kids outside a = refl
class_default true l kids outside a = go a.here
  where
    go : (f : Trees) → (live_class (class_kids kids) l f a.calls a.after outside).after.default ≡ outside
    go end = unfold live_class in refl
    go (node c ck rest) = unfold live_class in live_default (is_decorated (class_kids kids)) (class_kids kids) l c ck a.calls a.after outside

own_default : (r : Role) (around : Around) (l : Label) (kids : Trees) (s : State) (a : Result) → is_empty (own r around l kids s.default a).calls ≡ true →
    (is_empty a.calls ≡ true → a.after.default ≡ (entering r s).default) → (own r around l kids s.default a).after.default ≡ s.default
unfolding own entering kept dead_class member
own_default module' around l kids s a e h = h e
own_default list around l kids s a e h = h e
own_default statement around l kids s a e h = class_default (is_live kids) l kids s.default a
own_default expression around l kids s a e h = refl
own_default method around l kids s a e h =
    member_if_default (around.live && is_decorated_member l kids) around l kids (bare_method a.here) (decorators_of method a.here) (13 ∶ 0) a s.default e h
own_default constructor around l kids s a e h = h e
own_default plain around l kids s a e h = h e
own_default (field d) around l kids s a e h =
    member_if_default (around.live && is_decorated_member l kids) around l kids (bare_field a.here) (decorators a.here) d a s.default e h

-- ---- the visit

pub default_kept : (f : Trees) (around : Around) (s : State) → is_empty (visit around f s).calls ≡ true → (visit around f s).after.default ≡ s.default
unfolding visit ◌then◌ join work since
default_kept end around s e = refl
default_kept (node l k r) around s e =
    let a : Result = visit (inside (role_of l) around k) k (entering (role_of l) s) in
    let b : Result = own (role_of l) around l k s.default a in
    let c : Trees = (visit around r b.after).calls in
    default_kept r around b.after (right_empty b.calls c e)
    ∙ own_default (role_of l) around l k s a (left_empty b.calls c e) (λ t. default_kept k (inside (role_of l) around k) (entering (role_of l) s) t)
