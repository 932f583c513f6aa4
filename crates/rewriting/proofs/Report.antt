-- The number of fresh symbols: at most a third of the words of an accepted module. Assumes nothing.
use Rattle.std.proofs.Math.Path.{◌≡◌, refl, ap, sym, subst}
use Rattle.std.proofs.Common.{◌∙◌}
use Rattle.std.specs.Prelude.{Bool, cond, ◌&&◌, List, [], ◌∷◌, ℕ, ◌+◌, ◌*◌, ◌≤◌, length}
use Rattle.std.proofs.Math.Bool.{true, false}
use Rattle.std.specs.declared.option.Option.{Option}
use Rattle.std.specs.declared.option.Option.TheVariants.{None as none, Some as some}
use native.Mathlib.Omega.{arith}
use Rattle.words.specs.Table.{lookup}
use Rattle.words.specs.Word.{bit1}
use Rattle.records.specs.Forest.{end, node, size, take_f, drop_f, any_f, size_node}
use Rattle.records.specs.Label.{Label, Trees, ◌∶◌, bit, length_words}
use Rattle.grammar.specs.Grammar.{Slot, module' as moduleSlot, slot, row, table, row_of, slots, slots_below}
use Rattle.grammar.specs.Scan.{refusal, symbols_of as symbolCount}
use Rattle.grammar.specs.WellFormed.{Allowed, Fits}
use Rattle.grammar.proofs.Rows.{sole_kind}
use Rattle.rewriting.specs.Parts.{Role, module' as whole, list, statement, expression, plain, method, constructor, field, role_of, decorators, decorators_of, bare_method, bare_field, is_decorated_member, has_plain_key, elements_of, id_of, is_decorated, is_live, class_kids}
use Rattle.rewriting.specs.Visit.{Result, Taken, class_symbol, name_if, name_of, called₁, called₂, member_if, member, is_ref, symbols_of, decorated₁, decorated₂, live_class_if, live_class, dead_class, class_if, kept, own, since, work, inside, entering, join, ◌then◌, visit, outermost, module_of, visit_words, reported}
use Rattle.rewriting.specs.declared.Around.{Around}
use Rattle.rewriting.specs.declared.State.{State}
use Rattle.rewriting.proofs.Roles.{Plain, role_case, property_role, accessor_role}
use Rattle.rewriting.proofs.Facts.{name_next, named_next}
use Rattle.rewriting.proofs.Fresh.{fresh_length}
use Rattle.rewriting.specs.Answer.{report_words}
use Rattle.rewriting.proofs.Fitting.{words_size, module_fits}
use Rattle.rewriting.proofs.Spare.{spare_of, spare, spare_le, spare_none, grows_method, grows_property, grows_accessor, grows_statement, field_decorated, method_room, property_room, accessor_room, class_room, class_spare, sole, spare_still}

-- ---- six for each symbol

-- a live class without id may still take its default symbol
owed : Bool → Option ℕ → Option ℕ → ℕ
owed true none none = 6
owed true none (some d) = 0
owed true (some c) d = 0
owed false id d = 0

due : Around → State → ℕ
due around s = 6 * s.next + owed around.live around.id s.default

-- a member takes at most one, and its class's
symbol_due : (id d : Option ℕ) (s : State) → s.default ≡ d →
    6 * (class_symbol id d s).after.next + owed true id (class_symbol id d s).after.default ≤ 6 * s.next + owed true id s.default
unfolding class_symbol
symbol_due (some c) d s e = omega arith
symbol_due none (some d) s e = omega arith
symbol_due none none s e = unfold owed in rw e (omega arith)

name_default : (b : Bool) (key : Trees) (s : State) → (name_of b key s).after.default ≡ s.default
unfolding name_of name_if
name_default b end s = refl
name_default true (node l k r) s = refl
name_default false (node l k r) s = refl

called_due : (around : Around) (l : Label) (kids bare entries : Trees) (d : Label) (a : Result) → around.live ≡ true →
    due around (member_if true around l kids bare entries d a).after ≤ due around a.after + 6
unfolding member_if called₁ called₂ due
called_due around l kids bare entries d a e =
    let t : Taken = class_symbol around.id a.after.default a.after in
    let key : Trees = take_f 1 (drop_f 1 bare) in
    rw e (
    omega (
      arith,
      symbol_due around.id a.after.default a.after refl,
      name_next (has_plain_key kids) key t.after,
      ap (owed true around.id) (name_default (has_plain_key kids) key t.after),
    )
    )

-- x: is the class live; y: is the member decorated
member_due : (x y : Bool) (around : Around) (l : Label) (kids bare entries : Trees) (d : Label) (a : Result) (room : ℕ) → around.live ≡ x → (y ≡ true → 6 ≤ room) →
    due around (member_if (x && y) around l kids bare entries d a).after ≤ due around a.after + room
member_due true true around l kids bare entries d a room e h = omega (arith, called_due around l kids bare entries d a e, h refl)
member_due true false around l kids bare entries d a room e h = unfold member_if in omega arith
member_due false y around l kids bare entries d a room e h = unfold member_if in omega arith

-- a class takes at most two, and its default symbol if it has no id
symbols_due : (id d : Option ℕ) (n : ℕ) (els : Trees) (room : ℕ) → ((c : ℕ) → id ≡ some c → 12 ≤ room) → 6 * (symbols_of id d n els).next ≤ 6 * n + owed true id d + room
unfolding symbols_of owed
symbols_due (some c) d n els room h = omega (arith, named_next (any_f (is_ref c) els) c n, h c refl)
symbols_due none (some d) n els room h = omega arith
symbols_due none none n els room h = omega arith

live_if_due : (b : Bool) (rk : Trees) (l c : Label) (ck calls : Trees) (s : State) (outside : Option ℕ) (room : ℕ) → (b ≡ true → (c : ℕ) → id_of rk ≡ some c → 12 ≤ room) →
    6 * (live_class_if b rk l c ck calls s outside).after.next ≤ 6 * s.next + owed true (id_of rk) s.default + room
unfolding live_class_if decorated₁ decorated₂
live_if_due true rk l c ck calls s outside room h = symbols_due (id_of rk) s.default s.next (elements_of ck) room (h refl)
live_if_due false rk l c ck calls s outside room h = omega arith

live_due : (rk : Trees) (l : Label) (cls calls : Trees) (s : State) (outside : Option ℕ) (room : ℕ) → (is_decorated rk ≡ true → (c : ℕ) → id_of rk ≡ some c → 12 ≤ room) →
    6 * (live_class rk l cls calls s outside).after.next ≤ 6 * s.next + owed true (id_of rk) s.default + room
unfolding live_class
live_due rk l end calls s outside room h = omega arith
live_due rk l (node c ck rest) calls s outside room h = live_if_due (is_decorated rk) rk l c ck calls s outside room h

live_default : (rk : Trees) (l : Label) (cls calls : Trees) (s : State) (outside : Option ℕ) → (live_class rk l cls calls s outside).after.default ≡ outside
unfolding live_class
live_default rk l end calls s outside = refl
live_default rk l (node c ck rest) calls s outside = either (is_decorated rk)
  where
    either : (b : Bool) → (live_class_if b rk l c ck calls s outside).after.default ≡ outside
    either true = unfold live_class_if decorated₁ decorated₂ in refl
    either false = unfold live_class_if in refl

-- ---- a record in its slot: k its children as read, a as visited

-- what the children owe when the record begins, and when it ends
Paid : Role → Around → Trees → State → Result → Type 0
Paid r around k s a = due (inside r around k) a.after + spare k ≤ due (inside r around k) (entering r s) + 2 * size k

Due : Role → Around → Label → Trees → State → Result → Type 0
Due r around l k s a = due around (own r around l k s.default a).after + spare_of l (spare k) ≤ due around s + 2 + 2 * size k

module _ (q : Slot) (l : Label) (k : Trees) (a : Result) (around : Around) (s : State) (fits : Fits (slots_below q l.kind l.payload) k) where
  method_due : l.kind ≡ 30 → bit bit1 l ≡ false → Paid method around k s a → Due method around l k s a
  unfolding Paid Due own member inside entering
  method_due e n h =
      omega (
        arith,
        h,
        spare_none l (spare k) (grows_method l e n),
        member_due around.live (is_decorated_member l k) around l k (bare_method a.here) (decorators_of method a.here) (13 ∶ 0) a (2 + spare k) refl
            (λ z. omega (arith, method_room q l k e fits)),
      )

  field_due : (d : Label) → spare_of l (spare k) ≡ 0 → (is_decorated_member l k ≡ true → 6 ≤ spare k) → Paid (field d) around k s a → Due (field d) around l k s a
  unfolding Paid Due own member inside entering
  field_due d z room h =
      omega (
        arith,
        h,
        z,
        member_due around.live (is_decorated_member l k) around l k (bare_field a.here) (decorators a.here) d a (2 + spare k) refl (λ e. omega (arith, room e)),
      )

-- a class statement: c the class's word, ck its children as read
module _ (x : Slot) (l c : Label) (ck : Trees) (around : Around) (s : State) (a : Result) (allow : Allowed x c) (class : x.category ≡ 5)
    (fits : Fits (slots_below x c.kind c.payload) ck) where
  kind26 : c.kind ≡ 26
  unfolding sole_kind lookup
  kind26 = sole x c 5 allow class tt

  spare_class : spare (node c ck end) ≡ 2 + spare ck
  spare_class = unfold spare in omega (arith, spare_still x c ck end allow (λ e. omega (arith, class)) (λ e. omega (arith, class)))

  -- by the id
  live_paid : (id : Option ℕ) → id_of ck ≡ id → (h calls : Trees) (t : State) →
      6 * t.next + owed true id t.default + spare (node c ck end) ≤ 6 * s.next + owed true id none + 2 * size (node c ck end) →
      6 * (live_class ck l h calls t s.default).after.next ≤ 6 * s.next + 2 + 2 * size (node c ck end)
  unfolding owed
  live_paid none e h calls t paid =
      omega (
        arith,
        paid,
        spare_class,
        class_spare x c ck kind26 fits,
        rw e at (live_due ck l h calls t s.default 0 (λ d y z. let f : ◌≡◌ {A = Option ℕ} none (some y) = sym e ∙ z in let w : ◌≡◌ {A = ℕ} 0 1 = cc in absurd (omega arith))),
      )
  live_paid (some y) e h calls t paid =
      omega (
        arith,
        paid,
        spare_class,
        rw e at (live_due ck l h calls t s.default (4 + spare ck) (λ d z f. omega (arith, (class_room x c ck kind26 fits d).named z f))),
      )

  statement_due : Paid statement around (node c ck end) s a → due around (own statement around l (node c ck end) s.default a).after ≤ due around s + 2 + 2 * size (node c ck end)
  unfolding Paid own inside entering due
  statement_due = either (is_live (node c ck end))
    where
      either : (b : Bool) →
          6 * a.after.next + owed b (id_of (class_kids (node c ck end))) a.after.default + spare (node c ck end) ≤ 6 * s.next + owed b (id_of (class_kids (node c ck end))) none + 2 * size (node c ck end) →
          6 * (class_if b l (node c ck end) s.default a).after.next + owed around.live around.id (class_if b l (node c ck end) s.default a).after.default ≤
          6 * s.next + owed around.live around.id s.default + 2 + 2 * size (node c ck end)
      either true h = unfold class_if class_kids in
          omega (arith, live_paid (id_of ck) refl a.here a.calls a.after h, ap (owed around.live around.id) (live_default ck l a.here a.calls a.after s.default))
      either false h = unfold class_if dead_class owed in omega arith

class_due : (x : Slot) (l : Label) (k : Trees) (a : Result) (around : Around) (s : State) → x.category ≡ 5 → Fits (x ∷ []) k → Paid statement around k s a →
    due around (own statement around l k s.default a).after ≤ due around s + 2 + 2 * size k
unfolding Fits
class_due x l end a around s e fits h = absurd fits
class_due x l (node c ck (node d dk r)) a around s e fits h = absurd fits.2
class_due x l (node c ck end) a around s e fits h = statement_due x l c ck around s a fits.0 e fits.1 h

node_due : (q : Slot) (l : Label) (k : Trees) (a : Result) (around : Around) (s : State) → Fits (slots_below q l.kind l.payload) k →
    Paid (role_of l) around k s a → Due (role_of l) around l k s a
node_due q l k a around s fits =
    role_case (λ r. Paid r around k s a → Due r around l k s a) l module_due
    list_due list_due list_due class
    expression_due
    (λ e. method_or (bit bit1 l) refl e)
    (λ e. field_due q l k a around s fits (14 ∶ 0) (spare_none l (spare k) (grows_property l e)) (λ d. omega (arith, property_room q l k e fits, field_decorated l (14 ∶ 0) k (property_role l e) d)))
    (λ e. field_due q l k a around s fits (13 ∶ 0) (spare_none l (spare k) (grows_accessor l e)) (λ d. omega (arith, accessor_room q l k e fits, field_decorated l (13 ∶ 0) k (accessor_role l e) d)))
    plain_due
  where
    module_due : l.kind ≡ 1 → Paid whole around k s a → Due whole around l k s a
    module_due e h = unfold Paid Due own inside entering in omega (arith, h, spare_le l (spare k))

    expression_due : l.kind ≡ 20 → Paid expression around k s a → Due expression around l k s a
    expression_due e h = unfold Paid Due own inside entering dead_class due owed in omega (arith, h, spare_le l (spare k))

    plain_due : Plain l → Paid plain around k s a → Due plain around l k s a
    plain_due n h = unfold Paid Due own kept inside entering in omega (arith, h, spare_le l (spare k))

    list_due : {n : ℕ} → l.kind ≡ n → Paid list around k s a → Due list around l k s a
    list_due e h = unfold Paid Due own inside entering in omega (arith, h, spare_le l (spare k))

    class : l.kind ≡ 4 → Paid statement around k s a → Due statement around l k s a
    class e h = unfold Due in
        let f : Fits (slot 5 l.payload ∷ []) k = unfold slots_below slots row_of lookup table row in subst (λ (n : ℕ). Fits (slots ((row_of n).below q.context l.payload)) k) e fits in
        omega (arith, class_due (slot 5 l.payload) l k a around s refl f h, spare_none l (spare k) (grows_statement l e))

    method_or : (b : Bool) → bit bit1 l ≡ b → l.kind ≡ 30 → Paid (cond b constructor method) around k s a → Due (cond b constructor method) around l k s a
    method_or true z e h = unfold Paid Due own kept inside entering in omega (arith, h, spare_le l (spare k))
    method_or false z e h = method_due q l k a around s fits e z h

visit_due : (f : Trees) (qs : List Slot) (around : Around) (s : State) → Fits qs f → due around (visit around f s).after + spare f ≤ due around s + 2 * size f
unfolding Fits visit ◌then◌ join work since spare Paid Due
visit_due end qs around s h = omega arith
visit_due (node l k r) [] around s h = absurd h
visit_due (node l k r) (q ∷ qs) around s h =
    let a : Result = visit (inside (role_of l) around k) k (entering (role_of l) s) in
    let b : Result = own (role_of l) around l k s.default a in
    omega (
      arith,
      node_due q l k a around s h.1 (visit_due k (slots_below q l.kind l.payload) (inside (role_of l) around k) (entering (role_of l) s) h.1),
      visit_due r qs around b.after h.2,
      size_node l k r,
    )

-- ---- an accepted module

-- the symbol report of an accepted module has at most a third of its words
pub report_length : (ws : List ℕ) → refusal ws ≡ 0 → 3 * length (report_words ws) ≤ length ws
unfolding report_words reported visit_words due owed outermost
report_length ws e =
    let s : State = record { next = symbolCount ws; default = none } in
    omega (
      arith,
      visit_due (module_of ws) (moduleSlot ∷ []) outermost s (module_fits ws e),
      fresh_length (module_of ws) outermost s,
      length_words (visit outermost (module_of ws) s).fresh,
      words_size ws,
    )
