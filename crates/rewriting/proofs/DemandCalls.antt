-- The calls that the members of a live class queue, and their names. Assumes nothing.
use Rattle.std.specs.Prelude.{◌≡◌, ◌&&◌, List, [], ◌∷◌, ◌++◌}
use Rattle.std.proofs.Math.Path.{refl, ap, subst}
use Rattle.std.proofs.Common.{sym, ◌∙◌, arith}
use Rattle.std.proofs.Math.Bool.{Bool, true, false}
use Rattle.std.proofs.lemmas.Bool.{false≢true}
use Rattle.std.specs.declared.option.Option.{Option}
use Rattle.std.specs.declared.option.Option.TheVariants.{None as none, Some as some}
use Prim.Native.Nat.{ℕ, ◌≤◌}
use Rattle.words.specs.Word.{bit0}
use Rattle.records.specs.Forest.{end, node, take_f, drop_f, append_f}
use Rattle.records.specs.Label.{Label, Origin, made, read, Trees, ◌∶◌, repay, is, bit}
use Rattle.rewriting.specs.Parts.{tree, change_kids, Role, module', list, statement, expression, method, constructor, plain, field, role_of, decorators, undecorate, bare_parameters, decorators_of, bare_method, bare_field, is_member, is_decorated_member, is_plain_key, first_is_plain, has_plain_key}
use Rattle.rewriting.specs.Visit.{Result, Taken, Named, Key, class_symbol, name_if, name_of, prefix, member_call, with_key, called₁, called₂, member_if, member, renamed, kept, own, work, since, signed_by, inside, entering, visit, visit_one, visit_end}
use Rattle.rewriting.specs.declared.Around.{Around}
use Rattle.rewriting.specs.declared.State.{State}
use Rattle.rewriting.specs.Demand.{Has, count_at, taken, same, AsVisited, NameIf, Name, CallIf, Calls}
use Rattle.rewriting.proofs.DemandShapes.{WasRead, Read, member_role, member_role_lem, descriptor_of, descriptor_role, element_role, role_28, NoMembers, MethodKids, FieldKids, Elements, Shape, Shaped}
use Rattle.rewriting.proofs.DemandVisits.{one_each, one_as, one_role_lem, visit_here, visit_calls, visit_after, visit_first, plain_here, Visited, one_visited, method_visited, method_each, field_each, NoCalls, no_members_visit}
use Rattle.rewriting.proofs.DemandReport.{at_from, Distinct, Agree, agree_one, agree_rest, once_rest, taken_right, report_none, member_if_own, name_default}

-- ---- the symbol of the class: of its id, or the default symbol d that it has taken

abbrev pub Chosen : Option ℕ → Option ℕ → ℕ → Type 0
Chosen (some i) d c = c ≡ i
Chosen none (some d) c = c ≡ d
Chosen none none c = Unit {0}

-- the symbol that a member's call has is the class's
taken_symbol : (id d : Option ℕ) (s : State) (c : ℕ) → s.default ≡ d → Chosen id (class_symbol id d s).after.default c → c ≡ (class_symbol id d s).symbol
unfolding class_symbol
taken_symbol (some i) d s c e h = h
taken_symbol none (some d) s c e h = subst (λ (x : Option ℕ). Chosen none x c) e h
taken_symbol none none s c e h = h

taken_back : (id d : Option ℕ) (s : State) (c : ℕ) → s.default ≡ d → Chosen id (class_symbol id d s).after.default c → Chosen id d c
unfolding class_symbol
taken_back (some i) d s c e h = h
taken_back none (some d) s c e h = subst (λ (x : Option ℕ). Chosen none x c) e h
taken_back none none s c e h = tt

-- ---- a member without its decorators

pub bare_method_lem : (d : Label) (xs : Trees) (key : Label) (ys : Trees) (ps : Label) (zs code : Trees) → d.kind ≡ 28 → is 36 key ≡ false → ps.kind ≡ 36 →
    bare_method (node d xs (node key ys (node ps zs code))) ≡ node (repay d 0) end (node key ys (node ps (bare_parameters zs) code))
unfolding bare_method undecorate change_kids is
bare_method_lem d xs key ys ps zs code e h g = rw (e, h, g)

bare_field_lem : (d : Label) (xs : Trees) (key : Label) (ys r : Trees) → d.kind ≡ 28 → bare_field (node d xs (node key ys r)) ≡ node (repay d 0) end (node key ys r)
unfolding bare_field undecorate is
bare_field_lem d xs key ys r e = rw e

second_key : (m : Label) (j bare : Trees) (d : Label) (xs : Trees) (key : Label) (ys r : Trees) → bare ≡ node d xs (node key ys r) → take_f 1 (drop_f 1 (with_key (node m j end) bare)) ≡ node m j end
unfolding with_key take_f drop_f append_f
second_key m j bare d xs key ys r e = rw e

-- ---- one member

module _ (F : List Label) (c : ℕ) (alias : Option ℕ) (ok : Trees) where
  -- what an element gives, f, stands there, but for the alias
  abbrev Standing : Label → Trees → Type 0
  Standing e f = (k : Trees) → f ≡ node e k end → Has e (renamed c alias k) ok

  -- the calls of a member l that is decorated or not
  abbrev CallOr : Bool → Label → Trees → Label → Label → Trees → Trees → Type 0
  CallOr false l entries d key kk calls = calls ≡ end
  CallOr true l entries d key kk calls = (name : Trees) × (calls ≡ member_call entries (prefix c (bit bit0 l)) name d) × NameIf F c alias ok (is_plain_key key) l key kk name

  -- a member (l, ek): bare and entries are what is left of its children visited, and their decorators
  module _ (around : Around) (l : Label) (ek bare entries : Trees) (d : Label) (a : Result) (d1 : Label) (xs : Trees) (key : Label) (kk ys r : Trees)
      (no-calls-yet : a.calls ≡ end) (shape : bare ≡ node d1 xs (node key ys r)) (plain' : has_plain_key ek ≡ is_plain_key key)
      (visited : (x : Around) × (t : State) × (ys ≡ (visit x kk t).here)) (was : WasRead key) where
    name_if_lem : (p : Bool) (s : State) → taken Key l.from F ≡ taken Key made (name_if p key ys s).fresh → Has l (renamed c alias (with_key (name_if p key ys s).key bare)) ok →
        NameIf F c alias ok p l key kk (name_if p key ys s).name
    unfolding name_if tree
    name_if_lem true s g h = refl
    name_if_lem false s g h =
        let n : ℕ = s.next in
        let mine : taken Key made ((Key ∶ n) ∷ []) ≡ some n = unfold taken is same ◌∶◌ in refl in
        (n, with_key (node (18 ∶ n) (node key ys end) end) bare, node key ys end, g ∙ mine, refl, h, second_key (18 ∶ n) (node key ys end) bare d1 xs key ys r shape, one_each key kk ys was visited)

    name_same : (s : State) → name_of (has_plain_key ek) (take_f 1 (drop_f 1 bare)) s ≡ name_if (is_plain_key key) key ys s
    unfolding name_of take_f drop_f
    name_same s = rw (plain', shape)

    member_if_step : (b : Bool) → Chosen around.id (member_if b around l ek bare entries d a).after.default c →
        (b ≡ true → taken Key l.from F ≡ taken Key made (name_of (has_plain_key ek) (take_f 1 (drop_f 1 bare)) (class_symbol around.id a.after.default a.after).after).fresh) →
        Standing l (member_if b around l ek bare entries d a).here →
        CallOr b l entries d key kk (member_if b around l ek bare entries d a).calls × Chosen around.id a.after.default c
    unfolding member_if called₁ called₂ append_f tree
    member_if_step false h g f = (no-calls-yet, h)
    member_if_step true h g f =
        let t : Taken = class_symbol around.id a.after.default a.after in
        let n : Named = name_of (has_plain_key ek) (take_f 1 (drop_f 1 bare)) t.after in
        let w : Named = name_if (is_plain_key key) key ys t.after in
        let nw : n ≡ w = name_same t.after in
        let x : Chosen around.id t.after.default c =
        subst (λ (x : Option ℕ). Chosen around.id x c) (name_default (has_plain_key ek) (take_f 1 (drop_f 1 bare)) t.after) h in
        let e : c ≡ t.symbol = taken_symbol around.id a.after.default a.after c refl x in (
          (
            w.name,
            ap (λ f. append_f f (member_call entries (prefix t.symbol (bit bit0 l)) n.name d)) no-calls-yet ∙ ap (λ x. member_call entries (prefix x (bit bit0 l)) n.name d) (sym e)
                ∙ ap (λ (y : Named). member_call entries (prefix c (bit bit0 l)) y.name d) nw,
            name_if_lem (is_plain_key key) t.after (g refl ∙ ap (λ (y : Named). taken Key made y.fresh) nw) (f (with_key w.key bare) (ap (λ (y : Named). node l (with_key y.key bare) end) nw)),
          ),
          taken_back around.id a.after.default a.after c refl x,
        )

-- ---- one element: its calls, and the symbol of the class before it

not_member : (e : Label) (ek : Trees) (r : Role) → role_of e ≡ r → member_role r ≡ false → is_decorated_member e ek ≡ false
unfolding is_decorated_member
not_member e ek r h i = rw (member_role_lem e, h, i)

live_same : (live b : Bool) → live ≡ true → (live && b) ≡ b
live_same live b e = rw e

module _ (F : List Label) (c : ℕ) (alias : Option ℕ) (ok : Trees) where
  -- CallIf, by the role
  abbrev CallBy : Bool → Role → Label → Trees → Trees → Type 0
  CallBy false r e ek calls = calls ≡ end
  CallBy true r e ek calls = (entries : Trees) × (name : Trees) × (calls ≡ member_call entries (prefix c (bit bit0 e)) name (descriptor_of r)) ×
      AsVisited (decorators_of r ek) entries × Name F c alias ok e (drop_f 1 ek) name

  call_if : (b : Bool) (e : Label) (ek calls : Trees) → CallBy b (role_of e) e ek calls → CallIf F c alias ok b e ek calls
  call_if false e ek calls h = h
  call_if true e ek calls h = (h.0, h.1, h.2 ∙ ap (member_call h.0 (prefix c (bit bit0 e)) h.1) (sym (descriptor_role e)), h.3, h.4)

  -- x: what the element gives
  abbrev Step : Role → Around → Label → Trees → State → Result → Type 0
  Step r around e ek s x = Chosen around.id x.after.default c → (member_role r ≡ true → Standing F c alias ok e x.here) →
      CallBy (is_decorated_member e ek) r e ek x.calls × Chosen around.id s.default c

  call_by : (b : Bool) (r : Role) (e : Label) (entries ek : Trees) (d key : Label) (kk calls : Trees) → CallOr F c alias ok b e entries d key kk calls → descriptor_of r ≡ d →
      AsVisited (decorators_of r ek) entries → ((name : Trees) → NameIf F c alias ok (is_plain_key key) e key kk name → Name F c alias ok e (drop_f 1 ek) name) → CallBy b r e ek calls
  call_by false r e entries ek d key kk calls h i v n = h
  call_by true r e entries ek d key kk calls h i v n = (entries, h.0, h.1 ∙ ap (member_call entries (prefix c (bit bit0 e)) h.0) (sym i), v, n h.0 h.2)

  module _ (around : Around) (live : around.live ≡ true) (e : Label) (s : State) (j : ℕ) (from : e.from ≡ read j) where
    -- what the report says of a member's key
    key_report : (ek bare entries : Trees) (d : Label) → count_at j ek ≡ 0 → (b : Bool) → b ≡ true →
        taken Key e.from F ≡ taken Key (read j) ((visit around ek s).fresh ++ (member_if b around e ek bare entries d (visit around ek s)).fresh) →
        taken Key e.from F ≡ taken Key made (name_of (has_plain_key ek) (take_f 1 (drop_f 1 bare)) (class_symbol around.id (visit around ek s).after.default (visit around ek s).after).after).fresh
    key_report ek bare entries d none' true t h =
        h ∙ taken_right Key (read j) (visit around ek s).fresh _ (report_none Key j ek around s none') ∙ member_if_own Key j around e ek bare entries d (visit around ek s) from
    key_report ek bare entries d none' false t h = absurd (false≢true t)

    method_step : (ek : Trees) → MethodKids ek → NoMembers ek → count_at j ek ≡ 0 → taken Key e.from F ≡ taken Key (read j) (one_as method around e ek s).fresh →
        Step method around e ek s (one_as method around e ek s)
    unfolding one_as work since own member signed_by inside entering member_role descriptor_of has_plain_key first_is_plain drop_f
    method_step end k q n g h f = absurd k
    method_step (node d ds end) k q n g h f = absurd k
    method_step (node d ds (node key kk end)) k q n g h f = absurd k
    method_step (node d ds (node key kk (node ps pk code))) k q n g h f =
        let ek : Trees = node d ds (node key kk (node ps pk code)) in
        let a : Result = visit around ek s in
        let z : NoCalls a s.default = no_members_visit ek around s q in
        let m = method_visited around d ds key kk ps pk code s k in
        let es : Trees = decorators_of method a.here in
        let bare : Trees = bare_method a.here in
        let b : Bool = around.live && is_decorated_member e ek in
        let shape = ap bare_method m.shape ∙ bare_method_lem d m.xs key m.key_kids ps (visit around pk m.state).here m.code k.0 k.3 k.4 in
        let r = member_if_step F c alias ok around e ek bare es (13 ∶ 0) a _ _ key kk m.key_kids _ z.calls shape refl m.key_visited k.6 b h (λ t. key_report ek bare es (13 ∶ 0) n b t g) (f refl) in (
          subst (λ (x : Bool). CallBy x method e ek (member_if b around e ek bare es (13 ∶ 0) a).calls) (live_same around.live (is_decorated_member e ek) live)
              (call_by b method e es ek (13 ∶ 0) key kk _ r.0 refl (method_each ek around s k) (λ name y. y)),
          subst (λ (x : Option ℕ). Chosen around.id x c) z.default r.1,
        )

    field_step : (w : Label) (ek : Trees) → FieldKids ek → NoMembers ek → count_at j ek ≡ 0 → taken Key e.from F ≡ taken Key (read j) (one_as (field w) around e ek s).fresh →
        Step (field w) around e ek s (one_as (field w) around e ek s)
    unfolding one_as work since own member signed_by inside entering member_role descriptor_of has_plain_key first_is_plain drop_f decorators_of
    field_step w end k q n g h f = absurd k
    field_step w (node d ds end) k q n g h f = absurd k
    field_step w (node d ds (node key kk r)) k q n g h f =
        let ek : Trees = node d ds (node key kk r) in
        let a : Result = visit around ek s in
        let z : NoCalls a s.default = no_members_visit ek around s q in
        let s1 : State = (visit_one around d ds s).after in
        let u : Visited key kk (visit_one around key kk s1).here = one_visited around key kk s1 k.2 in
        let es : Trees = decorators a.here in
        let bare : Trees = bare_field a.here in
        let b : Bool = around.live && is_decorated_member e ek in
        let shape = ap bare_field (visit_first around d ds (node key kk r) s _ (plain_here around d ds s (role_28 d k.0)) ∙ ap (node d (visit around ds s).here) (visit_first around key kk r s1 _ u.2))
        ∙ bare_field_lem d (visit around ds s).here key (visit u.0 kk u.1).here (visit around r (visit_one around key kk s1).after).here k.0 in
        let t = member_if_step F c alias ok around e ek bare es w a _ _ key kk _ _ z.calls shape refl (u.0, u.1, refl) k.3 b h (λ t. key_report ek bare es w n b t g) (f refl) in (
          subst (λ (x : Bool). CallBy x (field w) e ek (member_if b around e ek bare es w a).calls) (live_same around.live (is_decorated_member e ek) live)
              (call_by b (field w) e es ek w key kk _ t.0 refl (field_each ek around s k) (λ name y. y)),
          subst (λ (x : Option ℕ). Chosen around.id x c) z.default t.1,
        )

    -- an element that is no member
    other_step : (r : Role) (ek : Trees) (x : Result) → role_of e ≡ r → member_role r ≡ false → NoCalls x s.default → Step r around e ek s x
    other_step r ek x i m z h f =
        (subst (λ (b : Bool). CallBy b r e ek x.calls) (sym (not_member e ek r i m)) z.calls, subst (λ (y : Option ℕ). Chosen around.id y c) z.default h)

    element_step : (r : Role) (ek : Trees) → role_of e ≡ r → element_role r ≡ true → Shape r ek → count_at j ek ≡ 0 → taken Key e.from F ≡ taken Key (read j) (one_as r around e ek s).fresh →
        Step r around e ek s (one_as r around e ek s)
    element_step module' ek y i k n g = absurd (false≢true (unfold element_role in i))
    element_step list ek y i k n g =
        let z = no_members_visit ek around s k in
        other_step list ek (one_as list around e ek s) y (unfold member_role in refl) (unfold one_as work since own inside entering in record { calls = z.calls; default = z.default })
    element_step statement ek y i k n g = absurd (false≢true (unfold element_role in i))
    element_step expression ek y i k n g = absurd (false≢true (unfold element_role in i))
    element_step method ek y i k n g = method_step ek k.0 k.1 n g
    element_step constructor ek y i k n g =
        let z = no_members_visit ek around s k.1 in
        other_step constructor ek (one_as constructor around e ek s) y (unfold member_role in refl) (unfold one_as work since own kept inside entering in record { calls = z.calls; default = z.default })
    element_step plain ek y i k n g = absurd (false≢true (unfold element_role in i))
    element_step (field d) ek y i k n g = field_step d ek k.0 k.1 n g

-- ---- the calls of all elements

module _ (F : List Label) (c : ℕ) (alias : Option ℕ) (ok : Trees) where
  -- the members among these elements stand there, but for the alias
  abbrev pub MembersStand : Trees → Type 0
  MembersStand end = Unit {0}
  MembersStand (node e k r) = (is_member e ≡ true → Has e (renamed c alias k) ok) × MembersStand r

  stand_rest : (f g : Trees) → MembersStand (append_f f g) → MembersStand g
  unfolding append_f
  stand_rest end g h = h
  stand_rest (node e k r) g h = stand_rest r g h.1

  stand_first : (e : Label) (f g : Trees) → is_member e ≡ true → MembersStand (append_f f g) → Standing F c alias ok e f
  unfolding append_f
  stand_first e f g m h k x = (subst (λ y. MembersStand (append_f y g)) x h).0 m

  pub elements_calls : (els : Trees) (around : Around) → around.live ≡ true → Elements els → Shaped els → Read els → Distinct els → (s : State) →
      Agree F els (visit around els s).fresh → MembersStand (visit around els s).here → Chosen around.id (visit around els s).after.default c →
      Calls F c alias ok els (visit around els s).calls × Chosen around.id s.default c
  elements_calls end around live h k rd once s agree stand g =
      (ap (λ (x : Result). x.calls) (visit_end around s), subst (λ (x : Result). Chosen around.id x.after.default c) (visit_end around s) g)
  elements_calls (node e ek r) around live h k rd once s agree stand g =
      let o : Result = visit_one around e ek s in
      let t : State = o.after in
      let j : ℕ = rd.0.0 in
      let from : e.from ≡ read j = rd.0.1 in
      let st : MembersStand (append_f o.here (visit around r t).here) = subst (λ f. MembersStand f) (visit_here around e ek r s) stand in
      let i = elements_calls r around live h.1 k.2 rd.2 (once_rest F around e ek r s once agree) t (agree_rest F around e ek r s once agree) (stand_rest o.here (visit around r t).here st)
      (subst (λ (x : State). Chosen around.id x.default c) (visit_after around e ek r s) g) in
      let key : taken Key e.from F ≡ taken Key (read j) (one_as (role_of e) around e ek s).fresh =
      ap (λ (x : Origin). taken Key x F) from ∙ agree_one F around e ek r s once agree Key j from ∙ ap (λ (x : Result). taken Key (read j) x.fresh) (one_role_lem around e ek s) in
      let p : Step F c alias ok (role_of e) around e ek s o =
      subst (λ (x : Result). Step F c alias ok (role_of e) around e ek s x) (sym (one_role_lem around e ek s))
      (element_step F c alias ok around live e s j from (role_of e) ek refl h.0 k.0 (none' j from (once j)) key) in
      let q = p i.1 (λ m. stand_first e o.here (visit around r t).here (member_role_lem e ∙ m) st) in
      ((o.calls, (visit around r t).calls, visit_calls around e ek r s, call_if F c alias ok (is_decorated_member e ek) e ek o.calls q.0, i.0), q.1)
    where
      none' : (j : ℕ) → e.from ≡ read j → count_at j (node e ek r) ≤ 1 → count_at j ek ≡ 0
      none' j from h = unfold count_at in omega (arith, at_from j e from)
