-- What one record becomes: which keep their label; and the records of a row with one slot for all. Assumes nothing.
use Rattle.std.specs.Prelude.{◌≡◌, refl, Bool, true, false, ◌&&◌, cond, List, ℕ, zero, suc, ◌<◌, eqb, T, length, replicate}
use Rattle.std.proofs.Common.{ap, sym, subst, ◌∙◌, arith, eq-eqb}
use Rattle.std.proofs.lemmas.Bool.{false≢true}
use Rattle.std.specs.declared.option.Option.{Option}
use Rattle.words.specs.Table.{lookup}
use Rattle.records.specs.Label.{Label, Origin, Trees, ◌∶◌}
use Rattle.records.specs.Place.{label_at, kids_at, end_of, end_none, end_add}
use Rattle.grammar.specs.Grammar.{Slot, Expression, Row, row, no_row, table, row_of}
use Rattle.grammar.specs.WellFormed.{Allowed}
use Rattle.grammar.proofs.Rows.{each, each_row, implied, allowed_row}
use Rattle.rewriting.specs.Parts.{Role, module', list, statement, expression, method, constructor, plain, field, role_of, tree, decorators, decorators_of, bare_method, bare_field, is_decorated_member}
use Rattle.rewriting.specs.Visit.{Result, kept, dead_class, called₁, called₂, member_if, member, own, since, work, inside, entering, visit, visit_one}
use Rattle.rewriting.specs.declared.Around.{Around}
use Rattle.rewriting.specs.declared.State.{State}
use Rattle.walk_laws.specs.Rows.{visit_at, one_here}
use Rattle.walk_laws.specs.Slots.{RowFits, row_first}

-- one record with the label l
pub record Stays (l : Label) (f : Trees) : Type 0 where
  pub below : Trees
  pub whole : f ≡ tree l below

-- ---- by role

-- the roles of which a record keeps its label
unfoldable pub keeps : Role → Bool
keeps module' = false
keeps list = false
keeps statement = false
keeps expression = true
keeps method = true
keeps constructor = true
keeps plain = true
keeps (field d) = true

stays_tree : (l : Label) (k : Trees) → Stays l (tree l k)
stays_tree l k = record { below = k; whole = refl }

member_if_stays : (b : Bool) (around : Around) (l : Label) (kids bare entries : Trees) (d : Label) (a : Result) → Stays l (member_if b around l kids bare entries d a).here
unfolding member_if called₁ called₂
member_if_stays true around l kids bare entries d a = stays_tree l _
member_if_stays false around l kids bare entries d a = stays_tree l bare

own_stays : (r : Role) (around : Around) (l : Label) (kids : Trees) (outside : Option ℕ) (a : Result) → keeps r ≡ true → Stays l (own r around l kids outside a).here
unfolding own keeps kept dead_class member
own_stays module' around l kids outside a e = absurd (false≢true e)
own_stays list around l kids outside a e = absurd (false≢true e)
own_stays statement around l kids outside a e = absurd (false≢true e)
own_stays expression around l kids outside a e = stays_tree l a.here
own_stays method around l kids outside a e = member_if_stays (around.live && is_decorated_member l kids) around l kids (bare_method a.here) (decorators_of method a.here) (13 ∶ 0) a
own_stays constructor around l kids outside a e = stays_tree l a.here
own_stays plain around l kids outside a e = stays_tree l a.here
own_stays (field d) around l kids outside a e = member_if_stays (around.live && is_decorated_member l kids) around l kids (bare_field a.here) (decorators a.here) d a

-- ---- the visit of one record

module _ (around : Around) (l : Label) (k : Trees) (s : State) where
  pub one_stays : keeps (role_of l) ≡ true → Stays l (visit_one around l k s).here
  unfolding visit_one work since
  one_stays e = own_stays (role_of l) around l k s.default (visit (inside (role_of l) around k) k (entering (role_of l) s)) e

-- ---- an expression keeps its label

unfoldable keeps_row : ℕ → Origin → ℕ → Row → Bool
keeps_row p o k r = cond (eqb r.category Expression) (keeps (role_of (record { kind = k; payload = p; from = o }))) true

pub T_true : (b : Bool) → T b → b ≡ true
T_true true t = refl
T_true false t = absurd t

pub expression_keeps : (l : Label) → (row_of l.kind).category ≡ Expression → keeps (role_of l) ≡ true
unfolding each table row no_row keeps_row keeps role_of lookup
expression_keeps l e =
    T_true _ (implied (eqb (row_of l.kind).category Expression) (keeps (role_of l)) (each_row (keeps_row l.payload l.from) tt l.kind tt) (eq-eqb (row_of l.kind).category Expression e))

pub allowed_keeps : (q : Slot) (l : Label) → q.category ≡ Expression → Allowed q l → keeps (role_of l) ≡ true
allowed_keeps q l e a = expression_keeps l ((allowed_row q l.kind l.payload a.grammar).0 ∙ e)

-- ---- by place

module _ (ws : List ℕ) where
  pub expression_stays : (at : ℕ) (q : Slot) (around : Around) (s : State) → at < length ws → q.category ≡ Expression → Allowed q (label_at ws at) →
      Stays (label_at ws at) (visit_at ws at 1 around s).here
  expression_stays at q around s h e a =
      subst (Stays (label_at ws at)) (sym (one_here ws around at s h)) (one_stays around (label_at ws at) (kids_at ws at) s (allowed_keeps q (label_at ws at) e a))

  -- the j-th of k records that stand in one slot each
  pub row_nth : (at k j : ℕ) (q : Slot) → RowFits ws at k (replicate k q) → j < k → (end_of ws at j < length ws) × Allowed q (label_at ws (end_of ws at j))
  row_nth at zero j q f h = absurd (omega arith)
  row_nth at (suc k) zero q f h =
      let g = row_first ws at k q (replicate k q) f in
      subst (λ (p : ℕ). (p < length ws) × Allowed q (label_at ws p)) (sym (end_none ws at)) (g.0, g.1)
  row_nth at (suc k) (suc j) q f h =
      let g = row_first ws at k q (replicate k q) f in
      let e : end_of ws at (suc j) ≡ end_of ws (end_of ws at 1) j = ap (end_of ws at) (omega arith) ∙ end_add ws at 1 j in
      subst (λ (p : ℕ). (p < length ws) × Allowed q (label_at ws p)) (sym e) (row_nth (end_of ws at 1) k j q g.2 (omega arith))
