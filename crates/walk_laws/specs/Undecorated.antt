-- A class without decorated members becomes the same in any class around. Assumes nothing.
use Rattle.std.specs.Prelude.{◌≡◌, true, false, List, [], ◌∷◌, ◌++◌, ℕ, zero, suc, ◌<◌, eqb, T, length, replicate}
use Rattle.std.proofs.Math.Path.{refl}
use Rattle.std.proofs.Common.{ap, sym, subst, ◌∙◌, true≢false, append_assoc, ne_eqb}
use Rattle.words.specs.Table.{lookup}
use Rattle.words.specs.Word.{bit0, bit2}
use Rattle.records.specs.Forest.{end, node}
use Rattle.records.specs.Label.{Label, Trees, is}
use Rattle.records.specs.Place.{records_at, label_at, kids_at}
use Rattle.grammar.specs.Grammar.{Slot, slot, Decorators, Element, expression, id, body, element, row, table, row_of, slots, slots_below, module'}
use Rattle.grammar.specs.WellFormed.{Allowed, Fits}
use Rattle.grammar.proofs.Children.{allowed_sole}
use Rattle.grammar.proofs.Rows.{sole_kind, allowed_row}
use Rattle.rewriting.specs.Parts.{kids_of, is_member, is_decorated_member, elements_of}
use Rattle.rewriting.specs.Visit.{Result, visit, visit_one}
use Rattle.rewriting.specs.declared.Around.{Around}
use Rattle.rewriting.specs.declared.State.{State}
use Rattle.walk_laws.specs.Rows.{visit_at, one_after}
use Rattle.walk_laws.specs.Slots.{Standing, standing_at}
use Rattle.walk_laws.specs.Single.{T_true}
use Rattle.walk_laws.specs.Roles.{no_member_lem}
use Rattle.walk_laws.specs.Kinds.{after_rest}
use Rattle.walk_laws.specs.Quiet.{quiet, Quiet, quiet_replicate, quiet_below, element_class}
use Rattle.walk_laws.specs.Around.{one_same, node_same, first_same, visit_same}
use Rattle.walk_laws.specs.ClassPlaces.{replicate_quiet, below_26}

-- no record of the row is a decorated member
unfoldable pub Undecorated : Trees → Type 0
Undecorated end = Unit {0}
Undecorated (node l k r) = (is_decorated_member l k ≡ false) × Undecorated r

-- ---- elements

unfoldable Elements : List Slot → Type 0
Elements [] = Unit {0}
Elements (q ∷ qs) = (q.category ≡ Element) × Elements qs

elements_29 : (n : ℕ) → Elements (replicate n element ++ [])
unfolding Elements
elements_29 zero = tt
elements_29 (suc n) = (refl, elements_29 n)

below_29 : (q : Slot) (p : ℕ) → slots_below q 29 p ≡ replicate p element ++ []
unfolding slots_below row_of lookup table row slots
below_29 q p = refl

element_same : (q : Slot) (a b : Around) (l : Label) (k : Trees) (s : State) → Allowed q l → q.category ≡ Element → Fits (slots_below q l.kind l.payload) k → is_decorated_member l k ≡ false →
    visit_one a l k s ≡ visit_one b l k s
element_same q a b l k s w e f n = one_same a b l k s n λ x y t. visit_same k (slots_below q l.kind l.payload) x y t f below
  where
    c : (row_of l.kind).category ≡ Element
    c = (allowed_row q l.kind l.payload w.grammar).0 ∙ e

    below : Quiet (slots_below q l.kind l.payload)
    below = quiet_below q l.kind l.payload (rw c (unfold quiet lookup in refl)) (element_class l.kind c)

elements_same : (f : Trees) (qs : List Slot) (a b : Around) (s : State) → Fits qs f → Elements qs → Undecorated f → visit a f s ≡ visit b f s
unfolding Fits Elements Undecorated
elements_same end [] a b s f g u = unfold visit in refl
elements_same end (q ∷ qs) a b s f g u = absurd f
elements_same (node l k r) [] a b s f g u = absurd f
elements_same (node l k r) (q ∷ qs) a b s f g u =
    node_same a b l k r s (element_same q a b l k s f.0 g.0 f.1 u.0) λ t. elements_same r qs a b t f.2 g.1 u.1

-- ---- the children of a class

no_body : (k : ℕ) → quiet (row_of k).category ≡ true → k ≡ 29 → ⊥
unfolding quiet row_of lookup table row
no_body k e g = true≢false (sym e ∙ ap (λ (n : ℕ). quiet (row_of n).category) g)

-- a record in front of the body
front : (q : Slot) (l : Label) (k r : Trees) → Allowed q l → T (quiet q.category) → elements_of (node l k r) ≡ elements_of r
unfolding elements_of kids_of is
front q l k r w t = rw (ne_eqb l.kind 29 (no_body l.kind (ap quiet (allowed_row q l.kind l.payload w.grammar).0 ∙ T_true (quiet q.category) t)))

body_29 : (l : Label) → Allowed body l → l.kind ≡ 29
unfolding sole_kind lookup
body_29 l w = allowed_sole body l w tt

body_elements : (l : Label) (k r : Trees) → l.kind ≡ 29 → elements_of (node l k r) ≡ k
unfolding elements_of kids_of is
body_elements l k r e = rw e

member_29 : (l : Label) → l.kind ≡ 29 → is_member l ≡ false
unfolding is_member is
member_29 l e = rw e

body_same : (q : Slot) (a b : Around) (l : Label) (k : Trees) (s : State) → l.kind ≡ 29 → Fits (slots_below q l.kind l.payload) k → Undecorated k → visit_one a l k s ≡ visit_one b l k s
body_same q a b l k s e f u =
    one_same a b l k s (no_member_lem l k (member_29 l e)) λ x y t.
    elements_same k (replicate l.payload element ++ []) x y t (subst (λ (qs : List Slot). Fits qs k) (ap (λ (n : ℕ). slots_below q n l.payload) e ∙ below_29 q l.payload) f) (elements_29 l.payload) u

-- quiet ones, and a body behind them
parts_same : (f : Trees) (qs : List Slot) (a b : Around) (s : State) → Fits (qs ++ (body ∷ [])) f → Quiet qs → Undecorated (elements_of f) → visit a f s ≡ visit b f s
unfolding Fits Quiet
parts_same end [] a b s f g u = absurd f
parts_same (node l k end) [] a b s f g u =
    let e : l.kind ≡ 29 = body_29 l f.0 in
    node_same a b l k end s (body_same body a b l k s e f.1 (subst Undecorated (body_elements l k end e) u)) λ t. unfold visit in refl
parts_same (node l k (node m j r)) [] a b s f g u = absurd f.2
parts_same end (q ∷ qs) a b s f g u = absurd f
parts_same (node l k r) (q ∷ qs) a b s f g u =
    node_same a b l k r s (first_same q a b l k s f.0 g.0 λ h x y t. visit_same k (slots_below q l.kind l.payload) x y t f.1 h)
    λ t. parts_same r qs a b t f.2 g.1 (subst Undecorated (front q l k r f.0 g.0) u)

-- in front of the body of a class with the payload p
abbrev before : ℕ → List Slot
before p = (slot Decorators 0 ∷ replicate (bit0 p) id) ++ replicate (bit2 p) expression

before_quiet : (p : ℕ) → Quiet (before p)
unfolding Quiet quiet lookup
before_quiet p = (tt, quiet_replicate (bit0 p) id (replicate (bit2 p) expression) tt (replicate_quiet (bit2 p) expression tt))

before_body : (q : Slot) (p : ℕ) → slots_below q 26 p ≡ before p ++ (body ∷ [])
before_body q p = below_26 q p ∙ sym (append_assoc (slot Decorators 0 ∷ replicate (bit0 p) id) (replicate (bit2 p) expression) (body ∷ []))

-- ---- by place

-- the state behind it
pub undecorated_same : (ws : List ℕ) → Fits (module' ∷ []) (records_at ws 0) → (at : ℕ) → at < length ws → (a b : Around) (s : State) → (label_at ws at).kind ≡ 26 →
    Undecorated (elements_of (kids_at ws at)) → (visit_at ws at 1 a s).after ≡ (visit_at ws at 1 b s).after
undecorated_same ws whole at h a b s e u =
    one_after ws a at s h ∙ rest a
    ∙ ap (λ (r : Result). r.after) (parts_same (kids_at ws at) (before l.payload) a b s (subst (λ (qs : List Slot). Fits qs (kids_at ws at)) fits t.kids) (before_quiet l.payload) u)
    ∙ sym (rest b) ∙ sym (one_after ws b at s h)
  where
    l : Label
    l = label_at ws at

    t : Standing ws at
    t = standing_at ws (module' ∷ []) whole at h

    fits : slots_below t.slot l.kind l.payload ≡ before l.payload ++ (body ∷ [])
    fits = ap (λ (n : ℕ). slots_below t.slot n l.payload) e ∙ before_body t.slot l.payload

    other : (k : ℕ) → eqb 26 k ≡ false → l.kind ≡ k → ⊥
    other k n g = true≢false (ap (λ (m : ℕ). eqb 26 m) (sym e ∙ g) ∙ n)

    rest : (x : Around) → (visit_one x l (kids_at ws at) s).after ≡ (visit x (kids_at ws at) s).after
    rest x = after_rest l x (kids_at ws at) s (other 4 refl) (other 20 refl) (other 30 refl) (other 31 refl) (other 32 refl)
