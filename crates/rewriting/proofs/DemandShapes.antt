-- The records of an accepted module, as demand 3's proof uses them: what a kind is to the rewriting, and the children by that role. Assumes nothing.
use Rattle.std.specs.Prelude.{◌≡◌, Bool, ◌&&◌, ◌||◌, ℕ}
use Rattle.std.proofs.Math.Path.{refl, ap}
use Rattle.std.proofs.Common.{sym, ◌∙◌, eqb-true}
use Rattle.std.proofs.Math.Bool.{true, false, cond, not, true≢false}
use Rattle.std.proofs.lemmas.Bool.{false≢true}
use Rattle.std.proofs.Math.Dec.{eqb, leb}
use Rattle.words.specs.Table.{lookup}
use Rattle.words.specs.Word.{bit1}
use Rattle.records.specs.Forest.{end, node}
use Rattle.records.specs.Label.{Label, made, read, Trees, ◌∶◌, is, bit}
use Rattle.rewriting.specs.Parts.{is_empty, any_record, Role, module', list, statement, expression, method, constructor, plain, field, role_of, decorators, is_constructor, is_member, is_decorated_class, is_decorated, is_live, class_kids, is_refused7}
use Rattle.rewriting.proofs.Roles.{role_case}
use Rattle.rewriting.specs.Demand.{is_list}
use Rattle.rewriting.specs.DemandGrammar.{is_expression, is_key, is_element, is_outside, all, begins, ends_in_body, of_method, of_field, child_rows, fits, is_misplaced}

-- ---- Bool

pub and_left : (a b : Bool) → (a && b) ≡ true → a ≡ true
and_left true b e = refl
and_left false b e = e

pub and_right : (a b : Bool) → (a && b) ≡ true → b ≡ true
and_right true b e = e
and_right false b e = absurd (false≢true e)

or_left : (a b : Bool) → (a || b) ≡ false → a ≡ false
or_left true b e = absurd (true≢false e)
or_left false b e = refl

or_right : (a b : Bool) → (a || b) ≡ false → b ≡ false
or_right true b e = absurd (true≢false e)
or_right false b e = e

not_false : (a : Bool) → not a ≡ false → a ≡ true
not_false true e = refl
not_false false e = absurd (true≢false e)

-- ---- kinds

-- a record of a kind a is of no other kind b
pub is_other : (a b : ℕ) (l : Label) → eqb a b ≡ false → is a l ≡ true → is b l ≡ false
unfolding is
is_other a b l h e = ap (λ n. eqb n b) (eqb-true l.kind a e) ∙ h

pub is_kind : (a : ℕ) (l : Label) → is a l ≡ true → l.kind ≡ a
unfolding is
is_kind a l e = eqb-true l.kind a e

-- a test on kinds that the record passes and a doesn't
pub not_kind : (t : ℕ → Bool) (a : ℕ) (l : Label) → t l.kind ≡ true → t a ≡ false → is a l ≡ false
not_kind t a l h g = go (is a l) refl
  where
    go : (b : Bool) → is a l ≡ b → b ≡ false
    go true e = absurd (true≢false (sym h ∙ ap t (is_kind a l e) ∙ g))
    go false e = refl

-- ---- roles

either : (P : Role → Type 0) (b : Bool) → (b ≡ true → P constructor) → (b ≡ false → P method) → P (cond b constructor method)
either P true h g = h refl
either P false h g = g refl

-- what holds of a record's role, by its kind
pub by_kind : (l : Label) (P : Role → Type 0) →
    (l.kind ≡ 1 → P module') → (l.kind ≡ 3 → P list) → (l.kind ≡ 33 → P list) → (l.kind ≡ 39 → P list) →
    (l.kind ≡ 4 → P statement) → (l.kind ≡ 20 → P expression) → (l.kind ≡ 30 → bit bit1 l ≡ true → P constructor) → (l.kind ≡ 30 → bit bit1 l ≡ false → P method) →
    (l.kind ≡ 31 → P (field (14 ∶ 0))) → (l.kind ≡ 32 → P (field (13 ∶ 0))) →
    (is 1 l ≡ false → is 3 l ≡ false → is 33 l ≡ false → is 39 l ≡ false → is 4 l ≡ false → is 20 l ≡ false →
    is 30 l ≡ false → is 31 l ≡ false → is 32 l ≡ false → P plain) → P (role_of l)
unfolding is
by_kind l P a b c d e f g h i j k =
    role_case P l a b c d e f (λ x. either P (bit bit1 l) (g x) (h x)) i j
    (λ n. k n.not1 n.not3 n.not33 n.not39 n.not4 n.not20 n.not30 n.not31 n.not32)

unfoldable pub list_role : Role → Bool
list_role module' = true
list_role list = true
list_role statement = false
list_role expression = false
list_role method = false
list_role constructor = false
list_role plain = false
list_role (field d) = false

unfoldable pub module_role : Role → Bool
module_role module' = true
module_role list = false
module_role statement = false
module_role expression = false
module_role method = false
module_role constructor = false
module_role plain = false
module_role (field d) = false

unfoldable pub member_role : Role → Bool
member_role module' = false
member_role list = false
member_role statement = false
member_role expression = false
member_role method = true
member_role constructor = false
member_role plain = false
member_role (field d) = true

unfoldable pub method_role : Role → Bool
method_role module' = false
method_role list = false
method_role statement = false
method_role expression = false
method_role method = true
method_role constructor = true
method_role plain = false
method_role (field d) = false

unfoldable pub statement_role : Role → Bool
statement_role module' = false
statement_role list = false
statement_role statement = true
statement_role expression = false
statement_role method = false
statement_role constructor = false
statement_role plain = false
statement_role (field d) = false

-- a record that keeps its word and gives one record: an expression, a key, a 28, ..
unfoldable pub one_role : Role → Bool
one_role module' = false
one_role list = false
one_role statement = false
one_role expression = true
one_role method = false
one_role constructor = false
one_role plain = true
one_role (field d) = false

unfoldable pub element_role : Role → Bool
element_role module' = false
element_role list = true
element_role statement = false
element_role expression = false
element_role method = true
element_role constructor = true
element_role plain = false
element_role (field d) = true

unfoldable pub descriptor_of : Role → Label
descriptor_of module' = 13 ∶ 0
descriptor_of list = 13 ∶ 0
descriptor_of statement = 13 ∶ 0
descriptor_of expression = 13 ∶ 0
descriptor_of method = 13 ∶ 0
descriptor_of constructor = 13 ∶ 0
descriptor_of plain = 13 ∶ 0
descriptor_of (field d) = d

list_role_lem : (l : Label) → is_list l ≡ list_role (role_of l)
unfolding is_list is list_role
list_role_lem l =
    by_kind l (λ r. is_list l ≡ list_role r) (λ e. rw e) (λ e. rw e) (λ e. rw e) (λ e. rw e) (λ e. rw e) (λ e. rw e)
    (λ e b. rw e) (λ e b. rw e) (λ e. rw e) (λ e. rw e) (λ a b c d e f g h i. rw (a, b, c, d))

pub module_role_lem : (l : Label) → is 1 l ≡ module_role (role_of l)
unfolding is module_role
module_role_lem l =
    by_kind l (λ r. is 1 l ≡ module_role r) (λ e. rw e) (λ e. rw e) (λ e. rw e) (λ e. rw e) (λ e. rw e) (λ e. rw e)
    (λ e b. rw e) (λ e b. rw e) (λ e. rw e) (λ e. rw e) (λ a b c d e f g h i. a)

pub statement_role_lem : (l : Label) → is 4 l ≡ statement_role (role_of l)
unfolding is statement_role
statement_role_lem l =
    by_kind l (λ r. is 4 l ≡ statement_role r) (λ e. rw e) (λ e. rw e) (λ e. rw e) (λ e. rw e) (λ e. rw e) (λ e. rw e)
    (λ e b. rw e) (λ e b. rw e) (λ e. rw e) (λ e. rw e) (λ a b c d e f g h i. e)

pub method_role_lem : (l : Label) → is 30 l ≡ method_role (role_of l)
unfolding is method_role
method_role_lem l =
    by_kind l (λ r. is 30 l ≡ method_role r) (λ e. rw e) (λ e. rw e) (λ e. rw e) (λ e. rw e) (λ e. rw e) (λ e. rw e)
    (λ e b. rw e) (λ e b. rw e) (λ e. rw e) (λ e. rw e) (λ a b c d e f g h i. g)

pub member_role_lem : (l : Label) → is_member l ≡ member_role (role_of l)
unfolding is_member is member_role bit
member_role_lem l =
    by_kind l (λ r. is_member l ≡ member_role r) (λ e. rw e) (λ e. rw e) (λ e. rw e) (λ e. rw e) (λ e. rw e) (λ e. rw e)
    (λ e b. rw (e, b)) (λ e b. rw (e, b)) (λ e. rw e) (λ e. rw e) (λ a b c d e f g h i. rw (g, h, i))

pub descriptor_role : (l : Label) → cond (is 31 l) (14 ∶ 0) (13 ∶ 0) ≡ descriptor_of (role_of l)
unfolding is descriptor_of
descriptor_role l =
    by_kind l (λ r. cond (is 31 l) (14 ∶ 0) (13 ∶ 0) ≡ descriptor_of r) (λ e. rw e) (λ e. rw e) (λ e. rw e) (λ e. rw e) (λ e. rw e) (λ e. rw e)
    (λ e b. rw e) (λ e b. rw e) (λ e. rw e) (λ e. rw e) (λ a b c d e f g h i. rw h)

pub descriptor_made : (l : Label) → (descriptor_of (role_of l)).from ≡ made
unfolding descriptor_of ◌∶◌
descriptor_made l =
    by_kind l (λ r. (descriptor_of r).from ≡ made) (λ e. refl) (λ e. refl) (λ e. refl) (λ e. refl) (λ e. refl) (λ e. refl)
    (λ e b. refl) (λ e b. refl) (λ e. refl) (λ e. refl) (λ a b c d e f g h i. refl)

pub role_constructor : (l : Label) → is_constructor l ≡ true → role_of l ≡ constructor
unfolding is_constructor role_of lookup bit
role_constructor l e = rw (is_kind 30 l (and_left (is 30 l) (bit bit1 l) e), and_right (is 30 l) (bit bit1 l) e)

pub statement_kind : (l : Label) → role_of l ≡ statement → l.kind ≡ 4
unfolding statement_role
statement_kind l e = is_kind 4 l (statement_role_lem l ∙ ap statement_role e)

pub list_same : (l m : Label) → m.kind ≡ l.kind → is_list m ≡ is_list l
unfolding is_list is
list_same l m e = rw e

-- no list of statements
abbrev pub NoList : Label → Type 0
NoList l = is_list l ≡ false

pub no_list : (l : Label) (r : Role) → role_of l ≡ r → list_role r ≡ false → NoList l
no_list l r e h = list_role_lem l ∙ ap list_role e ∙ h

pub no_plain : (l : Label) → role_of l ≡ plain → NoList l
unfolding list_role
no_plain l e = no_list l plain e refl

abbrev pub NoLists : Trees → Type 0
NoLists end = Unit {0}
NoLists (node l k r) = NoList l × NoLists r

-- the roles of single kinds
module _ (l : Label) where
  pub role_26 : l.kind ≡ 26 → role_of l ≡ plain
  unfolding role_of lookup
  role_26 e = rw e

  pub role_28 : l.kind ≡ 28 → role_of l ≡ plain
  unfolding role_of lookup
  role_28 e = rw e

  pub role_29 : l.kind ≡ 29 → role_of l ≡ plain
  unfolding role_of lookup
  role_29 e = rw e

  pub role_36 : l.kind ≡ 36 → role_of l ≡ plain
  unfolding role_of lookup
  role_36 e = rw e

  pub role_37 : l.kind ≡ 37 → role_of l ≡ plain
  unfolding role_of lookup
  role_37 e = rw e

-- ---- every word of a forest was read

abbrev pub WasRead : Label → Type 0
WasRead l = (i : ℕ) × (l.from ≡ read i)

abbrev pub Read : Trees → Type 0
Read end = Unit {0}
Read (node l k r) = WasRead l × Read k × Read r

-- ---- the children of a record, by its role

-- members stand in bodies of classes: none here, but in a class that stands here itself
abbrev pub NoMembersAs : Role → Type 0 → Type 0
NoMembersAs module' q = q
NoMembersAs list q = q
NoMembersAs statement q = Unit {0}
NoMembersAs expression q = Unit {0}
NoMembersAs method q = ⊥
NoMembersAs constructor q = q
NoMembersAs plain q = q
NoMembersAs (field d) q = ⊥

abbrev pub NoMembers : Trees → Type 0
NoMembers end = Unit {0}
NoMembers (node l k r) = NoMembersAs (role_of l) (NoMembers k) × NoMembers r

abbrev pub Exprs : Trees → Type 0
Exprs end = Unit {0}
Exprs (node l k r) = (one_role (role_of l) ≡ true) × WasRead l × Exprs r

-- children that begin with a 28 of expressions
abbrev pub Head : Trees → Type 0
Head end = ⊥
Head (node d ds r) = (d.kind ≡ 28) × Exprs ds

-- the children of a 36
abbrev pub Params : Trees → Type 0
Params end = Unit {0}
Params (node p pk r) = (p.kind ≡ 37) × Head pk × Params r

-- the children of a method or constructor: 28, key, 36, code; of a field: 28, key, value
abbrev pub MethodKids : Trees → Type 0
MethodKids end = ⊥
MethodKids (node d ds end) = ⊥
MethodKids (node d ds (node key kk end)) = ⊥
MethodKids (node d ds (node key kk (node ps pk code))) =
    (d.kind ≡ 28) × Exprs ds × (one_role (role_of key) ≡ true) × (is 36 key ≡ false) × (ps.kind ≡ 36) × Params pk × WasRead key

abbrev pub FieldKids : Trees → Type 0
FieldKids end = ⊥
FieldKids (node d ds end) = ⊥
FieldKids (node d ds (node key kk r)) = (d.kind ≡ 28) × Exprs ds × (one_role (role_of key) ≡ true) × WasRead key

-- the elements of a body
abbrev pub Elements : Trees → Type 0
Elements end = Unit {0}
Elements (node e ek r) = (element_role (role_of e) ≡ true) × Elements r

-- the children of a class behind its 28: the id and the heritage, then the 29
abbrev pub BodyLast : Trees → Type 0
BodyLast end = ⊥
BodyLast (node b els end) = (b.kind ≡ 29) × Elements els
BodyLast (node m mk (node x xk r)) = (one_role (role_of m) ≡ true) × (is 29 m ≡ false) × NoMembers (node m mk end) × BodyLast (node x xk r)

abbrev pub ClassKids : Trees → Type 0
ClassKids end = ⊥
ClassKids (node d ds more) = (d.kind ≡ 28) × Exprs ds × NoMembers ds × BodyLast more

-- the child of a class statement: one class
abbrev pub ClassOnly : Trees → Type 0
ClassOnly end = ⊥
ClassOnly (node c ck end) = (c.kind ≡ 26) × ClassKids ck
ClassOnly (node c ck (node x y z)) = ⊥

-- the first child of a module
abbrev pub ModuleKids : Trees → Type 0
ModuleKids end = ⊥
ModuleKids (node s sk r) = one_role (role_of s) ≡ true

-- a live class whose constructors' parameters have decorators has some of its own, or the first constructor's have (refusal 7)
abbrev pub Settled : Trees → Type 0
Settled k = is_live k ≡ true → is_decorated (class_kids k) ≡ true → is_decorated_class (class_kids k) ≡ true

-- a record's children, by what it is; a constructor's own decorators are refused by 6
abbrev pub Shape : Role → Trees → Type 0
Shape module' k = ModuleKids k
Shape list k = NoMembers k
Shape statement k = ClassOnly k × Settled k
Shape expression k = Unit {0}
Shape method k = MethodKids k × NoMembers k
Shape constructor k = MethodKids k × NoMembers k × (decorators k ≡ end)
Shape plain k = Unit {0}
Shape (field d) k = FieldKids k × NoMembers k

abbrev pub Shaped : Trees → Type 0
Shaped end = Unit {0}
Shaped (node l k r) = Shape (role_of l) k × Shaped k × Shaped r

-- ---- they follow from the grammar

-- what is known of each record
abbrev pub Fit : Trees → Type 0
Fit end = Unit {0}
Fit (node l k r) = (fits l k ≡ true) × (is_refused7 l k ≡ false) × Fit k × Fit r

pub fit : (f : Trees) → any_record is_misplaced f ≡ false → any_record is_refused7 f ≡ false → Fit f
unfolding any_record is_misplaced
fit end g s = tt
fit (node l k r) g s =
    let gl = or_left (is_misplaced l k || any_record is_misplaced k) (any_record is_misplaced r) g in
    let sl = or_left (is_refused7 l k || any_record is_refused7 k) (any_record is_refused7 r) s in (
      not_false (fits l k) (or_left (is_misplaced l k) (any_record is_misplaced k) gl),
      or_left (is_refused7 l k) (any_record is_refused7 k) sl,
      fit k (or_right (is_misplaced l k) (any_record is_misplaced k) gl) (or_right (is_refused7 l k) (any_record is_refused7 k) sl),
      fit r (or_right (is_misplaced l k || any_record is_misplaced k) (any_record is_misplaced r) g) (or_right (is_refused7 l k || any_record is_refused7 k) (any_record is_refused7 r) s),
    )

-- ---- tests on kinds

pub all_map : (p q : Label → Bool) → ((l : Label) → p l ≡ true → q l ≡ true) → (f : Trees) → all p f ≡ true → all q f ≡ true
unfolding all
all_map p q h end e = refl
all_map p q h (node l k r) e = rw (h l (and_left (p l) (all p r) e), all_map p q h r (and_right (p l) (all p r) e))

module _ (l : Label) where
  -- none of the kinds that a test on kinds leaves out
  out_by : (t : ℕ → Bool) → t l.kind ≡ true → t 26 ≡ false → t 29 ≡ false → t 30 ≡ false → t 31 ≡ false → t 32 ≡ false → is_outside l ≡ true
  unfolding is_outside
  out_by t h a b c d e = rw (not_kind t 26 l h a, not_kind t 29 l h b, not_kind t 30 l h c, not_kind t 31 l h d, not_kind t 32 l h e)

  pub expression_outside : is_expression l ≡ true → is_outside l ≡ true
  unfolding is_expression
  expression_outside h = out_by (λ n. leb 8 n && leb n 25) h refl refl refl refl refl

  pub is_outside_lem : (a : ℕ) → (eqb a 26 || eqb a 29 || eqb a 30 || eqb a 31 || eqb a 32) ≡ false → is a l ≡ true → is_outside l ≡ true
  unfolding is_outside is
  is_outside_lem a h e = rw (is_kind a l e, h)

  one_by : (t : ℕ → Bool) → t l.kind ≡ true → t 1 ≡ false → t 3 ≡ false → t 33 ≡ false → t 39 ≡ false → t 4 ≡ false → t 30 ≡ false → t 31 ≡ false → t 32 ≡ false →
      one_role (role_of l) ≡ true
  unfolding one_role
  one_by t h a b c d e f g i =
      let no : (k : ℕ) → t k ≡ false → l.kind ≡ k → ⊥ = λ k n x. true≢false (sym h ∙ ap t x ∙ n) in
      by_kind l (λ r. one_role r ≡ true) (λ x. absurd (no 1 a x)) (λ x. absurd (no 3 b x)) (λ x. absurd (no 33 c x)) (λ x. absurd (no 39 d x)) (λ x. absurd (no 4 e x)) (λ x. refl)
      (λ x y. absurd (no 30 f x)) (λ x y. absurd (no 30 f x)) (λ x. absurd (no 31 g x)) (λ x. absurd (no 32 i x)) (λ a b c d e f g h i. refl)

pub one_expression_lem : (l : Label) → is_expression l ≡ true → one_role (role_of l) ≡ true
unfolding is_expression
one_expression_lem l h = one_by l (λ n. leb 8 n && leb n 25) h refl refl refl refl refl refl refl refl

pub or_cases : (a b : Bool) (Q : Type 0) → (a ≡ true → Q) → (b ≡ true → Q) → (a || b) ≡ true → Q
or_cases true b Q h g e = h refl
or_cases false b Q h g e = g e

-- of the kind a
pub one_kind : (l : Label) (a : ℕ) → is a l ≡ true → eqb 1 a ≡ false → eqb 3 a ≡ false → eqb 33 a ≡ false → eqb 39 a ≡ false → eqb 4 a ≡ false → eqb 30 a ≡ false → eqb 31 a ≡ false →
    eqb 32 a ≡ false → one_role (role_of l) ≡ true
unfolding is
one_kind l a h = one_by l (λ n. eqb n a) h

pub key_cases : (l : Label) (Q : Type 0) → (is_expression l ≡ true → Q) → (is 34 l ≡ true → Q) → (is 35 l ≡ true → Q) → is_key l ≡ true → Q
unfolding is_key
key_cases l Q a b c = or_cases (is_expression l || is 34 l) (is 35 l) Q (or_cases (is_expression l) (is 34 l) Q a b) c

pub one_key : (l : Label) → is_key l ≡ true → one_role (role_of l) ≡ true
one_key l =
    key_cases l (one_role (role_of l) ≡ true) (one_expression_lem l) (λ e. one_kind l 34 e refl refl refl refl refl refl refl refl) (λ e. one_kind l 35 e refl refl refl refl refl refl refl refl)

pub key_36 : (l : Label) → is_key l ≡ true → is 36 l ≡ false
unfolding is_expression
key_36 l = key_cases l (is 36 l ≡ false) (λ e. not_kind (λ n. leb 8 n && leb n 25) 36 l e refl) (is_other 34 36 l refl) (is_other 35 36 l refl)

pub key_outside : (l : Label) → is_key l ≡ true → is_outside l ≡ true
key_outside l = key_cases l (is_outside l ≡ true) (expression_outside l) (is_outside_lem l 34 refl) (is_outside_lem l 35 refl)

pub element_role_lem : (l : Label) → is_element l ≡ true → element_role (role_of l) ≡ true
unfolding is_element is element_role
element_role_lem l h =
    let no : (k : ℕ) → (eqb k 30 || eqb k 31 || eqb k 32 || eqb k 33) ≡ false → l.kind ≡ k → ⊥ = λ k n x. true≢false (sym h ∙ ap (λ m. eqb m 30 || eqb m 31 || eqb m 32 || eqb m 33) x ∙ n) in
    by_kind l (λ r. element_role r ≡ true) (λ x. absurd (no 1 refl x)) (λ x. absurd (no 3 refl x)) (λ x. refl) (λ x. absurd (no 39 refl x)) (λ x. absurd (no 4 refl x)) (λ x. absurd (no 20 refl x))
    (λ x y. refl) (λ x y. refl) (λ x. refl) (λ x. refl) (λ a b c d e f g i j. absurd (true≢false (sym h ∙ rw (g, i, j, c))))

-- ---- the children that the table gives a kind

module _ (l : Label) (k : Trees) (h : fits l k ≡ true) where
  pub fit_1 : l.kind ≡ 1 → begins (is 40) (all is_outside) k ≡ true
  unfolding fits child_rows lookup
  fit_1 e = rw e at h

  pub fit_3 : l.kind ≡ 3 → all is_outside k ≡ true
  unfolding fits child_rows lookup
  fit_3 e = rw e at h

  pub fit_33 : l.kind ≡ 33 → all is_outside k ≡ true
  unfolding fits child_rows lookup
  fit_33 e = rw e at h

  pub fit_39 : l.kind ≡ 39 → all is_outside k ≡ true
  unfolding fits child_rows lookup
  fit_39 e = rw e at h

  pub fit_4 : l.kind ≡ 4 → begins (is 26) is_empty k ≡ true
  unfolding fits child_rows lookup
  fit_4 e = rw e at h

  pub fit_26 : l.kind ≡ 26 → begins (is 28) ends_in_body k ≡ true
  unfolding fits child_rows lookup
  fit_26 e = rw e at h

  pub fit_28 : l.kind ≡ 28 → all is_expression k ≡ true
  unfolding fits child_rows lookup
  fit_28 e = rw e at h

  pub fit_29 : l.kind ≡ 29 → all is_element k ≡ true
  unfolding fits child_rows lookup
  fit_29 e = rw e at h

  pub fit_30 : l.kind ≡ 30 → (of_method k && (not (bit bit1 l) || is_empty (decorators k))) ≡ true
  unfolding fits child_rows lookup bit
  fit_30 e = rw e at h

  pub fit_31 : l.kind ≡ 31 → of_field k ≡ true
  unfolding fits child_rows lookup
  fit_31 e = rw e at h

  pub fit_32 : l.kind ≡ 32 → of_field k ≡ true
  unfolding fits child_rows lookup
  fit_32 e = rw e at h

  pub fit_36 : l.kind ≡ 36 → all (is 37) k ≡ true
  unfolding fits child_rows lookup
  fit_36 e = rw e at h

  pub fit_37 : l.kind ≡ 37 → begins (is 28) (all is_outside) k ≡ true
  unfolding fits child_rows lookup
  fit_37 e = rw e at h

pub begins_outside : (p : Label → Bool) (q : Trees → Bool) → ((l : Label) → p l ≡ true → is_outside l ≡ true) → ((f : Trees) → q f ≡ true → all is_outside f ≡ true) →
    (f : Trees) → begins p q f ≡ true → all is_outside f ≡ true
unfolding begins all
begins_outside p q h g end e = refl
begins_outside p q h g (node l k r) e = rw (h l (and_left (p l) (q r) e), g r (and_right (p l) (q r) e))
