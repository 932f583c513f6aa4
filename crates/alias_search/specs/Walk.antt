-- The search by reader: the laws of its loops over the records that a reader has left, and of its steps into a record. Assumes nothing.
use Rattle.std.specs.Prelude.{◌≡◌, Bool, ◌&&◌, ◌||◌, not, cond, List, [], eqb, length}
use Rattle.std.proofs.Math.Path.{refl, ap, sym}
use Rattle.std.proofs.Common.{◌∙◌, arith}
use Rattle.std.proofs.Math.Bool.{true, false, or-false}
use Rattle.std.specs.Option.{option_eq}
use Rattle.std.specs.declared.option.Option.{Option}
use Rattle.std.specs.declared.option.Option.TheVariants.{None as none, Some as some}
use Prim.Native.Nat.{ℕ, zero, suc, ◌+◌, ◌-◌, ◌<◌, ◌≤◌}
use borrow.Author.Tests.{eq-eqb, ne_eqb, eqb-true, eqb-false}
use Rattle.words.specs.Table.{lookup}
use Rattle.words.specs.Kinds.{named, number_other}
use Rattle.words.specs.declared.kinds.Kind.{Kind}
use Rattle.words.specs.declared.kinds.Kind.TheVariants.{ClassStatement, Identifier, Assignment, Method, Property, AbstractAccessor}
use Rattle.words.specs.Word.{bit1}
use Rattle.records.specs.Forest.{end, node, take_f}
use Rattle.records.specs.Label.{Label, Trees, is, bit}
use Rattle.records.specs.Place.{records_at, label_at, kids_at, end_of, record_one, records_first, records_past}
use Rattle.rewriting.specs.Parts.{Role, module', statement, method, constructor, role_of, is_constructor, is_decorated_member, parameters_of, elements_of, id_of, has_private_in, is_decorated, is_live, class_kids}
use Rattle.rewriting.specs.Visit.{is_ref}
use Rattle.inspect.specs.Row.{any_row, count_row, count_none, count_some, by_end, true_false}
use Rattle.inspect.specs.Child.{kind_within}
use Rattle.inspect.specs.Class.{count_called, class_row, class_kids_lem, live_past}
use Rattle.inspect.specs.Reads.{Reads, Step, left, rest, reads_rest, step_rest, step_low, rest_none}
use Rattle.inspect.specs.declared.reading.Reader.{Reader}
use Rattle.alias_search.specs.Mentions.{Mode, whole, gone, lead, until, each, elements, behind, within, searched, seek_lead, of_field, of_method, of_elements, of_class, is_symbol, names, mentions_word, mode_of, inner, mentions_by, mentions_record, mentions}
use Rattle.alias_search.specs.Shown.{and_left}
use Rattle.alias_search.specs.Roles.{role_at, role_kind, others}
use Rattle.alias_search.specs.Read.{mentions_node, mentions_end, mentions_gone, kept_mode}

-- a row without its first record, if that is a 28
unfoldable pub but_28 : Trees → Trees
but_28 end = end
but_28 (node l k r) = cond (is 28 l) r (node l k r)

-- the first record of a row that is searched in a mode
unfoldable pub part : ℕ → Mode → Label → Trees → Bool
part c x l kids = (searched x && mentions_word c l kids) || mentions_by c (within (inner c) x l kids) kids

pub mentions_first : (c : ℕ) (x : Mode) (l : Label) (k r : Trees) → mentions_by c x (node l k r) ≡ (part c x l k || mentions_by c (behind x l) r)
unfolding part
mentions_first c x l k r = mentions_node c x l k r

-- ---- a loop over the records that the reader r has left: the ones passed hold nothing, and s has the others left

pub record Left (c : ℕ) (x : Mode) (r s : Reader) : Type 0 where
  pub words : s.words.now ≡ r.words.now
  pub low : r.at ≤ s.at
  pub same : mentions_by c x (rest r) ≡ mentions_by c x (rest s)

module _ (c : ℕ) (x : Mode) where
  module _ {r s : Reader} (a : Left c x r s) where
    module _ {q : ℕ} {t : Reader} (p : Step s q t) where
      -- the next record and what follows it
      pub left_split : mentions_by c x (rest r) ≡ (part c x (label_at r.words.now q) (kids_at r.words.now q) || mentions_by c (behind x (label_at r.words.now q)) (rest t))
      left_split =
          let row : rest s ≡ node (label_at r.words.now q) (kids_at r.words.now q) (rest t) = rw (p.words, ← a.words) (step_rest p) in
          a.same ∙ ap (mentions_by c x) row ∙ mentions_first c x (label_at r.words.now q) (kids_at r.words.now q) (rest t)

      -- it holds what is looked for
      pub left_hit : part c x (label_at r.words.now q) (kids_at r.words.now q) ≡ true → mentions_by c x (rest r) ≡ true
      left_hit e = left_split ∙ rw e

      -- it doesn't
      pub left_next : part c x (label_at r.words.now q) (kids_at r.words.now q) ≡ false → behind x (label_at r.words.now q) ≡ x → Left c x r t
      left_next e b = record { words = p.words ∙ a.words; low = omega (arith, a.low, p.place, step_low p); same = left_split ∙ rw (e, b) }

    -- no record is left
    pub left_end : left s ≡ [] → mentions_by c x (rest r) ≡ false
    left_end e = a.same ∙ ap (mentions_by c x) (rest_none s e) ∙ mentions_end c x

-- what a reader reads
module _ (c : ℕ) {r : Reader} {ws : List ℕ} {f : Trees} (e : Reads r ws f) where
  pub by_reads : (x : Mode) → mentions_by c x (rest r) ≡ mentions_by c x f
  by_reads x = ap (mentions_by c x) (reads_rest e)

  pub all_reads : mentions c (rest r) ≡ mentions_by c whole f
  unfolding mentions
  all_reads = by_reads whole

-- ---- a record's own part, by mode

module _ (c : ℕ) (l : Label) (k : Trees) where
  pub whole_part : part c whole l k ≡ mentions_record c l k
  unfolding part mentions_record searched within
  whole_part = refl

  pub each_part : (x : Mode) → part c (each x) l k ≡ (mentions_word c l k || mentions_by c x k)
  unfolding part searched within
  each_part x = refl

  pub is_not : (n : ℕ) → (l.kind ≡ n → ⊥) → is n l ≡ false
  unfolding is
  is_not n h = ne_eqb l.kind n h

  pub is_yes : (n : ℕ) → l.kind ≡ n → is n l ≡ true
  unfolding is
  is_yes n h = eq-eqb l.kind n h

  -- neither a 9 or 18 nor a class statement
  pub word_apart : (l.kind ≡ 9 → ⊥) → (l.kind ≡ 18 → ⊥) → (l.kind ≡ 4 → ⊥) → mentions_word c l k ≡ false
  unfolding mentions_word is_ref
  word_apart a b d = rw (is_not 9 a, is_not 18 b, is_not 4 d)

  -- where the answer is none of the three kinds
  pub no_word : {o : Option Kind} → o ≡ named l.kind → (o ≡ some Identifier → ⊥) → (o ≡ some Assignment → ⊥) → (o ≡ some ClassStatement → ⊥) → mentions_word c l k ≡ false
  no_word n a b d = word_apart (number_other Identifier n a) (number_other Assignment n b) (number_other ClassStatement n d)

  -- before the first record of a kind, and at it
  pub until_other : (n : ℕ) → (l.kind ≡ n → ⊥) → (part c (until n gone) l k ≡ mentions_record c l k) × (behind (until n gone) l ≡ until n gone)
  unfolding part mentions_record searched within behind
  until_other n h = (rw (is_not n h), rw (is_not n h))

  pub until_here : (n : ℕ) → 18 < n → l.kind ≡ n → (part c (until n gone) l k ≡ false) × (behind (until n gone) l ≡ whole)
  unfolding part searched within behind
  until_here n g h = (rw (is_yes n h, word_apart (λ e. omega arith) (λ e. omega arith) (λ e. omega arith)) (mentions_gone c k), rw (is_yes n h))

  -- at a first child, by whether it is a 28
  lead_not : (x y : Mode) → searched y ≡ true → (l.kind ≡ 28 → ⊥) → (part c (lead x y) l k ≡ part c y l k) × (behind (lead x y) l ≡ behind y l)
  unfolding part searched within behind
  lead_not x y e h = (rw (e, is_not 28 h), rw (is_not 28 h))

  lead_yes : (x y : Mode) → l.kind ≡ 28 → (part c (lead x y) l k ≡ mentions_by c x k) × (behind (lead x y) l ≡ y)
  unfolding part searched within behind
  lead_yes x y h = (rw (is_yes 28 h, word_apart (λ e. omega arith) (λ e. omega arith) (λ e. omega arith)), rw (is_yes 28 h))

  -- ---- one record

  pub record_word : mentions_word c l k ≡ true → mentions_record c l k ≡ true
  unfolding mentions_record
  record_word e = rw e

  pub record_kids : {x : Mode} → mentions_word c l k ≡ false → inner c l k ≡ x → mentions_record c l k ≡ mentions_by c x k
  unfolding mentions_record
  record_kids e h = rw (e, h)

  by_role : (r : Role) → role_of l ≡ r → inner c l k ≡ mode_of c r k
  unfolding inner
  by_role r e = ap (λ (r : Role). mode_of c r k) e

  inner_31 : l.kind ≡ 31 → inner c l k ≡ of_field
  unfolding role_at lookup mode_of
  inner_31 h = by_role _ (role_kind 31 l (is_yes 31 h))

  inner_32 : l.kind ≡ 32 → inner c l k ≡ of_field
  unfolding role_at lookup mode_of
  inner_32 h = by_role _ (role_kind 32 l (is_yes 32 h))

  pub inner_field : 30 < l.kind → l.kind < 33 → inner c l k ≡ of_field
  inner_field a b = go (eqb l.kind 31) refl
    where
      go : (t : Bool) → eqb l.kind 31 ≡ t → inner c l k ≡ of_field
      go true e = inner_31 (eqb-true l.kind 31 e)
      go false e = let n : l.kind ≡ 31 → ⊥ = eqb-false l.kind 31 e in inner_32 (omega (arith, n))

  flag_30 : l.kind ≡ 30 → bit bit1 l ≡ is_constructor l
  unfolding is_constructor
  flag_30 h = rw (is_yes 30 h)

  pub inner_constructor : l.kind ≡ 30 → is_constructor l ≡ true → inner c l k ≡ whole
  unfolding role_at lookup mode_of
  inner_constructor h e = by_role constructor (role_kind 30 l (is_yes 30 h) ∙ ap (role_at 30) (flag_30 h ∙ e))

  pub inner_method : l.kind ≡ 30 → is_constructor l ≡ false → inner c l k ≡ of_method
  unfolding role_at lookup mode_of
  inner_method h e = by_role method (role_kind 30 l (is_yes 30 h) ∙ ap (role_at 30) (flag_30 h ∙ e))

  pub inner_apart : (l.kind ≡ 4 → ⊥) → (l.kind ≡ 30 → ⊥) → (l.kind ≡ 31 → ⊥) → (l.kind ≡ 32 → ⊥) → inner c l k ≡ whole
  inner_apart a b d e = go (is 1 l) refl
    where
      go : (x : Bool) → is 1 l ≡ x → inner c l k ≡ whole
      go true h = by_role module' (role_kind 1 l h ∙ (unfold role_at lookup in refl)) ∙ (unfold mode_of in refl)
      go false h = unfold inner in kept_mode c (role_of l) k (others l h (is_not 4 a) (is_not 30 b) (is_not 31 d) (is_not 32 e))

  pub inner_other : {o : Option Kind} → o ≡ named l.kind → (o ≡ some ClassStatement → ⊥) → (o ≡ some Method → ⊥) → (o ≡ some Property → ⊥) → (o ≡ some AbstractAccessor → ⊥) → inner c l k ≡ whole
  inner_other n a b d e = inner_apart (number_other ClassStatement n a) (number_other Method n b) (number_other Property n d) (number_other AbstractAccessor n e)

  pub inner_dead : l.kind ≡ 4 → is_live k ≡ false → inner c l k ≡ whole
  unfolding role_at lookup mode_of
  inner_dead h e = by_role statement (role_kind 4 l (is_yes 4 h)) ∙ rw e

  pub inner_live : l.kind ≡ 4 → is_live k ≡ true → inner c l k ≡ each (of_class c (class_kids k))
  unfolding role_at lookup mode_of
  inner_live h e = by_role statement (role_kind 4 l (is_yes 4 h)) ∙ rw e

-- at the first record of a kind above 18, whose children aren't searched
pub until_rest : (c n : ℕ) {r s t : Reader} {q : ℕ} → Left c (until n gone) r s → Step s q t → 18 < n → (label_at r.words.now q).kind ≡ n → mentions_by c (until n gone) (rest r) ≡ mentions c (rest t)
unfolding mentions
until_rest c n {r} {s} {t} {q} a p m e =
    let b = until_here c (label_at r.words.now q) (kids_at r.words.now q) n m e in
    left_split c (until n gone) a p ∙ rw (b.0, b.1)

-- ---- a row whose first record may be a 28

-- without it
pub lead_gone : (c : ℕ) (y : Mode) (f : Trees) → searched y ≡ true → mentions_by c (lead gone y) f ≡ mentions_by c y (but_28 f)
unfolding but_28
lead_gone c y end e = mentions_end c (lead gone y) ∙ sym (mentions_end c y)
lead_gone c y (node l k r) e = mentions_first c (lead gone y) l k r ∙ go (is 28 l) refl
  where
    go : (b : Bool) → is 28 l ≡ b → (part c (lead gone y) l k || mentions_by c (behind (lead gone y) l) r) ≡ mentions_by c y (cond b r (node l k r))
    go true h = let b = lead_yes c l k gone y (eqb-true l.kind 28 (unfold is in h)) in rw (b.0, b.1) (ap (◌|| mentions_by c y r) (mentions_gone c k))
    go false h = let b = lead_not c l k gone y e (eqb-false l.kind 28 (unfold is in h)) in rw (b.0, b.1) (sym (mentions_first c y l k r))

pub field_kids : (c : ℕ) (f : Trees) → mentions_by c of_field f ≡ mentions_by c whole (but_28 f)
field_kids c f = lead_gone c whole f (unfold searched in refl)

-- with it
pub lead_whole : (c n : ℕ) (f : Trees) → eqb 28 n ≡ false → mentions_by c (lead whole (until n gone)) f ≡ mentions_by c (until n gone) f
unfolding searched
lead_whole c n end e = mentions_end c (lead whole (until n gone)) ∙ sym (mentions_end c (until n gone))
lead_whole c n (node l k r) e = mentions_first c (lead whole (until n gone)) l k r ∙ go (is 28 l) refl ∙ sym (mentions_first c (until n gone) l k r)
  where
    go : (b : Bool) → is 28 l ≡ b →
        (part c (lead whole (until n gone)) l k || mentions_by c (behind (lead whole (until n gone)) l) r) ≡ (part c (until n gone) l k || mentions_by c (behind (until n gone) l) r)
    go true h =
        let is28 : l.kind ≡ 28 = eqb-true l.kind 28 (unfold is in h) in
        let other : l.kind ≡ n → ⊥ = λ m. eqb-false 28 n e (sym is28 ∙ m) in
        let b = lead_yes c l k whole (until n gone) is28 in
        let u = until_other c l k n other in
        let word : mentions_word c l k ≡ false = word_apart c l k (λ e. omega arith) (λ e. omega arith) (λ e. omega arith) in
        let kids : inner c l k ≡ whole = inner_apart c l k (λ e. omega arith) (λ e. omega arith) (λ e. omega arith) (λ e. omega arith) in
        rw (b.0, b.1, u.0, u.1) (ap (◌|| mentions_by c (until n gone) r) (sym (record_kids c l k word kids)))
    go false h = let b = lead_not c l k whole (until n gone) refl (eqb-false l.kind 28 (unfold is in h)) in rw (b.0, b.1)

module _ (ws : List ℕ) (at : ℕ) where
  but_28_row : (n : ℕ) → (label_at ws at).kind ≡ 28 → but_28 (take_f n (records_at ws at)) ≡ take_f (n - 1) (records_at ws (end_of ws at 1))
  unfolding but_28 take_f
  but_28_row zero k = refl
  but_28_row (suc n) k =
      let one : suc n - 1 ≡ n = omega arith in
      ap but_28 (records_first ws at n (kind_within ws at 27 k)) ∙ rw (is_yes 0 (label_at ws at) end 28 k, one)

  but_28_none : (n : ℕ) → ((label_at ws at).kind ≡ 28 → ⊥) → but_28 (take_f n (records_at ws at)) ≡ take_f n (records_at ws at)
  unfolding but_28 take_f
  but_28_none zero h = refl
  but_28_none (suc n) h = by_end ws at
      (λ l. ap but_28 (records_first ws at n l) ∙ rw (is_not 0 (label_at ws at) end 28 h) (sym (records_first ws at n l)))
      (λ l. rw (records_past ws at l))

module _ {ws : List ℕ} {f : Trees} {r : Reader} (a : Reads r ws f) where
  -- the reader behind it
  pub reads_behind : (t : Reader) → (label_at ws r.at).kind ≡ 28 → (t.words ≡ r.words) × (t.at ≡ end_of r.words.now r.at 1) × (t.left ≡ r.left - 1) → Reads t ws (but_28 f)
  reads_behind t k b =
      let row : take_f (r.left - 1) (records_at ws (end_of ws r.at 1)) ≡ but_28 f = sym (but_28_row ws r.at r.left k) ∙ ap but_28 a.row in
      record { words = rw b.0 a.words; row = rw (b.1, b.2, a.words) row }

  -- the reader where there is none
  pub reads_here : ((label_at ws r.at).kind ≡ 28 → ⊥) → Reads r ws (but_28 f)
  reads_here h = record { words = a.words; row = sym (but_28_none ws r.at r.left h) ∙ ap but_28 a.row }

-- ---- a method's children and a class's

module _ (c : ℕ) (kids : Trees) where
  -- a method's parameters apart
  pub method_parts : mentions_by c of_method kids ≡ (mentions_by c (until 36 gone) (but_28 kids) || mentions_by c (each of_field) (parameters_of kids))
  unfolding mentions_by parameters_of
  method_parts = seek_lead (mentions_word c) (inner c) 36 gone (each of_field) kids refl ∙ ap (◌|| mentions_by c (each of_field) (parameters_of kids)) (lead_gone c (until 36 gone) kids (unfold searched in refl))

  -- a class's elements apart
  pub class_parts : mentions_by c (of_class c kids) kids
      ≡ (mentions_by c (until 29 gone) (cond (is_decorated kids && has_private_in kids) (but_28 kids) kids) || mentions_by c (of_elements (is_decorated kids) (has_private_in kids) (is_symbol c (id_of kids))) (elements_of kids))
  unfolding mentions_by of_class elements_of
  class_parts = seek_lead (mentions_word c) (inner c) 29 _ _ kids refl ∙ ap (◌|| mentions_by c (of_elements (is_decorated kids) (has_private_in kids) (is_symbol c (id_of kids))) (elements_of kids)) (go (is_decorated kids && has_private_in kids))
    where
      go : (b : Bool) → mentions_by c (lead (cond b gone whole) (until 29 gone)) kids ≡ mentions_by c (until 29 gone) (cond b (but_28 kids) kids)
      go true = lead_gone c (until 29 gone) kids (unfold searched in refl)
      go false = lead_whole c 29 kids refl

-- ---- the elements of a class, up to the first constructor

constructor_word : (c : ℕ) (l : Label) (k : Trees) → is_constructor l ≡ true → mentions_word c l k ≡ false
unfolding is_constructor is
constructor_word c l k h =
    let i : l.kind ≡ 30 = eqb-true l.kind 30 (and_left (is 30 l) (bit bit1 l) h) in
    word_apart c l k (λ e. omega arith) (λ e. omega arith) (λ e. omega arith)

module _ (c : ℕ) (y : Mode) (l : Label) (k : Trees) where
  -- a constructor, and any other element before it
  pub elements_first : is_constructor l ≡ true → (part c (elements y) l k ≡ mentions_by c y k) × (behind (elements y) l ≡ each whole)
  unfolding part searched within behind
  elements_first h = (rw (h, constructor_word c l k h), rw h)

  pub elements_other : is_constructor l ≡ false → (part c (elements y) l k ≡ part c (each whole) l k) × (behind (elements y) l ≡ elements y)
  unfolding part searched within behind
  elements_other h = (rw h, rw h)

-- the modes of a class's elements
module _ (c : ℕ) (rk : Trees) where
  pub elements_plain : is_decorated rk ≡ false → of_elements (is_decorated rk) (has_private_in rk) (is_symbol c (id_of rk)) ≡ each whole
  unfolding of_elements
  elements_plain d = rw d

  pub elements_public : is_decorated rk ≡ true → has_private_in rk ≡ false → of_elements (is_decorated rk) (has_private_in rk) (is_symbol c (id_of rk)) ≡ elements of_field
  unfolding of_elements
  elements_public d p = rw (d, p)

  pub elements_private : is_decorated rk ≡ true → has_private_in rk ≡ true → is_symbol c (id_of rk) ≡ false → of_elements (is_decorated rk) (has_private_in rk) (is_symbol c (id_of rk)) ≡ elements of_method
  unfolding of_elements
  elements_private d p n = rw (d, p, n)

  pub elements_gone : is_decorated rk ≡ true → has_private_in rk ≡ true → is_symbol c (id_of rk) ≡ true → of_elements (is_decorated rk) (has_private_in rk) (is_symbol c (id_of rk)) ≡ gone
  unfolding of_elements
  elements_gone d p n = rw (d, p, n)

-- ---- a class's id

pub symbol_eq : (c : ℕ) (o : Option ℕ) → is_symbol c o ≡ option_eq eqb o (some c)
unfolding is_symbol
symbol_eq c none = refl
symbol_eq c (some d) = refl

-- a class is named in what it puts behind itself, by the number of its members' calls
module _ (c : ℕ) (rk : Trees) where
  pub names_counted : names c rk ≡ (is_symbol c (id_of rk) && (not (eqb (count_called (elements_of rk)) 0) || (is_decorated rk && not (has_private_in rk))))
  unfolding names count_called
  names_counted = rw (any_called (elements_of rk))
    where
      any_called : (f : Trees) → any_row is_decorated_member f ≡ not (eqb (count_called f) 0)
      any_called f = go (any_row is_decorated_member f) refl
        where
          go : (b : Bool) → any_row is_decorated_member f ≡ b → b ≡ not (eqb (count_called f) 0)
          go true e = let n : count_row is_decorated_member f ≡ 0 → ⊥ = λ z. absurd (omega (arith, count_some is_decorated_member f e)) in rw (ne_eqb (count_row is_decorated_member f) 0 n)
          go false e = rw (count_none is_decorated_member f e)

-- ---- a record's own word

module _ (c : ℕ) (l : Label) (k : Trees) where
  pub word_9 : l.kind ≡ 9 → mentions_word c l k ≡ eqb l.payload c
  unfolding mentions_word is_ref
  word_9 h = rw (is_yes c l k 9 h, is_not c l k 4 (λ e. omega arith), or-false)

  pub word_18 : l.kind ≡ 18 → mentions_word c l k ≡ eqb l.payload c
  unfolding mentions_word is_ref
  word_18 h = rw (is_yes c l k 18 h, is_not c l k 9 (λ e. omega arith), is_not c l k 4 (λ e. omega arith), or-false)

  pub word_4 : l.kind ≡ 4 → mentions_word c l k ≡ (is_live k && names c (class_kids k))
  unfolding mentions_word is_ref
  word_4 h = rw (is_yes c l k 4 h, is_not c l k 9 (λ e. omega arith), is_not c l k 18 (λ e. omega arith))

-- ---- the class statement at `at`

module _ (c : ℕ) (ws : List ℕ) (at : ℕ) (h : (label_at ws at).kind ≡ 4) where
  pub statement_within : at < length ws
  statement_within = kind_within ws at 3 h

  pub statement_word : mentions_word c (label_at ws at) (kids_at ws at) ≡ (is_live (take_f 1 (records_at ws (at + 1))) && names c (kids_at ws (at + 1)))
  statement_word = word_4 c (label_at ws at) (kids_at ws at) h ∙ rw (class_kids_lem ws at h, class_row ws at h)

  pub statement_dead : is_live (take_f 1 (records_at ws (at + 1))) ≡ false → mentions_by c (inner c (label_at ws at) (kids_at ws at)) (kids_at ws at) ≡ mentions_by c whole (kids_at ws at)
  statement_dead e = rw (inner_dead c (label_at ws at) (kids_at ws at) h (ap is_live (class_row ws at h) ∙ e))

  -- a live class stands before the end
  pub live_within : is_live (take_f 1 (records_at ws (at + 1))) ≡ true → at + 1 < length ws
  live_within e = by_end ws (at + 1) (λ g. g) (λ g. absurd (true_false (sym e ∙ live_past ws (at + 1) g)))

  pub statement_live : is_live (take_f 1 (records_at ws (at + 1))) ≡ true →
      mentions_by c (inner c (label_at ws at) (kids_at ws at)) (kids_at ws at)
      ≡ (mentions_word c (label_at ws (at + 1)) (kids_at ws (at + 1)) || mentions_by c (of_class c (kids_at ws (at + 1))) (kids_at ws (at + 1)))
  unfolding searched within behind
  statement_live e =
      let g : at + 1 < length ws = live_within e in
      let row : kids_at ws at ≡ node (label_at ws (at + 1)) (kids_at ws (at + 1)) end = class_row ws at h ∙ record_one ws (at + 1) g in
      rw (inner_live c (label_at ws at) (kids_at ws at) h (ap is_live (class_row ws at h) ∙ e), class_kids_lem ws at h, row)
      (mentions_node c (each (of_class c (kids_at ws (at + 1)))) (label_at ws (at + 1)) (kids_at ws (at + 1)) end ∙ rw (mentions_end c (each (of_class c (kids_at ws (at + 1))))) (or-false _))
