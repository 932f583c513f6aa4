-- The marks of records: the classes that take an alias (rule 6), by their records as read: the same that the search in the rewritten elements finds, whatever the counter in
-- front of the class. Assumes nothing.
use Rattle.std.specs.Prelude.{◌≡◌, Bool, ◌&&◌, ◌||◌, List, [], ◌∷◌, ◌++◌, ℕ, ◌+◌, ◌-◌, ◌<◌, ◌≤◌, ltb, get_or, set, replicate}
use Rattle.std.proofs.Math.Path.{refl, ap, subst}
use Rattle.std.proofs.Common.{sym, ◌∙◌, true≢false, arith, length-set, get_or-set_same, get_or-set_other}
use Rattle.std.proofs.Math.Bool.{true, false, and-false, or-false}
use Rattle.std.specs.Option.{MatchOption}
use Rattle.std.specs.declared.option.Option.{Option}
use Rattle.std.specs.declared.option.Option.TheVariants.{None as none, Some as some}
use Rattle.std.proofs.Math.Dec.{eqb}
use Rattle.std.proofs.Math.ListN.{length}
use borrow.Author.Tests.{eqb-true, eqb-false, eq-eqb, ne_eqb, ltb-true, ltb-false}
use Rattle.words.specs.Table.{lookup}
use Rattle.words.specs.Shape.{bit_of}
use Rattle.records.specs.Forest.{end, node, take_f, any_f}
use Rattle.records.specs.Label.{Label, Trees, is}
use Rattle.records.specs.Ends.{Ends, blank, ends_set}
use Rattle.records.specs.declared.Note.{Note}
use Rattle.records.specs.Place.{records_at, label_at, arity_at, kids_at, end_of, end_low, records_node, records_past}
use Rattle.grammar.specs.Grammar.{module', symbols, own_statement, element, slots_below, slots, row_of, table, row}
use Rattle.grammar.specs.WellFormed.{Allowed, Fits}
use Rattle.grammar.proofs.Children.{allowed_sole}
use Rattle.grammar.proofs.Rows.{sole_kind}
use Rattle.rewriting.specs.Parts.{any_record, elements_of, id_of, is_decorated, is_decorated_member, is_live, is_refused7}
use Rattle.rewriting.specs.Visit.{Result, is_ref, visit}
use Rattle.inspect.specs.Row.{any_row}
use Rattle.inspect.specs.Inside.{record_open, record_past}
use Rattle.inspect.specs.Refused.{refused_other}
use Rattle.inspect.specs.Class.{member_apart, member_other}
use Rattle.words.specs.Kinds.{named, number_other}
use Rattle.words.specs.declared.kinds.Kind.{Kind}
use Rattle.words.specs.declared.kinds.Kind.TheVariants.{ClassStatement, Class, Body, Method, Property, AbstractAccessor, Symbols}
use Rattle.walk_laws.specs.Rows.{visit_at, fresh, kids_visit}
use Rattle.walk_laws.specs.After.{mentioned}
use Rattle.walk_laws.specs.Slots.{Standing, standing_at, kind_row, row_first}
use Rattle.walk_laws.specs.Single.{row_nth}
use Rattle.walk_laws.specs.Elements.{other_kind}
use Rattle.walk_laws.specs.First.{elements_row}
use Rattle.walk_laws.specs.ClassPlan.{rk, scope, body_at, at_heritage, at_body, els}
use Rattle.walk_laws.specs.ClassFacts.{body_in, own_elements, elements_visited}
use Rattle.alias_search.specs.Mentions.{is_symbol, mentions}
use Rattle.alias_search.specs.Older.{Older, visit_older}
use Rattle.alias_search.specs.Formed.{Formed}
use Rattle.alias_search.specs.Search.{mentions_visited}
use Rattle.counter.specs.Contract.{Below, elements_from, Planned}
use Rattle.mark_table.specs.Formed.{fits_formed}

-- does a class with this id name itself in the elements read
unfoldable pub mentions_id : Option ℕ → Trees → Bool
mentions_id none f = false
mentions_id (some c) f = mentions c f

-- rule 6: is the record at `at` a class statement whose class takes an alias
unfoldable pub takes_alias : List ℕ → ℕ → Bool
takes_alias ws at =
    is 4 (label_at ws at) && is_live (take_f 1 (records_at ws (at + 1))) && is_decorated (kids_at ws (at + 1)) &&
    mentions_id (id_of (kids_at ws (at + 1))) (elements_of (kids_at ws (at + 1)))

-- is the record at `at` marked: such a class statement, a decorated class (rule 6), a body with a decorated member or a decorated member (rule 3)
unfoldable pub is_marked : List ℕ → ℕ → Bool
is_marked ws at =
    takes_alias ws at || (is 26 (label_at ws at) && is_decorated (kids_at ws at)) || (is 29 (label_at ws at) && any_row is_decorated_member (kids_at ws at)) ||
    is_decorated_member (label_at ws at) (kids_at ws at)

-- the marks of the places from i on are right, a 40's left out
abbrev pub MarksFrom : List ℕ → List Note → ℕ → Type 0
MarksFrom ws notes i = (j : ℕ) → i ≤ j → j < length ws → ((label_at ws j).kind ≡ 40 → ⊥) → (get_or notes j blank).marked ≡ is_marked ws j

-- so are those of the k elements at `at`
unfoldable pub ElementMarks : List ℕ → List Note → ℕ → ℕ → Type 0
ElementMarks ws notes at k =
    (j : ℕ) → j < k → end_of ws at j < length ws → (get_or notes (end_of ws at j) blank).marked ≡ is_decorated_member (label_at ws (end_of ws at j)) (kids_at ws (end_of ws at j))

-- the mark of a class that stands at i is right
unfoldable pub ClassMark : List ℕ → List Note → ℕ → Type 0
ClassMark ws notes i = i < length ws → (label_at ws i).kind ≡ 26 → (get_or notes i blank).marked ≡ is_decorated (kids_at ws i)

-- a kind that neither a mark nor refusal 7 asks for
pub record PassedOver (k : ℕ) : Type 0 where
  pub statement : k ≡ 4 → ⊥
  pub test : k ≡ 19 → ⊥
  pub class : k ≡ 26 → ⊥
  pub body : k ≡ 29 → ⊥
  pub method : k ≡ 30 → ⊥
  pub property : k ≡ 31 → ⊥
  pub accessor : k ≡ 32 → ⊥
  pub symbols : k ≡ 40 → ⊥

-- no private-in test stands at i or behind it, unless b
unfoldable pub NoTest : List ℕ → ℕ → Bool → Type 0
NoTest ws i b = b ≡ false → (j : ℕ) → i ≤ j → j < length ws → (label_at ws j).kind ≡ 19 → ⊥

-- ---- the search in the rewritten elements

module _ (ws : List ℕ) (whole : Fits (module' ∷ []) (records_at ws 0)) (at : ℕ) (h : at < length ws) (kind : (label_at ws at).kind ≡ 4) (n : ℕ) where
  -- a symbol below the counter in front of the class is no fresh one at its body
  body_older : (c : ℕ) → c < n → Older c (at_body ws at n)
  unfolding at_body at_heritage visit_at
  body_older c l = visit_older c _ _ _ (visit_older c _ _ (fresh n) (record { low = unfold fresh in l; other = unfold fresh is_symbol in refl }))

  body_formed : Formed (kids_at ws (body_at ws at))
  body_formed =
      let t : Standing ws (body_at ws at) = standing_at ws (module' ∷ []) whole (body_at ws at) (body_in ws whole at h kind) in
      fits_formed _ (kids_at ws (body_at ws at)) t.kids

  search_same : (c : ℕ) → c < n → any_f (is_ref c) (elements_from ws at n) ≡ mentions c (elements_of (kids_at ws (at + 1)))
  search_same c l =
      let visited : elements_from ws at n ≡ els ws at n = unfold elements_from scope rk in elements_visited ws whole at h kind n in
      let row : els ws at n ≡ (visit (scope ws at) (kids_at ws (body_at ws at)) (at_body ws at n)).here =
      unfold els in ap (λ (r : Result). r.here) (kids_visit ws (scope ws at) (body_at ws at) (at_body ws at n)) in
      let read : elements_of (kids_at ws (at + 1)) ≡ kids_at ws (body_at ws at) = unfold rk in own_elements ws whole at h kind in
      ap (any_f (is_ref c)) (visited ∙ row)
      ∙ mentions_visited c (kids_at ws (body_at ws at)) body_formed (scope ws at) (at_body ws at n) (body_older c l)
      ∙ ap (mentions c) (sym read)

  pub mentioned_same : (i : Option ℕ) → Below n i → mentioned i (elements_from ws at n) ≡ mentions_id i (elements_of (kids_at ws (at + 1)))
  unfolding mentioned mentions_id Below
  mentioned_same none b = refl
  mentioned_same (some c) b = search_same c b

-- ---- what is asked of a place, in the order asked

module _ (ws : List ℕ) (at : ℕ) where
  pub not_statement : ((label_at ws at).kind ≡ 4 → ⊥) → takes_alias ws at ≡ false
  unfolding takes_alias is
  not_statement n = rw (ne_eqb (label_at ws at).kind 4 n)

  pub not_live : is_live (take_f 1 (records_at ws (at + 1))) ≡ false → takes_alias ws at ≡ false
  unfolding takes_alias
  not_live e = rw (e, and-false)

  pub not_decorated : is_decorated (kids_at ws (at + 1)) ≡ false → takes_alias ws at ≡ false
  unfolding takes_alias
  not_decorated e = rw (e, and-false)

  pub searched : (label_at ws at).kind ≡ 4 → is_live (take_f 1 (records_at ws (at + 1))) ≡ true → is_decorated (kids_at ws (at + 1)) ≡ true →
      takes_alias ws at ≡ mentions_id (id_of (kids_at ws (at + 1))) (elements_of (kids_at ws (at + 1)))
  unfolding takes_alias is
  searched kind live decorated = rw (eq-eqb (label_at ws at).kind 4 kind, live, decorated)

-- by what a test says of the symbol, if there is one
pub answered_id : (o : Option ℕ) (b : Bool) (f : Trees) {Said : ℕ → Type 0} → MatchOption o (b ≡ false) Said → ((c : ℕ) → Said c → b ≡ mentions c f) → b ≡ mentions_id o f
unfolding mentions_id
answered_id none b f e m = e
answered_id (some c) b f s m = m c s

-- ---- what a mark says, by the kind

module _ (ws : List ℕ) (at : ℕ) where
  none_member : (k : ℕ) → (label_at ws at).kind ≡ k → (k ≡ 30 → ⊥) → (k ≡ 31 → ⊥) → (k ≡ 32 → ⊥) → is_decorated_member (label_at ws at) (kids_at ws at) ≡ false
  none_member k e a b c = member_apart (label_at ws at) (kids_at ws at) (λ g. a (sym e ∙ g)) (λ g. b (sym e ∙ g)) (λ g. c (sym e ∙ g))

  pub marked_statement : (label_at ws at).kind ≡ 4 → is_marked ws at ≡ takes_alias ws at
  unfolding is_marked is
  marked_statement e =
      rw (ne_eqb (label_at ws at).kind 26 (λ g. omega (arith, e, g)), ne_eqb (label_at ws at).kind 29 (λ g. omega (arith, e, g)), none_member 4 e (λ g. omega arith) (λ g. omega arith) (λ g. omega arith), or-false, or-false, or-false)

  pub marked_class : (label_at ws at).kind ≡ 26 → is_marked ws at ≡ is_decorated (kids_at ws at)
  unfolding is_marked is
  marked_class e =
      rw (not_statement ws at (λ g. omega (arith, e, g)), eq-eqb (label_at ws at).kind 26 e, ne_eqb (label_at ws at).kind 29 (λ g. omega (arith, e, g)), none_member 26 e (λ g. omega arith) (λ g. omega arith) (λ g. omega arith), or-false, or-false)

  pub marked_body : (label_at ws at).kind ≡ 29 → is_marked ws at ≡ any_row is_decorated_member (kids_at ws at)
  unfolding is_marked is
  marked_body e =
      rw (not_statement ws at (λ g. omega (arith, e, g)), ne_eqb (label_at ws at).kind 26 (λ g. omega (arith, e, g)), eq-eqb (label_at ws at).kind 29 e, none_member 29 e (λ g. omega arith) (λ g. omega arith) (λ g. omega arith), or-false)

  pub marked_member : ((label_at ws at).kind ≡ 4 → ⊥) → ((label_at ws at).kind ≡ 26 → ⊥) → ((label_at ws at).kind ≡ 29 → ⊥) → is_marked ws at ≡ is_decorated_member (label_at ws at) (kids_at ws at)
  unfolding is_marked is
  marked_member n m b = rw (not_statement ws at n, ne_eqb (label_at ws at).kind 26 m, ne_eqb (label_at ws at).kind 29 b)

  -- with what a 40 says
  pub marked_other : (x : Bool) → ((label_at ws at).kind ≡ 40 → ⊥) → (is_marked ws at || (is 40 (label_at ws at) && x)) ≡ is_marked ws at
  unfolding is
  marked_other x n = rw (ne_eqb (label_at ws at).kind 40 n, or-false)

  pub marked_symbols : (x : Bool) → (label_at ws at).kind ≡ 40 → (is_marked ws at || (is 40 (label_at ws at) && x)) ≡ x
  unfolding is
  marked_symbols x e =
      let none : is_marked ws at ≡ false = marked_member (λ g. omega (arith, e, g)) (λ g. omega (arith, e, g)) (λ g. omega (arith, e, g)) ∙ none_member 40 e (λ g. omega arith) (λ g. omega arith) (λ g. omega arith) in
      rw (none, eq-eqb (label_at ws at).kind 40 e)

  -- where the answer is no kind that has a mark
  pub marked_none : {o : Option Kind} (x : Bool) → o ≡ named (label_at ws at).kind → (o ≡ some ClassStatement → ⊥) → (o ≡ some Class → ⊥) → (o ≡ some Body → ⊥) → (o ≡ some Method → ⊥) → (o ≡ some Property → ⊥) → (o ≡ some AbstractAccessor → ⊥) → (o ≡ some Symbols → ⊥) →
      (is_marked ws at || (is 40 (label_at ws at) && x)) ≡ false
  marked_none x n a b c d e f g =
      marked_other x (number_other Symbols n g) ∙ marked_member (number_other ClassStatement n a) (number_other Class n b) (number_other Body n c) ∙ member_other (label_at ws at) (kids_at ws at) n d e f

-- the kinds asked for, as a set
abbrev pub asked : ℕ
asked = 1107632324624

pub passed_over : (k : ℕ) → bit_of asked k ≡ 0 → PassedOver k
unfolding bit_of
passed_over k z = record {
  statement = other 4 refl;
  test = other 19 refl;
  class = other 26 refl;
  body = other 29 refl;
  method = other 30 refl;
  property = other 31 refl;
  accessor = other 32 refl;
  symbols = other 40 refl;
}
  where
    other : (n : ℕ) → bit_of asked n ≡ 1 → k ≡ n → ⊥
    other n o e = let y : ◌≡◌ {A = ℕ} 0 1 = sym z ∙ ap (bit_of asked) e ∙ o in omega arith

-- ---- private-in tests

module _ (ws : List ℕ) (i : ℕ) where
  pub test_none : NoTest ws (length ws) false
  unfolding NoTest
  test_none e j l h g = omega (arith, l, h)

  pub test_here : NoTest ws i true
  unfolding NoTest
  test_here e = absurd (true≢false e)

  pub test_next : (b : Bool) → NoTest ws (i + 1) b → ((label_at ws i).kind ≡ 19 → ⊥) → NoTest ws i b
  unfolding NoTest
  test_next b t n e j l h g = go (eqb j i) refl
    where
      go : (x : Bool) → eqb j i ≡ x → ⊥
      go true s = n (ap (λ (p : ℕ). (label_at ws p).kind) (sym (eqb-true j i s)) ∙ g)
      go false s = let z : j ≡ i → ⊥ = eqb-false j i s in t e j (omega (arith, l, z)) h g

-- ---- the loop over the places, from the last to the first

-- the entries of the places from i on, in a table of m entries; refused: whether a record there is one of refusal 7
pub record Done (ws : List ℕ) (notes : List Note) (m i : ℕ) (test refused : Bool) : Type 0 where
  pub long : length notes ≡ m
  pub low : i ≤ length ws
  pub ends : Ends ws notes 0
  pub right : MarksFrom ws notes i
  pub tests : (j : ℕ) → i ≤ j → j < length ws → (label_at ws j).kind ≡ 40 → NoTest ws j (get_or notes j blank).marked
  pub seen : NoTest ws i test
  pub seven : refused ≡ any_record is_refused7 (records_at ws i)

pub done_start : {ws : List ℕ} {notes : List Note} → Ends ws notes 0 → Done ws notes (length notes) (length ws) false false
done_start {ws} e = record {
  long = refl;
  low = omega arith;
  ends = e;
  right = λ j l h. absurd (omega (arith, l, h));
  tests = λ j l h. absurd (omega (arith, l, h));
  seen = test_none ws 0;
  seven = sym (record_past is_refused7 ws (length ws) (omega arith));
}

-- one place back
pub done_down : {ws : List ℕ} {notes : List Note} {m i : ℕ} {test refused : Bool} → Done ws notes m i test refused → 0 < i → Done ws notes m (i - 1 + 1) test refused
done_down {ws} {notes} {m} {i} {test} {refused} d h = let e : i ≡ i - 1 + 1 = omega (arith, h) in subst (λ (j : ℕ). Done ws notes m j test refused) e d

-- what the marks of the places behind give
module _ (ws : List ℕ) (notes : List Note) where
  pub marks_class : (i : ℕ) → MarksFrom ws notes i → ClassMark ws notes i
  unfolding ClassMark
  marks_class i m h kind = m i (omega arith) h (λ g. omega (arith, kind, g)) ∙ marked_class ws i kind

  -- a body's elements are of none of the kinds whose marks say something else
  pub marks_elements : (i : ℕ) → Fits (module' ∷ []) (records_at ws 0) → i < length ws → (label_at ws i).kind ≡ 29 → MarksFrom ws notes (i + 1) → ElementMarks ws notes (i + 1) (arity_at ws i)
  unfolding ElementMarks row_of lookup table row
  marks_elements i whole h kind m j l g =
      m (end_of ws (i + 1) j) (end_low ws (i + 1) j) g (other 40 λ e. omega arith)
      ∙ marked_member ws (end_of ws (i + 1) j) (other 4 λ e. omega arith) (other 26 λ e. omega arith) (other 29 λ e. omega arith)
    where
      stands : Allowed element (label_at ws (end_of ws (i + 1) j))
      stands = (row_nth ws (i + 1) (arity_at ws i) j element (elements_row ws i (standing_at ws (module' ∷ []) whole i h) kind) l).1

      other : (k : ℕ) → ((row_of k).category ≡ element.category → ⊥) → (label_at ws (end_of ws (i + 1) j)).kind ≡ k → ⊥
      other k n = eqb-false (label_at ws (end_of ws (i + 1) j)).kind k (unfold is in other_kind element (label_at ws (end_of ws (i + 1) j)) k stands n)

  -- the n-th element, which stands at q
  pub element_mark : (at k q n : ℕ) → ElementMarks ws notes at k → q ≡ end_of ws at n → n < k → q < length ws → (get_or notes q blank).marked ≡ is_decorated_member (label_at ws q) (kids_at ws q)
  unfolding ElementMarks
  element_mark at k q n m e l g = subst (λ (p : ℕ). p < length ws → (get_or notes p blank).marked ≡ is_decorated_member (label_at ws p) (kids_at ws p)) (sym e) (m n l) g

pub done_next : {ws : List ℕ} {notes : List Note} {m i : ℕ} {test refused : Bool} (v : Note) (b r : Bool) → Done ws notes m (i + 1) test refused → NoTest ws i b →
    r ≡ any_record is_refused7 (records_at ws i) → v.end ≡ (get_or notes i blank).end → v.marked ≡ (is_marked ws i || (is 40 (label_at ws i) && b)) → Done ws (set notes i v) m i b r
done_next {ws} {notes} {m} {i} v b r d t n p e = record {
  long = length-set notes i v ∙ d.long;
  low = omega (arith, d.low);
  ends = ends_set v d.ends λ l. p ∙ d.ends.right i (omega arith) l;
  right = λ j l w n. go j l w n (eqb j i) refl;
  tests = λ j l w k. forty j l w k (eqb j i) refl;
  seen = t;
  seven = n;
}
  where
    h : i < length notes
    h = omega (arith, d.low, d.ends.long)

    go : (j : ℕ) → i ≤ j → j < length ws → ((label_at ws j).kind ≡ 40 → ⊥) → (x : Bool) → eqb j i ≡ x → (get_or (set notes i v) j blank).marked ≡ is_marked ws j
    go j l w n true s =
        let same : j ≡ i = eqb-true j i s in
        rw (same, get_or-set_same notes i v blank h) (e ∙ marked_other ws i b (λ g. n (ap (λ (q : ℕ). (label_at ws q).kind) same ∙ g)))
    go j l w n false s =
        let other : j ≡ i → ⊥ = eqb-false j i s in
        rw (get_or-set_other notes i j v blank other) (d.right j (omega (arith, l, other)) w n)

    forty : (j : ℕ) → i ≤ j → j < length ws → (label_at ws j).kind ≡ 40 → (x : Bool) → eqb j i ≡ x → NoTest ws j (get_or (set notes i v) j blank).marked
    forty j l w k true s =
        let same : j ≡ i = eqb-true j i s in
        let here : NoTest ws i (get_or (set notes i v) i blank).marked =
        subst (NoTest ws i) (sym (ap (λ (x : Note). x.marked) (get_or-set_same notes i v blank h) ∙ e ∙ marked_symbols ws i b (ap (λ (q : ℕ). (label_at ws q).kind) (sym same) ∙ k))) t in
        subst (λ (q : ℕ). NoTest ws q (get_or (set notes i v) q blank).marked) (sym same) here
    forty j l w k false s =
        let other : j ≡ i → ⊥ = eqb-false j i s in
        subst (λ (x : Note). NoTest ws j x.marked) (sym (get_or-set_other notes i j v blank other)) (d.tests j (omega (arith, l, other)) w k)

-- a record of a kind that is passed over
pub done_over : {ws : List ℕ} {notes : List Note} {m i : ℕ} {test refused : Bool} (v : Note) → Done ws notes m (i + 1) test refused → PassedOver (label_at ws i).kind →
    v.end ≡ (get_or notes i blank).end → v.marked ≡ false → Done ws (set notes i v) m i test refused
done_over {ws} {notes} {m} {i} {test} {refused} v d o p e =
    let none : is_marked ws i ≡ false = marked_member ws i o.statement o.class o.body ∙ member_apart (label_at ws i) (kids_at ws i) o.method o.property o.accessor in
    let h : i < length ws = omega (arith, d.low) in
    done_next v test refused d (test_next ws i test d.seen o.test) (d.seven ∙ sym (seven_next i h (refused_other ws i o.statement))) p (e ∙ sym (marked_other ws i test o.symbols ∙ none))
  where
    seven_next : (j : ℕ) → j < length ws → is_refused7 (label_at ws j) (kids_at ws j) ≡ false → any_record is_refused7 (records_at ws j) ≡ any_record is_refused7 (records_at ws (j + 1))
    seven_next j h f = record_open is_refused7 ws j h ∙ rw f

-- ---- the module's word and its 40

below_1 : (p : ℕ) → slots_below module' 1 p ≡ symbols ∷ (replicate p own_statement ++ [])
unfolding slots_below slots row_of table lookup row
below_1 p = refl

open_fits : (l : Label) (k r : Trees) → Fits (module' ∷ []) (node l k r) → Allowed module' l × Fits (slots_below module' l.kind l.payload) k
unfolding Fits
open_fits l k r f = (f.0, f.1)

none_fits : Fits (module' ∷ []) end → ⊥
unfolding Fits
none_fits f = f

module _ (ws : List ℕ) (whole : Fits (module' ∷ []) (records_at ws 0)) where
  start : (0 < length ws) × Allowed module' (label_at ws 0) × Fits (slots_below module' (label_at ws 0).kind (label_at ws 0).payload) (kids_at ws 0)
  start = go (ltb 0 (length ws)) refl
    where
      go : (b : Bool) → ltb 0 (length ws) ≡ b → (0 < length ws) × Allowed module' (label_at ws 0) × Fits (slots_below module' (label_at ws 0).kind (label_at ws 0).payload) (kids_at ws 0)
      go true e =
          let h : 0 < length ws = ltb-true 0 (length ws) e in
          let f = open_fits _ _ _ (subst (Fits (module' ∷ [])) (records_node ws 0 h) whole) in
          (h, f.0, f.1)
      go false e = absurd (none_fits (subst (Fits (module' ∷ [])) (records_past ws 0 (ltb-false 0 (length ws) e)) whole))

  start_kind : (label_at ws 0).kind ≡ 1
  unfolding sole_kind lookup
  start_kind = allowed_sole module' (label_at ws 0) start.1 tt

  symbols_kind : (1 < length ws) × ((label_at ws 1).kind ≡ 40)
  unfolding sole_kind lookup
  symbols_kind =
      let t : Standing ws 0 = record { slot = module'; own = start.1; kids = start.2 } in
      let r = kind_row ws 0 1 t _ start_kind (below_1 (label_at ws 0).payload) in
      let f = row_first ws 1 _ symbols _ r.1 in
      (f.0, allowed_sole symbols (label_at ws 1) f.1 tt)

pub done_seven : {ws : List ℕ} {notes : List Note} {m i : ℕ} {test refused : Bool} → i ≡ 0 → Done ws notes m i test refused → refused ≡ any_record is_refused7 (records_at ws 0)
done_seven {ws} z d = d.seven ∙ ap (λ (j : ℕ). any_record is_refused7 (records_at ws j)) z

pub done_planned : {ws : List ℕ} {notes : List Note} {m i : ℕ} {test refused : Bool} → Fits (module' ∷ []) (records_at ws 0) → i ≡ 0 → Done ws notes m i test refused → Planned ws notes
unfolding NoTest
done_planned {ws} {notes} {m} {i} {test} {refused} whole z d = record {
  ends = d.ends;
  right = λ at n h kind live decorated below.
      d.right at (omega (arith, z)) h (λ g. omega (arith, kind, g)) ∙ marked_statement ws at kind ∙ searched ws at kind live decorated ∙
      sym (mentioned_same ws whole at h kind n (id_of (kids_at ws (at + 1))) below);
  classes = λ at h kind. d.right at (omega (arith, z)) h (λ g. omega (arith, kind, g)) ∙ marked_class ws at kind;
  bodies = λ at h kind. d.right at (omega (arith, z)) h (λ g. omega (arith, kind, g)) ∙ marked_body ws at kind;
  members = λ at h a b e f. d.right at (omega (arith, z)) h f ∙ marked_member ws at a b e;
  tests = λ m at h kind. none m at h kind (eqb at 0) refl;
}
  where
    none : (get_or notes 1 blank).marked ≡ false → (at : ℕ) → at < length ws → (label_at ws at).kind ≡ 19 → (x : Bool) → eqb at 0 ≡ x → ⊥
    none m at h kind true s = omega (arith, start_kind ws whole, sym (ap (λ (q : ℕ). (label_at ws q).kind) (eqb-true at 0 s)) ∙ kind)
    none m at h kind false s =
        let y : at ≡ 0 → ⊥ = eqb-false at 0 s in
        d.tests 1 (omega (arith, z)) (symbols_kind ws whole).0 (symbols_kind ws whole).1 m at (omega (arith, y)) h kind
