-- The calls that members queue, in the order in which they are written (rules 3 to 5). Assumes nothing.
use Rattle.std.specs.Prelude.{◌≡◌, Bool, ◌&&◌, ◌||◌, length}
use Rattle.std.proofs.Math.Path.{refl, ap}
use Rattle.std.proofs.Common.{sym, subst, ◌∙◌, true≢false}
use Rattle.std.proofs.Math.Bool.{true, false, cond}
use Rattle.std.proofs.lemmas.Bool.{false≢true}
use Rattle.std.specs.declared.option.Option.{Option}
use Rattle.std.specs.declared.option.Option.TheVariants.{None as none, Some as some}
use mathlib.Core.List.{List, [], ◌∷◌, ◌++◌}
use Prim.Native.Nat.{ℕ, suc, ◌+◌, ◌-◌, ◌<◌}
use native.Mathlib.Omega.{arith}
use Rattle.words.specs.Table.{lookup}
use Rattle.words.specs.Word.{bit0}
use Rattle.records.specs.Forest.{end, node, flat, take_f, drop_f, append_f, count_f, append_f_end}
use Rattle.records.specs.Label.{Label, Trees, ◌∶◌, repay, is, bit}
use Rattle.records.specs.Place.{records_at, label_at, arity_at, kids_at, end_of}
use Rattle.grammar.specs.Grammar.{Element, module', element, expression, table, row, row_of}
use Rattle.grammar.specs.WellFormed.{Allowed, Fits}
use Rattle.grammar.proofs.Rows.{allowed_row}
use Rattle.rewriting.specs.Parts.{role_of, tree, indexed, of_parameters, decorators, parameters_of, decorators_of, is_member, is_decorated_member, is_plain_key, has_plain_key}
use Rattle.rewriting.specs.Visit.{Result, Taken, class_symbol, plain_name, name_if, name_of, prefix, array, member_call, called₁, called₂, member_if, member, since, visit, visit_one}
use Rattle.rewriting.specs.declared.Around.{Around}
use Rattle.rewriting.specs.declared.State.{State}
use Rattle.walk_laws.specs.Rows.{visit_at, calls_add, one_calls, one_after, plain_here}
use Rattle.walk_laws.specs.Written.{word_by, written, written_node, written_tree, written_append}
use Rattle.walk_laws.specs.Slots.{standing_at}
use Rattle.walk_laws.specs.Single.{Stays, expression_stays}
use Rattle.walk_laws.specs.Roles.{Sort, is_method, is_property, is_accessor, member_sort, is_kind, kind_is, is_other, plain_37, bare_by, descriptor_by, member_one, decorated_member}
use Rattle.walk_laws.specs.Quiet.{one_quiet, element_quiet}
use Rattle.walk_laws.specs.Elements.{Called, key_at, key_plain, decorators_nth, parameter_marked, method_called, member_keyed, marked_decorators, called_parameters}
use Rattle.walk_laws.specs.Members.{member_bare}

-- the symbol of a class with this id and this default symbol
unfoldable pub symbol_of : Option ℕ → Option ℕ → ℕ
symbol_of (some c) d = c
symbol_of none (some d) = d
symbol_of none none = 0

-- ---- decorators of parameters, indexed

pub indexed_append : (i : ℕ) (f g : Trees) → indexed i (append_f f g) ≡ append_f (indexed i f) (indexed i g)
unfolding indexed append_f
indexed_append i end g = refl
indexed_append i (node l k r) g = ap (node (23 ∶ i) (tree l k)) (indexed_append i r g)

pub indexed_count : (i : ℕ) (f : Trees) → count_f (indexed i f) ≡ count_f f
unfolding indexed count_f
indexed_count i end = refl
indexed_count i (node l k r) = ap suc (indexed_count i r)

indexed_tree : (word : ℕ → ℕ → ℕ) (i : ℕ) (l : Label) (k : Trees) → written word (indexed i (tree l k)) ≡ word 23 i ∷ written word (tree l k)
unfolding indexed tree word_by ◌∶◌
indexed_tree word i l k = written_tree word (23 ∶ i) (node l k end)

parameters_one : (i : ℕ) (l : Label) (k : Trees) → of_parameters i (tree l k) ≡ indexed i (decorators k)
unfolding of_parameters tree
parameters_one i l k = append_f_end (indexed i (decorators k))

-- ---- a member by its kind

descriptor_word : (word : ℕ → ℕ → ℕ) (l : Label) → word_by word (descriptor_by l) ≡ word (cond (is 31 l) 14 13) 0
unfolding word_by descriptor_by ◌∶◌
descriptor_word word l = go (is 31 l)
  where
    go : (b : Bool) → word_by word (cond b (14 ∶ 0) (13 ∶ 0)) ≡ word (cond b 14 13) 0
    go true = refl
    go false = refl

module _ (l : Label) (m : is_member l ≡ true) where
  member_row : (row_of l.kind).category ≡ Element
  member_row = go (member_sort l m)
    where
      row_of_lem : (k c : ℕ) → l.kind ≡ k → (row_of k).category ≡ c → (row_of l.kind).category ≡ c
      row_of_lem k c e f = ap (λ (n : ℕ). (row_of n).category) e ∙ f

      go : Sort l → (row_of l.kind).category ≡ Element
      go (is_method e r) = row_of_lem 30 Element e (unfold row_of lookup table row in refl)
      go (is_property e r) = row_of_lem 31 Element e (unfold row_of lookup table row in refl)
      go (is_accessor e r) = row_of_lem 32 Element e (unfold row_of lookup table row in refl)

module _ (l : Label) (f : Trees) (m : is_member l ≡ true) where
  field_entries : is 30 l ≡ false → decorators_of (role_of l) f ≡ decorators f
  unfolding decorators_of
  field_entries n = go (member_sort l m)
    where
      go : Sort l → decorators_of (role_of l) f ≡ decorators f
      go (is_method e r) = absurd (true≢false (sym (is_kind l 30 e) ∙ n))
      go (is_property e r) = rw r
      go (is_accessor e r) = rw r

  method_entries : is 30 l ≡ true → decorators_of (role_of l) f ≡ append_f (decorators f) (of_parameters 0 (parameters_of f))
  unfolding decorators_of
  method_entries n = go (member_sort l m)
    where
      go : Sort l → decorators_of (role_of l) f ≡ append_f (decorators f) (of_parameters 0 (parameters_of f))
      go (is_method e r) = rw r
      go (is_property e r) = absurd (false≢true (sym (is_other l 31 30 e refl) ∙ n))
      go (is_accessor e r) = absurd (false≢true (sym (is_other l 32 30 e refl) ∙ n))

-- ---- symbols

symbol_after : (id : Option ℕ) (s : State) → (class_symbol id s.default s).symbol ≡ symbol_of id (class_symbol id s.default s).after.default
unfolding symbol_of class_symbol
symbol_after (some c) s = refl
symbol_after none s = go s.default refl
  where
    go : (d : Option ℕ) → s.default ≡ d → (class_symbol none d s).symbol ≡ symbol_of none (class_symbol none d s).after.default
    go (some d) e = rw e
    go none e = refl

name_default : (b : Bool) (k : Label) (x : Trees) (t : State) → (name_if b k x t).after.default ≡ t.default
unfolding name_if
name_default true k x t = refl
name_default false k x t = refl

-- a key that gives no name as it stands is no 34 and no 35
key_computed : (k : Label) → is_plain_key k ≡ false → (is 34 k ≡ false) × (is 35 k ≡ false)
unfolding is_plain_key
key_computed k e = go (is 34 k) (is 35 k) _ _ _ _ e
  where
    go : (a b c d f g : Bool) → (a || b || c || d || f || g) ≡ false → (a ≡ false) × (b ≡ false)
    go false false c d f g e = (refl, refl)
    go true b c d f g e = absurd (true≢false e)
    go false true c d f g e = absurd (true≢false e)

module _ (word : ℕ → ℕ → ℕ) where
  unfoldable pub prefix_words : Bool → ℕ → List ℕ
  prefix_words true c = word 9 c ∷ []
  prefix_words false c = word 24 0 ∷ word 9 c ∷ []

  -- rule 5, by the key's label; k: the key's symbol, if it takes one
  unfoldable pub name_word : Label → Bool → ℕ → ℕ
  name_word key plain k = cond (is 34 key) (word 10 key.payload) (cond (is 35 key) (word 10 0) (cond plain (word_by word key) (word 9 k)))

module _ (word : ℕ → ℕ → ℕ) (ws : List ℕ) (around : Around) where
  -- the entries of the array of the member at `at`
  unfoldable pub entries : ℕ → State → Trees
  entries at s = decorators_of (role_of (label_at ws at)) (visit around (kids_at ws at) s).here

  -- prefix, name and descriptor of the call of the member at `at`; t: the state behind the member
  unfoldable pub argument_words : ℕ → State → List ℕ
  argument_words at t =
      prefix_words word (bit bit0 (label_at ws at)) (symbol_of around.id t.default) ++
      (name_word word (label_at ws (end_of ws (at + 1) 1)) (has_plain_key (kids_at ws at)) (t.next - 1) ∷ word (cond (is 31 (label_at ws at)) 14 13) 0 ∷ [])

  unfoldable pub call_words : ℕ → State → List ℕ
  call_words at s =
      word 2 0 ∷ word 22 4 ∷ word 16 (count_f (entries at s)) ∷
      (written word (entries at s) ++ argument_words at (visit_one around (label_at ws at) (kids_at ws at) s).after)

  -- ---- a call

  prefix_written : (c : ℕ) (b : Bool) → written word (prefix c b) ≡ prefix_words word b c
  unfolding prefix prefix_words written flat tree word_by ◌∶◌
  prefix_written c true = refl
  prefix_written c false = refl

  name_written : (k : Label) (x : Trees) (b : Bool) (t : State) → is_plain_key k ≡ b → written word (name_if b k x t).name ≡ name_word word k b ((name_if b k x t).after.next - 1) ∷ []
  unfolding name_if plain_name name_word written flat tree word_by ◌∶◌
  name_written k x true t e = ap (λ (w : ℕ). w ∷ []) (go (is 34 k) (is 35 k))
    where
      go : (a b : Bool) → word_by word (cond a (10 ∶ k.payload) (cond b (10 ∶ 0) (k.kind ∶ k.payload))) ≡ cond a (word 10 k.payload) (cond b (word 10 0) (word_by word k))
      go true b = refl
      go false true = refl
      go false false = refl
  name_written k x false t e =
      let n : suc t.next - 1 ≡ t.next = omega arith in
      rw ((key_computed k e).0, (key_computed k e).1, n)

  written_leaf : (l : Label) → written word (node l end end) ≡ word_by word l ∷ []
  unfolding written flat
  written_leaf l = refl

  call_written : (es : Trees) (c : ℕ) (b : Bool) (name : Trees) (m : ℕ) (d : Label) → written word name ≡ m ∷ [] →
      written word (member_call es (prefix c b) name d) ≡ word 2 0 ∷ word 22 4 ∷ word 16 (count_f es) ∷ (written word es ++ (prefix_words word b c ++ (m ∷ word_by word d ∷ [])))
  unfolding member_call array tree append_f word_by ◌∶◌
  call_written es c b name m d e =
      let g : Trees = append_f (prefix c b) (append_f name (node d end end)) in
      let last : written word (append_f name (node d end end)) ≡ m ∷ word_by word d ∷ [] =
      written_append word name (node d end end) ∙ ap (λ (xs : List ℕ). xs ++ written word (node d end end)) e ∙ ap (m ∷◌) (written_leaf d) in
      written_tree word (2 ∶ 0) (node (22 ∶ 4) (node (16 ∶ count_f es) es g) end)
      ∙ ap (word 2 0 ∷◌) (written_tree word (22 ∶ 4) (node (16 ∶ count_f es) es g))
      ∙ ap (λ (xs : List ℕ). word 2 0 ∷ word 22 4 ∷ xs) (written_node word (16 ∶ count_f es) es g)
      ∙ ap (λ (xs : List ℕ). word 2 0 ∷ word 22 4 ∷ word 16 (count_f es) ∷ (written word es ++ xs))
      (written_append word (prefix c b) (append_f name (node d end end)) ∙ ap (λ (xs : List ℕ). xs ++ written word (append_f name (node d end end))) (prefix_written c b) ∙ ap (prefix_words word b c ++◌) last)

  -- of a member with the label l whose children are an empty 28, the key k and others; s: the state in front of its own work
  module _ (l d k : Label) (x r es : Trees) (s : State) (plain : Bool) where
    done : Result
    done = called₁ plain l (node d end (node k x r)) es (descriptor_by l) end (class_symbol around.id s.default s)

    called_written : is_plain_key k ≡ plain → written word done.calls ≡
        word 2 0 ∷ word 22 4 ∷ word 16 (count_f es) ∷
        (written word es ++
        (prefix_words word (bit bit0 l) (symbol_of around.id done.after.default) ++ (name_word word k plain (done.after.next - 1) ∷ word (cond (is 31 l) 14 13) 0 ∷ [])))
    unfolding done called₁ called₂ name_of take_f drop_f append_f
    called_written p =
        let t : Taken = class_symbol around.id s.default s in
        let n : ℕ = name_word word k plain ((name_if plain k x t.after).after.next - 1) in
        call_written es t.symbol (bit bit0 l) (name_if plain k x t.after).name n (descriptor_by l) (name_written k x plain t.after p)
        ∙ ap (λ (w : ℕ). word 2 0 ∷ word 22 4 ∷ word 16 (count_f es) ∷ (written word es ++ (prefix_words word (bit bit0 l) t.symbol ++ (n ∷ w ∷ [])))) (descriptor_word word l)
        ∙ ap (λ (c : ℕ). word 2 0 ∷ word 22 4 ∷ word 16 (count_f es) ∷ (written word es ++ (prefix_words word (bit bit0 l) c ++ (n ∷ word (cond (is 31 l) 14 13) 0 ∷ []))))
        (symbol_after around.id s ∙ ap (symbol_of around.id) (sym (name_default plain k x t.after)))

    called_count : count_f done.calls ≡ 1
    unfolding done called₁ called₂ append_f member_call tree count_f
    called_count = refl

  module _ (whole : Fits (module' ∷ []) (records_at ws 0)) (at : ℕ) (h : at < length ws) (s : State) where
    -- ---- decorators of parameters

    -- one decorator, where an expression stands: below the 28 at d
    pub indexed_written : (i d : ℕ) (j : ℕ) → (label_at ws d).kind ≡ 28 → d < length ws → j < arity_at ws d → at ≡ end_of ws (d + 1) j →
        written word (indexed i (visit_at ws at 1 around s).here) ≡ word 23 i ∷ written word (visit_at ws at 1 around s).here
    indexed_written i d j e g b p =
        let a : Allowed expression (label_at ws at) =
        subst (λ (q : ℕ). Allowed expression (label_at ws q)) (sym p) (decorators_nth ws d whole g j e b).1 in
        let o : Stays (label_at ws at) (visit_at ws at 1 around s).here = expression_stays ws at expression around s h refl a in
        ap (λ (f : Trees). written word (indexed i f)) o.whole
        ∙ indexed_tree word i (label_at ws at) o.below
        ∙ ap (λ (f : Trees). word 23 i ∷ written word f) (sym o.whole)

    -- the decorators of the parameter at `at`
    pub of_parameter : (i : ℕ) → (label_at ws at).kind ≡ 37 →
        of_parameters i (visit_at ws at 1 around s).here ≡ indexed i (visit_at ws (at + 2) (arity_at ws (at + 1)) around s).here
    of_parameter i e =
        let k : Trees = (visit around (kids_at ws at) s).here in
        ap (of_parameters i) (plain_here ws around at s h (plain_37 (label_at ws at) e))
        ∙ parameters_one i (label_at ws at) k
        ∙ ap (indexed i) (marked_decorators ws around at s (parameter_marked ws at whole h e))

    -- ---- members

    kids_quiet : (row_of (label_at ws at).kind).category ≡ Element → (a : Around) (t : State) → (visit a (kids_at ws at) t).calls ≡ end
    kids_quiet e a t = element_quiet ws at (standing_at ws (module' ∷ []) whole at h) a t e

    -- of a field: its own decorators; of a method also its parameters', below the 36 at q2
    pub entries_field : is_member (label_at ws at) ≡ true → is 30 (label_at ws at) ≡ false →
        entries at s ≡ (visit_at ws (at + 2) (arity_at ws (at + 1)) around s).here
    unfolding entries
    entries_field e n =
        field_entries (label_at ws at) (visit around (kids_at ws at) s).here e n
        ∙ marked_decorators ws around at s (member_keyed ws at whole h e).marked

    pub entries_method : is_member (label_at ws at) ≡ true → is 30 (label_at ws at) ≡ true →
        entries at s ≡ append_f (visit_at ws (at + 2) (arity_at ws (at + 1)) around s).here
        (of_parameters 0 (visit around (kids_at ws (end_of ws (at + 1) 2)) (visit_at ws (at + 1) 2 around s).after).here)
    unfolding entries
    entries_method e n =
        let c : Called ws at = method_called ws at whole h (kind_is (label_at ws at) 30 n) in
        method_entries (label_at ws at) (visit around (kids_at ws at) s).here e n
        ∙ ap (λ (f : Trees). append_f f (of_parameters 0 (parameters_of (visit around (kids_at ws at) s).here))) (marked_decorators ws around at s c.keyed.marked)
        ∙ ap (λ (f : Trees). append_f (visit_at ws (at + 2) (arity_at ws (at + 1)) around s).here (of_parameters 0 f)) (called_parameters ws around at s c)

    -- an element that queues nothing
    pub call_none : Allowed element (label_at ws at) → is_decorated_member (label_at ws at) (kids_at ws at) ≡ false →
        (visit_one around (label_at ws at) (kids_at ws at) s).calls ≡ end
    call_none n e = one_quiet around (label_at ws at) (kids_at ws at) s e λ a t. kids_quiet (allowed_row element (label_at ws at).kind (label_at ws at).payload n.grammar).0 a t

    -- a decorated member of a live class, by its children without decorators
    record Queued : Type 0 where
      below : Trees
      rest : Trees
      calls : (visit_one around (label_at ws at) (kids_at ws at) s).calls ≡
          (done (label_at ws at) (repay (label_at ws (at + 1)) 0) (label_at ws (key_at ws at)) below rest (entries at s) (visit around (kids_at ws at) s).after (has_plain_key (kids_at ws at))).calls
      after : (visit_one around (label_at ws at) (kids_at ws at) s).after ≡
          (done (label_at ws at) (repay (label_at ws (at + 1)) 0) (label_at ws (key_at ws at)) below rest (entries at s) (visit around (kids_at ws at) s).after (has_plain_key (kids_at ws at))).after

    queue_one : around.live ≡ true → is_decorated_member (label_at ws at) (kids_at ws at) ≡ true → is_member (label_at ws at) ≡ true → Queued
    unfolding entries done member member_if since
    queue_one a e m =
        let l : Label = label_at ws at in
        let kids : Trees = kids_at ws at in
        let r : Result = visit around kids s in
        let es : Trees = decorators_of (role_of l) r.here in
        let b = member_bare word ws around whole at h s m in
        let f : Trees = node (repay (label_at ws (at + 1)) 0) end (node (label_at ws (key_at ws at)) b.below b.rest) in
        let c : (around.live && is_decorated_member l kids) ≡ true = ap (◌&& is_decorated_member l kids) a ∙ e in
        let q : r.calls ≡ end = kids_quiet (member_row l m) around s in
        let t : Taken = class_symbol around.id r.after.default r.after in
        let made : visit_one around l kids s ≡ since (role_of l) l (member_if true around l kids f es (descriptor_by l) r) r =
        member_one around l kids s m
        ∙ ap (λ (x : Bool). since (role_of l) l (member_if x around l kids (bare_by l r.here) es (descriptor_by l) r) r) c
        ∙ ap (λ (g : Trees). since (role_of l) l (member_if true around l kids g es (descriptor_by l) r) r) b.whole in
        record {
          below = b.below;
          rest = b.rest;
          calls = ap (λ (x : Result). x.calls) made ∙ ap (λ (g : Trees). (called₁ (has_plain_key kids) l f es (descriptor_by l) g t).calls) q;
          after = ap (λ (x : Result). x.after) made ∙ ap (λ (g : Trees). (called₁ (has_plain_key kids) l f es (descriptor_by l) g t).after) q;
        }

    pub call_one : around.live ≡ true → is_decorated_member (label_at ws at) (kids_at ws at) ≡ true →
        written word (visit_one around (label_at ws at) (kids_at ws at) s).calls ≡ call_words at s
    unfolding call_words argument_words key_at
    call_one a e =
        let l : Label = label_at ws at in
        let k : Label = label_at ws (key_at ws at) in
        let kids : Trees = kids_at ws at in
        let m : is_member l ≡ true = decorated_member l kids e in
        let q : Queued = queue_one a e m in
        let words : State → List ℕ = λ t.
        word 2 0 ∷ word 22 4 ∷ word 16 (count_f (entries at s)) ∷
        (written word (entries at s) ++
        (prefix_words word (bit bit0 l) (symbol_of around.id t.default) ++ (name_word word k (has_plain_key kids) (t.next - 1) ∷ word (cond (is 31 l) 14 13) 0 ∷ []))) in
        ap (written word) q.calls
        ∙ called_written l (repay (label_at ws (at + 1)) 0) k q.below q.rest (entries at s) (visit around kids s).after (has_plain_key kids) (sym (key_plain ws at (member_keyed ws at whole h m)))
        ∙ ap words (sym q.after)

    pub call_count : around.live ≡ true → is_decorated_member (label_at ws at) (kids_at ws at) ≡ true →
        count_f (visit_one around (label_at ws at) (kids_at ws at) s).calls ≡ 1
    call_count a e =
        let q : Queued = queue_one a e (decorated_member (label_at ws at) (kids_at ws at) e) in
        ap count_f q.calls ∙ called_count _ _ _ _ _ _ _ _

    -- the calls of the element at `at` and of the k behind it
    pub calls_more : (k : ℕ) → (visit_at ws at (1 + k) around s).calls ≡
        append_f (visit_one around (label_at ws at) (kids_at ws at) s).calls
        (visit_at ws (end_of ws at 1) k around (visit_one around (label_at ws at) (kids_at ws at) s).after).calls
    calls_more k =
        calls_add ws around at 1 k s
        ∙ ap (λ (f : Trees). append_f f (visit_at ws (end_of ws at 1) k around (visit_at ws at 1 around s).after).calls) (one_calls ws around at s h)
        ∙ ap (λ (t : State). append_f (visit_one around (label_at ws at) (kids_at ws at) s).calls (visit_at ws (end_of ws at 1) k around t).calls) (one_after ws around at s h)
