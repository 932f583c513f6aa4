-- What stays of an element without its decorators, in the order in which it is written. Assumes nothing.
use Rattle.std.specs.Prelude.{◌≡◌, ◌&&◌, length}
use Rattle.std.proofs.Math.Path.{refl, ap, sym}
use Rattle.std.proofs.Common.{◌∙◌}
use Rattle.std.proofs.Math.Bool.{Bool, true, false, not, cond}
use mathlib.Core.List.{List, [], ◌∷◌, ◌++◌}
use Prim.Native.Nat.{ℕ, suc, ◌+◌, ◌-◌, ◌<◌}
use native.Mathlib.Omega.{arith}
use Rattle.records.specs.Forest.{end, node, take_f, drop_f, append_f}
use Rattle.records.specs.Label.{Label, Trees, ◌∶◌, repay, is}
use Rattle.records.specs.Place.{records_at, label_at, arity_at, kids_at, end_of}
use Rattle.grammar.specs.Grammar.{module'}
use Rattle.grammar.specs.WellFormed.{Fits}
use Rattle.rewriting.specs.Parts.{tree, role_of, decorators_of, undecorate, bare_parameters, bare_method, bare_field, is_member, is_constructor, is_decorated_member, has_plain_key}
use Rattle.rewriting.specs.Visit.{Result, Taken, class_symbol, name_if, name_of, with_key, called₁, called₂, member_if, member, since, visit, visit_one}
use Rattle.rewriting.specs.declared.Around.{Around}
use Rattle.rewriting.specs.declared.State.{State}
use Rattle.walk_laws.specs.Rows.{visit_at, plain_here}
use Rattle.walk_laws.specs.Written.{word_by, written, written_end, written_node, written_tree}
use Rattle.walk_laws.specs.Roles.{is_kind, kind_is, plain_37, constructor_kind, bare_by, descriptor_by, member_one}
use Rattle.walk_laws.specs.Elements.{Marked, Keyed, Called, key_at, parameters_at, at_key, at_parameters, marked_bare, key_stays, keyed_here, called_bare, parameter_marked, method_called, member_keyed}

kind_word : (word : ℕ → ℕ → ℕ) (l : Label) (k : ℕ) → l.kind ≡ k → word_by word l ≡ word k l.payload
unfolding word_by
kind_word word l k e = ap (λ (n : ℕ). word n l.payload) e

-- ---- a member's own work on an empty 28, a key and others

-- an element with an empty 28
module _ (word : ℕ → ℕ → ℕ) (l d : Label) where
  written_element : (f : Trees) → written word (tree l (node d end f)) ≡ word_by word l ∷ word_by word d ∷ written word f
  unfolding tree
  written_element f =
      written_tree word l (node d end f)
      ∙ ap (word_by word l ∷◌) (written_node word d end f ∙ ap (λ (xs : List ℕ). word_by word d ∷ (xs ++ written word f)) (written_end word))

module _ (word : ℕ → ℕ → ℕ) (l d k : Label) (x r : Trees) where
  written_assigned : (n : ℕ) → written word (node (18 ∶ n) (tree k x) r) ≡ word 18 n ∷ written word (node k x r)
  unfolding tree word_by ◌∶◌
  written_assigned n =
      written_node word (18 ∶ n) (node k x end) r
      ∙ ap (λ (xs : List ℕ). word 18 n ∷ (xs ++ written word r)) (written_tree word k x)
      ∙ ap (word 18 n ∷◌) (sym (written_node word k x r))

  -- by the name that it takes; t: the state once the class has a symbol
  named_written : (b : Bool) (entries calls : Trees) (e : Label) (t : Taken) →
      written word (called₁ b l (node d end (node k x r)) entries e calls t).here ≡
      word_by word l ∷ word_by word d ∷ (cond (not b) (word 18 ((called₁ b l (node d end (node k x r)) entries e calls t).after.next - 1) ∷ []) [] ++ written word (node k x r))
  unfolding called₁ called₂ with_key name_of name_if tree take_f drop_f append_f
  named_written true entries calls e t = written_element word l d (node k x r)
  named_written false entries calls e t =
      let n : suc t.after.next - 1 ≡ t.after.next = omega arith in
      written_element word l d (node (18 ∶ t.after.next) (node k x end) r)
      ∙ ap (λ (xs : List ℕ). word_by word l ∷ word_by word d ∷ xs) (written_assigned t.after.next ∙ ap (λ (m : ℕ). word 18 m ∷ written word (node k x r)) (sym n))

  member_if_written : (b : Bool) (around : Around) (kids entries : Trees) (e : Label) (a : Result) →
      written word (member_if b around l kids (node d end (node k x r)) entries e a).here ≡
      word_by word l ∷ word_by word d ∷
      (cond (b && not (has_plain_key kids)) (word 18 ((member_if b around l kids (node d end (node k x r)) entries e a).after.next - 1) ∷ []) [] ++ written word (node k x r))
  unfolding member_if
  member_if_written true around kids entries e a = named_written (has_plain_key kids) entries a.calls e (class_symbol around.id a.after.default a.after)
  member_if_written false around kids entries e a = written_element word l d (node k x r)

-- ---- parameters without decorators

pub bare_append : (f g : Trees) → bare_parameters (append_f f g) ≡ append_f (bare_parameters f) (bare_parameters g)
unfolding bare_parameters append_f
bare_append end g = refl
bare_append (node l k r) g = ap (node l (undecorate k)) (bare_append r g)

bare_one : (l : Label) (k : Trees) → bare_parameters (tree l k) ≡ tree l (undecorate k)
unfolding bare_parameters tree
bare_one l k = refl

-- ---- by place

module _ (word : ℕ → ℕ → ℕ) (ws : List ℕ) (around : Around) where
  -- the words of the 36 at q whose parameters lose their decorators; s: the state in front of it
  unfoldable pub parameters_words : ℕ → State → List ℕ
  parameters_words q s = word 36 (label_at ws q).payload ∷ written word (bare_parameters (visit around (kids_at ws q) s).here)

  -- from the key at q1 on, of a method with n children; s1: the state in front of the key
  unfoldable pub method_words : ℕ → ℕ → State → List ℕ
  method_words n q1 s1 =
      let q2 = end_of ws q1 1 in
      let s2 = (visit_at ws q1 1 around s1).after in
      written word (visit_at ws q1 1 around s1).here ++
      (parameters_words q2 s2 ++ written word (visit_at ws (end_of ws q2 1) (n - 3) around (visit_at ws q2 1 around s2).after).here)

  -- from the key on, of the element at `at`
  unfoldable pub bare_words : ℕ → State → List ℕ
  bare_words at s =
      let q1 = end_of ws (at + 1) 1 in
      let s1 = (visit_at ws (at + 1) 1 around s).after in
      cond (is 30 (label_at ws at)) (method_words (arity_at ws at) q1 s1) (written word (visit_at ws q1 (arity_at ws at - 1) around s1).here)

  -- rule 5: the assignment to a computed key's symbol, the last one taken
  unfoldable pub key_words : ℕ → State → List ℕ
  key_words at s =
      cond (around.live && is_decorated_member (label_at ws at) (kids_at ws at) && not (has_plain_key (kids_at ws at)))
      (word 18 ((visit_one around (label_at ws at) (kids_at ws at) s).after.next - 1) ∷ []) []

  -- ---- the children without decorators

  -- an empty 28, the key and others, which come to the words from the key on
  pub record Bare (at : ℕ) (s : State) (f : Trees) : Type 0 where
    pub below : Trees
    pub rest : Trees
    pub whole : f ≡ node (repay (label_at ws (at + 1)) 0) end (node (label_at ws (key_at ws at)) below rest)
    pub words : written word (node (label_at ws (key_at ws at)) below rest) ≡ bare_words at s

  module _ (at : ℕ) (s : State) where
    key_words_lem : (y : Keyed ws at) → written word (visit_at ws (key_at ws at) 1 around (at_key ws around at s)).here ≡
        word_by word (label_at ws (key_at ws at)) ∷ written word (key_stays ws around at s y).below
    key_words_lem y = ap (written word) (key_stays ws around at s y).whole ∙ (unfold tree in written_tree word (label_at ws (key_at ws at)) (key_stays ws around at s y).below)

    method_words_lem : is 30 (label_at ws at) ≡ true → bare_words at s ≡
        written word (visit_at ws (key_at ws at) 1 around (at_key ws around at s)).here ++
        (parameters_words (parameters_at ws at) (at_parameters ws around at s) ++
        written word (visit_at ws (end_of ws (parameters_at ws at) 1) (arity_at ws at - 3) around (visit_at ws (parameters_at ws at) 1 around (at_parameters ws around at s)).after).here)
    unfolding bare_words method_words key_at at_key parameters_at at_parameters
    method_words_lem e = rw e

    field_words : is 30 (label_at ws at) ≡ false → bare_words at s ≡ written word (visit_at ws (key_at ws at) (arity_at ws at - 1) around (at_key ws around at s)).here
    unfolding bare_words key_at at_key
    field_words e = rw e

    method_bare : (c : Called ws at) → is 30 (label_at ws at) ≡ true → Bare at s (bare_method (visit around (kids_at ws at) s).here)
    method_bare c e =
        let q2 : ℕ = parameters_at ws at in
        let s2 : State = at_parameters ws around at s in
        let k : Label = label_at ws (key_at ws at) in
        let y : Trees = (key_stays ws around at s c.keyed).below in
        let z : Trees = bare_parameters (visit around (kids_at ws q2) s2).here in
        let w : Trees = (visit_at ws (end_of ws q2 1) (arity_at ws at - 3) around (visit_at ws q2 1 around s2).after).here in
        record {
          below = y;
          rest = node (label_at ws q2) z w;
          whole = called_bare ws around at s c;
          words =
              written_node word k y (node (label_at ws q2) z w)
              ∙ ap (λ (xs : List ℕ). (word_by word k ∷ written word y) ++ xs) (written_node word (label_at ws q2) z w)
              ∙ ap (λ (m : ℕ). (word_by word k ∷ written word y) ++ (m ∷ (written word z ++ written word w))) (kind_word word (label_at ws q2) 36 c.kind)
              ∙ ap (λ (xs : List ℕ). xs ++ (word 36 (label_at ws q2).payload ∷ (written word z ++ written word w))) (sym (key_words_lem c.keyed))
              ∙ (unfold parameters_words in sym (method_words_lem e));
        }

    field_bare : (y : Keyed ws at) → is 30 (label_at ws at) ≡ false → Bare at s (bare_field (visit around (kids_at ws at) s).here)
    unfolding bare_field
    field_bare y e = record {
      below = (key_stays ws around at s y).below;
      rest = (visit_at ws (parameters_at ws at) (arity_at ws at - 2) around (at_parameters ws around at s)).here;
      whole = marked_bare ws around at s y.marked ∙ ap (node (repay (label_at ws (at + 1)) 0) end) (keyed_here ws around at s y);
      words = ap (written word) (sym (keyed_here ws around at s y)) ∙ sym (field_words e);
    }

    -- an empty 28 is written as 28:0
    empty_word : Marked ws at → word_by word (repay (label_at ws (at + 1)) 0) ≡ word 28 0
    unfolding repay
    empty_word m = kind_word word (repay (label_at ws (at + 1)) 0) 28 m.kind

  module _ (whole : Fits (module' ∷ []) (records_at ws 0)) (at : ℕ) (h : at < length ws) (s : State) where
    pub member_bare : is_member (label_at ws at) ≡ true → Bare at s (bare_by (label_at ws at) (visit around (kids_at ws at) s).here)
    unfolding bare_by
    member_bare m = go (is 30 (label_at ws at)) refl
      where
        go : (b : Bool) → is 30 (label_at ws at) ≡ b → Bare at s (cond b (bare_method (visit around (kids_at ws at) s).here) (bare_field (visit around (kids_at ws at) s).here))
        go true e = method_bare at s (method_called ws at whole h (kind_is (label_at ws at) 30 e)) e
        go false e = field_bare at s (member_keyed ws at whole h m) e

    -- a member
    pub member_written : is_member (label_at ws at) ≡ true →
        written word (visit_one around (label_at ws at) (kids_at ws at) s).here ≡ word_by word (label_at ws at) ∷ word 28 0 ∷ (key_words at s ++ bare_words at s)
    unfolding key_words since member
    member_written e =
        let l : Label = label_at ws at in
        let kids : Trees = kids_at ws at in
        let a : Result = visit around kids s in
        let es : Trees = decorators_of (role_of l) a.here in
        let b = member_bare e in
        let d : Label = repay (label_at ws (at + 1)) 0 in
        let f : Trees = node (label_at ws (key_at ws at)) b.below b.rest in
        let c : Bool = around.live && is_decorated_member l kids in
        let k : State → List ℕ = λ t. cond (c && not (has_plain_key kids)) (word 18 (t.next - 1) ∷ []) [] in
        let here : (visit_one around l kids s).here ≡ (member_if c around l kids (node d end f) es (descriptor_by l) a).here =
        ap (λ (r : Result). r.here) (member_one around l kids s e) ∙ ap (λ (g : Trees). (member_if c around l kids g es (descriptor_by l) a).here) b.whole in
        let after : (visit_one around l kids s).after ≡ (member_if c around l kids (node d end f) es (descriptor_by l) a).after =
        ap (λ (r : Result). r.after) (member_one around l kids s e) ∙ ap (λ (g : Trees). (member_if c around l kids g es (descriptor_by l) a).after) b.whole in
        ap (written word) here
        ∙ member_if_written word l d (label_at ws (key_at ws at)) b.below b.rest c around kids es (descriptor_by l) a
        ∙ ap (λ (t : State). word_by word l ∷ word_by word d ∷ (k t ++ written word f)) (sym after)
        ∙ ap (λ (xs : List ℕ). word_by word l ∷ word_by word d ∷ (k (visit_one around l kids s).after ++ xs)) b.words
        ∙ ap (λ (m : ℕ). word_by word l ∷ m ∷ (k (visit_one around l kids s).after ++ bare_words at s)) (empty_word at s (member_keyed ws at whole h e).marked)

    -- a constructor that gives up its parameters' decorators
    pub constructor_written : is_constructor (label_at ws at) ≡ true →
        written word (tree (label_at ws at) (bare_method (visit around (kids_at ws at) s).here)) ≡ word_by word (label_at ws at) ∷ word 28 0 ∷ bare_words at s
    constructor_written e =
        let k : (label_at ws at).kind ≡ 30 = constructor_kind (label_at ws at) e in
        let c : Called ws at = method_called ws at whole h k in
        let b = method_bare at s c (is_kind (label_at ws at) 30 k) in
        ap (λ (f : Trees). written word (tree (label_at ws at) f)) b.whole
        ∙ written_element word (label_at ws at) (repay (label_at ws (at + 1)) 0) (node (label_at ws (key_at ws at)) b.below b.rest)
        ∙ ap (λ (xs : List ℕ). word_by word (label_at ws at) ∷ word_by word (repay (label_at ws (at + 1)) 0) ∷ xs) b.words
        ∙ ap (λ (m : ℕ). word_by word (label_at ws at) ∷ m ∷ bare_words at s) (empty_word at s c.keyed.marked)

    -- one parameter without decorators
    pub parameter_written : (label_at ws at).kind ≡ 37 →
        written word (bare_parameters (visit_at ws at 1 around s).here) ≡
        word 37 (label_at ws at).payload ∷ word 28 0 ∷ written word (visit_at ws (end_of ws (at + 1) 1) (arity_at ws at - 1) around (visit_at ws (at + 1) 1 around s).after).here
    unfolding key_at at_key
    parameter_written e =
        let l : Label = label_at ws at in
        let m : Marked ws at = parameter_marked ws at whole h e in
        let r : Trees = (visit_at ws (key_at ws at) (arity_at ws at - 1) around (at_key ws around at s)).here in
        ap (λ (f : Trees). written word (bare_parameters f)) (plain_here ws around at s h (plain_37 l e))
        ∙ ap (written word) (bare_one l (visit around (kids_at ws at) s).here)
        ∙ ap (λ (f : Trees). written word (tree l f)) (marked_bare ws around at s m)
        ∙ written_element word l (repay (label_at ws (at + 1)) 0) r
        ∙ ap (λ (n : ℕ). n ∷ word_by word (repay (label_at ws (at + 1)) 0) ∷ written word r) (kind_word word l 37 e)
        ∙ ap (λ (n : ℕ). word 37 l.payload ∷ n ∷ written word r) (empty_word at s m)
