-- Laws for the walkers of records that are kept, of lists, of a module and of classes that aren't live. Assumes nothing.
use Rattle.std.specs.Prelude.{◌≡◌, Bool, true, false, length, get_or, replicate}
use Rattle.records.specs.declared.Note.{Note}
use Rattle.std.proofs.Math.Path.{refl, ap, sym, subst}
use Rattle.std.proofs.Common.{◌∙◌, zero-add}
use Rattle.std.proofs.Math.Logic.{⊎_elim}
use Rattle.std.specs.declared.option.Option.{Option}
use Rattle.std.specs.declared.option.Option.TheVariants.{None as none}
use mathlib.Core.List.{List, [], ◌∷◌, ◌++◌}
use Prim.Native.Nat.{ℕ, suc, ◌+◌, ◌-◌, ◌*◌, ◌<◌, ◌≤◌}
use native.Mathlib.Omega.{arith}
use Rattle.words.specs.Table.{lookup}
use Rattle.words.specs.Word.{kind_of, payload_of, children, child_table}
use Rattle.records.specs.Forest.{end, node, flat, take_f, append_f, count_f, size, size_node, size_append}
use Rattle.records.specs.Label.{Label, Trees, read_at, repay, arity}
use Rattle.records.specs.Place.{records_at, label_at, arity_at, kids_at, end_of, end_one, end_none, end_high}
use Rattle.output.specs.Overlay.{Wrote, wrote_then, wrote_front}
use Rattle.grammar.specs.Grammar.{Slot, row, table, row_of, slots, slots_below, module', symbols, own_statement}
use Rattle.grammar.proofs.Children.{allowed_sole}
use Rattle.grammar.proofs.Rows.{sole_kind}
use Rattle.grammar.specs.WellFormed.{Fits}
use Rattle.rewriting.specs.Parts.{module' as module_role, list, expression, plain, role_of, tree, recount, is_member, is_live, class_kids, id_of}
use Rattle.rewriting.specs.Visit.{Result, visit, visit_one, work, since, own, dead_class, whole_module, inside, entering}
use Rattle.rewriting.specs.declared.Around.{Around}
use Rattle.rewriting.specs.declared.State.{State}
use Rattle.class_stack.specs.declared.ClassStack.{ClassStack}
use Rattle.walk_laws.specs.Rows.{visit_at, fresh, here_add}
use Rattle.walk_laws.specs.Written.{word_by, written, written_tree, written_node}
use Rattle.walk_laws.specs.Slots.{Standing, standing_at, RowFits, kind_row, row_first}
use Rattle.walk_laws.specs.Single.{Stays, keeps, one_stays}
use Rattle.walk_laws.specs.Roles.{role_20, Sort, is_method, is_property, is_accessor, member_sort}
use Rattle.walk_laws.specs.Members.{member_written}
use Rattle.walk_laws.specs.After.{after_list, after_module, after_expression}
use Rattle.walk_laws.specs.Kinds.{class_one, class_row_one, class_kids_lem}
use Rattle.transform.specs.Contract.{begun, word_below, words_of, here_at, after_at, Asks, Moved, Emitted, kids_here, behind_words, member_words}
use Rattle.transform.specs.Steps.{state_high, asks_row, asks_place, asks_kids, emit_add, emit_past, size_more, here_none, after_none, here_more, after_more, end_more', here_one, after_one, here_kids, after_kids, length_words}
use Rattle.transform.specs.Plain.{is_plain, class_here, class_after_lem}
use Rattle.transform.specs.Kept.{kept_plain, StaysAt, ScopeBelow}
use Rattle.transform.specs.declared.Walk.{Walk}

-- ---- what a record becomes, by its role

module _ (around : Around) (l : Label) (k : Trees) (s : State) where
  list_here : role_of l ≡ list → (visit_one around l k s).here ≡ tree (recount l (visit around k s).here) (visit around k s).here
  unfolding visit_one work since
  list_here e = rw e (unfold own inside entering in refl)

  module_here : role_of l ≡ module_role → (visit_one around l k s).here ≡ whole_module l (visit around k s).here (visit around k s).after.next
  unfolding visit_one work since
  module_here e = rw e (unfold own inside entering in refl)

  expression_here : role_of l ≡ expression → (visit_one around l k s).here ≡ tree l (visit (record { live = false; id = none }) k (fresh s.next)).here
  unfolding visit_one work since
  expression_here e = rw e (unfold own dead_class inside entering fresh in refl)

-- ---- words of one record

pub words_tree : (c : ClassStack) (l : Label) (f : Trees) → words_of c (tree l f) ≡ word_below c l.kind l.payload ∷ words_of c f
unfolding words_of tree
words_tree c l f = written_tree (word_below c) l f ∙ (unfold word_by in refl)

count_tree : (l : Label) (f : Trees) → count_f (tree l f) ≡ 1
unfolding tree count_f
count_tree l f = refl

size_tree : (l : Label) (f : Trees) → size (tree l f) ≡ suc (size f)
unfolding tree
size_tree l f = let z : size {A = Label} end ≡ 0 = unfold size flat in refl in omega (arith, size_node l f end, z)

module _ (ws : List ℕ) (at : ℕ) (a : Around) (s : State) (c : ClassStack) (h : at < length ws) where
  kids_here_lem : (visit a (kids_at ws at) s).here ≡ here_at ws (at + 1) (arity_at ws at) a s
  unfolding kids_here
  kids_here_lem = sym (here_kids ws at a s)

  -- one record over f, its word put in front of f's
  pub emit_tree : (l : Label) (f : Trees) (s₁ : State) (q x : ℕ) {o : List ℕ} {pos m : ℕ} {o' : List ℕ} → here_at ws at 1 a s ≡ tree l f →
      Wrote o pos (word_below c l.kind l.payload ∷ words_of c f) o' q → after_at ws at 1 a s ≡ s₁ → x ≡ end_of ws (at + 1) (arity_at ws at) →
      Emitted ws at 1 a s c o pos m o' (record { at = x; pos = q; state = s₁; count = m + 1 })
  emit_tree l f s₁ q x {o} {pos} {m} {o'} t w st p = record {
    moved = record {
      wrote = subst (λ (u : List ℕ). Wrote o pos u o' q) (sym (ap (words_of c) t ∙ words_tree c l f)) w;
      place = p ∙ sym (end_one ws at h);
      state = st;
    };
    number = ap (m +◌) (sym (ap count_f t ∙ count_tree l f));
  }

  -- ---- a list of statements

  list_tree : role_of (label_at ws at) ≡ list → here_at ws at 1 a s ≡ tree (recount (label_at ws at) (here_at ws (at + 1) (arity_at ws at) a s)) (here_at ws (at + 1) (arity_at ws at) a s)
  list_tree r =
      here_one ws at a s h ∙ list_here a (label_at ws at) (kids_at ws at) s r
      ∙ ap (λ (f : Trees). tree (recount (label_at ws at) f) f) kids_here_lem

  pub list_size : role_of (label_at ws at) ≡ list → size (here_at ws at 1 a s) ≡ suc (size (here_at ws (at + 1) (arity_at ws at) a s))
  list_size r = ap size (list_tree r) ∙ size_tree (recount (label_at ws at) (here_at ws (at + 1) (arity_at ws at) a s)) (here_at ws (at + 1) (arity_at ws at) a s)

  pub emit_list : (k n : ℕ) {o : List ℕ} {pos m : ℕ} {o₁ : List ℕ} {o₂ : List ℕ} {r : Walk} {q : ℕ} → role_of (label_at ws at) ≡ list → k ≡ (label_at ws at).kind → n ≡ arity_at ws at →
      Emitted ws (at + 1) n a s c o (pos + 1) 0 o₁ r → Wrote o₁ pos (word_below c k r.count ∷ []) o₂ q →
      Emitted ws at 1 a s c o pos m o₂ (record { at = r.at; pos = r.pos; state = r.state; count = m + 1 })
  unfolding recount repay
  emit_list k n {o} {pos} {m} {o₁} {o₂} {r} {q} role ek en y w =
      let f : Trees = here_at ws (at + 1) (arity_at ws at) a s in
      let y' : Emitted ws (at + 1) (arity_at ws at) a s c o (pos + 1) 0 o₁ r = subst (λ (i : ℕ). Emitted ws (at + 1) i a s c o (pos + 1) 0 o₁ r) en y in
      let w' : Wrote o₁ pos (word_below c (label_at ws at).kind (count_f f) ∷ []) o₂ q = subst (λ (i : ℕ). Wrote o₁ pos (word_below c (label_at ws at).kind i ∷ []) o₂ q) (y'.number ∙ zero-add _) (subst (λ (i : ℕ). Wrote o₁ pos (word_below c i r.count ∷ []) o₂ q) ek w) in
      emit_tree (recount (label_at ws at) f) f r.state r.pos r.at (list_tree role) (wrote_front y'.moved.wrote w')
      (after_one ws at a s h ∙ after_list a (label_at ws at) (kids_at ws at) s role ∙ sym (after_kids ws at a s) ∙ y'.moved.state) y'.moved.place

  -- ---- a class under a word that stays: an expression, or a plain statement

  fresh_in : fresh s.next ≡ begun s.next
  unfolding fresh
  fresh_in = refl

  scope_of : (b : Around) (x : Bool) (o : Option ℕ) → b.live ≡ x → b.id ≡ o → record { live = x; id = o } ≡ b
  scope_of b x o l i = sym (rw (l, i))

  cover_row : (b : Around) (x : Bool) (o : Option ℕ) → b.live ≡ x → b.id ≡ o → kids_at ws at ≡ take_f 1 (records_at ws (at + 1)) →
      visit (record { live = x; id = o }) (kids_at ws at) (fresh s.next) ≡ visit_at ws (at + 1) 1 b (begun s.next)
  unfolding visit_at
  cover_row b x o l i k =
      ap (λ (y : Around). visit y (kids_at ws at) (fresh s.next)) (scope_of b x o l i)
      ∙ ap (λ (f : Trees). visit b f (fresh s.next)) k
      ∙ ap (λ (y : State). visit b (take_f 1 (records_at ws (at + 1))) y) fresh_in

  -- either way it is a tree over the class below, with the default symbol of the class around
  module _ (b : Around) (x : Bool) (o : Option ℕ) (l : b.live ≡ x) (i : b.id ≡ o) (one : arity_at ws at ≡ 1) (kids : kids_at ws at ≡ take_f 1 (records_at ws (at + 1)))
      (here : (visit_one a (label_at ws at) (kids_at ws at) s).here ≡ tree (label_at ws at) (visit (record { live = x; id = o }) (kids_at ws at) (fresh s.next)).here)
      (after : (visit_one a (label_at ws at) (kids_at ws at) s).after ≡ record { next = (visit (record { live = x; id = o }) (kids_at ws at) (fresh s.next)).after.next; default = s.default }) where
    cover_tree : here_at ws at 1 a s ≡ tree (label_at ws at) (here_at ws (at + 1) 1 b (begun s.next))
    unfolding here_at
    cover_tree = (unfold here_at in here_one ws at a s h) ∙ here ∙ ap (λ (r : Result). tree (label_at ws at) r.here) (cover_row b x o l i kids)

    cover_size : size (here_at ws at 1 a s) ≡ suc (size (here_at ws (at + 1) 1 b (begun s.next)))
    cover_size = ap size cover_tree ∙ size_tree (label_at ws at) (here_at ws (at + 1) 1 b (begun s.next))

    cover_state : (visit (record { live = x; id = o }) (kids_at ws at) (fresh s.next)).after ≡ after_at ws (at + 1) 1 b (begun s.next)
    unfolding after_at
    cover_state = ap (λ (r : Result). r.after) (cover_row b x o l i kids)

    cover_after : (s₁ : State) → after_at ws (at + 1) 1 b (begun s.next) ≡ s₁ → after_at ws at 1 a s ≡ record { next = s₁.next; default = s.default }
    cover_after s₁ t =
        after_one ws at a s h ∙ after ∙ ap (λ (y : State). record { next = y.next; default = s.default }) (cover_state ∙ t)

    emit_cover : (k p : ℕ) {o₀ : List ℕ} {pos m m₁ : ℕ} {o₁ : List ℕ} {q : ℕ} {o₂ : List ℕ} {r : Walk} → k ≡ (label_at ws at).kind → p ≡ (label_at ws at).payload →
        Wrote o₀ pos (word_below c k p ∷ []) o₁ q → Emitted ws (at + 1) 1 b (begun s.next) c o₁ q m₁ o₂ r →
        Emitted ws at 1 a s c o₀ pos m o₂ (record { at = r.at; pos = r.pos; state = record { next = r.state.next; default = s.default }; count = m + 1 })
    emit_cover k p {o₀} {pos} {m} {m₁} {o₁} {q} {o₂} {r} ek ep w y =
        let w' : Wrote o₀ pos (word_below c (label_at ws at).kind (label_at ws at).payload ∷ []) o₁ q = subst (λ (j : ℕ). Wrote o₀ pos (word_below c (label_at ws at).kind j ∷ []) o₁ q) ep (subst (λ (j : ℕ). Wrote o₀ pos (word_below c j p ∷ []) o₁ q) ek w) in
        emit_tree (label_at ws at) (here_at ws (at + 1) 1 b (begun s.next)) (record { next = r.state.next; default = s.default }) r.pos r.at cover_tree (wrote_then w' y.moved.wrote)
        (cover_after r.state y.moved.state) (y.moved.place ∙ ap (end_of ws (at + 1)) (sym one))

  -- a class expression

  arity_20 : (l : Label) (f : Trees) → l.kind ≡ 20 → arity l f ≡ 1
  unfolding arity children child_table lookup
  arity_20 l f e = rw e

  module _ (kind : (label_at ws at).kind ≡ 20) where
    one_20 : arity_at ws at ≡ 1
    unfolding arity_at
    one_20 = arity_20 (label_at ws at) (records_at ws (at + 1)) kind

    kids_20 : kids_at ws at ≡ take_f 1 (records_at ws (at + 1))
    unfolding kids_at
    kids_20 = ap (λ (j : ℕ). take_f j (records_at ws (at + 1))) one_20

    here_20 : (visit_one a (label_at ws at) (kids_at ws at) s).here ≡ tree (label_at ws at) (visit (record { live = false; id = none }) (kids_at ws at) (fresh s.next)).here
    here_20 = expression_here a (label_at ws at) (kids_at ws at) s (role_20 (label_at ws at) kind)

    after_20 : (visit_one a (label_at ws at) (kids_at ws at) s).after ≡ record { next = (visit (record { live = false; id = none }) (kids_at ws at) (fresh s.next)).after.next; default = s.default }
    after_20 = after_expression a (label_at ws at) (kids_at ws at) s (role_20 (label_at ws at) kind)

    expression_size : (b : Around) → b.live ≡ false → b.id ≡ none → size (here_at ws at 1 a s) ≡ suc (size (here_at ws (at + 1) 1 b (begun s.next)))
    expression_size b l i = cover_size b false none l i one_20 kids_20 here_20 after_20

    emit_expression : (b : Around) → b.live ≡ false → b.id ≡ none → (k p : ℕ) {o₀ : List ℕ} {pos m m₁ : ℕ} {o₁ : List ℕ} {q : ℕ} {o₂ : List ℕ} {r : Walk} →
        k ≡ (label_at ws at).kind → p ≡ (label_at ws at).payload →
        Wrote o₀ pos (word_below c k p ∷ []) o₁ q → Emitted ws (at + 1) 1 b (begun s.next) c o₁ q m₁ o₂ r →
        Emitted ws at 1 a s c o₀ pos m o₂ (record { at = r.at; pos = r.pos; state = record { next = r.state.next; default = s.default }; count = m + 1 })
    emit_expression b l i k p ek ep w y = emit_cover b false none l i one_20 kids_20 here_20 after_20 k p ek ep w y

  -- a class statement that is plain

  module _ (whole : Fits (module' ∷ []) (records_at ws 0)) (kind : (label_at ws at).kind ≡ 4) (x : Bool) (live : is_live (take_f 1 (records_at ws (at + 1))) ≡ x)
      (bare : x ≡ true → is_plain (kids_at ws (at + 1)) ≡ true) where
    id_4 : id_of (class_kids (kids_at ws at)) ≡ id_of (kids_at ws (at + 1))
    id_4 = ap id_of (class_kids_lem ws whole at h kind)

    class_size : (b : Around) → b.live ≡ x → b.id ≡ id_of (kids_at ws (at + 1)) → size (here_at ws at 1 a s) ≡ suc (size (here_at ws (at + 1) 1 b (begun s.next)))
    class_size b l i =
        cover_size b x (id_of (class_kids (kids_at ws at))) l (i ∙ sym id_4) (class_one ws whole at h kind) (class_row_one ws whole at h kind)
        (class_here ws whole at h kind a s x live bare) (class_after_lem ws whole at h kind a s x live bare)

    emit_class : (b : Around) → b.live ≡ x → b.id ≡ id_of (kids_at ws (at + 1)) → (k p : ℕ) {o₀ : List ℕ} {pos m m₁ : ℕ} {o₁ : List ℕ} {q : ℕ} {o₂ : List ℕ} {r : Walk} →
        k ≡ (label_at ws at).kind → p ≡ (label_at ws at).payload →
        Wrote o₀ pos (word_below c k p ∷ []) o₁ q → Emitted ws (at + 1) 1 b (begun s.next) c o₁ q m₁ o₂ r →
        Emitted ws at 1 a s c o₀ pos m o₂ (record { at = r.at; pos = r.pos; state = record { next = r.state.next; default = s.default }; count = m + 1 })
    emit_class b l i k p ek ep w y =
        emit_cover b x (id_of (class_kids (kids_at ws at))) l (i ∙ sym id_4) (class_one ws whole at h kind) (class_row_one ws whole at h kind)
        (class_here ws whole at h kind a s x live bare) (class_after_lem ws whole at h kind a s x live bare) k p ek ep w y

  -- either, with the class below as the class around what stands in it
  module _ (whole : Fits (module' ∷ []) (records_at ws 0)) (stays : StaysAt ws at) (b : Around) (below : ScopeBelow ws at b) where
    pub one_below : arity_at ws at ≡ 1
    one_below = ⊎_elim (λ e. one_20 e) (λ e. class_one ws whole at h e.0) stays

    pub below_size : size (here_at ws at 1 a s) ≡ suc (size (here_at ws (at + 1) 1 b (begun s.next)))
    below_size =
        ⊎_elim (λ e. expression_size e b (below.expression e).0 (below.expression e).1)
        (λ e. class_size whole e.0 (is_live (take_f 1 (records_at ws (at + 1)))) refl e.1 b (below.statement e.0).0 (below.statement e.0).1) stays

    pub emit_below : (k p : ℕ) {o₀ : List ℕ} {pos m m₁ : ℕ} {o₁ : List ℕ} {q : ℕ} {o₂ : List ℕ} {r : Walk} → k ≡ (label_at ws at).kind → p ≡ (label_at ws at).payload →
        Wrote o₀ pos (word_below c k p ∷ []) o₁ q → Emitted ws (at + 1) 1 b (begun s.next) c o₁ q m₁ o₂ r →
        Emitted ws at 1 a s c o₀ pos m o₂ (record { at = r.at; pos = r.pos; state = record { next = r.state.next; default = s.default }; count = m + 1 })
    emit_below k p ek ep w y =
        ⊎_elim (λ e. emit_expression e b (below.expression e).0 (below.expression e).1 k p ek ep w y)
        (λ e. emit_class whole e.0 (is_live (take_f 1 (records_at ws (at + 1)))) refl e.1 b (below.statement e.0).0 (below.statement e.0).1 k p ek ep w y) stays

-- ---- a module

module_slots : (q : Slot) (p : ℕ) → slots_below q 1 p ≡ symbols ∷ (replicate p own_statement ++ [])
unfolding slots_below slots row_of table lookup row
module_slots q p = refl

arity_1 : (l : Label) (f : Trees) → l.kind ≡ 1 → arity l f ≡ 1 + l.payload
unfolding arity children child_table lookup
arity_1 l f e = rw e

arity_40 : (l : Label) (f : Trees) → l.kind ≡ 40 → arity l f ≡ 0
unfolding arity children child_table lookup
arity_40 l f e = rw e

role_1 : (l : Label) → l.kind ≡ 1 → role_of l ≡ module_role
unfolding role_of lookup
role_1 l e = rw e

role_40 : (l : Label) → l.kind ≡ 40 → role_of l ≡ plain
unfolding role_of lookup
role_40 l e = rw e

whole_tree : (l d : Label) (k r : Trees) (n : ℕ) → whole_module l (append_f (tree d k) r) n ≡ tree (repay l (count_f r)) (node (repay d n) k r)
unfolding whole_module append_f tree
whole_tree l d k r n = refl

module _ (ws : List ℕ) (at : ℕ) (a : Around) (s : State) (c : ClassStack) (h : at < length ws) (whole : Fits (module' ∷ []) (records_at ws 0)) (kind : (label_at ws at).kind ≡ 1) where
  module_standing : Standing ws at
  module_standing = standing_at ws (module' ∷ []) whole at h

  module_arity : arity_at ws at ≡ 1 + (label_at ws at).payload
  unfolding arity_at
  module_arity = arity_1 (label_at ws at) (records_at ws (at + 1)) kind

  module_row : RowFits ws (at + 1) (suc (label_at ws at).payload) (symbols ∷ (replicate (label_at ws at).payload own_statement ++ []))
  module_row =
      let r = kind_row ws at 1 module_standing _ kind (module_slots module_standing.slot (label_at ws at).payload) in
      subst (λ (n : ℕ). RowFits ws (at + 1) n (symbols ∷ (replicate (label_at ws at).payload own_statement ++ []))) (omega (arith, r.0, module_arity)) r.1

  symbols_inside : at + 1 < length ws
  symbols_inside = (row_first ws (at + 1) _ symbols _ module_row).0

  symbols_kind : (label_at ws (at + 1)).kind ≡ 40
  unfolding sole_kind lookup
  symbols_kind = allowed_sole symbols (label_at ws (at + 1)) (row_first ws (at + 1) _ symbols _ module_row).1 tt

  symbols_arity : arity_at ws (at + 1) ≡ 0
  unfolding arity_at
  symbols_arity = arity_40 (label_at ws (at + 1)) (records_at ws (at + 1 + 1)) symbols_kind

  symbols_end : at + 2 ≡ end_of ws (at + 1) 1
  symbols_end =
      let e : end_of ws (at + 1) 1 ≡ end_of ws (at + 1 + 1) 0 = end_one ws (at + 1) symbols_inside ∙ ap (end_of ws (at + 1 + 1)) symbols_arity in
      omega (arith, e, end_none ws (at + 1 + 1))

  none_here : here_at ws (at + 1 + 1) (arity_at ws (at + 1)) a s ≡ end
  none_here = ap (λ (n : ℕ). here_at ws (at + 1 + 1) n a s) symbols_arity ∙ here_none ws (at + 1 + 1) a s

  symbols_here : here_at ws (at + 1) 1 a s ≡ tree (label_at ws (at + 1)) end
  symbols_here = (kept_plain ws (at + 1) symbols_inside (role_40 (label_at ws (at + 1)) symbols_kind)).here a s ∙ ap (tree (label_at ws (at + 1))) none_here

  symbols_after : after_at ws (at + 1) 1 a s ≡ s
  symbols_after =
      (kept_plain ws (at + 1) symbols_inside (role_40 (label_at ws (at + 1)) symbols_kind)).after a s
      ∙ ap (λ (n : ℕ). after_at ws (at + 1 + 1) n a s) symbols_arity ∙ after_none ws (at + 1 + 1) a s

  all_here : here_at ws (at + 1) (arity_at ws at) a s ≡ append_f (tree (label_at ws (at + 1)) end) (here_at ws (at + 2) (label_at ws at).payload a s)
  all_here =
      ap (λ (n : ℕ). here_at ws (at + 1) n a s) module_arity
      ∙ here_more ws (at + 1) a s 1 (label_at ws at).payload (at + 2) s symbols_end symbols_after
      ∙ ap (λ (f : Trees). append_f f (here_at ws (at + 2) (label_at ws at).payload a s)) symbols_here

  module_after : after_at ws at 1 a s ≡ after_at ws (at + 2) (label_at ws at).payload a s
  module_after =
      after_one ws at a s h ∙ after_module a (label_at ws at) (kids_at ws at) s (role_1 (label_at ws at) kind) ∙ sym (after_kids ws at a s)
      ∙ ap (λ (n : ℕ). after_at ws (at + 1) n a s) module_arity
      ∙ after_more ws (at + 1) a s 1 (label_at ws at).payload (at + 2) s symbols_end symbols_after

  module_place : end_of ws (at + 1) (arity_at ws at) ≡ end_of ws (at + 2) (label_at ws at).payload
  module_place = ap (end_of ws (at + 1)) module_arity ∙ end_more' ws (at + 1) a s 1 (label_at ws at).payload (at + 2) s symbols_end symbols_after

  visited_next : (visit a (kids_at ws at) s).after ≡ after_at ws at 1 a s
  visited_next = sym (after_one ws at a s h ∙ after_module a (label_at ws at) (kids_at ws at) s (role_1 (label_at ws at) kind))

  module_over : ℕ → Trees
  module_over m = tree (repay (label_at ws at) (count_f (here_at ws (at + 2) (label_at ws at).payload a s))) (node (repay (label_at ws (at + 1)) m) end (here_at ws (at + 2) (label_at ws at).payload a s))

  module_tree : here_at ws at 1 a s ≡ module_over (visit a (kids_at ws at) s).after.next
  unfolding module_over
  module_tree =
      here_one ws at a s h ∙ module_here a (label_at ws at) (kids_at ws at) s (role_1 (label_at ws at) kind)
      ∙ ap (λ (f : Trees). whole_module (label_at ws at) f (visit a (kids_at ws at) s).after.next) (kids_here_lem ws at a s c h ∙ all_here)
      ∙ whole_tree (label_at ws at) (label_at ws (at + 1)) end (here_at ws (at + 2) (label_at ws at).payload a s) (visit a (kids_at ws at) s).after.next

  over_size : (m : ℕ) → size (module_over m) ≡ 2 + size (here_at ws (at + 2) (label_at ws at).payload a s)
  unfolding module_over
  over_size m =
      let z : size {A = Label} end ≡ 0 = unfold size flat in refl in
      omega (arith, size_tree (repay (label_at ws at) (count_f (here_at ws (at + 2) (label_at ws at).payload a s))) (node (repay (label_at ws (at + 1)) m) end (here_at ws (at + 2) (label_at ws at).payload a s)), size_node (repay (label_at ws (at + 1)) m) end (here_at ws (at + 2) (label_at ws at).payload a s), z)

  pub module_size : size (here_at ws at 1 a s) ≡ 2 + size (here_at ws (at + 2) (label_at ws at).payload a s)
  module_size = ap size module_tree ∙ over_size (visit a (kids_at ws at) s).after.next

  symbols_words : (m : ℕ) → words_of c (node (repay (label_at ws (at + 1)) m) end (here_at ws (at + 2) (label_at ws at).payload a s)) ≡
      word_below c 40 m ∷ words_of c (here_at ws (at + 2) (label_at ws at).payload a s)
  unfolding words_of word_by repay written flat
  symbols_words m =
      written_node (word_below c) (repay (label_at ws (at + 1)) m) end (here_at ws (at + 2) (label_at ws at).payload a s)
      ∙ ap (λ (k : ℕ). word_below c k m ∷ ([] ++ written (word_below c) (here_at ws (at + 2) (label_at ws at).payload a s))) symbols_kind

  pub emit_module : (n : ℕ) {o : List ℕ} {pos m : ℕ} {o₁ : List ℕ} {r : Walk} {o₂ : List ℕ} {q : ℕ} {o₃ : List ℕ} {x : ℕ} → n ≡ (label_at ws at).payload →
      Emitted ws (at + 2) n a s c o (pos + 2) 0 o₁ r → Wrote o₁ (pos + 1) (word_below c 40 r.state.next ∷ []) o₂ q → Wrote o₂ pos (word_below c 1 r.count ∷ []) o₃ x →
      Emitted ws at 1 a s c o pos m o₃ (record { at = r.at; pos = r.pos; state = r.state; count = m + 1 })
  unfolding module_over repay
  emit_module n {o} {pos} {m} {o₁} {r} {o₂} {q} {o₃} {x} en y w v =
      let p : ℕ = (label_at ws at).payload in
      let f : Trees = here_at ws (at + 2) (label_at ws at).payload a s in
      let y' : Emitted ws (at + 2) (label_at ws at).payload a s c o (pos + 2) 0 o₁ r = subst (λ (i : ℕ). Emitted ws (at + 2) i a s c o (pos + 2) 0 o₁ r) en y in
      let e2 : pos + 2 ≡ pos + 1 + 1 = omega arith in
      let first : Wrote o (pos + 1 + 1) (words_of c f) o₁ r.pos = subst (λ (i : ℕ). Wrote o i (words_of c f) o₁ r.pos) e2 y'.moved.wrote in
      let both : Wrote o (pos + 1) (word_below c 40 r.state.next ∷ words_of c f) o₂ r.pos = wrote_front first w in
      let all : Wrote o pos (word_below c 1 r.count ∷ (word_below c 40 r.state.next ∷ words_of c f)) o₃ r.pos = wrote_front both v in
      let next : (visit a (kids_at ws at) s).after.next ≡ r.state.next = ap (λ (t : State). t.next) (visited_next ∙ module_after ∙ y'.moved.state) in
      let words : word_below c 1 r.count ∷ (word_below c 40 r.state.next ∷ words_of c f) ≡ word_below c (label_at ws at).kind (count_f f) ∷ words_of c (node (repay (label_at ws (at + 1)) r.state.next) end f) =
      ap (λ (i : ℕ). word_below c 1 i ∷ (word_below c 40 r.state.next ∷ words_of c f)) (y'.number ∙ zero-add _)
      ∙ ap (λ (i : ℕ). word_below c i (count_f f) ∷ (word_below c 40 r.state.next ∷ words_of c f)) (sym kind)
      ∙ ap (λ (u : List ℕ). word_below c (label_at ws at).kind (count_f f) ∷ u) (sym (symbols_words r.state.next)) in
      emit_tree ws at a s c h (repay (label_at ws at) (count_f f)) (node (repay (label_at ws (at + 1)) r.state.next) end f) r.state r.pos r.at
      (module_tree ∙ ap module_over next) (subst (λ (u : List ℕ). Wrote o pos u o₃ r.pos) words all) (module_after ∙ y'.moved.state) (y'.moved.place ∙ sym module_place)

  pub module_inside : at + 2 ≤ length ws
  module_inside = omega (arith, symbols_inside)

  pub module_asks : {notes : List Note} {pos : ℕ} → Asks ws notes at 1 s.next c pos (size (here_at ws at 1 a s)) →
      Asks ws notes (at + 2) (label_at ws at).payload s.next c (pos + 2) (size (here_at ws (at + 2) (label_at ws at).payload a s))
  module_asks {notes} {pos} f =
      let l : ℕ = size (here_at ws (at + 2) (label_at ws at).payload a s) in
      let fit : pos + 2 + l < 67108864 = omega (arith, f.fit, module_size) in
      let k : Asks ws notes (at + 1) (arity_at ws at) s.next c (pos + 2) l = asks_kids f (pos + 2) l refl h fit in
      subst (λ (i : ℕ). Asks ws notes i (label_at ws at).payload s.next c (pos + 2) l) (sym symbols_end)
      (asks_row k a s 1 (label_at ws at).payload s (pos + 2) l refl (omega (arith, module_arity)) symbols_after fit)

-- ---- a member

member_keeps : (l : Label) → Sort l → keeps (role_of l) ≡ true
member_keeps l (is_method e r) = ap keeps r ∙ (unfold keeps in refl)
member_keeps l (is_property e r) = ap keeps r ∙ (unfold keeps in refl)
member_keeps l (is_accessor e r) = ap keeps r ∙ (unfold keeps in refl)

module _ (ws : List ℕ) (at : ℕ) (a : Around) (s : State) (c : ClassStack) (h : at < length ws) (whole : Fits (module' ∷ []) (records_at ws 0)) (member : is_member (label_at ws at) ≡ true) where
  member_here : words_of c (here_at ws at 1 a s) ≡ member_words ws at a s c
  unfolding words_of member_words behind_words
  member_here = ap (written (word_below c)) (here_one ws at a s h) ∙ member_written (word_below c) ws a whole at h s member

  pub member_size : size (here_at ws at 1 a s) ≡ length (member_words ws at a s c)
  member_size = sym (length_words c (here_at ws at 1 a s)) ∙ ap length member_here

  member_one : count_f (here_at ws at 1 a s) ≡ 1
  member_one =
      let t : Stays (label_at ws at) (visit_one a (label_at ws at) (kids_at ws at) s).here = one_stays a (label_at ws at) (kids_at ws at) s (member_keeps (label_at ws at) (member_sort (label_at ws at) member)) in
      ap count_f (here_one ws at a s h ∙ t.whole) ∙ count_tree (label_at ws at) t.below

  pub emit_member : {o : List ℕ} {pos m : ℕ} {o' : List ℕ} {r : Walk} → Moved (member_words ws at a s c) (end_of ws at 1) (after_at ws at 1 a s) o pos o' r → r.count ≡ m + 1 → Emitted ws at 1 a s c o pos m o' r
  emit_member {o} {pos} {m} {o'} {r} y n = record {
    moved = record { wrote = subst (λ (u : List ℕ). Wrote o pos u o' r.pos) (sym member_here) y.wrote; place = y.place; state = y.state };
    number = n ∙ ap (m +◌) (sym member_one);
  }

-- ---- numbers

-- the kind and the payload of the word at a place
pub word_kind : (ws : List ℕ) (at : ℕ) {w : ℕ} → w ≡ get_or ws at 0 → kind_of w ≡ (label_at ws at).kind
unfolding label_at read_at
word_kind ws at e = ap kind_of e

pub word_payload : (ws : List ℕ) (at : ℕ) {w : ℕ} → w ≡ get_or ws at 0 → payload_of w ≡ (label_at ws at).payload
unfolding label_at read_at
word_payload ws at e = ap payload_of e

-- ---- the loop over records

-- one record has no more words than a row that begins with it
pub first_le : (ws : List ℕ) (q k : ℕ) (a : Around) (s : State) → 1 ≤ k → size (here_at ws q 1 a s) ≤ size (here_at ws q k a s)
unfolding here_at
first_le ws q k a s h =
    let j : k ≡ 1 + (k - 1) = omega arith in
    let e : size (visit_at ws q k a s).here ≡ size (visit_at ws q (1 + (k - 1)) a s).here = ap (λ (u : ℕ). size (visit_at ws q u a s).here) j in
    let t : State = (visit_at ws q 1 a s).after in
    omega (arith, e, ap size (here_add ws a q 1 (k - 1) s), size_append (visit_at ws q 1 a s).here (visit_at ws (end_of ws q 1) (k - 1) a t).here)

module _ (ws : List ℕ) (at : ℕ) (a : Around) (s : State) (c : ClassStack) where
  -- no words are left for the others
  pub emit_rest : (j k : ℕ) {o : List ℕ} {pos m : ℕ} {o' : List ℕ} {v : Walk} → j ≤ k → Emitted ws at j a s c o pos m o' v → length ws ≤ v.at → Emitted ws at k a s c o pos m o' v
  emit_rest j k {o} {pos} {m} {o'} {v} h x l =
      let i : j + (k - j) ≡ k = omega arith in
      subst (λ (y : ℕ). Emitted ws at y a s c o pos m o' v) i (emit_add ws at a s c j (k - j) x (emit_past ws v.at a v.state c (k - j) o' v.pos v.count l))

  pub emit_inside : (k : ℕ) {o : List ℕ} {pos m : ℕ} {o' : List ℕ} {r : Walk} → Emitted ws at k a s c o pos m o' r → at ≤ length ws → r.at ≤ length ws
  emit_inside k y h = omega (arith, y.moved.place, end_high ws at k)

module _ {ws : List ℕ} {notes : List Note} {at k n : ℕ} {c : ClassStack} {pos : ℕ} (a : Around) (s : State) (f : Asks ws notes at k n c pos (size (here_at ws at k a s))) where
  -- behind the first i of them
  module _ (i : ℕ) {m : ℕ} {o o' : List ℕ} {v : Walk} (z : s.next ≡ n) (l : i < k) (y : Emitted ws at i a s c o pos m o' v) where
    rest_size : size (here_at ws at k a s) ≡ size (here_at ws at i a s) + size (here_at ws v.at (k - i) a v.state)
    rest_size =
        let j : i + (k - i) ≡ k = omega arith in
        ap (λ (u : ℕ). size (here_at ws at u a s)) (sym j) ∙ size_more ws at a s c i (k - i) v.at v.state y.moved.place y.moved.state

    -- the next record's words fit, behind those that were written
    pub next_size : v.pos + size (here_at ws v.at 1 a v.state) < 67108864
    next_size = omega (arith, f.fit, rest_size, first_le ws v.at (k - i) a v.state (omega arith), y.moved.wrote.end, length_words c (here_at ws at i a s))

    pub asks_next : Asks ws notes v.at 1 v.state.next c v.pos (size (here_at ws v.at 1 a v.state))
    asks_next = asks_place f a s i 1 v.at v.state v.pos (size (here_at ws v.at 1 a v.state)) z (omega arith) y.moved.place y.moved.state next_size

-- what a walker may ask of a record's only child
pub asks_one : {ws : List ℕ} {notes : List Note} {at n : ℕ} {c : ClassStack} {pos len : ℕ} → Asks ws notes at 1 n c pos len → arity_at ws at ≡ 1 → (q l : ℕ) → at < length ws → q + l < 67108864 → Asks ws notes (at + 1) 1 n c q l
asks_one {ws} {notes} {at} {n} {c} f e q l h g = subst (λ (j : ℕ). Asks ws notes (at + 1) j n c q l) e (asks_kids f q l refl h g)

-- the counter behind some records is a payload
pub next_small : (ws : List ℕ) (at k : ℕ) (a : Around) (s : State) {b : ℕ} → length ws ≤ 4096 → s.next + 2 * (length ws - b) < 67108864 → b ≤ at → at ≤ length ws → (s₁ : State) → after_at ws at k a s ≡ s₁ → s₁.next < 67108864
next_small ws at k a s few room low inside s₁ t = omega (arith, room, state_high ws at k a s s₁ t, end_high ws at k)
