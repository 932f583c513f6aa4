-- A property of every record of a forest, kept by what the rewriting does with members and classes. Assumes nothing.
use Rattle.std.specs.Prelude.{◌≡◌, cond, ◌||◌, eqb}
use Rattle.std.proofs.Math.Path.{refl}
use Rattle.std.proofs.Math.Bool.{Bool, true, false}
use Rattle.std.specs.declared.option.Option.{Option}
use Rattle.std.specs.declared.option.Option.TheVariants.{None as none, Some as some}
use Prim.Native.Nat.{ℕ, zero, suc}
use Rattle.words.specs.Word.{bit0}
use Rattle.records.specs.Forest.{end, node, take_f, drop_f, append_f, map_f}
use Rattle.records.specs.Label.{Label, made, Trees, ◌∶◌, repay, become, is, bit}
use Rattle.rewriting.specs.Parts.{tree, recount, kids_of, change_kids, constructor, method, decorators, undecorate, indexed, of_parameters, parameters_of, bare_parameters, bare_method, bare_field, decorators_of, is_constructor, has_plain_key, elements_of, with_elements, id_of, has_private_in, has_static, first_constructor, bare_first}
use Rattle.rewriting.specs.Visit.{Result, Taken, class_symbol, name_if, name_of, plain_name, prefix, array, member_call, with_key, called₁, called₂, member_if, to_alias, Symbols, aliased, assignment, block_alias, let_alias, alias_block, call_block, queued, export, first_payload, with_id, decorated_statement, decorated₂, name_class, extend_body, undecorated_if}
use Rattle.rewriting.specs.declared.Around.{Around}
use Rattle.rewriting.specs.declared.State.{State}
use Rattle.rewriting.specs.Demand.{Has, first, below, behind, is_list}
use Rattle.rewriting.proofs.DemandShapes.{NoList, NoLists, no_list, list_role, is_kind, role_constructor}
use Rattle.rewriting.proofs.DemandBehind.{with_default}

abbrev pub Each : (Label → Trees → Type 0) → Trees → Type 0
Each P end = Unit {0}
Each P (node l k r) = P l k × Each P k × Each P r

pub each_map : (P Q : Label → Trees → Type 0) (f : Trees) → ((l : Label) (k : Trees) → Has l k f → P l k → Q l k) → Each P f → Each Q f
each_map P Q end h e = tt
each_map P Q (node l k r) h e =
    (h l k first e.0, each_map P Q k (λ m j x. h m j (below x)) e.1, each_map P Q r (λ m j x. h m j (behind x)) e.2)

pub each_alias : (P Q : Label → Trees → Type 0) (c b : ℕ) (f : Trees) →
    ((l : Label) (k : Trees) → Has l k f → P l k → Q (to_alias c b l) (map_f (to_alias c b) k)) → Each P f → Each Q (map_f (to_alias c b) f)
unfolding map_f
each_alias P Q c b end h e = tt
each_alias P Q c b (node l k r) h e =
    (h l k first e.0, each_alias P Q c b k (λ m j x. h m j (below x)) e.1, each_alias P Q c b r (λ m j x. h m j (behind x)) e.2)

pub each_has : (P : Label → Trees → Type 0) (f : Trees) (l : Label) (k : Trees) → Each P f → Has l k f → P l k
each_has P end l k e h = elim h [ ]
each_has P (node a b r) l k e first = e.0
each_has P (node a b r) l k e (below h) = each_has P b l k e.1 h
each_has P (node a b r) l k e (behind h) = each_has P r l k e.2 h

-- a property that only says something of lists of statements that were read
pub record Closed (P : Label → Trees → Type 0) : Type 0 where
  pub fresh : (l : Label) (k : Trees) → l.from ≡ made → P l k
  pub other : (l : Label) (k : Trees) → P l k → NoList l → (m : Label) (j : Trees) → m.from ≡ l.from → P m j
  pub repaid : (l : Label) (k : Trees) → P l k → (p : ℕ) → P (repay l p) k

-- records of a kind a are no lists
no_kind : (a : ℕ) (l : Label) → (eqb a 1 || eqb a 3 || eqb a 33 || eqb a 39) ≡ false → is a l ≡ true → NoList l
unfolding is_list is
no_kind a l h e = rw (is_kind a l e, h)

-- no parameter of a constructor of a body is a list
abbrev pub Constructors : Trees → Type 0
Constructors end = Unit {0}
Constructors (node e k r) = (is_constructor e ≡ true → NoLists (parameters_of k)) × Constructors r

module _ (P : Label → Trees → Type 0) (C : Closed P) where
  made_tree : (k p : ℕ) (f : Trees) → Each P f → Each P (tree (k ∶ p) f)
  unfolding tree ◌∶◌
  made_tree k p f e = (C.fresh (k ∶ p) f refl, e, tt)

  pub each_append : (f g : Trees) → Each P f → Each P g → Each P (append_f f g)
  unfolding append_f
  each_append end g e h = h
  each_append (node l k r) g e h = (e.0, e.1, each_append r g e.2 h)

  each_take : (n : ℕ) (f : Trees) → Each P f → Each P (take_f n f)
  unfolding take_f
  each_take zero f e = tt
  each_take (suc n) end e = tt
  each_take (suc n) (node l k r) e = (e.0, e.1, each_take n r e.2)

  each_drop : (n : ℕ) (f : Trees) → Each P f → Each P (drop_f n f)
  unfolding drop_f
  each_drop zero f e = e
  each_drop (suc n) end e = tt
  each_drop (suc n) (node l k r) e = each_drop n r e.2

  each_if : (b : Bool) (f g : Trees) → Each P f → Each P g → Each P (cond b f g)
  each_if true f g e h = e
  each_if false f g e h = h

  pub each_decorators : (f : Trees) → Each P f → Each P (decorators f)
  unfolding decorators
  each_decorators end e = tt
  each_decorators (node l k r) e = each_if (is 28 l) k end e.1 tt

  undecorate_if : (b : Bool) (l : Label) (k r : Trees) → is 28 l ≡ b → Each P (node l k r) → Each P (cond b (node (repay l 0) end r) (node l k r))
  undecorate_if true l k r h e = (C.other l k e.0 (no_kind 28 l refl h) (repay l 0) end (unfold repay in refl), tt, e.2)
  undecorate_if false l k r h e = e

  each_undecorate : (f : Trees) → Each P f → Each P (undecorate f)
  unfolding undecorate
  each_undecorate end e = tt
  each_undecorate (node l k r) e = undecorate_if (is 28 l) l k r refl e

  each_indexed : (i : ℕ) (f : Trees) → Each P f → Each P (indexed i f)
  unfolding indexed tree ◌∶◌
  each_indexed i end e = tt
  each_indexed i (node l k r) e = (C.fresh (23 ∶ i) (node l k end) refl, (e.0, e.1, tt), each_indexed i r e.2)

  each_parameters : (i : ℕ) (f : Trees) → Each P f → Each P (of_parameters i f)
  unfolding of_parameters
  each_parameters i end e = tt
  each_parameters i (node l k r) e = each_append _ _ (each_indexed i (decorators k) (each_decorators k e.1)) (each_parameters (suc i) r e.2)

  each_bare : (f : Trees) → NoLists f → Each P f → Each P (bare_parameters f)
  unfolding bare_parameters
  each_bare end h e = tt
  each_bare (node l k r) h e = (C.other l k e.0 h.0 l (undecorate k) refl, each_undecorate k e.1, each_bare r h.1 e.2)

  pub each_kids : (n : ℕ) (f : Trees) → Each P f → Each P (kids_of n f)
  unfolding kids_of
  each_kids n end e = tt
  each_kids n (node l k r) e = each_if (is n l) k (kids_of n r) e.1 (each_kids n r e.2)

  change_if : (b : Bool) (l : Label) (k r x y : Trees) → is 36 l ≡ b → NoLists (cond b k y) → Each P (node l k r) → (NoLists y → Each P x) → Each P (cond b (node l (bare_parameters k) r) (node l k x))
  change_if true l k r x y h n e g = (C.other l k e.0 (no_kind 36 l refl h) l (bare_parameters k) refl, each_bare k n e.1, e.2)
  change_if false l k r x y h n e g = (e.0, e.1, g n)

  each_change : (f : Trees) → NoLists (parameters_of f) → Each P f → Each P (change_kids 36 bare_parameters f)
  unfolding change_kids parameters_of kids_of
  each_change end n e = tt
  each_change (node l k r) n e = change_if (is 36 l) l k r (change_kids 36 bare_parameters r) (kids_of 36 r) refl n e (λ m. each_change r m e.2)

  with_if : (b : Bool) (l : Label) (k new r x : Trees) → is 29 l ≡ b → Each P new → Each P (node l k r) → Each P x → Each P (cond b (node (recount l new) new r) (node l k x))
  with_if true l k new r x h n e g = (C.other l k e.0 (no_kind 29 l refl h) (recount l new) new (unfold recount repay in refl), n, e.2)
  with_if false l k new r x h n e g = (e.0, e.1, g)

  pub each_with : (new f : Trees) → Each P new → Each P f → Each P (with_elements new f)
  unfolding with_elements
  each_with new end n e = tt
  each_with new (node l k r) n e = with_if (is 29 l) l k new r (with_elements new r) refl n e (each_with new r n e.2)

  pub each_method : (k : Trees) → NoLists (parameters_of k) → Each P k → Each P (bare_method k)
  unfolding bare_method
  each_method k h e = each_undecorate _ (each_change k h e)

  pub each_entries : (k : Trees) → Each P k → Each P (decorators_of method k)
  unfolding decorators_of parameters_of
  each_entries k e = each_append _ _ (each_decorators k e) (each_parameters 0 (kids_of 36 k) (each_kids 36 k e))

  pub each_field : (k : Trees) → Each P k → Each P (bare_field k)
  unfolding bare_field
  each_field k e = each_undecorate k e

  -- ---- members

  name_made : (a b : Bool) (l : Label) → (cond a (10 ∶ l.payload) (cond b (10 ∶ 0) (l.kind ∶ l.payload))).from ≡ made
  unfolding ◌∶◌
  name_made true b l = refl
  name_made false true l = refl
  name_made false false l = refl

  name_if_each : (b : Bool) (l : Label) (k : Trees) (s : State) → P l k → Each P k → Each P (name_if b l k s).key × Each P (name_if b l k s).name
  unfolding name_if tree plain_name
  name_if_each true l k s p e = ((p, e, tt), (C.fresh _ end (name_made (is 34 l) (is 35 l) l), tt, tt))
  name_if_each false l k s p e = unfold ◌∶◌ in ((C.fresh _ _ refl, (p, e, tt), tt), (C.fresh _ _ refl, tt, tt))

  name_of_each : (b : Bool) (f : Trees) (s : State) → Each P f → Each P (name_of b f s).key × Each P (name_of b f s).name
  unfolding name_of
  name_of_each b end s e = (tt, tt)
  name_of_each b (node l k r) s e = name_if_each b l k s e.0 e.1

  each_prefix : (c : ℕ) (b : Bool) → Each P (prefix c b)
  unfolding prefix
  each_prefix c true = made_tree 9 c end tt
  each_prefix c false = made_tree 24 0 _ (made_tree 9 c end tt)

  each_call : (entries pre name : Trees) (d : Label) → d.from ≡ made → Each P entries → Each P pre → Each P name → Each P (member_call entries pre name d)
  unfolding member_call array
  each_call entries pre name d m e p n =
      let last : Each P (tree d end) = unfold tree in (C.fresh d end m, tt, tt) in
      made_tree 2 0 _ (made_tree 22 4 _ (each_append _ _ (made_tree 16 _ entries e) (each_append pre _ p (each_append name _ n last))))

  module _ (l : Label) (mine : (m : Label) (j : Trees) → m.from ≡ l.from → P m j) (k bare entries : Trees) (d : Label) (m : d.from ≡ made) (a : Result)
      (eb : Each P bare) (ee : Each P entries) (ec : Each P a.calls) where
    pub member_if_each : (b : Bool) (around : Around) → Each P (member_if b around l k bare entries d a).here × Each P (member_if b around l k bare entries d a).calls
    unfolding member_if called₁ called₂ with_key tree
    member_if_each true around =
        let t : Taken = class_symbol around.id a.after.default a.after in
        let x = name_of_each (has_plain_key k) (take_f 1 (drop_f 1 bare)) t.after (each_take 1 (drop_f 1 bare) (each_drop 1 bare eb)) in (
          (mine l _ refl, each_append _ _ (each_take 1 bare eb) (each_append _ _ x.0 (each_drop 2 bare eb)), tt),
          each_append a.calls _ ec (each_call entries (prefix t.symbol (bit bit0 l)) _ d m ee (each_prefix t.symbol (bit bit0 l)) x.1),
        )
    member_if_each false around = ((mine l _ refl, eb, tt), ec)

  -- ---- classes

  first_if : (b : Bool) (l : Label) (k r : Trees) → is_constructor l ≡ b → (b ≡ true → NoLists (parameters_of k)) → Each P (node l k r) → Each P (bare_first r) → Each P (cond b (node l (bare_method k) r) (node l k (bare_first r)))
  first_if true l k r h g e f =
      (C.other l k e.0 (no_list l constructor (role_constructor l h) (unfold list_role in refl)) l (bare_method k) refl, each_method k (g refl) e.1, e.2)
  first_if false l k r h g e f = (e.0, e.1, f)

  each_first : (f : Trees) → Constructors f → Each P f → Each P (bare_first f)
  unfolding bare_first
  each_first end h e = tt
  each_first (node l k r) h e = first_if (is_constructor l) l k r refl h.0 e (each_first r h.1 e.2)

  each_constructor : (f : Trees) → Each P f → Each P (first_constructor f)
  unfolding first_constructor parameters_of
  each_constructor end e = tt
  each_constructor (node l k r) e = each_if (is_constructor l) _ _ (each_parameters 0 (kids_of 36 k) (each_kids 36 k e.1)) (each_constructor r e.2)

  each_payload : (p : ℕ) (f : Trees) → Each P f → Each P (first_payload p f)
  unfolding first_payload
  each_payload p end e = tt
  each_payload p (node l k r) e = (C.repaid l k e.0 p, e.1, e.2)

  each_id : (o : Option ℕ) (f : Trees) → Each P f → Each P (with_id o f)
  unfolding with_id
  each_id none f e = e
  each_id (some p) end e = tt
  each_id (some p) (node l k r) e = (e.0, e.1, each_payload p r e.2)

  each_block : (alias : Option ℕ) → Each P (alias_block alias)
  unfolding alias_block
  each_block none = tt
  each_block (some b) = made_tree 33 1 _ (made_tree 2 0 _ (made_tree 18 b _ (made_tree 15 0 end tt)))

  each_aliased : (alias : Option ℕ) (f : Trees) → Each P f → Each P (aliased alias f)
  unfolding aliased
  each_aliased none f e = e
  each_aliased (some b) f e = made_tree 18 b f e

  each_assignment : (c : ℕ) (alias : Option ℕ) (entries : Trees) → Each P entries → Each P (assignment c alias entries)
  unfolding assignment array
  each_assignment c alias entries e =
      made_tree 2 0 _ (made_tree 18 c _ (each_aliased alias _ (made_tree 22 2 _ (each_append _ _ (made_tree 16 _ entries e) (made_tree 9 c end tt)))))

  each_export : (p c : ℕ) → Each P (export p c)
  unfolding export
  each_export zero c = tt
  each_export (suc zero) c = made_tree 6 c end tt
  each_export (suc (suc p)) c = made_tree 7 c end tt

  each_call_block : (priv : Bool) (calls : Trees) → Each P calls → Each P (call_block priv calls)
  unfolding call_block
  each_call_block true calls e = made_tree 33 _ calls e
  each_call_block false calls e = tt

  each_queued : (priv : Bool) (f : Trees) → Each P f → Each P (queued priv f)
  unfolding queued
  each_queued true f e = tt
  each_queued false f e = e

  module _ (l : Label) (mine : (m : Label) (j : Trees) → m.from ≡ l.from → P m j) (c : Label) (class : (m : Label) (j : Trees) → m.from ≡ c.from → P m j)
      (ck calls : Trees) (ek : Each P ck) (ec : Each P calls) where
    each_statement : (priv : Bool) (x : ℕ) (alias : Option ℕ) (cls : Trees) → Each P cls → Each P (decorated_statement priv l x alias cls)
    unfolding decorated_statement become tree
    each_statement true x alias cls e = (mine l cls refl, e, tt)
    each_statement false x alias cls e = (mine (become l 5 x) _ refl, each_aliased alias _ (unfold tree in made_tree 20 0 cls e), tt)

    pub decorated_each : (rk : Trees) (s : Symbols) (els : Trees) (outside : Option ℕ) → Constructors els → Each P els → Each P (decorated₂ rk l c ck calls s els outside).here
    unfolding decorated₂
    decorated_each rk s els outside k e =
        let priv : Bool = has_private_in rk in
        let static : Bool = has_static (elements_of rk) in
        let y : Trees = undecorate (with_id s.inner ck) in
        let body : Trees = append_f (alias_block (block_alias s.alias static)) (append_f (bare_first els) (call_block priv calls)) in
        let eb : Each P body = each_append _ _ (each_block (block_alias s.alias static)) (each_append _ _ (each_first els k e) (each_call_block priv calls ec)) in
        let ey : Each P y = each_undecorate _ (each_id s.inner ck ek) in
        let cls : Trees = with_elements body y in
        let en : Each P cls = each_with body y eb ey in
        let one : Each P (tree c cls) = unfold tree in (class c cls refl, en, tt) in
        each_append _ _ (each_statement priv s.outer (let_alias s.alias static) (tree c cls) one)
        (each_queued priv _ (each_append calls _ ec (each_append _ _ (each_assignment s.outer s.alias _ (each_append _ _ (each_decorators ck ek) (each_constructor els e))) (each_export l.payload s.outer))))

    -- ---- undecorated

    extend_one : (more : Trees) (m : Label) (j : Trees) → m.from ≡ c.from → Each P more → Each P j → Each P (extend_body more (node m j end))
    unfolding extend_body elements_of
    extend_one more m j n em e = (class m _ n, each_with _ j (each_append _ _ (each_kids 29 j e) em) e, tt)

    extend_each : (id d : Option ℕ) (more : Trees) → Each P more → Each P (extend_body more (name_class id d c ck))
    unfolding name_class tree
    extend_each (some i) d more em = extend_one more c ck refl em ek
    extend_each none none more em = extend_one more c ck refl em ek
    extend_each none (some d) more em =
        extend_one more (repay c (suc c.payload)) (with_default d ck) (unfold repay in refl) em (each_append _ _ (each_take 1 ck ek) (each_append _ _ (unfold tree in made_tree 27 d end tt) (each_drop 1 ck ek)))

    pub undecorated_each : (b : Bool) (rk : Trees) (d : Option ℕ) → Each P (undecorated_if b rk d l c ck calls)
    unfolding undecorated_if tree
    undecorated_each true rk d = (mine l _ refl, (class c ck refl, ek, tt), tt)
    undecorated_each false rk d =
        let priv : Bool = has_private_in rk in
        each_append _ _ (mine l _ refl, extend_each (id_of rk) d (call_block priv calls) (each_call_block priv calls ec), tt) (each_queued priv calls ec)
