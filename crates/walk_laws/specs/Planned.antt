-- The parts of a live class's statement as rules 6 to 10 make them, by its symbols: the words of each, how many each counts. Assumes nothing.
use Rattle.std.specs.Prelude.{◌≡◌, Bool, ◌&&◌, not, cond, eqb, is_some}
use Rattle.std.proofs.Math.Path.{refl, ap, sym}
use Rattle.std.proofs.Common.{◌∙◌, add-zero, add-one}
use Rattle.std.proofs.Math.Bool.{true, false}
use Rattle.std.specs.Int.{from_bool}
use Rattle.std.specs.Option.{option_or}
use Rattle.std.specs.declared.option.Option.{Option}
use Rattle.std.specs.declared.option.Option.TheVariants.{None as none, Some as some}
use mathlib.Core.List.{List, [], ◌∷◌, ◌++◌, append_assoc}
use Prim.Native.Nat.{ℕ, zero, suc, ◌+◌}
use native.Mathlib.Omega.{arith}
use Rattle.std.proofs.Math.Dec.{eqb-suc-zero}
use Rattle.records.specs.Forest.{end, node, append_f, count_f, any_f, count_f_append, count_f_map}
use Rattle.records.specs.Label.{Label, Trees, ◌∶◌, repay, become}
use Rattle.rewriting.specs.Parts.{tree, decorators, undecorate, with_elements, elements_of, id_of, has_private_in, has_static, first_constructor, bare_first}
use Rattle.rewriting.specs.Visit.{array, is_ref, to_alias, renamed, Symbols, named_symbols, symbols_of, aliased, assignment, let_alias, block_alias, alias_block, call_block, queued, export, with_id, decorated_statement, decorated₁, decorated₂, name_class, extend_body, live_class_if}
use Rattle.rewriting.specs.declared.State.{State}
use Rattle.walk_laws.specs.After.{mentioned}
use Rattle.walk_laws.specs.Written.{word_by, written, written_end, written_node, written_append, written_tree}
use Rattle.walk_laws.specs.Alias.{alias_written, first_alias, bare_first_alias}
use Rattle.walk_laws.specs.ClassParts.{id_tree, id_symbol, class_parts, Without, IsId, class_elements, class_with, class_undecorate, give_id, name_id, give_class, name_class_lem, parts_written, count_bare_first}
use Rattle.walk_laws.specs.Calls.{symbol_of}
use Rattle.walk_laws.specs.ClassPlan.{Plan, decorated_plan, under, optional, block_words, export_words}

-- ---- the words of each part

module _ (word : ℕ → ℕ → ℕ) where
  leaf_written : (l : Label) → written word (tree l end) ≡ word_by word l ∷ []
  unfolding tree
  leaf_written l = written_tree word l end ∙ ap (word_by word l ∷◌) (written_end word)

  -- rule 6
  renamed_written : (c : ℕ) (alias : Option ℕ) (f : Trees) → written word (renamed c alias f) ≡ written (under word c alias) f
  unfolding renamed under
  renamed_written c none f = refl
  renamed_written c (some b) f = alias_written word c b f

  aliased_written : (alias : Option ℕ) (e : Trees) → written word (aliased alias e) ≡ optional word 18 alias ++ written word e
  unfolding aliased optional tree word_by ◌∶◌
  aliased_written none e = refl
  aliased_written (some b) e = written_tree word (18 ∶ b) e

  -- rules 8 and 9
  pub head_written : (private static : Bool) (l : Label) (c : ℕ) (alias : Option ℕ) (cls : Trees) → l.kind ≡ 4 →
      written word (decorated_statement private l c (let_alias alias static) cls) ≡
      cond (not private) (word 5 c ∷ (cond static [] (optional word 18 alias) ++ (word 20 0 ∷ []))) (word 4 l.payload ∷ []) ++ written word cls
  unfolding decorated_statement let_alias tree word_by ◌∶◌ become aliased
  head_written true static l c alias cls k = rw (← k) (written_tree word l cls)
  head_written false true l c alias cls k = written_tree word (become l 5 c) _ ∙ ap (word 5 c ∷◌) (written_tree word (20 ∶ 0) cls)
  head_written false false l c alias cls k =
      written_tree word (become l 5 c) _
      ∙ ap (word 5 c ∷◌) (aliased_written alias _ ∙ ap (optional word 18 alias ++◌) (written_tree word (20 ∶ 0) cls) ∙ sym (append_assoc (optional word 18 alias) (word 20 0 ∷ []) (written word cls)))

  -- rule 7
  pub assignment_written : (c : ℕ) (alias : Option ℕ) (entries : Trees) →
      written word (assignment c alias entries) ≡
      word 2 0 ∷ word 18 c ∷ (optional word 18 alias ++ (word 22 2 ∷ word 16 (count_f entries) ∷ (written word entries ++ (word 9 c ∷ []))))
  unfolding assignment array tree word_by ◌∶◌ append_f
  assignment_written c alias entries =
      written_tree word (2 ∶ 0) _
      ∙ ap (word 2 0 ∷◌) (written_tree word (18 ∶ c) _ ∙ ap (word 18 c ∷◌) (aliased_written alias _ ∙ ap (optional word 18 alias ++◌) (
      written_tree word (22 ∶ 2) _
      ∙ ap (word 22 2 ∷◌) (written_node word (16 ∶ count_f entries) entries _
      ∙ ap (λ (xs : List ℕ). word 16 (count_f entries) ∷ (written word entries ++ xs)) (leaf_written (9 ∶ c))))))

  -- rule 10
  pub export_written : (p c : ℕ) → written word (export p c) ≡ export_words word p c
  unfolding export export_words tree word_by ◌∶◌
  export_written zero c = written_end word
  export_written (suc zero) c = leaf_written (6 ∶ c)
  export_written (suc (suc p)) c = leaf_written (7 ∶ c)

  -- rules 8 and 9: the blocks in front of the elements and behind them
  front_written : (alias : Option ℕ) (static : Bool) → written word (alias_block (block_alias alias static)) ≡ cond (is_some alias && static) (block_words word alias) []
  unfolding alias_block block_alias block_words tree word_by ◌∶◌
  front_written none true = written_end word
  front_written none false = written_end word
  front_written (some b) false = written_end word
  front_written (some b) true =
      written_tree word (33 ∶ 1) _ ∙ ap (word 33 1 ∷◌) (written_tree word (2 ∶ 0) _ ∙ ap (word 2 0 ∷◌) (written_tree word (18 ∶ b) _ ∙ ap (word 18 b ∷◌) (leaf_written (15 ∶ 0))))

  pub block_written : (private : Bool) (calls : Trees) → written word (call_block private calls) ≡ cond private (word 33 (count_f calls) ∷ written word calls) []
  unfolding call_block tree word_by ◌∶◌
  block_written true calls = written_tree word (33 ∶ count_f calls) calls
  block_written false calls = written_end word

  pub queued_written : (private : Bool) (calls : Trees) → written word (queued private calls) ≡ cond private [] (written word calls)
  unfolding queued
  queued_written true calls = written_end word
  queued_written false calls = refl

  pub kind_word : (k : ℕ) (l : Label) → l.kind ≡ k → word_by word l ≡ word k l.payload
  unfolding word_by
  kind_word k l e = rw e

  id_written : (i : Option Label) → IsId i → written word (id_tree i) ≡ optional word 27 (id_symbol i)
  unfolding id_tree IsId id_symbol optional
  id_written none h = written_end word
  id_written (some i) h = leaf_written i ∙ ap (◌∷ []) (kind_word 27 i h)

  -- a class of kind 26 without decorators, its id, its heritage, its body
  pub parts_words : (c d : Label) (i : Option Label) (h : Trees) (b : Label) (els : Trees) → c.kind ≡ 26 → d.kind ≡ 28 → IsId i → b.kind ≡ 29 →
      written word (tree c (class_parts (repay d 0) end i h b els)) ≡
      word 26 c.payload ∷ word 28 0 ∷ (optional word 27 (id_symbol i) ++ (written word h ++ (word 29 b.payload ∷ written word els)))
  unfolding tree repay
  parts_words c d i h b els ck dk ik bk =
      written_tree word c _
      ∙ cc (parts_written word (repay d 0) end i h b els, kind_word 26 c ck, kind_word 28 (repay d 0) dk, kind_word 29 b bk, written_end word, id_written i ik)

front_count : (alias : Option ℕ) (static : Bool) → count_f (alias_block (block_alias alias static)) ≡ from_bool (is_some alias && static)
unfolding alias_block block_alias tree count_f
front_count none true = refl
front_count none false = refl
front_count (some b) true = refl
front_count (some b) false = refl

pub block_count : (private : Bool) (calls : Trees) → count_f (call_block private calls) ≡ from_bool private
unfolding call_block tree count_f
block_count true calls = refl
block_count false calls = refl

pub queued_count : (private : Bool) (f : Trees) → count_f (queued private f) ≡ cond private 0 (count_f f)
unfolding queued count_f
queued_count true f = refl
queued_count false f = refl

pub export_count : (p c : ℕ) → count_f (export p c) ≡ from_bool (not (eqb p 0))
unfolding export tree count_f
export_count zero c = refl
export_count (suc zero) c = refl
export_count (suc (suc p)) c = rw (eqb-suc-zero (suc p))

pub statement_count : (private : Bool) (l : Label) (c : ℕ) (alias : Option ℕ) (cls : Trees) → count_f (decorated_statement private l c alias cls) ≡ 1
unfolding decorated_statement tree count_f
statement_count true l c alias cls = refl
statement_count false l c alias cls = refl

-- ---- the parts of a decorated class

-- rule 6 and the first constructor's parts
renamed_bare : (c : ℕ) (alias : Option ℕ) (f : Trees) → bare_first (renamed c alias f) ≡ renamed c alias (bare_first f)
unfolding renamed
renamed_bare c none f = refl
renamed_bare c (some b) f = bare_first_alias c b f

renamed_first : (c : ℕ) (alias : Option ℕ) (f : Trees) → first_constructor (renamed c alias f) ≡ renamed c alias (first_constructor f)
unfolding renamed
renamed_first c none f = refl
renamed_first c (some b) f = first_alias c b f

renamed_count : (c : ℕ) (alias : Option ℕ) (f : Trees) → count_f (renamed c alias f) ≡ count_f f
unfolding renamed
renamed_count c none f = refl
renamed_count c (some b) f = count_f_map (to_alias c b) f

-- the elements of its body
unfoldable pub elements_by : Bool → Bool → ℕ → Option ℕ → Trees → Trees → Trees
elements_by private static c alias els calls = append_f (alias_block (block_alias alias static)) (append_f (bare_first (renamed c alias els)) (call_block private calls))

module _ (private static : Bool) (c : ℕ) (alias : Option ℕ) (els calls : Trees) where
  pub body_count : count_f (elements_by private static c alias els calls) ≡ count_f els + (from_bool (is_some alias && static) + from_bool private)
  unfolding elements_by
  body_count =
      let a : Trees = alias_block (block_alias alias static) in
      let e : Trees = bare_first (renamed c alias els) in
      omega (
        arith,
        count_f_append a (append_f e (call_block private calls)),
        count_f_append e (call_block private calls),
        front_count alias static,
        block_count private calls,
        count_bare_first (renamed c alias els),
        renamed_count c alias els,
      )

  pub body_written : (word : ℕ → ℕ → ℕ) → written word (elements_by private static c alias els calls) ≡
      cond (is_some alias && static) (block_words word alias) [] ++ (written (under word c alias) (bare_first els) ++ cond private (word 33 (count_f calls) ∷ written word calls) [])
  unfolding elements_by
  body_written word =
      written_append word (alias_block (block_alias alias static)) _
      ∙ ap (written word (alias_block (block_alias alias static)) ++◌) (written_append word (bare_first (renamed c alias els)) (call_block private calls))
      ∙ cc (front_written word alias static, block_written word private calls, renamed_bare c alias els, renamed_written word c alias (bare_first els))

-- the entries of the array of its assignment
module _ (c : ℕ) (alias : Option ℕ) (els ds : Trees) where
  pub entries_count : count_f (append_f ds (first_constructor (renamed c alias els))) ≡ count_f ds + count_f (first_constructor els)
  entries_count = count_f_append ds _ ∙ cc (renamed_first c alias els, renamed_count c alias (first_constructor els))

  pub entries_written : (word : ℕ → ℕ → ℕ) → written word (append_f ds (first_constructor (renamed c alias els))) ≡ written word ds ++ written (under word c alias) (first_constructor els)
  entries_written word = written_append word ds _ ∙ cc (renamed_first c alias els, renamed_written word c alias (first_constructor els))

-- its symbols by its plan
symbols_plan : (id : Option ℕ) (t : State) (els : Trees) →
    ((symbols_of id t.default t.next els).outer ≡ (decorated_plan id t (mentioned id els)).outer) ×
    ((symbols_of id t.default t.next els).inner ≡ (decorated_plan id t (mentioned id els)).inner) ×
    ((symbols_of id t.default t.next els).alias ≡ (decorated_plan id t (mentioned id els)).alias)
unfolding symbols_of decorated_plan mentioned
symbols_plan (some c) t els = go (any_f (is_ref c) els)
  where
    go : (m : Bool) → ((named_symbols m c t.next).outer ≡ c) × ((named_symbols m c t.next).inner ≡ some t.next) × ((named_symbols m c t.next).alias ≡ cond m (some (suc t.next)) none)
    go true = unfold named_symbols in (refl, refl, refl)
    go false = unfold named_symbols in (refl, refl, refl)
symbols_plan none t els = go t.default
  where
    go : (d : Option ℕ) → ((symbols_of none d t.next els).outer ≡ symbol_of d (some t.next)) × ((symbols_of none d t.next els).inner ≡ none) × ((symbols_of none d t.next els).alias ≡ none)
    go none = unfold symbol_of in (refl, refl, refl)
    go (some d) = unfold symbol_of in (refl, refl, refl)

-- ---- the class: c with its 28 d, its id i, its heritage h and its 29 b

pub give_plan : (i : Option Label) (t : State) (m : Bool) → id_symbol (give_id (decorated_plan (id_symbol i) t m).inner i) ≡ (decorated_plan (id_symbol i) t m).inner
unfolding id_symbol decorated_plan give_id repay
give_plan none t m = refl
give_plan (some i) t m = refl

-- a decorated class has an id if it had one
pub flags_plan : (id : Option ℕ) (t : State) (m : Bool) → from_bool (not (is_some id) && is_some (decorated_plan id t m).inner) ≡ 0
unfolding decorated_plan
flags_plan none t m = refl
flags_plan (some c) t m = refl

pub name_plan : (d : Option ℕ) (i : Option Label) → id_symbol (name_id d i) ≡ option_or (id_symbol i) d
unfolding id_symbol name_id ◌∶◌
name_plan d (some i) = refl
name_plan none none = refl
name_plan (some n) none = refl

module _ (c d : Label) (ds : Trees) (i : Option Label) (h : Trees) (b : Label) (els : Trees) (dk : d.kind ≡ 28) (bk : b.kind ≡ 29) (ik : IsId i) (hk : Without 29 h) where
  pub give_parts : (t : State) (m : Bool) → with_id (decorated_plan (id_symbol i) t m).inner (class_parts d ds i h b els) ≡ class_parts d ds (give_id (decorated_plan (id_symbol i) t m).inner i) h b els
  give_parts t m = go i
    where
      go : (i : Option Label) → with_id (decorated_plan (id_symbol i) t m).inner (class_parts d ds i h b els) ≡ class_parts d ds (give_id (decorated_plan (id_symbol i) t m).inner i) h b els
      go none = unfold id_symbol decorated_plan give_id with_id in refl
      go (some i) = unfold id_symbol decorated_plan in give_class d ds h b els t.next i

  pub name_parts : (n : Option ℕ) → name_class (id_symbol i) n c (class_parts d ds i h b els) ≡
      tree (repay c (c.payload + from_bool (not (is_some (id_symbol i)) && is_some (option_or (id_symbol i) n)))) (class_parts d ds (name_id n i) h b els)
  name_parts n = go i n
    where
      same : (f : Trees) → tree c f ≡ tree (repay c (c.payload + 0)) f
      same f = unfold repay in rw (add-zero c.payload)

      go : (i : Option Label) (n : Option ℕ) → name_class (id_symbol i) n c (class_parts d ds i h b els) ≡
          tree (repay c (c.payload + from_bool (not (is_some (id_symbol i)) && is_some (option_or (id_symbol i) n)))) (class_parts d ds (name_id n i) h b els)
      go (some i) n = unfold id_symbol name_class name_id in same (class_parts d ds (some i) h b els)
      go none none = unfold id_symbol name_class name_id in same (class_parts d ds none h b els)
      go none (some n) = unfold id_symbol in name_class_lem d ds h b els n c ∙ rw (add-one c.payload)

  -- with other elements and its decorators gone
  pub bare_parts : (new : Trees) → with_elements new (undecorate (class_parts d ds i h b els)) ≡ class_parts (repay d 0) end i h (repay b (count_f new)) new
  bare_parts new = ap (with_elements new) (class_undecorate d ds i h b els dk bk ik hk) ∙ class_with (repay d 0) end i h b els (unfold repay in dk) bk ik hk new

  -- with more elements
  pub extend_parts : (more : Trees) → extend_body more (tree c (class_parts d ds i h b els)) ≡ tree c (class_parts d ds i h (repay b (count_f (append_f els more))) (append_f els more))
  unfolding extend_body tree
  extend_parts more =
      ap (λ (f : Trees). node c (with_elements (append_f f more) (class_parts d ds i h b els)) end) (class_elements d ds i h b els dk bk ik hk)
      ∙ ap (λ (f : Trees). node c f end) (class_with d ds i h b els dk bk ik hk (append_f els more))

-- ---- the statement l of a class c, by its plan

module _ (rk : Trees) (l c : Label) (ck calls : Trees) (outer : ℕ) (inner alias : Option ℕ) (els : Trees) where
  -- a decorated class
  unfoldable pub decorated_here : Trees
  decorated_here =
      append_f (decorated_statement (has_private_in rk) l outer (let_alias alias (has_static (elements_of rk)))
      (tree c (with_elements (elements_by (has_private_in rk) (has_static (elements_of rk)) outer alias els calls) (undecorate (with_id inner ck)))))
      (queued (has_private_in rk) (append_f calls (append_f (assignment outer alias (append_f (decorators ck) (first_constructor (renamed outer alias els)))) (export l.payload outer))))

module _ (rk : Trees) (l c d : Label) (ds : Trees) (i : Option Label) (h : Trees) (b : Label) (els calls : Trees) (t : State) (outside : Option ℕ)
    (dk : d.kind ≡ 28) (bk : b.kind ≡ 29) (ik : IsId i) (hk : Without 29 h) (ids : id_of rk ≡ id_symbol i) where
  abbrev pub cplan : Plan
  cplan = decorated_plan (id_of rk) t (mentioned (id_of rk) els)

  by_symbols : (ck : Trees) (s : Symbols) → (decorated₁ rk l c ck calls s outside).here ≡ decorated_here rk l c ck calls s.outer s.inner s.alias (elements_of ck)
  unfolding decorated₁ decorated₂ decorated_here elements_by
  by_symbols ck s = refl

  pub by_plan : (live_class_if true rk l c (class_parts d ds i h b els) calls t outside).here ≡
      decorated_here rk l c (class_parts d ds i h b els) calls cplan.outer cplan.inner cplan.alias els
  unfolding live_class_if
  by_plan =
      let ck : Trees = class_parts d ds i h b els in
      let p = symbols_plan (id_of rk) t els in
      by_symbols ck (symbols_of (id_of rk) t.default t.next (elements_of ck)) ∙ cc (class_elements d ds i h b els dk bk ik hk, p.0, p.1, p.2)
