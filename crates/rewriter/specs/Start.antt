-- What an accepted module gives the walkers at its start. Assumes nothing.
use Rattle.std.specs.Prelude.{◌≡◌, Bool, true, cond, List, [], ◌∷◌, ℕ, zero, suc, ◌+◌, ◌<◌, ◌≤◌, ltb, length}
use Rattle.std.proofs.Math.Path.{refl, subst}
use Rattle.std.proofs.Common.{sym, ◌∙◌, add-one, arith, eqb-true, ltb-true, ltb-false}
use Rattle.std.proofs.Math.Bool.{false}
use Rattle.std.specs.declared.option.Option.TheVariants.{None as none, Some as some}
use Rattle.words.specs.Table.{lookup}
use Rattle.records.specs.Forest.{end, node, take_f, drop_f, append_f, take_drop}
use Rattle.records.specs.Prefix.{stack_at}
use Rattle.records.specs.Label.{Label, Trees, is}
use Rattle.records.specs.declared.Note.{Note}
use Rattle.records.specs.Place.{records_at, arity_at, kids_at, records_node, kids_past}
use Rattle.grammar.specs.Grammar.{module', is_symbol}
use Rattle.grammar.specs.Scan.{refusal, symbols_of}
use Rattle.grammar.specs.WellFormed.{tree_of, Fits, Each, Known, WellFormed}
use Rattle.grammar.proofs.Accepted.{accepted}
use Rattle.rewriting.specs.Parts.{symbol_if, id_of}
use Rattle.rewriting.specs.Visit.{module_of}
use Rattle.counter.specs.Contract.{Below, Planned, Ready}

-- the records from the start on are the module's
pub records_tree : (ws : List ℕ) → records_at ws 0 ≡ tree_of ws
unfolding records_at stack_at tree_of
records_tree ws = refl

pub records_module : (ws : List ℕ) → records_at ws 0 ≡ module_of ws
unfolding records_at stack_at module_of
records_module ws = refl

-- ---- a fact about every record, by place

each_append : (P : Label → Type 0) (f g : Trees) → Each P f → Each P g → Each P (append_f f g)
unfolding Each append_f
each_append P end g a b = b
each_append P (node l k r) g a b = (a.0, a.1, each_append P r g a.2 b)

pub each_first : (P : Label → Type 0) (l : Label) (k r : Trees) → Each P (node l k r) → P l × Each P k × Each P r
unfolding Each
each_first P l k r h = h

module _ (P : Label → Type 0) (ws : List ℕ) where
  each_next : (i : ℕ) → i < length ws → Each P (records_at ws i) → Each P (kids_at ws i) × Each P (records_at ws (i + 1))
  each_next i h e =
      let f = each_first P _ _ _ (subst (Each P) (records_node ws i h) e) in
      let w : append_f (kids_at ws i) (drop_f (arity_at ws i) (records_at ws (i + 1))) ≡ records_at ws (i + 1) = unfold kids_at in take_drop (arity_at ws i) (records_at ws (i + 1)) in
      (f.1, subst (Each P) w (each_append P _ _ f.1 f.2))

  pub each_at : Each P (records_at ws 0) → (i : ℕ) → i ≤ length ws → Each P (records_at ws i)
  each_at e zero h = e
  each_at e (suc i) h = subst (λ (n : ℕ). Each P (records_at ws n)) (add-one i) (each_next i (omega arith) (each_at e i (omega arith))).1

  each_kids : Each P (records_at ws 0) → (i : ℕ) → Each P (kids_at ws i)
  each_kids e i = go (ltb i (length ws)) refl
    where
      go : (b : Bool) → ltb i (length ws) ≡ b → Each P (kids_at ws i)
      go true t = let h : i < length ws = ltb-true i (length ws) t in (each_next i h (each_at e i (omega arith))).0
      go false t = subst (Each P) (sym (kids_past ws i (ltb-false i (length ws) t))) (unfold Each in tt)

known_27 : (s : ℕ) (l : Label) → l.kind ≡ 27 → Known s l → l.payload < s
unfolding Known is_symbol lookup
known_27 s l e h = h (rw e)

-- the symbol of an id is one of the module's
symbol_below : (s : ℕ) (f : Trees) → Each (Known s) f → Below s (symbol_if f)
unfolding symbol_if
symbol_below s end e = unfold Below in tt
symbol_below s (node l k r) e = go (is 27 l) refl
  where
    known : Known s l
    known = (each_first (Known s) l k r e).0

    small : is 27 l ≡ true → l.payload < s
    small t = known_27 s l (eqb-true l.kind 27 (unfold is in t)) known

    go : (b : Bool) → is 27 l ≡ b → Below s (cond b (some l.payload) none)
    go true t = unfold Below in small t
    go false t = unfold Below in tt

id_below : (s : ℕ) (f : Trees) → Each (Known s) f → Below s (id_of f)
unfolding id_of
id_below s end e = unfold Below in tt
id_below s (node l k r) e = symbol_below s r (each_first (Known s) l k r e).2

-- ---- the counter and the walkers may start

module _ (ws : List ℕ) (ok : refusal ws ≡ 0) where
  pub well : WellFormed ws (tree_of ws)
  well = (accepted ws).0 ok

  pub start_fits : Fits (module' ∷ []) (records_at ws 0)
  start_fits = subst (Fits (module' ∷ [])) (sym (records_tree ws)) well.fits

  pub start_ready : (notes : List Note) → Planned ws notes → Ready ws notes 0 (symbols_of ws)
  start_ready notes p = record {
    few = well.sized.few;
    inside = omega arith;
    whole = start_fits;
    planned = p;
    ids = λ i e. id_below (symbols_of ws) (kids_at ws i) (each_kids (Known (symbols_of ws)) ws (subst (Each (Known (symbols_of ws))) (sym (records_tree ws)) well.known) i);
    room = omega (arith, well.count, well.sized.few);
  }

  pub ready_at : {notes : List Note} (s : ℕ) → s ≡ symbols_of ws → Planned ws notes → Ready ws notes 0 s
  ready_at {notes} s e p = subst (λ (n : ℕ). Ready ws notes 0 n) (sym e) (start_ready notes p)

  -- a module is one record
  one_record : (f : Trees) → Fits (module' ∷ []) f → take_f 1 f ≡ f
  unfolding Fits take_f
  one_record end h = absurd h
  one_record (node l k end) h = refl
  one_record (node l k (node m j r)) h = absurd h.2

  pub whole_record : take_f 1 (records_at ws 0) ≡ module_of ws
  whole_record = one_record (records_at ws 0) start_fits ∙ records_module ws

  pub start_inside : 0 < length ws
  start_inside = omega (arith, well.sized.some)
