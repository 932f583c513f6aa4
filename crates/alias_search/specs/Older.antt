-- A symbol that is no fresh one: it is below the counter and isn't the default symbol of the class around, before and after any visit.
-- Assumes nothing.
use Rattle.std.specs.Prelude.{◌≡◌, Bool, ℕ, ◌<◌, eqb}
use Rattle.std.proofs.Math.Path.{refl}
use Rattle.std.proofs.Math.Bool.{true, false}
use Rattle.std.specs.declared.option.Option.{Option}
use Rattle.std.specs.declared.option.Option.TheVariants.{None as none, Some as some}
use native.Mathlib.Omega.{arith}
use Rattle.std.proofs.Common.{ne_eqb}
use Rattle.records.specs.Forest.{end, node, any_f}
use Rattle.records.specs.Label.{Label, Trees}
use Rattle.rewriting.specs.Parts.{Role, module', list, statement, expression, method, constructor, plain, field, role_of, elements_of, is_decorated, is_live, id_of, class_kids}
use Rattle.rewriting.specs.Visit.{Result, class_symbol, name_if, name_of, called₁, called₂, member_if, member, is_ref, named_symbols, symbols_of, decorated₁, decorated₂, live_class_if, live_class, dead_class, class_if, kept, own, since, work, inside, entering, visit, visit_one, visit_end}
use Rattle.rewriting.specs.declared.Around.{Around}
use Rattle.rewriting.specs.declared.State.{State}
use Rattle.alias_search.specs.Visited.{after_node}
use Rattle.alias_search.specs.Mentions.{is_symbol}

pub record Older (c : ℕ) (s : State) : Type 0 where
  pub low : c < s.next
  pub other : is_symbol c s.default ≡ false

pub fresh_other : (c n : ℕ) → c < n → eqb n c ≡ false
fresh_other c n h = let g : n ≡ c → ⊥ = omega arith in ne_eqb n c g

module _ (c : ℕ) where
  -- the symbol of a class is c exactly where its id is
  pub symbol_is : (id d : Option ℕ) (s : State) → c < s.next → is_symbol c d ≡ false → eqb (class_symbol id d s).symbol c ≡ is_symbol c id
  unfolding class_symbol is_symbol
  symbol_is (some i) d s h e = refl
  symbol_is none (some d) s h e = e
  symbol_is none none s h e = fresh_other c s.next h

  pub symbol_after : (id d : Option ℕ) (s : State) → Older c s → Older c (class_symbol id d s).after
  unfolding class_symbol
  symbol_after (some i) d s o = o
  symbol_after none (some d) s o = o
  symbol_after none none s o = record { low = omega arith; other = unfold is_symbol in fresh_other c s.next o.low }

  name_after : (b : Bool) (f : Trees) (s : State) → Older c s → Older c (name_of b f s).after
  unfolding name_of name_if
  name_after b end s o = o
  name_after true (node l k r) s o = o
  name_after false (node l k r) s o = record { low = omega arith; other = o.other }

  member_after_lem : (b : Bool) (around : Around) (l : Label) (k bare entries : Trees) (d : Label) (a : Result) → Older c a.after → Older c (member_if b around l k bare entries d a).after
  unfolding member_if called₁ called₂
  member_after_lem true around l k bare entries d a o = name_after _ _ _ (symbol_after around.id a.after.default a.after o)
  member_after_lem false around l k bare entries d a o = o

  symbols_after : (id d : Option ℕ) (n : ℕ) (f : Trees) → c < n → c < (symbols_of id d n f).next
  unfolding symbols_of
  symbols_after (some i) d n f h = go (any_f (is_ref i) f)
    where
      go : (b : Bool) → c < (named_symbols b i n).next
      go true = unfold named_symbols in omega arith
      go false = unfold named_symbols in omega arith
  symbols_after none (some d) n f h = h
  symbols_after none none n f h = omega arith

  live_after : (b : Bool) (rk : Trees) (l m : Label) (ck calls : Trees) (s : State) (outside : Option ℕ) → c < s.next → is_symbol c outside ≡ false →
      Older c (live_class_if b rk l m ck calls s outside).after
  unfolding live_class_if decorated₁ decorated₂
  live_after true rk l m ck calls s outside h e = record { low = symbols_after (id_of rk) s.default s.next (elements_of ck) h; other = e }
  live_after false rk l m ck calls s outside h e = record { low = h; other = e }

  class_after_lem : (b : Bool) (l : Label) (k : Trees) (outside : Option ℕ) (a : Result) → c < a.after.next → is_symbol c outside ≡ false → Older c (class_if b l k outside a).after
  unfolding class_if
  class_after_lem true l k outside a h e = go a.here
    where
      go : (f : Trees) → Older c (live_class (class_kids k) l f a.calls a.after outside).after
      go end = unfold live_class in record { low = h; other = e }
      go (node m ck r) = unfold live_class in live_after (is_decorated (class_kids k)) (class_kids k) l m ck a.calls a.after outside h e
  class_after_lem false l k outside a h e = unfold dead_class in record { low = h; other = e }

  own_after : (r : Role) (around : Around) (l : Label) (k : Trees) (s : State) (a : Result) → Older c s → Older c a.after → Older c (own r around l k s.default a).after
  unfolding own kept member dead_class
  own_after module' around l k s a o h = h
  own_after list around l k s a o h = h
  own_after statement around l k s a o h = class_after_lem (is_live k) l k s.default a h.low o.other
  own_after expression around l k s a o h = record { low = h.low; other = o.other }
  own_after method around l k s a o h = member_after_lem _ around l k _ _ _ a h
  own_after constructor around l k s a o h = h
  own_after (field d) around l k s a o h = member_after_lem _ around l k _ _ _ a h
  own_after plain around l k s a o h = h

  -- where a record's children start
  pub entering_older : (r : Role) (s : State) → Older c s → Older c (entering r s)
  unfolding entering
  entering_older module' s o = o
  entering_older list s o = o
  entering_older statement s o = record { low = o.low; other = unfold is_symbol in refl }
  entering_older expression s o = record { low = o.low; other = unfold is_symbol in refl }
  entering_older method s o = o
  entering_older constructor s o = o
  entering_older (field d) s o = o
  entering_older plain s o = o

  one_after : (around : Around) (l : Label) (k : Trees) (s : State) → ((around' : Around) (t : State) → Older c t → Older c (visit around' k t).after) → Older c s →
      Older c (visit_one around l k s).after
  unfolding visit_one work since
  one_after around l k s h o =
      own_after (role_of l) around l k s (visit (inside (role_of l) around k) k (entering (role_of l) s)) o (h (inside (role_of l) around k) (entering (role_of l) s) (entering_older (role_of l) s o))

  pub visit_older : (around : Around) (f : Trees) (s : State) → Older c s → Older c (visit around f s).after
  visit_older around end s o = rw visit_end o
  visit_older around (node l k r) s o =
      rw after_node (visit_older around r (visit_one around l k s).after (one_after around l k s (λ around' t. visit_older around' k t) o))

  pub one_older : (around : Around) (l : Label) (k : Trees) (s : State) → Older c s → Older c (visit_one around l k s).after
  one_older around l k s o = one_after around l k s (λ around' t. visit_older around' k t) o
