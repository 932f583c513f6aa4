-- Demand 3 of document 01: a statement about a module as read, f, what it became, out, and the report of its fresh symbols. Definitions only.
--
-- The demand
--   "For every class declaration, at whatever point of an accepted module it stands"  Demand .lists: every list of statements of f; Listed
--   "if it isn't marked declare, no decorator .. holds a private-in test"             Gives: is_live, has_private_in, of what was read
--   "and no dropped decorator encloses it"                                             Demand .lists: the list's origin is not among `dropped`
--   "the statements put in right behind it are exactly, in this order"                 Listed, Behind.whole
--   "one call for each decorated member in element order"                              Calls
--   "one class assignment exactly when the class or its first constructor's .."        Assigned, at is_decorated_class
--   "the export exactly when the class became a let binding and was exported"          Behind .whole, .became; `export` is none for payload 0
--   "Their arrays hold each decorator .. exactly once, and no other decorator"         AsVisited in CallIf and Assigned; Demand.once
--   "a later constructor's stay in place"                                              Behind .later
--   "as read, but for the rewriting of classes inside them and the alias rules"        AsVisited; `renamed` in Assigned and Stands
--   "where rule 6, applied to an enclosing class of the same symbol, finds .."         Found .through: all of the list, by the aliases of `reaching`
-- Its terms
--   a class declaration, a decorated member, the first constructor, a private-in test  is 4, is_decorated_member, first_constructor, has_private_in
--   "every list of statements read (under 1, 3, 33 or 39) .. wherever .. moved"        is_list; Found: by its origin, anywhere in out
--   "each statement read gives one statement, in the old order", of which kind         Listed, Gives
--   "put in right behind the earlier one, ahead of all that followed it"               Listed: put, before the others
--   "the records of rules 3, 7 and 10"                                                 member_call, assignment, export
--   "told apart by where they are read"                                                an origin is part of a word
--   "a parameter's decorator is the expression under its 23"                           Below, at what is made
--   "Taken in order, the arrays hold .."                                               follows: arrays_hold of DemandArrays
-- The symbols, by the report: a class's is its id's, else its default symbol Behind.named; a computed key's stands in its element too (NameIf).
-- Of the rewriting only `visit` is named, in some state (AsVisited): the equation for all words settles the numbers; and `inside`, the class directly around.
-- The report is the definition's own: a promise must not leave it free. For words: DemandWords.
use Rattle.std.specs.Prelude.{◌≡◌, Bool, true, false, ◌&&◌, ◌||◌, not, cond, List, [], ◌∷◌, ◌++◌, ℕ, ◌+◌, eqb}
use Rattle.std.specs.declared.option.Option.{Option}
use Rattle.std.specs.declared.option.Option.TheVariants.{None as none, Some as some}
use Rattle.words.specs.Word.{bit0}
use Rattle.records.specs.Forest.{end, node, take_f, drop_f, append_f, map_f}
use Rattle.records.specs.Label.{Label, Origin, made, read, Trees, ◌∶◌, is, bit}
use Rattle.rewriting.specs.Parts.{tree, role_of, decorators, of_parameters, parameters_of, decorators_of, bare_method, bare_field, is_constructor, is_member, is_decorated_member, is_plain_key, elements_of, id_of, has_private_in, first_constructor, is_decorated_class, is_live, class_kids}
use Rattle.rewriting.specs.Visit.{Default, Key, Alias, plain_name, prefix, member_call, to_alias, renamed, assignment, export, inside, visit, outermost}
use Rattle.rewriting.specs.declared.Around.{Around}
use Rattle.rewriting.specs.declared.State.{State}

-- ---- records, origins and the report

-- the record with the word l and the children k stands somewhere in a forest
pub data Has (l : Label) (k : Trees) : Trees → Type 0 where
  first : {r : Trees} → Has l k (node l k r)
  below : {a : Label} {b r : Trees} → Has l k b → Has l k (node a b r)
  behind : {a : Label} {b r : Trees} → Has l k r → Has l k (node a b r)

unfoldable pub same : Origin → Origin → Bool
same made made = true
same made (read j) = false
same (read i) made = false
same (read i) (read j) = eqb i j

-- how many records of a forest were read at the place i
unfoldable pub is_at : ℕ → Origin → ℕ
is_at i o = cond (same (read i) o) 1 0

unfoldable pub count_at : ℕ → Trees → ℕ
count_at i end = 0
count_at i (node l k r) = is_at i l.from + count_at i k + count_at i r

-- the symbol of a sort that the record of this origin took
unfoldable pub taken : ℕ → Origin → List Label → Option ℕ
taken sort o [] = none
taken sort o (x ∷ xs) = cond (is sort x && same o x.from) (some x.payload) (taken sort o xs)

-- ---- dropped decorators: rule 9's, of a live class's statement l, and rule 2's, of a member l of a class that isn't live

unfoldable pub dropped_at : Bool → Label → Trees → Trees
dropped_at live l k =
    let ck = class_kids k in
    cond (is 4 l && is_live k && has_private_in ck) (append_f (decorators ck) (first_constructor (elements_of ck)))
    (cond (is_member l && not live) (decorators_of (role_of l) k) end)

unfoldable pub dropped : Around → Trees → Trees
dropped around end = end
dropped around (node l k r) = append_f (dropped_at around.live l k) (append_f (dropped (inside (role_of l) around k) k) (dropped around r))

-- ---- the alias rules

-- what rule 6 searches for a class with these elements, as read: they without their members' decorators
unfoldable pub searched : Trees → Trees
searched end = end
searched (node e ek r) = node e (cond (is_member e) (cond (is 30 e) (bare_method ek) (bare_field ek)) ek) (searched r)

unfoldable pub both : Option ℕ → Option ℕ → List (ℕ × ℕ)
both none b = []
both (some c) none = []
both (some c) (some b) = (c, b) ∷ []

-- symbol and alias of the class statements whose search reaches the record read at i, the outermost first
unfoldable pub reaching : List Label → ℕ → Trees → List (ℕ × ℕ)
reaching report i end = []
reaching report i (node l k r) =
    let ck = class_kids k in
    cond (is 4 l && eqb (count_at i (searched (elements_of ck))) 1) (both (id_of ck) (taken Alias l.from report)) [] ++
    (reaching report i k ++ reaching report i r)

unfoldable pub through_all : List (ℕ × ℕ) → Trees → Trees
through_all [] f = f
through_all (p ∷ ps) f = map_f (to_alias p.0 p.1) (through_all ps f)

-- ---- the arrays, the calls (rules 3 and 5) and the class assignment (rule 7)

-- each record of the one is a record of the other, in order: the same word with its children visited; under a 23, which is made, the same again
abbrev pub Below : Origin → Type 0 → Trees → Trees → Type 0
Below (read i) again k j = (around : Around) × (s : State) × (j ≡ (visit around k s).here)
Below made again k j = again

abbrev pub AsVisited : Trees → Trees → Type 0
AsVisited end end = Unit {0}
AsVisited end (node m j g) = ⊥
AsVisited (node l k f) end = ⊥
AsVisited (node l k f) (node m j g) = (m ≡ l) × Below l.from (AsVisited k j) k j × AsVisited f g

-- of a class with the symbol c and this alias; ok: the children of what its statement became
module _ (report : List Label) (c : ℕ) (alias : Option ℕ) (ok : Trees) where
  -- its element e stands there with the children k, but for the alias
  abbrev pub Stands : Label → Trees → Type 0
  Stands e k = Has e (renamed c alias k) ok

  -- the name of a member e with this key: rule 5's; or 9:n with 18:n over the key in the element e, n being e's key symbol
  abbrev pub NameIf : Bool → Label → Label → Trees → Trees → Type 0
  NameIf true e key kk name = name ≡ tree (plain_name key) end
  NameIf false e key kk name = (n : ℕ) × (k : Trees) × (value : Trees) × (taken Key e.from report ≡ some n) × (name ≡ tree (9 ∶ n) end) ×
      Stands e k × (take_f 1 (drop_f 1 k) ≡ tree (18 ∶ n) value) × AsVisited (tree key kk) value

  abbrev pub Name : Label → Trees → Trees → Type 0
  Name e end name = ⊥
  Name e (node key kk r) name = NameIf (is_plain_key key) e key kk name

  -- for one element (e, ek): one call if it is a decorated member, else nothing. The key is the second child
  abbrev pub CallIf : Bool → Label → Trees → Trees → Type 0
  CallIf false e ek calls = calls ≡ end
  CallIf true e ek calls = (entries : Trees) × (name : Trees) ×
      (calls ≡ member_call entries (prefix c (bit bit0 e)) name (cond (is 31 e) (14 ∶ 0) (13 ∶ 0))) ×
      AsVisited (decorators_of (role_of e) ek) entries × Name e (drop_f 1 ek) name

  abbrev pub Calls : Trees → Trees → Type 0
  Calls end calls = calls ≡ end
  Calls (node e ek els) calls =
      (own : Trees) × (others : Trees) × (calls ≡ append_f own others) × CallIf (is_decorated_member e ek) e ek own × Calls els others

  -- ds, ps: the decorators of the class and of its first constructor's parameters, as read
  abbrev pub Assigned : Bool → Trees → Trees → Trees → Type 0
  Assigned false ds ps put = put ≡ end
  Assigned true ds ps put =
      (es : Trees) × (qs : Trees) × (put ≡ assignment c alias (append_f es (renamed c alias qs))) × AsVisited ds es × AsVisited ps qs

  -- each of these constructors stands there with its parameters' decorators
  abbrev pub Stay : Trees → Type 0
  Stay end = Unit {0}
  Stay (node e ek els) = ((k : Trees) × Stands e k × AsVisited (of_parameters 0 (parameters_of ek)) (of_parameters 0 (parameters_of k))) × Stay els

unfoldable pub constructors : Trees → Trees
constructors end = end
constructors (node e ek els) = cond (is_constructor e) (node e ek (constructors els)) (constructors els)

-- ---- lists of statements

-- c is the symbol of a class with this id and this default symbol; put is behind it
abbrev pub Names : Option ℕ → Option ℕ → ℕ → Trees → Type 0
Names (some i) d c put = c ≡ i
Names none (some d) c put = c ≡ d
Names none none c put = put ≡ end

-- the statement l of a class with the children ck gives the statement o over ok, and put behind it
pub record Behind (report : List Label) (l : Label) (ck : Trees) (o : Label) (ok put : Trees) : Type 0 where
  pub symbol : ℕ
  pub calls : Trees
  pub assigned : Trees
  pub whole : put ≡ append_f calls (append_f assigned (cond (is 5 o) (export l.payload symbol) end))
  pub named : Names (id_of ck) (taken Default l.from report) symbol put
  pub called : Calls report symbol (taken Alias l.from report) ok (elements_of ck) calls
  pub assign : Assigned report symbol (taken Alias l.from report) ok (is_decorated_class ck) (decorators ck) (first_constructor (elements_of ck)) assigned
  pub became : o.kind ≡ cond (is_decorated_class ck) 5 4
  pub bound : is 5 o ≡ true → o.payload ≡ symbol
  pub later : Stay report symbol (taken Alias l.from report) ok (drop_f 1 (constructors (elements_of ck)))

abbrev pub ClassGives : Bool → List Label → Label → Trees → Label → Trees → Trees → Type 0
ClassGives true report l ck o ok put = Behind report l ck o ok put
ClassGives false report l ck o ok put = put ≡ end

-- a statement (l, k), a class declaration or not
abbrev pub Gives : Bool → List Label → Label → Trees → Label → Trees → Trees → Type 0
Gives false report l k o ok put = (o.kind ≡ l.kind) × (put ≡ end)
Gives true report l k o ok put =
    ((is 4 o || is 5 o) ≡ true) × ClassGives (is_live k && not (has_private_in (class_kids k))) report l (class_kids k) o ok put

-- the statements ss as read give the statements os, in order: each gives one of its origin, and what is put in right behind that
abbrev pub Listed : List Label → Trees → Trees → Type 0
Listed report end os = os ≡ end
Listed report (node l k ss) os = (o : Label) × (ok : Trees) × (put : Trees) × (others : Trees) × (os ≡ node o ok (append_f put others)) ×
    (o.from ≡ l.from) × Gives (is 4 l) report l k o ok put × Listed report ss others

unfoldable pub is_list : Label → Bool
is_list l = is 1 l || is 3 l || is 33 l || is 39 l

-- the first child of a module is no statement
unfoldable pub statements_of : Label → Trees → Trees
statements_of l k = cond (is 1 l) (drop_f 1 k) k

-- what became of the list of statements (l, k) of f, read at i
pub record Found (f out : Trees) (report : List Label) (i : ℕ) (l : Label) (k : Trees) : Type 0 where
  pub label : Label
  pub kids : Trees
  pub there : Has label kids out
  pub origin : label.from ≡ read i
  pub kind : label.kind ≡ l.kind
  pub statements : Trees
  pub through : statements_of l kids ≡ through_all (reaching report i f) statements
  pub listed : Listed report (statements_of l k) statements

pub record Demand (f out : Trees) (report : List Label) : Type 0 where
  pub lists : (l : Label) (k : Trees) (i : ℕ) → Has l k f → is_list l ≡ true → l.from ≡ read i → count_at i (dropped outermost f) ≡ 0 → Found f out report i l k
  -- each record read stands as often as it was read, once; one in a dropped decorator doesn't
  pub once : (i : ℕ) → count_at i out ≡ cond (eqb (count_at i (dropped outermost f)) 0) (count_at i f) 0
