-- The rewriting of a module as a definition on forests: rules 1 to 10 of document 01. Definitions, and the clauses of the visit.
use Rattle.std.specs.Prelude.{◌≡◌, refl, Bool, true, false, ◌&&◌, ◌||◌, cond, List, [], ◌∷◌, ◌++◌, map, ℕ, zero, suc, eqb}
use Rattle.std.specs.declared.option.Option.{Option}
use Rattle.std.specs.declared.option.Option.TheVariants.{None as none, Some as some}
use Rattle.words.specs.Word.{bit0}
use Rattle.records.specs.Forest.{end, node, flat, take_f, drop_f, append_f, count_f, any_f, map_f}
use Rattle.records.specs.Prefix.{build}
use Rattle.records.specs.Label.{Label, Origin, made, read, Trees, ◌∶◌, repay, become, is, bit, read_from, words, arity}
use Rattle.rewriting.specs.Parts.{tree, is_empty, recount, Role, module', list, statement, expression, method, constructor, plain, field, role_of, decorators, undecorate, decorators_of, bare_method, bare_field, is_decorated_member, has_plain_key, elements_of, with_elements, id_of, has_private_in, has_static, first_constructor, bare_first, is_decorated, is_live, class_kids}
-- ---- context, state and result

-- the class directly around; the next fresh symbol with the default symbol of that class: structs, which the walkers have too
use Rattle.rewriting.specs.declared.Around.{Around}
use Rattle.rewriting.specs.declared.State.{State}

-- what stands there now, the calls queued for the class around, the fresh symbols in order of need, the state behind
pub record Result : Type 0 where
  pub here : Trees
  pub calls : Trees
  pub fresh : List Label
  pub after : State

-- ---- fresh symbols: the sort as the kind, the symbol as the payload ("The second answer"), and the record that took it

abbrev pub Default : ℕ
Default = 1

abbrev pub Key : ℕ
Key = 2

abbrev pub Inner : ℕ
Inner = 3

abbrev pub Alias : ℕ
Alias = 4

-- the symbols whose record isn't said yet were taken by the record l
unfoldable pub sign : Origin → Label → Label
sign o x = sign_if x.from o x
  where
    sign_if : Origin → Origin → Label → Label
    sign_if made o x = record { kind = x.kind; payload = x.payload; from = o }
    sign_if (read i) o x = x

unfoldable pub signed : Label → List Label → List Label
signed l xs = map (sign l.from) xs

-- ---- members (rules 2 to 5)

-- the symbol of a live class, and the state once it has one
pub record Taken : Type 0 where
  pub symbol : ℕ
  pub fresh : List Label
  pub after : State

-- rule 4. id: the symbol of its id; d: its default symbol, if it has taken one
unfoldable pub class_symbol : Option ℕ → Option ℕ → State → Taken
class_symbol (some c) d s = record { symbol = c; fresh = []; after = s }
class_symbol none (some d) s = record { symbol = d; fresh = []; after = s }
class_symbol none none s = record {
  symbol = s.next;
  fresh = (Default ∶ s.next) ∷ [];
  after = record { next = suc s.next; default = some s.next };
}

-- the key as it stays, and the name in the call (rule 5)
pub record Named : Type 0 where
  pub key : Trees
  pub name : Trees
  pub fresh : List Label
  pub after : State

-- "34 gives 10 with that number; 35 gives 10:0; 10, 11, 12 and 13 are copied"
unfoldable pub plain_name : Label → Label
plain_name l = cond (is 34 l) (10 ∶ l.payload) (cond (is 35 l) (10 ∶ 0) (l.kind ∶ l.payload))

-- "For any other key a fresh symbol k replaces the key by 18:k over it, and the name is 9:k"
unfoldable pub name_if : Bool → Label → Trees → State → Named
name_if true l kids s = record { key = tree l kids; name = tree (plain_name l) end; fresh = []; after = s }
name_if false l kids s = record {
  key = tree (18 ∶ s.next) (tree l kids);
  name = tree (9 ∶ s.next) end;
  fresh = (Key ∶ s.next) ∷ [];
  after = record { next = suc s.next; default = s.default };
}

-- of a visited key; b: whether the key read gives a name as it stands
unfoldable pub name_of : Bool → Trees → State → Named
name_of b end s = record { key = end; name = end; fresh = []; after = s }
name_of b (node l kids rest) s = name_if b l kids s

-- rule 3: "Prefix is 9 of the class symbol if static, else 24 over that"
unfoldable pub prefix : ℕ → Bool → Trees
prefix c true = tree (9 ∶ c) end
prefix c false = tree (24 ∶ 0) (tree (9 ∶ c) end)

unfoldable pub array : Trees → Trees
array entries = tree (16 ∶ count_f entries) entries

-- rule 3: "2, 22:4, array, prefix, name, descriptor"
unfoldable pub member_call : Trees → Trees → Trees → Label → Trees
member_call entries pre name descriptor =
    tree (2 ∶ 0) (tree (22 ∶ 4) (append_f (array entries) (append_f pre (append_f name (tree descriptor end)))))

-- the key, the second child, replaced
unfoldable pub with_key : Trees → Trees → Trees
with_key key kids = append_f (take_f 1 kids) (append_f key (drop_f 2 kids))

-- a decorated member of a live class: l its word, bare its children without decorators, entries its decorators
unfoldable pub called₂ : Label → Trees → Trees → Label → Trees → Taken → Named → Result
called₂ l bare entries descriptor calls t n = record {
  here = tree l (with_key n.key bare);
  calls = append_f calls (member_call entries (prefix t.symbol (bit bit0 l)) n.name descriptor);
  fresh = t.fresh ++ signed l n.fresh;
  after = n.after;
}

unfoldable pub called₁ : Bool → Label → Trees → Trees → Label → Trees → Taken → Result
called₁ b l bare entries descriptor calls t = called₂ l bare entries descriptor calls t (name_of b (take_f 1 (drop_f 1 bare)) t.after)

-- kids: the member's children as read
unfoldable pub member_if : Bool → Around → Label → Trees → Trees → Trees → Label → Result → Result
member_if true around l kids bare entries descriptor a =
    called₁ (has_plain_key kids) l bare entries descriptor a.calls (class_symbol around.id a.after.default a.after)
member_if false around l kids bare entries descriptor a = record { here = tree l bare; calls = a.calls; fresh = []; after = a.after }

-- rule 2: a member "loses its decorators and its parameters'. In a class that isn't live they are dropped"
unfoldable pub member : Around → Label → Trees → Trees → Trees → Label → Result → Result
member around l kids bare entries descriptor a = member_if (around.live && is_decorated_member l kids) around l kids bare entries descriptor a

-- ---- classes (rules 6 to 10): c is the word of a 26, ck its children

-- rule 6: 9 or 18 of the symbol c, and its replacement by the alias b
unfoldable pub is_ref : ℕ → Label → Bool
is_ref c l = (is 9 l || is 18 l) && eqb l.payload c

unfoldable pub to_alias : ℕ → ℕ → Label → Label
to_alias c b l = cond (is_ref c l) (repay l b) l

unfoldable pub renamed : ℕ → Option ℕ → Trees → Trees
renamed c none f = f
renamed c (some b) f = map_f (to_alias c b) f

-- rule 6: the symbols of a decorated class: C, its inner symbol and its alias, if it has them; the next fresh symbol
pub record Symbols : Type 0 where
  pub outer : ℕ
  pub inner : Option ℕ
  pub alias : Option ℕ
  pub fresh : List Label
  pub next : ℕ

-- "With an id, its id word takes a fresh inner symbol .. Then, if any 9 or 18 in the rewritten body has symbol C, a fresh alias"
unfoldable pub named_symbols : Bool → ℕ → ℕ → Symbols
named_symbols true c n = record { outer = c; inner = some n; alias = some (suc n); fresh = (Inner ∶ n) ∷ (Alias ∶ suc n) ∷ []; next = suc (suc n) }
named_symbols false c n = record { outer = c; inner = some n; alias = none; fresh = (Inner ∶ n) ∷ []; next = suc n }

-- "Without id, C is the default symbol and the class stays nameless". n: the next fresh symbol
unfoldable pub symbols_of : Option ℕ → Option ℕ → ℕ → Trees → Symbols
symbols_of (some c) d n elements = named_symbols (any_f (is_ref c) elements) c n
symbols_of none (some d) n elements = record { outer = d; inner = none; alias = none; fresh = []; next = n }
symbols_of none none n elements = record { outer = n; inner = none; alias = none; fresh = (Default ∶ n) ∷ []; next = suc n }

-- an expression as it stands, or assigned to the alias
unfoldable pub aliased : Option ℕ → Trees → Trees
aliased none e = e
aliased (some b) e = tree (18 ∶ b) e

-- rule 7: "2, 18:C, (18:alias,) 22:2, array, 9:C"
unfoldable pub assignment : ℕ → Option ℕ → Trees → Trees
assignment c alias entries = tree (2 ∶ 0) (tree (18 ∶ c) (aliased alias (tree (22 ∶ 2) (append_f (array entries) (tree (9 ∶ c) end)))))

-- rule 8: the alias that the block in front assigns, and the one that the let does
unfoldable pub block_alias : Option ℕ → Bool → Option ℕ
block_alias alias true = alias
block_alias alias false = none

unfoldable pub let_alias : Option ℕ → Bool → Option ℕ
let_alias alias true = none
let_alias alias false = alias

-- rule 8: "33:1, 2, 18:alias, 15"
unfoldable pub alias_block : Option ℕ → Trees
alias_block none = end
alias_block (some b) = tree (33 ∶ 1) (tree (2 ∶ 0) (tree (18 ∶ b) (tree (15 ∶ 0) end)))

-- rule 9: "member calls go into a 33 added as last element, not the queue"
unfoldable pub call_block : Bool → Trees → Trees
call_block true calls = tree (33 ∶ count_f calls) calls
call_block false calls = end

unfoldable pub queued : Bool → Trees → Trees
queued true calls = end
queued false calls = calls

-- rule 10: "6:C for export or 7:C for default", by the payload of the 4
unfoldable pub export : ℕ → ℕ → Trees
export zero c = end
export (suc zero) c = tree (6 ∶ c) end
export (suc (suc p)) c = tree (7 ∶ c) end

-- rule 6: the id word, the second child, takes the inner symbol
unfoldable pub first_payload : ℕ → Trees → Trees
first_payload p end = end
first_payload p (node l kids rest) = node (repay l p) kids rest

unfoldable pub with_id : Option ℕ → Trees → Trees
with_id none ck = ck
with_id (some i) end = end
with_id (some i) (node l kids rest) = node l kids (first_payload i rest)

-- rule 8: "5:C, (18:alias,) 20, class"; rule 9: "A decorated class then stays a class statement"
unfoldable pub decorated_statement : Bool → Label → ℕ → Option ℕ → Trees → Trees
decorated_statement true l c alias cls = tree l cls
decorated_statement false l c alias cls = tree (become l 5 c) (aliased alias (tree (20 ∶ 0) cls))

-- rules 6 to 10 for a decorated class. rk: its children as read; els: its elements with C replaced; outside: the default symbol of the class around
unfoldable pub decorated₂ : Trees → Label → Label → Trees → Trees → Symbols → Trees → Option ℕ → Result
decorated₂ rk l c ck calls s els outside =
    let priv = has_private_in rk in
    let static = has_static (elements_of rk) in
    let body = append_f (alias_block (block_alias s.alias static)) (append_f (bare_first els) (call_block priv calls)) in
    let cls = tree c (with_elements body (undecorate (with_id s.inner ck))) in
    let entries = append_f (decorators ck) (first_constructor els) in
    record {
      here = append_f (decorated_statement priv l s.outer (let_alias s.alias static) cls)
          (queued priv (append_f calls (append_f (assignment s.outer s.alias entries) (export l.payload s.outer))));
      calls = end;
      fresh = s.fresh;
      after = record { next = s.next; default = outside };
    }

unfoldable pub decorated₁ : Trees → Label → Label → Trees → Trees → Symbols → Option ℕ → Result
decorated₁ rk l c ck calls s outside = decorated₂ rk l c ck calls s (renamed s.outer s.alias (elements_of ck)) outside

-- rule 10: "An undecorated class with calls keeps its statement; if nameless it takes the default symbol as id"
unfoldable pub name_class : Option ℕ → Option ℕ → Label → Trees → Trees
name_class (some i) d c ck = tree c ck
name_class none none c ck = tree c ck
name_class none (some d) c ck = tree (repay c (suc c.payload)) (append_f (take_f 1 ck) (append_f (tree (27 ∶ d) end) (drop_f 1 ck)))

-- elements added at the end of a class's body (rule 9)
unfoldable pub extend_body : Trees → Trees → Trees
extend_body more end = end
extend_body more (node c ck rest) = node c (with_elements (append_f (elements_of ck) more) ck) rest

unfoldable pub undecorated_if : Bool → Trees → Option ℕ → Label → Label → Trees → Trees → Trees
undecorated_if true rk d l c ck calls = tree l (tree c ck)
undecorated_if false rk d l c ck calls =
    append_f (tree l (extend_body (call_block (has_private_in rk) calls) (name_class (id_of rk) d c ck))) (queued (has_private_in rk) calls)

unfoldable pub live_class_if : Bool → Trees → Label → Label → Trees → Trees → State → Option ℕ → Result
live_class_if true rk l c ck calls s outside =
    decorated₁ rk l c ck calls (symbols_of (id_of rk) s.default s.next (elements_of ck)) outside
live_class_if false rk l c ck calls s outside = record {
  here = undecorated_if (is_empty calls) rk s.default l c ck calls;
  calls = end;
  fresh = [];
  after = record { next = s.next; default = outside };
}

-- a live class statement l: rk its class's children as read, the class visited, and its queue
unfoldable pub live_class : Trees → Label → Trees → Trees → State → Option ℕ → Result
live_class rk l end calls s outside = record { here = tree l end; calls = end; fresh = []; after = record { next = s.next; default = outside } }
live_class rk l (node c ck rest) calls s outside = live_class_if (is_decorated rk) rk l c ck calls s outside

-- a class that isn't live
unfoldable pub dead_class : Label → Result → Option ℕ → Result
dead_class l a outside = record { here = tree l a.here; calls = end; fresh = []; after = record { next = a.after.next; default = outside } }

unfoldable pub class_if : Bool → Label → Trees → Option ℕ → Result → Result
class_if true l kids outside a = live_class (class_kids kids) l a.here a.calls a.after outside
class_if false l kids outside a = dead_class l a outside

-- ---- the visit

-- rule 1: "output 40 holds S plus their count"; the statements are counted again
unfoldable pub whole_module : Label → Trees → ℕ → Trees
whole_module l end n = tree l end
whole_module l (node s sk rest) n = tree (repay l (count_f rest)) (node (repay s n) sk rest)

unfoldable pub kept : Label → Result → Result
kept l a = record { here = tree l a.here; calls = a.calls; fresh = []; after = a.after }

-- a record's own work, its own fresh symbols alone: l its word, kids its children as read, a its children visited
unfoldable pub own : Role → Around → Label → Trees → Option ℕ → Result → Result
own module' around l kids outside a = record { here = whole_module l a.here a.after.next; calls = a.calls; fresh = []; after = a.after }
own list around l kids outside a = record { here = tree (recount l a.here) a.here; calls = a.calls; fresh = []; after = a.after }
own statement around l kids outside a = class_if (is_live kids) l kids outside a
own expression around l kids outside a = dead_class l a outside
own method around l kids outside a = member around l kids (bare_method a.here) (decorators_of method a.here) (13 ∶ 0) a
own constructor around l kids outside a = kept l a
own (field d) around l kids outside a = member around l kids (bare_field a.here) (decorators a.here) d a
own plain around l kids outside a = kept l a

-- a class statement signs what was taken for its class
unfoldable pub signed_by : Role → Label → List Label → List Label
signed_by statement l xs = signed l xs
signed_by module' l xs = xs
signed_by list l xs = xs
signed_by expression l xs = xs
signed_by method l xs = xs
signed_by constructor l xs = xs
signed_by (field d) l xs = xs
signed_by plain l xs = xs

-- b, a record's own work, with the fresh symbols of its children a before its own
unfoldable pub since : Role → Label → Result → Result → Result
since r l b a = record { here = b.here; calls = b.calls; fresh = signed_by r l (a.fresh ++ b.fresh); after = b.after }

unfoldable pub work : Role → Around → Label → Trees → Option ℕ → Result → Result
work r around l kids outside a = since r l (own r around l kids outside a) a

-- the class around a record's children
unfoldable pub inside : Role → Around → Trees → Around
inside statement around kids = record { live = is_live kids; id = id_of (class_kids kids) }
inside expression around kids = record { live = false; id = none }
inside module' around kids = around
inside list around kids = around
inside method around kids = around
inside constructor around kids = around
inside (field d) around kids = around
inside plain around kids = around

-- a class starts with no default symbol of its own
unfoldable pub entering : Role → State → State
entering statement s = record { next = s.next; default = none }
entering expression s = record { next = s.next; default = none }
entering module' s = s
entering list s = s
entering method s = s
entering constructor s = s
entering (field d) s = s
entering plain s = s

unfoldable pub join : Result → Result → Result
join b c = record { here = append_f b.here c.here; calls = append_f b.calls c.calls; fresh = b.fresh ++ c.fresh; after = c.after }

infixl 20 ◌then◌
unfoldable pub ◌then◌ : Result → (State → Result) → Result
b then k = join b (k b.after)

-- rule 1: "Children are visited in word order, a member's or class's own work following its children"
unfoldable pub visit : Around → Trees → State → Result
visit around end s = record { here = end; calls = end; fresh = []; after = s }
visit around (node l kids rest) s =
    work (role_of l) around l kids s.default (visit (inside (role_of l) around kids) kids (entering (role_of l) s))
    then λ t. visit around rest t

-- the visit of one record
unfoldable pub visit_one : Around → Label → Trees → State → Result
visit_one around l kids s = work (role_of l) around l kids s.default (visit (inside (role_of l) around kids) kids (entering (role_of l) s))

pub visit_end : (around : Around) (s : State) → visit around end s ≡ record { here = end; calls = end; fresh = []; after = s }
unfolding visit
visit_end around s = refl

pub visit_node : (around : Around) (l : Label) (kids rest : Trees) (s : State) →
    visit around (node l kids rest) s ≡ (visit_one around l kids s then λ t. visit around rest t)
unfolding visit visit_one
visit_node around l kids rest s = refl

-- ---- a module

-- no class is around
unfoldable pub outermost : Around
outermost = record { live = false; id = none }

-- the records of a module's words
unfoldable pub module_of : List ℕ → Trees
module_of ws = build arity (read_from 0 ws)

-- the visit of a module with s symbols
unfoldable pub visit_words : ℕ → List ℕ → Result
visit_words s ws = visit outermost (module_of ws) (record { next = s; default = none })

-- the words of its rewriting, and the report of its fresh symbols in order of need
unfoldable pub rewritten : ℕ → List ℕ → List ℕ
rewritten s ws = words (flat (visit_words s ws).here)

unfoldable pub reported : ℕ → List ℕ → List ℕ
reported s ws = words (visit_words s ws).fresh
