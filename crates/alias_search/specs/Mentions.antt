-- Rule 6's search on records as read: does 9:C or 18:C stand in what they become? Definitions, and the laws of a search. Assumes nothing.
use Rattle.std.specs.Prelude.{◌≡◌, Bool, ◌&&◌, ◌||◌, not, cond, ℕ, eqb}
use Rattle.std.proofs.Math.Path.{refl}
use Rattle.std.proofs.Common.{sym, eqb-true}
use Rattle.std.proofs.Math.Bool.{true, false, or_assoc}
use Rattle.std.specs.declared.option.Option.{Option}
use Rattle.std.specs.declared.option.Option.TheVariants.{None as none, Some as some}
use Rattle.records.specs.Forest.{end, node}
use Rattle.records.specs.Label.{Label, Trees, is}
use Rattle.rewriting.specs.Parts.{Role, module', list, statement, expression, method, constructor, plain, field, role_of, kids_of, is_constructor, is_decorated_member, elements_of, id_of, has_private_in, is_decorated, is_live, class_kids}
use Rattle.rewriting.specs.Visit.{is_ref}
use Rattle.inspect.specs.Row.{any_row}
use Rattle.alias_search.specs.Ors.{ors}

-- a record of one kind is of no other
pub is_other : (m n : ℕ) (l : Label) → is m l ≡ true → eqb m n ≡ false → is n l ≡ false
unfolding is
is_other m n l h e = rw (eqb-true l.kind m h) e

apart : (a b c : Bool) → (a || b || c) ≡ (a || false || c || b)
apart a b c = simp ors

-- ---- how a row of records is searched

pub data Mode : Type 0 where
  -- in all that the records become; not at all
  whole gone : Mode
  -- a record's children: those of its 28 in the first mode, if that is the first child, what follows in the second
  lead : Mode → Mode → Mode
  -- the children of the first record of a kind in the mode, all else whole
  until : ℕ → Mode → Mode
  -- every record's children in the mode
  each : Mode → Mode
  -- elements: the first constructor's children in the mode, all others' whole
  elements : Mode → Mode

-- the mode of what follows a record with the label l
unfoldable pub behind : Mode → Label → Mode
behind whole l = whole
behind gone l = gone
behind (lead x y) l = cond (is 28 l) y (behind y l)
behind (until k x) l = cond (is k l) whole (until k x)
behind (each x) l = each x
behind (elements x) l = cond (is_constructor l) (each whole) (elements x)

-- the mode of the children of a record that is searched in a mode; `inner` is the mode of those of one that is searched whole
unfoldable pub within : (Label → Trees → Mode) → Mode → Label → Trees → Mode
within inner whole l kids = inner l kids
within inner gone l kids = gone
within inner (lead x y) l kids = cond (is 28 l) x (within inner y l kids)
within inner (until k x) l kids = cond (is k l) x (inner l kids)
within inner (each x) l kids = x
within inner (elements x) l kids = cond (is_constructor l) x whole

-- is a record searched in the mode at all
unfoldable pub searched : Mode → Bool
searched gone = false
searched whole = true
searched (lead x y) = true
searched (until k x) = true
searched (each x) = true
searched (elements x) = true

-- a search by a test of records
module _ (test : Label → Trees → Bool) (inner : Label → Trees → Mode) where
  unfoldable pub seek : Mode → Trees → Bool
  seek x end = false
  seek x (node l kids rest) = (searched x && test l kids) || seek (within inner x l kids) kids || seek (behind x l) rest

  pub seek_gone : (f : Trees) → seek gone f ≡ false
  unfolding seek searched within behind
  seek_gone end = refl
  seek_gone (node l k r) = rw (seek_gone k, seek_gone r)

  -- the children of the first record of a kind searched apart
  pub seek_until : (n : ℕ) (b : Mode) (f : Trees) → seek (until n b) f ≡ (seek (until n gone) f || seek b (kids_of n f))
  unfolding seek searched within behind kids_of
  seek_until n b end = refl
  seek_until n b (node l k r) = go (is n l) (seek_until n b r)
    where
      go : (e : Bool) → seek (until n b) r ≡ (seek (until n gone) r || seek b (kids_of n r)) →
          (test l k || seek (cond e b (inner l k)) k || seek (cond e whole (until n b)) r)
          ≡ (test l k || seek (cond e gone (inner l k)) k || seek (cond e whole (until n gone)) r || seek b (cond e k (kids_of n r)))
      go true h = rw seek_gone (apart (test l k) (seek b k) (seek whole r))
      go false h = rw h (sym (or_assoc (test l k || seek (inner l k) k) (seek (until n gone) r) (seek b (kids_of n r))))

  pub seek_lead : (n : ℕ) (d b : Mode) (f : Trees) → eqb 28 n ≡ false → seek (lead d (until n b)) f ≡ (seek (lead d (until n gone)) f || seek b (kids_of n f))
  unfolding seek searched within behind kids_of
  seek_lead n d b end e = refl
  seek_lead n d b (node l k r) e = go (is 28 l) refl
    where
      go : (x : Bool) → is 28 l ≡ x →
          seek (lead d (until n b)) (node l k r) ≡ (seek (lead d (until n gone)) (node l k r) || seek b (kids_of n (node l k r)))
      go true h = rw (h, is_other 28 n l h e, seek_until n b r) (sym (or_assoc (test l k || seek d k) (seek (until n gone) r) (seek b (kids_of n r))))
      go false h = rw h (seek_until n b (node l k r))

-- ---- what stands there for the records read; c is the symbol looked for

-- the children of a field and of a method, without decorators
abbrev pub of_field : Mode
of_field = lead gone whole

abbrev pub of_method : Mode
of_method = lead gone (until 36 (each of_field))

-- is c the symbol of an id, if there is one
unfoldable pub is_symbol : ℕ → Option ℕ → Bool
is_symbol c none = false
is_symbol c (some d) = eqb d c

-- the elements of a live class with what they queue, by: is the class decorated, has it a private-in test, is c its id. A decorated class's first
-- constructor loses its own decorators, and where rule 9 drops the assignment its parameters' too; there an id is replaced by the alias for good.
unfoldable pub of_elements : Bool → Bool → Bool → Mode
of_elements false private named = each whole
of_elements true false named = elements of_field
of_elements true true false = elements of_method
of_elements true true true = gone

-- the children of a live class, by the same
unfoldable pub of_class : ℕ → Trees → Mode
of_class c rk = lead (cond (is_decorated rk && has_private_in rk) gone whole) (until 29 (of_elements (is_decorated rk) (has_private_in rk) (is_symbol c (id_of rk))))

-- a live class puts its own symbol into each call and into the assignment
unfoldable pub names : ℕ → Trees → Bool
names c rk = is_symbol c (id_of rk) && (any_row is_decorated_member (elements_of rk) || (is_decorated rk && not (has_private_in rk)))

-- a record without its children: a 9 or 18, or a class statement by what it puts behind itself
unfoldable pub mentions_word : ℕ → Label → Trees → Bool
mentions_word c l kids = is_ref c l || (is 4 l && is_live kids && names c (class_kids kids))

-- the children of a record, by its role: a member has lost its decorators (rule 2)
unfoldable pub mode_of : ℕ → Role → Trees → Mode
mode_of c statement kids = cond (is_live kids) (each (of_class c (class_kids kids))) whole
mode_of c method kids = of_method
mode_of c (field d) kids = of_field
mode_of c module' kids = whole
mode_of c list kids = whole
mode_of c expression kids = whole
mode_of c constructor kids = whole
mode_of c plain kids = whole

unfoldable pub inner : ℕ → Label → Trees → Mode
inner c l kids = mode_of c (role_of l) kids

-- a row in a mode; one record; all that a row becomes
unfoldable pub mentions_by : ℕ → Mode → Trees → Bool
mentions_by c x f = seek (mentions_word c) (inner c) x f

unfoldable pub mentions_record : ℕ → Label → Trees → Bool
mentions_record c l kids = mentions_word c l kids || mentions_by c (inner c l kids) kids

unfoldable pub mentions : ℕ → Trees → Bool
mentions c f = mentions_by c whole f
