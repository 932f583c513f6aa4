-- What demand 3 needs of an accepted module: the kinds of children that document 01 gives each kind, as far as it needs them, and refusals 6 and 7.
-- Definitions only.
use Rattle.std.specs.Prelude.{◌≡◌, Bool, true, false, ◌&&◌, ◌||◌, not, cond, List, [], ◌∷◌, ℕ, leb}
use Rattle.words.specs.Table.{lookup}
use Rattle.words.specs.Word.{bit1}
use Rattle.records.specs.Forest.{end, node}
use Rattle.records.specs.Label.{Label, Trees, is, bit}
use Rattle.rewriting.specs.Parts.{is_empty, any_record, decorators, is_refused7}

-- ---- kinds

unfoldable pub is_expression : Label → Bool
is_expression l = leb 8 l.kind && leb l.kind 25

unfoldable pub is_key : Label → Bool
is_key l = is_expression l || is 34 l || is 35 l

unfoldable pub is_element : Label → Bool
is_element l = is 30 l || is 31 l || is 32 l || is 33 l

-- no class, no body and no member: these stand only under a 4 or 20, under that class, and in that body
unfoldable pub is_outside : Label → Bool
is_outside l = not (is 26 l || is 29 l || is 30 l || is 31 l || is 32 l)

-- ---- lists of children

-- each passes
unfoldable pub all : (Label → Bool) → Trees → Bool
all p end = true
all p (node l k r) = p l && all p r

-- there is a first one and it passes p, those behind it pass q
unfoldable pub begins : (Label → Bool) → (Trees → Bool) → Trees → Bool
begins p q end = false
begins p q (node l k r) = p l && q r

-- behind a class's 28: the id and the heritage, if any, and the body as the last
unfoldable pub ends_in_body : Trees → Bool
ends_in_body end = false
ends_in_body (node l k r) = cond (is 29 l) (is_empty r) ((is 27 l || is_expression l) && ends_in_body r)

-- 28, key and, of a method, 36; then the value or the code, if any
unfoldable pub of_method : Trees → Bool
of_method k = begins (is 28) (begins is_key (begins (is 36) (all is_outside))) k

unfoldable pub of_field : Trees → Bool
of_field k = begins (is 28) (begins is_key (all is_outside)) k

-- ---- a record l with the children k

-- by kind; of a kind that isn't here, no class, body or member is a child
unfoldable pub child_rows : Label → Trees → List (ℕ × Bool)
child_rows l k =
    (1, begins (is 40) (all is_outside) k) ∷
    (4, begins (is 26) is_empty k) ∷
    (20, begins (is 26) is_empty k) ∷
    (26, begins (is 28) ends_in_body k) ∷
    (28, all is_expression k) ∷
    (29, all is_element k) ∷
    -- a constructor's own decorators are refused by 6
    (30, of_method k && (not (bit bit1 l) || is_empty (decorators k))) ∷
    (31, of_field k) ∷
    (32, of_field k) ∷
    (36, all (is 37) k) ∷
    (37, begins (is 28) (all is_outside) k) ∷ []

unfoldable pub fits : Label → Trees → Bool
fits l k = lookup l.kind (child_rows l k) (all is_outside k)

unfoldable pub is_misplaced : Label → Trees → Bool
is_misplaced l k = not (fits l k)

pub record Accepted (f : Trees) : Type 0 where
  pub grammar : any_record is_misplaced f ≡ false
  pub seven : any_record is_refused7 f ≡ false
