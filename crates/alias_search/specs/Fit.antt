-- Where a mode other than `whole` and `gone` meets records that keep their children only. It does in formed records. Assumes nothing.
use Rattle.std.specs.Prelude.{◌≡◌, Bool, true, false, cond, ℕ}
use Rattle.std.proofs.Math.Path.{refl}
use Rattle.words.specs.Table.{lookup}
use Rattle.records.specs.Forest.{end, node}
use Rattle.records.specs.Label.{Label, Trees, is}
use Rattle.alias_search.specs.Mentions.{Mode, whole, gone, lead, until, each, elements, behind, within, is_other, of_field, of_method}
use Rattle.alias_search.specs.Shown.{all}
use Rattle.alias_search.specs.Roles.{keeps, role_at}
use Rattle.alias_search.specs.Formed.{Each, is_list, may_hold, OneClass, Standing, Formed, held_not, keeps_one, kept_kind, no_list, not_list, child_kept, kids_kept}

unfoldable pub FitOne : Mode → Label → Type 0
FitOne whole l = Unit {0}
FitOne gone l = Unit {0}
FitOne (lead x y) l = keeps_one l ≡ true
FitOne (until k x) l = keeps_one l ≡ true
FitOne (each x) l = keeps_one l ≡ true
FitOne (elements x) l = keeps_one l ≡ true

unfoldable pub Fit : Mode → Trees → Type 0
Fit x end = Unit {0}
Fit x (node l k r) = FitOne x l × Fit (within all x l k) k × Fit (behind x l) r

pub fit_whole : (f : Trees) → Fit whole f
unfolding Fit FitOne within behind
fit_whole end = tt
fit_whole (node l k r) = (tt, fit_whole k, fit_whole r)

pub fit_gone : (f : Trees) → Fit gone f
unfolding Fit FitOne within behind
fit_gone end = tt
fit_gone (node l k r) = (tt, fit_gone k, fit_gone r)

-- a record's children, its 28 in one mode and then another
fit_lead : (d y : Mode) (f : Trees) → ((g : Trees) → Fit d g) → ((g : Trees) → Each keeps_one g → Formed g → Fit y g) → Each keeps_one f → Formed f → Fit (lead d y) f
unfolding Fit FitOne within behind Each Formed
fit_lead d y end hd hy e m = tt
fit_lead d y (node l k r) hd hy e m = (e.0, kids (is 28 l), rest (is 28 l))
  where
    other : Fit y (node l k r)
    other = hy (node l k r) e m

    kids : (b : Bool) → Fit (cond b d (within all y l k)) k
    kids true = hd k
    kids false = other.1

    rest : (b : Bool) → Fit (cond b y (behind y l)) r
    rest true = hy r e.1 m.2
    rest false = other.2

pub fit_field : (f : Trees) → Each keeps_one f → Formed f → Fit of_field f
fit_field f e m = fit_lead gone whole f fit_gone (λ g _ _. fit_whole g) e m

-- the first record of a kind
fit_until : (n : ℕ) (x : Mode) → ((l : Label) (k : Trees) → is n l ≡ true → Standing l k → Formed k → Fit x k) → (f : Trees) → Each keeps_one f → Formed f → Fit (until n x) f
unfolding Fit FitOne within behind Each Formed
fit_until n x h end e m = tt
fit_until n x h (node l k r) e m = (e.0, kids (is n l) refl, rest (is n l) (fit_until n x h r e.1 m.2))
  where
    kids : (b : Bool) → is n l ≡ b → Fit (cond b x whole) k
    kids true i = h l k i m.0 m.1
    kids false i = fit_whole k

    rest : (b : Bool) → Fit (until n x) r → Fit (cond b whole (until n x)) r
    rest true a = fit_whole r
    rest false a = a

-- the parameters under p
fit_parameters : (p : Label) → is 36 p ≡ true → (f : Trees) → Each (λ x. may_hold p x.kind) f → Formed f → Fit (each of_field) f
unfolding Fit FitOne within behind Each Formed
fit_parameters p i end e m = tt
fit_parameters p i (node l k r) e m = (child_kept p list_p body_p l e.0, fit_field k (kids_kept l k list_l body_l m.0) m.1, fit_parameters p i r e.1 m.2)
  where
    list_p : is_list p ≡ false
    list_p = not_list 36 p i refl refl refl refl

    body_p : is 29 p ≡ false
    body_p = is_other 36 29 p i refl

    code_p : may_hold p 39 ≡ false
    code_p = unfold may_hold lookup in rw (is_other 36 21 p i refl, is_other 36 30 p i refl)

    list_l : is_list l ≡ false
    list_l =
        no_list l
        (held_not 1 p l (unfold may_hold lookup in refl) e.0)
        (held_not 3 p l (unfold may_hold lookup in list_p) e.0)
        (held_not 33 p l (unfold may_hold lookup in body_p) e.0)
        (held_not 39 p l code_p e.0)

    body_l : is 29 l ≡ false
    body_l = held_not 29 p l (unfold may_hold lookup in is_other 36 26 p i refl) e.0

pub fit_method : (f : Trees) → Each keeps_one f → Formed f → Fit of_method f
fit_method f e m = fit_lead gone (until 36 (each of_field)) f fit_gone (λ g e m. fit_until 36 (each of_field) (λ l k i s m. fit_parameters l i k s.held m) g e m) e m

-- the children of a class statement, the body apart
pub fit_class : (d : Mode) → ((g : Trees) → Fit d g) → (k : Trees) → OneClass k → Formed k → Fit (each (lead d (until 29 gone))) k
unfolding Fit FitOne within behind OneClass Formed
fit_class d h end o m = absurd o
fit_class d h (node l ck r) o m = (kept_kind 26 l o.0 (unfold role_at lookup keeps in refl), fit_lead d (until 29 gone) ck h (λ g e m. fit_until 29 gone (λ l k i s m. fit_gone k) g e m) (kids_kept l ck (not_list 26 l o.0 refl refl refl refl) (is_other 26 29 l o.0 refl) m.0) m.1, rw o.1 tt)
