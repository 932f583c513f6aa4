-- A record that keeps its children: the visit puts in its place one record of its kind over its children as visited. Assumes nothing.
use Rattle.std.specs.Prelude.{◌≡◌, refl, Bool, true, false, ◌&&◌, ◌||◌, ℕ, eqb}
use Rattle.std.proofs.Common.{ap, ◌∙◌, arith}
use Rattle.std.specs.declared.option.Option.{Option}
use Rattle.words.specs.Table.{lookup}
use Rattle.words.specs.Word.{bit1}
use Rattle.records.specs.Forest.{end, node, append_f, count_f}
use Rattle.records.specs.Label.{Label, Trees, is, bit, repay}
use Rattle.rewriting.specs.Parts.{tree, recount, Role, module', list, statement, expression, method, constructor, plain, field, role_of, is_constructor}
use Rattle.rewriting.specs.Visit.{Result, is_ref, own, kept, dead_class, since, work, inside, entering, visit, visit_one}
use Rattle.rewriting.specs.declared.Around.{Around}
use Rattle.rewriting.specs.declared.State.{State}
use Rattle.alias_search.specs.Mentions.{Mode, searched, within, behind}
use Rattle.alias_search.specs.Shown.{Alike, alike_same, is_repay, shows, shows_alike, all}
use Rattle.alias_search.specs.Visited.{here_node}
use Rattle.alias_search.specs.Roles.{role_at, tag, keeps, not_kind}

-- f is one record like l, over the children k
pub record Over (c : ℕ) (l : Label) (k f : Trees) : Type 0 where
  pub label : Label
  pub alike : Alike c label l
  pub shape : f ≡ node label k end

pub repay_alike : (c : ℕ) (l : Label) (n : ℕ) → is 9 l ≡ false → is 18 l ≡ false → is 30 l ≡ false → Alike c (repay l n) l
unfolding is_ref is_constructor
repay_alike c l n a b d = record {
  refs = rw (is_repay 9 l n, is_repay 18 l n, a, b);
  kinds = λ k. is_repay k l n;
  constructors = rw (is_repay 30 l n, d);
}

list_alike : (c : ℕ) (l : Label) (n : ℕ) → role_of l ≡ list → Alike c (repay l n) l
unfolding role_at tag lookup
list_alike c l n e = repay_alike c l n (not_kind 9 l list e refl) (not_kind 18 l list e refl) (not_kind 30 l list e (go (bit bit1 l)))
  where
    go : (b : Bool) → eqb (tag (role_at 30 b)) (tag list) ≡ false
    go true = refl
    go false = refl

own_over : (c : ℕ) (r : Role) (around : Around) (l : Label) (k : Trees) (outside : Option ℕ) (a : Result) → keeps r ≡ true → role_of l ≡ r → Over c l a.here (own r around l k outside a).here
unfolding own recount tree dead_class kept keeps
own_over c list around l k outside a h e = record { label = repay l (count_f a.here); alike = list_alike c l _ e; shape = refl }
own_over c expression around l k outside a h e = record { label = l; alike = alike_same c l; shape = refl }
own_over c constructor around l k outside a h e = record { label = l; alike = alike_same c l; shape = refl }
own_over c plain around l k outside a h e = record { label = l; alike = alike_same c l; shape = refl }
own_over c module' around l k outside a h e = let z : ◌≡◌ {A = ℕ} 0 1 = cc in absurd (omega arith)
own_over c statement around l k outside a h e = let z : ◌≡◌ {A = ℕ} 0 1 = cc in absurd (omega arith)
own_over c method around l k outside a h e = let z : ◌≡◌ {A = ℕ} 0 1 = cc in absurd (omega arith)
own_over c (field d) around l k outside a h e = let z : ◌≡◌ {A = ℕ} 0 1 = cc in absurd (omega arith)

pub one_over : (c : ℕ) (around : Around) (l : Label) (k : Trees) (s : State) → keeps (role_of l) ≡ true →
    Over c l (visit (inside (role_of l) around k) k (entering (role_of l) s)).here (visit_one around l k s).here
unfolding visit_one work since
one_over c around l k s h = own_over c (role_of l) around l k s.default _ h refl

-- the first record of a row, if it is such a one
pub shows_kept : (c : ℕ) (x : Mode) (around : Around) (l : Label) (k r : Trees) (s : State) → keeps (role_of l) ≡ true →
    shows c x (visit around (node l k r) s).here
    ≡ ((searched x && is_ref c l) || shows c (within all x l k) (visit (inside (role_of l) around k) k (entering (role_of l) s)).here
    || shows c (behind x l) (visit around r (visit_one around l k s).after).here)
unfolding append_f
shows_kept c x around l k r s h =
    let o = one_over c around l k s h in
    ap (shows c x) (here_node around l k r s ∙ ap (λ (f : Trees). append_f f (visit around r (visit_one around l k s).after).here) o.shape)
    ∙ shows_alike o.alike x _ k _
