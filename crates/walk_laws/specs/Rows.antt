-- The visit of a row of records by its place in the words: one row behind another, one record, a record by its role. Assumes nothing.
use Rattle.std.specs.Prelude.{◌≡◌, List, [], ◌++◌, ℕ, ◌+◌, ◌<◌, ◌≤◌, length}
use Rattle.std.proofs.Math.Path.{refl, ap}
use Rattle.std.proofs.Common.{sym, ◌∙◌}
use Rattle.std.specs.declared.option.Option.TheVariants.{None as none}
use Rattle.records.specs.Forest.{end, take_f, drop_f, append_f, take_f_add, take_f_end, append_f_end}
use Rattle.records.specs.Label.{Label, Trees}
use Rattle.records.specs.Place.{records_at, label_at, arity_at, kids_at, end_of, end_drop, record_one, records_past}
use Rattle.rewriting.specs.Parts.{plain, role_of, tree}
use Rattle.rewriting.specs.Visit.{Result, visit, visit_one, visit_node, join, ◌then◌, work, since, own, kept, inside, entering, signed_by}
use Rattle.rewriting.specs.declared.Around.{Around}
use Rattle.rewriting.specs.declared.State.{State}
use Rattle.rewriting.proofs.Facts.{visit_append}

-- the visit of the k records at `at`
unfoldable pub visit_at : List ℕ → ℕ → ℕ → Around → State → Result
visit_at ws at k around s = visit around (take_f k (records_at ws at)) s

-- a class expression's and a dead class's children are visited in no live class
unfoldable pub fresh : ℕ → State
fresh n = record { next = n; default = none }

module _ (ws : List ℕ) (around : Around) where
  -- ---- rows

  pub row_none : (at : ℕ) (s : State) → visit_at ws at 0 around s ≡ visit around end s
  unfolding visit_at take_f
  row_none at s = refl

  pub row_past : (at k : ℕ) (s : State) → length ws ≤ at → visit_at ws at k around s ≡ visit around end s
  unfolding visit_at
  row_past at k s h = rw (records_past ws at h, take_f_end k)

  pub row_add : (at j k : ℕ) (s : State) → visit_at ws at (j + k) around s ≡ (visit_at ws at j around s then λ t. visit_at ws (end_of ws at j) k around t)
  unfolding visit_at
  row_add at j k s =
      ap (λ (f : Trees). visit around f s) (take_f_add j k (records_at ws at))
      ∙ visit_append around (take_f j (records_at ws at)) (take_f k (drop_f j (records_at ws at))) s
      ∙ ap (λ (f : Trees). visit around (take_f j (records_at ws at)) s then λ t. visit around (take_f k f) t) (end_drop ws at j)

  -- by field
  pub here_add : (at j k : ℕ) (s : State) →
      (visit_at ws at (j + k) around s).here ≡ append_f (visit_at ws at j around s).here (visit_at ws (end_of ws at j) k around (visit_at ws at j around s).after).here
  here_add at j k s = ap (λ (r : Result). r.here) (row_add at j k s) ∙ (unfold ◌then◌ join in refl)

  pub calls_add : (at j k : ℕ) (s : State) →
      (visit_at ws at (j + k) around s).calls ≡ append_f (visit_at ws at j around s).calls (visit_at ws (end_of ws at j) k around (visit_at ws at j around s).after).calls
  calls_add at j k s = ap (λ (r : Result). r.calls) (row_add at j k s) ∙ (unfold ◌then◌ join in refl)

  pub after_add : (at j k : ℕ) (s : State) →
      (visit_at ws at (j + k) around s).after ≡ (visit_at ws (end_of ws at j) k around (visit_at ws at j around s).after).after
  after_add at j k s = ap (λ (r : Result). r.after) (row_add at j k s) ∙ (unfold ◌then◌ join in refl)

  -- ---- one record

  module _ (at : ℕ) (s : State) (h : at < length ws) where
    one : visit_at ws at 1 around s ≡ (visit_one around (label_at ws at) (kids_at ws at) s then λ t. visit around end t)
    unfolding visit_at
    one = ap (λ (f : Trees). visit around f s) (record_one ws at h) ∙ visit_node around (label_at ws at) (kids_at ws at) end s

    pub one_here : (visit_at ws at 1 around s).here ≡ (visit_one around (label_at ws at) (kids_at ws at) s).here
    one_here = ap (λ (r : Result). r.here) one ∙ (unfold ◌then◌ join visit in append_f_end _)

    pub one_calls : (visit_at ws at 1 around s).calls ≡ (visit_one around (label_at ws at) (kids_at ws at) s).calls
    one_calls = ap (λ (r : Result). r.calls) one ∙ (unfold ◌then◌ join visit in append_f_end _)

    pub one_after : (visit_at ws at 1 around s).after ≡ (visit_one around (label_at ws at) (kids_at ws at) s).after
    one_after = ap (λ (r : Result). r.after) one ∙ (unfold ◌then◌ join visit in refl)

  -- its children
  pub kids_visit : (at : ℕ) (s : State) → visit_at ws (at + 1) (arity_at ws at) around s ≡ visit around (kids_at ws at) s
  unfolding visit_at kids_at
  kids_visit at s = refl

-- ---- a record by its role

module _ (around : Around) (l : Label) (k : Trees) (s : State) where
  pub plain_one : role_of l ≡ plain → visit_one around l k s ≡ record { here = tree l (visit around k s).here; calls = (visit around k s).calls; fresh = (visit around k s).fresh ++ []; after = (visit around k s).after }
  unfolding visit_one work since
  plain_one e = rw e (unfold own kept inside entering signed_by in refl)

-- a plain one at its place
module _ (ws : List ℕ) (around : Around) (at : ℕ) (s : State) (h : at < length ws) (e : role_of (label_at ws at) ≡ plain) where
  pub plain_here : (visit_at ws at 1 around s).here ≡ tree (label_at ws at) (visit around (kids_at ws at) s).here
  plain_here = one_here ws around at s h ∙ ap (λ (r : Result). r.here) (plain_one around (label_at ws at) (kids_at ws at) s e)

  pub plain_calls : (visit_at ws at 1 around s).calls ≡ (visit around (kids_at ws at) s).calls
  plain_calls = one_calls ws around at s h ∙ ap (λ (r : Result). r.calls) (plain_one around (label_at ws at) (kids_at ws at) s e)

  pub plain_after : (visit_at ws at 1 around s).after ≡ (visit_at ws (at + 1) (arity_at ws at) around s).after
  plain_after = one_after ws around at s h ∙ ap (λ (r : Result). r.after) (plain_one around (label_at ws at) (kids_at ws at) s e) ∙ ap (λ (r : Result). r.after) (sym (kids_visit ws around at s))
