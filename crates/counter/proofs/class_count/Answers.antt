-- `class_count`: one case of rule 6 for each way out.
use mathlib.Core.Path.{sym, ◌∙◌}
use Prim.Native.Nat.{◌+◌}
use native.Mathlib.Omega.{arith}
use Rattle.counter.specs.Totals.{class_none, class_alias, class_inner, class_kept, class_default}
use Rattle.counter.proofs.class_count.Goals as goal

pub returns-then-not-notes-at : goal.returns-then-not-notes-at
returns-then-not-notes-at c = (class_none _ c.args.id _ _ (sym (c.requires.0.classes (c.args.at + 1) c.requires.1 c.requires.2) ∙ c.if-not-notes-at.true), omega arith)

pub returns-then-notes-at : goal.returns-then-notes-at
returns-then-notes-at c = (class_alias _ c.args.id _ _ (sym (c.requires.0.classes (c.args.at + 1) c.requires.1 c.requires.2) ∙ c.if-not-notes-at.false) (sym c.is_some.ensures ∙ c.if-is_some.true) c.if-notes-at.true, omega arith)

pub returns-else-notes-at : goal.returns-else-notes-at
returns-else-notes-at c = (class_inner _ c.args.id _ _ (sym (c.requires.0.classes (c.args.at + 1) c.requires.1 c.requires.2) ∙ c.if-not-notes-at.false) (sym c.is_some.ensures ∙ c.if-is_some.true) c.if-notes-at.false, omega arith)

pub returns-then-is_some-2 : goal.returns-then-is_some-2
returns-then-is_some-2 c =
    (class_kept _ c.args.id _ _ (sym (c.requires.0.classes (c.args.at + 1) c.requires.1 c.requires.2) ∙ c.if-not-notes-at.false) (sym c.is_some.ensures ∙ c.if-is_some.false) (sym c.is_some-2.ensures ∙ c.if-is_some-2.true), omega arith)

pub returns : goal.returns
returns c =
    (class_default _ c.args.id _ _ (sym (c.requires.0.classes (c.args.at + 1) c.requires.1 c.requires.2) ∙ c.if-not-notes-at.false) (sym c.is_some.ensures ∙ c.if-is_some.false) (sym c.is_some-2.ensures ∙ c.if-is_some-2.false), omega arith)
