-- `put_class_symbols`: by whether the class is decorated, has an id, and takes an alias.
use native.Mathlib.Omega.{arith}
use mathlib.Core.Path.{ap}
use Rattle.rewriting.specs.declared.State.{State}
use Rattle.report_walk.specs.Steps.{takes_one, class_none, class_default, class_inner, class_alias}
use Rattle.report_walk.proofs.put_class_symbols.Goals as goal

pub returns-then-not-notes-at : goal.returns-then-not-notes-at
returns-then-not-notes-at c = class_none _ _ (c.requires.0.classes _ c.requires.1 c.requires.2) c.args.id c.if-not-notes-at.true

pub returns-then-is_none : goal.returns-then-is_none
returns-then-is_none c = class_default _ _ (c.requires.0.classes _ c.requires.1 c.requires.2) c.args.id c.if-not-notes-at.false c.if-is_none.ensures c.put_class_symbol.ensures

pub put-requires : goal.put-requires
put-requires c = (omega (arith, c.requires.4, ap (λ (s : State). s.next) c.put-r.ensures.state), omega (arith, c.requires.5, takes_one _ _ c.put-r.ensures))

pub returns-then-notes-at : goal.returns-then-notes-at
returns-then-notes-at c = class_alias _ _ (c.requires.0.classes _ c.requires.1 c.requires.2) c.args.id c.if-not-notes-at.false c.if-is_none.ensures c.if-notes-at.true c.put-r.ensures c.put.ensures

pub returns : goal.returns
returns c = class_inner _ _ (c.requires.0.classes _ c.requires.1 c.requires.2) c.args.id c.if-not-notes-at.false c.if-is_none.ensures c.if-notes-at.false c.put-r.ensures
