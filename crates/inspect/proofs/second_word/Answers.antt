-- `second_word`: the word behind the first child, where the record has two.
use mathlib.Core.Path.{sym}
use native.Mathlib.Omega.{arith}
use Rattle.records.specs.Place.{word_past}
use Rattle.inspect.specs.Child.{second_here, second_none, within}
use Rattle.inspect.proofs.second_word.Goals as goal

pub returns-then-children_at-le1 : goal.returns-then-children_at-le1
returns-then-children_at-le1 c =
    let a = c.args in
    record { place = _; second = second_none a.ws.now a.at (omega (arith, c.children_at.ensures.0)); word = sym (word_past a.ws.now _ (omega arith)) }

pub overflow_add-at : goal.overflow_add-at
overflow_add-at c =
    let a = c.args in
    omega (arith, within a.ws.now a.at (omega (arith, c.children_at.ensures.0)))

pub returns : goal.returns
returns c =
    let a = c.args in
    record { place = _; second = second_here a.ws.now a.at (omega (arith, c.children_at.ensures.0)); word = c.word_behind.ensures }
