-- `turned_back_by`: 7, or none.
use Rattle.std.proofs.Common.{refl, sym, ◌∙◌, arith}
use Rattle.rewriter.specs.Start.{well, start_fits}
use Rattle.rewriter.specs.Result.{back_7, back_none}
use Rattle.rewriter.proofs.turned_back_by.Goals as goal

pub find_ends-requires : goal.find_ends-requires
find_ends-requires c = (c.requires.1, omega (arith, (well c.args.ws.now c.requires.0).sized.few))

pub find_marks-requires : goal.find_marks-requires
find_marks-requires c = (c.find_ends.ensures.0, start_fits c.args.ws.now c.requires.0)

pub returns-then-find_marks : goal.returns-then-find_marks
returns-then-find_marks c = (back_7 c.args.ws.now 0 (sym c.requires.0) refl (sym c.find_marks.ensures.0 ∙ c.if-find_marks.true), tt, c.find_marks.ensures.2 ∙ c.find_ends.ensures.1)

pub returns : goal.returns
returns c = (back_none c.args.ws.now 0 (sym c.requires.0) refl (sym c.find_marks.ensures.0 ∙ c.if-find_marks.false), c.find_marks.ensures.1, c.find_marks.ensures.2 ∙ c.find_ends.ensures.1)
