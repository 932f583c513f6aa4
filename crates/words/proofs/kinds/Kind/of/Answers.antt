-- `of`: a number that is no kind's is no error here.
use Rattle.std.proofs.Common.{ap, ◌∙◌}
use Rattle.words.specs.Kinds.{named, decoded}
use Rattle.words.proofs.kinds.Kind.of.Goals as goal

pub returns-clause-named : goal.returns-clause-named
returns-clause-named c = c.ok.ensures.value ∙ decoded _ _ c.try_from.ensures ∙ ap named c.kind_of.ensures
