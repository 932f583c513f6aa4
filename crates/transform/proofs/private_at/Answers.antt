-- `private_at`: by the mark of place 1, or by the search.
use Rattle.transform.specs.Tests.{private_unmarked}
use Rattle.transform.proofs.private_at.Goals as goal

pub returns-else-notes-offset6 : goal.returns-else-notes-offset6
returns-else-notes-offset6 c = rw c.if-notes-offset6.false (private_unmarked c.args.at c.requires.0 c.if-notes-offset6.false)
