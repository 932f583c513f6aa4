-- `note`: what the record leads to; one that ends before the next that may change stays as it is.
use mathlib.Core.Path.{refl}
use native.Mathlib.Omega.{arith}
use Rattle.count_table.specs.Note.{still_noted}
use Rattle.count_table.proofs.note.Goals as goal

pub returns-then-note-next : goal.returns-then-note-next
returns-then-note-next c = (still_noted _ _ c.requires.0 c.requires.1 (c.requires.0.ready.planned.ends.right c.args.at (omega arith) c.requires.0.inside) c.if-note-next.true refl, refl)
