-- `is_constructor`: a 30 with flag 2.
use Rattle.std.proofs.Common.{rules}
use Rattle.words.specs.Word.{bit1}
use Rattle.records.specs.Label.{bit, is, read_at}
use Rattle.rewriting.specs.Parts.{is_constructor}
use Rattle.inspect.proofs.is_constructor.Goals as goal

pub returns-then-is_kind : goal.returns-then-is_kind
unfolding is_constructor is bit bit1 read_at
returns-then-is_kind c = search rules

pub returns-else-is_kind : goal.returns-else-is_kind
unfolding is_constructor is bit bit1 read_at
returns-else-is_kind c = search rules
