-- `is_named`: the id is compared as an Option.
use Rattle.std.proofs.Common.{rules}
use Rattle.alias_search.specs.Walk.{symbol_eq}
use Rattle.alias_search.proofs.is_named.Goals as goal

pub returns : goal.returns
returns c = rw symbol_eq (search rules)
