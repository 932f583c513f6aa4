-- `mentions_in_body`: in the class's elements.
use mathlib.Core.Path.{◌∙◌}
use Rattle.alias_search.specs.Mentions.{mentions}
use Rattle.alias_search.specs.Walk.{all_reads}
use Rattle.alias_search.proofs.mentions_in_body.Goals as goal

pub returns : goal.returns
unfolding mentions
returns c = c.mentions.ensures ∙ all_reads c.args.c c.elements.ensures.0
