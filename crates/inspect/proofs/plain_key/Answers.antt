-- `plain_key`: the key is the second child.
use mathlib.Core.Path.{◌∙◌}
use Rattle.records.specs.Place.{label_at}
use Rattle.inspect.specs.Class.{key_second, plain_read}
use Rattle.inspect.proofs.plain_key.Goals as goal

pub returns : goal.returns
unfolding label_at
returns c =
    let a = c.args in
    let s = c.second_word.ensures in
    c.is_plain_key_word.ensures ∙ plain_read a.ws.now s.place _ s.word ∙ key_second a.ws.now a.at s.place s.second
