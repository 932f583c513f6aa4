-- `any_refused_7`: the record here, or those behind it.
use Rattle.inspect.specs.Inside.{record_open}
use Rattle.rewriting.specs.Parts.{is_refused7}
use mathlib.Core.Path.{sym, ◌∙◌}
use Rattle.mark_table.proofs.any_refused_7.Goals as goal

pub returns-then-is_refused_7 : goal.returns-then-is_refused_7
returns-then-is_refused_7 c =
    let t = sym c.is_refused_7.ensures ∙ c.if-is_refused_7.true in
    c.if-is_refused_7.true ∙ sym (record_open is_refused7 c.args.ws.now c.args.i c.requires.0 ∙ rw t)

pub returns-else-is_refused_7 : goal.returns-else-is_refused_7
returns-else-is_refused_7 c =
    let t = sym c.is_refused_7.ensures ∙ c.if-is_refused_7.false in
    c.requires.4 ∙ sym (record_open is_refused7 c.args.ws.now c.args.i c.requires.0 ∙ rw t)
