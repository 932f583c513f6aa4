-- `print`: the answer's text fits in its buffer.
use Rattle.std.proofs.Common.{refl, sym}
use Rattle.std.proofs.lemmas.List.{length-take-le}
use Rattle.gingerpost.specs.Room.{text_fits}
use Rattle.gingerpost.proofs.print.Goals as goal

pub slice_bounds-text-end : goal.slice_bounds-text-end
slice_bounds-text-end g c = text_fits _ _ _ _ c.put_answer-n.ensures c.requires refl

pub slice_bounds-write_all-end : goal.slice_bounds-write_all-end
slice_bounds-write_all-end g c = sym (length-take-le _ _ (text_fits _ _ _ _ c.put_answer-n.ensures c.requires refl))
