-- `put_word`: four parts, one behind the other.
use Rattle.line_writer.specs.Decimal.{line_of}
use Rattle.line_writer.specs.Digits.{kind_digits, payload_digits}
use Rattle.output.specs.Overlay.{wrote_then}
use Rattle.line_writer.proofs.put_word.Goals as goal

pub returns : goal.returns
unfolding line_of
returns c =
    rw (kind_digits c.args.w c.ranges.w.fits, payload_digits c.args.w, ← c.kind_of.ensures, ← c.payload_of.ensures)
    (wrote_then c.put_number-colon.ensures (wrote_then c.put-payload.ensures (wrote_then c.put_number-end.ensures c.put.ensures)))
