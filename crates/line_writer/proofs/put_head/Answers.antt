-- `put_head`: six parts, one behind the other.
use Rattle.line_writer.specs.Decimal.{head_of}
use Rattle.line_writer.specs.Digits.{number_digits}
use Rattle.output.specs.Overlay.{wrote_then}
use Rattle.line_writer.proofs.put_head.Goals as goal

pub returns : goal.returns
unfolding head_of
returns c =
    rw (number_digits c.args.code c.ranges.code.fits, number_digits c.args.written c.ranges.written.fits, number_digits c.args.fresh c.ranges.fresh.fits)
    (wrote_then c.put_number-a.ensures (wrote_then c.put-b.ensures (wrote_then c.put_number-c.ensures (wrote_then c.put-d.ensures (wrote_then c.put_number-e.ensures c.put.ensures)))))
