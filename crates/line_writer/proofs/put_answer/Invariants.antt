-- `put_answer`: the line of the numbers, and those of the words so far.
use Rattle.std.proofs.Common.{◌++◌, take}
use Rattle.line_writer.specs.Decimal.{head_of, lines_of}
use Rattle.output.specs.Overlay.{Wrote}
use Rattle.line_writer.proofs.put_answer.Given as goal

abbrev pub invariant-loop-w : goal.invariant-loop-w
invariant-loop-w l = Wrote l.fn.out 0 (head_of l.code l.written l.fresh ++ lines_of (take l.w-index l.ws)) l.out l.next
