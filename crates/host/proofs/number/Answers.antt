-- `number`: a higher field stands above all bits of the lower ones, so that `|` adds them.
use Rattle.std.proofs.Common.{◌≡◌, ◌+◌, ◌*◌, ◌%◌, ◌^◌, ◌<◌, ap, ◌∙◌, arith, bit_or}
use Rattle.host.specs.Entry.{number_of}
use Rattle.host.proofs.Joining.{joined}
use Rattle.host.proofs.number.Goals as goal

pub returns : goal.returns
unfolding number_of
returns c =
    let f = c.requires in
    let e = c.from-n.ensures in
    let n = c.from-n.result in
    let code : n.code < 2 ^ 8 = rw e.0 f.code in
    let written : n.written < 2 ^ 28 = rw e.1 f.written in
    let fresh : n.fresh < 2 ^ 28 = rw e.2 f.fresh in
    let low : bit_or n.code (n.written * 2 ^ 8 % 2 ^ 64) ≡ n.code + n.written * 2 ^ 8 = joined n.code n.written 8 64 code (omega arith) in
    ap (λ b. bit_or b (n.fresh * 2 ^ 36 % 2 ^ 64)) low
    ∙ joined (n.code + n.written * 2 ^ 8) n.fresh 36 64 (omega arith) (omega arith)
    ∙ omega (arith, e.0, e.1, e.2)
