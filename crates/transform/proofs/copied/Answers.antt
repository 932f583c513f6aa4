-- `copied`: the invariant says that the words up to the place are written, and what is left.
use mathlib.Core.Path.{◌≡◌, ◌∙◌}
use Prim.Native.Nat.{◌+◌, ◌-◌, ◌<◌}
use native.Mathlib.Omega.{arith}
use lib.ListN.{drop, get_or, take}
use Rattle.std.proofs.Common.{length-drop, length-take}
use Rattle.std.proofs.lemmas.List.{get_or-drop, get_or-take}
use Rattle.transform.specs.Copies.{copying_start, copying_next, copying_all}
use Rattle.transform.specs.StepsRecords.{word_kind, word_payload}
use Rattle.transform.proofs.copied.Goals as goal

pub loop-w-init : goal.loop-w-init
loop-w-init c = copying_start (omega arith) c.requires.some

pub loop-w-preserved : goal.loop-w-preserved
loop-w-preserved c =
    let a = c.args in
    let ws = a.ws.now in
    let i = c.loop-w.w-index in
    let low : i < a.e - a.at = omega (arith, length-take (a.e - a.at) (drop a.at ws)) in
    let same : get_or (take (a.e - a.at) (drop a.at ws)) i 0 ≡ get_or ws (a.at + i) 0 = get_or-take (a.e - a.at) (drop a.at ws) i 0 low ∙ get_or-drop a.at ws i 0 in
    copying_next c.loop-w.invariant (omega arith) (omega arith) (word_kind ws (a.at + i) same) (word_payload ws (a.at + i) same) c.put_word-p.ensures

pub returns : goal.returns
returns c =
    let a = c.args in
    copying_all c.loop-w.invariant (omega (arith, length-take (a.e - a.at) (drop a.at a.ws.now), length-drop a.at a.ws.now))
