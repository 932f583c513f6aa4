-- `has_room`: with three times the words by `module_length`, else by what the walk with no output counts.
use Prim.Native.Nat.{ℕ}
use mathlib.Core.Path.{◌≡◌, sym, ap}
use native.Mathlib.Omega.{arith}
use lib.ListN.{length}
use lib.Dec.{leb}
use borrow.Author.Tests.{le-leb}
use Rattle.rewriting.proofs.Length.{module_length}
use Rattle.rewriting.specs.Answer.{module_words}
use Rattle.rewriter.proofs.has_room.Goals as goal

pub returns-then-ws-room : goal.returns-then-ws-room
returns-then-ws-room c = sym (le-leb (length (module_words c.args.ws.now)) c.args.room (omega (arith, module_length c.args.ws.now c.requires.0)))

pub returns : goal.returns
returns c =
    let e : c.write_module-m.result.pos ≡ length (module_words c.args.ws.now) = omega (arith, c.write_module-m.ensures.wrote.end) in
    ap (λ (n : ℕ). leb n c.args.room) e
