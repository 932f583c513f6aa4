-- `is_live`: flag 2 is declare.
use mathlib.Core.Bool.{not}
use mathlib.Core.Path.{ap, sym, ◌∙◌}
use borrow.Author.Tests.{le-ltb}
use Prim.Native.Nat.{ℕ, ◌/◌, ◌%◌}
use lib.Dec.{eqb}
use lib.ListN.{length}
use Rattle.inspect.specs.Class.{live_here, live_past}
use Rattle.inspect.proofs.is_live.Goals as goal

pub returns-then-at-ws : goal.returns-then-at-ws
returns-then-at-ws c = ap (λ (p : ℕ). not (eqb (p / 2 % 2) 1)) c.payload_at.ensures.0 ∙ sym (live_here c.args.ws.now c.args.at c.if-at-ws.true)

pub returns-else-at-ws : goal.returns-else-at-ws
returns-else-at-ws c = le-ltb c.args.at (length c.args.ws.now) c.if-at-ws.false ∙ sym (live_past c.args.ws.now c.args.at c.if-at-ws.false)
