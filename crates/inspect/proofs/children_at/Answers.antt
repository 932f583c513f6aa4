-- `children_at`: as many children as the word at i asks for.
use mathlib.Core.Path.{◌≡◌, ap, sym, ◌∙◌}
use Prim.Native.Nat.{ℕ}
use native.Mathlib.Omega.{arith}
use Rattle.words.specs.Word.{children, kind_of, payload_of}
use Rattle.records.specs.Place.{arity_at, arity_at_children}
use Rattle.inspect.specs.Child.{arity_lt}
use Rattle.inspect.proofs.children_at.Goals as goal

pub returns : goal.returns
returns c =
    let a = c.args in
    let e : c.child_count.result ≡ arity_at a.ws.now a.i = c.child_count.ensures ∙ ap (λ (w : ℕ). children (kind_of w) (payload_of w)) c.word_at.ensures ∙ sym (arity_at_children a.ws.now a.i) in
    (e, omega (arith, e, arity_lt a.ws.now a.i))
