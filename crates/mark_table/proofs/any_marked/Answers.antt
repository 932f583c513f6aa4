-- `any_marked`: the marks of the elements say which are decorated members.
use borrow.Author.Tests.{tests}
use Prim.Native.Nat.{ℕ}
use mathlib.Core.Path.{◌∙◌}
use lib.ListN.{get_or}
use Rattle.std.proofs.Common.{rules}
use Rattle.std.proofs.lemmas.Iterator.Search.{any_from_yields_List}
use Rattle.records.specs.Ends.{blank}
use Rattle.inspect.proofs.Read.{reads}
use Rattle.mark_table.specs.Elements.{marks_any}
use Rattle.mark_table.proofs.any_marked.Goals as goal

pub returns : goal.returns
returns c =
    let r = c.records.result in
    let n = c.records.ensures in
    let notes = c.args.notes.now in
    any_from_yields_List {s = r} (λ (q : ℕ). (get_or notes q blank).marked) c.any.new.self _ _ c.any.ensures.ran (reads r n.3) (λ x b q k. search (rules, tests))
    ∙ marks_any c.args.ws.now notes n.1 n.2 c.requires.1
