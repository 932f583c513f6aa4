-- `scan`: what is left of the scan is that of the runs ahead; each turn reads a word.
use Rattle.std.proofs.Common.{◌+◌, ◌≤◌, ◌∷◌, length, refl, sym, ap, ◌∙◌, arith, rules}
use Rattle.std.proofs.lemmas.Bool.Decides.{nat_tests}
use Rattle.grammar.specs.Scan.{place, top}
use Rattle.grammar.proofs.RefusalLaws.{number_some}
use Rattle.validation.specs.declared.Run.{Run}
use Rattle.validation.specs.Sets.{leaves}
use Rattle.validation.specs.Waiting.{waiting, places_in}
use Rattle.validation.specs.Walks.{scan_left, scan_fault, scan_allowed, scan_depth, scan_below, scan_leaf, scan_end, scan_done, judged_ahead, in_set, not_in_set}
use Rattle.validation.proofs.scan.Goals as goal

pub loop-w-init : goal.loop-w-init
unfolding waiting places_in place top
loop-w-init g c = rw (c.new-run.ensures, c.new-stack.ensures) (record { ahead = refl; levels = omega arith })

pub returns-in_default-clause-scanned : goal.returns-in_default-clause-scanned
returns-in_default-clause-scanned g c =
    judged_ahead _ _ (scan_left c.args.symbols c.loop-w.w-index c.args.ws.now c.loop-w-test.true) (sym (c.in_default.ensures.none refl)) c.loop-w.invariant.ahead

pub returns-in-Err-clause-scanned : goal.returns-in-Err-clause-scanned
returns-in-Err-clause-scanned g c =
    judged_ahead _ _ (scan_fault c.args.symbols c.loop-w.w-index c.args.ws.now c.loop-w-test.true c.in-Some.next c.next.new.self c.in-Some.ensures.some _ c.in-Err.ensures (λ z. omega (arith, number_some c.in-Err.refusal)))
    c.in-Some.ensures.places c.loop-w.invariant.ahead

pub loop-w-preserved-then-is_in : goal.loop-w-preserved-then-is_in
unfolding leaves
loop-w-preserved-then-is_in g c =
    let ahead =
    judged_ahead _ _ (scan_leaf c.args.symbols c.loop-w.w-index c.args.ws.now c.loop-w-test.true c.in-Some.next c.next.new.self c.in-Some.ensures.some c.in_default-fault.ensures (omega (arith, c.in-Some.ensures.levels)) (in_set _ _ c.is_in.ensures c.if-is_in.true))
    c.in-Some.ensures.places c.loop-w.invariant.ahead
    in
    rw c.new-rest.ensures (record { ahead = ahead; levels = c.in-Some.ensures.levels })

pub returns-then-not-has_room-clause-long : goal.returns-then-not-has_room-clause-long
returns-then-not-has_room-clause-long g c = λ z.
    let d = scan_depth c.args.symbols c.in-Some.next _ c.in_default-fault.ensures in
    let l = c.in-Some.ensures.levels in
    grind (arith, nat_tests, d, l)

pub overflow_sub-next-in-loop-w : goal.overflow_sub-next-in-loop-w
overflow_sub-next-in-loop-w g c = scan_depth c.args.symbols c.in-Some.next _ c.in_default-fault.ensures

pub children-run-requires : goal.children-run-requires
unfolding leaves
children-run-requires g c =
    let d = scan_depth c.args.symbols c.in-Some.next _ c.in_default-fault.ensures in
    let room : length c.next.new.self + 4 ≤ g.row.N = c.has_room.ensures.0 c.if-not-has_room.false in (
      search rules,
      (
        not_in_set _ _ c.is_in.ensures c.if-is_in.false,
        (
          scan_allowed c.args.symbols c.in-Some.next _ c.in_default-fault.ensures,
          (omega (arith, c.push.ensures.few, room), omega (arith, d, c.push.ensures.few, c.in-Some.ensures.levels)),
        ),
      ),
    )

pub loop-w-preserved : goal.loop-w-preserved
loop-w-preserved g c =
    let ahead =
    judged_ahead _ _ (scan_below c.args.symbols c.loop-w.w-index c.args.ws.now c.loop-w-test.true c.in-Some.next c.next.new.self c.in-Some.ensures.some c.in_default-fault.ensures (omega (arith, c.in-Some.ensures.levels)) c.push.new.self (c.children-run.result ∷ c.children-run.new.stack)
    (c.push.ensures.places ∙ ap (λ (r : Run). waiting (r ∷ c.next.new.self)) c.new-rest.ensures) c.children-run.ensures.places)
    c.in-Some.ensures.places c.loop-w.invariant.ahead
    in
    record { ahead = ahead; levels = c.children-run.ensures.levels }

pub returns-in-Some-next-clause-scanned : goal.returns-in-Some-next-clause-scanned
returns-in-Some-next-clause-scanned g c =
    judged_ahead _ _ (scan_end c.args.symbols c.loop-w.w-index c.args.ws.now c.in-Some-next.field-0 c.next-2.new.self c.in-Some-next.ensures.some c.loop-w-test.false)
    c.in-Some-next.ensures.places c.loop-w.invariant.ahead

pub returns-in-None-clause-scanned : goal.returns-in-None-clause-scanned
returns-in-None-clause-scanned g c =
    judged_ahead _ _ (scan_done c.args.symbols c.loop-w.w-index c.args.ws.now c.loop-w-test.false) (sym (c.in-None.ensures.none refl)) c.loop-w.invariant.ahead
