-- The walkers that call one another: each need is a law of specs/Steps*.antt, Copies.antt or Plans.antt. The measure is the words left, and for the walkers of one
-- place a rank.
use Rattle.std.specs.Int.{from_bool}
use Rattle.records.specs.Place.{end_one, label_at, arity_at, kids_at, end_low}
use Rattle.transform.specs.StepsKept.{keeping_start, keeping_asks, keeping_kept, keeping_one, keeping_all, keeping_past, emit_kept}
use Rattle.transform.specs.Kept.{SortAt, kept_below}
use Rattle.transform.specs.Marks.{allowed_mark, allowed_single}
use Rattle.transform.specs.StepsClasses.{wrote_behind, no_constructor, FirstAt, first_at, elements_plain, elements_none, elements_asks, elements_wrote, before_asks, constructor_asks, constructor_inside, behind_asks, bare_wrote, stack_asks, body_room, block_private, block_room, body_wrote, block_wrote, count_plan, inside_asks, few_flags, body_inside, body_is, body_later, body_deep, body_id, body_default, class_heritage, class_place, class_state, class_body_asks, class_wrote, entries_none, entries_kids, entries_inside, entries_asks, entries_wrote, decorators_asks, assignment_entries, entries_few, entries_end, assignment_wrote, queue_silent, queue_place, queue_state, queue_calls, queue_plain, queue_assignment, calls_few, assignment_end, queue_wrote, class_parts_lem, statement_class, statement_queue, statement_end, statement_few, statement_emitted, bit_le}
use Rattle.inspect.specs.Chain.{first_kids}
use Rattle.counter.specs.Totals.{note_at, element_single}
use Rattle.transform.specs.Copies.{copies, copied_emits}
use Rattle.transform.specs.Steps.{noted_next, asks_kids, length_words, asks_words, state_low, emit_none, emit_add, emit_few}
use Rattle.transform.specs.Plans.{body_fits}
use Rattle.transform.specs.ClassWords.{Small, scope_of}
use Rattle.transform.specs.Contract.{word_below, Asks, calls_at, here_at, kids_here, member_words, begun, behind_words}
use Rattle.walk_laws.specs.ClassPlan.{queue_words, at_body, body_at}
use Rattle.counter.specs.Steps.{counts_on, ready_next, ready_behind, below_more}
use lib.Dec.{eqb}
use borrow.Author.Tests.{eqb-true, eqb-false}
use Rattle.words.specs.Word.{kind_of, payload_of, kind_lt}
use Rattle.transform.specs.Leaves.{wrote_made}
use Prim.Native.Nat.{◌+◌, ℕ, ◌<◌}
use mathlib.Core.Bool.{true, not}
use Rattle.transform.specs.StepsCalls.{arity_few, asks_step, asks_marked, below_state, give_none, give_add, give_few, indexed_none, parameters_none, parameters_append, give_decorator, give_parameter, queue_none, queue_add, queue_fit, queue_nothing, Element, MemberCall, call_size, queue_call, call_symbols, decorated_kind, entries_marked, own_fit, field_written, method_fit, method_written, asks_parameters, parameters_place, parameters_kind, decorator_fit, decorator_asks, parameter_asks, parameters_done, decorators_done, queue_few}
use Rattle.counter.specs.Contract.{is_walked}
use Rattle.walk_laws.specs.Calls.{entries as entries', indexed_append}
use Rattle.walk_laws.specs.Roles.{decorated_member}
use Rattle.walk_laws.specs.Single.{row_nth}
use Rattle.rewriting.specs.Parts.{indexed as indexed', of_parameters, is_decorated_member}
use Rattle.grammar.specs.WellFormed.{Allowed}
use Rattle.grammar.specs.Grammar.{element}
use Rattle.records.specs.Forest.{size, count_size}
use Rattle.transform.specs.StepsMembers.{bared_none, bared_add, asks_parameter, parameter_place, moved_parameters, ParameterHere, asks_value, moved_parameter, element_keyed, asks_field, wrote_field, method_three, asks_key, asks_called, called_place, called_on, asks_rest, rest_on, wrote_method, key_least, member_length, moved_member, member_some, parameter_room}
use Rattle.walk_laws.specs.Elements.{parameter_marked}
use lib.ListN.{length}
use mathlib.Core.Path.{refl, ap, sym, ◌∙◌, ◌≡◌, subst}
use Rattle.transform.specs.StepsRecords.{list_size, emit_list, emit_inside, asks_one, member_size, emit_member, word_kind, word_payload, emit_rest, asks_next, one_below, below_size, emit_below}
use native.Mathlib.Omega.{arith}
use Rattle.transform.proofs.+transform.Goals.{calls-In-loop, calls-Else-not-notes-at, elements-Else-k-j, first_entries-Else-k-j, list-After-records-r, member-After-key_assignment-p3, parameters-In-loop, queue-After-count_records-own}
use Rattle.transform.proofs.+transform.Goals as goal

-- the element of a round of `calls`
calls_element : (t : ℕ) (c : calls-In-loop t) → Element c.args.ws.now c.args.notes.now c.loop.v.at c.args.a c.loop.v.state c.args.c c.loop.v.pos
calls_element t c =
    let g = c.args in
    let l = c.loop in
    let p = c.requires in
    let x = l.invariant in
    let b : l.counter < g.k = omega arith in
    let fit = queue_fit g.ws.now g.w.at g.a g.w.state g.c l.counter x g.k b in
    let y = row_nth g.ws.now g.w.at g.k l.counter element p.2 b in
    record {
      inside = omega (arith, x.moved.place, y.0);
      allowed = subst (λ (j : ℕ). Allowed element (label_at g.ws.now j)) (sym x.moved.place) y.1;
      asks = asks_step p.0 g.a g.w.state l.counter l.v.at l.v.state l.v.pos (size (calls_at g.ws.now l.v.at 1 g.a l.v.state)) refl b x.moved.place x.moved.state (omega (arith, fit, p.0.fit));
    }

-- one that is marked
calls_member : (t : ℕ) (c : calls-Else-not-notes-at t) → Element c.args.ws.now c.args.notes.now c.loop.v.at c.args.a c.loop.v.state c.args.c c.loop.v.pos →
    MemberCall c.args.ws.now c.loop.v.at c.args.a c.loop.v.state c.args.c c.count_record-r.result
calls_member t c u =
    let g = c.args in
    let l = c.loop in
    let d : is_decorated_member (label_at g.ws.now l.v.at) (kids_at g.ws.now l.v.at) ≡ true = sym (allowed_mark l.v.at u.allowed u.asks.ready.planned u.inside) ∙ c.if-not-notes-at.false in
    record { decorated = d; words = call_size g.ws.now u.asks.ready.whole l.v.at u.inside g.a l.v.state g.c c.requires.3 d c.count_record-r.ensures }

pub calls-arguments-requires : goal.calls-arguments-requires
calls-arguments-requires t c =
    let g = c.args in
    let l = c.loop in
    let p = c.requires in
    let x = l.invariant in
    let u = calls_element t (goal.at.calls-arguments-requires t c).In-loop in
    let m = calls_member t (goal.at.calls-arguments-requires t c).Else-not-notes-at u in
    let r = ready_behind u.asks.ready c.count_record-r.ensures in
    let v = state_low g.ws.now g.w.at l.counter g.a g.w.state l.v.state x.moved.state in
    let y = call_symbols g.ws.now u.asks.ready.whole l.v.at u.inside g.a l.v.state g.c p.3 m.decorated c.count_record-r.ensures (omega (arith, r.room)) (below_more g.w.state.next l.v.state.next g.a.id v p.4) (below_state g.ws.now g.w.at l.counter g.a g.w.state l.v.state x.moved.state p.5) in
    (omega (arith, m.words, length_words g.c (entries' (word_below g.c) g.ws.now g.a l.v.at l.v.state), u.asks.fit, c.put-p1.ensures.end, c.put-p2.ensures.end, c.entries-e.ensures.0.end), omega (arith, u.inside, u.asks.ready.few), y.0, omega (arith, r.room), y.1, u.asks.ready.planned.ends)

pub calls-bounds-notes-at : goal.calls-bounds-notes-at
calls-bounds-notes-at t c =
    let u = calls_element t (goal.at.calls-bounds-notes-at t c).In-loop in
    omega (arith, u.asks.ready.planned.ends.long, u.inside)

pub calls-count_record-r-requires : goal.calls-count_record-r-requires
calls-count_record-r-requires t c =
    let u = calls_element t (goal.at.calls-count_record-r-requires t c).In-loop in
    (u.asks.ready, u.asks.noted, u.inside, allowed_single _ _ u.allowed)

pub calls-entries-e-requires : goal.calls-entries-e-requires
calls-entries-e-requires t c =
    let g = c.args in
    let l = c.loop in
    let u = calls_element t (goal.at.calls-entries-e-requires t c).In-loop in
    let m = calls_member t (goal.at.calls-entries-e-requires t c).Else-not-notes-at u in
    (omega (arith, l.invariant.moved.place, end_low g.ws.now g.w.at l.counter), (asks_words u.asks (c.put-p2.result + 1) (size (entries' (word_below g.c) g.ws.now g.a l.v.at l.v.state)) (omega (arith, m.words, u.asks.fit, c.put-p1.ensures.end, c.put-p2.ensures.end)), omega arith, u.inside, u.allowed, m.decorated))

pub calls-loop-init : goal.calls-loop-init
calls-loop-init t c =
    let g = c.args in
    queue_none g.ws.now g.w.at g.a g.w.state g.c g.out.now g.w.pos g.w.count

pub calls-loop-preserved : goal.calls-loop-preserved
calls-loop-preserved t c =
    let g = c.args in
    let l = c.loop in
    let u = calls_element t (goal.at.calls-loop-preserved t c).In-loop in
    let m = calls_member t (goal.at.calls-loop-preserved t c).Else-not-notes-at u in
    let q = queue_call g.ws.now u.asks.ready.whole l.v.at u.inside g.a l.v.state g.c c.requires.3 m.decorated c.count_record-r.ensures c.put-p2.result c.entries-e.result.pos c.entries-e.result.count c.put-p1.ensures c.put-p2.ensures c.entries-e.ensures.0 (omega (arith, c.entries-e.ensures.1)) c.put.ensures c.arguments.ensures in
    queue_add g.ws.now g.w.at g.a g.w.state g.c l.counter l.invariant 1 q

pub calls-loop-preserved-then-not-notes-at : goal.calls-loop-preserved-then-not-notes-at
calls-loop-preserved-then-not-notes-at t c =
    let g = c.args in
    let l = c.loop in
    let u = calls_element t (goal.at.calls-loop-preserved-then-not-notes-at t c).In-loop in
    queue_add g.ws.now g.w.at g.a g.w.state g.c l.counter l.invariant 1 (queue_nothing g.ws.now u.asks.ready.whole l.v.at u.inside g.a l.v.state g.c _ _ _ u.allowed (sym (allowed_mark l.v.at u.allowed u.asks.ready.planned u.inside) ∙ c.if-not-notes-at.true) c.count_record-r.ensures)

pub calls-offset_bounds-notes-at : goal.calls-offset_bounds-notes-at
calls-offset_bounds-notes-at t c =
    let u = calls_element t (goal.at.calls-offset_bounds-notes-at t c).In-loop in
    omega (arith, u.inside, u.asks.ready.few)

pub calls-overflow_add-u : goal.calls-overflow_add-u
calls-overflow_add-u t c =
    let u = calls_element t (goal.at.calls-overflow_add-u t c).In-loop in
    let m = calls_member t (goal.at.calls-overflow_add-u t c).Else-not-notes-at u in
    omega (arith, m.words, u.asks.fit, c.put-p1.ensures.end, c.put-p2.ensures.end)

pub calls-overflow_add-v : goal.calls-overflow_add-v
calls-overflow_add-v t c =
    let g = c.args in
    let l = c.loop in
    let u = calls_element t (goal.at.calls-overflow_add-v t c).In-loop in
    omega (arith, u.asks.fit, queue_few g.ws.now g.w.at g.a g.w.state g.c l.counter l.invariant c.requires.1)

pub calls-put-p1-requires : goal.calls-put-p1-requires
calls-put-p1-requires t c =
    let u = calls_element t (goal.at.calls-put-p1-requires t c).In-loop in
    (omega (arith, u.asks.fit), omega arith)

pub calls-put-p2-requires : goal.calls-put-p2-requires
calls-put-p2-requires t c =
    let u = calls_element t (goal.at.calls-put-p2-requires t c).In-loop in
    let m = calls_member t (goal.at.calls-put-p2-requires t c).Else-not-notes-at u in
    (omega (arith, m.words, u.asks.fit, c.put-p1.ensures.end), omega arith)

pub calls-put-requires : goal.calls-put-requires
calls-put-requires t c =
    let g = c.args in
    let l = c.loop in
    let u = calls_element t (goal.at.calls-put-requires t c).In-loop in
    let m = calls_member t (goal.at.calls-put-requires t c).Else-not-notes-at u in
    (omega (arith, u.asks.fit, c.put-p1.ensures.end, c.put-p2.ensures.end), omega (arith, m.words, count_size (entries' (word_below g.c) g.ws.now g.a l.v.at l.v.state), u.asks.fit, c.entries-e.ensures.1))

pub class-kept-r-requires : goal.class-kept-r-requires
class-kept-r-requires t c =
    let g = c.args in
    let f = c.requires in
    let b = c.scope_below.result in
    let s = c.scope_below.ensures in
    let w = f.0.ready.whole in
    (omega (arith, f.2), (asks_one f.0 (one_below g.ws.now g.w.at g.a g.w.state g.c f.2 w f.3 b s) c.put_word-pos.result (size (here_at g.ws.now (g.w.at + 1) 1 b (begun g.w.state.next))) f.2 (omega (arith, f.0.fit, below_size g.ws.now g.w.at g.a g.w.state g.c f.2 w f.3 b s, c.put_word-pos.ensures.end)), omega arith, kept_below g.ws.now w g.w.at f.2 f.3))

pub class-returns : goal.class-returns
class-returns t c =
    let g = c.args in
    let f = c.requires in
    emit_below g.ws.now g.w.at g.a g.w.state g.c f.2 f.0.ready.whole f.3 c.scope_below.result c.scope_below.ensures (kind_of c.word_at.result) (payload_of c.word_at.result) (word_kind g.ws.now g.w.at c.word_at.ensures) (word_payload g.ws.now g.w.at c.word_at.ensures) c.put_word-pos.ensures c.kept-r.ensures

pub class_body-calls-requires : goal.class_body-calls-requires
class_body-calls-requires t c =
    let p = c.requires in
    let r = c.body_stack-inner.ensures in
    let y = sym c.has_block-block.ensures ∙ c.if-not-block.false in
    let n = c.children_at-k.ensures.0 in (
      omega (arith, p.1),
      (
        subst (λ (j : ℕ). Asks c.args.ws.now c.args.notes.now (c.args.w.at + 1) j c.args.w.state.next c.args.c c.put-p4.result (size (calls_at c.args.ws.now (c.args.w.at + 1) j (scope_of c.args.g) c.args.w.state))) (sym n)
            (asks_kids p.0 c.put-p4.result (size (calls_at c.args.ws.now (c.args.w.at + 1) (arity_at c.args.ws.now c.args.w.at) (scope_of c.args.g) c.args.w.state)) refl p.1
            (omega (arith, body_room c.args.g c.args.w.state p.0 c.body_stack-inner.result r.1, block_room c.args.g c.args.w.state p.0 c.body_stack-inner.result r.1 y, c.put-p4.ensures.end, c.elements-p3.ensures.end, c.alias_block-p2.ensures.end, c.put-p1.ensures.end))),
        omega arith,
        body_fits c.args.ws.now p.0.ready.whole c.args.w.at c.children_at-k.result p.1 p.2 n,
        refl,
        p.7,
        p.8,
      ),
    )

pub class_body-elements-p3-requires : goal.class_body-elements-p3-requires
class_body-elements-p3-requires t c =
    let p = c.requires in
    let r = c.body_stack-inner.ensures in (
      omega (arith),
      (stack_asks c.args.g c.args.w.state p.0 c.body_stack-inner.result r.1 c.alias_block-p2.result r.0 p.3 (omega (arith, c.alias_block-p2.ensures.end, c.put-p1.ensures.end)), p.1, p.2),
    )

pub class_body-put-p1-requires : goal.class_body-put-p1-requires
class_body-put-p1-requires t c =
    let p = c.requires in (
      omega (arith, p.0.fit),
      omega (arith, c.children_at-k.ensures.0, arity_few c.args.ws.now p.0.ready.whole c.args.w.at p.1, p.0.ready.few, c.from.ensures, bit_le c.has_front.result, c.from-2.ensures, bit_le c.has_block-block.result),
    )

pub class_body-put-p4-requires : goal.class_body-put-p4-requires
class_body-put-p4-requires t c =
    let p = c.requires in
    let r = c.body_stack-inner.ensures in
    let y = sym c.has_block-block.ensures ∙ c.if-not-block.false in (
      omega (arith, body_room c.args.g c.args.w.state p.0 c.body_stack-inner.result r.1, c.elements-p3.ensures.end, c.alias_block-p2.ensures.end, c.put-p1.ensures.end),
      omega (arith, body_room c.args.g c.args.w.state p.0 c.body_stack-inner.result r.1, block_room c.args.g c.args.w.state p.0 c.body_stack-inner.result r.1 y, p.6 (block_private c.args.g c.args.w.state p.0 c.body_stack-inner.result r.1 y), count_size (calls_at c.args.ws.now (c.args.w.at + 1) (arity_at c.args.ws.now c.args.w.at) (scope_of c.args.g) c.args.w.state)),
    )

pub class_body-returns : goal.class_body-returns
class_body-returns t c =
    let p = c.requires in
    let y = sym c.has_block-block.ensures ∙ c.if-not-block.false in
    block_wrote c.args.g c.args.w.state p.0 c.body_stack-inner.result c.body_stack-inner.ensures.1 (omega (arith, c.children_at-k.ensures.0, c.from.ensures, ap from_bool c.has_front.ensures, c.from-2.ensures, ap from_bool c.has_block-block.ensures)) c.put-p1.ensures c.alias_block-p2.ensures c.elements-p3.ensures y c.children_at-k.ensures.0 c.put-p4.ensures c.calls.ensures

pub class_body-returns-then-not-block : goal.class_body-returns-then-not-block
class_body-returns-then-not-block t c =
    let p = c.requires in
    body_wrote c.args.g c.args.w.state p.0 c.body_stack-inner.result c.body_stack-inner.ensures.1 (omega (arith, c.children_at-k.ensures.0, c.from.ensures, ap from_bool c.has_front.ensures, c.from-2.ensures, ap from_bool c.has_block-block.ensures))
    c.put-p1.ensures c.alias_block-p2.ensures c.elements-p3.ensures (sym c.has_block-block.ensures ∙ c.if-not-block.true)

pub create_assignment-body_stack-inner-requires : goal.create_assignment-body_stack-inner-requires
create_assignment-body_stack-inner-requires t c =
    let p = c.requires in
    (omega (arith, body_deep p.0 p.1 p.2 p.4 c.args.b.at c.args.b.state p.6 p.7), p.4.symbols.sizes.3, p.4.symbols.sizes.1)

pub create_assignment-first_entries-e-requires : goal.create_assignment-first_entries-e-requires
create_assignment-first_entries-e-requires t c =
    let p = c.requires in
    let r = c.body_stack-inner.ensures in (
      omega (arith, p.1, body_later p.0 p.1 p.2 p.4 c.args.b.at c.args.b.state p.6 p.7),
      (
        assignment_entries c.args.outer c.args.b.state p.0 p.1 p.2 p.4 p.6 p.7 c.children_at.result c.children_at.ensures.0 c.assignment_head-p1.ensures c.records-own.ensures c.body_stack-inner.result r.1 r.0,
        emit_few c.args.ws.now (c.args.at + 3) (scope_of c.args.g) (begun c.args.n) c.args.c c.records-own.ensures (omega arith),
        body_inside p.0 p.1 p.2 p.4 c.args.b.at c.args.b.state p.6 p.7,
        body_is p.0 p.1 p.2 p.4 c.args.b.at c.args.b.state p.6 p.7,
      ),
    )

pub create_assignment-overflow_add-v-2 : goal.create_assignment-overflow_add-v-2
create_assignment-overflow_add-v-2 t c =
    let p = c.requires in
    omega (arith, (decorators_asks c.args.outer c.args.b.state p.0 p.1 p.2 p.4 p.6 p.7 (arity_at c.args.ws.now (c.args.at + 2)) refl c.assignment_head-p1.result c.assignment_head-p1.ensures.end).fit)

pub create_assignment-put-requires : goal.create_assignment-put-requires
create_assignment-put-requires t c =
    let p = c.requires in
    let e = c.first_entries-e.ensures in (
      omega (arith, (decorators_asks c.args.outer c.args.b.state p.0 p.1 p.2 p.4 p.6 p.7 c.children_at.result c.children_at.ensures.0 c.assignment_head-p1.result c.assignment_head-p1.ensures.end).fit),
      entries_few c.args.outer c.args.b.state p.0 p.1 p.2 p.4 p.6 p.7 c.children_at.result c.children_at.ensures.0 c.assignment_head-p1.ensures c.records-own.ensures c.body_stack-inner.result c.body_stack-inner.ensures.1 e.0 e.1,
    )

pub create_assignment-put-requires-2 : goal.create_assignment-put-requires-2
create_assignment-put-requires-2 t c =
    let p = c.requires in
    let e = c.first_entries-e.ensures in
    (omega (arith, entries_end c.args.outer c.args.b.state p.0 p.1 p.2 p.4 p.6 p.7 c.children_at.result c.children_at.ensures.0 c.assignment_head-p1.ensures c.records-own.ensures c.body_stack-inner.result c.body_stack-inner.ensures.1 e.0 e.1), subst Small p.5 p.4.symbols.sizes.1)

pub create_assignment-records-own-requires : goal.create_assignment-records-own-requires
create_assignment-records-own-requires t c =
    let p = c.requires in
    (omega (arith, p.1), (decorators_asks c.args.outer c.args.b.state p.0 p.1 p.2 p.4 p.6 p.7 c.children_at.result c.children_at.ensures.0 c.assignment_head-p1.result c.assignment_head-p1.ensures.end, omega arith, omega arith))

pub create_assignment-returns : goal.create_assignment-returns
create_assignment-returns t c =
    let p = c.requires in
    let e = c.first_entries-e.ensures in
    assignment_wrote c.args.outer c.args.b.state p.0 p.1 p.2 p.4 p.6 p.7 c.children_at.result c.children_at.ensures.0 c.assignment_head-p1.ensures c.records-own.ensures c.body_stack-inner.result c.body_stack-inner.ensures.1 e.0 e.1 c.put.ensures c.put-2.ensures

-- the first constructor
elements_first : (t : ℕ) (c : elements-Else-k-j t) → FirstAt c.args.ws.now c.args.w.at c.first_constructor-j.result
elements_first t c = first_at c.args.ws.now c.args.w.at c.children_at-k.result c.first_constructor-j.result c.children_at-k.ensures.0 (first_kids c.args.w.at c.children.ensures.0 c.children.ensures.1 c.children_at-k.ensures.0 c.first_constructor-j.ensures) c.if-k-j.false

pub elements-member-m-requires : goal.elements-member-m-requires
elements-member-m-requires t c =
    let p = c.requires in
    let n = elements_first t (goal.at.elements-member-m-requires t c).Else-k-j in
    let few = emit_few c.args.ws.now (c.args.w.at + 1) (scope_of c.args.g) c.args.w.state c.args.c c.records-f.ensures (omega arith) in
    let i = constructor_inside c.args.g c.args.w.state p.0 p.1 p.2 (c.is_none.ensures ∙ ap not c.if-is_none.false) c.children_at-k.result c.first_constructor-j.result c.children_at-k.ensures.0 n c.records-f.ensures in (
      omega (arith, p.1, c.records-f.ensures.moved.place, end_low c.args.ws.now (c.args.w.at + 1) c.first_constructor-j.result),
      (constructor_asks c.args.g c.args.w.state p.0 p.1 p.2 (c.is_none.ensures ∙ ap not c.if-is_none.false) c.children_at-k.result c.first_constructor-j.result c.children_at-k.ensures.0 n c.records-f.ensures, few, i.0, i.1),
    )

pub elements-records-f-requires : goal.elements-records-f-requires
elements-records-f-requires t c =
    let p = c.requires in
    let n = elements_first t (goal.at.elements-records-f-requires t c).Else-k-j in
    (omega (arith, p.1), (before_asks c.args.g c.args.w.state p.0 p.1 p.2 (c.is_none.ensures ∙ ap not c.if-is_none.false) c.children_at-k.result c.first_constructor-j.result c.children_at-k.ensures.0 n, omega arith, omega arith))

pub elements-records-requires : goal.elements-records-requires
elements-records-requires t c =
    let p = c.requires in
    (omega (arith, p.1), (elements_asks c.args.g c.args.w.state p.0 p.1 p.2 c.children_at-k.result c.children_at-k.ensures.0 (elements_plain c.args.g c.args.w.state p.0 p.1 p.2 (c.is_none.ensures ∙ ap not c.if-is_none.true)), omega arith, omega arith))

pub elements-records-requires-2 : goal.elements-records-requires-2
elements-records-requires-2 t c =
    let p = c.requires in
    let n = elements_first t (goal.at.elements-records-requires-2 t c).Else-k-j in
    let few = emit_few c.args.ws.now (c.args.w.at + 1) (scope_of c.args.g) c.args.w.state c.args.c c.records-f.ensures (omega arith) in
    let low = end_low c.args.ws.now (c.args.w.at + 1) c.first_constructor-j.result in
    let on = end_low c.args.ws.now c.records-f.result.at 1 in (
      omega (arith, p.1, c.records-f.ensures.moved.place, low, c.member-m.ensures.0.place, on),
      (
        behind_asks c.args.g c.args.w.state p.0 p.1 p.2 (c.is_none.ensures ∙ ap not c.if-is_none.false) c.children_at-k.result c.first_constructor-j.result c.children_at-k.ensures.0 n c.records-f.ensures c.member-m.ensures.0,
        omega (arith, few, c.member-m.ensures.1, c.member-m.ensures.0.wrote.end, member_some c.args.ws.now c.records-f.result.at (scope_of c.args.g) c.records-f.result.state c.args.c),
        omega (arith, c.records-f.ensures.moved.place, low, c.member-m.ensures.0.place, on),
      ),
    )

pub elements-records-requires-then-k-j : goal.elements-records-requires-then-k-j
elements-records-requires-then-k-j t c =
    let p = c.requires in
    (omega (arith, p.1), (elements_asks c.args.g c.args.w.state p.0 p.1 p.2 c.children_at-k.result c.children_at-k.ensures.0 (elements_none c.args.g c.args.w.state p.0 p.1 p.2 (c.is_none.ensures ∙ ap not c.if-is_none.false) (no_constructor c.args.ws.now c.args.w.at c.children_at-k.result c.first_constructor-j.result c.children_at-k.ensures.0 (first_kids c.args.w.at c.children.ensures.0 c.children.ensures.1 c.children_at-k.ensures.0 c.first_constructor-j.ensures) c.if-k-j.true)), omega arith, omega arith))

pub elements-returns : goal.elements-returns
elements-returns t c =
    let p = c.requires in
    let n = elements_first t (goal.at.elements-returns t c).Else-k-j in
    bare_wrote c.args.g c.args.w.state p.0 p.1 p.2 (c.is_none.ensures ∙ ap not c.if-is_none.false) c.children_at-k.result c.first_constructor-j.result c.children_at-k.ensures.0 n c.records-f.ensures c.member-m.ensures.0 c.records-2.ensures

pub elements-returns-then-is_none : goal.elements-returns-then-is_none
elements-returns-then-is_none t c =
    let p = c.requires in
    elements_wrote c.args.g c.args.w.state p.0 p.1 p.2 c.children_at-k.result c.children_at-k.ensures.0 (elements_plain c.args.g c.args.w.state p.0 p.1 p.2 (c.is_none.ensures ∙ ap not c.if-is_none.true)) c.records.ensures

pub elements-returns-then-k-j : goal.elements-returns-then-k-j
elements-returns-then-k-j t c =
    let p = c.requires in
    let n = no_constructor c.args.ws.now c.args.w.at c.children_at-k.result c.first_constructor-j.result c.children_at-k.ensures.0 (first_kids c.args.w.at c.children.ensures.0 c.children.ensures.1 c.children_at-k.ensures.0 c.first_constructor-j.ensures) c.if-k-j.true in
    elements_wrote c.args.g c.args.w.state p.0 p.1 p.2 c.children_at-k.result c.children_at-k.ensures.0 (elements_none c.args.g c.args.w.state p.0 p.1 p.2 (c.is_none.ensures ∙ ap not c.if-is_none.false) n) c.records-then-k-j.ensures

pub entries-count_records-key-requires : goal.entries-count_records-key-requires
entries-count_records-key-requires t c = (ready_next c.requires.0.ready c.requires.2, noted_next c.requires.0)

pub entries-records-own-requires : goal.entries-records-own-requires
entries-records-own-requires t c =
    let g = c.args in
    let p = c.requires in
    let w = p.0.ready.whole in
    let m = entries_marked g.ws.now w g.w.at p.2 g.a g.w.state g.c p.4 in
    let t = own_fit g.ws.now w g.w.at p.2 g.a g.w.state g.c p.4 in (
      omega (arith, m.place),
      (
        subst (λ (k : ℕ). Asks g.ws.now g.notes.now (g.w.at + 2) k g.w.state.next g.c g.w.pos (size (here_at g.ws.now (g.w.at + 2) k g.a g.w.state))) (sym c.children_at.ensures.0)
            (asks_marked p.0 g.w.pos (size (here_at g.ws.now (g.w.at + 2) (arity_at g.ws.now (g.w.at + 1)) g.a g.w.state)) p.2 m (omega (arith, t, p.0.fit))),
        p.1,
        omega arith,
      ),
    )

pub entries-returns : goal.entries-returns
entries-returns t c =
    let g = c.args in
    let p = c.requires in
    method_written g.ws.now p.0.ready.whole g.w.at p.2 g.a g.w.state g.c p.4 c.children_at.ensures.0 c.records-own.ensures (eqb-true _ 30 (sym c.is_kind_at.ensures ∙ c.if-not-is_kind_at.false)) c.count_records-key.ensures c.transform_decorators_of_parameters.ensures.0 c.transform_decorators_of_parameters.ensures.1

pub entries-returns-then-not-is_kind_at : goal.entries-returns-then-not-is_kind_at
entries-returns-then-not-is_kind_at t c =
    let g = c.args in
    let p = c.requires in
    field_written g.ws.now p.0.ready.whole g.w.at p.2 g.a g.w.state g.c p.4 c.children_at.ensures.0 c.records-own.ensures (eqb-false _ 30 (sym c.is_kind_at.ensures ∙ c.if-not-is_kind_at.true))

pub entries-transform_decorators_of_parameters-requires : goal.entries-transform_decorators_of_parameters-requires
entries-transform_decorators_of_parameters-requires t c =
    let g = c.args in
    let p = c.requires in
    let w = p.0.ready.whole in
    let e = eqb-true _ 30 (sym c.is_kind_at.ensures ∙ c.if-not-is_kind_at.false) in
    let k = c.count_records-key.ensures in
    let r = c.count_records-key.result in
    let t = method_fit g.ws.now w g.w.at p.2 g.a g.w.state g.c p.4 c.children_at.ensures.0 c.records-own.ensures e k in (
      omega (arith, counts_on k, parameters_place g.ws.now w g.w.at p.2 g.a g.w.state g.c p.4 e k),
      (
        asks_parameters g.ws.now w g.w.at p.2 g.a g.w.state g.c p.4 e k p.0 c.records-own.result.pos (size (of_parameters 0 (kids_here g.ws.now r.at g.a r.state))) (omega (arith, t, p.0.fit)),
        emit_few g.ws.now (g.w.at + 2) g.a g.w.state g.c c.records-own.ensures p.1,
        parameters_place g.ws.now w g.w.at p.2 g.a g.w.state g.c p.4 e k,
        parameters_kind g.ws.now w g.w.at p.2 g.a g.w.state g.c p.4 e k,
      ),
    )

-- the first constructor
first_entries_first : (t : ℕ) (c : first_entries-Else-k-j t) → FirstAt c.args.ws.now c.args.w.at c.first_constructor-j.result
first_entries_first t c = first_at c.args.ws.now c.args.w.at c.children_at-k.result c.first_constructor-j.result c.children_at-k.ensures.0 (first_kids c.args.w.at c.children.ensures.0 c.children.ensures.1 c.children_at-k.ensures.0 c.first_constructor-j.ensures) c.if-k-j.false

pub first_entries-count_records-f-requires : goal.first_entries-count_records-f-requires
first_entries-count_records-f-requires t c =
    let p = c.requires in
    let k = asks_kids p.0 0 0 refl p.2 (omega arith) in
    (k.ready, k.noted)

pub first_entries-count_records-h-requires : goal.first_entries-count_records-h-requires
first_entries-count_records-h-requires t c =
    let p = c.requires in
    let n = first_entries_first t (goal.at.first_entries-count_records-h-requires t c).Else-k-j in
    let k = entries_kids c.args.g c.args.w.state p.0 p.2 p.3 c.first_constructor-j.result n c.count_records-f.ensures 0 0 (omega arith) in
    (k.ready, k.noted)

pub first_entries-overflow_add-f : goal.first_entries-overflow_add-f
first_entries-overflow_add-f t c =
    let p = c.requires in
    let n = first_entries_first t (goal.at.first_entries-overflow_add-f t c).Else-k-j in
    omega (arith, c.count_records-f.ensures.place, n.inside, p.0.ready.few)

pub first_entries-returns : goal.first_entries-returns
first_entries-returns t c =
    let p = c.requires in
    let n = first_entries_first t (goal.at.first_entries-returns t c).Else-k-j in
    let e = c.transform_decorators_of_parameters.ensures in
    entries_wrote c.args.g c.args.w.state p.0 p.2 p.3 c.first_constructor-j.result n c.count_records-f.ensures c.count_records-h.ensures c.args.w.count e.0 e.1

pub first_entries-returns-then-k-j : goal.first_entries-returns-then-k-j
first_entries-returns-then-k-j t c =
    let p = c.requires in
    let n = no_constructor c.args.ws.now c.args.w.at c.children_at-k.result c.first_constructor-j.result c.children_at-k.ensures.0 (first_kids c.args.w.at c.children.ensures.0 c.children.ensures.1 c.children_at-k.ensures.0 c.first_constructor-j.ensures) c.if-k-j.true in
    entries_none c.args.g c.args.w.state p.0 p.2 p.3 n c.args.out.now c.args.w.count

pub first_entries-transform_decorators_of_parameters-requires : goal.first_entries-transform_decorators_of_parameters-requires
first_entries-transform_decorators_of_parameters-requires t c =
    let p = c.requires in
    let n = first_entries_first t (goal.at.first_entries-transform_decorators_of_parameters-requires t c).Else-k-j in
    let i = entries_inside c.args.g c.args.w.state p.0 p.2 p.3 c.first_constructor-j.result n c.count_records-f.ensures c.count_records-h.ensures in (
      omega (arith, p.2, counts_on c.count_records-f.ensures, counts_on c.count_records-h.ensures),
      (entries_asks c.args.g c.args.w.state p.0 p.2 p.3 c.first_constructor-j.result n c.count_records-f.ensures c.count_records-h.ensures, p.1, i.0, i.1),
    )

pub indexed-count_record-whole-requires : goal.indexed-count_record-whole-requires
indexed-count_record-whole-requires t c = (c.requires.0.ready, c.requires.0.noted, c.requires.2, ap is_walked c.requires.3 ∙ (unfold is_walked in refl))

pub indexed-loop-init : goal.indexed-loop-init
indexed-loop-init t c =
    let g = c.args in
    give_none (λ _. indexed' g.j) (λ _. indexed_none g.j) (λ _. indexed_append g.j) g.ws.now (g.w.at + 2) g.a g.w.state g.c g.out.now g.w.pos g.w.count

pub indexed-loop-preserved : goal.indexed-loop-preserved
indexed-loop-preserved t c =
    let g = c.args in
    let l = c.loop in
    let p = c.requires in
    let x = l.invariant in
    let b : l.counter < arity_at g.ws.now (g.w.at + 1) = omega (arith, c.children_at-k.ensures.0) in
    let m = parameter_marked g.ws.now g.w.at p.0.ready.whole p.2 p.3 in
    let z = give_decorator g.ws.now p.0.ready.whole g.c g.w.at l.counter l.v.at m b x.moved.place g.j g.a l.v.state c.put.ensures c.records-v.ensures in
    give_add (λ _. indexed' g.j) (λ _. indexed_none g.j) (λ _. indexed_append g.j) g.ws.now (g.w.at + 2) g.a g.w.state g.c l.counter x z

pub indexed-put-requires : goal.indexed-put-requires
indexed-put-requires t c =
    let g = c.args in
    let l = c.loop in
    let p = c.requires in
    let x = l.invariant in
    let b : l.counter < arity_at g.ws.now (g.w.at + 1) = omega (arith, c.children_at-k.ensures.0) in
    let t = decorator_fit p.0 p.2 g.a g.w.state refl l.counter p.3 g.j b refl x in
    (omega (arith, t, p.0.fit), p.4)

pub indexed-records-v-requires : goal.indexed-records-v-requires
indexed-records-v-requires t c =
    let g = c.args in
    let l = c.loop in
    let p = c.requires in
    let x = l.invariant in
    let b : l.counter < arity_at g.ws.now (g.w.at + 1) = omega (arith, c.children_at-k.ensures.0) in
    let t = decorator_asks p.0 p.2 g.a g.w.state refl l.counter p.3 g.j b refl x c.put.result c.put.ensures.end in
    let low = end_low g.ws.now (g.w.at + 2) l.counter in
    (omega (arith, t.1, x.moved.place, low), (t.0, omega (arith, give_few (λ _. indexed' g.j) (λ _. indexed_none g.j) (λ _. indexed_append g.j) g.ws.now (g.w.at + 2) g.a g.w.state g.c l.counter x p.1, c.put.ensures.end), omega (arith, x.moved.place, low)))

pub indexed-returns : goal.indexed-returns
indexed-returns t c =
    let g = c.args in
    let l = c.loop in
    let e : l.counter ≡ c.children_at-k.result = omega arith in
    decorators_done g.ws.now g.w.at g.a g.w.state g.c g.j (e ∙ c.children_at-k.ensures.0) l.invariant c.count_record-whole.ensures

pub kept-copied-requires : goal.kept-copied-requires
kept-copied-requires t c =
    let g = c.args in
    let l = c.loop-k in
    let f = keeping_asks l.invariant.2 c.loop-k-test.true in
    copies g.a l.v.state f c.if-ws-at.false _ (note_at _ _ _ f.noted c.if-ws-at.false) c.if-noted.true

pub kept-loop-k-init : goal.kept-loop-k-init
kept-loop-k-init t c =
    let g = c.args in
    let f = c.requires in
    (refl, omega (arith, c.requires.1, c.put_word.ensures.end), keeping_start g.a g.w.state f.2 f.0 c.put_word.ensures c.children_at-k.ensures.0 c.children_at-k.ensures.1)

pub kept-loop-k-preserved : goal.kept-loop-k-preserved
kept-loop-k-preserved t c =
    let l = c.loop-k in
    (c.record-v.auto.out ∙ l.invariant.0, emit_few c.args.ws.now l.v.at c.args.a l.v.state c.args.c c.record-v.ensures l.invariant.1, keeping_one l.invariant.2 c.record-v.result c.loop-k-test.true c.record-v.ensures refl)

pub kept-loop-k-preserved-then-is_kept : goal.kept-loop-k-preserved-then-is_kept
kept-loop-k-preserved-then-is_kept t c =
    let l = c.loop-k in
    (c.put_word-then-is_kept.auto.out ∙ l.invariant.0, omega (arith, l.invariant.1, c.put_word-then-is_kept.ensures.end), keeping_kept l.invariant.2 c.loop-k-test.true (c.is_kept.ensures c.if-is_kept.true) (word_kind c.args.ws.now l.v.at c.word_at-then-is_kept.ensures) (word_payload c.args.ws.now l.v.at c.word_at-then-is_kept.ensures) c.put_word-then-is_kept.ensures c.children_at.ensures.0 c.children_at.ensures.1 refl)

pub kept-loop-k-preserved-then-noted : goal.kept-loop-k-preserved-then-noted
kept-loop-k-preserved-then-noted t c =
    let g = c.args in
    let l = c.loop-k in
    let f = keeping_asks l.invariant.2 c.loop-k-test.true in
    let y = copied_emits g.a l.v.state f c.if-ws-at.false _ (note_at _ _ _ f.noted c.if-ws-at.false) c.if-noted.true {m = l.v.count} c.copied.ensures in
    (c.copied.auto.out ∙ l.invariant.0, omega (arith, l.invariant.1, c.copied.ensures.end), keeping_one l.invariant.2 _ c.loop-k-test.true y refl)

pub kept-loop-k-smaller : goal.kept-loop-k-smaller
kept-loop-k-smaller t c =
    let g = c.args in
    let l = c.loop-k in
    omega (arith, c.if-ws-at.false, c.record-v.ensures.moved.place, end_one g.ws.now l.v.at (omega (arith, c.if-ws-at.false)), end_low g.ws.now (l.v.at + 1) (arity_at g.ws.now l.v.at))

pub kept-loop-k-smaller-then-noted : goal.kept-loop-k-smaller-then-noted
kept-loop-k-smaller-then-noted t c =
    let g = c.args in
    let l = c.loop-k in
    let f = keeping_asks l.invariant.2 c.loop-k-test.true in
    omega (arith, c.if-ws-at.false, (note_at _ _ _ f.noted c.if-ws-at.false).place, end_one g.ws.now l.v.at c.if-ws-at.false, end_low g.ws.now (l.v.at + 1) (arity_at g.ws.now l.v.at))

pub kept-record-v-requires : goal.kept-record-v-requires
kept-record-v-requires t c =
    let l = c.loop-k in
    let f = keeping_asks l.invariant.2 c.loop-k-test.true in
    (omega (arith, l.invariant.2.later, c.if-ws-at.false), (f, l.invariant.1, omega (arith, c.if-ws-at.false), omega (arith, l.invariant.2.later)))

pub kept-returns : goal.kept-returns
kept-returns t c =
    let g = c.args in
    let f = c.requires in
    emit_kept g.ws.now g.w.at g.a g.w.state g.c f.2 (kind_of c.word_at.result) (payload_of c.word_at.result) c.children_at-k.result (word_kind g.ws.now g.w.at c.word_at.ensures) (word_payload g.ws.now g.w.at c.word_at.ensures) c.children_at-k.ensures.0 c.put_word.ensures (keeping_all c.loop-k.invariant.2 (omega (arith, c.loop-k-test.false)) c.loop-k.v.count)

pub kept-returns-then-ws-at : goal.kept-returns-then-ws-at
kept-returns-then-ws-at t c =
    let g = c.args in
    let f = c.requires in
    emit_kept g.ws.now g.w.at g.a g.w.state g.c f.2 (kind_of c.word_at.result) (payload_of c.word_at.result) c.children_at-k.result (word_kind g.ws.now g.w.at c.word_at.ensures) (word_payload g.ws.now g.w.at c.word_at.ensures) c.children_at-k.ensures.0 c.put_word.ensures (keeping_past c.loop-k.invariant.2 c.if-ws-at.true c.loop-k.v.count)

-- a list's statements are few enough for a payload
counted_few : (t : ℕ) (c : list-After-records-r t) → c.records-r.result.count < 67108864
counted_few t c =
    let g = c.args in
    let f = c.requires in
    omega (arith, f.0.fit, c.records-r.ensures.number, ap (λ (j : ℕ). size (here_at g.ws.now (g.w.at + 1) j g.a g.w.state)) c.children_at.ensures.0, count_size (here_at g.ws.now (g.w.at + 1) c.children_at.result g.a g.w.state), list_size g.ws.now g.w.at g.a g.w.state g.c f.2 f.3)

pub list-word_of-counted-requires : goal.list-word_of-counted-requires
list-word_of-counted-requires t c = (omega (arith, c.kind_of.ensures, kind_lt c.word_at.result (omega arith)), counted_few t (goal.at.list-word_of-counted-requires t c).After-records-r)

pub list-records-r-requires : goal.list-records-r-requires
list-records-r-requires t c =
    let g = c.args in
    let f = c.requires in
    let n = c.children_at.ensures.0 in (
      omega (arith, f.2),
      (
        subst (λ (j : ℕ). Asks g.ws.now g.notes.now (g.w.at + 1) j g.w.state.next g.c (g.w.pos + 1) (size (here_at g.ws.now (g.w.at + 1) j g.a g.w.state))) (sym n)
            (asks_kids f.0 (g.w.pos + 1) (size (here_at g.ws.now (g.w.at + 1) (arity_at g.ws.now g.w.at) g.a g.w.state)) refl f.2 (omega (arith, f.0.fit, list_size g.ws.now g.w.at g.a g.w.state g.c f.2 f.3))),
        omega arith,
        omega arith,
      ),
    )

pub list-returns : goal.list-returns
list-returns t c =
    let g = c.args in
    let f = c.requires in
    emit_list g.ws.now g.w.at g.a g.w.state g.c f.2 c.kind_of.result c.children_at.result f.3 (c.kind_of.ensures ∙ word_kind g.ws.now g.w.at c.word_at.ensures) c.children_at.ensures.0 c.records-r.ensures
    (wrote_made g.c _ c.records-r.result.count c.word_of-counted.ensures (counted_few t (goal.at.list-returns t c).After-records-r) c.put_word.ensures)

pub member-count_record-d-requires : goal.member-count_record-d-requires
member-count_record-d-requires t c =
    let p = c.requires in
    (ready_next p.0.ready p.2, noted_next p.0, (element_keyed _ _ p.0.ready.whole p.2 p.3).marked.place, ap is_walked (element_keyed _ _ p.0.ready.whole p.2 p.3).marked.kind ∙ (unfold is_walked in refl))

pub member-count_record-whole-requires : goal.member-count_record-whole-requires
member-count_record-whole-requires t c = (c.requires.0.ready, c.requires.0.noted, c.requires.2, element_single _ c.requires.3)

pub member-key_assignment-p3-requires : goal.member-key_assignment-p3-requires
member-key_assignment-p3-requires t c =
    let p = c.requires in
    let x = c.count_record-whole.ensures in
    (omega (arith, p.0.fit, member_length p.0 p.2 p.3 x, c.put_word-p1.ensures.end, c.put-p2.ensures.end), omega (arith, (ready_behind p.0.ready x).room), key_least p.0 p.2 p.3 x, p.0.ready.planned, p.2, p.3, omega (arith, p.2, p.0.ready.few))

-- what stands behind the key of a member: what its walkers ask
member_behind : (t : ℕ) (c : member-After-key_assignment-p3 t) → Asks c.args.ws.now c.args.notes.now c.args.w.at 1 c.args.w.state.next c.args.c c.key_assignment-p3.result (length (behind_words c.args.ws.now c.args.w.at c.args.a c.args.w.state c.args.c))
member_behind t c =
    let p = c.requires in
    asks_words p.0 c.key_assignment-p3.result _ (omega (arith, p.0.fit, member_length p.0 p.2 p.3 c.count_record-whole.ensures, c.put_word-p1.ensures.end, c.put-p2.ensures.end, c.key_assignment-p3.ensures.end))

pub member-overflow_sub-n : goal.member-overflow_sub-n
member-overflow_sub-n t c =
    let p = c.requires in
    omega (arith, c.children_at-n.ensures.0, (element_keyed _ _ p.0.ready.whole p.2 p.3).marked.count)

pub member-overflow_sub-n-2 : goal.member-overflow_sub-n-2
member-overflow_sub-n-2 t c =
    let g = c.args in
    let p = c.requires in
    let x = c.count_record-d.ensures in
    let b = member_behind t (goal.at.member-overflow_sub-n-2 t c).After-key_assignment-p3 in
    let k : (label_at g.ws.now g.w.at).kind ≡ 30 = eqb-true _ 30 (sym c.is_kind_at.ensures ∙ c.if-not-is_kind_at.false) in
    omega (arith, method_three g.ws.now g.w.at g.a g.w.state g.c x _ c.children_at-n.ensures.0 k b p.2)

pub member-parameters-q-requires : goal.member-parameters-q-requires
member-parameters-q-requires t c =
    let g = c.args in
    let p = c.requires in
    let x = c.count_record-d.ensures in
    let b = member_behind t (goal.at.member-parameters-q-requires t c).After-key_assignment-p3 in
    let k = eqb-true _ 30 (sym c.is_kind_at.ensures ∙ c.if-not-is_kind_at.false) in
    let y = c.records-key.ensures in
    let h = called_place g.ws.now g.w.at g.a g.w.state g.c x _ c.children_at-n.ensures.0 k b p.2 y in
    (omega (arith, p.2, counts_on x, called_on g.ws.now g.w.at g.a g.w.state g.c x _ c.children_at-n.ensures.0 k b p.2 y), (asks_called g.ws.now g.w.at g.a g.w.state g.c x _ c.children_at-n.ensures.0 k b p.2 y, h.0, h.1))

pub member-records-key-requires : goal.member-records-key-requires
member-records-key-requires t c =
    let g = c.args in
    let p = c.requires in
    let x = c.count_record-d.ensures in
    let b = member_behind t (goal.at.member-records-key-requires t c).After-key_assignment-p3 in
    let k = eqb-true _ 30 (sym c.is_kind_at.ensures ∙ c.if-not-is_kind_at.false) in
    (omega (arith, p.2, counts_on x), (asks_key g.ws.now g.w.at g.a g.w.state g.c x _ c.children_at-n.ensures.0 k b p.2, omega arith, omega (arith, p.2, counts_on x)))

pub member-records-r-requires : goal.member-records-r-requires
member-records-r-requires t c =
    let g = c.args in
    let p = c.requires in
    let x = c.count_record-d.ensures in
    let b = member_behind t (goal.at.member-records-r-requires t c).After-key_assignment-p3 in
    let y = (element_keyed _ _ p.0.ready.whole p.2 p.3).marked.count in
    (omega (arith, p.2, counts_on x), (asks_field g.ws.now g.w.at g.a g.w.state g.c x _ c.children_at-n.ensures.0 b p.2 (eqb-false _ 30 (sym c.is_kind_at.ensures ∙ c.if-not-is_kind_at.true)) (omega (arith, c.children_at-n.ensures.0, y)), omega arith, omega (arith, p.2, counts_on x)))

pub member-records-r-requires-2 : goal.member-records-r-requires-2
member-records-r-requires-2 t c =
    let g = c.args in
    let p = c.requires in
    let x = c.count_record-d.ensures in
    let b = member_behind t (goal.at.member-records-r-requires-2 t c).After-key_assignment-p3 in
    let k = eqb-true _ 30 (sym c.is_kind_at.ensures ∙ c.if-not-is_kind_at.false) in
    let y = c.records-key.ensures in
    let z = c.parameters-q.ensures in
    let on = rest_on g.ws.now g.w.at g.a g.w.state g.c x _ c.children_at-n.ensures.0 k b p.2 y z in
    (omega (arith, p.2, counts_on x, on), (asks_rest g.ws.now g.w.at g.a g.w.state g.c x _ c.children_at-n.ensures.0 k b p.2 y z, omega arith, omega (arith, p.2, counts_on x, on)))

pub member-returns : goal.member-returns
member-returns t c =
    let g = c.args in
    let p = c.requires in
    let x = c.count_record-d.ensures in
    let b = member_behind t (goal.at.member-returns t c).After-key_assignment-p3 in
    let k = eqb-true _ 30 (sym c.is_kind_at.ensures ∙ c.if-not-is_kind_at.false) in
    (moved_member p.0 p.2 p.3 c.count_record-whole.ensures _ _ _ _ (word_kind g.ws.now g.w.at c.word_at.ensures) (word_payload g.ws.now g.w.at c.word_at.ensures) c.put_word-p1.ensures c.put-p2.ensures c.key_assignment-p3.ensures (wrote_method g.ws.now g.w.at g.a g.w.state g.c x _ c.children_at-n.ensures.0 k b p.2 c.records-key.ensures c.parameters-q.ensures c.records-r-2.ensures), refl)

pub member-returns-then-not-is_kind_at : goal.member-returns-then-not-is_kind_at
member-returns-then-not-is_kind_at t c =
    let g = c.args in
    let p = c.requires in
    let x = c.count_record-d.ensures in
    (moved_member p.0 p.2 p.3 c.count_record-whole.ensures _ _ _ _ (word_kind g.ws.now g.w.at c.word_at.ensures) (word_payload g.ws.now g.w.at c.word_at.ensures) c.put_word-p1.ensures c.put-p2.ensures c.key_assignment-p3.ensures (wrote_field g.ws.now g.w.at g.a g.w.state g.c x _ c.children_at-n.ensures.0 (eqb-false _ 30 (sym c.is_kind_at.ensures ∙ c.if-not-is_kind_at.true)) c.records-r.ensures), refl)

-- the parameter of a round of `parameters`
parameters_round : (t : ℕ) (c : parameters-In-loop t) → ParameterHere c.args.ws.now c.args.notes.now c.loop.v.at c.args.a c.loop.v.state c.args.c c.loop.v.pos
parameters_round t c =
    let g = c.args in
    let p = c.requires in
    let l = c.loop in
    let x = l.invariant in
    let b : l.counter < arity_at g.ws.now g.w.at = omega (arith, c.children_at-k.ensures.0) in
    let h = parameter_place g.ws.now g.w.at g.a g.w.state g.c p.0 p.1 l.counter _ x p.2 b in
    record {
      inside = h.0;
      kind = h.1;
      marked = parameter_marked _ _ p.0.ready.whole h.0 h.1;
      asks = asks_parameter g.ws.now g.w.at g.a g.w.state g.c p.0 p.1 l.counter _ x b c.put.ensures.end;
    }

pub parameters-count_record-d-requires : goal.parameters-count_record-d-requires
parameters-count_record-d-requires t c =
    let u = parameters_round t (goal.at.parameters-count_record-d-requires t c).In-loop in
    (ready_next u.asks.ready u.inside, noted_next u.asks, u.marked.place, ap is_walked u.marked.kind ∙ (unfold is_walked in refl))

pub parameters-loop-init : goal.parameters-loop-init
parameters-loop-init t c =
    let g = c.args in
    bared_none g.ws.now (g.w.at + 1) g.a g.w.state g.c _ _ _

pub parameters-loop-preserved : goal.parameters-loop-preserved
parameters-loop-preserved t c =
    let g = c.args in
    let l = c.loop in
    let u = parameters_round t (goal.at.parameters-loop-preserved t c).In-loop in
    let y = moved_parameter g.ws.now l.v.at g.a l.v.state g.c u.asks.ready.whole u.inside u.kind c.count_record-d.ensures _ c.children_at-n.ensures.0 _ c.payload_at-in-loop.ensures.0 c.put-p1.ensures c.put-p2.ensures c.records-v.ensures in
    bared_add g.ws.now (g.w.at + 1) g.a g.w.state g.c l.counter 1 l.invariant y

pub parameters-overflow_add-v-in-loop : goal.parameters-overflow_add-v-in-loop
parameters-overflow_add-v-in-loop t c =
    let u = parameters_round t (goal.at.parameters-overflow_add-v-in-loop t c).In-loop in
    omega (arith, u.inside, u.asks.ready.few)

pub parameters-overflow_sub-n : goal.parameters-overflow_sub-n
parameters-overflow_sub-n t c =
    let u = parameters_round t (goal.at.parameters-overflow_sub-n t c).In-loop in
    omega (arith, c.children_at-n.ensures.0, u.marked.count)

pub parameters-put-p1-requires : goal.parameters-put-p1-requires
parameters-put-p1-requires t c =
    let u = parameters_round t (goal.at.parameters-put-p1-requires t c).In-loop in
    (omega (arith, u.asks.fit), c.payload_at-in-loop.ensures.1)

pub parameters-put-p2-requires : goal.parameters-put-p2-requires
parameters-put-p2-requires t c =
    let g = c.args in
    let l = c.loop in
    let u = parameters_round t (goal.at.parameters-put-p2-requires t c).In-loop in
    (omega (arith, parameter_room g.ws.now l.v.at g.a l.v.state g.c u.asks.ready.whole u.inside u.kind c.count_record-d.ensures _ refl u.asks, c.put-p1.ensures.end), omega arith)

pub parameters-records-v-requires : goal.parameters-records-v-requires
parameters-records-v-requires t c =
    let g = c.args in
    let l = c.loop in
    let u = parameters_round t (goal.at.parameters-records-v-requires t c).In-loop in
    let d = c.count_record-d.ensures in
    (omega (arith, u.inside, counts_on d, l.invariant.place, end_low g.ws.now (g.w.at + 1) l.counter), (asks_value g.ws.now l.v.at g.a l.v.state g.c u.asks.ready.whole u.inside u.kind d _ c.children_at-n.ensures.0 u.asks c.put-p1.ensures c.put-p2.ensures, omega arith, omega (arith, counts_on d)))

pub parameters-returns : goal.parameters-returns
parameters-returns t c =
    let g = c.args in
    let p = c.requires in
    let l = c.loop in
    moved_parameters g.ws.now g.w.at g.a g.w.state g.c p.0 p.1 l.counter _ l.invariant _ p.2 (omega (arith, c.children_at-k.ensures.0)) c.payload_at.ensures.0 c.put.ensures

-- `queue` finds the body, and the state in front of it
queue_body : (t : ℕ) (c : queue-After-count_records-own t) → (c.count_records-own.result.at ≡ body_at c.args.ws.now c.args.at) × (c.count_records-own.result.state ≡ at_body c.args.ws.now c.args.at c.args.n)
queue_body t c =
    let p = c.requires in
    let y = c.count_records-own.ensures in
    (queue_place p.0 p.1 p.2 p.4 c.children_at.ensures.0 y, queue_state p.0 p.1 p.2 p.4 c.children_at.ensures.0 y)

pub queue-calls-r-requires : goal.queue-calls-r-requires
queue-calls-r-requires t c =
    let p = c.requires in
    let u = queue_body t (goal.at.queue-calls-r-requires t c).After-count_records-own in
    let n = c.children_at-2.ensures.0 in (
      omega (arith, p.1, body_later p.0 p.1 p.2 p.4 _ _ u.0 u.1),
      (
        queue_calls p.0 p.1 p.2 p.4 c.if-g.false _ _ u.0 u.1 c.children_at-2.result n,
        omega arith,
        body_fits c.args.ws.now p.0.ready.whole _ c.children_at-2.result (body_inside p.0 p.1 p.2 p.4 _ _ u.0 u.1) (body_is p.0 p.1 p.2 p.4 _ _ u.0 u.1) n,
        refl,
        body_id p.0 p.1 p.2 p.4 _ _ u.0 u.1,
        body_default p.0 p.1 p.2 p.4 _ _ u.0 u.1,
      ),
    )

pub queue-count_records-own-requires : goal.queue-count_records-own-requires
queue-count_records-own-requires t c =
    let p = c.requires in
    let k = inside_asks p.0 p.1 p.2 0 0 (omega arith) in
    (k.ready, k.noted)

pub queue-create_assignment-p-requires : goal.queue-create_assignment-p-requires
queue-create_assignment-p-requires t c =
    let p = c.requires in
    let u = queue_body t (goal.at.queue-create_assignment-p-requires t c).After-count_records-own in
    (omega (arith), (queue_assignment p.0 p.1 p.2 p.4 c.if-g.false _ _ u.0 u.1 c.children_at-2.result c.children_at-2.ensures.0 c.calls-r.ensures c.in-Some.outer c.in-Some.is, p.1, p.2, p.3, p.4, c.in-Some.is, u.0, u.1))

pub queue-create_export-requires : goal.queue-create_export-requires
queue-create_export-requires t c =
    let p = c.requires in
    let u = queue_body t (goal.at.queue-create_export-requires t c).After-count_records-own in (
      omega (arith, assignment_end p.0 p.1 p.2 p.4 c.if-g.false _ _ u.0 u.1 c.children_at-2.result c.children_at-2.ensures.0 c.calls-r.ensures c.in-Some.outer c.in-Some.is c.create_assignment-p.ensures),
      subst Small c.in-Some.is p.4.symbols.sizes.1,
    )

pub queue-overflow_add-result : goal.queue-overflow_add-result
queue-overflow_add-result t c =
    let p = c.requires in
    let u = queue_body t (goal.at.queue-overflow_add-result t c).After-count_records-own in
    omega (arith, calls_few p.0 p.1 p.2 p.4 c.if-g.false _ _ u.0 u.1 c.children_at-2.result c.children_at-2.ensures.0 c.calls-r.ensures c.in-Some.outer c.in-Some.is)

pub queue-overflow_add-result-2 : goal.queue-overflow_add-result-2
queue-overflow_add-result-2 t c =
    let p = c.requires in
    let u = queue_body t (goal.at.queue-overflow_add-result-2 t c).After-count_records-own in
    omega (arith, calls_few p.0 p.1 p.2 p.4 c.if-g.false _ _ u.0 u.1 c.children_at-2.result c.children_at-2.ensures.0 c.calls-r.ensures c.in-Some.outer c.in-Some.is, c.from.ensures, bit_le (not (eqb c.payload_at-x.result 0)))

pub queue-overflow_add-v : goal.queue-overflow_add-v
queue-overflow_add-v t c =
    let p = c.requires in
    let u = queue_body t (goal.at.queue-overflow_add-v t c).After-count_records-own in
    omega (arith, body_inside p.0 p.1 p.2 p.4 _ _ u.0 u.1, p.0.ready.few)

pub queue-overflow_sub-children_at : goal.queue-overflow_sub-children_at
queue-overflow_sub-children_at t c =
    let p = c.requires in
    omega (arith, c.children_at.ensures.0, class_parts_lem p.0 p.1 p.2)

pub queue-returns : goal.queue-returns
queue-returns t c =
    let p = c.requires in
    let u = queue_body t (goal.at.queue-returns t c).After-count_records-own in
    queue_wrote p.0 p.1 p.2 p.4 c.if-g.false _ _ u.0 u.1 c.children_at-2.result c.children_at-2.ensures.0 c.calls-r.ensures c.in-Some.outer c.in-Some.is c.create_assignment-p.ensures c.payload_at-x.result c.payload_at-x.ensures.0 c.create_export.ensures c.from.ensures

pub queue-returns-in_default : goal.queue-returns-in_default
queue-returns-in_default t c =
    let p = c.requires in
    let u = queue_body t (goal.at.queue-returns-in_default t c).After-count_records-own in
    queue_plain p.0 p.1 p.2 p.4 c.if-g.false _ _ u.0 u.1 c.children_at-2.result c.children_at-2.ensures.0 c.calls-r.ensures c.in_default.is

pub queue-returns-then-g : goal.queue-returns-then-g
queue-returns-then-g t c =
    let p = c.requires in
    queue_silent p.0 p.1 p.2 p.4 c.if-g.true c.args.out.now

pub record-member-requires : goal.record-member-requires
record-member-requires t c =
    let g = c.args in
    let f = c.requires in
    let d = subst (SortAt g.ws.now g.w.at) c.in-Member.is c.sort_at.ensures in
    (omega (arith), (asks_words f.0 g.w.pos (length (member_words g.ws.now g.w.at g.a g.w.state g.c)) (omega (arith, f.0.fit, member_size g.ws.now g.w.at g.a g.w.state g.c f.2 f.0.ready.whole (decorated_member _ _ d))), f.1, f.2, decorated_kind _ _ d))

pub record-returns-in-Member : goal.record-returns-in-Member
record-returns-in-Member t c =
    let g = c.args in
    let f = c.requires in
    let d = subst (SortAt g.ws.now g.w.at) c.in-Member.is c.sort_at.ensures in
    emit_member g.ws.now g.w.at g.a g.w.state g.c f.2 f.0.ready.whole (decorated_member _ _ d) c.member.ensures.0 c.member.ensures.1

pub records-copied-requires : goal.records-copied-requires
records-copied-requires t c =
    let g = c.args in
    let l = c.loop in
    let f = asks_next g.a g.w.state c.requires.0 l.counter refl (omega arith) l.invariant.2 in
    copies g.a l.v.state f c.if-ws-at.false _ (note_at _ _ _ f.noted c.if-ws-at.false) c.if-note.true

pub records-loop-init : goal.records-loop-init
records-loop-init t c =
    let g = c.args in
    (c.requires.0.ready.inside, refl, emit_none g.ws.now g.w.at g.a g.w.state g.c g.out.now g.w.pos g.w.count)

pub records-loop-preserved : goal.records-loop-preserved
records-loop-preserved t c =
    let g = c.args in
    let l = c.loop in
    let y = c.record-v.ensures in
    (emit_inside g.ws.now l.v.at g.a l.v.state g.c 1 y l.invariant.0, c.record-v.auto.out ∙ l.invariant.1, emit_add g.ws.now g.w.at g.a g.w.state g.c l.counter 1 l.invariant.2 y)

pub records-loop-preserved-then-note : goal.records-loop-preserved-then-note
records-loop-preserved-then-note t c =
    let g = c.args in
    let l = c.loop in
    let f = asks_next g.a g.w.state c.requires.0 l.counter refl (omega arith) l.invariant.2 in
    let y = copied_emits g.a l.v.state f c.if-ws-at.false _ (note_at _ _ _ f.noted c.if-ws-at.false) c.if-note.true c.copied.ensures in
    (emit_inside g.ws.now l.v.at g.a l.v.state g.c 1 y l.invariant.0, c.copied.auto.out ∙ l.invariant.1, emit_add g.ws.now g.w.at g.a g.w.state g.c l.counter 1 l.invariant.2 y)

pub records-overflow_add-v : goal.records-overflow_add-v
records-overflow_add-v t c =
    let g = c.args in
    let l = c.loop in
    let f = asks_next g.a g.w.state c.requires.0 l.counter refl (omega arith) l.invariant.2 in
    omega (arith, f.fit, emit_few g.ws.now g.w.at g.a g.w.state g.c l.invariant.2 c.requires.1)

pub records-record-v-requires : goal.records-record-v-requires
records-record-v-requires t c =
    let g = c.args in
    let l = c.loop in
    let f = asks_next g.a g.w.state c.requires.0 l.counter refl (omega arith) l.invariant.2 in
    let low = end_low g.ws.now g.w.at l.counter in
    (omega (arith, l.invariant.2.moved.place, low, c.if-ws-at.false), (f, emit_few g.ws.now g.w.at g.a g.w.state g.c l.invariant.2 c.requires.1, c.if-ws-at.false, omega (arith, l.invariant.2.moved.place, low, c.requires.2)))

pub records-returns-then-ws-at : goal.records-returns-then-ws-at
records-returns-then-ws-at t c =
    let g = c.args in
    let l = c.loop in
    emit_rest g.ws.now g.w.at g.a g.w.state g.c l.counter g.k (omega arith) l.invariant.2 c.if-ws-at.true

pub statement-count_record-whole-requires : goal.statement-count_record-whole-requires
statement-count_record-whole-requires t c = (c.requires.0.ready, c.requires.0.noted, c.requires.2, ap is_walked c.requires.3 ∙ (unfold is_walked in refl))

pub statement-queue-e-requires : goal.statement-queue-e-requires
statement-queue-e-requires t c =
    let p = c.requires in
    (omega (arith), (statement_queue c.args.a c.args.w.state p.0 p.2 p.3 p.4 c.plan_at-g.ensures c.payload_at.result c.payload_at.ensures.0, p.2, p.3, p.4, c.plan_at-g.ensures))

pub statement-transform_class-p2-requires : goal.statement-transform_class-p2-requires
statement-transform_class-p2-requires t c =
    let p = c.requires in
    (omega (arith), (statement_class c.args.a c.args.w.state p.0 p.2 p.3 p.4 c.plan_at-g.ensures c.payload_at.result c.payload_at.ensures.0 c.class_head-p1.result c.class_head-p1.ensures.end, p.2, p.3, p.4, c.plan_at-g.ensures))

pub statement-overflow_add-result : goal.statement-overflow_add-result
statement-overflow_add-result t c =
    let g = c.args in
    let p = c.requires in
    omega (arith, statement_end g.a g.w.state p.0 p.2 p.3 p.4 c.plan_at-g.ensures c.payload_at.result c.payload_at.ensures.0 c.class_head-p1.result c.transform_class-p2.result c.class_head-p1.ensures.end c.transform_class-p2.ensures.end, c.queue-e.ensures.0.end)

pub statement-overflow_add-result-3 : goal.statement-overflow_add-result-3
statement-overflow_add-result-3 t c =
    let g = c.args in
    let p = c.requires in
    omega (arith, p.0.fit, p.1, statement_few g.a g.w.state p.0 p.2 p.3 p.4 c.plan_at-g.ensures c.payload_at.result c.payload_at.ensures.0, c.queue-e.ensures.1)

pub statement-returns : goal.statement-returns
statement-returns t c =
    let g = c.args in
    let p = c.requires in
    statement_emitted g.a g.w.state p.0 p.2 p.3 p.4 c.plan_at-g.ensures c.payload_at.result c.payload_at.ensures.0 c.count_record-whole.ensures c.class_head-p1.ensures c.transform_class-p2.ensures
    (wrote_behind c.transform_class-p2.new.out c.transform_class-p2.result c.min-l.result c.min-l.ensures {xs = queue_words g.ws.now g.w.at g.w.state.next (word_below g.c)} c.queue-e.ensures.0) c.queue-e.ensures.1

pub transform_class-class_body-requires : goal.transform_class-class_body-requires
transform_class-class_body-requires t c =
    let p = c.requires in
    let y = c.count_records-own.ensures in
    let z = c.records-h.ensures in
    let b = c.records-h.result.at in
    let s = c.records-h.result.state in
    let be = class_place p.0 p.1 p.2 p.4 c.payload_at-p.result c.payload_at-p.ensures.0 c.class_words-p1.ensures y z in
    let se = class_state p.0 p.1 p.2 p.4 c.payload_at-p.result c.payload_at-p.ensures.0 c.class_words-p1.ensures y z in (
      omega (arith, p.1, body_later p.0 p.1 p.2 p.4 b s be se),
      (
        class_body_asks p.0 p.1 p.2 p.4 c.payload_at-p.result c.payload_at-p.ensures.0 c.class_words-p1.ensures y z,
        body_inside p.0 p.1 p.2 p.4 b s be se,
        body_is p.0 p.1 p.2 p.4 b s be se,
        body_deep p.0 p.1 p.2 p.4 b s be se,
        p.4.symbols.sizes.3,
        p.4.symbols.sizes.1,
        count_plan p.4 c.args.c b s be se,
        body_id p.0 p.1 p.2 p.4 b s be se,
        body_default p.0 p.1 p.2 p.4 b s be se,
      ),
    )

pub transform_class-class_words-p1-requires : goal.transform_class-class_words-p1-requires
transform_class-class_words-p1-requires t c =
    let p = c.requires in
    (omega (arith, p.0.fit), omega (arith, c.payload_at-p.ensures.0, few_flags p.0 p.1 p.2), p.4.symbols.sizes.2)

pub transform_class-count_records-own-requires : goal.transform_class-count_records-own-requires
transform_class-count_records-own-requires t c =
    let p = c.requires in
    let k = inside_asks p.0 p.1 p.2 0 0 (omega arith) in
    (k.ready, k.noted)

pub transform_class-records-h-requires : goal.transform_class-records-h-requires
transform_class-records-h-requires t c =
    let p = c.requires in
    let y = c.count_records-own.ensures in
    (omega (arith, p.1, counts_on y), (class_heritage p.0 p.1 p.2 p.4 c.payload_at-p.result c.payload_at-p.ensures.0 c.class_words-p1.ensures y, omega arith, omega (arith, counts_on y)))

pub transform_class-returns : goal.transform_class-returns
transform_class-returns t c =
    let p = c.requires in
    class_wrote p.0 p.1 p.2 p.4 c.payload_at-p.result c.payload_at-p.ensures.0 c.class_words-p1.ensures c.count_records-own.ensures c.records-h.ensures c.class_body.ensures

pub transform_decorators_of_parameters-indexed-v-requires : goal.transform_decorators_of_parameters-indexed-v-requires
transform_decorators_of_parameters-indexed-v-requires t c =
    let g = c.args in
    let l = c.loop-i in
    let p = c.requires in
    let x = l.invariant in
    let y = parameter_asks p.0 p.2 g.a g.w.state refl l.i p.3 (omega (arith, c.children_at-k.ensures.0)) refl x in
    (omega (arith, p.2, x.moved.place, end_low g.ws.now (g.w.at + 1) l.i), (y.0, give_few of_parameters parameters_none parameters_append g.ws.now (g.w.at + 1) g.a g.w.state g.c l.i x p.1, y.1, y.2, y.3))

pub transform_decorators_of_parameters-loop-i-init : goal.transform_decorators_of_parameters-loop-i-init
transform_decorators_of_parameters-loop-i-init t c =
    let g = c.args in
    give_none of_parameters parameters_none parameters_append g.ws.now (g.w.at + 1) g.a g.w.state g.c g.out.now g.w.pos g.w.count

pub transform_decorators_of_parameters-loop-i-preserved : goal.transform_decorators_of_parameters-loop-i-preserved
transform_decorators_of_parameters-loop-i-preserved t c =
    let g = c.args in
    let l = c.loop-i in
    let p = c.requires in
    let x = l.invariant in
    let y = parameter_asks p.0 p.2 g.a g.w.state refl l.i p.3 (omega (arith, c.children_at-k.ensures.0)) refl x in
    let z = give_parameter g.ws.now p.0.ready.whole g.c l.v.at y.1 y.2 l.i g.a l.v.state c.indexed-v.ensures.0 c.indexed-v.ensures.1 in
    give_add of_parameters parameters_none parameters_append g.ws.now (g.w.at + 1) g.a g.w.state g.c l.i x z

pub transform_decorators_of_parameters-returns : goal.transform_decorators_of_parameters-returns
transform_decorators_of_parameters-returns t c =
    let g = c.args in
    let l = c.loop-i in
    let e : l.i ≡ c.children_at-k.result = omega arith in
    parameters_done g.ws.now g.w.at g.a g.w.state g.c (e ∙ c.children_at-k.ensures.0) l.invariant
