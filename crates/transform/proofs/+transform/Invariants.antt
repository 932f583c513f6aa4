use Prim.Native.Nat.{◌+◌, ◌*◌, ◌-◌, ◌≤◌}
use mathlib.Core.Path.{◌≡◌}
use lib.ListN.{length}
use Rattle.rewriting.specs.Parts.{indexed as indexed', of_parameters}
use Rattle.transform.specs.Contract.{Emitted, Queues}
use Rattle.transform.specs.StepsKept.{Keeping}
use Rattle.transform.specs.StepsCalls.{Gives}
use Rattle.transform.specs.StepsMembers.{Bared}
use Rattle.transform.proofs.+transform.Given as goal

abbrev pub decreases-calls : goal.decreases-calls
decreases-calls l = 64 * (length l.ws.now - l.w.at) + 39

abbrev pub decreases-class : goal.decreases-class
decreases-class l = 64 * (length l.ws.now - l.w.at) + 11

abbrev pub decreases-class_body : goal.decreases-class_body
decreases-class_body l = 64 * (length l.ws.now - l.w.at) + 22

abbrev pub decreases-create_assignment : goal.decreases-create_assignment
decreases-create_assignment l = 64 * (length l.ws.now - l.at) + 23

abbrev pub decreases-elements : goal.decreases-elements
decreases-elements l = 64 * (length l.ws.now - l.w.at) + 21

abbrev pub decreases-entries : goal.decreases-entries
decreases-entries l = 64 * (length l.ws.now - l.w.at) + 19

abbrev pub decreases-first_entries : goal.decreases-first_entries
decreases-first_entries l = 64 * (length l.ws.now - l.w.at) + 20

abbrev pub decreases-indexed : goal.decreases-indexed
decreases-indexed l = 64 * (length l.ws.now - l.w.at) + 27

abbrev pub decreases-kept : goal.decreases-kept
decreases-kept l = 64 * (length l.ws.now - l.w.at) + 10

abbrev pub decreases-list : goal.decreases-list
decreases-list l = 64 * (length l.ws.now - l.w.at) + 10

abbrev pub decreases-member : goal.decreases-member
decreases-member l = 64 * (length l.ws.now - l.w.at) + 20

abbrev pub decreases-parameters : goal.decreases-parameters
decreases-parameters l = 64 * (length l.ws.now - l.w.at) + 28

abbrev pub decreases-queue : goal.decreases-queue
decreases-queue l = 64 * (length l.ws.now - l.at) + 24

abbrev pub decreases-record : goal.decreases-record
decreases-record l = 64 * (length l.ws.now - l.w.at) + 30

abbrev pub decreases-records : goal.decreases-records
decreases-records l = 64 * (length l.ws.now - l.w.at) + 40

abbrev pub decreases-statement : goal.decreases-statement
decreases-statement l = 64 * (length l.ws.now - l.w.at) + 25

abbrev pub decreases-transform_class : goal.decreases-transform_class
decreases-transform_class l = 64 * (length l.ws.now - l.at) + 24

abbrev pub decreases-transform_decorators_of_parameters : goal.decreases-transform_decorators_of_parameters
decreases-transform_decorators_of_parameters l = 64 * (length l.ws.now - l.w.at) + 28

abbrev pub invariant-calls-loop : goal.invariant-calls-loop
invariant-calls-loop l = Queues l.ws l.initial.v.at l.counter l.a l.initial.v.state l.c l.initial.out l.initial.v.pos l.initial.v.count l.out l.v

abbrev pub invariant-indexed-loop : goal.invariant-indexed-loop
invariant-indexed-loop l = Gives (indexed' l.j) l.ws l.initial.v.at l.counter l.a l.initial.v.state l.c l.initial.out l.initial.v.pos l.initial.v.count l.out l.v

abbrev pub invariant-kept-loop-k : goal.invariant-kept-loop-k
invariant-kept-loop-k l = (length l.out ≡ length l.initial.out) × (l.v.count ≤ l.v.pos) × Keeping l.ws l.notes l.initial.v.at l.initial.k l.a l.initial.v.state l.c l.initial.out l.initial.v.pos l.v.at l.k l.v.state l.out l.v.pos

abbrev pub decreases-kept-loop-k : goal.decreases-kept-loop-k
decreases-kept-loop-k l = length l.ws - l.v.at

abbrev pub invariant-parameters-loop : goal.invariant-parameters-loop
invariant-parameters-loop l = Bared l.ws l.initial.v.at l.counter l.a l.initial.v.state l.c l.initial.out l.initial.v.pos l.out l.v

abbrev pub invariant-records-loop : goal.invariant-records-loop
invariant-records-loop l = (l.v.at ≤ length l.ws) × (length l.out ≡ length l.initial.out) × Emitted l.ws l.initial.v.at l.counter l.a l.initial.v.state l.c l.initial.out l.initial.v.pos l.initial.v.count l.out l.v

abbrev pub invariant-transform_decorators_of_parameters-loop-i : goal.invariant-transform_decorators_of_parameters-loop-i
invariant-transform_decorators_of_parameters-loop-i l = Gives (of_parameters 0) l.ws l.initial.v.at l.i l.a l.initial.v.state l.c l.initial.out l.initial.v.pos l.initial.v.count l.out l.v
