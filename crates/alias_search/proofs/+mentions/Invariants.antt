use Rattle.alias_search.specs.Walk.{Left}
use Rattle.alias_search.specs.Mentions.{whole, gone, until, each, elements, of_field, of_method}
use Rattle.words.specs.Kinds.{number}
use lib.ListN.{length}
use mathlib.Core.Bool.{cond}
use Prim.Native.Nat.{◌+◌, ◌-◌, ◌*◌}
use Rattle.alias_search.proofs.+mentions.Given as goal

abbrev pub decreases-all_elements : goal.decreases-all_elements
decreases-all_elements l = 16 * (length l.records.words.now - l.records.at) + 5

abbrev pub decreases-bare_method : goal.decreases-bare_method
decreases-bare_method l = 16 * (length l.ws.now - l.at) + 2

abbrev pub decreases-but_first : goal.decreases-but_first
decreases-but_first l = 16 * (length l.records.words.now - l.records.at) + 5

abbrev pub decreases-class_elements : goal.decreases-class_elements
decreases-class_elements l = 16 * (length l.ws.now - l.at) + 1

abbrev pub decreases-class_statement : goal.decreases-class_statement
decreases-class_statement l = 16 * (length l.ws.now - l.at) + 1

abbrev pub decreases-constructor : goal.decreases-constructor
decreases-constructor l = 16 * (length l.ws.now - l.at) + 3

abbrev pub decreases-element : goal.decreases-element
decreases-element l = 16 * (length l.ws.now - l.at) + 1

abbrev pub decreases-elements : goal.decreases-elements
decreases-elements l = 16 * (length l.records.words.now - l.records.at) + 6

abbrev pub decreases-live_class : goal.decreases-live_class
decreases-live_class l = 16 * (length l.ws.now - l.at) + 2

abbrev pub decreases-mentions : goal.decreases-mentions
decreases-mentions l = 16 * (length l.records.words.now - l.records.at) + 5

abbrev pub decreases-mentions_record : goal.decreases-mentions_record
decreases-mentions_record l = 16 * (length l.ws.now - l.at) + 4

abbrev pub decreases-method : goal.decreases-method
decreases-method l = 16 * (length l.ws.now - l.at) + 3

abbrev pub decreases-parameter : goal.decreases-parameter
decreases-parameter l = 16 * (length l.ws.now - l.at) + 1

abbrev pub decreases-parameters : goal.decreases-parameters
decreases-parameters l = 16 * (length l.records.words.now - l.records.at) + 5

abbrev pub invariant-all_elements-loop-q : goal.invariant-all_elements-loop-q
invariant-all_elements-loop-q l = Left l.c (each whole) l.records l.q-iterator

abbrev pub invariant-but_first-loop-q : goal.invariant-but_first-loop-q
invariant-but_first-loop-q l = Left l.c (until (number l.kind) gone) l.initial.records l.records

abbrev pub invariant-elements-loop-q : goal.invariant-elements-loop-q
invariant-elements-loop-q l = Left l.c (elements (cond l.dropped of_method of_field)) l.initial.records l.records

abbrev pub invariant-mentions-loop-q : goal.invariant-mentions-loop-q
invariant-mentions-loop-q l = Left l.c whole l.records l.q-iterator

abbrev pub invariant-parameters-loop-q : goal.invariant-parameters-loop-q
invariant-parameters-loop-q l = Left l.c (each of_field) l.records l.q-iterator
