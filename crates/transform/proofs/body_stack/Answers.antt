-- `body_stack`: one entry more where the class has an alias.
use native.Mathlib.Omega.{arith}
use Rattle.walk_laws.specs.ClassPlan.{under}
use Rattle.transform.specs.ClassWords.{word_in, body_word}
use Rattle.transform.specs.Leaves.{body_push}
use Rattle.transform.proofs.body_stack.Goals as goal

pub returns-in-Some-Some : goal.returns-in-Some-Some
unfolding body_word word_in
returns-in-Some-Some c =
    let e = c.push.ensures in
    (omega (arith, e.1), λ k p. rw (c.in-Some-Some.is-0, c.in-Some-Some.is-1) (body_push c.args.c c.push.result _ _ e.0 k p))

pub returns-in_default : goal.returns-in_default
unfolding body_word word_in under
returns-in_default c = (omega arith, λ k p. rw (c.in_default.is-0, c.in_default.is-1))

pub returns-in_default-2 : goal.returns-in_default-2
unfolding body_word word_in
returns-in_default-2 c = (omega arith, λ k p. rw c.in_default.is-0)
