-- `Rewriting`: turned back, too short, or written; the words are those of `write_module`, and the room is what `has_room` says.
use Rattle.std.proofs.Common.{◌≡◌, List, ℕ, refl, sym, ◌∙◌, length, arith}
use Rattle.std.proofs.lemmas.Result.{err_from_is_err_and}
use borrow.Author.Tests.{leb-true, leb-false}
use Rattle.grammar.specs.declared.Refusal.TheVariants.{OutputTooShort}
use Rattle.rewriting.specs.Answer.{module_words}
use Rattle.rewriting.proofs.Room.{not_turned_back}
use Rattle.rewriter.specs.Numbers.{numbers_of}
use Rattle.rewriter.specs.Start.{ready_at}
use Rattle.rewriter.specs.Result.{written_whole, answer_back, answer_8, lends_back, lends_0, symbols_word}
use Rattle.rewriter.proofs.RewritingJob.run.Goals as goal

abbrev Equal : List ℕ → List ℕ → Type 0
Equal ys xs = ys ≡ xs

pub returns-in_err-turned_back_by-clause-numbers : goal.returns-in_err-turned_back_by-clause-numbers
unfolding numbers_of
returns-in_err-turned_back_by-clause-numbers c =
    let p = err_from_is_err_and c.from_residual.result c.from_residual.ensures.1 in
    rw (p.1, p.2) (answer_back c.args.ws.now (module_words c.args.ws.now) c.args.out.now c.in_err-turned_back_by.field-0.0 c.in_err-turned_back_by.ensures.0)

pub returns-in_err-turned_back_by-clause-lent : goal.returns-in_err-turned_back_by-clause-lent
returns-in_err-turned_back_by-clause-lent c =
    let ws = c.args.ws.now in
    lends_back ws (module_words ws) c.args.out.now Equal refl c.in_err-turned_back_by.field-0.0 (answer_back ws (module_words ws) c.args.out.now _ c.in_err-turned_back_by.ensures.0)

pub find_counts-requires : goal.find_counts-requires
find_counts-requires c =
    let ws = c.args.ws.now in
    ready_at ws (not_turned_back ws (sym c.in_ok-turned_back_by.ensures.0)) _ (c.payload_at.ensures.0 ∙ symbols_word ws) c.in_ok-turned_back_by.ensures.1

pub returns-then-not-has_room-clause-numbers : goal.returns-then-not-has_room-clause-numbers
unfolding numbers_of
returns-then-not-has_room-clause-numbers c =
    let ws = c.args.ws.now in
    answer_8 ws (module_words ws) c.args.out.now (sym c.in_ok-turned_back_by.ensures.0) (leb-false (length (module_words ws)) (length c.args.out.now) (sym c.has_room.ensures ∙ c.if-not-has_room.true))

pub returns-then-not-has_room-clause-lent : goal.returns-then-not-has_room-clause-lent
returns-then-not-has_room-clause-lent c =
    let ws = c.args.ws.now in
    lends_back ws (module_words ws) c.args.out.now Equal refl OutputTooShort (answer_8 ws (module_words ws) c.args.out.now (sym c.in_ok-turned_back_by.ensures.0) (leb-false (length (module_words ws)) (length c.args.out.now) (sym c.has_room.ensures ∙ c.if-not-has_room.true)))

pub overflow_sub-fresh : goal.overflow_sub-fresh
overflow_sub-fresh c = omega (arith, c.write_module-r.ensures.next, c.payload_at-2.ensures.0, symbols_word c.args.ws.now)

pub returns : goal.returns
unfolding numbers_of
returns c =
    let ws = c.args.ws.now in
    let fits = leb-true (length (module_words ws)) (length c.args.out.now) (sym c.has_room.ensures ∙ c.if-not-has_room.false) in
    let w = written_whole ws c.args.out.now c.write_module-r.new.out c.write_module-r.result c.payload_at-2.result (sym c.in_ok-turned_back_by.ensures.0) c.write_module-r.ensures (c.payload_at-2.ensures.0 ∙ symbols_word ws) fits in
    record { numbers = w.0; lent = lends_0 ws (module_words ws) c.args.out.now Equal refl _ _ w.0 w.1 }
