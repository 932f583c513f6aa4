-- `Reporting`: turned back, too short, or written; the words are those of `write_report`, and the room is what `has_room` says.
use Rattle.std.proofs.Common.{sym, ◌∙◌, length, arith}
use Rattle.std.proofs.lemmas.Result.{err_from_is_err_and}
use borrow.Author.Tests.{leb-true, leb-false}
use Rattle.grammar.specs.declared.Refusal.TheVariants.{OutputTooShort}
use Rattle.rewriting.specs.Answer.{report_words, Reordered}
use Rattle.rewriting.proofs.Room.{not_turned_back}
use Rattle.rewriter.specs.Numbers.{numbers_of}
use Rattle.rewriter.specs.Result.{answer_back, answer_8, lends_back, lends_0, symbols_word}
use Rattle.symbol_report.specs.Result.{in_order, report_whole}
use Rattle.symbol_report.proofs.ReportingJob.run.Goals as goal

pub returns-in_err-turned_back_by-clause-numbers : goal.returns-in_err-turned_back_by-clause-numbers
unfolding numbers_of
returns-in_err-turned_back_by-clause-numbers c =
    let p = err_from_is_err_and c.from_residual.result c.from_residual.ensures.1 in
    rw (p.1, p.2) (answer_back c.args.ws.now (report_words c.args.ws.now) c.args.out.now c.in_err-turned_back_by.field-0.0 c.in_err-turned_back_by.ensures.0)

pub returns-in_err-turned_back_by-clause-lent : goal.returns-in_err-turned_back_by-clause-lent
returns-in_err-turned_back_by-clause-lent c =
    let ws = c.args.ws.now in
    lends_back ws (report_words ws) c.args.out.now Reordered (in_order (report_words ws)) c.in_err-turned_back_by.field-0.0 (answer_back ws (report_words ws) c.args.out.now _ c.in_err-turned_back_by.ensures.0)

pub has_room-requires : goal.has_room-requires
has_room-requires c = (not_turned_back c.args.ws.now (sym c.in_ok-turned_back_by.ensures.0), c.in_ok-turned_back_by.ensures.1)

pub returns-then-not-has_room-clause-numbers : goal.returns-then-not-has_room-clause-numbers
unfolding numbers_of
returns-then-not-has_room-clause-numbers c =
    let ws = c.args.ws.now in
    answer_8 ws (report_words ws) c.args.out.now (sym c.in_ok-turned_back_by.ensures.0) (leb-false (length (report_words ws)) (length c.args.out.now) (sym c.has_room.ensures ∙ c.if-not-has_room.true))

pub returns-then-not-has_room-clause-lent : goal.returns-then-not-has_room-clause-lent
returns-then-not-has_room-clause-lent c =
    let ws = c.args.ws.now in
    lends_back ws (report_words ws) c.args.out.now Reordered (in_order (report_words ws)) OutputTooShort (answer_8 ws (report_words ws) c.args.out.now (sym c.in_ok-turned_back_by.ensures.0) (leb-false (length (report_words ws)) (length c.args.out.now) (sym c.has_room.ensures ∙ c.if-not-has_room.true)))

pub overflow_sub-fresh : goal.overflow_sub-fresh
overflow_sub-fresh c = omega (arith, c.write_report-r.ensures.next, c.payload_at.ensures.0, symbols_word c.args.ws.now)

pub returns : goal.returns
unfolding numbers_of
returns c =
    let ws = c.args.ws.now in
    let fits = leb-true (length (report_words ws)) (length c.args.out.now) (sym c.has_room.ensures ∙ c.if-not-has_room.false) in
    let w = report_whole ws c.args.out.now c.write_report-r.new.out c.write_report-r.result c.payload_at.result (sym c.in_ok-turned_back_by.ensures.0) c.write_report-r.ensures (c.payload_at.ensures.0 ∙ symbols_word ws) fits in
    record { numbers = w.0; lent = lends_0 ws (report_words ws) c.args.out.now Reordered (in_order (report_words ws)) _ _ w.0 w.1 }
