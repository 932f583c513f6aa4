-- `write_report`: the walker's answer for the whole module, with the counter at S.
use Rattle.symbol_report.specs.Result.{start_asks, start_reports}
use Rattle.rewriter.specs.Result.{symbols_word}
use Rattle.rewriter.specs.Start.{start_inside}
use mathlib.Core.Path.{◌∙◌}
use Rattle.symbol_report.proofs.write_report.Goals as goal

pub report_record-requires : goal.report_record-requires
report_record-requires c =
    let ws = c.args.ws.now in
    (start_asks ws c.requires.0 c.args.notes.now c.requires.1 c.payload_at-s.result (c.payload_at-s.ensures.0 ∙ symbols_word ws), start_inside ws c.requires.0)

pub returns : goal.returns
returns c =
    let ws = c.args.ws.now in
    start_reports ws c.requires.0 c.payload_at-s.result (c.payload_at-s.ensures.0 ∙ symbols_word ws) c.report_record.ensures
