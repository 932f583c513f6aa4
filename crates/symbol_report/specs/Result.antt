-- What the report's walkers leave of a whole module, and the answers that follow. Assumes nothing.
use Rattle.std.specs.Prelude.{◌≡◌, refl, List, ℕ, ◌+◌, ◌-◌, ◌*◌, ◌≤◌, length}
use Rattle.std.proofs.Math.Path.{ap}
use Rattle.std.proofs.Common.{sym, subst, ◌∙◌, arith}
use Rattle.std.specs.declared.option.Option.TheVariants.{None as none}
use Rattle.records.specs.Label.{Trees, words}
use Rattle.records.specs.declared.Note.{Note}
use Rattle.output.specs.Overlay.{overlay, Wrote}
use Rattle.grammar.specs.Scan.{refusal, symbols_of}
use Rattle.rewriting.specs.Visit.{visit, visit_words, outermost, reported}
use Rattle.rewriting.specs.Answer.{turned_back, report_words, accepted, answer_of, report_answer, Reordered, ReportLent}
use Rattle.rewriting.proofs.Room.{one_each}
use Rattle.rewriting.proofs.Report.{report_length}
use Rattle.walk_laws.specs.Rows.{visit_at}
use Rattle.counter.specs.Contract.{unlive, Planned}
use Rattle.report_walk.specs.Contract.{report_at, Asks, Reports}
use Rattle.report_walk.specs.Steps.{reports_pos}
use Rattle.report_walk.specs.declared.Walk.{Walk}
use Rattle.rewriter.specs.Lends.{Lends}
use Rattle.rewriter.specs.Start.{well, start_ready, whole_record}
use Rattle.rewriter.specs.Result.{answer_0}

-- the module's report was written from the start of o on; r says how many words it has, and the next symbol
pub record WritesReport (ws o o' : List ℕ) (r : Walk) : Type 0 where
  pub wrote : Wrote o 0 (report_words ws) o' r.pos
  pub next : r.state.next ≡ symbols_of ws + r.pos

-- the walk at the start: the counter at s, no default symbol
abbrev pub start : ℕ → Walk
start s = record { at = 0; pos = 0; state = record { next = s; default = none } }

module _ (ws : List ℕ) (ok : refusal ws ≡ 0) where
  -- the walkers may start
  pub start_asks : (notes : List Note) → Planned ws notes → (s : ℕ) → s ≡ symbols_of ws → Asks ws notes (start s)
  start_asks notes p s e = subst (λ (n : ℕ). Asks ws notes (start n)) (sym e) (record { ready = start_ready ws ok notes p; places = omega (arith, (well ws ok).sized.few) })

  start_words : report_at ws 0 1 unlive (start (symbols_of ws)).state ≡ report_words ws
  unfolding report_at visit_at report_words reported visit_words outermost
  start_words = ap (λ (f : Trees). words (visit unlive f (start (symbols_of ws)).state).fresh) (whole_record ws ok)

  pub start_reports : (s : ℕ) → s ≡ symbols_of ws → {o o' : List ℕ} {r : Walk} → Reports ws 1 unlive (start s) o r o' → WritesReport ws o o' r
  start_reports s e {o} {o'} {r} h =
      let at : Reports ws 1 unlive (start (symbols_of ws)) o r o' = subst (λ (n : ℕ). Reports ws 1 unlive (start n) o r o') e h in
      record { wrote = subst (λ (l : List ℕ). Wrote o 0 l o' r.pos) start_words at.wrote; next = omega (arith, reports_pos at) }

-- ---- the answers

pub in_order : (xs : List ℕ) → Reordered xs xs
unfolding Reordered
in_order xs p = refl

pub as_many : (ws ys : List ℕ) → refusal ws ≡ 0 → Reordered ys (report_words ws) → length ys ≡ length (report_words ws)
as_many ws ys ok r = (one_each ws ys ok r).as_many

pub report_fits : (ws : List ℕ) → refusal ws ≡ 0 → length (report_words ws) ≤ 3 * length ws
report_fits ws ok = omega (arith, report_length ws ok)

-- the words of a job that may write them in any order are those of the report
pub report_lent : {ws o o' : List ℕ} → Lends Reordered ws (report_words ws) o o' → ReportLent ws o o'
unfolding report_answer
report_lent l = record { order = l.order; same = l.same; lent = l.lent }

-- an accepted report: its numbers, and the output
pub report_whole : (ws o o' : List ℕ) (r : Walk) (p : ℕ) → turned_back ws ≡ 0 → WritesReport ws o o' r → p ≡ symbols_of ws → length (report_words ws) ≤ length o →
    (accepted r.pos (r.state.next - p) ≡ answer_of ws (report_words ws) (length o)) × (o' ≡ overlay o 0 (report_words ws))
report_whole ws o o' r p t w e h =
    let at : r.pos ≡ length (report_words ws) = omega (arith, w.wrote.end) in
    let more : r.state.next - p ≡ length (report_words ws) = omega (arith, w.next, e, at) in
    (ap (λ (k : ℕ). accepted k (r.state.next - p)) at ∙ ap (accepted (length (report_words ws))) more ∙ answer_0 ws (report_words ws) o t h, w.wrote.list)
