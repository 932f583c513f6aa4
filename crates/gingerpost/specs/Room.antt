-- What an answer writes fits in the output lent. Assumes nothing.
use Rattle.std.specs.Prelude.{◌≡◌, List, ℕ, ◌≤◌, length, Result}
use Rattle.std.proofs.Common.{ap, ◌∙◌, arith}
use Rattle.output.specs.Overlay.{Wrote, length_overlay}
use Rattle.line_writer.specs.Decimal.{answer_text, length_answer}
use Rattle.rewriting.specs.Answer.{Answer, rewrite_answer, report_answer}
use Rattle.rewriting.proofs.Room.{written_le}
use Rattle.grammar.specs.declared.Refusal.{Refusal}
use Rattle.rewriter.specs.declared.Written.{Written}
use Rattle.rewriter.specs.Numbers.{numbers_of}

pub rewrite_fits : (r : Result Written Refusal) (ws o : List ℕ) → numbers_of r ≡ rewrite_answer ws o → (numbers_of r).written ≤ length o
unfolding rewrite_answer
rewrite_fits r ws o e = rw (ap (λ (a : Answer). a.written) e) (written_le ws _ (length o))

pub report_fits : (r : Result Written Refusal) (ws o : List ℕ) → numbers_of r ≡ report_answer ws o → (numbers_of r).written ≤ length o
unfolding report_answer
report_fits r ws o e = rw (ap (λ (a : Answer). a.written) e) (written_le ws _ (length o))

-- the text of an answer of at most 12,288 words fits in 147,519 bytes
pub text_fits : {o : List ℕ} (a b c : ℕ) (ws : List ℕ) {o' : List ℕ} {n : ℕ} → Wrote o 0 (answer_text a b c ws) o' n → length ws ≤ 12288 → 147519 ≡ length o → n ≤ length o'
text_fits {o} a b c ws w h e = omega (arith, w.end, length_answer a b c ws, ap length w.list ∙ length_overlay o 0 (answer_text a b c ws))
