-- The report and the rewriting of one module agree: the same refusals but for 8, as many fresh symbols, and a word of the report for each symbol
-- of the rewritten module that was not read. Assumes nothing.
use Rattle.std.specs.Prelude.{◌≡◌, true, List, ℕ, ◌<◌, ◌≤◌, length, get_or}
use Rattle.std.proofs.Common.{sym, subst, ◌∙◌, arith}
use Rattle.words.specs.Word.{kind_of, payload_of}
use Rattle.records.specs.Label.{read_at}
use Rattle.records.specs.Place.{records_at, label_at, records_node}
use Rattle.grammar.specs.Grammar.{is_symbol}
use Rattle.grammar.specs.Scan.{refusal, symbols_of}
use Rattle.grammar.specs.WellFormed.{Each, Known}
use Rattle.rewriting.specs.Answer.{turned_back, module_words, report_words, rewrite_answer, report_answer, count_if, Reordered}
use Rattle.rewriting.proofs.Room.{is_of, one_each, not_turned_back, same_refusal, accepted_fresh}
use Rattle.rewriting.proofs.ReadAgain.{symbols_count, below_forty}
use Rattle.rewriter.specs.Start.{records_tree, each_at, each_first}

-- ---- the symbols of the rewritten module

-- every symbol of the words vs is below n
known_at : (vs : List ℕ) (n : ℕ) → Each (Known n) (records_at vs 0) → (i : ℕ) → i < length vs → is_symbol (kind_of (get_or vs i 0)) ≡ true → payload_of (get_or vs i 0) < n
unfolding Known label_at read_at
known_at vs n h i e =
    (each_first (Known n) _ _ _ (subst (Each (Known n)) (records_node vs i e) (each_at (Known n) vs h i (omega arith)))).0

-- a symbol of the rewritten module that isn't below S has exactly one word in the report, whatever its order
pub symbol_reported : (ws order : List ℕ) → turned_back ws ≡ 0 → Reordered order (report_words ws) → (i : ℕ) → i < length (module_words ws) →
    is_symbol (kind_of (get_or (module_words ws) i 0)) ≡ true → symbols_of ws ≤ payload_of (get_or (module_words ws) i 0) → count_if (is_of (payload_of (get_or (module_words ws) i 0))) order ≡ 1
symbol_reported ws order t r i e s low =
    let ok : refusal ws ≡ 0 = not_turned_back ws t in
    let known : Each (Known (symbols_of (module_words ws))) (records_at (module_words ws) 0) = subst (Each (Known (symbols_of (module_words ws)))) (sym (records_tree (module_words ws))) (below_forty ws ok) in
    (one_each ws order ok r).once (payload_of (get_or (module_words ws) i 0)) low (omega (arith, known_at (module_words ws) (symbols_of (module_words ws)) known i e s, symbols_count ws ok))

-- ---- the two calls

-- o and o' are lent to them
pub record Agree (ws o o' : List ℕ) : Type 0 where
  pub refusals : (c : ℕ) → (c ≡ 0 → ⊥) → (c ≡ 8 → ⊥) → ((rewrite_answer ws o).code ≡ c → (report_answer ws o').code ≡ c) × ((report_answer ws o').code ≡ c → (rewrite_answer ws o).code ≡ c)
  pub fresh : (rewrite_answer ws o).code ≡ 0 → (report_answer ws o').code ≡ 0 → (rewrite_answer ws o).fresh ≡ (report_answer ws o').fresh
  pub symbols : (report_answer ws o').code ≡ 0 → (order : List ℕ) → Reordered order (report_words ws) → (i : ℕ) → i < length (module_words ws) →
      is_symbol (kind_of (get_or (module_words ws) i 0)) ≡ true → symbols_of ws ≤ payload_of (get_or (module_words ws) i 0) → count_if (is_of (payload_of (get_or (module_words ws) i 0))) order ≡ 1

pub agree : (ws o o' : List ℕ) → Agree ws o o'
unfolding rewrite_answer report_answer
agree ws o o' = record {
  refusals = λ c z e. (same_refusal ws (module_words ws) (report_words ws) (length o) (length o') c z e, same_refusal ws (report_words ws) (module_words ws) (length o') (length o) c z e);
  fresh = λ a b. (accepted_fresh ws (module_words ws) (length o) a).1 ∙ sym (accepted_fresh ws (report_words ws) (length o') b).1;
  symbols = λ a order r. symbol_reported ws order (accepted_fresh ws (report_words ws) (length o') a).0 r;
}
