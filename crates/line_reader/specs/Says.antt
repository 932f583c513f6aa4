-- What a text says, by its lines: the words of them all, or the first bad line and why it is bad. And that a reading of the text, with a line feed
-- behind its last byte, comes to just that. Assumes nothing.
use Rattle.std.specs.Prelude.{◌≡◌, refl, Bool, true, false, cond, ℕ, ◌+◌, min, eqb}
use Rattle.std.proofs.Common.{sym, ap, ◌∙◌}
use mathlib.Core.List.{List, [], ◌∷◌, ◌++◌, append_assoc, append-nil}
use Rattle.line_reader.specs.declared.Fault.{Fault}
use Rattle.line_reader.specs.declared.Stage.{Stage}
use Rattle.line_reader.specs.declared.Stage.TheVariants.{Start, Blank, Kind, Colon, Payload, End, Bad}
use Rattle.line_reader.specs.Line.{stepped, within, at_end, is_bad}
use Rattle.line_reader.specs.declared.Reading.{Reading}
use Rattle.line_reader.specs.Text.{Stored, Follows, word_of_line, max_line, next_line, stage_after, words_by, words_after, line_by, line_after, stage_append}

-- ---- the definition

-- the lines of a text, cut at its line feeds (10); the first one goes on behind l
unfoldable pub lines_from : List ℕ → List ℕ → List (List ℕ)
lines_from l [] = l ∷ []
lines_from l (b ∷ bs) = cond (eqb b 10) (l ∷ lines_from [] bs) (lines_from (l ++ b ∷ []) bs)

pub data Said : Type 0 where
  words : List ℕ → Said
  bad : ℕ → Fault → Said

-- a line n that ends in stage s says why it is bad, or what the lines behind it say
unfoldable pub judged : Stage → ℕ → Said → Said
judged Start n r = r
judged Blank n r = r
judged (Kind k) n r = r
judged (Colon k) n r = r
judged (Payload k p) n r = r
judged (End k p) n r = r
judged (Bad f) n r = bad n f

-- lines from number n on, behind lines with the words ws
unfoldable pub says : ℕ → List ℕ → List (List ℕ) → Said
says n ws [] = words ws
says n ws (l ∷ ls) = judged (at_end (stage_after Start l)) n (says (min (n + 1) max_line) (ws ++ word_of_line (stage_after Start l)) ls)

unfoldable pub text_says : List ℕ → Said
text_says bs = says 1 [] (lines_from [] bs)

-- ---- a reading that goes on from a stage, a line and some words

unfoldable run : Stage → ℕ → List ℕ → List ℕ → Said
run s n ws bs = judged (stage_after s bs) (line_after s n bs) (words (ws ++ words_after s bs))

run_byte : (s : Stage) (n : ℕ) (ws : List ℕ) (b : ℕ) (bs : List ℕ) → run s n ws (b ∷ bs) ≡ run (stepped s b) (line_by s n b) (ws ++ words_by s b) bs
unfolding run stage_after line_after words_after
run_byte s n ws b bs =
    ap (λ (l : List ℕ). judged (stage_after (stepped s b) bs) (line_after (stepped s b) (line_by s n b) bs) (words l))
    (sym (append_assoc ws (words_by s b) (words_after (stepped s b) bs)))

same_both : {A : Type 0} → (x : Bool) (a : A) → cond x a a ≡ a
same_both true a = refl
same_both false a = refl

bad_step : (f : Fault) (b : ℕ) → stepped (Bad f) b ≡ Bad f
unfolding stepped within at_end
bad_step f b = same_both (eqb b 10) (Bad f)

bad_stage : (f : Fault) (bs : List ℕ) → stage_after (Bad f) bs ≡ Bad f
unfolding stage_after
bad_stage f [] = refl
bad_stage f (b ∷ bs) = ap (λ (s : Stage). stage_after s bs) (bad_step f b) ∙ bad_stage f bs

bad_by : (f : Fault) (n b : ℕ) → line_by (Bad f) n b ≡ n
unfolding line_by next_line is_bad
bad_by f n b = ap (λ (s : Stage). cond (eqb b 10) (next_line s n) n) (bad_step f b) ∙ same_both (eqb b 10) n

bad_line : (f : Fault) (n : ℕ) (bs : List ℕ) → line_after (Bad f) n bs ≡ n
unfolding line_after
bad_line f n [] = refl
bad_line f n (b ∷ bs) =
    ap (λ (s : Stage). line_after s (line_by (Bad f) n b) bs) (bad_step f b)
    ∙ ap (λ (m : ℕ). line_after (Bad f) m bs) (bad_by f n b)
    ∙ bad_line f n bs

-- a bad line is the text's answer, whatever follows
run_bad : (f : Fault) (n : ℕ) (ws bs : List ℕ) → run (Bad f) n ws bs ≡ bad n f
unfolding run judged
run_bad f n ws bs =
    ap (λ (s : Stage). judged s (line_after (Bad f) n bs) (words (ws ++ words_after (Bad f) bs))) (bad_stage f bs) ∙ ap (λ (m : ℕ). bad m f) (bad_line f n bs)

-- behind the end of a line
run_end : (s : Stage) (n : ℕ) (ws bs : List ℕ) → run (at_end s) (next_line (at_end s) n) ws bs ≡ judged (at_end s) n (run Start (min (n + 1) max_line) ws bs)
unfolding at_end next_line is_bad judged
run_end Start n ws bs = refl
run_end Blank n ws bs = refl
run_end (Kind k) n ws bs = run_bad _ n ws bs
run_end (Colon k) n ws bs = run_bad _ n ws bs
run_end (Payload k p) n ws bs = refl
run_end (End k p) n ws bs = refl
run_end (Bad f) n ws bs = run_bad f n ws bs

-- a byte by its test: the line feed, or any other
feed_run : (s : Stage) (n : ℕ) (ws : List ℕ) (b : ℕ) (bs : List ℕ) → eqb b 10 ≡ true →
    run s n ws (b ∷ bs) ≡ judged (at_end s) n (run Start (min (n + 1) max_line) (ws ++ word_of_line s) bs)
unfolding stepped line_by words_by
feed_run s n ws b bs e = run_byte s n ws b bs ∙ rw e (run_end s n (ws ++ word_of_line s) bs)

byte_run : (s : Stage) (n : ℕ) (ws : List ℕ) (b : ℕ) (bs : List ℕ) → eqb b 10 ≡ false → run s n ws (b ∷ bs) ≡ run (stepped s b) n ws bs
unfolding line_by words_by
byte_run s n ws b bs e = run_byte s n ws b bs ∙ rw (e, append-nil)

-- ---- the theorem

-- one byte more, of which x says whether it is a line feed
one_more : (x : Bool) (b : ℕ) (bs l : List ℕ) (n : ℕ) (ws : List ℕ) → eqb b 10 ≡ x →
    ((l' : List ℕ) (n' : ℕ) (ws' : List ℕ) → run (stage_after Start l') n' ws' (bs ++ 10 ∷ []) ≡ says n' ws' (lines_from l' bs)) →
    run (stage_after Start l) n ws (b ∷ (bs ++ 10 ∷ [])) ≡ says n ws (cond x (l ∷ lines_from [] bs) (lines_from (l ++ b ∷ []) bs))
unfolding stage_after says
one_more true b bs l n ws e rest =
    feed_run (stage_after Start l) n ws b (bs ++ 10 ∷ []) e
    ∙ ap (λ (r : Said). judged (at_end (stage_after Start l)) n r) (rest [] (min (n + 1) max_line) (ws ++ word_of_line (stage_after Start l)))
one_more false b bs l n ws e rest =
    byte_run (stage_after Start l) n ws b (bs ++ 10 ∷ []) e
    ∙ ap (λ (s : Stage). run s n ws (bs ++ 10 ∷ [])) (sym (stage_append Start l (b ∷ [])))
    ∙ rest (l ++ b ∷ []) n ws

-- the last line
no_more : (l : List ℕ) (n : ℕ) (ws : List ℕ) → run (stage_after Start l) n ws (10 ∷ []) ≡ says n ws (l ∷ [])
unfolding run stage_after words_after judged says
no_more l n ws =
    feed_run (stage_after Start l) n ws 10 [] refl
    ∙ ap (λ (x : List ℕ). judged (at_end (stage_after Start l)) n (words x)) (append-nil (ws ++ word_of_line (stage_after Start l)))

lines_said : (bs l : List ℕ) (n : ℕ) (ws : List ℕ) → run (stage_after Start l) n ws (bs ++ 10 ∷ []) ≡ says n ws (lines_from l bs)
unfolding lines_from
lines_said [] l n ws = no_more l n ws
lines_said (b ∷ bs) l n ws = one_more (eqb b 10) b bs l n ws refl (λ l' n' ws'. lines_said bs l' n' ws')

-- a reading of a text and a line feed, from the start: its stage, its line's number and its words are what the text says
pub text_said : (bs : List ℕ) →
    judged (stage_after Start (bs ++ 10 ∷ [])) (line_after Start 1 (bs ++ 10 ∷ [])) (words (words_after Start (bs ++ 10 ∷ []))) ≡ text_says bs
unfolding text_says
text_said bs = unfold run stage_after in lines_said bs [] 1 []

-- the same of what `start` and `read` leave: the words stored, as many as there is room for, and the stage and line that were reached
pub reading_said : {o : List ℕ} {r₀ : Reading} {o' : List ℕ} {r : Reading} (bs : List ℕ) → (r₀.stage ≡ Start) × (r₀.line ≡ 1) × (r₀.stored ≡ 0) →
    Follows (bs ++ 10 ∷ []) o r₀ o' r →
    Stored o 0 (words_after Start (bs ++ 10 ∷ [])) o' r.stored × (judged r.stage r.line (words (words_after Start (bs ++ 10 ∷ []))) ≡ text_says bs)
reading_said bs h f = (rw (h.2, h.0) at f.words, rw (f.stage, f.line, h.0, h.1) (text_said bs))
