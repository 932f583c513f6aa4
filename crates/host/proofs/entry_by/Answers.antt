-- `entry_by`: refused by validation, refused by the job, too short, or the job's words stored.
use Rattle.std.proofs.Common.{◌≡◌, ℕ, length, replicate, sym, arith}
use Rattle.std.proofs.lemmas.List.{length-replicate}
use Rattle.std.proofs.lemmas.Result.{err_from_is_err_and}
use Rattle.grammar.specs.Refusals.{number_of}
use Rattle.grammar.proofs.RefusalLaws.{number_some}
use Rattle.rewriting.specs.Answer.{refused, accepted}
use Rattle.rewriter.specs.Numbers.{numbers_of}
use Rattle.host.specs.Bytes.{words_of_bytes}
use Rattle.host.specs.EntryLaws.{read_refused, lends_refused, job_order, job_called, called_8, called_answer, called_within, called_lent, called_again}
use Rattle.host.proofs.entry_by.Goals as goal

pub returns-in_err-read-clause-numbers : goal.returns-in_err-read-clause-numbers
unfolding numbers_of
returns-in_err-read-clause-numbers g c =
    let bs = c.args.bytes.now in
    let o = c.args.out.now in
    let xs = g.J.Job.words (words_of_bytes bs) in
    let p = err_from_is_err_and c.from_residual.result c.from_residual.ensures.1 in
    rw (p.1, p.2) (sym (read_refused bs xs o c.in_err-read.field-0.0 c.requires.0 c.in_err-read.ensures.1))

pub returns-in_err-read-clause-lent : goal.returns-in_err-read-clause-lent
returns-in_err-read-clause-lent g c =
    let bs = c.args.bytes.now in
    let o = c.args.out.now in
    let xs = g.J.Job.words (words_of_bytes bs) in
    let r = c.in_err-read.field-0.0 in
    lends_refused g.J.Job.Same bs xs o (number_of r) (g.met.J.Job.in_order xs) (λ z. omega (arith, number_some r, z)) (read_refused bs xs o r c.requires.0 c.in_err-read.ensures.1)

pub returns-in_err-answer-clause-numbers : goal.returns-in_err-answer-clause-numbers
unfolding numbers_of refused
returns-in_err-answer-clause-numbers g c =
    let bs = c.args.bytes.now in
    let o = c.args.out.now in
    let xs = g.J.Job.words (words_of_bytes bs) in
    let room : length {A = ℕ} (replicate g.row.ROOM 0) ≡ g.row.ROOM = length-replicate g.row.ROOM 0 in
    let p = err_from_is_err_and c.from_residual-in_err-answer.result c.from_residual-in_err-answer.ensures.1 in
    rw (p.1, p.2) (called_answer (job_called g.J.Job.words g.J.Job.Same g.met.J.Job.as_many g.met.J.Job.fits bs _ _ _ c.read.ensures.0 c.in_err-answer.ensures.lent _ c.requires.0 (omega (arith, c.requires.1, c.requires.2, room)) (omega (arith, c.requires.3, room)) c.run.auto.out c.in_err-answer.ensures.numbers) o (omega arith))

pub returns-in_err-answer-clause-lent : goal.returns-in_err-answer-clause-lent
unfolding numbers_of refused
returns-in_err-answer-clause-lent g c =
    let bs = c.args.bytes.now in
    let o = c.args.out.now in
    let xs = g.J.Job.words (words_of_bytes bs) in
    let room : length {A = ℕ} (replicate g.row.ROOM 0) ≡ g.row.ROOM = length-replicate g.row.ROOM 0 in
    let r = c.in_err-answer.field-0.0 in
    lends_refused g.J.Job.Same bs xs o (number_of r) (g.met.J.Job.in_order xs) (λ z. omega (arith, number_some r, z)) (sym (called_answer (job_called g.J.Job.words g.J.Job.Same g.met.J.Job.as_many g.met.J.Job.fits bs _ _ _ c.read.ensures.0 c.in_err-answer.ensures.lent _ c.requires.0 (omega (arith, c.requires.1, c.requires.2, room)) (omega (arith, c.requires.3, room)) c.run.auto.out c.in_err-answer.ensures.numbers) o (omega arith)))

pub returns-then-out-answer-clause-numbers : goal.returns-then-out-answer-clause-numbers
unfolding numbers_of accepted
returns-then-out-answer-clause-numbers g c =
    let bs = c.args.bytes.now in
    let o = c.args.out.now in
    let xs = g.J.Job.words (words_of_bytes bs) in
    let room : length {A = ℕ} (replicate g.row.ROOM 0) ≡ g.row.ROOM = length-replicate g.row.ROOM 0 in
    sym (called_8 (job_called g.J.Job.words g.J.Job.Same g.met.J.Job.as_many g.met.J.Job.fits bs _ _ _ c.read.ensures.0 c.in_ok-answer.ensures.lent _ c.requires.0 (omega (arith, c.requires.1, c.requires.2, room)) (omega (arith, c.requires.3, room)) c.run.auto.out c.in_ok-answer.ensures.numbers) o c.if-out-answer.true)

pub returns-then-out-answer-clause-lent : goal.returns-then-out-answer-clause-lent
unfolding numbers_of accepted
returns-then-out-answer-clause-lent g c =
    let bs = c.args.bytes.now in
    let o = c.args.out.now in
    let xs = g.J.Job.words (words_of_bytes bs) in
    let room : length {A = ℕ} (replicate g.row.ROOM 0) ≡ g.row.ROOM = length-replicate g.row.ROOM 0 in
    lends_refused g.J.Job.Same bs xs o 8 (g.met.J.Job.in_order xs) (λ z. omega arith) (called_8 (job_called g.J.Job.words g.J.Job.Same g.met.J.Job.as_many g.met.J.Job.fits bs _ _ _ c.read.ensures.0 c.in_ok-answer.ensures.lent _ c.requires.0 (omega (arith, c.requires.1, c.requires.2, room)) (omega (arith, c.requires.3, room)) c.run.auto.out c.in_ok-answer.ensures.numbers) o c.if-out-answer.true)

pub shared_whole_as_front-unpack : goal.shared_whole_as_front-unpack
unfolding numbers_of accepted
shared_whole_as_front-unpack g c =
    let bs = c.args.bytes.now in
    let room : length {A = ℕ} (replicate g.row.ROOM 0) ≡ g.row.ROOM = length-replicate g.row.ROOM 0 in
    (omega (arith, room, c.run.auto.out, called_within (job_called g.J.Job.words g.J.Job.Same g.met.J.Job.as_many g.met.J.Job.fits bs _ _ _ c.read.ensures.0 c.in_ok-answer.ensures.lent _ c.requires.0 (omega (arith, c.requires.1, c.requires.2, room)) (omega (arith, c.requires.3, room)) c.run.auto.out c.in_ok-answer.ensures.numbers)), omega (arith, c.requires.3))

pub returns-clause-numbers : goal.returns-clause-numbers
unfolding numbers_of accepted
returns-clause-numbers g c =
    let bs = c.args.bytes.now in
    let o = c.args.out.now in
    let xs = g.J.Job.words (words_of_bytes bs) in
    let room : length {A = ℕ} (replicate g.row.ROOM 0) ≡ g.row.ROOM = length-replicate g.row.ROOM 0 in
    called_answer (job_called g.J.Job.words g.J.Job.Same g.met.J.Job.as_many g.met.J.Job.fits bs _ _ _ c.read.ensures.0 c.in_ok-answer.ensures.lent _ c.requires.0 (omega (arith, c.requires.1, c.requires.2, room)) (omega (arith, c.requires.3, room)) c.run.auto.out c.in_ok-answer.ensures.numbers) o c.if-out-answer.false

pub returns-clause-lent : goal.returns-clause-lent
unfolding numbers_of accepted
returns-clause-lent g c =
    let bs = c.args.bytes.now in
    let o = c.args.out.now in
    let xs = g.J.Job.words (words_of_bytes bs) in
    let room : length {A = ℕ} (replicate g.row.ROOM 0) ≡ g.row.ROOM = length-replicate g.row.ROOM 0 in
    let k = job_called g.J.Job.words g.J.Job.Same g.met.J.Job.as_many g.met.J.Job.fits bs _ _ _ c.read.ensures.0 c.in_ok-answer.ensures.lent _ c.requires.0 (omega (arith, c.requires.1, c.requires.2, room)) (omega (arith, c.requires.3, room)) c.run.auto.out c.in_ok-answer.ensures.numbers in
    record {
      order = c.in_ok-answer.ensures.lent.order;
      same = job_order g.J.Job.words g.J.Job.Same g.met.J.Job.as_many g.met.J.Job.fits bs _ _ _ c.read.ensures.0 c.in_ok-answer.ensures.lent;
      lent = called_lent k o c.if-out-answer.false c.unpack.ensures.bytes;
      again = called_again k o c.if-out-answer.false c.unpack.ensures.bytes c.unpack.ensures.small;
    }
