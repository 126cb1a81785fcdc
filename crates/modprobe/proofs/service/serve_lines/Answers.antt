use Rattle.std.proofs.Common.{◌≡◌, ◌∙◌, ap, true, Err}
use Rattle.std.proofs.lemmas.Bool.{false≢true}
use Rattle.std.proofs.lemmas.Result.{err_from_is_err_and}
use Rattle.dep_index.specs.Catalogue.{modules_of}
use Rattle.dep_index.specs.Calls.{opening}
use Rattle.modprobe.specs.Lines.{bytes_left, hand_of, line_of}
use Rattle.modprobe.specs.Serve.{opening_of}
use Rattle.modprobe.proofs.ServeLemmas.{answers_input, counts_errors, stops_in_session, source_end}
use Rattle.modprobe.specs.Run.{is_turns}
use Rattle.std.proofs.KnownBytes.{Keeps-refl}
use Rattle.modprobe.proofs.TurnLemmas.{turns_in_all, turns_fault}
use Rattle.modprobe.proofs.service.serve_lines.Goals as goal

pub returns-in_err-setup-clause-stands : goal.returns-in_err-setup-clause-stands
returns-in_err-setup-clause-stands g c =
    let p = err_from_is_err_and c.from_residual.result c.from_residual.ensures.1 in
    rw (p.1, p.2) (Keeps-refl (g.W.Sink.contents c.args.writer.now), c.in_err-setup.ensures.refused, (line_of c.read_setup_watched.new.lines, c.in_err-setup.ensures.stops))

pub returns-in_err-setup-clause-read : goal.returns-in_err-setup-clause-read
returns-in_err-setup-clause-read g c =
    let p = err_from_is_err_and c.from_residual.result c.from_residual.ensures.1 in
    rw (p.1, p.2) c.in_err-setup.ensures.read

pub returns-in_err-errors-clause-stands : goal.returns-in_err-errors-clause-stands
returns-in_err-errors-clause-stands g c =
    let p = err_from_is_err_and c.from_residual-in_err-errors.result c.from_residual-in_err-errors.ensures.1 in
    let left = bytes_left g.R.Source.remaining in
    let after = c.run_watched.new.lines in
    let s = c.in_ok-setup.setup in
    let opens : c.in_ok-table.table.table ≡ opening_of s c.args.workers = c.in_ok-table.ensures.opens ∙ ap (λ ds. opening (modules_of ds) c.args.workers) c.catalogue.ensures in
    rw (p.1, p.2)
    (stops_in_session c.args.workers c.in_err-errors.field-0.0 (left c.args.lines.now) (left c.read_setup_watched.new.lines) s c.in_ok-table.table.table (hand_of g.R.Source.remaining after)
    (g.W.Sink.contents c.args.writer.now) (g.W.Sink.contents c.run_watched.new.writer) _ c.in_ok-setup.ensures.setup opens c.in_err-errors.ensures.stands)

pub returns-in_err-errors-clause-turns : goal.returns-in_err-errors-clause-turns
returns-in_err-errors-clause-turns g c =
    let p = err_from_is_err_and c.from_residual-in_err-errors.result c.from_residual-in_err-errors.ensures.1 in
    let fault = c.in_err-errors.field-0.0 in
    λ ran_out.
    let is : is_turns fault ≡ true = rw (p.1, p.2) at ran_out in
    let stops = c.in_err-errors.ensures.turns (ap Err (turns_fault fault is)) in
    (stops.0, turns_in_all g.R.Source.remaining c.args.lines.now c.read_setup_watched.new.lines c.run_watched.new.lines c.in_ok-setup.ensures.paid stops)

pub returns-in_err-table-clause-stands : goal.returns-in_err-table-clause-stands
returns-in_err-table-clause-stands g c =
    let p = err_from_is_err_and c.from_residual-in_err-table.result c.from_residual-in_err-table.ensures.1 in
    rw (p.1, p.2) (Keeps-refl (g.W.Sink.contents c.args.writer.now))

pub returns-in_err-table-clause-read : goal.returns-in_err-table-clause-read
returns-in_err-table-clause-read g c =
    let p = err_from_is_err_and c.from_residual-in_err-table.result c.from_residual-in_err-table.ensures.1 in
    rw (p.1, p.2) c.in_ok-setup.ensures.read

pub returns-in_err-table-clause-write : goal.returns-in_err-table-clause-write
returns-in_err-table-clause-write g c =
    let p = err_from_is_err_and c.from_residual-in_err-table.result c.from_residual-in_err-table.ensures.1 in
    rw (p.1, p.2) c.requires.writer_works

pub returns-in_err-table-clause-turns : goal.returns-in_err-table-clause-turns
returns-in_err-table-clause-turns g c =
    let p = err_from_is_err_and c.from_residual-in_err-table.result c.from_residual-in_err-table.ensures.1 in
    rw (p.1, p.2) (λ is. absurd (false≢true is))

pub returns-in_err-errors-clause-read : goal.returns-in_err-errors-clause-read
returns-in_err-errors-clause-read g c =
    let p = err_from_is_err_and c.from_residual-in_err-errors.result c.from_residual-in_err-errors.ensures.1 in
    rw (p.1, p.2) c.in_err-errors.ensures.read

pub returns-in_err-errors-clause-write : goal.returns-in_err-errors-clause-write
returns-in_err-errors-clause-write g c =
    let p = err_from_is_err_and c.from_residual-in_err-errors.result c.from_residual-in_err-errors.ensures.1 in
    rw (p.1, p.2) c.in_err-errors.ensures.write

pub returns-clause-answered : goal.returns-clause-answered
returns-clause-answered g c =
    let left = bytes_left g.R.Source.remaining in
    let s = c.in_ok-setup.setup in
    let opens : c.in_ok-table.table.table ≡ opening_of s c.args.workers = c.in_ok-table.ensures.opens ∙ ap (λ ds. opening (modules_of ds) c.args.workers) c.catalogue.ensures in
    answers_input c.args.workers (left c.args.lines.now) (left c.read_setup_watched.new.lines) s c.in_ok-table.table.table (g.W.Sink.contents c.args.writer.now) (g.W.Sink.contents c.run_watched.new.writer)
    c.in_ok-setup.ensures.setup opens c.in_ok-errors.ensures.answered c.in_ok-errors.ensures.short

pub returns-clause-all_read : goal.returns-clause-all_read
returns-clause-all_read g c =
    let after = c.run_watched.new.lines in
    λ at_start.
    source_end after.at_end after.piece (g.R.Source.remaining after.reader.now) (c.in_ok-errors.ensures.end (c.in_ok-setup.ensures.end at_start)) c.in_ok-errors.ensures.all_read

pub returns-clause-errors : goal.returns-clause-errors
returns-clause-errors g c =
    let left = bytes_left g.R.Source.remaining in
    let s = c.in_ok-setup.setup in
    let opens : c.in_ok-table.table.table ≡ opening_of s c.args.workers = c.in_ok-table.ensures.opens ∙ ap (λ ds. opening (modules_of ds) c.args.workers) c.catalogue.ensures in
    counts_errors c.args.workers (left c.args.lines.now) (left c.read_setup_watched.new.lines) s c.in_ok-table.table.table c.in_ok-errors.errors
    c.in_ok-setup.ensures.setup opens c.in_ok-errors.ensures.errors
