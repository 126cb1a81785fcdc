use Rattle.std.proofs.lemmas.Result.{err_from_is_err_and}
use Rattle.std.specs.Prelude.{codes}
use Rattle.workload_drive.specs.Statements.{parts_of}
use Rattle.workload_drive.specs.Schedule.Steps.{schedule_by, schedule_of}
use Rattle.workload_drive.specs.ForProofs.{parts_in}
use Rattle.workload_drive.proofs.PartLemmas.{fault_passes, fault_later, reads_on}
use Rattle.workload_drive.proofs.schedule.steps.read_schedule.Goals as goal

pub returns-in_err-parts-clause-value : goal.returns-in_err-parts-clause-value
unfolding schedule_of
returns-in_err-parts-clause-value c =
    let p = err_from_is_err_and c.from_residual.result c.from_residual.ensures.1 in
    rw (p.1, p.2) (fault_passes c.in_err-parts.field-0.0 (parts_of (codes "%schedule") c.args.input.now) schedule_by c.in_err-parts.ensures)

pub returns-in_err-workers-clause-value : goal.returns-in_err-workers-clause-value
unfolding schedule_of
returns-in_err-workers-clause-value c =
    let p = err_from_is_err_and c.from_residual-in_err-workers.result c.from_residual-in_err-workers.ensures.1 in
    rw (p.1, p.2) (fault_later c.in_err-workers.field-0.0 (parts_of (codes "%schedule") c.args.input.now) schedule_by (parts_in c.in_ok-parts.parts) c.in_ok-parts.ensures c.in_err-workers.ensures.value)

pub returns-clause-value : goal.returns-clause-value
unfolding schedule_of
returns-clause-value c =
    reads_on (parts_of (codes "%schedule") c.args.input.now) schedule_by (parts_in c.in_ok-parts.parts) _ c.in_ok-parts.ensures c.in_ok-workers.ensures.value
