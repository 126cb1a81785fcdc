use Rattle.std.proofs.lemmas.Result.{err_from_is_err_and}
use Rattle.std.specs.Prelude.{codes}
use Rattle.workload_drive.specs.Statements.{parts_of}
use Rattle.workload_drive.specs.Script.{script_by, script_of}
use Rattle.workload_drive.specs.ForProofs.{parts_in}
use Rattle.workload_drive.proofs.PartLemmas.{fault_passes, fault_later, reads_on}
use Rattle.workload_drive.proofs.script.tasks.read_script.Goals as goal

pub returns-in_err-parts-clause-refused : goal.returns-in_err-parts-clause-refused
unfolding script_of
returns-in_err-parts-clause-refused c =
    let p = err_from_is_err_and c.from_residual.result c.from_residual.ensures.1 in
    rw (p.1, p.2) (fault_passes c.in_err-parts.field-0.0 (parts_of (codes "%script") c.args.input.now) script_by c.in_err-parts.ensures)

pub returns-in_err-workers-clause-refused : goal.returns-in_err-workers-clause-refused
unfolding script_of
returns-in_err-workers-clause-refused c =
    let p = err_from_is_err_and c.from_residual-in_err-workers.result c.from_residual-in_err-workers.ensures.1 in
    rw (p.1, p.2) (fault_later c.in_err-workers.field-0.0 (parts_of (codes "%script") c.args.input.now) script_by (parts_in c.in_ok-parts.parts) c.in_ok-parts.ensures c.in_err-workers.ensures.value)

pub returns-clause-script : goal.returns-clause-script
unfolding script_of
returns-clause-script c =
    reads_on (parts_of (codes "%script") c.args.input.now) script_by (parts_in c.in_ok-parts.parts) _ c.in_ok-parts.ensures c.in_ok-workers.ensures.value
