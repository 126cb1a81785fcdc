use Rattle.std.proofs.Common.{[], refl}
use Rattle.std.proofs.lemmas.Result.{err_from_is_err_and}
use Rattle.std.specs.Prelude.{codes}
use Rattle.workload_drive.specs.Statements.{setting}
use Rattle.workload_drive.specs.Schedule.Steps.{steps_of, with_threads, with_workers}
use Rattle.workload_drive.specs.ForProofs.{statements_in}
use Rattle.workload_drive.proofs.PartLemmas.{fault_passes, fault_later, reads_on}
use Rattle.workload_drive.proofs.schedule.steps.said_by.Goals as goal

pub returns-in_err-workers-clause-value : goal.returns-in_err-workers-clause-value
returns-in_err-workers-clause-value c =
    let p = err_from_is_err_and c.from_residual.result c.from_residual.ensures.1 in
    let parts = c.args.parts.now in
    let refused = rw c.deref.ensures.value at c.in_err-workers.ensures.value in
    rw (p.1, p.2) (fault_passes c.in_err-workers.field-0.0 (setting (codes "workers") parts.end (statements_in parts.statements.items)) (with_workers parts.catalogue parts.end) refused)

pub returns-in_err-threads-clause-value : goal.returns-in_err-threads-clause-value
returns-in_err-threads-clause-value c =
    let p = err_from_is_err_and c.from_residual-in_err-threads.result c.from_residual-in_err-threads.ensures.1 in
    let parts = c.args.parts.now in
    let e = c.in_err-threads.field-0.0 in
    let rest = statements_in c.in_ok-workers.rest.now in
    let workers = rw c.deref.ensures.value at c.in_ok-workers.ensures.value in
    rw (p.1, p.2) (fault_later e (setting (codes "workers") parts.end (statements_in parts.statements.items)) (with_workers parts.catalogue parts.end) (c.in_ok-workers.workers, rest) workers
    (fault_passes e (setting (codes "threads") parts.end rest) (with_threads parts.catalogue c.in_ok-workers.workers) c.in_err-threads.ensures.value))

pub returns-in_err-steps-clause-value : goal.returns-in_err-steps-clause-value
returns-in_err-steps-clause-value c =
    let p = err_from_is_err_and c.from_residual-in_err-steps.result c.from_residual-in_err-steps.ensures.1 in
    let parts = c.args.parts.now in
    let e = c.in_err-steps.field-0.0 in
    let rest = statements_in c.in_ok-workers.rest.now in
    let later = statements_in c.in_ok-threads.rest.now in
    let workers = rw c.deref.ensures.value at c.in_ok-workers.ensures.value in
    rw (p.1, p.2) (fault_later e (setting (codes "workers") parts.end (statements_in parts.statements.items)) (with_workers parts.catalogue parts.end) (c.in_ok-workers.workers, rest) workers
    (fault_later e (setting (codes "threads") parts.end rest) (with_threads parts.catalogue c.in_ok-workers.workers) (c.in_ok-threads.threads, later) c.in_ok-threads.ensures.value
    (fault_passes e (steps_of parts.catalogue [] later) _ c.in_err-steps.ensures)))

pub returns-clause-value : goal.returns-clause-value
returns-clause-value c =
    let parts = c.args.parts.now in
    let rest = statements_in c.in_ok-workers.rest.now in
    let later = statements_in c.in_ok-threads.rest.now in
    let workers = rw c.deref.ensures.value at c.in_ok-workers.ensures.value in
    reads_on (setting (codes "workers") parts.end (statements_in parts.statements.items)) (with_workers parts.catalogue parts.end) (c.in_ok-workers.workers, rest) _ workers
    (reads_on (setting (codes "threads") parts.end rest) (with_threads parts.catalogue c.in_ok-workers.workers) (c.in_ok-threads.threads, later) _ c.in_ok-threads.ensures.value
    (reads_on (steps_of parts.catalogue [] later) _ c.in_ok-steps.steps.items _ c.in_ok-steps.ensures refl))
