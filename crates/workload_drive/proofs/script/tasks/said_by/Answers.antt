use Rattle.std.proofs.Common.{◌≡◌, [], refl, Ok}
use Rattle.std.proofs.lemmas.Result.{err_from_is_err_and}
use Rattle.std.specs.Prelude.{codes}
use Rattle.workload_drive.specs.Statements.{setting}
use Rattle.workload_drive.specs.Script.{entries_of, made_script, with_entries, with_workers}
use Rattle.workload_drive.specs.ForProofs.{statements_in, tasks_in}
use Rattle.workload_drive.proofs.PartLemmas.{fault_passes, fault_later, reads_on}
use Rattle.workload_drive.proofs.script.tasks.said_by.Goals as goal

pub returns-in_err-workers-clause-value : goal.returns-in_err-workers-clause-value
returns-in_err-workers-clause-value c =
    let p = err_from_is_err_and c.from_residual.result c.from_residual.ensures.1 in
    let parts = c.args.parts.now in
    let refused = rw c.deref.ensures.value at c.in_err-workers.ensures.value in
    rw (p.1, p.2) (fault_passes c.in_err-workers.field-0.0 (setting (codes "workers") parts.end (statements_in parts.statements.items)) (with_workers parts.catalogue) refused)

pub returns-in_err-entries-clause-value : goal.returns-in_err-entries-clause-value
returns-in_err-entries-clause-value c =
    let p = err_from_is_err_and c.from_residual-in_err-entries.result c.from_residual-in_err-entries.ensures.1 in
    let parts = c.args.parts.now in
    let e = c.in_err-entries.field-0.0 in
    let rest = statements_in c.in_ok-workers.rest.now in
    let workers = rw c.deref.ensures.value at c.in_ok-workers.ensures.value in
    rw (p.1, p.2) (fault_later e (setting (codes "workers") parts.end (statements_in parts.statements.items)) (with_workers parts.catalogue) (c.in_ok-workers.workers, rest) workers
    (fault_passes e (entries_of parts.catalogue c.in_ok-workers.workers [] rest) (with_entries parts.catalogue c.in_ok-workers.workers) c.in_err-entries.ensures))

pub returns-clause-value : goal.returns-clause-value
returns-clause-value c =
    let parts = c.args.parts.now in
    let count = c.in_ok-workers.workers in
    let rest = statements_in c.in_ok-workers.rest.now in
    let workers = rw c.deref.ensures.value at c.in_ok-workers.ensures.value in
    let opening = rw c.deref-2.ensures.value at c.in_ok-opening.ensures in
    let tasks = rw c.deref-3.ensures.value at c.in_ok-tasks.ensures in
    let made : with_entries parts.catalogue count c.in_ok-entries.entries.items ≡ Ok (made_script parts.catalogue count c.in_ok-opening.opening.items (tasks_in c.in_ok-tasks.tasks.items)) =
    rw (opening, tasks) refl in
    reads_on (setting (codes "workers") parts.end (statements_in parts.statements.items)) (with_workers parts.catalogue) (count, rest) _ workers
    (reads_on (entries_of parts.catalogue count [] rest) (with_entries parts.catalogue count) c.in_ok-entries.entries.items _ c.in_ok-entries.ensures made)
