use Rattle.std.proofs.Common.{arith, ◌∙◌, ap, sym, List, [], ◌∷◌, ◌++◌, ℕ, map}
use Rattle.std.specs.List.{range_with_len}
use Rattle.std.proofs.lemmas.List.{map-append}
use Rattle.std.proofs.lemmas.List.FromFn.{map-range_with_len_more}
use Rattle.workload_drive.specs.declared.script.entries.Task.{Task}
use Rattle.workload_drive.specs.Script.{tasks_of}
use Rattle.workload_drive.specs.ForProofs.{tasks_in}
use Rattle.workload_drive.proofs.script.entries.all_tasks.Goals as goal

pub loop-worker-preserved : goal.loop-worker-preserved
loop-worker-preserved c =
    let lines : ℕ → List Task = λ worker. tasks_of worker c.args.entries.now in
    ap tasks_in c.in_ok-push.ensures.items
    ∙ map-append _ c.loop-worker.tasks.items (c.in_ok-tasks_of.field-0 ∷ [])
    ∙ ap (λ (ts : List (List Task)). ts ++ c.in_ok-tasks_of.field-0.items ∷ []) c.loop-worker.invariant
    ∙ ap (λ (t : List Task). map lines (range_with_len 0 c.loop-worker.worker) ++ t ∷ []) c.in_ok-tasks_of.ensures
    ∙ sym (map-range_with_len_more lines 0 c.loop-worker.worker c.loop-worker.worker (omega arith))
