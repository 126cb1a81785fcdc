use Rattle.std.proofs.Common.{◌≡◌, map}
use Rattle.std.specs.List.{range_with_len}
use Rattle.workload_drive.specs.Script.{tasks_of}
use Rattle.workload_drive.specs.ForProofs.{tasks_in}
use Rattle.workload_drive.proofs.script.entries.all_tasks.Given as goal

-- the workers so far have their lines
abbrev pub invariant-loop-worker : goal.invariant-loop-worker
invariant-loop-worker l = tasks_in l.tasks.items ≡ map (λ worker. tasks_of worker l.entries) (range_with_len 0 l.worker)
