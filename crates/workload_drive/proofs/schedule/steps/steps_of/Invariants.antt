use Rattle.std.proofs.Common.{◌≡◌, ◌≤◌, drop, length, []}
use Rattle.workload_drive.specs.Schedule.Steps.{steps_of}
use Rattle.workload_drive.specs.ForProofs.{statements_in}
use Rattle.workload_drive.proofs.schedule.steps.steps_of.Given as goal

-- the statements that are left go on from the steps so far
abbrev pub invariant-loop-said : goal.invariant-loop-said
invariant-loop-said l = record {
  few : length l.steps.items ≤ 1000000;
  same : steps_of l.catalogue l.steps.items (statements_in (drop l.said-index l.statements)) ≡ steps_of l.catalogue [] (statements_in l.statements);
}
