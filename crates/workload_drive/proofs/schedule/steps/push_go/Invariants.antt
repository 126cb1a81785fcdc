use Rattle.std.proofs.Common.{◌≡◌, ◌++◌, replicate}
use Rattle.step_core.specs.declared.steps.Step.TheVariants.{Go}
use Rattle.workload_drive.proofs.schedule.steps.push_go.Given as goal

abbrev pub invariant-loop : goal.invariant-loop
invariant-loop l = l.steps.items ≡ l.fn.steps.items ++ replicate l.counter (Go l.thread)
