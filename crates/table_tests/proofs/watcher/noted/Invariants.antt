use Rattle.std.proofs.Common.{◌≡◌, map, take}
use Rattle.table_tests.proofs.watcher.noted.Given as goal

abbrev pub invariant-loop-step : goal.invariant-loop-step
invariant-loop-step g l = map (λ step. step.value) l.steps.items ≡ take l.step-index l.asked
