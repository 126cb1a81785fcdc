use Rattle.std.proofs.Common.{◌≡◌, take}
use Rattle.power_cuts.specs.Log.{noted}
use Rattle.power_cuts.proofs.cuts.noted_steps.Given as goal

abbrev pub invariant-loop-step : goal.invariant-loop-step
invariant-loop-step l = noted l.steps ≡ take l.step-index l.asked
