-- What a refusal of `points` and of `check_points` says.
use Rattle.std.specs.Prelude.{◌≢◌, ℕ, List}
use Rattle.dep_index.specs.Table.{Module}
use Rattle.step_core.specs.declared.steps.Step.{Step}
use Rattle.step_core.specs.declared.steps.StepError.TheVariants.{Calls}
use Rattle.step_core.specs.Machine.{State}
use Rattle.linear_points.specs.declared.point.PointsError.{PointsError}
use Rattle.linear_points.specs.declared.point.PointsError.TheVariants as fault
use Rattle.linear_points.specs.Run.{IsRefusedFrom, IsRefusedAt}

-- a step error names the first step that is refused; out of memory says nothing of the steps
abbrev pub IsStepRefused : List Module → State → List Step → PointsError → Type 0
IsStepRefused catalogue state steps (fault.Step i cause) = IsRefusedFrom catalogue state steps i cause
IsStepRefused catalogue state steps fault.Memory = Unit {0}

-- the refusal of a run; there are as many calls as steps, so the number of calls refuses no step
abbrev pub IsRefusal : List Module → ℕ → ℕ → List Step → PointsError → Type 0
IsRefusal catalogue workers threads steps (fault.Step i cause) =
    IsRefusedAt catalogue workers threads steps i cause × (cause ≢ Calls)
IsRefusal catalogue workers threads steps fault.Memory = Unit {0}
