-- The points of a run of the machine from its opening state, and the step at which a run is refused.
use Rattle.std.specs.Prelude.{◌≡◌, ℕ, ◌+◌, ◌<◌, List, [], ◌∷◌, length, take, slice_index_or, Some}
use Rattle.dep_index.specs.declared.table.calls.Call.{Call}
use Rattle.dep_index.specs.Table.{Module}
use Rattle.step_core.specs.declared.steps.Step.{Step}
use Rattle.step_core.specs.declared.steps.Step.TheVariants.{Go}
use Rattle.step_core.specs.declared.steps.Event.{Event}
use Rattle.step_core.specs.declared.steps.Event.TheVariants.{Point as Takes}
use Rattle.step_core.specs.declared.steps.StepError.{StepError}
use Rattle.step_core.specs.Machine.{State, start, step_refusal}
use Rattle.step_core.specs.Run.{IsAccepted, events, state_after, calls_of}
use Rattle.linear_points.specs.declared.point.Point.{Point}

-- a run begins in the opening state, and may make as many calls as it has steps
abbrev pub run_start : List Module → ℕ → ℕ → List Step → State
run_start catalogue workers threads steps = start catalogue workers threads (length steps)

-- the steps are a run: none of them is refused
abbrev pub IsRun : List Module → ℕ → ℕ → List Step → Type 0
IsRun catalogue workers threads steps = IsAccepted catalogue (run_start catalogue workers threads steps) steps

-- the step of this index is refused for this cause, and none before it is refused
abbrev pub IsRefusedFrom : List Module → State → List Step → ℕ → StepError → Type 0
IsRefusedFrom catalogue state steps i cause =
    (i < length steps)
    × IsAccepted catalogue state (take i steps)
    × (step_refusal catalogue (state_after catalogue state (take i steps)) (slice_index_or steps i (Go 0)) ≡ Some cause)

abbrev pub IsRefusedAt : List Module → ℕ → ℕ → List Step → ℕ → StepError → Type 0
IsRefusedAt catalogue workers threads steps i cause =
    IsRefusedFrom catalogue (run_start catalogue workers threads steps) steps i cause

-- what the steps of a run come to, one event a step
abbrev pub run_events : List Module → ℕ → ℕ → List Step → List Event
run_events catalogue workers threads steps = events catalogue (run_start catalogue workers threads steps) steps

-- the calls of a run in the order in which they were invoked: a call's number is its place
abbrev pub run_calls : List Module → ℕ → ℕ → List Step → List Call
run_calls catalogue workers threads steps = calls_of catalogue (run_start catalogue workers threads steps) steps

-- the points among events: where calls take effect, with their indices, of which the first is i
abbrev pub point_at : ℕ → Event → List Point → List Point
point_at i (Takes n r) later = record { call = n; index = i; reply = r } ∷ later
point_at i e later = later

abbrev pub points_from : ℕ → List Event → List Point
points_from i [] = []
points_from i (e ∷ es) = point_at i e (points_from (i + 1) es)

abbrev pub run_points : List Module → ℕ → ℕ → List Step → List Point
run_points catalogue workers threads steps = points_from 0 (run_events catalogue workers threads steps)
