-- What the program holds while it reads and reports a schedule, as the definitions have it.
use Rattle.std.specs.Prelude.{◌≢◌, ℕ, ◌+◌, List, [], ◌∷◌, ◌++◌, slice_index_or, slice_set, Option, Some, None, is_some, if◌then◌else◌}
use Rattle.std.specs.Option.{option_map}
use Rattle.dep_index.specs.Catalogue.{modules_of}
use Rattle.step_core.specs.declared.steps.Step.TheVariants as step
use Rattle.step_core.specs.declared.steps.StepError.TheVariants.{Calls}
use Rattle.linear_points.specs.declared.point.Point.{Point}
use Rattle.linear_points.specs.declared.intervals.Interval.{Interval}
use Rattle.linear_points.specs.declared.intervals.End.{End}
use Rattle.linear_points.specs.Run.{IsRefusedAt}
use Rattle.workload_drive.specs.declared.fault.ScheduleFault.{ScheduleFault}
use Rattle.workload_drive.specs.declared.fault.ScheduleFault.TheVariants as fault
use Rattle.workload_drive.specs.declared.schedule.order.Order.{Order}
use Rattle.workload_drive.specs.declared.schedule.order.Order.TheVariants.{Go, Make}
use Rattle.workload_drive.specs.declared.schedule.steps.Schedule.{Schedule}
use Rattle.workload_drive.specs.Schedule.Orders as orders
use Rattle.workload_drive.specs.Schedule.Steps as schedules
use Rattle.workload_drive.specs.Schedule.Report.{thread_of, call_line}

abbrev pub order_in : Order → orders.Order
order_in (Go n) = orders.go n
order_in (Make verb name) = orders.make verb name.now

abbrev pub schedule_in : Schedule → schedules.Schedule
schedule_in s = record { catalogue = s.catalogue; workers = s.workers; threads = s.threads; steps = s.steps.items }

-- the first point of each call, with one more point
abbrev pub with_point : List (Option Point) → Point → List (Option Point)
with_point taken p =
    if is_some (slice_index_or taken p.call None) then taken else slice_set taken p.call (Some p)

-- the line of a call by its interval and its point
abbrev pub interval_line : schedules.Schedule → ℕ → Interval → Option Point → List ℕ
interval_line s n i point =
    call_line s.catalogue n (thread_of (slice_index_or s.steps i.first (step.Go 0))) i.call i.first
    (option_map (λ (e : End). e.index) i.end) point

-- the lines of calls by the points that they have taken, of which the first has the number n
abbrev pub interval_lines : schedules.Schedule → List (Option Point) → ℕ → List Interval → List ℕ
interval_lines s taken n [] = []
interval_lines s taken n (i ∷ is) = interval_line s n i (slice_index_or taken n None) ++ interval_lines s taken (n + 1) is

-- the machine refuses a step of the schedule, or there was no memory
abbrev pub Stops : schedules.Schedule → ScheduleFault → Type 0
Stops s (fault.Line f) = ⊥
Stops s (fault.Step index cause) = IsRefusedAt (modules_of s.catalogue) s.workers s.threads s.steps index cause × (cause ≢ Calls)
Stops s fault.Memory = Unit {0}
