use Rattle.std.proofs.Common.{◌≡◌, ◌<◌, ℕ, get_or, take, length, None}
use Rattle.workload_drive.specs.Schedule.Report.{point_of}
use Rattle.workload_drive.proofs.schedule.reports.points_by_call.Given as goal

-- each call has the first of the points so far that are its own
abbrev pub invariant-loop-point : goal.invariant-loop-point
invariant-loop-point l = record {
  len : length l.taken.items ≡ l.fn.calls;
  points : (n : ℕ) → n < l.fn.calls → get_or l.taken.items n None ≡ point_of (take l.point-index l.points) n;
}
