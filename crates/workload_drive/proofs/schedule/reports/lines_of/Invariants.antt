use Rattle.std.proofs.Common.{◌≡◌, ◌++◌, drop}
use Rattle.workload_drive.specs.Schedule.ForProofs.{interval_lines, schedule_in}
use Rattle.workload_drive.proofs.schedule.reports.lines_of.Given as goal

-- the lines so far go on with those of the calls that are left
abbrev pub invariant-loop-number : goal.invariant-loop-number
invariant-loop-number l =
    l.text.items ++ interval_lines (schedule_in l.schedule) l.taken l.number (drop l.number l.intervals) ≡ interval_lines (schedule_in l.schedule) l.taken 0 l.intervals
