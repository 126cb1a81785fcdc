use Rattle.std.proofs.Common.{◌∙◌, ap, get_or, List, Option, None}
use Rattle.linear_points.specs.declared.point.Point.{Point}
use Rattle.workload_drive.specs.Schedule.ForProofs.{schedule_in}
use Rattle.workload_drive.proofs.ReportLemmas.{reports}
use Rattle.workload_drive.proofs.schedule.reports.report_of.Goals as goal

pub returns-clause-report : goal.returns-clause-report
returns-clause-report c =
    reports c.in_ok-lines_of.field-0.items (schedule_in c.args.schedule.now) c.in_ok-trace.trace.intervals.items c.deref-3.result.now
    c.deref-2.result.now c.deref-4.result.now c.len.result
    (rw c.deref.ensures.value at c.in_ok-trace.ensures.run)
    (c.deref-2.ensures.value ∙ (rw c.deref.ensures.value at c.in_ok-trace.ensures.points))
    (rw c.deref.ensures.value at c.in_ok-trace.ensures.calls)
    (rw c.deref.ensures.value at c.in_ok-trace.ensures.intervals)
    c.deref-3.ensures.value
    (c.len.ensures ∙ c.in_ok-trace.trace.intervals.ok.0)
    (λ k below. ap (λ (t : List (Option Point)). get_or t k None) c.deref-4.ensures.value ∙ c.in_ok-taken.ensures.points k below)
    c.in_ok-lines_of.ensures
