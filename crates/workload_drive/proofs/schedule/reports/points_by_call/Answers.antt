use Rattle.std.proofs.Common.{◌∙◌, ap, arith, length, List}
use Rattle.std.proofs.lemmas.List.{take_all}
use Rattle.linear_points.specs.declared.point.Point.{Point}
use Rattle.workload_drive.specs.Schedule.Report.{point_of}
use Rattle.workload_drive.proofs.ReportLemmas.{length-with_point, point_noted}
use Rattle.workload_drive.proofs.schedule.reports.points_by_call.Goals as goal

pub loop-point-preserved : goal.loop-point-preserved
loop-point-preserved c = record {
  len = ap length c.note_point.ensures ∙ length-with_point c.loop-point.taken.items _ ∙ c.loop-point.invariant.len;
  points = point_noted c.loop-point.taken.items c.note_point.new.taken.items c.args.points.now c.loop-point.point-index c.args.calls _
      c.loop-point.invariant.len c.loop-point-test.true c.loop-point.invariant.points c.note_point.ensures;
}

pub returns-clause-points : goal.returns-clause-points
returns-clause-points c n below =
    c.loop-point.invariant.points n below
    ∙ ap (λ (ps : List Point). point_of ps n) (take_all c.loop-point.point-index c.args.points.now (omega arith))
