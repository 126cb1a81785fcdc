-- the points so far replay, so that the rest decides
use Rattle.std.proofs.Common.{◌≡◌, ◌↔◌, length, drop, map}
use Rattle.dep_index.specs.Calls.{replies}
use Rattle.linear_points.specs.declared.point.Point.{Point}
use Rattle.linear_points.specs.declared.intervals.Interval.{Interval}
use Rattle.linear_points.specs.Noted.{calls_at}
use Rattle.linear_points.proofs.course.Course.replays.Given as goal

abbrev pub invariant-loop-point : goal.invariant-loop-point
invariant-loop-point l = record {
  over : l.table.catalogue ≡ l.fn.table.catalogue;
  workers : length l.table.table.rows ≡ length l.fn.table.table.rows;
  decides : (replies l.fn.table.catalogue l.fn.table.table (calls_at (map (λ (i : Interval). i.call) l.self.intervals.items) l.points) ≡ map (λ (p : Point). p.reply) l.points)
      ↔ (replies l.table.catalogue l.table.table (calls_at (map (λ (i : Interval). i.call) l.self.intervals.items) (drop l.point-index l.points)) ≡ map (λ (p : Point). p.reply) (drop l.point-index l.points));
}
