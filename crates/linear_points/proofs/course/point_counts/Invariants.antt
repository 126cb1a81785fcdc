-- the counts are those of the points so far
use Rattle.std.proofs.Common.{◌≡◌, ◌<◌, ℕ, get_or, take, length}
use Rattle.linear_points.specs.Linearization.{point_count}
use Rattle.linear_points.proofs.course.point_counts.Given as goal

abbrev pub invariant-loop-point : goal.invariant-loop-point
invariant-loop-point l = record {
  len : length l.counts.items ≡ l.fn.calls;
  counts : (n : ℕ) → n < l.fn.calls → get_or l.counts.items n 0 ≡ point_count n (take l.point-index l.points);
}
