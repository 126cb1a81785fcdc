-- the points so far lie within their calls
use Rattle.std.proofs.Common.{◌<◌, ℕ, get_or}
use Rattle.linear_points.specs.declared.point.Point.{Point}
use Rattle.linear_points.specs.Linearization.{IsWithin}
use Rattle.linear_points.proofs.course.Course.within.Given as goal

abbrev pub invariant-loop-point : goal.invariant-loop-point
invariant-loop-point l = (k : ℕ) (d : Point) → k < l.point-index → IsWithin l.self.events.items (get_or l.points k d)
