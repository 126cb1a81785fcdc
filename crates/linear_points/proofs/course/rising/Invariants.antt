-- the indices so far rise
use Rattle.std.proofs.Common.{◌<◌, ◌+◌, ℕ, get_or, map}
use Rattle.linear_points.specs.declared.point.Point.{Point}
use Rattle.linear_points.proofs.course.rising.Given as goal

abbrev pub invariant-loop-i : goal.invariant-loop-i
invariant-loop-i l = (k : ℕ) → k + 1 < l.i → get_or (map (λ (p : Point). p.index) l.points) k 0 < get_or (map (λ (p : Point). p.index) l.points) (k + 1) 0
