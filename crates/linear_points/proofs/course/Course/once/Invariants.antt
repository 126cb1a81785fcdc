-- the calls so far have their points
use Rattle.std.proofs.Common.{◌<◌, ℕ}
use Rattle.linear_points.specs.Linearization.{HasItsPoint}
use Rattle.linear_points.proofs.course.Course.once.Given as goal

abbrev pub invariant-loop-n : goal.invariant-loop-n
invariant-loop-n l = (k : ℕ) → k < l.n → HasItsPoint l.self.events.items l.fn.points k
