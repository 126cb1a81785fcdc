-- the points so far and those of the rest are those of all events
use Rattle.std.proofs.Common.{◌≡◌, ◌++◌, drop}
use Rattle.linear_points.specs.Run.{points_from}
use Rattle.linear_points.proofs.linear.points_among.Given as goal

abbrev pub invariant-loop-index : goal.invariant-loop-index
invariant-loop-index l = l.found.items ++ points_from l.index (drop l.index l.events) ≡ points_from 0 l.events
