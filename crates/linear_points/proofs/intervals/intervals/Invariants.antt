-- the intervals are those of the events so far, and the next call gets the next number
use Rattle.linear_points.proofs.MoreEvents.{HasIntervals}
use Rattle.linear_points.proofs.intervals.intervals.Given as goal

abbrev pub invariant-loop-index : goal.invariant-loop-index
invariant-loop-index l = HasIntervals l.steps l.events l.index l.found.items
