-- the machine has made the steps so far, and what they came to is kept
use Rattle.linear_points.proofs.Prefixes.{HasRun}
use Rattle.linear_points.proofs.runs.events.Given as goal

abbrev pub invariant-loop-index : goal.invariant-loop-index
invariant-loop-index l = HasRun l.fn.machine l.steps l.index l.machine l.found.items
