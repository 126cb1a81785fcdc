use Rattle.std.proofs.Common.{◌≡◌, true}
use Rattle.load_plan.specs.Parts.{cost, known_at}
use Rattle.load_plan.proofs.Reaching.{Closing}
use Rattle.load_plan.proofs.reach.closed_with.Given as goal

abbrev pub invariant-modules : goal.invariant-modules
invariant-modules l = record {
  closing : Closing l.graph l.settled l.reach.known.items l.reach.left.items;
  start : known_at l.reach.known.items l.start ≡ true;
}

abbrev pub decreases-modules : goal.decreases-modules
decreases-modules l = cost l.reach.known.items l.reach.left.items
