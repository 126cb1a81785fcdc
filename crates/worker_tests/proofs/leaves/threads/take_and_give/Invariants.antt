use Rattle.std.proofs.Common.{◌≤◌}
use Rattle.root_row.specs.Seats.{IsOf}
use Rattle.worker_tests.proofs.leaves.threads.take_and_give.Given as goal

abbrev pub invariant-loop-round : goal.invariant-loop-round
invariant-loop-round g l = record {
  own : IsOf l.row l.leaf;
  taken : l.taken ≤ l._round;
  given : l.given ≤ l._round;
}
