use Rattle.root_row.specs.Seats.{IsOf}
use Rattle.bench.proofs.leaves.make_round.Given as goal

abbrev pub invariant-loop-slot : goal.invariant-loop-slot
invariant-loop-slot g l = IsOf l.row l.leaf
