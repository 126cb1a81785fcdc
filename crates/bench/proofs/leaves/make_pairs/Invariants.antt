use Rattle.root_row.specs.Seats.{IsOf}
use Rattle.bench.proofs.leaves.make_pairs.Given as goal

abbrev pub invariant-loop : goal.invariant-loop
invariant-loop g l = IsOf l.row l.leaf
