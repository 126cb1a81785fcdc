use Rattle.root_row.specs.Seats.{IsOf}
use Rattle.bench.proofs.leaves.load_all.Given as goal

abbrev pub invariant-loop-slot : goal.invariant-loop-slot
invariant-loop-slot l = IsOf l.row l.book
