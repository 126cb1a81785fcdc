use Rattle.root_row.specs.Seats.{IsOf}
use Rattle.worker_tests.proofs.manager.lent.load_and_drain.Given as goal

abbrev pub invariant-loop : goal.invariant-loop
invariant-loop l = IsOf l.row l.book
