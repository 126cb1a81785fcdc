use Rattle.root_row.specs.Seats.{IsOf}
use Rattle.worker_tests.proofs.manager.threads.ask.Given as goal

abbrev pub invariant-loop-turn : goal.invariant-loop-turn
invariant-loop-turn l = IsOf l.manager l.reader
