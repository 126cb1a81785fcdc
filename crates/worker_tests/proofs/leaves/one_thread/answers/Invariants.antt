use Rattle.root_row.specs.Seats.{IsOf}
use Rattle.worker_tests.proofs.leaves.one_thread.answers.Given as goal

abbrev pub invariant-loop-call : goal.invariant-loop-call
invariant-loop-call g l = record {
  leaf : IsOf l.row l.users.leaf;
  other : IsOf l.row l.users.other;
  reader : IsOf l.row l.users.reader;
}
