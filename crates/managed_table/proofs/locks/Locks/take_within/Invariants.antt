use Rattle.std.proofs.Common.{◌≡◌}
use Rattle.managed_table.specs.Turns.{Misses}
use Rattle.managed_table.specs.Passes.{IsFree}
use Rattle.managed_table.proofs.locks.Locks.take_within.Given as goal

abbrev pub invariant-loop : goal.invariant-loop
invariant-loop g l = record {
  free : IsFree l.self.table.shared.table_id l.self.table.shared.key.row.value l.seat;
  id : l.seat.table_id ≡ l.fn.seat.table_id;
  missed : Misses l.lock l.counter l.fn.seat.me l.seat.me;
}
