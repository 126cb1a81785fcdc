use Rattle.std.proofs.Common.{◌≡◌, ℕ}
use Rattle.managed_table.specs.Turns.{Misses}
use Rattle.managed_table.specs.Passes.{IsFree}
use Rattle.managed_table.proofs.locks.Locks.wait_for.Given as goal

abbrev pub invariant-loop : goal.invariant-loop
invariant-loop g l = record {
  turns : (goal.iterator-loop g).can_next l.iterator' × (goal.iterator-loop g).is_finite l.iterator';
  free : IsFree l.self.table.shared.table_id l.self.table.shared.key.row.value l.seat;
  id : l.seat.table_id ≡ l.fn.seat.table_id;
  missed : (times : ℕ) × Misses l.lock times l.fn.seat.me l.seat.me;
}
