use Rattle.std.proofs.Common.{◌≡◌, ℕ, length}
use Rattle.dep_index.specs.Table.{count_of}
use Rattle.dep_index.specs.Laws.{IsShaped}
use Rattle.hold_machine.specs.Table.{Gives}
use Rattle.hold_machine.proofs.held.give.Given as goal

abbrev pub invariant-loop-table : goal.invariant-loop-table
invariant-loop-table l = record {
  gives : Gives l.number (λ (m : ℕ). m ≡ l.slot) l.fn.table l.table;
  shape : IsShaped (length l.fn.table.catalogue) (length l.fn.table.held.table.rows) l.table.held.table;
}

abbrev pub decreases-loop-table : goal.decreases-loop-table
decreases-loop-table l = count_of l.table.held.table l.number l.slot
