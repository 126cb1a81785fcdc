use Rattle.std.proofs.Common.{◌≡◌, ℕ, true, All, take, Contains}
use Rattle.hold_machine.specs.Table.{holds_at, Takes}
use Rattle.hold_machine.proofs.held.take_all.Given as goal

abbrev pub invariant-loop-slot : goal.invariant-loop-slot
invariant-loop-slot l = record {
  takes : Takes l.number (Contains l.slots) l.fn.table l.table;
  taken : All (λ (m : ℕ). holds_at l.table.held.table l.number m ≡ true) (take l.slot-index l.slots);
}
