use Rattle.std.proofs.Common.{◌≡◌, ℕ, false, All, take, Contains}
use Rattle.hold_machine.specs.Table.{holds_at, Gives}
use Rattle.hold_machine.proofs.held.give_all.Given as goal

abbrev pub invariant-loop-slot : goal.invariant-loop-slot
invariant-loop-slot l = record {
  gives : Gives l.number (Contains l.slots) l.fn.table l.table;
  given : All (λ (m : ℕ). holds_at l.table.held.table l.number m ≡ false) (take l.slot-index l.slots);
}
