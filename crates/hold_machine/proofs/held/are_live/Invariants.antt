use Rattle.std.proofs.Common.{ℕ, All, take}
use Rattle.hold_machine.specs.Table.{IsLiveIn}
use Rattle.hold_machine.proofs.held.are_live.Given as goal

abbrev pub invariant-loop-slot : goal.invariant-loop-slot
invariant-loop-slot l = All (λ (m : ℕ). IsLiveIn l.table m) (take l.slot-index l.slots)
