use Rattle.std.proofs.Common.{ℕ, All, take}
use Rattle.hold_machine.specs.Locks.{CanHave}
use Rattle.hold_machine.proofs.locks.can_have_all.Given as goal

abbrev pub invariant-loop-slot : goal.invariant-loop-slot
invariant-loop-slot l = All (λ (m : ℕ). CanHave l.owners l.call m) (take l.slot-index l.slots)
