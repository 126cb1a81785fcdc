use Rattle.std.proofs.Common.{ℕ, All, take}
use Rattle.hold_turns.specs.Events.{IsIn}
use Rattle.hold_machine.proofs.kernel.Kernel.has_all.Given as goal

abbrev pub invariant-loop-slot : goal.invariant-loop-slot
invariant-loop-slot l = All (λ (m : ℕ). IsIn l.self m) (take l.slot-index l.slots)
