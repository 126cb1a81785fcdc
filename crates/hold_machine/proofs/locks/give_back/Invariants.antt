use Rattle.std.proofs.Common.{◌≡◌, ◌⊎◌, ℕ, Some, length}
use Rattle.hold_machine.specs.Locks.{owner_in}
use Rattle.hold_machine.proofs.locks.give_back.Given as goal

abbrev pub invariant-loop-slot : goal.invariant-loop-slot
invariant-loop-slot l = record {
  len : length l.owners ≡ length l.fn.owners;
  given : (m c : ℕ) → owner_in l.fn.owners m ≡ Some c → (c ≡ l.call) ⊎ (owner_in l.owners m ≡ Some c);
}
