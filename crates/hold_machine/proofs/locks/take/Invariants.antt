use Rattle.std.proofs.Common.{◌≡◌, length, take}
use Rattle.hold_machine.specs.Locks.{AllKept, AllHad}
use Rattle.hold_machine.proofs.locks.take.Given as goal

abbrev pub invariant-loop-slot : goal.invariant-loop-slot
invariant-loop-slot l = record {
  len : length l.owners ≡ length l.fn.owners;
  kept : AllKept l.fn.owners l.owners;
  had : AllHad l.call (take l.slot-index l.slots) l.owners;
}
