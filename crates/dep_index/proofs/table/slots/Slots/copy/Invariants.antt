use Rattle.std.proofs.Common.{◌≡◌, take}
use Rattle.dep_index.specs.Slots.{modules_in}
use Rattle.dep_index.proofs.table.slots.Slots.copy.Given as goal

-- the slots up to the index are copied
abbrev pub invariant-loop-slot : goal.invariant-loop-slot
invariant-loop-slot l = l.copied ≡ modules_in (take l.slot-index l.slot-items)
