use Rattle.std.proofs.Common.{◌≡◌, map, take}
use Rattle.load_plan.specs.ForProofs.{steps_of}
use Rattle.load_plan.specs.OptionWords.{item_for}
use Rattle.load_plan.proofs.items.items_of.Given as goal

abbrev pub invariant-loop-slot : goal.invariant-loop-slot
invariant-loop-slot l = l.items.items ≡ map (item_for l.sources l.asked) (steps_of l.planned.marks.items (take l.slot-index l.planned.order.items))
