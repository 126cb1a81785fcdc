use Rattle.std.proofs.Common.{◌≡◌, ◌++◌, map, take}
use Rattle.load_plan.specs.declared.graph.Target.TheVariants.{Slot}
use Rattle.load_plan.proofs.sources.add_slots.Given as goal

abbrev pub invariant-loop-slot : goal.invariant-loop-slot
invariant-loop-slot l = l.targets.items ≡ l.fn.targets.items ++ map Slot (take l.slot-index l.needs)
