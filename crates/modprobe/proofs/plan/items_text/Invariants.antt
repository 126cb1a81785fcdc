use Rattle.std.proofs.Common.{◌≡◌, take, flat_map}
use Rattle.modprobe.specs.Plans.{item_text}
use Rattle.modprobe.proofs.plan.items_text.Given as goal

abbrev pub invariant-loop-item : goal.invariant-loop-item
invariant-loop-item l = l.text.items ≡ flat_map (item_text l.setup) (take l.item-index l.items)
