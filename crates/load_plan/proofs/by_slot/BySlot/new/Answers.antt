use Rattle.load_plan.proofs.BySlot.{values-none}
use Rattle.load_plan.proofs.by_slot.BySlot.new.Goals as goal

pub returns : goal.returns
returns g c = rw (c.in_ok-filled.ensures) (values-none _ _ c.args.count)
