use Rattle.std.proofs.Common.{length}
use Rattle.load_plan.proofs.Bounds.{lt-true}
use Rattle.load_plan.proofs.Reaching.{adds-none}
use Rattle.load_plan.proofs.reach.Reach.add_target.Goals as goal

pub add-requires : goal.add-requires
add-requires c = lt-true c.in-Slot.slot (length c.args.self.now.known.items) (rw c.in-Slot.is at c.requires)

pub returns-in-Missing-clause-adds : goal.returns-in-Missing-clause-adds
returns-in-Missing-clause-adds c = adds-none c.args.self.now.known.items c.args.self.now.left.items
