use Rattle.std.proofs.Common.{◌++◌, List, take}
use Rattle.load_plan.specs.declared.items.Item.{Item}
use Rattle.modprobe.specs.Settling.{AreIn, AreSure, PlansFor}
use Rattle.modprobe.proofs.session.Session.settle.Given as goal

abbrev pub invariant-loop-item : goal.invariant-loop-item
invariant-loop-item g l = record {
  plans : PlansFor l.self.setup.now l.planner;
  sure : (before : List Item) → AreIn l.self.setup.now before
      → AreSure l.self.setup.now (g.M.Modules.table l.self.table.now) before l.initial.planner.settled
      → AreSure l.self.setup.now (g.M.Modules.table l.self.table.now) (before ++ take l.item-index l.items) l.planner.settled;
}
