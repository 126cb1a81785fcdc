use Rattle.std.proofs.Common.{drop}
use Rattle.text_parts.specs.Text.{texts_of}
use Rattle.modprobe.specs.Settling.{PlansFor, Settling}
use Rattle.modprobe.proofs.session.Session.items_to_load.Given as goal

abbrev pub invariant-loop-target : goal.invariant-loop-target
invariant-loop-target g l = record {
  plans : PlansFor l.self.setup.now l.planner;
  settling : Settling l.self.setup.now (g.M.Modules.table l.self.table.now) (texts_of l.words) l.targets (drop l.target-index l.targets) l.planner.settled l.items.items;
}
