use Rattle.std.proofs.Common.{◌≡◌, drop}
use Rattle.modprobe.specs.Loads.{rest_removals}
use Rattle.modprobe.proofs.session.Session.remove_rest.Given as goal

abbrev pub invariant-loop-slot : goal.invariant-loop-slot
invariant-loop-slot g l = record {
  left : rest_removals l.fn.self.setup.now (drop l.slot-index l.rest) (g.M.Modules.table l.self.table.now) ≡ rest_removals l.fn.self.setup.now l.rest (g.M.Modules.table l.fn.self.table.now);
  same_setup : l.self.setup ≡ l.fn.self.setup;
  same_table : l.self.table.ghost_name ≡ l.fn.self.table.ghost_name;
  same_names : g.M.Modules.names l.self.table.now ≡ g.M.Modules.names l.fn.self.table.now;
}
