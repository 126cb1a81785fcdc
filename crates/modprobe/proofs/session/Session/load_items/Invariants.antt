use Rattle.std.proofs.Common.{◌≡◌, drop}
use Rattle.modprobe.specs.Loads.{loads}
use Rattle.modprobe.proofs.session.Session.load_items.Given as goal

-- the items that are left come to what all come to
abbrev pub invariant-loop-item : goal.invariant-loop-item
invariant-loop-item g l = record {
  left : loads l.fn.self.setup.now (drop l.item-index l.items) (g.M.Modules.table l.self.table.now) ≡ loads l.fn.self.setup.now l.items (g.M.Modules.table l.fn.self.table.now);
  same_setup : l.self.setup ≡ l.fn.self.setup;
  same_table : l.self.table.ghost_name ≡ l.fn.self.table.ghost_name;
  same_names : g.M.Modules.names l.self.table.now ≡ g.M.Modules.names l.fn.self.table.now;
}
