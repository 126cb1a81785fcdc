use Rattle.std.proofs.Common.{◌≡◌, drop}
use Rattle.modprobe.specs.Loads.{removals}
use Rattle.modprobe.proofs.session.Session.remove_plans.Given as goal

-- the plans that are left come to what all come to
abbrev pub invariant-loop-plan : goal.invariant-loop-plan
invariant-loop-plan g l = record {
  left : removals l.fn.self.setup.now (drop l.plan-index l.plans) (g.M.Modules.table l.self.table.now) ≡ removals l.fn.self.setup.now l.plans (g.M.Modules.table l.fn.self.table.now);
  same_setup : l.self.setup ≡ l.fn.self.setup;
  same_table : l.self.table.ghost_name ≡ l.fn.self.table.ghost_name;
  same_names : g.M.Modules.names l.self.table.now ≡ g.M.Modules.names l.fn.self.table.now;
}
