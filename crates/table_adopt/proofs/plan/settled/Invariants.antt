use Rattle.std.proofs.Common.{◌≡◌, drop}
use Rattle.table_adopt.specs.Plans.{no_plan, settled}
use Rattle.table_adopt.proofs.plan.settled.Given as goal

-- what becomes of the modules that are left follows the plan
abbrev pub invariant-loop-slot : goal.invariant-loop-slot
invariant-loop-slot g l =
    settled l.catalogue (g.M.Modules.table l.table) l.kernel l.plan (drop l.slot-index l.newest)
    ≡ settled l.catalogue (g.M.Modules.table l.table) l.kernel no_plan l.newest
