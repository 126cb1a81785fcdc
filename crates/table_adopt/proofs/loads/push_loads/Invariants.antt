use Rattle.std.proofs.Common.{◌≡◌, ◌++◌, length}
use Rattle.table_adopt.specs.Plans.{loads_of}
use Rattle.table_adopt.proofs.loads.push_loads.Given as goal

-- the loads of the modules that are left follow those that were added
abbrev pub invariant-loop-oldest : goal.invariant-loop-oldest
invariant-loop-oldest g l =
    l.steps.items ++ loads_of l.catalogue (g.M.Modules.table l.table) l.rest ≡ l.initial.steps.items ++ loads_of l.catalogue (g.M.Modules.table l.table) l.kernel

abbrev pub decreases-loop-oldest : goal.decreases-loop-oldest
decreases-loop-oldest g l = length l.rest
