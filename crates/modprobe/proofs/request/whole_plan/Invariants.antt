use Rattle.std.proofs.Common.{◌≡◌, [], drop}
use Rattle.modprobe.specs.Plans.{items_of_plans}
use Rattle.modprobe.proofs.request.whole_plan.Given as goal

-- the targets that are left give what all give
abbrev pub invariant-loop-target : goal.invariant-loop-target
invariant-loop-target l =
    items_of_plans l.setup [] l.items.items (drop l.target-index l.target-items) ≡ items_of_plans l.setup [] [] l.target-items
