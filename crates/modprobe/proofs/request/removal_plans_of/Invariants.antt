use Rattle.std.proofs.Common.{◌≡◌, ◌<◌, ℕ, List, [], drop, length, All}
use Rattle.modprobe.specs.Loads.{removal_plans_of}
use Rattle.modprobe.proofs.request.removal_plans_of.Given as goal

-- the targets that are left give what all give
abbrev pub invariant-loop-target : goal.invariant-loop-target
invariant-loop-target l = record {
  left : removal_plans_of l.setup l.plans.items (drop l.target-index l.targets) ≡ removal_plans_of l.setup [] l.targets;
  within : All (λ (plan : List ℕ). All (λ slot. slot < length l.setup.catalogue) plan) l.plans.items;
}
