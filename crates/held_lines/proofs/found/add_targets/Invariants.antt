use Rattle.std.proofs.Common.{◌≡◌, ◌<◌, ℕ, drop, length, All}
use Rattle.held_lines.specs.Found.{add_targets}
use Rattle.held_lines.proofs.found.add_targets.Given as goal

-- the targets that are left come to what all come to
abbrev pub invariant-loop-target : goal.invariant-loop-target
invariant-loop-target l = record {
  left : add_targets l.setup l.slots.items (drop l.target-index l.targets) ≡ add_targets l.setup l.initial.slots.items l.targets;
  within : All (λ (slot : ℕ). slot < length l.setup.catalogue) l.slots.items;
}
