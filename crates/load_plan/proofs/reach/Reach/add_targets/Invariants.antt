use Rattle.std.proofs.Common.{◌≡◌, ◌≤◌, length, drop, true}
use Rattle.std.specs.List.{list_all}
use Rattle.load_plan.specs.Parts.{Adds, is_target_in, known_at}
use Rattle.load_plan.proofs.reach.Reach.add_targets.Given as goal

abbrev pub invariant-last : goal.invariant-last
invariant-last l = record {
  adds : Adds l.initial.self.known.items l.initial.self.left.items l.self.known.items l.self.left.items;
  within : l.place ≤ length l.targets;
  all : list_all (is_target_in (known_at l.self.known.items)) (drop l.place l.targets) ≡ true;
}

abbrev pub decreases-last : goal.decreases-last
decreases-last l = l.place
