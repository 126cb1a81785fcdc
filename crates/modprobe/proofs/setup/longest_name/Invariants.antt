use Rattle.std.proofs.Common.{◌<◌, ◌≤◌, ℕ, length}
use Rattle.dep_index.specs.Catalogue.{description_at}
use Rattle.modprobe.proofs.setup.longest_name.Given as goal

abbrev pub invariant-loop-slot : goal.invariant-loop-slot
invariant-loop-slot l = record {
  bound : l.longest ≤ 9223372036854775807;
  names : (k : ℕ) → k < l.slot → length (description_at l.catalogue k).name ≤ l.longest;
}
