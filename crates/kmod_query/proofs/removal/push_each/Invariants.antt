use Rattle.std.proofs.Common.{◌≡◌, ◌++◌}
use Rattle.kmod_query.specs.Objects.{objects_of}
use Rattle.kmod_query.specs.Removal.{take_each}
use Rattle.kmod_query.specs.Removals.{removals_of}
use Rattle.kmod_query.proofs.removal.push_each.Given as goal

abbrev pub invariant-objects : goal.invariant-objects
invariant-objects l = removals_of l.stack.items ≡ take_each (objects_of l.yielded) ++ removals_of l.initial.stack.items
