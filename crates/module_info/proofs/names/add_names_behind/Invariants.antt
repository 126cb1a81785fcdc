use Rattle.std.proofs.Common.{◌≡◌, ◌++◌, length}
use Rattle.module_info.specs.Parameters.{names_behind}
use Rattle.module_info.proofs.names.add_names_behind.Given as goal

-- the names that were added, and then those of the rest, are those of the whole
abbrev pub invariant-loop-place : goal.invariant-loop-place
invariant-loop-place l = l.names.items ++ names_behind l.mark l.rest ≡ l.initial.names.items ++ names_behind l.mark l.text

abbrev pub decreases-loop-place : goal.decreases-loop-place
decreases-loop-place l = length l.rest
