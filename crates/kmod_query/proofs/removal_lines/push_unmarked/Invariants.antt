use Rattle.std.proofs.Common.{◌≡◌, ◌++◌, length}
use Rattle.kmod_query.specs.Removal.{unmarked, unmarked_from}
use Rattle.kmod_query.proofs.removal_lines.push_unmarked.Given as goal

abbrev pub invariant-bytes : goal.invariant-bytes
invariant-bytes l = l.text.items ++ unmarked_from l.skipped l.rest ≡ l.initial.text.items ++ unmarked l.fn.command

abbrev pub decreases-bytes : goal.decreases-bytes
decreases-bytes l = length l.rest
