use Rattle.std.proofs.Common.{◌≡◌, ◌++◌, length}
use Rattle.hold_machine.specs.Log.{newest_first}
use Rattle.hold_machine.proofs.log.noted.Given as goal

abbrev pub invariant-loop-last : goal.invariant-loop-last
invariant-loop-last g l = l.left ++ newest_first l.log ≡ l.values

abbrev pub decreases-loop-last : goal.decreases-loop-last
decreases-loop-last g l = length l.left
