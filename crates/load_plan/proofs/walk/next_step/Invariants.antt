use Rattle.std.proofs.Common.{◌≡◌, length}
use Rattle.load_plan.specs.ForProofs.{left_of, Passes}
use Rattle.load_plan.proofs.walk.next_step.Given as goal

abbrev pub invariant-finished : goal.invariant-finished
invariant-finished l = record {
  slot : l.frame.slot ≡ l.fn.frame.slot;
  passes : Passes l.graph l.marks l.fn.frame l.frame;
}

abbrev pub decreases-finished : goal.decreases-finished
decreases-finished l = length (left_of l.graph l.frame)
