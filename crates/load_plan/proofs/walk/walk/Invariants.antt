use Rattle.std.proofs.Common.{◌∷◌}
use Rattle.load_plan.proofs.Walking.{KeepsWalk, effort, stack_of}
use Rattle.load_plan.proofs.walk.walk.Given as goal

abbrev pub invariant-walk : goal.invariant-walk
invariant-walk l = KeepsWalk l.graph l.tests l.start l.fn.marks.items l.marks.items l.order.items (l.frame ∷ stack_of l.waiting.items)

abbrev pub decreases-walk : goal.decreases-walk
decreases-walk l = effort l.graph l.marks.items (l.frame ∷ stack_of l.waiting.items)
