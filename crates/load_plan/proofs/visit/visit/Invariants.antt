use Rattle.std.proofs.Common.{◌∷◌}
use Rattle.load_plan.proofs.Visiting.{Learns}
use Rattle.load_plan.proofs.Effort.{effort, stack_of}
use Rattle.load_plan.proofs.visit.visit.Given as goal

abbrev pub invariant-visit : goal.invariant-visit
invariant-visit l = Learns l.graph l.start l.marks.items l.learnt l.order.items (l.stage ∷ stack_of l.waiting.items)

abbrev pub decreases-visit : goal.decreases-visit
decreases-visit l = effort l.graph l.marks.items (l.stage ∷ stack_of l.waiting.items)
