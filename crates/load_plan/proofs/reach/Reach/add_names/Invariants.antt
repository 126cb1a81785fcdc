use Rattle.load_plan.specs.Parts.{Adds}
use Rattle.load_plan.proofs.reach.Reach.add_names.Given as goal

abbrev pub invariant-loop-name : goal.invariant-loop-name
invariant-loop-name l = Adds l.initial.self.known.items l.initial.self.left.items l.self.known.items l.self.left.items
