use Rattle.load_plan.specs.Graph.{node_at}
use Rattle.load_plan.specs.Parts.{known_at}
use Rattle.load_plan.proofs.Reaching.{named_in}
use Rattle.load_plan.proofs.reach.Reach.add_named.Goals as goal

pub returns-clause-all : goal.returns-clause-all
returns-clause-all c =
    named_in (known_at c.add_targets.new.self.known.items) (known_at c.add_targets-2.new.self.known.items) (known_at c.add_targets-3.new.self.known.items) (node_at c.args.graph.now c.args.slot)
    c.in_ok-add_targets-2.ensures.adds.grows c.in_ok-add_targets-3.ensures.adds.grows
    (rw c.targets.ensures.targets at c.in_ok-add_targets.ensures.all)
    (rw c.targets-2.ensures.targets at c.in_ok-add_targets-2.ensures.all)
    (rw c.targets-3.ensures.targets at c.in_ok-add_targets-3.ensures.all)
