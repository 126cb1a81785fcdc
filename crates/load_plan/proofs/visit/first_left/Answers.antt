use Rattle.std.proofs.Common.{length}
use Rattle.load_plan.specs.Graph.{is_within}
use Rattle.load_plan.proofs.Lists.{passes_at}
use Rattle.load_plan.proofs.visit.first_left.Goals as goal

pub returns-clause-within : goal.returns-clause-within
returns-clause-within c = passes_at (is_within (length c.args.graph.now)) c.targets.result.now c.args.stage.visited c.in_ok-target.target.now _ c.targets.ensures.within c.in_ok-target.ensures.first
