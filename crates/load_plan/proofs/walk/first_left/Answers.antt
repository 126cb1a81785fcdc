use Rattle.std.proofs.Common.{length}
use Rattle.load_plan.specs.Graph.{is_within}
use Rattle.load_plan.proofs.Lists.{passes_at}
use Rattle.load_plan.proofs.walk.first_left.Goals as goal

pub returns-in-Some-clause-within : goal.returns-in-Some-clause-within
returns-in-Some-clause-within c = passes_at (is_within (length c.args.graph.now)) c.targets.result.now c.args.frame.walked c.in-Some.target.now _ c.targets.ensures.within c.in-Some.ensures.first
