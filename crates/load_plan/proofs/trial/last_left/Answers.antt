use Rattle.std.proofs.Common.{length}
use Rattle.load_plan.specs.Graph.{is_within}
use Rattle.load_plan.proofs.Lists.{passes_at}
use Rattle.load_plan.proofs.trial.last_left.Goals as goal

pub returns-clause-within : goal.returns-clause-within
returns-clause-within c = passes_at (is_within (length c.args.graph.now)) c.targets-hard.result.now _ c.in_ok-target.target.now _ c.targets-hard.ensures.within c.in_ok-target.ensures.first
