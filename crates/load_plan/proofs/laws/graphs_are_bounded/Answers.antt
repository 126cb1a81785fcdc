use Rattle.load_plan.proofs.SourceLemmas.{graph_bounded}
use Rattle.load_plan.proofs.laws.graphs_are_bounded.Goals as goal

pub returns : goal.returns
returns c = graph_bounded
