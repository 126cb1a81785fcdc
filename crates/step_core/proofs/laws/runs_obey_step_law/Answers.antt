use Rattle.step_core.proofs.RunLaws.{runs_obey_step_law}
use Rattle.step_core.proofs.laws.runs_obey_step_law.Goals as goal

pub returns : goal.returns
returns c = runs_obey_step_law
