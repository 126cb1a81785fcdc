use Rattle.load_plan.proofs.Lawful.{plans_are_lawful}
use Rattle.load_plan.proofs.laws.plans_are_lawful.Goals as goal

pub returns : goal.returns
returns c = plans_are_lawful
