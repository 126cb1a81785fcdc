use Rattle.load_plan.proofs.Reached.{plan_order}
use Rattle.load_plan.proofs.laws.plans_are_orders.Goals as goal

pub returns : goal.returns
returns c = plan_order
