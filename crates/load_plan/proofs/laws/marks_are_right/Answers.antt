use Rattle.load_plan.proofs.Reached.{marks_are_right}
use Rattle.load_plan.proofs.laws.marks_are_right.Goals as goal

pub returns : goal.returns
returns c = marks_are_right
