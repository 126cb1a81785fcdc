-- What is answered of a refused plan.
use Rattle.std.proofs.Common.{◌≡◌, List, ap, sym, ◌∙◌, Result}
use Rattle.load_plan.specs.declared.items.Item.{Item}
use Rattle.load_plan.specs.declared.items.PlanError.{PlanError}
use Rattle.load_plan.specs.declared.items.PlanError.TheVariants.{Cycle, Install, Unknown, Remove, Memory}
use Rattle.load_plan.specs.Items.{FailsAs}
use Rattle.modprobe.specs.Setup.{Setup}
use Rattle.modprobe.specs.Plans.{plan_outcome}
use Rattle.modprobe.specs.Outcomes.{Outcome}
use Rattle.modprobe.specs.ForProofs.{TellsRefusal}

pub tells_plan : (s : Setup) (e : PlanError) (given : Result (List Item) PlanError) (reply : Outcome) → FailsAs e given → TellsRefusal e reply → reply ≡ plan_outcome s given
tells_plan s (Cycle name) given reply fails tells = tells ∙ ap (plan_outcome s) (sym fails)
tells_plan s (Install name) given reply fails tells = tells ∙ ap (plan_outcome s) (sym fails)
tells_plan s (Unknown name) given reply fails tells = tells ∙ ap (plan_outcome s) (sym fails)
tells_plan s (Remove name) given reply fails tells = tells ∙ ap (plan_outcome s) (sym fails)
tells_plan s Memory given reply fails tells = absurd tells
