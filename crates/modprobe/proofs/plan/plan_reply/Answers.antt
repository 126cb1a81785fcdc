use Rattle.std.proofs.Common.{◌≡◌}
use Rattle.std.proofs.lemmas.Result.{IfOk-weaker}
use Rattle.modprobe.specs.Plans.{whole_plan, plan_outcome}
use Rattle.modprobe.specs.Outcomes.{Outcome}
use Rattle.modprobe.specs.ForProofs.{TellsRefusal}
use Rattle.modprobe.proofs.PlanLemmas.{tells_plan}
use Rattle.modprobe.proofs.plan.plan_reply.Goals as goal

pub returns-in-Err : goal.returns-in-Err
returns-in-Err c =
    let s = c.args.setup.now in
    let given = whole_plan s c.args.name in
    let e = c.in-Err.error in
    IfOk-weaker c.plan_refusal.result (λ (reply : Outcome). TellsRefusal e reply) (λ (reply : Outcome). reply ≡ plan_outcome s given) (λ reply tells. tells_plan s e given reply c.in-Err.ensures tells) c.plan_refusal.ensures
