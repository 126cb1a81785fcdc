use Rattle.std.proofs.Common.{◌≡◌, arith, false, subst, sym}
use Rattle.std.specs.List.{Contains}
use Rattle.load_plan.specs.Graph.{node_at}
use Rattle.load_plan.specs.Learnt.{Holds, IsMet}
use Rattle.load_plan.specs.Walk.{has}
use Rattle.load_plan.proofs.Lessons.{Learnt-set, needs_target}
use Rattle.load_plan.proofs.learnt.Learnt.renew.Goals as goal
use Rattle.load_plan.proofs.learnt.Learnt.renew.Goals.{in-Some-first_met, in-None}

pub returns-after-first_met-clause-known : goal.returns-after-first_met-clause-known
returns-after-first_met-clause-known c progress done marked kept known =
    let graph = c.args.graph.now in
    let named = c.in-Some.named in
    let new : (has c.args.self.now.order.items named ≡ false) × (has progress named ≡ false) = c.in-Some.ensures.new graph (sym c.requires.marks) progress done marked kept known in
    let holds : Holds graph named c.match-first_met.verdict = elim c.match-first_met.branch [
      | in-Some-first_met w ↦
          (let meeting = w.in-Some-first_met.meeting in
          let met : IsMet graph progress c.targets.result.now meeting = w.in-Some-first_met.ensures graph (sym c.requires.marks) progress done marked kept known in
          let among : Contains (node_at graph named).hard met.target = subst (λ l. Contains l met.target) c.targets.ensures.targets met.among in
          subst (Holds graph named) (sym w.verdict-is) (needs_target graph named meeting.named met.target among met.needs))
      | in-None w ↦ subst (Holds graph named) (sym w.verdict-is) tt
    ] in
    Learnt-set graph progress done c.args.self.now.verdicts.items c.args.self.now.order.items named c.match-first_met.verdict (omega (arith, c.in-Some.ensures.within, c.requires.marks, c.requires.long)) new.0 holds known
