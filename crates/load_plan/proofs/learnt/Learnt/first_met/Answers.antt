use Rattle.std.proofs.Common.{IfSome, inl, inr, subst, sym}
use Rattle.load_plan.specs.Learnt.{IsMet}
use Rattle.load_plan.proofs.Lessons.{met_among}
use Rattle.load_plan.proofs.learnt.Learnt.first_met.Goals as goal

pub loop-target-preserved : goal.loop-target-preserved
loop-target-preserved c graph long progress done marked kept known = elim c.earlier-first.ensures [
  | inl e ↦ subst (λ r. IfSome r (IsMet graph progress c.args.targets.now)) (sym e) (c.loop-target.invariant graph long progress done marked kept known)
  | inr e ↦ subst (λ r. IfSome r (IsMet graph progress c.args.targets.now)) (sym e) (met_among graph progress c.args.targets.now c.target-item.result c.loop-target.target-index c.loop-target-test.true c.target-item.is c.met_by.result (c.met_by.ensures graph long progress done marked kept known))
]
