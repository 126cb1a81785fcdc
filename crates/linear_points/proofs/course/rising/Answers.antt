use Rattle.std.proofs.Common.{arith}
use Rattle.std.proofs.lemmas.List.{length-map}
use Rattle.linear_points.specs.declared.point.Point.{Point}
use Rattle.linear_points.proofs.Kept.{rises_more, falls}
use Rattle.linear_points.proofs.course.rising.Goals as goal

pub loop-i-preserved : goal.loop-i-preserved
loop-i-preserved c = rises_more c.args.points.now c.loop-i.i _ _ c.loop-i.auto.i c.loop-i-test.true c.loop-i.invariant c.if-points-i.false

pub returns-then-points-i : goal.returns-then-points-i
returns-then-points-i c = (λ h. cc, λ rises. absurd (falls c.args.points.now c.loop-i.i _ _ c.loop-i.auto.i c.loop-i-test.true c.if-points-i.true rises))

pub returns : goal.returns
returns c = (λ h k below. c.loop-i.invariant k (omega (arith, below, c.loop-i-test.false, length-map c.args.points.now (λ (p : Point). p.index))), λ rises. cc)
