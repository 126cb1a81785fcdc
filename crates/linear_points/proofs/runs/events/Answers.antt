use Rattle.linear_points.proofs.Prefixes.{one_more}
use Rattle.linear_points.proofs.runs.events.Goals as goal

pub loop-index-preserved : goal.loop-index-preserved
loop-index-preserved c =
    one_more c.args.machine c.args.steps.now c.loop-index.index c.loop-index.machine c.step.new.self c.loop-index.found.items c.push.new.self.items _ c.in-Ok.event
    c.loop-index.invariant c.loop-index-test.true c.in-Ok.ensures.refused c.in-Ok.ensures.event c.in-Ok.ensures.state c.in-Ok.ensures.over c.in_ok-push-in-Ok.ensures.items
