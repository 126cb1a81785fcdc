use Rattle.std.proofs.Common.{◌∙◌}
use Rattle.use_indicator.proofs.Missed.{given_up_more}
use Rattle.use_indicator.proofs.leaf.Leaf.try_again.Goals as goal

pub loop-tried-preserved : goal.loop-tried-preserved
loop-tried-preserved c = record {
  same = (c.in_default.ensures.missed.0.0 ∙ c.loop-tried.invariant.same.0, c.in_default.ensures.missed.0.1 ∙ c.loop-tried.invariant.same.1);
  steps = given_up_more c.loop-tried._tried 1 c.args.slot c.args.self.now c.loop-tried.self c.attempt.new.self c.loop-tried.invariant.steps c.in_default.ensures.missed.1;
}
