use Rattle.std.proofs.Common.{length, refl, ◌∙◌}
use Rattle.use_indicator.proofs.Missed.{given_up_more}
use Rattle.use_indicator.proofs.leaf.Leaf.again.Goals as goal

pub loop-preserved : goal.loop-preserved
loop-preserved g c =
    let before = c.loop.invariant.steps in
    let more = given_up_more (length before.0) 1 c.args.slot c.args.self.now c.loop.self c.attempt.new.self (before.0, refl, before.1) c.in_default.ensures.missed.1 in
    record {
      turns = (tt, tt);
      same = (c.in_default.ensures.missed.0.0 ∙ c.loop.invariant.same.0, c.in_default.ensures.missed.0.1 ∙ c.loop.invariant.same.1);
      steps = (more.0, more.2);
    }
