use Rattle.dep_index.specs.Refusals.{reply_of, get_refusal}
use Rattle.use_indicator.proofs.Missed.{answered_again}
use Rattle.use_indicator.proofs.leaf.Leaf.first.Goals as goal

pub returns-in-None-clause-steps : goal.returns-in-None-clause-steps
returns-in-None-clause-steps g c = answered_again c.args.slot (reply_of get_refusal c.again.result) c.args.self.now c.attempt.new.self c.again.new.self c.in-None.ensures.missed.1 c.again.ensures.steps
