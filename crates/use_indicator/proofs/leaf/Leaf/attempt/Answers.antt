use Rattle.std.proofs.Common.{rules, subst}
use Rattle.root_row.specs.Seats.{Seated}
use Rattle.root_row.specs.StepsMade.{SameView}
use Rattle.use_indicator.specs.Counted.{GivenUp}
use Rattle.use_indicator.proofs.Missed.{missed_once}
use Rattle.use_indicator.proofs.leaf.Leaf.attempt.Goals as goal

pub returns-then-not-try_arrive-clause-missed : goal.returns-then-not-try_arrive-clause-missed
returns-then-not-try_arrive-clause-missed c =
    let once = missed_once c.args.slot c.look-word.result c.try_arrive.result c.self.inside.seat c.look-word.new.seat c.try_arrive.new.seat c.if-not-try_arrive.true c.look-word.ensures.step c.try_arrive.ensures.step in
    let same : SameView c.self.inside.seat c.try_arrive.new.seat = search rules in
    subst (λ (s : Seated). SameView s c.try_arrive.new.seat × GivenUp 1 c.args.slot s c.try_arrive.new.seat) c.self.view_is (same, once)
