use Rattle.std.proofs.Common.{◌∙◌, rules, subst}
use Rattle.dep_index.specs.Refusals.{reply_of, get_refusal}
use Rattle.root_row.specs.Seats.{Seated}
use Rattle.root_row.specs.StepsMade.{SameView}
use Rattle.use_indicator.specs.Counted.{GivenUp, TrySteps, UnusedSteps, UnusedGivenUp}
use Rattle.use_indicator.proofs.Missed.{guessed_in_vain, guessed_wrong, none_more, some_more}
use Rattle.use_indicator.proofs.leaf.Leaf.guess_first.Goals as goal

pub returns-clause-missed : goal.returns-clause-missed
returns-clause-missed c =
    let old = c.self.inside.seat in
    let mid = c.try_arrive.new.seat in
    let new = c.try_first-2.new.self in
    let same : SameView old mid = search rules in
    none_more c.try_first-2.result
    (SameView mid new × GivenUp c.args.tries c.args.slot mid new)
    (SameView c.args.self.now new × UnusedGivenUp c.args.tries c.args.slot c.args.self.now new)
    (λ t. subst (λ (s : Seated). SameView s new × UnusedGivenUp c.args.tries c.args.slot s new) c.self.view_is (
      (t.0.0 ∙ same.0, t.0.1 ∙ same.1),
      guessed_in_vain c.args.tries c.args.slot c.try_arrive.result old mid new c.if-try_arrive.false c.try_arrive.ensures.step t.1,
    ))
    c.try_first-2.ensures.missed

pub returns-clause-steps : goal.returns-clause-steps
returns-clause-steps c =
    let old = c.self.inside.seat in
    let mid = c.try_arrive.new.seat in
    let new = c.try_first-2.new.self in
    some_more c.try_first-2.result
    (λ r. TrySteps c.args.tries c.args.slot 0 (reply_of get_refusal r) mid new)
    (λ r. UnusedSteps c.args.tries c.args.slot 0 (reply_of get_refusal r) c.args.self.now new)
    (λ r t. subst (λ (s : Seated). UnusedSteps c.args.tries c.args.slot 0 (reply_of get_refusal r) s new) c.self.view_is
    (guessed_wrong c.args.tries c.args.slot (reply_of get_refusal r) c.try_arrive.result old mid new c.if-try_arrive.false c.try_arrive.ensures.step t))
    c.try_first-2.ensures.steps
