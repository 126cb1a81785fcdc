use Rattle.std.proofs.Common.{ℕ, ◌-◌, ◌∙◌, arith, subst}
use Rattle.dep_index.specs.Refusals.{reply_of, get_refusal}
use Rattle.root_row.specs.StepsMade.{SameView}
use Rattle.use_indicator.specs.Counted.{GivenUp, TrySteps}
use Rattle.use_indicator.proofs.Missed.{given_up_more, tried_again, none_more, some_more}
use Rattle.use_indicator.proofs.leaf.Leaf.try_first.Goals as goal

pub returns-in-None-clause-missed : goal.returns-in-None-clause-missed
returns-in-None-clause-missed c =
    let miss = c.in-None.ensures.missed in
    let some = c.if-tries-eq0.false in
    none_more c.try_again.result
    (SameView c.attempt.new.self c.try_again.new.self × GivenUp (c.args.tries - 1) c.args.slot c.attempt.new.self c.try_again.new.self)
    (SameView c.args.self.now c.try_again.new.self × GivenUp c.args.tries c.args.slot c.args.self.now c.try_again.new.self)
    (λ later. (
      (later.0.0 ∙ miss.0.0, later.0.1 ∙ miss.0.1),
      subst (λ (n : ℕ). GivenUp n c.args.slot c.args.self.now c.try_again.new.self) (omega arith)
          (given_up_more 1 (c.args.tries - 1) c.args.slot c.args.self.now c.attempt.new.self c.try_again.new.self miss.1 later.1),
    ))
    c.try_again.ensures.missed

pub returns-in-None-clause-steps : goal.returns-in-None-clause-steps
returns-in-None-clause-steps c =
    let miss = c.in-None.ensures.missed in
    let some = c.if-tries-eq0.false in
    some_more c.try_again.result
    (λ r. TrySteps (c.args.tries - 1) c.args.slot 0 (reply_of get_refusal r) c.attempt.new.self c.try_again.new.self)
    (λ r. TrySteps c.args.tries c.args.slot 0 (reply_of get_refusal r) c.args.self.now c.try_again.new.self)
    (λ r later. subst (λ (n : ℕ). TrySteps n c.args.slot 0 (reply_of get_refusal r) c.args.self.now c.try_again.new.self) (omega arith)
    (tried_again (c.args.tries - 1) c.args.slot (reply_of get_refusal r) c.args.self.now c.attempt.new.self c.try_again.new.self miss.1 later))
    c.try_again.ensures.steps
