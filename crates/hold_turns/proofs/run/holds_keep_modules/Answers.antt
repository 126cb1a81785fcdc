use Rattle.std.proofs.Common.{false}
use Rattle.hold_turns.specs.declared.run.Choice.TheVariants.{Next}
use Rattle.hold_turns.proofs.CourseLemmas.{made_more, made_all}
use Rattle.hold_turns.proofs.run.holds_keep_modules.Goals as goal

pub loop-choice-init : goal.loop-choice-init
loop-choice-init g c = record { one = c.requires.one; made = λ new made. made; know = c.requires.know }

pub choose-requires-clause-one : goal.choose-requires-clause-one
choose-requires-clause-one g c = c.loop-choice.invariant.one

pub choose-requires-clause-know : goal.choose-requires-clause-know
choose-requires-clause-know g c = c.loop-choice.invariant.know

pub loop-choice-preserved : goal.loop-choice-preserved
loop-choice-preserved g c = record {
  one = c.choose.ensures.one;
  made = λ new later. c.loop-choice.invariant.made new (made_more c.loop-choice.calls c.choose.new.calls new c.args.choices.now c.loop-choice.choice-index (Next 0) c.loop-choice-test.true c.choose.ensures.chosen later);
  know = c.choose.ensures.know;
}

pub returns-clause-kept : goal.returns-clause-kept
returns-clause-kept g c = c.loop-choice.invariant.one.stays

pub returns-clause-one : goal.returns-clause-one
returns-clause-one g c = c.loop-choice.invariant.one

pub returns-clause-know : goal.returns-clause-know
returns-clause-know g c = c.loop-choice.invariant.know

pub returns-clause-made : goal.returns-clause-made
returns-clause-made g c = c.loop-choice.invariant.made c.loop-choice.calls (made_all c.loop-choice.calls c.args.choices.now c.loop-choice.choice-index c.loop-choice-test.false)
