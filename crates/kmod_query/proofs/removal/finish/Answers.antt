use Rattle.std.proofs.Common.{◌≡◌, ◌-◌, ◌<◌, true, false, arith, length}
use Rattle.kmod_query.specs.Answers.{and_also}
use Rattle.kmod_query.specs.Removals.{removals_of}
use Rattle.kmod_query.specs.World.{facts_of}
use Rattle.kmod_query.proofs.RemovalLemmas.{Answers-done, Answers-end, Answers-ended, Answers-more}
use Rattle.kmod_query.proofs.removal.finish.Goals as goal

pub returns-in-None : goal.returns-in-None
returns-in-None c =
    let none : length c.tasks.course.stack.items ≡ 0 = omega (arith, c.in-None.ensures.cases.0, c.tasks.course.stack.ok.0) in
    Answers-done (facts_of c.args.asked.now.world) c.args.asked.now.query c.tasks._step c.tasks.course.way c.tasks.course.stack.items c.tasks.answer _ none c.tasks.invariant

pub returns : goal.returns
returns c =
    let over : 18446744073709551615 - c.tasks._step ≡ 0 = omega arith in
    Answers-end (facts_of c.args.asked.now.world) c.args.asked.now.query c.tasks._step c.tasks.course.way (removals_of c.tasks.course.stack.items) c.tasks.answer _ over c.tasks.invariant

pub returns-then-ended : goal.returns-then-ended
returns-then-ended c =
    let step = c.in_ok-own-in-Some.field-0 in
    let below : c.tasks._step < 18446744073709551615 = omega arith in
    let ended : step.ended ≡ true = c.if-ended.true in
    let added : c.in_ok-answer-in-Some.answer ≡ and_also c.tasks.answer step.answer = c.in_ok-answer-in-Some.ensures in
    Answers-ended (facts_of c.args.asked.now.world) c.args.asked.now.query c.tasks._step c.tasks.course.way c.make.new.course.way c.tasks.course.stack.items c.pop.new.self.items c.in-Some.task (removals_of c.make.new.course.stack.items) c.tasks.answer c.in_ok-answer-in-Some.answer _ step
    c.in-Some.ensures.items below c.tasks.invariant c.in_ok-own-in-Some.ensures ended added

pub tasks-preserved : goal.tasks-preserved
tasks-preserved c =
    let step = c.in_ok-own-in-Some.field-0 in
    let below : c.tasks._step < 18446744073709551615 = omega arith in
    let going : step.ended ≡ false = c.if-ended.false in
    let added : c.in_ok-answer-in-Some.answer ≡ and_also c.tasks.answer step.answer = c.in_ok-answer-in-Some.ensures in
    Answers-more (facts_of c.args.asked.now.world) c.args.asked.now.query c.tasks._step c.tasks.course.way c.make.new.course.way c.tasks.course.stack.items c.pop.new.self.items c.in-Some.task (removals_of c.make.new.course.stack.items) c.tasks.answer c.in_ok-answer-in-Some.answer _ step
    c.in-Some.ensures.items below c.tasks.invariant c.in_ok-own-in-Some.ensures going added
