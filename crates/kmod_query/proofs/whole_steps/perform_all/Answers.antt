use Rattle.std.proofs.Common.{◌≡◌, ◌-◌, ◌<◌, refl, arith, length}
use Rattle.kmod_query.specs.Wholes.{course_of}
use Rattle.kmod_query.specs.World.{facts_of}
use Rattle.kmod_query.proofs.WholeLemmas.{left-end, left-more, left-none}
use Rattle.kmod_query.proofs.whole_steps.perform_all.Goals as goal

pub returns-in-None : goal.returns-in-None
returns-in-None c =
    let none : length c.tasks.course.stack.items ≡ 0 = omega (arith, c.in-None.ensures.cases.0, c.tasks.course.stack.ok.0) in
    left-none (facts_of c.args.asked.now.world) c.args.holders.now c.args.asked.now.query c.tasks._step c.tasks.course.way c.tasks.course.stack.items c.pop.new.self.items c.tasks.course.taken.items c.tasks.course.failures.items c.tasks.course.failed _
    none c.in-None.ensures.items c.tasks.invariant

pub returns : goal.returns
returns c =
    let over : 18446744073709551615 - c.tasks._step ≡ 0 = omega arith in
    left-end (facts_of c.args.asked.now.world) c.args.holders.now c.args.asked.now.query c.tasks._step (course_of c.tasks.course) _ over c.tasks.invariant

pub tasks-preserved : goal.tasks-preserved
tasks-preserved c =
    let below : c.tasks._step < 18446744073709551615 = omega arith in
    left-more (facts_of c.args.asked.now.world) c.args.holders.now c.args.asked.now.query c.tasks._step (course_of c.tasks.course) (course_of c.perform.new.course) _ c.tasks.course.stack.items c.pop.new.self.items c.in-Some.task
    c.in-Some.ensures.items refl below c.in_ok-perform-in-Some.ensures c.tasks.invariant
