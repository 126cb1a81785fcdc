use Rattle.std.proofs.Common.{◌≡◌, arith, length}
use Rattle.kmod_query.specs.Objects.{objects_of}
use Rattle.kmod_query.specs.Stacks.{stack_of}
use Rattle.kmod_query.specs.World.{facts_of}
use Rattle.kmod_query.proofs.ProbeLemmas.{Gives-done, Gives-over, Gives-popped, none_left}
use Rattle.kmod_query.proofs.probes.finish.Goals as goal

pub tasks-init : goal.tasks-init
tasks-init c whole stands = stands

pub returns-in-None : goal.returns-in-None
returns-in-None c whole begins =
    let course = c.tasks.course in
    let stands = c.tasks.invariant whole begins in
    let none : length c.tasks.course.stack.items ≡ 0 = omega (arith, c.in-None.ensures.cases.0, c.tasks.course.stack.ok.0) in
    record {
      list = Gives-done (facts_of c.args.world.now) course.left course.met course.stack.items (objects_of course.list.items) whole (none_left course.stack.items none) stands.gives;
      soft = stands.soft;
    }

pub tasks-preserved : goal.tasks-preserved
tasks-preserved c whole begins =
    let course = c.tasks.course in
    let stands = c.tasks.invariant whole begins in
    c.in_ok-make-in-Some.ensures.made whole c.tasks-test.true
    (record {
      soft = stands.soft;
      fronts = stands.fronts;
      gives = Gives-popped (facts_of c.args.world.now) course.left course.met course.stack.items c.pop.new.self.items c.in-Some.task (objects_of course.list.items) whole c.in-Some.ensures.items stands.gives;
    })

pub returns : goal.returns
returns c whole begins =
    let course = c.tasks.course in
    let stands = c.tasks.invariant whole begins in
    let over : c.tasks.course.left ≡ 0 = omega (arith, c.tasks-test.false) in
    record {
      list = Gives-over (facts_of c.args.world.now) course.left course.met (stack_of (facts_of c.args.world.now) course.stack.items) (objects_of course.list.items) whole over stands.gives;
      soft = stands.soft;
    }
