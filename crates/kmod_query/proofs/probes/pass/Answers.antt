use Rattle.std.proofs.Common.{arith, inl}
use Rattle.kmod_query.specs.Objects.{objects_of}
use Rattle.kmod_query.specs.Stacks.{soft_of, stack_of}
use Rattle.kmod_query.specs.declared.probes.Task.TheVariants.{Soft}
use Rattle.kmod_query.proofs.ProbeLemmas.{Gives-passed, pushed}
use Rattle.kmod_query.proofs.probes.pass.Goals as goal

pub returns-clause-made : goal.returns-clause-made
returns-clause-made c facts known whole below stands =
    let course = c.args.course.now in
    let rest = c.args.rest in
    record {
      soft = stands.soft;
      fronts = stands.fronts;
      gives = Gives-passed facts course.left c.saturating_sub-course.result course.met rest.from c.args.front (soft_of facts rest.place rest.name.items) (stack_of facts course.stack.items) (stack_of facts c.push.new.self.items) (objects_of course.list.items) whole
          known c.requires c.saturating_sub-course.ensures (pushed facts course.stack.items c.push.new.self.items (Soft (record { name = rest.name; place = rest.place; from = c.args.front })) c.in_ok-push.ensures.items) stands.gives;
    }

pub returns-clause-falls : goal.returns-clause-falls
returns-clause-falls c below = inl (omega (arith, below, c.requires, c.saturating_sub-course.ensures))
