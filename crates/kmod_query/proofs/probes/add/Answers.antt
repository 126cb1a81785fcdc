use Rattle.std.proofs.Common.{arith, inl}
use Rattle.kmod_query.specs.Stacks.{stack_of}
use Rattle.kmod_query.proofs.ProbeLemmas.{Gives-add}
use Rattle.kmod_query.proofs.probes.add.Goals as goal

pub returns-clause-made : goal.returns-clause-made
returns-clause-made c facts whole below stands =
    record {
      soft = stands.soft;
      fronts = stands.fronts;
      gives = Gives-add facts c.args.course.now.left c.saturating_sub-course.result c.args.course.now.met c.args.own (stack_of facts c.args.course.now.stack.items) c.args.course.now.list.items c.push.new.self.items whole
          below c.saturating_sub-course.ensures c.in_ok-push.ensures.items stands.gives;
    }

pub returns-clause-falls : goal.returns-clause-falls
returns-clause-falls c below = inl (omega (arith, below, c.saturating_sub-course.ensures))
