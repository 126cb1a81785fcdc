use Rattle.std.proofs.Common.{arith, inl}
use Rattle.kmod_query.specs.Objects.{object_of, objects_of}
use Rattle.kmod_query.specs.Stacks.{stack_of}
use Rattle.kmod_query.proofs.ProbeLemmas.{Gives-fill, OnOk-map}
use Rattle.kmod_query.proofs.probes.fill.Goals as goal

pub returns-clause-made : goal.returns-clause-made
returns-clause-made c =
    OnOk-map c.push_fill.result
    (λ pushed facts whole below stands. record {
      soft = stands.soft;
      fronts = stands.fronts;
      gives = Gives-fill facts c.args.course.now.left c.saturating_sub-course.result c.args.course.now.met (object_of c.args.own) (stack_of facts c.args.course.now.stack.items) (stack_of facts c.push_fill.new.stack.items) (objects_of c.args.course.now.list.items) whole
          below c.saturating_sub-course.ensures (pushed facts) stands.gives;
    })
    c.push_fill.ensures

pub returns-clause-falls : goal.returns-clause-falls
returns-clause-falls c =
    OnOk-map c.push_fill.result (λ pushed below. inl (omega (arith, below, c.saturating_sub-course.ensures))) c.push_fill.ensures
