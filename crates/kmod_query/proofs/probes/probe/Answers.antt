use Rattle.std.proofs.Common.{subst, slice_get, Some, ◌≡◌, ◌∙◌, sym}
use Rattle.kmod_query.specs.Objects.{has, object_of, objects_of}
use Rattle.kmod_query.specs.Stacks.{soft_of, stack_of}
use Rattle.kmod_query.specs.World.{facts_of}
use Rattle.kmod_query.specs.declared.probes.Task.TheVariants.{Soft}
use Rattle.kmod_query.proofs.ProbeLemmas.{Gives-met, Gives-new, OnOk-map, not_true, not_false, pushed}
use Rattle.kmod_query.proofs.SoftLemmas.{fronts-met}
use Rattle.kmod_query.proofs.probes.probe.Goals as goal

pub returns-then-is_new-clause-made : goal.returns-then-is_new-clause-made
returns-then-is_new-clause-made c =
    let facts = facts_of c.args.world.now in
    let course = c.args.course.now in
    let rest = c.args.rest in
    let object = object_of c.args.found.object in
    let list = soft_of facts rest.place rest.name.items in
    OnOk-map c.push_probe.result
    (λ probes at whole below stands. record {
      soft = stands.soft;
      fronts = fronts-met facts course.met c.insert.new.self object course.fronts c.meet.new.self c.in_ok-is_new.ensures.met stands.fronts (c.in_ok-meet.ensures facts c.insert.new.self object at.1 (subst (λ n. slice_get (soft_of facts rest.place n) rest.from ≡ Some object) (sym c.deref.ensures.value) at.0));
      gives = Gives-new facts course.left c.saturating_sub-course.result course.met c.insert.new.self rest.from c.args.found.next list object (stack_of facts course.stack.items) (stack_of facts c.push.new.self.items) (stack_of facts c.push_probe.new.stack.items) (objects_of course.list.items) whole
          below c.saturating_sub-course.ensures at.0 at.1 (not_true (has course.met object) (sym c.in_ok-is_new.ensures.new ∙ c.if-is_new.true)) c.in_ok-is_new.ensures.met
          (pushed facts course.stack.items c.push.new.self.items (Soft (record { name = rest.name; place = rest.place; from = c.args.found.next })) c.in_ok-push.ensures.items)
          probes stands.gives;
    })
    c.push_probe.ensures

pub returns-clause-made : goal.returns-clause-made
returns-clause-made c at whole below stands =
    let facts = facts_of c.args.world.now in
    let course = c.args.course.now in
    let rest = c.args.rest in
    let object = object_of c.args.found.object in
    let list = soft_of facts rest.place rest.name.items in
    record {
      soft = stands.soft;
      fronts = fronts-met facts course.met c.insert.new.self object course.fronts c.meet.new.self c.in_ok-is_new.ensures.met stands.fronts (c.in_ok-meet.ensures facts c.insert.new.self object at.1 (subst (λ n. slice_get (soft_of facts rest.place n) rest.from ≡ Some object) (sym c.deref.ensures.value) at.0));
      gives = Gives-met facts course.left c.saturating_sub-course.result course.met c.insert.new.self rest.from c.args.found.next list object (stack_of facts course.stack.items) (stack_of facts c.push.new.self.items) (objects_of course.list.items) whole
          below c.saturating_sub-course.ensures at.0 at.1 (not_false (has course.met object) (sym c.in_ok-is_new.ensures.new ∙ c.if-is_new.false)) c.in_ok-is_new.ensures.met
          (pushed facts course.stack.items c.push.new.self.items (Soft (record { name = rest.name; place = rest.place; from = c.args.found.next })) c.in_ok-push.ensures.items)
          stands.gives;
    }
