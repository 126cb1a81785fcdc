use Rattle.std.proofs.Common.{subst}
use Rattle.kmod_query.specs.Objects.{objects_of}
use Rattle.kmod_query.specs.Stacks.{IsFound, IsFront, soft_of, stack_of}
use Rattle.kmod_query.specs.World.{facts_of}
use Rattle.kmod_query.proofs.ProbeLemmas.{Gives-end, OnOk-map}
use Rattle.kmod_query.proofs.probes.probe_soft.Goals as goal

pub returns-then-rest-front-clause-made : goal.returns-then-rest-front-clause-made
returns-then-rest-front-clause-made c =
    let facts = facts_of c.args.world.now in
    let rest = c.args.rest in
    let met = c.args.course.now.met in
    OnOk-map c.pass.result
    (λ made whole below stands. made facts
    (subst (λ n. IsFront met c.of-front.result (soft_of facts rest.place n)) c.deref.ensures.value (c.of-front.ensures facts met stands.fronts))
    whole below stands)
    c.pass.ensures.made

pub returns-in-Some-clause-made : goal.returns-in-Some-clause-made
returns-in-Some-clause-made c =
    let facts = facts_of c.args.world.now in
    let rest = c.args.rest in
    OnOk-map c.probe.result
    (λ made whole below stands.
    let found = subst (λ n. IsFound (soft_of facts rest.place n) rest.from c.in_ok-found.field-0) c.deref-2.ensures.value (c.in_ok-found.ensures.item stands.soft) in
    made (subst (IsFound (soft_of facts rest.place rest.name.items) rest.from) c.in-Some.is found) whole below
    (record { soft = c.in_ok-found.ensures.lists stands.soft; fronts = stands.fronts; gives = stands.gives }))
    c.probe.ensures.made

pub returns-in-None-clause-made : goal.returns-in-None-clause-made
returns-in-None-clause-made c whole below stands =
    let facts = facts_of c.args.world.now in
    let rest = c.args.rest in
    let course = c.args.course.now in
    let found = subst (λ n. IsFound (soft_of facts rest.place n) rest.from c.in_ok-found.field-0) c.deref-2.ensures.value (c.in_ok-found.ensures.item stands.soft) in
    record {
      soft = c.in_ok-found.ensures.lists stands.soft;
      fronts = stands.fronts;
      gives = Gives-end facts course.left course.met rest.from (soft_of facts rest.place rest.name.items) (stack_of facts course.stack.items) (objects_of course.list.items) whole
          (subst (IsFound (soft_of facts rest.place rest.name.items) rest.from) c.in-None.is found) stands.gives;
    }
