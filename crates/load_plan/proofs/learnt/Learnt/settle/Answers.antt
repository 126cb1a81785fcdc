use Rattle.std.proofs.Common.{◌≡◌, ◌∙◌, ◌++◌, ap, arith, false, subst, sym, true}
use Rattle.std.specs.List.{list_all, Contains}
use Rattle.load_plan.specs.declared.learnt.Verdict.TheVariants.{Meets}
use Rattle.load_plan.specs.Graph.{node_at}
use Rattle.load_plan.specs.Laws.{is_in}
use Rattle.load_plan.specs.Learnt.{IsMet}
use Rattle.load_plan.specs.Walk.{has}
use Rattle.load_plan.proofs.Lessons.{Learnt-add, Learnt-set, needs_target}
use Rattle.load_plan.proofs.learnt.Learnt.settle.Goals as goal

pub returns-in-Some-clause-known : goal.returns-in-Some-clause-known
returns-in-Some-clause-known c progress done marked kept known =
    let new : (has c.args.self.now.order.items c.args.slot ≡ false) × (has progress c.args.slot ≡ false) = c.requires.new progress done marked kept known in
    let met : IsMet c.args.graph.now progress c.targets-hard.result.now c.in-Some.meeting = c.in-Some.ensures c.args.graph.now (sym c.requires.marks) progress done marked kept known in
    let among : Contains (node_at c.args.graph.now c.args.slot).hard met.target = subst (λ l. Contains l met.target) c.targets-hard.ensures.targets met.among in
    Learnt-set c.args.graph.now progress done c.args.self.now.verdicts.items c.args.self.now.order.items c.args.slot (Meets c.in-Some.meeting.named) (omega (arith, c.requires.slot, c.requires.long)) new.0 (needs_target c.args.graph.now c.args.slot c.in-Some.meeting.named met.target among met.needs) known

pub returns-in_ok-add-clause-known : goal.returns-in_ok-add-clause-known
returns-in_ok-add-clause-known c progress done marked kept known =
    let new : (has c.args.self.now.order.items c.args.slot ≡ false) × (has progress c.args.slot ≡ false) = c.requires.new progress done marked kept known in
    let all : list_all (is_in (done ++ c.args.self.now.order.items)) (node_at c.args.graph.now c.args.slot).hard ≡ true =
    sym (ap (list_all (is_in (done ++ c.args.self.now.order.items))) c.targets-hard.ensures.targets) ∙ c.are_free.ensures c.args.graph.now (sym c.requires.marks) progress done marked kept known c.if-are_free.true in
    rw (c.in_ok-add.ensures.verdicts, c.in_ok-add.ensures.order) (Learnt-add c.args.graph.now progress done c.args.self.now.verdicts.items c.args.self.now.order.items c.args.slot (omega (arith, c.requires.slot, c.requires.long)) c.requires.slot new.0 new.1 c.requires.passed all known)
