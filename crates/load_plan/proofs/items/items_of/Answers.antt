use Rattle.std.proofs.Common.{◌<◌, length, take}
use Rattle.std.proofs.lemmas.List.Elements.{All-map, All-take}
use Rattle.load_plan.specs.declared.items.Item.{Item}
use Rattle.load_plan.specs.declared.plans.PlanStep.{PlanStep}
use Rattle.load_plan.specs.ForProofs.{step_of, steps_of}
use Rattle.load_plan.specs.OptionWords.{item_for}
use Rattle.load_plan.proofs.items.items_of.Goals as goal

pub returns-clause-within : goal.returns-clause-within
returns-clause-within c =
    let n = length c.args.sources.now.catalogue.now in
    let marks = c.args.planned.now.marks.items in
    let order = take c.loop-slot.slot-index c.args.planned.now.order.items in
    rw c.loop-slot.invariant
    (All-map (λ (i : Item). i.slot < n) (item_for c.args.sources.now c.args.asked) (steps_of marks order)
    (All-map (λ (s : PlanStep). s.slot < n) (step_of marks) order
    (All-take (λ slot. slot < n) c.loop-slot.slot-index c.args.planned.now.order.items c.requires.within)))
