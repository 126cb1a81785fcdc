use Rattle.std.proofs.Common.{◌≡◌, ◌∙◌, ◌<◌, [], length, ap, sym, Ok}
use Rattle.std.specs.List.{All}
use Rattle.load_plan.specs.declared.graph.Target.TheVariants.{Slot}
use Rattle.load_plan.specs.Walk.{◌>>=◌}
use Rattle.load_plan.specs.Plan.{marked, visit}
use Rattle.load_plan.specs.ForProofs.{steps_of}
use Rattle.load_plan.proofs.HardVisits.{visit_is_walk}
use Rattle.load_plan.proofs.StepLemmas.{steps_marked}
use Rattle.load_plan.proofs.plans.plan_in.Goals as goal
use Rattle.load_plan.proofs.plans.plan_in.Goals.{then-has_no_soft_module, else-has_no_soft_module+in_ok-order-2}

pub returns-clause-within : goal.returns-clause-within
returns-clause-within c = elim c.if-has_no_soft_module.branch [
  | then-has_no_soft_module w ↦ rw w.order-is c.in_ok-order.ensures.within
  | else-has_no_soft_module+in_ok-order-2 w ↦ rw w.order-is w.in_ok-order-2.ensures.within
]

pub returns-clause-steps : goal.returns-clause-steps
returns-clause-steps c =
    let visited : visit c.args.graph.now (length c.args.graph.now) [] [] (Slot c.args.start) ≡ c.if-has_no_soft_module.order.items = elim c.if-has_no_soft_module.branch [
      | then-has_no_soft_module w ↦ visit_is_walk c.args.graph.now c.args.start c.in_ok-order.field-0.order.items (c.has_no_soft_module.ensures w.if-has_no_soft_module.true) c.in_ok-order.ensures.order ∙ ap (λ v. v.items) (sym w.order-is)
      | else-has_no_soft_module+in_ok-order-2 w ↦ sym w.in_ok-order-2.ensures.order ∙ ap (λ v. v.items) (sym w.order-is)
    ] in
    let within : All (λ m. m < length c.args.graph.now) c.if-has_no_soft_module.order.items = elim c.if-has_no_soft_module.branch [
      | then-has_no_soft_module w ↦ rw w.order-is c.in_ok-order.ensures.within
      | else-has_no_soft_module+in_ok-order-2 w ↦ rw w.order-is w.in_ok-order-2.ensures.within
    ] in
    let same : steps_of c.in_ok-order.field-0.marks.items c.if-has_no_soft_module.order.items ≡ marked c.in_ok-order.field-0.order.items c.if-has_no_soft_module.order.items = steps_marked (length c.args.graph.now) c.in_ok-order.field-0.marks.items c.in_ok-order.field-0.order.items c.if-has_no_soft_module.order.items c.in_ok-order.ensures.long c.in_ok-order.ensures.marks within in
    ap (λ r. r >>= λ reached. Ok (marked reached (visit c.args.graph.now (length c.args.graph.now) [] [] (Slot c.args.start)))) c.in_ok-order.ensures.order
    ∙ ap (λ ms. Ok (marked c.in_ok-order.field-0.order.items ms)) visited
    ∙ ap Ok (sym same)
