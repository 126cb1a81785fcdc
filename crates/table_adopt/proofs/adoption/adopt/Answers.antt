use Rattle.std.proofs.Common.{ℕ, ◌<◌, List, ◌++◌, length, All, sym, ap, subst, ◌∙◌}
use Rattle.table_adopt.specs.declared.step.Step.{Step}
use Rattle.table_adopt.specs.Steps.{slot_of}
use Rattle.table_adopt.specs.PlanParts.{PlanParts}
use Rattle.table_adopt.specs.Plans.{loads_of}
use Rattle.table_adopt.proofs.StepLemmas.{steps_alone, steps_within, lost_below}
use Rattle.table_adopt.proofs.adoption.adopt.Goals as goal

pub returns-clause-held : goal.returns-clause-held
returns-clause-held g c = steps_alone c.args.catalogue.now (g.M.Modules.table c.args.table.now) c.args.kernel.now c.laws.ensures.lawful.pairs

pub push_lost-requires : goal.push_lost-requires
push_lost-requires g c =
    let catalogue = c.args.catalogue.now in
    let is_lost = c.deref.ensures.value ∙ c.into_parts-steps.ensures.lost ∙ ap (λ (p : PlanParts). p.lost) c.in_ok-plan.ensures.plan in
    subst (λ (l : List ℕ). All (λ m. m < length catalogue) l) (sym is_lost)
    (lost_below catalogue (g.M.Modules.table c.args.table.now) c.args.kernel.now c.in_ok-plan.ensures.slots)

pub lines_of-requires : goal.lines_of-requires
lines_of-requires g c =
    let catalogue = c.args.catalogue.now in
    let t = g.M.Modules.table c.args.table.now in
    let kernel = c.args.kernel.now in
    let is_planned = c.into_parts-steps.ensures.steps ∙ ap (λ (p : PlanParts). p.steps) c.in_ok-plan.ensures.plan in
    let are_steps = c.deref-2.ensures.value ∙ c.in_ok-push_loads.ensures ∙ ap (λ (l : List Step). l ++ loads_of catalogue t kernel) is_planned in
    subst (λ (l : List Step). All (λ step. slot_of step < length catalogue) l) (sym are_steps)
    (steps_within catalogue t kernel c.in_ok-plan.ensures.slots)
