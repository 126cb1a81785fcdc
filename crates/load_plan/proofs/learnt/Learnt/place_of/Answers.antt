use Rattle.std.proofs.Common.{◌≡◌, ◌<◌, ◌∙◌, get_or, length, subst, sym}
use Rattle.load_plan.proofs.Lessons.{not_placed, same_place, verdict_with}
use Rattle.load_plan.proofs.learnt.Learnt.place_of.Goals as goal

pub returns-else-is_at : goal.returns-else-is_at
returns-else-is_at c = not_placed c.args.self.now.verdicts.items c.args.self.now.order.items c.args.slot
    (λ i own within here.
    let same : i ≡ c.in-Free.place = same_place i c.in-Free.place (sym own ∙ verdict_with c.args.self.now.verdicts.items c.args.slot c.index.result.now c.requires ∙ sym c.index.ensures ∙ c.in-Free.is) in
    c.is_at.ensures.off c.if-is_at.false (subst (λ x. x < length c.args.self.now.order.items) same within) (subst (λ x. get_or c.args.self.now.order.items x 0 ≡ c.args.slot) same here))

pub returns-in_default : goal.returns-in_default
returns-in_default c = not_placed c.args.self.now.verdicts.items c.args.self.now.order.items c.args.slot
    (λ i own within here. c.in_default.not-Free i (c.index.ensures ∙ sym (verdict_with c.args.self.now.verdicts.items c.args.slot c.index.result.now c.requires) ∙ own))
