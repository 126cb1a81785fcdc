use Rattle.std.proofs.Common.{◌∙◌, sym}
use Rattle.load_plan.proofs.learnt.Learnt.met_by.Goals as goal

pub returns-in-Meets : goal.returns-in-Meets
returns-in-Meets c graph long progress done marked kept known =
    let told = rw c.in-Meets.is at (c.told.ensures graph long progress done marked kept known) in
    (told.0, rw c.in-Slot.is (c.named_over.ensures graph progress done (long ∙ sym c.requires.long) known))
