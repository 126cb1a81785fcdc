use Rattle.load_plan.proofs.learnt.Learnt.is_free.Goals as goal

pub returns-in-Free : goal.returns-in-Free
returns-in-Free c graph long progress done marked kept known _ = rw c.in-Slot.is (rw c.in-Free.is at (c.told.ensures graph long progress done marked kept known))
