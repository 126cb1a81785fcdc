use Rattle.table_adopt.proofs.SlotLemmas.{known_below}
use Rattle.table_adopt.proofs.plan.course_at.Goals as goal

pub state-requires : goal.state-requires
state-requires g c = rw c.requires.over (known_below c.args.catalogue.now c.args.slot c.requires.slot)
