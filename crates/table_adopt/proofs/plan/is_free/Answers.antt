use Rattle.table_adopt.proofs.SlotLemmas.{known_below}
use Rattle.table_adopt.proofs.plan.is_free.Goals as goal

pub in_use-requires : goal.in_use-requires
in_use-requires g c = rw c.requires.over (known_below c.args.catalogue.now c.args.slot c.requires.slot)
