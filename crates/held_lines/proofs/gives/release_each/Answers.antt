use Rattle.held_lines.proofs.SlotLemmas.{all_below}
use Rattle.held_lines.proofs.gives.release_each.Goals as goal

pub give_back_each-requires-clause-slots : goal.give_back_each-requires-clause-slots
give_back_each-requires-clause-slots c = rw c.requires.over (all_below c.args.setup.now.catalogue c.args.slots.now c.requires.slots)
