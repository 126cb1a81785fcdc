use Rattle.std.proofs.Common.{sym, ◌∙◌}
use Rattle.table_adopt.proofs.SlotLemmas.{known_below, named_below}
use Rattle.table_adopt.proofs.loads.push_load.Goals as goal

pub state-requires : goal.state-requires
state-requires g c =
    let catalogue = c.args.catalogue.now in
    let below = named_below catalogue c.as_bytes.result.now c.in-Some.slot (sym c.slot.ensures ∙ c.in-Some.is) in
    rw c.requires (known_below catalogue c.in-Some.slot below)
