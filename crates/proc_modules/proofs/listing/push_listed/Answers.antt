use Rattle.proc_modules.proofs.ListingLemmas.{known_slot}
use Rattle.proc_modules.proofs.listing.push_listed.Goals as goal

pub state-requires : goal.state-requires
state-requires g c = known_slot c.args.catalogue.now (g.M.Modules.catalogue c.args.table.now) c.args.slot c.requires.over c.requires.listed.known
