use Rattle.std.proofs.Common.{◌≡◌, ◌∙◌, sym, Some}
use Rattle.dep_index.specs.Catalogue.{slot_named}
use Rattle.modprobe.proofs.SlotLemmas.{slot_below}
use Rattle.modprobe.proofs.session.Session.is_there.Goals as goal

pub state-requires : goal.state-requires
state-requires g c =
    let s = c.args.self.now in
    let found : slot_named s.setup.now.catalogue c.args.name.now ≡ Some c.in-Some.slot =
    rw (c.catalogue.ensures, c.as_bytes.ensures) at (sym c.slot.ensures ∙ c.in-Some.is) in
    rw s.over (slot_below s.setup.now.catalogue c.args.name.now c.in-Some.slot found)
