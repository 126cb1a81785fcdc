use Rattle.std.proofs.Common.{◌≡◌, ◌∙◌, sym, Some}
use Rattle.dep_index.specs.Catalogue.{slot_named}
use Rattle.modprobe.proofs.SlotLemmas.{named_below}
use Rattle.modprobe.proofs.session.Session.reply_by_name.Goals as goal

pub act_on-requires : goal.act_on-requires
act_on-requires g c =
    let modules = c.args.self.now.setup.now.catalogue in
    let found : slot_named modules c.args.name ≡ Some c.in-Some.slot =
    rw (c.catalogue.ensures, c.as_bytes.ensures) at (sym c.slot.ensures ∙ c.in-Some.is) in
    named_below modules c.args.name c.in-Some.slot found
