use Rattle.std.proofs.Common.{◌∙◌, ap}
use Rattle.dep_index.specs.Catalogue.{slot_named}
use Rattle.dep_index.proofs.SlotLemmas.{slot_of_key}
use Rattle.dep_index.proofs.catalogue.Catalogue.slot.Goals as goal

pub returns : goal.returns
returns c = c.get_index_of.ensures.index ∙ slot_of_key c.args.name.now c.self.inside.modules.entries ∙ ap (λ ds. slot_named ds c.args.name.now) c.self.view_is
