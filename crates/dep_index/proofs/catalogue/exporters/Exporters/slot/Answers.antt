use Rattle.std.proofs.Common.{◌∙◌, ap}
use Rattle.dep_index.specs.Catalogue.Exports.{slot_at}
use Rattle.dep_index.proofs.LinkLemmas.{lookup-links}
use Rattle.dep_index.proofs.catalogue.exporters.Exporters.slot.Goals as goal

pub returns : goal.returns
returns c = c.copied.ensures ∙ c.get.ensures.value ∙ lookup-links c.self.inside.by_symbol.entries c.args.symbol.now ∙ ap (λ links. slot_at links c.args.symbol.now) c.self.view_is
