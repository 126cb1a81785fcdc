use Rattle.dep_index.specs.Catalogue.Directives.{directive_in}
use Rattle.dep_index.proofs.DraftLemmas.{change_meets}
use Rattle.dep_index.proofs.catalogue.draft.Draft.change.Goals as goal

pub returns : goal.returns
returns c = change_meets c.args.self.now c.in-Some.open c.len-slot.result (directive_in c.args.directive) c.in-Some.is c.requires.sound c.len-slot.ensures.len c.change.result c.change.new.self c.change.new.exporters c.change.ensures
