use Rattle.std.proofs.Common.{◌∙◌}
use Rattle.dep_index.proofs.DraftLemmas.{name_found}
use Rattle.dep_index.proofs.catalogue.draft.is_among.Goals as goal

pub returns : goal.returns
returns c = c.contains_key.ensures ∙ name_found c.args.name.now c.args.earlier.now.entries
