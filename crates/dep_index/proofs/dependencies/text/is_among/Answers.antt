use Rattle.std.proofs.Common.{◌∙◌}
use Rattle.dep_index.proofs.PairLemmas.{name_paired}
use Rattle.dep_index.proofs.dependencies.text.is_among.Goals as goal

pub returns : goal.returns
returns c = c.contains_key.ensures ∙ name_paired c.args.name.now c.args.index.now.entries
