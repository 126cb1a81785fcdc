use Rattle.std.proofs.lemmas.Bool.Decides.{Decides-eqb}
use Rattle.std.proofs.lemmas.Slice.Eq.{strip_suffix_is}
use Rattle.table_folder.proofs.uses.before.Goals as goal

pub returns : goal.returns
returns c = strip_suffix_is Decides-eqb c.args.text.now c.args.end.now c.strip_suffix.result c.strip_suffix.ensures.cases
