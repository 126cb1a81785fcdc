use Rattle.std.proofs.Common.{arith, rules}
use Rattle.std.proofs.lemmas.Grind.{common_steps}
use Rattle.kmod_query.proofs.loaded_names.answer_each.Goals as goal

pub words-preserved : goal.words-preserved
words-preserved c = record { soft = search rules; answer = grind (arith, common_steps) }
