use Rattle.std.proofs.Common.{arith, rules}
use Rattle.std.proofs.lemmas.Grind.{common_steps}
use Rattle.kmod_query.proofs.loaded_names.answer_found.Goals as goal

pub objects-preserved : goal.objects-preserved
objects-preserved c = record { soft = search rules; answer = grind (arith, common_steps) }

pub returns : goal.returns
returns c = grind (arith, common_steps)
