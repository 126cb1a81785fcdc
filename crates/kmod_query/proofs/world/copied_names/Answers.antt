use Rattle.std.proofs.Common.{arith}
use Rattle.std.proofs.lemmas.Grind.{common_steps}
use Rattle.kmod_query.proofs.world.copied_names.Goals as goal

pub texts-preserved : goal.texts-preserved
texts-preserved c = grind (arith, common_steps)
