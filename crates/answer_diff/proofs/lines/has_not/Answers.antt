use Rattle.std.proofs.Common.{arith}
use Rattle.std.proofs.lemmas.Grind.{common_steps}
use Rattle.answer_diff.proofs.lines.has_not.Goals as goal

pub loop-own-preserved : goal.loop-own-preserved
loop-own-preserved c = grind (arith, common_steps)
