use Rattle.std.proofs.Common.{arith}
use Rattle.std.proofs.lemmas.Grind.{common_steps}
use Rattle.modprobe_words.proofs.long_words.name_part.Goals as goal

pub loop-at-preserved : goal.loop-at-preserved
loop-at-preserved c = grind (arith, common_steps)
