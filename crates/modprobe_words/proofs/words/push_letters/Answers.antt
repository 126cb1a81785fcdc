use Rattle.std.proofs.Common.{arith}
use Rattle.std.proofs.lemmas.Grind.{common_steps}
use Rattle.modprobe_words.proofs.words.push_letters.Goals as goal

pub loop-letter-preserved : goal.loop-letter-preserved
loop-letter-preserved c = grind (arith, common_steps)
