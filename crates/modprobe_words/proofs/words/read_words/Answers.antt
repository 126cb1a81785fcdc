use Rattle.std.proofs.Common.{arith}
use Rattle.std.proofs.lemmas.Grind.{common_steps}
use Rattle.modprobe_words.proofs.words.read_words.Goals as goal

pub loop-at-preserved : goal.loop-at-preserved
loop-at-preserved c = grind (arith, common_steps)

pub returns-then-is_end : goal.returns-then-is_end
returns-then-is_end c = grind (arith, common_steps)

pub returns : goal.returns
returns c = grind (arith, common_steps)
