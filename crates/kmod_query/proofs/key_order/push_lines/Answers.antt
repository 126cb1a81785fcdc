use Rattle.std.proofs.Common.{arith}
use Rattle.std.proofs.lemmas.Grind.{common_steps}
use Rattle.kmod_query.proofs.key_order.push_lines.Goals as goal

pub lines-preserved : goal.lines-preserved
lines-preserved c = grind (arith, common_steps)
