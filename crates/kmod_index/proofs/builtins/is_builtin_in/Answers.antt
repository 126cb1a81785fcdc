use Rattle.std.proofs.Common.{arith}
use Rattle.std.proofs.lemmas.Grind.{common_steps}
use Rattle.kmod_index.proofs.ScanLemmas.{among_more}
use Rattle.kmod_index.proofs.builtins.is_builtin_in.Goals as goal

pub lines-preserved : goal.lines-preserved
lines-preserved c = grind (arith, common_steps, among_more)
