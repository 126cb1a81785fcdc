use Rattle.std.proofs.Common.{arith}
use Rattle.std.proofs.lemmas.Grind.{common_steps}
use Rattle.kmod_index.proofs.modules_dep.read_modules_dep.Goals as goal

pub lines-preserved : goal.lines-preserved
lines-preserved c = record {
  said = grind (arith, common_steps);
  kept = c.in_ok-add_line.ensures.names;
  few = grind (arith, common_steps);
}
