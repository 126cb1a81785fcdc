use Rattle.std.proofs.Common.{arith}
use Rattle.std.proofs.lemmas.Grind.{common_steps}
use Rattle.lint_ignores.proofs.unknown.add_unknown.Goals as goal

pub lines-preserved : goal.lines-preserved
lines-preserved c = record {
  said = grind (arith, common_steps);
  few = grind (arith, common_steps);
}
