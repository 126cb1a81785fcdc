use Rattle.std.proofs.Common.{arith}
use Rattle.std.proofs.lemmas.Grind.{common_steps}
use Rattle.kmod_index.proofs.ScanLemmas.{of_key_more}
use Rattle.kmod_index.proofs.symbol_scan.symbols_of_key.Goals as goal

pub lines-preserved : goal.lines-preserved
lines-preserved c = record {
  said = grind (arith, common_steps, of_key_more);
  few = grind (arith, common_steps);
}
