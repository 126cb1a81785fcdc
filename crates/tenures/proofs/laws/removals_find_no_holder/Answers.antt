use Rattle.tenures.proofs.RemovalLemmas.{removes_unheld}
use Rattle.tenures.proofs.laws.removals_find_no_holder.Goals as goal

pub returns : goal.returns
returns c = removes_unheld
