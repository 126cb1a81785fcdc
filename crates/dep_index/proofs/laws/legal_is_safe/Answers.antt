use Rattle.dep_index.proofs.Safe.{legal_is_safe}
use Rattle.dep_index.proofs.laws.legal_is_safe.Goals as goal

pub returns : goal.returns
returns c = legal_is_safe
