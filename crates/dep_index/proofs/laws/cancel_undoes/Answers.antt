use Rattle.dep_index.proofs.Cancelling.{cancel_undoes}
use Rattle.dep_index.proofs.laws.cancel_undoes.Goals as goal

pub returns : goal.returns
returns c = cancel_undoes
