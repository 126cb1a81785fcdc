use Rattle.kmod_query.proofs.LawLemmas.{states-ignored}
use Rattle.kmod_query.proofs.laws.show_depends_ignores_states.Goals as goal

pub returns : goal.returns
returns c = states-ignored
