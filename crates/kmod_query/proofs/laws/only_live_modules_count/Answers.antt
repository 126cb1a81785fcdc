use Rattle.kmod_query.proofs.LawLemmas.{live-counts}
use Rattle.kmod_query.proofs.laws.only_live_modules_count.Goals as goal

pub returns : goal.returns
returns c = live-counts
