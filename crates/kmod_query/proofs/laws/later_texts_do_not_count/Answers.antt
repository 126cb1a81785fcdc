use Rattle.kmod_query.proofs.EarlyLemmas.{later-ignored}
use Rattle.kmod_query.proofs.laws.later_texts_do_not_count.Goals as goal

pub returns : goal.returns
returns c = later-ignored
