use Rattle.kmod_index.proofs.TrieLemmas.{pattern_of_key-plain}
use Rattle.kmod_index.proofs.aliases.push_key.Goals as goal

pub returns-in-None-clause-ok : goal.returns-in-None-clause-ok
returns-in-None-clause-ok c = rw (pattern_of_key-plain c.args.key.now c.in-None.ensures) c.push.ensures.ok
