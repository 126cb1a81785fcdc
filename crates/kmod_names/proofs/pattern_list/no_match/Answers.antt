use Rattle.kmod_names.proofs.PatternLemmas.{set_is}
use Rattle.kmod_names.proofs.pattern_list.no_match.Goals as goal

pub returns : goal.returns
returns c = set_is c.in-Some.alias.pattern (rw c.in-Some.is at c.in_ok-alias.ensures)
