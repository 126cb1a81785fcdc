use Rattle.kmod_names.proofs.PatternLemmas.{is_read, unread}
use Rattle.kmod_names.proofs.pattern_list.alias_for.Goals as goal

pub returns-in-Some : goal.returns-in-Some
returns-in-Some c = is_read c.args.pattern.now c.in-Some.alias.pattern (rw c.in-Some.is at c.in_ok-alias.ensures)

pub returns-in-None : goal.returns-in-None
returns-in-None c = unread c.args.pattern.now c.no_match.result (rw c.in-None.is at c.in_ok-alias.ensures) c.no_match.ensures
