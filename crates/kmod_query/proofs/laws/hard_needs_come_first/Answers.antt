use Rattle.kmod_query.proofs.OrderLemmas.{lines-of_list, needs-first}
use Rattle.kmod_query.proofs.laws.hard_needs_come_first.Goals as goal

pub returns-clause-order : goal.returns-clause-order
returns-clause-order c = needs-first

pub returns-clause-lines : goal.returns-clause-lines
returns-clause-lines c = lines-of_list
