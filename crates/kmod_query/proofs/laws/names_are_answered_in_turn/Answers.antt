use Rattle.kmod_query.proofs.LawLemmas.{failures-in_turn, lines-in_turn, status-in_turn}
use Rattle.kmod_query.proofs.laws.names_are_answered_in_turn.Goals as goal

pub returns-clause-lines : goal.returns-clause-lines
returns-clause-lines c = lines-in_turn

pub returns-clause-failures : goal.returns-clause-failures
returns-clause-failures c = failures-in_turn

pub returns-clause-status : goal.returns-clause-status
returns-clause-status c = status-in_turn
