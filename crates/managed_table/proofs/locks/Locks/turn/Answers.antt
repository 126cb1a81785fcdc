use Rattle.managed_table.proofs.Turning.{may_act, goes_back, row_after, made}
use Rattle.managed_table.proofs.locks.Locks.turn.Goals as goal

pub lend-answer-requires-clause-hand : goal.lend-answer-requires-clause-hand
lend-answer-requires-clause-hand g c = may_act _ _ _ _ _ _ _ _ c.take.ensures.taken c.requires.free.1 c.requires.may

pub put_back-requires-clause-row : goal.put_back-requires-clause-row
put_back-requires-clause-row g c = row_after _ _ _ _ _ _ _ _ c.take.ensures.taken c.requires.free.1 c.requires.may _ _ c.lend-answer.ensures.did c.lend-answer.ensures.view

pub put_back-requires-clause-holds : goal.put_back-requires-clause-holds
put_back-requires-clause-holds g c = goes_back _ _ _ _ _ _ _ _ c.take.ensures.taken c.requires.free.1 c.requires.may _ _ c.lend-answer.ensures.did c.lend-answer.ensures.view

pub returns-clause-turn : goal.returns-clause-turn
returns-clause-turn g c = made _ _ _ _ _ _ _ _ c.take.ensures.taken c.requires.free.1 c.requires.may _ _ c.lend-answer.ensures.did c.lend-answer.ensures.view c.put_back.new.seat.me.0 c.put_back.ensures.turn
