use Rattle.managed_table.proofs.Turning.{goes_back}
use Rattle.managed_table.proofs.locks.Locks.try_turn.Goals as goal

pub let_go-requires-clause-holds : goal.let_go-requires-clause-holds
let_go-requires-clause-holds g c = goes_back _ _ _ _ _ _ _ _ c.if-not-take_within.ensures.told c.requires.free.1 c.requires.may _ _ c.lend-answer.ensures.did c.lend-answer.ensures.view
