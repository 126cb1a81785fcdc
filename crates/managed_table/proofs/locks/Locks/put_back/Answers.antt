use Rattle.std.proofs.Common.{◌∙◌}
use Rattle.managed_table.proofs.Locking.{still_in_hand, same_turn}
use Rattle.managed_table.proofs.locks.Locks.put_back.Goals as goal

pub hand_on-requires-clause-holds : goal.hand_on-requires-clause-holds
hand_on-requires-clause-holds g c = still_in_hand _ _ _ c.if-not-try_let_go.ensures.told _ _ c.requires.holds

pub returns-then-not-try_let_go-clause-turn : goal.returns-then-not-try_let_go-clause-turn
returns-then-not-try_let_go-clause-turn g c = c.hand_on.ensures.turn ∙ same_turn _ _ _ c.if-not-try_let_go.ensures.told
