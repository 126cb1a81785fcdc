use Rattle.managed_table.proofs.Missing.{tried_then}
use Rattle.managed_table.proofs.locks.Locks.take_free.Goals as goal

pub returns-clause-told : goal.returns-clause-told
returns-clause-told g c = tried_then _ _ _ _ _ _ c.try_take.result c.if-not-is_free.ensures.told c.try_take.ensures.told
