use Rattle.managed_table.proofs.Missing.{took_later}
use Rattle.managed_table.proofs.locks.Locks.take_within.Goals as goal

pub returns-then-take_free-clause-told : goal.returns-then-take_free-clause-told
returns-then-take_free-clause-told g c = took_later _ _ c.args.lock c.loop.counter c.args.seat.now.me _ _ c.loop.invariant.missed c.if-take_free.ensures.told
