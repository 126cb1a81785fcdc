use Rattle.managed_table.proofs.Missing.{took_later, still_free}
use Rattle.managed_table.proofs.locks.Locks.take.Goals as goal

pub wait_for-requires-clause-free : goal.wait_for-requires-clause-free
wait_for-requires-clause-free g c = still_free _ _ c.args.lock 1 c.args.seat.now c.try_take.new.seat c.requires.free c.if-not-try_take.ensures.id c.if-not-try_take.ensures.told

pub returns-then-not-try_take-clause-taken : goal.returns-then-not-try_take-clause-taken
returns-then-not-try_take-clause-taken g c = took_later _ _ c.args.lock 1 c.args.seat.now.me _ _ c.if-not-try_take.ensures.told c.wait_for.ensures.taken
