use Rattle.std.proofs.Common.{◌+◌, ◌∙◌}
use Rattle.managed_table.proofs.Missing.{misses_again, took_later, still_free}
use Rattle.managed_table.proofs.locks.Locks.wait_for.Goals as goal

pub returns-then-mark-clause-taken : goal.returns-then-mark-clause-taken
returns-then-mark-clause-taken g c = took_later _ _ c.args.lock c.loop.invariant.missed.0 c.args.seat.now.me _ _ c.loop.invariant.missed.1 c.if-mark.ensures.told

pub loop-preserved : goal.loop-preserved
loop-preserved g c = record {
  turns = (tt, tt);
  free = still_free _ _ c.args.lock 1 c.loop.seat c.mark.new.seat c.loop.invariant.free c.if-mark.ensures.id c.if-mark.ensures.told;
  id = c.if-mark.ensures.id ∙ c.loop.invariant.id;
  missed = (c.loop.invariant.missed.0 + 1, misses_again c.args.lock c.loop.invariant.missed.0 1 c.args.seat.now.me c.loop.seat.me c.mark.new.seat.me c.loop.invariant.missed.1 c.if-mark.ensures.told);
}
