use Rattle.std.proofs.Common.{◌≡◌, ◌+◌, length}
use Rattle.module_table.proofs.making.own_leaves.Given as goal

abbrev pub invariant-loop-seat : goal.invariant-loop-seat
invariant-loop-seat l = length l.locks.items + length l.seat-iterator.rest.items ≡ length l.fn.seats.items
