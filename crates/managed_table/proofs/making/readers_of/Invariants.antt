use Rattle.std.proofs.Common.{◌≡◌, ◌++◌}
use Rattle.managed_table.proofs.making.readers_of.Given as goal

abbrev pub invariant-loop-seat : goal.invariant-loop-seat
invariant-loop-seat l = l.readers.items ++ l.seat-iterator.rest.items ≡ l.fn.seats.items
