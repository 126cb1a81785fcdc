use Rattle.std.proofs.Common.{◌≡◌, ◌++◌}
use Rattle.managed_table.proofs.teller.tellers_of.Given as goal

abbrev pub invariant-loop-reader : goal.invariant-loop-reader
invariant-loop-reader l = l.tellers.items ++ l.reader-iterator.rest.items ≡ l.fn.readers.items
