use Rattle.std.proofs.Common.{◌≡◌}
use Rattle.hold_turns.proofs.bring.first_of.Given as goal

abbrev pub invariant-loop-slot : goal.invariant-loop-slot
invariant-loop-slot g l = g.T.Table.view l.table ≡ g.T.Table.view l.fn.table
