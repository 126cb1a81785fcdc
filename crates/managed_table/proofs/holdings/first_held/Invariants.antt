use Rattle.managed_table.specs.Holdings.{HasNone}
use Rattle.managed_table.proofs.holdings.first_held.Given as goal

abbrev pub invariant-loop-slot : goal.invariant-loop-slot
invariant-loop-slot l = HasNone l.leaf l.place l.slot
