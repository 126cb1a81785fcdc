use Rattle.managed_table.specs.Callers.{IsCallerOf}
use Rattle.bench.proofs.managed.load_all.Given as goal

abbrev pub invariant-loop-slot : goal.invariant-loop-slot
invariant-loop-slot g l = IsCallerOf l.table l.caller
