use Rattle.managed_table.specs.Callers.{IsCallerOf}
use Rattle.bench.proofs.managed.callers_of.Given as goal

abbrev pub invariant-loop-thread : goal.invariant-loop-thread
invariant-loop-thread g l = IsCallerOf l.table l.first
