use Rattle.managed_table.specs.Callers.{IsCallerOf}
use Rattle.workload_drive.proofs.script.by_caller.managed_workers.Given as goal

abbrev pub invariant-loop-reader : goal.invariant-loop-reader
invariant-loop-reader g l = IsCallerOf l.table l.caller
