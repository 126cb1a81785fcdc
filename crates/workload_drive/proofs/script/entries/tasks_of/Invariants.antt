use Rattle.std.proofs.Common.{◌≡◌, ◌++◌, drop}
use Rattle.workload_drive.specs.Script.{tasks_of}
use Rattle.workload_drive.proofs.script.entries.tasks_of.Given as goal

-- the lines so far go on with those among the lines that are left
abbrev pub invariant-loop-entry : goal.invariant-loop-entry
invariant-loop-entry l = l.tasks.items ++ tasks_of l.worker (drop l.entry-index l.entries) ≡ tasks_of l.worker l.entries
