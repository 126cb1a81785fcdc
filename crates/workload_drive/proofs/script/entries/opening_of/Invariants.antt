use Rattle.std.proofs.Common.{◌≡◌, ◌++◌, drop}
use Rattle.workload_drive.specs.Script.{opening_of}
use Rattle.workload_drive.proofs.script.entries.opening_of.Given as goal

-- the changes so far go on with those of the lines that are left
abbrev pub invariant-loop-entry : goal.invariant-loop-entry
invariant-loop-entry l = l.opening.items ++ opening_of (drop l.entry-index l.entries) ≡ opening_of l.entries
