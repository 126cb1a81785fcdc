use Rattle.std.proofs.Common.{◌≡◌, drop}
use Rattle.workload_drive.specs.Statements.{lines_behind}
use Rattle.workload_drive.specs.ForProofs.{lines_in}
use Rattle.workload_drive.proofs.statement.lines_behind.Given as goal

-- the lines that are left decide
abbrev pub invariant-loop-i : goal.invariant-loop-i
invariant-loop-i l = lines_behind l.section (lines_in (drop l.i l.lines)) ≡ lines_behind l.section (lines_in l.lines)
