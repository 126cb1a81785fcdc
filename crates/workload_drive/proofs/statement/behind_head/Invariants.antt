use Rattle.std.proofs.Common.{◌≡◌, drop}
use Rattle.workload_drive.specs.Statements.{behind_head}
use Rattle.workload_drive.specs.ForProofs.{lines_in}
use Rattle.workload_drive.proofs.statement.behind_head.Given as goal

-- the lines that are left decide
abbrev pub invariant-loop-i : goal.invariant-loop-i
invariant-loop-i l = behind_head l.end (lines_in (drop l.i l.lines)) ≡ behind_head l.end (lines_in l.lines)
