use Rattle.std.proofs.Common.{◌≡◌, ◌++◌, drop}
use Rattle.workload_drive.specs.Statements.{statements}
use Rattle.workload_drive.specs.ForProofs.{lines_in, statements_in}
use Rattle.workload_drive.proofs.statement.statements.Given as goal

-- the statements so far go on with those of the lines that are left
abbrev pub invariant-loop-line : goal.invariant-loop-line
invariant-loop-line l = statements_in l.said.items ++ statements (lines_in (drop l.line-index l.lines)) ≡ statements (lines_in l.lines)
