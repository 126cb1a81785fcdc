use Rattle.std.proofs.Common.{◌≡◌, ◌++◌, drop}
use Rattle.workload_drive.specs.Statements.{text_before}
use Rattle.workload_drive.specs.ForProofs.{lines_in}
use Rattle.workload_drive.proofs.statement.text_before.Given as goal

-- the text so far goes on with that of the lines that are left
abbrev pub invariant-loop-line : goal.invariant-loop-line
invariant-loop-line l = l.text.items ++ text_before l.section (lines_in (drop l.line-index l.lines)) ≡ text_before l.section (lines_in l.lines)
