use Rattle.std.proofs.Common.{◌≡◌, ◌+◌, ◌++◌, length}
use Rattle.text_parts.specs.Text.{cut_lines}
use Rattle.workload_drive.specs.Statements.{numbered}
use Rattle.workload_drive.specs.ForProofs.{lines_in}
use Rattle.workload_drive.proofs.lines.cut_lines.Given as goal

-- the lines so far, and those of the rest, are those of the input
abbrev pub invariant-loop-end : goal.invariant-loop-end
invariant-loop-end l = lines_in l.lines.items ++ numbered (length l.lines.items + 1) (cut_lines l.rest) ≡ numbered 1 (cut_lines l.input)

abbrev pub decreases-loop-end : goal.decreases-loop-end
decreases-loop-end l = length l.rest
