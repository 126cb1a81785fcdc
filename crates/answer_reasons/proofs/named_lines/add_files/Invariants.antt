use Rattle.std.proofs.Common.{◌+◌, ◌≤◌, length}
use Rattle.answer_reasons.proofs.named_lines.add_files.Given as goal

abbrev pub invariant-lines : goal.invariant-lines
invariant-lines l = l.number + length l.lines ≤ length l.fn.text + 1

abbrev pub decreases-lines : goal.decreases-lines
decreases-lines l = length l.lines
