use Rattle.std.proofs.Common.{◌≤◌, ◌+◌, length}
use Rattle.gz_modprobe_drive.proofs.ignored.are_lines_good.Given as goal

abbrev pub invariant-lines : goal.invariant-lines
invariant-lines g l = l.number + length l.lines ≤ length l.fn.text + 1

abbrev pub decreases-lines : goal.decreases-lines
decreases-lines g l = length l.lines
