use Rattle.std.proofs.Common.{◌≤◌, length}
use Rattle.modprobe_files.proofs.host.last_name.Given as goal

abbrev pub invariant-loop-byte : goal.invariant-loop-byte
invariant-loop-byte l = (length l.rest ≤ length l.path) × (length l.name ≤ length l.path)

abbrev pub decreases-loop-byte : goal.decreases-loop-byte
decreases-loop-byte l = length l.rest
