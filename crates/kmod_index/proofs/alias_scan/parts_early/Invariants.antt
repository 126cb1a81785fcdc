use Rattle.std.proofs.Common.{◌≡◌, length}
use Rattle.kmod_index.specs.ForProofs.{parts_early}
use Rattle.kmod_index.proofs.alias_scan.parts_early.Given as goal

-- what was read is the same so far
abbrev pub invariant-loop-byte : goal.invariant-loop-byte
invariant-loop-byte l = parts_early l.text l.front ≡ parts_early l.rest l.others

abbrev pub decreases-loop-byte : goal.decreases-loop-byte
decreases-loop-byte l = length l.rest
