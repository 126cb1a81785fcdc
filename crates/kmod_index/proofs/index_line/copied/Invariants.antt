use Rattle.std.proofs.Common.{◌≡◌, take}
use Rattle.kmod_index.specs.ForProofs.{pointed}
use Rattle.kmod_index.proofs.index_line.copied.Given as goal

abbrev pub invariant-loop-line : goal.invariant-loop-line
invariant-loop-line l = l.copies.items ≡ pointed (take l.line-index l.lines)
