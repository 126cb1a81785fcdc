use Rattle.std.proofs.Common.{◌≡◌, take}
use Rattle.kmod_index.specs.Sums.{sums_of}
use Rattle.kmod_index.proofs.dep_table.sums_of.Given as goal

abbrev pub invariant-lines : goal.invariant-lines
invariant-lines l = l.sums.items ≡ sums_of (take l.line-index l.lines)
