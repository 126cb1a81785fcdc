use Rattle.std.proofs.Common.{◌≡◌, length}
use Rattle.kmod_index.specs.Sums.{sum_from, sum_of}
use Rattle.kmod_index.proofs.path_names.sum_of.Given as goal

abbrev pub invariant-loop-byte : goal.invariant-loop-byte
invariant-loop-byte l = sum_from l.sum l.rest ≡ sum_of l.name

abbrev pub decreases-loop-byte : goal.decreases-loop-byte
decreases-loop-byte l = length l.rest
