use Rattle.std.proofs.Common.{◌≡◌, length}
use Rattle.kmod_names.specs.Names.{base_from, base_of}
use Rattle.kmod_names.proofs.names.base_of.Given as goal

abbrev pub invariant-loop-byte : goal.invariant-loop-byte
invariant-loop-byte l = base_from l.base l.rest ≡ base_of l.path

abbrev pub decreases-loop-byte : goal.decreases-loop-byte
decreases-loop-byte l = length l.rest
